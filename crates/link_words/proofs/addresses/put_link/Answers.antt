use Rattle.std.proofs.Common.{◌∙◌, ap, sym}
use Rattle.link_words.specs.Urls.{shown_form}
use Rattle.link_words.proofs.LinkLemmas.{unwritten_is}
use Rattle.link_words.proofs.addresses.put_link.Goals as goal

pub returns-in-Err-clause-refused : goal.returns-in-Err-clause-refused
returns-in-Err-clause-refused g c = λ t tells fault is.
    unwritten_is t c.args.word.now _ _ _ _ fault (sym c.read_link.ensures ∙ ap shown_form c.in-Written.is) (c.in-Err.ensures.refused t tells fault is)
