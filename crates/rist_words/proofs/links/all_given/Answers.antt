use Rattle.std.proofs.Common.{◌∙◌}
use Rattle.clap.specs.Words.{found_of}
use Rattle.rist_words.proofs.ParseLemmas.{all_of_found}
use Rattle.rist_words.proofs.links.all_given.Goals as goal

pub returns : goal.returns
returns c = c.get_strs.ensures ∙ all_of_found (found_of c.args.matches.now) c.args.id.now
