use Rattle.std.proofs.Common.{◌∙◌}
use Rattle.clap.specs.Words.{found_of}
use Rattle.rist_words.proofs.ParseLemmas.{first_of_found}
use Rattle.rist_words.proofs.values.given.Goals as goal

pub returns : goal.returns
returns c = c.get_str.ensures ∙ first_of_found (found_of c.args.matches.now) c.args.id.now
