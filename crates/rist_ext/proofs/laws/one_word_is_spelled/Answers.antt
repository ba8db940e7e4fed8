use Rattle.std.proofs.Common.{sym, ◌∙◌}
use Rattle.rist_ext.proofs.WordLemmas.{reading-spelled}
use Rattle.rist_ext.proofs.laws.one_word_is_spelled.Goals as goal

pub returns : goal.returns
returns c = λ v w octets first second. sym (reading-spelled v octets first).1 ∙ (reading-spelled w octets second).1
