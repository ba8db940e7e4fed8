use Rattle.std.proofs.Common.{ℕ, ap, ◌∙◌, arith}
use Rattle.rist_ext.specs.Reading.{reading_of}
use Rattle.rist_ext.proofs.WordLemmas.{found_from, reading-spelled}
use Rattle.rist_ext.proofs.ext_word.ExtWord.read.Goals as goal

pub returns-clause-only : goal.returns-clause-only
returns-clause-only c = λ word profile spells.
    c.value_of.ensures.value ∙ ap (λ (p : ℕ). reading_of p c.args.words.now) profile ∙ (reading-spelled word c.args.words.now spells).0

pub returns-clause-found : goal.returns-clause-found
returns-clause-found c =
    found_from c.args.profile c.args.words.now _ (λ i. omega (arith, c.type_inv.words i)) c.value_of.ensures.value
