-- What is printed for words that are no line.
use Rattle.std.specs.Prelude.{ℕ, List, codes}
use Rattle.rist_words.specs.declared.lines.Refused.{Refused}
use Rattle.rist_words.specs.declared.lines.Refused.TheVariants.{Memory, Usage}

-- the text of each
abbrev pub refusal_text : Refused → List ℕ
refusal_text Memory = codes "out of memory"
refusal_text Usage = codes "usage"
