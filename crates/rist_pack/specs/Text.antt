-- What is printed for each answer but the good one.
use Rattle.std.specs.Prelude.{ℕ, List, codes}
use Rattle.rist_pack.specs.declared.bad.PackBad.{PackBad}
use Rattle.rist_pack.specs.declared.bad.PackBad.TheVariants.{ReadFault, WriteFault, TooLong}

-- the text of each
abbrev pub text_of : PackBad → List ℕ
text_of ReadFault = codes "read failed"
text_of WriteFault = codes "write failed"
text_of TooLong = codes "input too long"
