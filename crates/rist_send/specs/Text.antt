-- What is printed for each answer but the good one.
use Rattle.std.specs.Prelude.{ℕ, List, codes}
use Rattle.rist_send.specs.declared.fault.SendFault.{SendFault}
use Rattle.rist_send.specs.declared.fault.SendFault.TheVariants.{ReadFault, LinksDown, Spent, TooLong, TurnsSpent}

-- the text of an answer
abbrev pub text_of : SendFault → List ℕ
text_of ReadFault = codes "read failed"
text_of LinksDown = codes "all links down"
text_of Spent = codes "keys spent"
text_of TooLong = codes "input too long"
text_of TurnsSpent = codes "turns spent"
