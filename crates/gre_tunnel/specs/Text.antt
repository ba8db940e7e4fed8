-- What is printed for each test that fails.
use Rattle.std.specs.Prelude.{ℕ, List, codes}
use Rattle.gre_tunnel.specs.declared.gre.GreBad.{GreBad}
use Rattle.gre_tunnel.specs.declared.gre.GreBad.TheVariants.{Short, Version, Checksum, Reserved, KeyedNoSequence}
use Rattle.gre_tunnel.specs.declared.gre.GreBad.TheVariants.{Protocol}

-- the text of each refusal
abbrev pub text_of : GreBad → List ℕ
text_of Short = codes "gre short"
text_of Version = codes "gre version"
text_of Checksum = codes "gre checksum"
text_of Reserved = codes "gre reserved"
text_of KeyedNoSequence = codes "gre key without sequence"
text_of Protocol = codes "gre protocol"
