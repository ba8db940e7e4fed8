-- What is printed for the test that fails.
use Rattle.std.specs.Prelude.{ℕ, List, codes}
use Rattle.keepalive_msg.specs.declared.keepalive.KeepBad.{KeepBad}
use Rattle.keepalive_msg.specs.declared.keepalive.KeepBad.TheVariants.{Short}

-- the text of the refusal
abbrev pub text_of : KeepBad → List ℕ
text_of Short = codes "keepalive short"
