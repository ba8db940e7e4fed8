-- What is printed for each test that fails.
use Rattle.std.specs.Prelude.{ℕ, List, codes}
use Rattle.rist_ext.specs.declared.ext_word.ExtBad.{ExtBad}
use Rattle.rist_ext.specs.declared.ext_word.ExtBad.TheVariants.{Profile, Length, Size}

-- the text of a test
abbrev pub text_of : ExtBad → List ℕ
text_of Profile = codes "extension profile"
text_of Length = codes "extension length"
text_of Size = codes "extension size"
