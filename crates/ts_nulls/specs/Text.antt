-- What is printed for the test that fails.
use Rattle.std.specs.Prelude.{ℕ, List, codes}
use Rattle.ts_nulls.specs.declared.nulls.NullBad.{NullBad}
use Rattle.ts_nulls.specs.declared.nulls.NullBad.TheVariants.{Shape}

-- the text of a test
abbrev pub text_of : NullBad → List ℕ
text_of Shape = codes "nulls shape"
