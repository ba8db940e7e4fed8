-- What is printed for a failure.
use Rattle.std.specs.Prelude.{ℕ, List, ◌++◌, codes, decimal}
use Rattle.capture_file.specs.declared.reader.CapKind.{CapKind}
use Rattle.capture_file.specs.declared.reader.CapKind.TheVariants.{Magic, Truncated, Link, Channel, Long, TooLong}
use Rattle.capture_file.specs.declared.reader.CapBad.{CapBad}
use Rattle.capture_file.specs.declared.reader.CapBad.TheVariants.{Bad, ReadFault}

-- the test that fails
abbrev pub kind_text : CapKind → List ℕ
kind_text Magic = codes "magic"
kind_text Truncated = codes "truncated"
kind_text Link = codes "link"
kind_text Channel = codes "channel"
kind_text Long = codes "long"
kind_text TooLong = codes "too long"

-- the test and the offset, in decimal digits
abbrev pub bad_text : CapBad → List ℕ
bad_text (Bad kind at) = kind_text kind ++ (codes " at " ++ decimal at)
bad_text ReadFault = codes "read failed"
