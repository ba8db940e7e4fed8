-- What is printed for each fault.
use Rattle.std.specs.Prelude.{ℕ, List, codes}
use Rattle.pass_words.specs.declared.options.PassOption.TheVariants.{Own, Incoming}
use Rattle.pass_words.specs.declared.options.PassFault.{PassFault}
use Rattle.pass_words.specs.declared.options.PassFault.TheVariants.{Twice, NoName}
use Rattle.pass_words.specs.declared.line.LineFault.{LineFault}
use Rattle.pass_words.specs.declared.line.LineFault.TheVariants.{ReadFault, Empty, TooLong, NotText}

-- why words name no file
abbrev pub pass_fault_text : PassFault → List ℕ
pass_fault_text (Twice Own) = codes "--pass, --pass-file: one of them, once"
pass_fault_text (Twice Incoming) = codes "--in-pass, --in-pass-file: one of them, once"
pass_fault_text (NoName Own) = codes "--pass-file: the name of a file is missing"
pass_fault_text (NoName Incoming) = codes "--in-pass-file: the name of a file is missing"

-- why a first line has no passphrase
abbrev pub line_fault_text : LineFault → List ℕ
line_fault_text ReadFault = codes "a read failed"
line_fault_text Empty = codes "its first line has no passphrase"
line_fault_text TooLong = codes "its first line is above 128 octets"
line_fault_text NotText = codes "its first line isn't UTF-8"
