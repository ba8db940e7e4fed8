-- The words of a command line are one line at most.
use Rattle.std.proofs.Common.{◌≡◌, ◌∙◌, Option, None, Some, ap, sym, subst}
use Rattle.rist_words.specs.CommandLine.{CommandLine, Replay, Show, Count, Report, Pack, Split, Send, Recv, Fan, Gate}
use Rattle.rist_words.specs.CommandLine.{Drill}
use Rattle.rist_words.specs.CommandLine.{SendCommand, RecvCommand, FanCommand, GateCommand, SplitCommand, DrillCommand}
use Rattle.run_files.specs.Works.{IsOverFiles}
use Rattle.rist_top.specs.Lines.{IsPlain, plain_line}

pub same_line : (x y : CommandLine) → Some x ≡ Some y → x ≡ y
same_line x y e = cc

-- what is a line is none of no line
pub is_line : (o : Option CommandLine) (c : CommandLine) → o ≡ Some c → o ≡ None → ⊥
is_line o c is none = absurd (cc (is, none))

-- a receiving, of one flow or several, and a gateway are no line of a command that waits for nobody
pub receiving_is_none : (o : Option CommandLine) (c : RecvCommand) → o ≡ Some (Recv c) → plain_line o ≡ None
receiving_is_none o c is = ap plain_line is

pub fan_is_none : (o : Option CommandLine) (c : FanCommand) → o ≡ Some (Fan c) → plain_line o ≡ None
fan_is_none o c is = ap plain_line is

pub gate_is_none : (o : Option CommandLine) (c : GateCommand) → o ≡ Some (Gate c) → plain_line o ≡ None
gate_is_none o c is = ap plain_line is

-- no line over files, and no sending, is among what is none
pub no_files : (o : Option CommandLine) (c : CommandLine) → plain_line o ≡ None → o ≡ Some c → IsOverFiles c → ⊥
no_files o (Replay c) none is files = absurd (cc (none, is))
no_files o (Show c) none is files = absurd (cc (none, is))
no_files o (Count c) none is files = absurd (cc (none, is))
no_files o (Report c) none is files = absurd (cc (none, is))
no_files o (Pack c) none is files = absurd (cc (none, is))
no_files o (Split c) none is files = files
no_files o (Send c) none is files = files
no_files o (Recv c) none is files = files
no_files o (Fan c) none is files = files
no_files o (Gate c) none is files = files
no_files o (Drill c) none is files = files

pub no_sending : (o : Option CommandLine) (c : SendCommand) → plain_line o ≡ None → o ≡ Some (Send c) → ⊥
no_sending o c none is = absurd (cc (none, is))

-- the line of a command that waits for nobody is no receiving, and no gateway
pub no_receiving : (o : Option CommandLine) (l : CommandLine) (c : RecvCommand) → o ≡ Some l → IsPlain l → o ≡ Some (Recv c) → ⊥
no_receiving o l c is plain e = subst IsPlain (same_line l (Recv c) (sym is ∙ e)) plain

pub no_fan : (o : Option CommandLine) (l : CommandLine) (c : FanCommand) → o ≡ Some l → IsPlain l → o ≡ Some (Fan c) → ⊥
no_fan o l c is plain e = subst IsPlain (same_line l (Fan c) (sym is ∙ e)) plain

pub no_gate : (o : Option CommandLine) (l : CommandLine) (c : GateCommand) → o ≡ Some l → IsPlain l → o ≡ Some (Gate c) → ⊥
no_gate o l c is plain e = subst IsPlain (same_line l (Gate c) (sym is ∙ e)) plain

-- a receiving is no gateway
pub no_both : (o : Option CommandLine) (c : RecvCommand) (d : GateCommand) → o ≡ Some (Recv c) → o ≡ Some (Gate d) → ⊥
no_both o c d e f = absurd (cc (e, f))

-- a receiving of several flows is neither
pub no_fan_received : (o : Option CommandLine) (c : RecvCommand) (d : FanCommand) → o ≡ Some (Recv c) → o ≡ Some (Fan d) → ⊥
no_fan_received o c d e f = absurd (cc (e, f))

pub no_fan_gate : (o : Option CommandLine) (c : FanCommand) (d : GateCommand) → o ≡ Some (Fan c) → o ≡ Some (Gate d) → ⊥
no_fan_gate o c d e f = absurd (cc (e, f))

pub same_sending : (x y : SendCommand) → Send x ≡ Send y → x ≡ y
same_sending x y e = cc

pub same_receiving : (o : Option CommandLine) (c d : RecvCommand) → o ≡ Some (Recv c) → o ≡ Some (Recv d) → c ≡ d
same_receiving o c d e f = cc (e, f)

pub same_fan : (o : Option CommandLine) (c d : FanCommand) → o ≡ Some (Fan c) → o ≡ Some (Fan d) → c ≡ d
same_fan o c d e f = cc (e, f)

pub same_gate : (o : Option CommandLine) (c d : GateCommand) → o ≡ Some (Gate c) → o ≡ Some (Gate d) → c ≡ d
same_gate o c d e f = cc (e, f)

-- words that are no line of a command that waits for nobody are no split
pub no_split : (o : Option CommandLine) (c : SplitCommand) → plain_line o ≡ None → o ≡ Some (Split c) → ⊥
no_split o c none is = absurd (cc (none, is))

pub same_split : (x y : SplitCommand) → Split x ≡ Split y → x ≡ y
same_split x y e = cc

-- words that are no line of a command that waits for nobody are no simulated run
pub no_drill : (o : Option CommandLine) (c : DrillCommand) → plain_line o ≡ None → o ≡ Some (Drill c) → ⊥
no_drill o c none is = absurd (cc (none, is))

pub same_drill : (x y : DrillCommand) → Drill x ≡ Drill y → x ≡ y
same_drill x y e = cc
