-- What the words are is done as their line says, and nothing else is.
use Rattle.std.proofs.Common.{◌∙◌, subst, sym}
use Rattle.rist_words.proofs.RangeLemmas.{line_range}
use Rattle.rist_words.specs.CommandLine.{Fan, Gate, Recv}
use Rattle.rist_help.proofs.AskLemmas.{asks_none}
use Rattle.run_files.specs.Works.{IsOverFiles}
use Rattle.rist_top.proofs.AskLemmas.{line_asks_nothing}
use Rattle.rist_top.proofs.LineLemmas.{fan_is_none, gate_is_none, is_line, no_both, no_fan, no_fan_gate, no_fan_received, no_files}
use Rattle.rist_top.proofs.LineLemmas.{no_gate, no_receiving, no_sending}
use Rattle.rist_top.proofs.LineLemmas.{receiving_is_none, same_fan, same_gate, same_line, same_receiving, no_drill, no_split}
use Rattle.run_files.proofs.DoesFilesLemmas.{files_nothing, files_same}
use Rattle.run_fan.proofs.DoesFanLemmas.{fan_same, fans_nothing}
use Rattle.run_gate.proofs.DoesGateLemmas.{gate_same, gates_nothing}
use Rattle.run_receive.proofs.DoesReceiveLemmas.{receive_same, receives_nothing}
use Rattle.run_send.proofs.DoesSendLemmas.{sends_nothing}
use Rattle.run_split.proofs.DoesSplitLemmas.{splits_nothing}
use Rattle.run_print.proofs.PrintLemmas.{prints_nothing}
use Rattle.rist_top.proofs.top.run.Goals as goal

pub receive_line-requires-clause-range : goal.receive_line-requires-clause-range
receive_line-requires-clause-range g c = λ κs within. line_range _ (Recv _) (c.read_line.ensures.receive _ c.in-Receive.is)

pub fan_line-requires-clause-range : goal.fan_line-requires-clause-range
fan_line-requires-clause-range g c = λ κs within. line_range _ (Fan _) (c.read_line.ensures.fan _ c.in-Fan.is)

pub gate_line-requires-clause-range : goal.gate_line-requires-clause-range
gate_line-requires-clause-range g c = λ κs within. line_range _ (Gate _) (c.read_line.ensures.gate _ c.in-Gate.is)

pub run_line-requires-clause-range : goal.run_line-requires-clause-range
run_line-requires-clause-range g c = λ κs within. line_range _ _ (c.read_line.ensures.line _ c.in-Plain.is)

pub run_line-requires-clause-plain : goal.run_line-requires-clause-plain
run_line-requires-clause-plain g c = λ κs within. c.read_line.ensures.plain _ c.in-Plain.is

-- ---- a receiving

pub returns-in-Receive-clause-receives : goal.returns-in-Receive-clause-receives
returns-in-Receive-clause-receives g c k is =
    receive_same _ _ _ _ k _ _ _ _ _ (same_receiving _ _ k (c.read_line.ensures.receive _ c.in-Receive.is) is) c.receive_line.ensures.does

pub returns-in-Receive-clause-gates : goal.returns-in-Receive-clause-gates
returns-in-Receive-clause-gates g c k is =
    absurd (no_both _ _ k (c.read_line.ensures.receive _ c.in-Receive.is) is)

pub returns-in-Receive-clause-fans : goal.returns-in-Receive-clause-fans
returns-in-Receive-clause-fans g c k is =
    absurd (no_fan_received _ _ k (c.read_line.ensures.receive _ c.in-Receive.is) is)

pub returns-in-Receive-clause-files : goal.returns-in-Receive-clause-files
returns-in-Receive-clause-files g c k is files =
    absurd (no_files _ k (receiving_is_none _ _ (c.read_line.ensures.receive _ c.in-Receive.is)) is files)

pub returns-in-Receive-clause-sends : goal.returns-in-Receive-clause-sends
returns-in-Receive-clause-sends g c k is =
    absurd (no_sending _ k (receiving_is_none _ _ (c.read_line.ensures.receive _ c.in-Receive.is)) is)

pub returns-in-Receive-clause-splits : goal.returns-in-Receive-clause-splits
returns-in-Receive-clause-splits g c k is =
    absurd (no_split _ k (receiving_is_none _ _ (c.read_line.ensures.receive _ c.in-Receive.is)) is)

pub returns-in-Receive-clause-drills : goal.returns-in-Receive-clause-drills
returns-in-Receive-clause-drills g c k is =
    absurd (no_drill _ k (receiving_is_none _ _ (c.read_line.ensures.receive _ c.in-Receive.is)) is)

pub returns-in-Receive-clause-asks : goal.returns-in-Receive-clause-asks
returns-in-Receive-clause-asks g c ask is =
    absurd (is_line _ _ (c.read_line.ensures.receive _ c.in-Receive.is) (asks_none _ ask is))

pub returns-in-Receive-clause-refused : goal.returns-in-Receive-clause-refused
returns-in-Receive-clause-refused g c none =
    absurd (is_line _ _ (c.read_line.ensures.receive _ c.in-Receive.is) none)

pub returns-in-Receive-clause-same : goal.returns-in-Receive-clause-same
returns-in-Receive-clause-same g c tells none =
    absurd (is_line _ _ (c.read_line.ensures.receive _ c.in-Receive.is) none)

-- ---- a receiving of several flows

pub returns-in-Fan-clause-gates : goal.returns-in-Fan-clause-gates
returns-in-Fan-clause-gates g c k is =
    absurd (no_fan_gate _ _ k (c.read_line.ensures.fan _ c.in-Fan.is) is)

pub returns-in-Fan-clause-receives : goal.returns-in-Fan-clause-receives
returns-in-Fan-clause-receives g c k is =
    absurd (no_fan_received _ k _ is (c.read_line.ensures.fan _ c.in-Fan.is))

pub returns-in-Fan-clause-fans : goal.returns-in-Fan-clause-fans
returns-in-Fan-clause-fans g c k is =
    fan_same _ _ _ _ k _ _ _ _ _ (same_fan _ _ k (c.read_line.ensures.fan _ c.in-Fan.is) is) c.fan_line.ensures.does

pub returns-in-Fan-clause-files : goal.returns-in-Fan-clause-files
returns-in-Fan-clause-files g c k is files =
    absurd (no_files _ k (fan_is_none _ _ (c.read_line.ensures.fan _ c.in-Fan.is)) is files)

pub returns-in-Fan-clause-sends : goal.returns-in-Fan-clause-sends
returns-in-Fan-clause-sends g c k is =
    absurd (no_sending _ k (fan_is_none _ _ (c.read_line.ensures.fan _ c.in-Fan.is)) is)

pub returns-in-Fan-clause-splits : goal.returns-in-Fan-clause-splits
returns-in-Fan-clause-splits g c k is =
    absurd (no_split _ k (fan_is_none _ _ (c.read_line.ensures.fan _ c.in-Fan.is)) is)

pub returns-in-Fan-clause-drills : goal.returns-in-Fan-clause-drills
returns-in-Fan-clause-drills g c k is =
    absurd (no_drill _ k (fan_is_none _ _ (c.read_line.ensures.fan _ c.in-Fan.is)) is)

pub returns-in-Fan-clause-asks : goal.returns-in-Fan-clause-asks
returns-in-Fan-clause-asks g c ask is =
    absurd (is_line _ _ (c.read_line.ensures.fan _ c.in-Fan.is) (asks_none _ ask is))

pub returns-in-Fan-clause-refused : goal.returns-in-Fan-clause-refused
returns-in-Fan-clause-refused g c none =
    absurd (is_line _ _ (c.read_line.ensures.fan _ c.in-Fan.is) none)

pub returns-in-Fan-clause-same : goal.returns-in-Fan-clause-same
returns-in-Fan-clause-same g c tells none =
    absurd (is_line _ _ (c.read_line.ensures.fan _ c.in-Fan.is) none)

-- ---- a gateway

pub returns-in-Gate-clause-gates : goal.returns-in-Gate-clause-gates
returns-in-Gate-clause-gates g c k is =
    gate_same _ _ _ _ k _ _ _ _ _ (same_gate _ _ k (c.read_line.ensures.gate _ c.in-Gate.is) is) c.gate_line.ensures.does

pub returns-in-Gate-clause-receives : goal.returns-in-Gate-clause-receives
returns-in-Gate-clause-receives g c k is =
    absurd (no_both _ k _ is (c.read_line.ensures.gate _ c.in-Gate.is))

pub returns-in-Gate-clause-fans : goal.returns-in-Gate-clause-fans
returns-in-Gate-clause-fans g c k is =
    absurd (no_fan_gate _ k _ is (c.read_line.ensures.gate _ c.in-Gate.is))

pub returns-in-Gate-clause-files : goal.returns-in-Gate-clause-files
returns-in-Gate-clause-files g c k is files =
    absurd (no_files _ k (gate_is_none _ _ (c.read_line.ensures.gate _ c.in-Gate.is)) is files)

pub returns-in-Gate-clause-sends : goal.returns-in-Gate-clause-sends
returns-in-Gate-clause-sends g c k is =
    absurd (no_sending _ k (gate_is_none _ _ (c.read_line.ensures.gate _ c.in-Gate.is)) is)

pub returns-in-Gate-clause-splits : goal.returns-in-Gate-clause-splits
returns-in-Gate-clause-splits g c k is =
    absurd (no_split _ k (gate_is_none _ _ (c.read_line.ensures.gate _ c.in-Gate.is)) is)

pub returns-in-Gate-clause-drills : goal.returns-in-Gate-clause-drills
returns-in-Gate-clause-drills g c k is =
    absurd (no_drill _ k (gate_is_none _ _ (c.read_line.ensures.gate _ c.in-Gate.is)) is)

pub returns-in-Gate-clause-asks : goal.returns-in-Gate-clause-asks
returns-in-Gate-clause-asks g c ask is =
    absurd (is_line _ _ (c.read_line.ensures.gate _ c.in-Gate.is) (asks_none _ ask is))

pub returns-in-Gate-clause-refused : goal.returns-in-Gate-clause-refused
returns-in-Gate-clause-refused g c none =
    absurd (is_line _ _ (c.read_line.ensures.gate _ c.in-Gate.is) none)

pub returns-in-Gate-clause-same : goal.returns-in-Gate-clause-same
returns-in-Gate-clause-same g c tells none =
    absurd (is_line _ _ (c.read_line.ensures.gate _ c.in-Gate.is) none)

-- ---- a command that waits for nobody

pub returns-in-Plain-clause-files : goal.returns-in-Plain-clause-files
returns-in-Plain-clause-files g c k is files =
    let same = same_line _ k (sym (c.read_line.ensures.line _ c.in-Plain.is) ∙ is) in
    files_same _ _ _ k _ _ _ _ _ same (c.run_line.ensures.files (subst IsOverFiles (sym same) files))

pub returns-in-Plain-clause-sends : goal.returns-in-Plain-clause-sends
returns-in-Plain-clause-sends g c k is =
    c.run_line.ensures.sends k (same_line _ _ (sym (c.read_line.ensures.line _ c.in-Plain.is) ∙ is))

pub returns-in-Plain-clause-splits : goal.returns-in-Plain-clause-splits
returns-in-Plain-clause-splits g c k is =
    c.run_line.ensures.splits k (same_line _ _ (sym (c.read_line.ensures.line _ c.in-Plain.is) ∙ is))

pub returns-in-Plain-clause-drills : goal.returns-in-Plain-clause-drills
returns-in-Plain-clause-drills g c k is =
    c.run_line.ensures.drills k (same_line _ _ (sym (c.read_line.ensures.line _ c.in-Plain.is) ∙ is))

pub returns-in-Plain-clause-receives : goal.returns-in-Plain-clause-receives
returns-in-Plain-clause-receives g c k is =
    absurd (no_receiving _ _ k (c.read_line.ensures.line _ c.in-Plain.is) (c.read_line.ensures.plain _ c.in-Plain.is) is)

pub returns-in-Plain-clause-fans : goal.returns-in-Plain-clause-fans
returns-in-Plain-clause-fans g c k is =
    absurd (no_fan _ _ k (c.read_line.ensures.line _ c.in-Plain.is) (c.read_line.ensures.plain _ c.in-Plain.is) is)

pub returns-in-Plain-clause-gates : goal.returns-in-Plain-clause-gates
returns-in-Plain-clause-gates g c k is =
    absurd (no_gate _ _ k (c.read_line.ensures.line _ c.in-Plain.is) (c.read_line.ensures.plain _ c.in-Plain.is) is)

pub returns-in-Plain-clause-asks : goal.returns-in-Plain-clause-asks
returns-in-Plain-clause-asks g c ask is =
    absurd (line_asks_nothing _ _ (c.read_line.ensures.line _ c.in-Plain.is) (asks_none _ ask is))

pub returns-in-Plain-clause-refused : goal.returns-in-Plain-clause-refused
returns-in-Plain-clause-refused g c none =
    absurd (is_line _ _ (c.read_line.ensures.line _ c.in-Plain.is) none)

pub returns-in-Plain-clause-same : goal.returns-in-Plain-clause-same
returns-in-Plain-clause-same g c tells none =
    absurd (is_line _ _ (c.read_line.ensures.line _ c.in-Plain.is) none)

-- ---- no line

pub returns-in-NoLine-clause-usage : goal.returns-in-NoLine-clause-usage
returns-in-NoLine-clause-usage g c used =
    c.read_line.ensures.none c.in-NoLine.is

pub returns-in-NoLine-clause-files : goal.returns-in-NoLine-clause-files
returns-in-NoLine-clause-files g c k is files =
    absurd (is_line _ _ is (c.read_line.ensures.none c.in-NoLine.is))

pub returns-in-NoLine-clause-sends : goal.returns-in-NoLine-clause-sends
returns-in-NoLine-clause-sends g c k is =
    absurd (is_line _ _ is (c.read_line.ensures.none c.in-NoLine.is))

pub returns-in-NoLine-clause-receives : goal.returns-in-NoLine-clause-receives
returns-in-NoLine-clause-receives g c k is =
    absurd (is_line _ _ is (c.read_line.ensures.none c.in-NoLine.is))

pub returns-in-NoLine-clause-fans : goal.returns-in-NoLine-clause-fans
returns-in-NoLine-clause-fans g c k is =
    absurd (is_line _ _ is (c.read_line.ensures.none c.in-NoLine.is))

pub returns-in-NoLine-clause-gates : goal.returns-in-NoLine-clause-gates
returns-in-NoLine-clause-gates g c k is =
    absurd (is_line _ _ is (c.read_line.ensures.none c.in-NoLine.is))

pub returns-in-NoLine-clause-splits : goal.returns-in-NoLine-clause-splits
returns-in-NoLine-clause-splits g c k is =
    absurd (is_line _ _ is (c.read_line.ensures.none c.in-NoLine.is))

pub returns-in-NoLine-clause-drills : goal.returns-in-NoLine-clause-drills
returns-in-NoLine-clause-drills g c k is =
    absurd (is_line _ _ is (c.read_line.ensures.none c.in-NoLine.is))

-- ---- memory is refused

pub returns-in-Memory-clause-files : goal.returns-in-Memory-clause-files
returns-in-Memory-clause-files g c k is files =
    files_nothing _ _ _ _ _

pub returns-in-Memory-clause-sends : goal.returns-in-Memory-clause-sends
returns-in-Memory-clause-sends g c k is =
    sends_nothing _ _ _ _ _ _

pub returns-in-Memory-clause-receives : goal.returns-in-Memory-clause-receives
returns-in-Memory-clause-receives g c k is =
    receives_nothing _ _ _ _ _ _

pub returns-in-Memory-clause-fans : goal.returns-in-Memory-clause-fans
returns-in-Memory-clause-fans g c k is =
    fans_nothing _ _ _ _ _ _

pub returns-in-Memory-clause-gates : goal.returns-in-Memory-clause-gates
returns-in-Memory-clause-gates g c k is =
    gates_nothing _ _ _ _ _ _

pub returns-in-Memory-clause-splits : goal.returns-in-Memory-clause-splits
returns-in-Memory-clause-splits g c k is =
    splits_nothing _ _ _ _ _

pub returns-in-Memory-clause-drills : goal.returns-in-Memory-clause-drills
returns-in-Memory-clause-drills g c k is =
    prints_nothing _ _ _ _ _

pub returns-in-Memory-clause-asks : goal.returns-in-Memory-clause-asks
returns-in-Memory-clause-asks g c ask is =
    prints_nothing _ _ _ _ _
