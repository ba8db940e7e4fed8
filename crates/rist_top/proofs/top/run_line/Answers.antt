-- A line that is a split, a sending, or a simulated run, is done as one.
use Rattle.std.proofs.Common.{◌∙◌, sym, ap}
use Rattle.rist_words.specs.Shown.{shown, shown_drill, shown_send, shown_split}
use Rattle.run_print.proofs.PrintLemmas.{drilled_same}
use Rattle.rist_top.proofs.LineLemmas.{same_drill, same_split, same_sending}
use Rattle.run_split.proofs.DoesSplitLemmas.{split_same}
use Rattle.run_send.proofs.DoesSendLemmas.{send_same}
use Rattle.rist_top.proofs.top.run_line.Goals as goal

pub returns-in-Split-clause-splits : goal.returns-in-Split-clause-splits
returns-in-Split-clause-splits g c k is =
    split_same _ _ (shown_split c.in-Split.line) k _ _ _ _ _ (same_split (shown_split c.in-Split.line) k (sym (ap shown c.in-Split.is) ∙ is)) c.split_line.ensures.does

pub returns-in-Send-clause-sends : goal.returns-in-Send-clause-sends
returns-in-Send-clause-sends g c k is =
    send_same _ _ _ (shown_send c.in-Send.line) k _ _ _ _ _ (same_sending (shown_send c.in-Send.line) k (sym (ap shown c.in-Send.is) ∙ is)) c.send_line.ensures.does

pub returns-in-Drill-clause-drills : goal.returns-in-Drill-clause-drills
returns-in-Drill-clause-drills g c k is =
    drilled_same _ _ (shown_drill c.in-Drill.line) k _ _ _ _ _ (same_drill (shown_drill c.in-Drill.line) k (sym (ap shown c.in-Drill.is) ∙ is)) c.drill_line.ensures.does
