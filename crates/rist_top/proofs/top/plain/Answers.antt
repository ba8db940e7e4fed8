-- The values of a line lie in their ranges, and what its run leaves is what its words say.
use Rattle.std.proofs.Common.{◌∙◌, rules, subst, sym}
use Rattle.rist_words.proofs.RangeLemmas.{line_range}
use Rattle.rist_help.proofs.AskLemmas.{asks_none}
use Rattle.run_files.specs.Works.{IsOverFiles}
use Rattle.rist_top.proofs.AskLemmas.{line_asks_nothing}
use Rattle.rist_top.proofs.LineLemmas.{no_files, no_sending, same_line, no_drill, no_split}
use Rattle.run_files.proofs.DoesFilesLemmas.{files_nothing, files_same}
use Rattle.run_send.proofs.DoesSendLemmas.{sends_nothing}
use Rattle.run_split.proofs.DoesSplitLemmas.{splits_nothing}
use Rattle.run_print.proofs.PrintLemmas.{prints_nothing}
use Rattle.rist_top.proofs.top.plain.Goals as goal

pub run_line-requires-clause-range : goal.run_line-requires-clause-range
run_line-requires-clause-range g c = λ κs within. line_range _ _ c.in-Ok.ensures.ok

pub returns-in-Ok-clause-files : goal.returns-in-Ok-clause-files
returns-in-Ok-clause-files g c k is files =
    let same = same_line _ k (sym c.in-Ok.ensures.ok ∙ is) in
    files_same _ _ _ k _ _ _ _ _ same (c.run_line.ensures.files (subst IsOverFiles (sym same) files))

pub returns-in-Err-Usage-clause-files : goal.returns-in-Err-Usage-clause-files
returns-in-Err-Usage-clause-files g c k is files = absurd (no_files _ k (c.in-Err-Usage.ensures.usage (search rules)) is files)

pub returns-in-Err-Memory-clause-files : goal.returns-in-Err-Memory-clause-files
returns-in-Err-Memory-clause-files g c k is files = files_nothing _ _ _ _ _

pub returns-in-Ok-clause-splits : goal.returns-in-Ok-clause-splits
returns-in-Ok-clause-splits g c k is = c.run_line.ensures.splits k (same_line _ _ (sym c.in-Ok.ensures.ok ∙ is))

pub returns-in-Err-Usage-clause-splits : goal.returns-in-Err-Usage-clause-splits
returns-in-Err-Usage-clause-splits g c k is = absurd (no_split _ k (c.in-Err-Usage.ensures.usage (search rules)) is)

pub returns-in-Err-Memory-clause-splits : goal.returns-in-Err-Memory-clause-splits
returns-in-Err-Memory-clause-splits g c k is = splits_nothing _ _ _ _ _

pub returns-in-Ok-clause-sends : goal.returns-in-Ok-clause-sends
returns-in-Ok-clause-sends g c k is = c.run_line.ensures.sends k (same_line _ _ (sym c.in-Ok.ensures.ok ∙ is))

pub returns-in-Err-Usage-clause-sends : goal.returns-in-Err-Usage-clause-sends
returns-in-Err-Usage-clause-sends g c k is = absurd (no_sending _ k (c.in-Err-Usage.ensures.usage (search rules)) is)

pub returns-in-Err-Memory-clause-sends : goal.returns-in-Err-Memory-clause-sends
returns-in-Err-Memory-clause-sends g c k is = sends_nothing _ _ _ _ _ _

pub returns-in-Ok-clause-drills : goal.returns-in-Ok-clause-drills
returns-in-Ok-clause-drills g c k is = c.run_line.ensures.drills k (same_line _ _ (sym c.in-Ok.ensures.ok ∙ is))

pub returns-in-Err-Usage-clause-drills : goal.returns-in-Err-Usage-clause-drills
returns-in-Err-Usage-clause-drills g c k is = absurd (no_drill _ k (c.in-Err-Usage.ensures.usage (search rules)) is)

pub returns-in-Err-Memory-clause-drills : goal.returns-in-Err-Memory-clause-drills
returns-in-Err-Memory-clause-drills g c k is = prints_nothing _ _ _ _ _

pub returns-in-Ok-clause-asks : goal.returns-in-Ok-clause-asks
returns-in-Ok-clause-asks g c ask is = absurd (line_asks_nothing _ _ c.in-Ok.ensures.ok (asks_none _ ask is))

pub returns-in-Err-Memory-clause-asks : goal.returns-in-Err-Memory-clause-asks
returns-in-Err-Memory-clause-asks g c ask is = prints_nothing _ _ _ _ _
