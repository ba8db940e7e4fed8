-- The receiver is set to what the line says.
use Rattle.std.proofs.Common.{◌∙◌, ap}
use Rattle.rist_ends.specs.Settings.{limits_of}
use Rattle.rist_words.specs.Shown.{shown_replay}
use Rattle.run_files.proofs.WalkLemmas.{reported_as}
use Rattle.run_files.proofs.reporting.report_line.Goals as goal

pub returns-clause-work : goal.returns-clause-work
returns-clause-work g c ran =
    reported_as _ (shown_replay c.args.line.now) _ _ _ _ (c.in-Ok.ensures.session ∙ c.session_of-session.ensures.value) (c.in-Ok.ensures.limits ∙ ap limits_of c.muted-settings.ensures.value) c.report_source.ensures.work
