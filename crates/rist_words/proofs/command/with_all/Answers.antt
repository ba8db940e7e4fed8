use Rattle.std.proofs.Common.{◌∙◌, [], sym, ap₂}
use Rattle.clap.specs.Words.{with_rule}
use Rattle.rist_words.proofs.CommandLemmas.{with_one_more}
use Rattle.rist_words.proofs.command.with_all.Goals as goal

pub loop-name-preserved : goal.loop-name-preserved
loop-name-preserved c =
    let more = with_one_more c.args.kind _ c.args.names.now c.loop-name.name-index (record { ref_ptr = (0, 0); now = [] }) c.loop-name-test.true in
    (c.in_ok-command.ensures.app ∙ ap₂ with_rule c.loop-name.invariant.0 c.argument.ensures.rule ∙ sym more, λ h. c.in_ok-command.ensures.local (c.loop-name.invariant.1 h))
