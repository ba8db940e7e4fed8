use Rattle.plain_rules.proofs.receiver.running.run_of.Goals as goal

pub loop-step-init : goal.loop-step-init
loop-step-init c = (c.nothing_yet-run.ensures.small, c.nothing_yet-run.ensures.shows c.args.limits.now)
