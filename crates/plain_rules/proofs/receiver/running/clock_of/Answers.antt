-- No more originals came than packets were kept.
use Rattle.std.proofs.Common.{◌<◌, ◌^◌, length, arith, rules}
use Rattle.receiver_rules.specs.Seen.{start_of}
use Rattle.receiver_rules.proofs.ClockLemmas.{near_base}
use Rattle.plain_rules.proofs.receiver.running.clock_of.Goals as goal

pub returns-clause-within : goal.returns-clause-within
returns-clause-within c = c.clock_in.ensures.within (length c.args.run.now.kept.items) c.requires.small.clock

pub returns-clause-base : goal.returns-clause-base
returns-clause-base c =
    let few : length c.args.run.now.kept.items < 2 ^ 63 = search rules in
    let within = c.clock_in.ensures.within (length c.args.run.now.kept.items) c.requires.small.clock in
    near_base (start_of c.args.run.now.anchor c.args.run.now.time) c.clock_in.result within.near (omega (arith, few, within.few))
