use Rattle.std.proofs.Common.{◌∙◌, arith}
use Rattle.rtcp_compound.specs.Seen.{seen}
use Rattle.rist_nack.proofs.AskLemmas.{some_left, left_more, upper_more}
use Rattle.rist_nack.proofs.requests.upper_behind.Goals as goal

pub returns-in_default : goal.returns-in_default
returns-in_default c = absurd (some_left c.loop.counter c.args.compound.now c.loop.packets (omega (arith, c.requires, c.loop-test.true)) c.loop.invariant.left c.in_default.ensures.steps.0)

pub loop-preserved : goal.loop-preserved
loop-preserved c = record {
  left = left_more c.loop.counter c.args.compound.now c.next.new.self (seen c.in-Some.packet) c.loop.packets c.loop.invariant.left c.in-Some.ensures.steps;
  upper = c.newer_of-upper.ensures ∙ upper_more c.args.media c.loop.counter c.args.compound.now c.next.new.self (seen c.in-Some.packet) c.loop.packets c.upper_of.result c.loop.upper c.loop.invariant.left c.in-Some.ensures.steps c.upper_of.ensures c.loop.invariant.upper;
}
