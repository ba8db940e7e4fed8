use Rattle.std.proofs.Common.{List, sym, subst, arith, refl}
use Rattle.request_rules.specs.declared.word.AskWord.{AskWord}
use Rattle.nack_timer.proofs.PassLemmas.{Passing, passing_none, pass_end, step_above, step_more}
use Rattle.nack_timer.proofs.pass.look_at_all.Goals as goal

pub loop-place-init : goal.loop-place-init
loop-place-init c = (
  subst (λ (ws : List AskWord). Passing c.args.policy.now c.args.rtt c.args.t c.args.low c.args.buffer.now.held c.args.missing.now.items c.args.missing.now.items c.args.missing.now.items ws) (sym c.none-words.ensures.value)
      (passing_none c.args.policy.now c.args.rtt c.args.t c.args.low c.args.buffer.now.held c.args.missing.now.items c.requires.rising c.requires.small),
  c.requires.room,
  refl,
)

pub look-requires-clause-above : goal.look-requires-clause-above
look-requires-clause-above c = λ e rest is live.
    step_above c.args.policy.now c.args.rtt c.args.t c.args.low c.loop-place.place c.args.buffer.now.held c.args.missing.now.items c.loop-place.missing.items c.loop-place.words c.loop-place.invariant.0
    (omega (arith, c.loop-place-test.true, c.len-count.ensures.len)) e rest is live

pub loop-place-preserved : goal.loop-place-preserved
loop-place-preserved c =
    let more = step_more c.args.policy.now c.args.rtt c.args.t c.args.low c.loop-place.place c.loop-place.missing.capacity c.args.buffer.now.held c.args.missing.now.items c.loop-place.missing.items c.look.new.missing.items c.loop-place.words c.look.new.words
    c.loop-place.invariant.0 (omega (arith, c.loop-place-test.true, c.len-count.ensures.len)) c.requires.time c.loop-place.invariant.1 (record { entries = c.look.ensures.entries; words = c.look.ensures.words }) in
    (more.0, omega (arith, more.1, c.look.ensures.capacity), omega (arith, c.look.ensures.capacity, c.loop-place.invariant.2))

pub returns : goal.returns
returns c =
    let last = pass_end c.args.policy.now c.args.rtt c.args.t c.args.low c.loop-place.place c.args.buffer.now.held c.args.missing.now.items c.loop-place.missing.items c.loop-place.words c.loop-place.invariant.0
    (omega (arith, c.loop-place-test.false, c.len-count.ensures.len)) in
    record { words = last.0; entries = last.1; capacity = c.loop-place.invariant.2 }
