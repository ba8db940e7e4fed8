use Rattle.std.proofs.Common.{ap, sym, ◌∙◌, take}
use Rattle.rtcp_compound.specs.Seen.{seen}
use Rattle.rist_nack.specs.State.{asks_left}
use Rattle.rist_nack.specs.Seen.{request_seen}
use Rattle.rist_nack.proofs.AskLemmas.{left_more, more_left, upper_more, asks_step, step_none, step_unwanted, step_wanted}
use Rattle.rist_nack.proofs.requests.Requests.step.Goals as goal

pub invariant_of-self-in_default : goal.invariant_of-self-in_default
invariant_of-self-in_default c =
    let r = c.self.inside in
    let p = seen c.in_ok-packet.packet in (
      left_more r.count r.compound.now c.next.new.self p r.packets c.self.invariant.0 c.in_ok-packet.ensures.steps,
      more_left r.count r.compound.now c.next.new.self p r.packets c.self.invariant.0 c.in_ok-packet.ensures.steps,
      c.self.invariant.2,
      c.newer_of-self-inside.ensures ∙ upper_more r.media r.count r.compound.now c.next.new.self p r.packets c.upper_of.result r.upper c.self.invariant.0 c.in_ok-packet.ensures.steps c.upper_of.ensures c.self.invariant.3,
    )

pub returns-in_default-clause-asks : goal.returns-in_default-clause-asks
returns-in_default-clause-asks c =
    let r = c.self.inside in
    let p = seen c.in_ok-packet.packet in
    ap asks_left (sym c.self.view_is) ∙ asks_step r.wanted r.count r.compound.now c.next.new.self p r.packets c.self.invariant.0 c.in_ok-packet.ensures.steps ∙ step_none r.wanted (take r.count r.compound.now) p _ c.in_default.ensures

pub invariant_of-self-then-not-wants : goal.invariant_of-self-then-not-wants
invariant_of-self-then-not-wants c =
    let r = c.self.inside in
    let p = seen c.in_ok-packet.packet in (
      left_more r.count r.compound.now c.next.new.self p r.packets c.self.invariant.0 c.in_ok-packet.ensures.steps,
      more_left r.count r.compound.now c.next.new.self p r.packets c.self.invariant.0 c.in_ok-packet.ensures.steps,
      c.self.invariant.2,
      c.newer_of-self-inside.ensures ∙ upper_more r.media r.count r.compound.now c.next.new.self p r.packets c.upper_of.result r.upper c.self.invariant.0 c.in_ok-packet.ensures.steps c.upper_of.ensures c.self.invariant.3,
    )

pub returns-then-not-wants-clause-asks : goal.returns-then-not-wants-clause-asks
returns-then-not-wants-clause-asks c =
    let r = c.self.inside in
    let p = seen c.in_ok-packet.packet in
    ap asks_left (sym c.self.view_is) ∙ asks_step r.wanted r.count r.compound.now c.next.new.self p r.packets c.self.invariant.0 c.in_ok-packet.ensures.steps
    ∙ step_unwanted r.wanted (take r.count r.compound.now) p _ (request_seen c.in-Some.found) c.in-Some.ensures (sym c.if-not-wants.ensures)

pub invariant_of-self-2 : goal.invariant_of-self-2
invariant_of-self-2 c =
    let r = c.self.inside in
    let p = seen c.in_ok-packet.packet in (
      left_more r.count r.compound.now c.next.new.self p r.packets c.self.invariant.0 c.in_ok-packet.ensures.steps,
      more_left r.count r.compound.now c.next.new.self p r.packets c.self.invariant.0 c.in_ok-packet.ensures.steps,
      c.self.invariant.2,
      c.newer_of-self-inside-2.ensures ∙ upper_more c.in-Some.found.media r.count r.compound.now c.next.new.self p r.packets c.upper_of-2.result c.upper_for-upper.result c.self.invariant.0 c.in_ok-packet.ensures.steps c.upper_of-2.ensures c.upper_for-upper.ensures,
    )

pub returns-clause-asks : goal.returns-clause-asks
returns-clause-asks c =
    let r = c.self.inside in
    let p = seen c.in_ok-packet.packet in
    ap asks_left (sym c.self.view_is) ∙ asks_step r.wanted r.count r.compound.now c.next.new.self p r.packets c.self.invariant.0 c.in_ok-packet.ensures.steps
    ∙ step_wanted r.wanted (take r.count r.compound.now) p _ (request_seen c.in-Some.found) c.upper_for-upper.result _ c.in-Some.ensures (sym c.if-not-wants.ensures) c.upper_for-upper.ensures c.of.ensures
