-- One look at the links.
use Rattle.std.proofs.Common.{rules, subst}
use Rattle.std.proofs.lemmas.List.{with_items_is, places}
use Rattle.std.specs.Vec.{with_items}
use Rattle.outside_net.specs.Links.{LinkTells}
use Rattle.rist_gateway.specs.Onward.{OnwardState, LooksOnce, shows, onward_of, passed_of}
use Rattle.rist_gateway.proofs.OnwardLemmas.{aside_looks, aside_keeps}
use Rattle.rist_gateway.proofs.onward.OnwardBeside.aside.Goals as goal

pub invariant_of-self : goal.invariant_of-self
invariant_of-self g c =
    let o = c.self.inside in
    let w = c.look-side in
    aside_keeps (record { reads = g.L.Link.reads; taken = g.L.Link.taken; knows = g.L.Link.knows; ends = g.L.Link.ends; faults = g.L.Link.faults }) g.G.OnwardOrigin.first o.sender w.new.sender o.opener w.new.opener c.deref_mut.result.now o.links.items w.new.links _ (passed_of (g.C.Clock.moments o.clock) o.handed) o.puts o.faults o.put_bad o.aside_bad c.bad_after-self-inside.result
    c.args.us c.args.link w.result c.deref_mut.ensures.value (with_items_is o.links w.new.links (search (rules, places))) w.auto.links w.ensures.opener w.ensures.set c.bad_after-self-inside.ensures.value w.ensures.work c.self.invariant

pub returns-clause-looks : goal.returns-clause-looks
returns-clause-looks g c =
    let o = c.self.inside in
    let w = c.look-side in
    let m = g.C.Clock.moments in
    let line : LinkTells g.row.L.Denot = record { reads = g.L.Link.reads; taken = g.L.Link.taken; knows = g.L.Link.knows; ends = g.L.Link.ends; faults = g.L.Link.faults } in
    let back = (with_items o.links w.new.links).items in
    let back_is = with_items_is o.links w.new.links (search (rules, places)) in
    let bad = c.bad_after-self-inside.result in
    let new : OnwardState = onward_of line w.new.sender w.new.opener back (passed_of (m o.clock) o.handed) o.puts o.faults o.put_bad bad in
    subst (λ v. LooksOnce g.G.OnwardOrigin.first (shows line m v) new c.args.us c.args.link w.result) c.self.view_is (record {
      was = c.self.invariant;
      is = aside_keeps line g.G.OnwardOrigin.first o.sender w.new.sender o.opener w.new.opener c.deref_mut.result.now o.links.items w.new.links back (passed_of (m o.clock) o.handed) o.puts o.faults o.put_bad o.aside_bad bad
          c.args.us c.args.link w.result c.deref_mut.ensures.value back_is w.auto.links w.ensures.opener w.ensures.set c.bad_after-self-inside.ensures.value w.ensures.work c.self.invariant;
      looks = aside_looks line o.sender w.new.sender o.opener w.new.opener c.deref_mut.result.now o.links.items w.new.links back (passed_of (m o.clock) o.handed) o.puts o.faults o.put_bad o.aside_bad bad
          c.args.us c.args.link w.result c.deref_mut.ensures.value back_is w.auto.links w.ensures.work;
    })
