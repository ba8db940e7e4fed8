-- The piece was sent, or refused.
use Rattle.std.proofs.Common.{◌++◌, ℕ, List, rules, Some, Ok, Err, Result, inl, inr, refl, ap, ◌∙◌, subst}
use Rattle.std.proofs.lemmas.List.{with_items_is, places}
use Rattle.std.specs.Vec.{with_items}
use Rattle.outside_io.specs.declared.source.Failed.{Failed}
use Rattle.rist_gateway.specs.Onward.{OnwardState, Puts, shows, onward_of, passed_of}
use Rattle.rist_gateway.proofs.OnwardLemmas.{put_works, put_keeps, put_front, same_bad, none_bad}
use Rattle.rist_gateway.proofs.onward.OnwardSink.put.Goals as goal

pub invariant_of-self : goal.invariant_of-self
invariant_of-self g c =
    let o = c.self.inside in
    let w = c.send_parts in
    put_keeps (record { reads = g.L.Link.reads; taken = g.L.Link.taken; knows = g.L.Link.knows; ends = g.L.Link.ends; faults = g.L.Link.faults }) g.G.OnwardOrigin.first o.sender w.new.sender o.opener c.deref_mut.result.now o.links.items w.new.links _ (passed_of (g.C.Clock.moments o.clock) o.handed) (passed_of (g.C.Clock.moments w.new.clock) w.new.handed) o.puts c.saturating_add-self-inside.result o.faults o.faults o.put_bad o.put_bad o.aside_bad
    c.args.piece.now (Ok tt) c.deref_mut.ensures.value (with_items_is o.links w.new.links (search (rules, places))) w.auto.links w.ensures.set (λ bad is. inr is) (λ none. (none, refl)) c.in-Ok.ensures.work c.self.invariant

pub invariant_of-self-in-Err : goal.invariant_of-self-in-Err
invariant_of-self-in-Err g c =
    let o = c.self.inside in
    let w = c.send_parts in
    put_keeps (record { reads = g.L.Link.reads; taken = g.L.Link.taken; knows = g.L.Link.knows; ends = g.L.Link.ends; faults = g.L.Link.faults }) g.G.OnwardOrigin.first o.sender w.new.sender o.opener c.deref_mut.result.now o.links.items w.new.links _ (passed_of (g.C.Clock.moments o.clock) o.handed) (passed_of (g.C.Clock.moments w.new.clock) w.new.handed) o.puts c.saturating_add-self-inside.result o.faults c.saturating_add-self-inside-in-Err.result o.put_bad (Some c.in-Err.bad) o.aside_bad
    c.args.piece.now (Err c.in-Err.bad) c.deref_mut.ensures.value (with_items_is o.links w.new.links (search (rules, places))) w.auto.links w.ensures.set (λ bad is. inl (same_bad c.in-Err.bad bad is)) (λ none. absurd (none_bad c.in-Err.bad none)) c.in-Err.ensures.work c.self.invariant

pub returns-in-Ok-clause-work : goal.returns-in-Ok-clause-work
returns-in-Ok-clause-work g c =
    let o = c.self.inside in
    let w = c.send_parts in
    let m = g.C.Clock.moments in
    let back = (with_items o.links w.new.links).items in
    let result : Result Unit Failed = Ok tt in
    let new : OnwardState = onward_of (record { reads = g.L.Link.reads; taken = g.L.Link.taken; knows = g.L.Link.knows; ends = g.L.Link.ends; faults = g.L.Link.faults }) w.new.sender o.opener back (passed_of (m w.new.clock) w.new.handed) c.saturating_add-self-inside.result o.faults o.put_bad o.aside_bad in
    subst (λ v. Puts (shows (record { reads = g.L.Link.reads; taken = g.L.Link.taken; knows = g.L.Link.knows; ends = g.L.Link.ends; faults = g.L.Link.faults }) m v) new c.args.piece.now result) c.self.view_is
    (put_works (record { reads = g.L.Link.reads; taken = g.L.Link.taken; knows = g.L.Link.knows; ends = g.L.Link.ends; faults = g.L.Link.faults }) o.sender w.new.sender o.opener c.deref_mut.result.now o.links.items w.new.links back (passed_of (m o.clock) o.handed) (passed_of (m w.new.clock) w.new.handed) o.puts c.saturating_add-self-inside.result o.faults o.faults o.put_bad o.put_bad o.aside_bad
    c.args.piece.now (Ok tt) result c.deref_mut.ensures.value (with_items_is o.links w.new.links (search (rules, places))) w.auto.links (refl, refl) c.in-Ok.ensures.work)

pub returns-in-Err-clause-work : goal.returns-in-Err-clause-work
returns-in-Err-clause-work g c =
    let o = c.self.inside in
    let w = c.send_parts in
    let m = g.C.Clock.moments in
    let back = (with_items o.links w.new.links).items in
    let result : Result Unit Failed = Err (record {}) in
    let new : OnwardState = onward_of (record { reads = g.L.Link.reads; taken = g.L.Link.taken; knows = g.L.Link.knows; ends = g.L.Link.ends; faults = g.L.Link.faults }) w.new.sender o.opener back (passed_of (m w.new.clock) w.new.handed) c.saturating_add-self-inside.result c.saturating_add-self-inside-in-Err.result (Some c.in-Err.bad) o.aside_bad in
    subst (λ v. Puts (shows (record { reads = g.L.Link.reads; taken = g.L.Link.taken; knows = g.L.Link.knows; ends = g.L.Link.ends; faults = g.L.Link.faults }) m v) new c.args.piece.now result) c.self.view_is
    (put_works (record { reads = g.L.Link.reads; taken = g.L.Link.taken; knows = g.L.Link.knows; ends = g.L.Link.ends; faults = g.L.Link.faults }) o.sender w.new.sender o.opener c.deref_mut.result.now o.links.items w.new.links back (passed_of (m o.clock) o.handed) (passed_of (m w.new.clock) w.new.handed) o.puts c.saturating_add-self-inside.result o.faults c.saturating_add-self-inside-in-Err.result o.put_bad (Some c.in-Err.bad) o.aside_bad
    c.args.piece.now (Err c.in-Err.bad) result c.deref_mut.ensures.value (with_items_is o.links w.new.links (search (rules, places))) w.auto.links refl c.in-Err.ensures.work)

pub returns-in-Ok-clause-ok : goal.returns-in-Ok-clause-ok
returns-in-Ok-clause-ok g c =
    let o = c.self.inside in
    let w = c.send_parts in
    let m = g.C.Clock.moments in
    let f = put_front (record { reads = g.L.Link.reads; taken = g.L.Link.taken; knows = g.L.Link.knows; ends = g.L.Link.ends; faults = g.L.Link.faults }) g.G.OnwardOrigin.first o.sender w.new.sender o.opener c.deref_mut.result.now o.links.items w.new.links (passed_of (m o.clock) o.handed) (passed_of (m w.new.clock) w.new.handed) o.puts o.faults o.put_bad o.aside_bad
    c.args.piece.now (Ok tt) c.deref_mut.ensures.value w.auto.links c.in-Ok.ensures.work c.self.invariant in
    ap Some (f.gained ∙ (ap (λ (l : List ℕ). o.handed ++ l) (f.whole refl) ∙ ap (λ v. v.handed ++ c.args.piece.now) c.self.view_is))

pub returns-in-Err-clause-err : goal.returns-in-Err-clause-err
returns-in-Err-clause-err g c =
    let o = c.self.inside in
    let w = c.send_parts in
    let m = g.C.Clock.moments in
    let f = put_front (record { reads = g.L.Link.reads; taken = g.L.Link.taken; knows = g.L.Link.knows; ends = g.L.Link.ends; faults = g.L.Link.faults }) g.G.OnwardOrigin.first o.sender w.new.sender o.opener c.deref_mut.result.now o.links.items w.new.links (passed_of (m o.clock) o.handed) (passed_of (m w.new.clock) w.new.handed) o.puts o.faults o.put_bad o.aside_bad
    c.args.piece.now (Err c.in-Err.bad) c.deref_mut.ensures.value w.auto.links c.in-Err.ensures.work c.self.invariant in
    (f.front, f.prefix, ap Some (f.gained ∙ ap (λ v. v.handed ++ f.front) c.self.view_is))
