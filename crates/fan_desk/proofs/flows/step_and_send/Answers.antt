-- By why the row ends the worker, if it does.
use Rattle.std.proofs.Common.{◌≡◌, ◌<◌, ◌++◌, inl, inr, ℕ, List, option_map, refl, ap, sym, ◌∙◌, subst}
use Rattle.rist_desk.specs.declared.ended.Ended.TheVariants as ends
use Rattle.rist_desk.specs.Sending.{written}
use Rattle.rist_desk.specs.Links.{SentPart}
use Rattle.turn_lock.specs.Turns.{entries}
use Rattle.turn_lock.specs.Passes.{entries_with, turns_seen}
use Rattle.rist_fan.specs.declared.flow.Came.{Came}
use Rattle.rist_fan.proofs.FanLemmas.{at_some}
use Rattle.fan_desk.specs.declared.told.FanTold.{FanTold}
use Rattle.fan_desk.specs.Made.{all_outs, row_end}
use Rattle.fan_desk.specs.Own.{rows_told}
use Rattle.fan_desk.specs.Rows.{row_added}
use Rattle.fan_desk.proofs.EndLemmas.{EndsAs, all_cut, cut_half, cut_sent, ends_as, ends_not, goes_sent, keyed, rows_more, rows_seen, same_error}
use Rattle.fan_desk.proofs.flows.step_and_send.Goals as goal

pub returns-in-Some-clause-err : goal.returns-in-Some-clause-err
returns-in-Some-clause-err g c =
    let own = c.args.own.now in
    let ask : FanTold = record { place = c.args.place; told = c.args.told.now } in
    let knows = g.L.Link.knows c.args.link.now in
    let came = c.step_in_turn.new.came.items in
    let s = c.step_in_turn.ensures.stepped in
    let before = entries (s.since ++ turns_seen own.pass) in
    let t = g.L.Link.taken c.args.link.now in
    let u = g.L.Link.taken c.send_row.new.link in
    let why = ends_as came c.in-Some.end (ap row_end (sym c.deref.ensures.value) ∙ (sym c.row_end-end.ensures.value ∙ c.in-Some.is)) in
    cut_sent g.N.FanOrigin.ports g.N.FanOrigin.given g.N.FanOrigin.places ask knows own.came.items came before s.answered.each c.step_in_turn.ensures.room c.requires.own.1 (rows_told own.pass) (rows_told c.step_in_turn.new.pass) (rows_more (row_added ask came tt) (entries_with own.pass) (entries_with c.step_in_turn.new.pass) s.own) (rows_seen (row_added ask came tt) s.since (turns_seen own.pass) (turns_seen c.step_in_turn.new.pass) _ refl s.seen) t u c.in-Some.end why
    (subst (λ (l : List Came). u ≡ option_map (λ x. x ++ written knows (all_outs l)) t) c.deref-2.ensures.value c.in-Ok.ensures.ok)

pub returns-in-Some-clause-spent : goal.returns-in-Some-clause-spent
returns-in-Some-clause-spent g c is =
    let own = c.args.own.now in
    let ask : FanTold = record { place = c.args.place; told = c.args.told.now } in
    let knows = g.L.Link.knows c.args.link.now in
    let came = c.step_in_turn.new.came.items in
    let s = c.step_in_turn.ensures.stepped in
    let before = entries (s.since ++ turns_seen own.pass) in
    let t = g.L.Link.taken c.args.link.now in
    let u = g.L.Link.taken c.send_row.new.link in
    let why = ends_as came c.in-Some.end (ap row_end (sym c.deref.ensures.value) ∙ (sym c.row_end-end.ensures.value ∙ c.in-Some.is)) in
    keyed g.N.FanOrigin.ports g.N.FanOrigin.given g.N.FanOrigin.places ask knows own.came.items came before s.answered.each c.step_in_turn.ensures.room c.requires.own.1 (rows_told own.pass) (rows_told c.step_in_turn.new.pass) (rows_more (row_added ask came tt) (entries_with own.pass) (entries_with c.step_in_turn.new.pass) s.own) (rows_seen (row_added ask came tt) s.since (turns_seen own.pass) (turns_seen c.step_in_turn.new.pass) _ refl s.seen) t u (subst (EndsAs came) (same_error c.in-Some.end ends.Spent is) why)

pub returns-in-Some-clause-stopped : goal.returns-in-Some-clause-stopped
returns-in-Some-clause-stopped g c is v low =
    let came = c.step_in_turn.new.came.items in
    let why = ends_as came c.in-Some.end (ap row_end (sym c.deref.ensures.value) ∙ (sym c.row_end-end.ensures.value ∙ c.in-Some.is)) in
    let at = at_some came v (subst (λ (n : ℕ). v < n) (sym c.step_in_turn.ensures.room) low) in
    c.step_in_turn.ensures.broken v at.0 at.1 (all_cut came c.in-Some.end why (inl (same_error c.in-Some.end ends.Stopped is)) v at.0 at.1)

pub returns-in-Some-clause-fault : goal.returns-in-Some-clause-fault
returns-in-Some-clause-fault g c is v low =
    let came = c.step_in_turn.new.came.items in
    let why = ends_as came c.in-Some.end (ap row_end (sym c.deref.ensures.value) ∙ (sym c.row_end-end.ensures.value ∙ c.in-Some.is)) in
    let at = at_some came v (subst (λ (n : ℕ). v < n) (sym c.step_in_turn.ensures.room) low) in
    c.step_in_turn.ensures.broken v at.0 at.1 (all_cut came c.in-Some.end why (inr (same_error c.in-Some.end ends.WriteFault is)) v at.0 at.1)

pub returns-in-None-clause-ok : goal.returns-in-None-clause-ok
returns-in-None-clause-ok g c =
    let own = c.args.own.now in
    let ask : FanTold = record { place = c.args.place; told = c.args.told.now } in
    let knows = g.L.Link.knows c.args.link.now in
    let came = c.step_in_turn.new.came.items in
    let s = c.step_in_turn.ensures.stepped in
    let before = entries (s.since ++ turns_seen own.pass) in
    let t = g.L.Link.taken c.args.link.now in
    let u = g.L.Link.taken c.send_row.new.link in
    goes_sent g.N.FanOrigin.ports g.N.FanOrigin.given g.N.FanOrigin.places ask knows own.came.items came before s.answered.each c.step_in_turn.ensures.room c.requires.own.1 (rows_told own.pass) (rows_told c.step_in_turn.new.pass) (rows_more (row_added ask came tt) (entries_with own.pass) (entries_with c.step_in_turn.new.pass) s.own) (rows_seen (row_added ask came tt) s.since (turns_seen own.pass) (turns_seen c.step_in_turn.new.pass) _ refl s.seen) t u
    (ends_not came (ap row_end (sym c.deref.ensures.value) ∙ (sym c.row_end-end.ensures.value ∙ c.in-None.is)))
    (subst (λ (l : List Came). u ≡ option_map (λ x. x ++ written knows (all_outs l)) t) c.deref-2.ensures.value c.in-Ok.ensures.ok)

pub returns-in-Err-clause-err : goal.returns-in-Err-clause-err
returns-in-Err-clause-err g c =
    let own = c.args.own.now in
    let ask : FanTold = record { place = c.args.place; told = c.args.told.now } in
    let knows = g.L.Link.knows c.args.link.now in
    let came = c.step_in_turn.new.came.items in
    let s = c.step_in_turn.ensures.stepped in
    let before = entries (s.since ++ turns_seen own.pass) in
    let t = g.L.Link.taken c.args.link.now in
    let u = g.L.Link.taken c.send_row.new.link in
    cut_half g.N.FanOrigin.ports g.N.FanOrigin.given g.N.FanOrigin.places ask knows own.came.items came before s.answered.each c.step_in_turn.ensures.room c.requires.own.1 (rows_told own.pass) (rows_told c.step_in_turn.new.pass) (rows_more (row_added ask came tt) (entries_with own.pass) (entries_with c.step_in_turn.new.pass) s.own) (rows_seen (row_added ask came tt) s.since (turns_seen own.pass) (turns_seen c.step_in_turn.new.pass) _ refl s.seen) t u
    (subst (λ (l : List Came). SentPart knows (all_outs l) t u) c.deref-2.ensures.value c.in-Err.ensures.err)
