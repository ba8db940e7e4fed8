-- What was told changes nothing of the link.
use Rattle.std.proofs.Common.{Option, List, [], ◌∷◌, OnOk, IfErr, sym, subst}
use Rattle.outside_net.specs.Links.{Datagram}
use Rattle.rist_desk.specs.Items.{told_plan}
use Rattle.rist_desk.specs.Work.{holds, CutShort, Goes}
use Rattle.rist_desk.proofs.FigureLemmas.{kept_twice}
use Rattle.fan_desk.specs.Own.{rows_told}
use Rattle.fan_desk.specs.Made.{several}
use Rattle.fan_desk.proofs.flows.TunnelDeskFlowsRowPassUnit.make_step.Goals as goal

pub returns-clause-ok : goal.returns-clause-ok
returns-clause-ok g c =
    subst (λ (t : Option (List Datagram)). OnOk c.step_and_send-done.result (Goes (several g.N.FanOrigin.ports g.N.FanOrigin.given g.N.FanOrigin.places) (holds (rows_told c.args.own.now.pass) (g.L.Link.taken c.args.link.now)) (holds (rows_told c.step_and_send-done.new.own.pass) t)
    (record { place = c.args.place; planned = told_plan (g.L.Link.knows c.args.link.now) c.args.told.now } ∷ [])))
    (sym c.tell_where_wanted.ensures.taken) c.step_and_send-done.ensures.ok

pub returns-clause-err : goal.returns-clause-err
returns-clause-err g c =
    subst (λ (t : Option (List Datagram)). IfErr c.step_and_send-done.result (λ end. CutShort (several g.N.FanOrigin.ports g.N.FanOrigin.given g.N.FanOrigin.places) end (holds (rows_told c.args.own.now.pass) (g.L.Link.taken c.args.link.now)) (holds (rows_told c.step_and_send-done.new.own.pass) t)
    (record { place = c.args.place; planned = told_plan (g.L.Link.knows c.args.link.now) c.args.told.now } ∷ [])))
    (sym c.tell_where_wanted.ensures.taken) c.step_and_send-done.ensures.err

pub returns-clause-same : goal.returns-clause-same
returns-clause-same g c = kept_twice c.step_and_send-done.ensures.same c.tell_where_wanted.ensures.same
