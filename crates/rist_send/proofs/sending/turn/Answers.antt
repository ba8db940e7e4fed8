use Rattle.std.proofs.Common.{◌≡◌, ◌∙◌, ℕ, map, length, Option, option_map, refl, sym, ap, subst}
use Rattle.outside_io.specs.Causes.{Fault, NoFault, Read, HasReadCause, fault_by}
use Rattle.rist_send.specs.Sending.{read_fault}
use Rattle.outside_net.specs.Streams.{later, IsFirst}
use Rattle.rist_send.specs.declared.progress.Progress.{Progress}
use Rattle.rist_send.specs.Run.{setup_of, begun_at}
use Rattle.rist_send.specs.Turns.{BringsNext, ReadsAndTicks, with_moment}
use Rattle.rist_send.specs.Inside.Moves.{IsAt, with_source}
use Rattle.rist_send.proofs.MoveLemmas.{follows, stops, at_self, rebased, moves_as}
use Rattle.rist_send.proofs.sending.turn.Goals as goal

not_read : Read ≡ NoFault → ⊥
not_read is = cc

pub returns-in-Ok-clause-work : goal.returns-in-Ok-clause-work
returns-in-Ok-clause-work g c = λ from at.
    let moment = c.now-moment.result in
    let run = with_moment moment from in
    let old = c.args.links.now in
    let mid = c.bring_next.new.links in
    let new = c.read_and_tick.new.links in
    let settings = c.args.settings.now in
    let begun : IsAt c.args.sender.now c.begin.new.self (with_source run (g.S.Source.remaining c.args.source.now) (g.S.LiveSource.payloads c.args.source.now) (map g.L.Link.reads old)) run = record {
      sender = at.sender;
      progress = ap (begun_at moment) at.progress ∙ sym c.begin.ensures.state;
      moments = refl;
      octets = at.octets;
      payloads = at.payloads;
      answers = at.answers;
    } in
    let outside = with_source run (g.S.Source.remaining c.bring_next.new.source) (g.S.LiveSource.payloads c.bring_next.new.source) (map g.L.Link.reads mid) in
    let d = rebased _ c.args.sender.now c.bring_next.new.sender c.bring_next.new.progress outside old mid from run _ refl (c.in-Ok.ensures.work run begun) in
    moves_as _ c.args.sender.now c.read_and_tick.new.sender c.read_and_tick.new.progress _ _ old new from _ _
    (follows _ c.args.sender.now c.bring_next.new.sender c.read_and_tick.new.sender c.bring_next.new.progress c.read_and_tick.new.progress outside (map g.L.Link.reads new) old mid new from run settings
    (λ s. BringsNext s from.progress.stage) ReadsAndTicks c.read_and_tick.result c.bring_next.auto.links c.in-Ok.ensures.set d
    (c.read_and_tick.ensures.work settings d.to (at_self _ _ _ d.to d.stands)))
    (λ to is. record {
      sender = is.sender;
      progress = is.progress;
      moments = is.moments ∙ ap (option_map later) at.moments ∙ sym c.now-moment.ensures.moments;
      octets = is.octets;
      payloads = is.payloads;
      answers = is.answers;
    })
    (λ to fact. record { moment = moment; first = subst (λ (told : Option (ℕ → ℕ)). IsFirst told moment) (sym at.moments) c.now-moment.ensures.value; parts = fact })

pub returns-in-Err-clause-work : goal.returns-in-Err-clause-work
returns-in-Err-clause-work g c = λ from at.
    let moment = c.now-moment.result in
    let run = with_moment moment from in
    let old = c.args.links.now in
    let mid = c.bring_next.new.links in
    let setup = setup_of c.args.settings.now c.args.sender.now (length old) in
    let begun : IsAt c.args.sender.now c.begin.new.self (with_source run (g.S.Source.remaining c.args.source.now) (g.S.LiveSource.payloads c.args.source.now) (map g.L.Link.reads old)) run = record {
      sender = at.sender;
      progress = ap (begun_at moment) at.progress ∙ sym c.begin.ensures.state;
      moments = refl;
      octets = at.octets;
      payloads = at.payloads;
      answers = at.answers;
    } in
    let outside = with_source run (g.S.Source.remaining c.bring_next.new.source) (g.S.LiveSource.payloads c.bring_next.new.source) (map g.L.Link.reads mid) in
    let d = rebased _ c.args.sender.now c.bring_next.new.sender c.bring_next.new.progress outside old mid from run _ refl (c.in-Err.ensures.work run begun) in
    moves_as _ c.args.sender.now c.bring_next.new.sender c.bring_next.new.progress _ _ old mid from _ _
    (stops _ c.args.sender.now c.bring_next.new.sender c.bring_next.new.progress outside old mid from run (BringsNext setup from.progress.stage) (ReadsAndTicks setup) c.in-Err.fault d)
    (λ to is. record {
      sender = is.sender;
      progress = is.progress;
      moments = is.moments ∙ ap (option_map later) at.moments ∙ sym c.now-moment.ensures.moments;
      octets = is.octets;
      payloads = is.payloads;
      answers = is.answers;
    })
    (λ to fact. record { moment = moment; first = subst (λ (told : Option (ℕ → ℕ)). IsFirst told moment) (sym at.moments) c.now-moment.ensures.value; parts = fact })

pub returns-in-Ok-clause-ahead : goal.returns-in-Ok-clause-ahead
returns-in-Ok-clause-ahead g c = λ is. absurd (not_read (sym (ap (fault_by read_fault) is) ∙ c.read_and_tick.ensures.source))

pub returns-in-Ok-clause-cause : goal.returns-in-Ok-clause-cause
returns-in-Ok-clause-cause g c =
    subst (λ (f : Fault). HasReadCause f (g.S.Source.faults c.args.source.now) (g.S.Source.faults c.bring_next.new.source)) (sym c.read_and_tick.ensures.source) c.in-Ok.ensures.cause

pub returns-in-Ok-clause-waits : goal.returns-in-Ok-clause-waits
returns-in-Ok-clause-waits g c = λ n.
    let w = c.in-Ok.ensures.waits n in
    record {
      never = w.never;
      faults = w.faults;
      stage = c.read_and_tick.ensures.stage ∙ w.stage ∙ ap (λ (p : Progress). p.stage) c.begin.ensures.state;
    }

pub returns-in-Err-clause-waits : goal.returns-in-Err-clause-waits
returns-in-Err-clause-waits g c = λ n.
    let w = c.in-Err.ensures.waits n in
    record { never = w.never; faults = w.faults; stage = w.stage ∙ ap (λ (p : Progress). p.stage) c.begin.ensures.state }
