use Rattle.std.proofs.Common.{◌≡◌, ◌∙◌, ℕ, suc, ◌+◌, Bool, map, length, Result, Ok, Err, refl, sym, ap, subst, arith}
use Rattle.std.specs.Prelude.{if◌then◌else◌}
use mathlib.Core.Logic.{inl, inr}
use Rattle.rist_sender.proofs.TurnLemmas.{stays_then}
use Rattle.rist_send.specs.declared.fault.SendFault.{SendFault}
use Rattle.rist_send.specs.declared.fault.SendFault.TheVariants.{TurnsSpent}
use Rattle.rist_send.specs.declared.progress.Progress.{Progress}
use Rattle.rist_send.specs.declared.progress.Stage.{Stage}
use Rattle.rist_send.specs.Run.{Setup, no_progress, setup_of, is_over, is_over_at, has_ended}
use Rattle.rist_send.specs.Turns.{Turn}
use Rattle.rist_send.specs.Sending.{TurnsOn}
use Rattle.rist_send.specs.Inside.Moves.{IsPlace}
use Rattle.rist_send.specs.Served.{Outside, new_run}
use Rattle.rist_send.proofs.MoveLemmas.{moves_none, moves_then, moves_next, setup_same, runs_of}
use Rattle.rist_send.proofs.PayloadLemmas.{sends_source}
use Rattle.rist_send.proofs.sending.send.Goals as goal

abbrev last_with : Bool → Result Unit SendFault
last_with ended = if ended then Ok tt else Err TurnsSpent

one_more : (n : ℕ) → suc n ≡ n + 1
one_more n = omega arith

no_place : IsPlace no_progress.stage
no_place = omega arith

pub loop-count-init : goal.loop-count-init
loop-count-init g c = record {
  within = omega arith;
  place = subst (λ (p : Progress). IsPlace p.stage) (sym c.new-progress.ensures.value) no_place;
  same = refl;
  set = record { rules = refl; session = refl };
  opener = refl;
  faults = refl;
  never = λ n. (n, ap (λ (p : Progress). p.stage) c.new-progress.ensures.value);
  does = λ from stands.
      let outside : Outside = record { moments = g.C.Clock.moments c.args.clock.now; octets = g.S.Source.remaining c.args.source.now; payloads = g.S.LiveSource.payloads c.args.source.now; answers = map g.L.Link.reads c.args.links.now } in
      moves_none _ c.args.sender.now c.new-progress.result outside c.args.links.now (new_run from outside) _ (new_run from outside) refl
      (record { sender = stands; progress = sym c.new-progress.ensures.value; moments = refl; octets = refl; payloads = refl; answers = refl }) refl;
}

pub loop-count-preserved : goal.loop-count-preserved
loop-count-preserved g c =
    let loop = c.loop-count in
    let inv = loop.invariant in
    let sender = c.args.sender.now in
    let links = c.args.links.now in
    let settings = c.args.settings.now in
    record {
      within = omega arith;
      place = c.in-Ok.ensures.at;
      same = omega (arith, inv.same, c.turn.auto.links);
      set = stays_then sender loop.sender c.turn.new.sender inv.set c.in-Ok.ensures.set;
      opener = c.in-Ok.ensures.opener ∙ inv.opener;
      faults = c.in-Ok.ensures.cause ∙ inv.faults;
      never = λ n.
          let before = inv.never n in
          let after = c.in-Ok.ensures.waits before.0 in
          (after.never, after.stage ∙ before.1);
      does = λ from stands.
          let d = inv.does from stands in
          let old : Outside = record { moments = g.C.Clock.moments c.args.clock.now; octets = g.S.Source.remaining c.args.source.now; payloads = g.S.LiveSource.payloads c.args.source.now; answers = map g.L.Link.reads c.args.links.now } in
          let new : Outside = record { moments = g.C.Clock.moments c.turn.new.clock; octets = g.S.Source.remaining c.turn.new.source; payloads = g.S.LiveSource.payloads c.turn.new.source; answers = map g.L.Link.reads c.turn.new.links } in
          let run = new_run from old in
          let setup = setup_of settings sender (length links) in
          moves_next _ sender loop.sender c.turn.new.sender loop.progress c.turn.new.progress _ new links loop.links c.turn.new.links run
          (TurnsOn setup loop.count run) (Turn (setup_of settings loop.sender (length loop.links)) (Ok tt) d.to) (TurnsOn setup (loop.count + 1) run)
          inv.same inv.set d (c.in-Ok.ensures.work d.to d.stands)
          (λ to at fact. subst (λ (n : ℕ). TurnsOn setup n run to) (one_more loop.count) (
            d.to,
            d.fact,
            subst (λ (s : Setup). Turn s (Ok tt) d.to to) (setup_same settings sender loop.sender (length links) (length loop.links) inv.set inv.same) fact,
            ap (is_over settings.linger) at.progress ∙ sym c.if-is_over.ensures.value,
          ));
    }

pub returns-in-Err-clause-work : goal.returns-in-Err-clause-work
returns-in-Err-clause-work g c = λ from stands.
    let loop = c.loop-count in
    let inv = loop.invariant in
    let sender = c.args.sender.now in
    let links = c.args.links.now in
    let d = inv.does from stands in
    runs_of _ sender c.turn.new.sender c.turn.new.progress _ _ links c.turn.new.links from _ _
    (moves_then _ sender loop.sender c.turn.new.sender loop.progress c.turn.new.progress _ _ links loop.links c.turn.new.links _ _ _
    (λ to. Turn (setup_of c.args.settings.now sender (length links)) (Err c.in-Err.fault) d.to to) inv.same inv.set d (c.in-Err.ensures.work d.to d.stands)
    (λ to fact. subst (λ (s : Setup). Turn s (Err c.in-Err.fault) d.to to) (setup_same c.args.settings.now sender loop.sender (length links) (length loop.links) inv.set inv.same) fact))
    (λ at fact. sends_source _ _ _ from _ d.to _ d.fact (inl (record { left = omega arith; turn = fact; stops = tt })))

pub returns-then-is_over-clause-work : goal.returns-then-is_over-clause-work
returns-then-is_over-clause-work g c = λ from stands.
    let loop = c.loop-count in
    let inv = loop.invariant in
    let sender = c.args.sender.now in
    let links = c.args.links.now in
    let d = inv.does from stands in
    runs_of _ sender c.turn.new.sender c.turn.new.progress _ _ links c.turn.new.links from _ _
    (moves_then _ sender loop.sender c.turn.new.sender loop.progress c.turn.new.progress _ _ links loop.links c.turn.new.links _ _ _
    (λ to. Turn (setup_of c.args.settings.now sender (length links)) (Ok tt) d.to to) inv.same inv.set d (c.in-Ok.ensures.work d.to d.stands)
    (λ to fact. subst (λ (s : Setup). Turn s (Ok tt) d.to to) (setup_same c.args.settings.now sender loop.sender (length links) (length loop.links) inv.set inv.same) fact))
    (λ at fact. sends_source _ _ _ from _ d.to _ d.fact
    (inl (record { left = omega arith; turn = fact; stops = ap (is_over c.args.settings.now.linger) at.progress ∙ sym c.if-is_over.ensures.value })))

pub returns-then-has_ended-clause-work : goal.returns-then-has_ended-clause-work
returns-then-has_ended-clause-work g c = λ from stands.
    let loop = c.loop-count in
    let d = loop.invariant.does from stands in
    runs_of _ c.args.sender.now loop.sender loop.progress _ _ c.args.links.now loop.links from _ _ d
    (λ at fact. sends_source _ _ _ from _ d.to _ fact (inr (record {
      all = omega arith;
      same = refl;
      answer = subst (λ (b : Bool). Ok tt ≡ last_with b) (sym (ap (λ (p : Progress). has_ended p.stage) at.progress ∙ sym c.if-has_ended.ensures.value)) refl;
    })))

pub returns-else-has_ended-clause-work : goal.returns-else-has_ended-clause-work
returns-else-has_ended-clause-work g c = λ from stands.
    let loop = c.loop-count in
    let d = loop.invariant.does from stands in
    runs_of _ c.args.sender.now loop.sender loop.progress _ _ c.args.links.now loop.links from _ _ d
    (λ at fact. sends_source _ _ _ from _ d.to _ fact (inr (record {
      all = omega arith;
      same = refl;
      answer = subst (λ (b : Bool). Err TurnsSpent ≡ last_with b) (sym (ap (λ (p : Progress). has_ended p.stage) at.progress ∙ sym c.if-has_ended.ensures.value)) refl;
    })))

pub returns-in-Err-clause-waits : goal.returns-in-Err-clause-waits
returns-in-Err-clause-waits g c = λ n.
    let inv = c.loop-count.invariant in
    let after = c.in-Err.ensures.waits (inv.never n).0 in
    (refl, after.faults ∙ inv.faults)

pub returns-then-is_over-clause-waits : goal.returns-then-is_over-clause-waits
returns-then-is_over-clause-waits g c = λ n.
    let before = c.loop-count.invariant.never n in
    let after = c.in-Ok.ensures.waits before.0 in
    absurd (cc (c.if-is_over.ensures.value ∙ ap (λ (s : Stage). is_over_at c.args.settings.now.linger s c.turn.new.progress.moment) (after.stage ∙ before.1)))

pub returns-then-has_ended-clause-waits : goal.returns-then-has_ended-clause-waits
returns-then-has_ended-clause-waits g c = λ n.
    absurd (cc (c.if-has_ended.ensures.value ∙ ap has_ended (c.loop-count.invariant.never n).1))

pub returns-else-has_ended-clause-waits : goal.returns-else-has_ended-clause-waits
returns-else-has_ended-clause-waits g c = λ n. (refl, c.loop-count.invariant.faults)
