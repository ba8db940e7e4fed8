-- What goes out at the end is what the history says.
use Rattle.std.proofs.Common.{◌≡◌, ◌∷◌, ◌∙◌, ap, refl, sym, subst}
use Rattle.receiver_rules.specs.Steps.{end_step}
use Rattle.receiver_rules.specs.Packets.{Ever}
use Rattle.reorder_buffer.specs.State.{State}
use Rattle.reorder_buffer.specs.StateAfter.{Shows}
use Rattle.reorder_buffer.specs.declared.phase.Phase.TheVariants.{Open}
use Rattle.reorder_buffer.proofs.PhaseLemmas.{not_failed}
use Rattle.reorder_buffer.proofs.WriteLemmas.{on_err_always}
use Rattle.reorder_buffer.proofs.ReleaseLemmas.{ended, end_follows, shows_end, written_then, part_then, count_then, nothing_then}
use Rattle.reorder_buffer.proofs.buffer.Buffer.flush.Goals as goal

pub returns-in_err-count-clause-part : goal.returns-in_err-count-clause-part
returns-in_err-count-clause-part g c =
    on_err_always c.from_residual.result _ (λ history s.
    part_then c.args.self.now history end_step Ever _ _ (end_follows c.args.self.now history s c.requires.running) c.in_err-count.ensures.part)

pub returns-clause-state : goal.returns-clause-state
returns-clause-state g c = λ history s _.
    subst (λ b. Shows b (end_step ∷ history)) (sym (ap ended (c.self.view_is ∙ c.in_ok-count.ensures.ok)))
    (shows_end c.args.self.now history _ s c.requires.running refl)

pub returns-clause-sink : goal.returns-clause-sink
returns-clause-sink g c = λ history s.
    written_then c.args.self.now history end_step Ever _ _ (end_follows c.args.self.now history s c.requires.running) c.in_ok-count.ensures.sink

pub returns-clause-count : goal.returns-clause-count
returns-clause-count g c = λ history s.
    count_then c.args.self.now history end_step Ever _ (end_follows c.args.self.now history s c.requires.running) c.in_ok-count.ensures.count

pub returns-in_err-count-clause-complete : goal.returns-in_err-count-clause-complete
returns-in_err-count-clause-complete g c none =
    let fine = c.in_err-count.ensures.complete (nothing_then c.args.self.now none.0 end_step Ever (end_follows c.args.self.now none.0 none.1 c.requires.running) none.2) in
    cc

pub invariant_of-self : goal.invariant_of-self
invariant_of-self g c =
    let i = c.self.invariant.state in
    let was : c.self.inside.phase ≡ Open = ap (λ (b : State). b.phase) (c.self.view_is ∙ c.in_ok-count.ensures.ok) ∙ c.requires.running in
    record {
      state = record {
        limits = i.limits;
        anchor = i.anchor;
        highest = i.highest;
        rising = i.rising;
        within = i.within;
        below = i.below;
        last = i.last;
        epoch = i.epoch;
        floor = i.floor;
        clock = λ live. i.clock (not_failed c.self.inside.phase was);
      };
      places = c.self.invariant.places;
    }
