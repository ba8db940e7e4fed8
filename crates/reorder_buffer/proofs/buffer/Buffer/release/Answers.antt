-- What goes out at the new floor is what the history says.
use Rattle.std.proofs.Common.{◌∷◌, ◌∙◌, ap, refl, sym, subst}
use Rattle.receiver_rules.specs.Steps.{time_step}
use Rattle.receiver_rules.specs.Packets.{At}
use Rattle.reorder_buffer.specs.StateAfter.{Shows}
use Rattle.reorder_buffer.proofs.WriteLemmas.{on_err_always}
use Rattle.reorder_buffer.proofs.ReleaseLemmas.{timed, pass_follows, shows_pass, written_then, part_then, count_then, nothing_then}
use Rattle.reorder_buffer.proofs.buffer.Buffer.release.Goals as goal

pub returns-in_err-count-clause-part : goal.returns-in_err-count-clause-part
returns-in_err-count-clause-part g c =
    on_err_always c.from_residual.result _ (λ history s.
    part_then c.args.self.now history (time_step c.args.at) (At c.args.at) _ _ (pass_follows c.args.self.now history c.args.at s c.requires.running c.requires.clock) c.in_err-count.ensures.part)

pub returns-clause-state : goal.returns-clause-state
returns-clause-state g c = λ history s _.
    subst (λ b. Shows b (time_step c.args.at ∷ history)) (sym (ap (λ b. timed b c.args.at) (c.self.view_is ∙ c.in_ok-count.ensures.ok)))
    (shows_pass c.args.self.now history c.args.at _ s c.requires.running c.requires.clock refl)

pub returns-clause-sink : goal.returns-clause-sink
returns-clause-sink g c = λ history s.
    written_then c.args.self.now history (time_step c.args.at) (At c.args.at) _ _ (pass_follows c.args.self.now history c.args.at s c.requires.running c.requires.clock) c.in_ok-count.ensures.sink

pub returns-clause-count : goal.returns-clause-count
returns-clause-count g c = λ history s.
    count_then c.args.self.now history (time_step c.args.at) (At c.args.at) _ (pass_follows c.args.self.now history c.args.at s c.requires.running c.requires.clock) c.in_ok-count.ensures.count

pub returns-in_err-count-clause-complete : goal.returns-in_err-count-clause-complete
returns-in_err-count-clause-complete g c none =
    let fine = c.in_err-count.ensures.complete (nothing_then c.args.self.now none.0 (time_step c.args.at) (At c.args.at) (pass_follows c.args.self.now none.0 c.args.at none.1 c.requires.running c.requires.clock) none.2) in
    cc
