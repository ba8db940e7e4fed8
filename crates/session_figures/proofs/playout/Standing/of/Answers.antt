-- The buffer shows its history.
use Rattle.std.proofs.Common.{◌∙◌}
use Rattle.reorder_buffer.specs.State.{State}
use Rattle.reorder_buffer.specs.StateAfter.{Shows}
use Rattle.rist_ends.proofs.FillLemmas.{base_shown, fill_shown}
use Rattle.session_figures.proofs.playout.Standing.of.Goals as goal

pub returns : goal.returns
returns c = record {
  value = λ history is.
      let b : State = c.args.buffer.now in
      let shows : Shows b history = is c.requires.live in
      let fill = c.fill.ensures.value ∙ fill_shown b history shows in
      let base = c.base.ensures ∙ base_shown b history shows in
      cc;
}
