-- The first made its step, and then those behind it.
use Rattle.std.proofs.Common.{◌≡◌, ◌<◌, ◌+◌, ℕ, ◌∷◌, List, length, sym, subst, ◌∙◌}
use Rattle.std.specs.Prelude.{slice_index_or}
use Rattle.std.proofs.lemmas.List.{with_items_is}
use Rattle.rist_fan.specs.declared.flow.Came.{Came}
use Rattle.rist_fan.specs.Fan.{AllStep, StepsFlow}
use Rattle.rist_fan.specs.Seen.{is_for, told_for}
use Rattle.rist_fan.proofs.FanLemmas.{first_and_more}
use Rattle.rist_fan.proofs.stepping.step_all.Goals as goal

pub returns-clause-steps : goal.returns-clause-steps
returns-clause-steps g c =
    let held = c.deref_mut.ensures.value in
    let s = c.step_more.ensures in
    let as_many : length c.step_more.new.more ≡ c.args.more.now.len = s.flows ∙ c.deref_mut.ensures.len in
    let behind = subst (λ (l : List _). (v : ℕ) (d : _) (e : Came) → v < length l → StepsFlow g.K.Sink.contents g.K.Sink.faults (told_for (is_for c.args.place (v + 1)) c.args.told.now) (slice_index_or l v d) (slice_index_or c.step_more.new.more v d) (slice_index_or c.step_first.new.came (v + 1) e) (slice_index_or c.step_more.new.came (v + 1) e)) held s.steps in
    subst (λ (l : List _). AllStep g.K.Sink.contents g.K.Sink.faults c.args.place c.args.told.now (c.args.first.now ∷ c.args.more.now.items) (c.step_first.new.first ∷ l) c.args.came.now c.step_more.new.came) (sym (with_items_is c.args.more.now c.step_more.new.more as_many))
    (first_and_more g.K.Sink.contents g.K.Sink.faults c.args.place c.args.told.now c.args.first.now c.step_first.new.first c.args.more.now.items c.step_more.new.more c.args.came.now c.step_first.new.came c.step_more.new.came
    c.step_first.ensures.steps c.step_first.ensures.rooms behind s.first)
