use Rattle.std.proofs.Common.{rules, subst, sym, refl}
use Rattle.rist_ends.specs.declared.outcome.Outcome.TheVariants as outcomes
use Rattle.rist_world.specs.World.{IsWorldAfter}
use Rattle.std.proofs.lemmas.List.{places}
use Rattle.rist_world.proofs.ReceiverLemmas.{quiet_goes, made_goes}
use Rattle.rist_world.proofs.world.World.step.Goals as goal

pub returns-in-Verdict : goal.returns-in-Verdict
returns-in-Verdict c = record {
  value = λ setup from is.
      let now = subst (λ w. IsWorldAfter setup w from) (sym c.self.view_is) is in
      quiet_goes setup _ c.step.new.self c.step.new.sink from c.args.told.now (outcomes.Verdict c.in-Verdict.field-0) refl refl now c.in-Verdict.ensures.work;
}

pub returns-in-Spent : goal.returns-in-Spent
returns-in-Spent c = record {
  value = λ setup from is.
      let now = subst (λ w. IsWorldAfter setup w from) (sym c.self.view_is) is in
      quiet_goes setup _ c.step.new.self c.step.new.sink from c.args.told.now outcomes.Spent refl refl now c.in-Spent.ensures.work;
}

pub returns-in-Nothing : goal.returns-in-Nothing
returns-in-Nothing c = record {
  value = λ setup from is.
      let now = subst (λ w. IsWorldAfter setup w from) (sym c.self.view_is) is in
      quiet_goes setup _ c.step.new.self c.step.new.sink from c.args.told.now outcomes.Nothing refl refl now c.in-Nothing.ensures.work;
}

pub returns-in-Made : goal.returns-in-Made
returns-in-Made c = record {
  value = made_goes _ c.step.new.self c.step.new.sink c.deref_mut.result.now _ _ c.args.told.now c.in-Made.outs c.put_back.result c.deref_mut.ensures.value (search (rules, places)) c.in-Made.ensures.work c.put_back.ensures.value c.self.view_is;
}
