use Rattle.std.proofs.Common.{rules, ◌∙◌, subst, sym}
use Rattle.rist_world.specs.World.{IsWorldAfter}
use Rattle.rist_world.proofs.SenderLemmas.{new_is, not_new, renew_goes}
use Rattle.rist_world.proofs.world.World.renew.Goals as goal

pub returns-then-not-is_new : goal.returns-then-not-is_new
returns-then-not-is_new c = record {
  value = λ setup from is.
      let now = subst (λ w. IsWorldAfter setup w from) (sym c.self.view_is) is in
      not_new setup _ _ from c.args.flow c.args.first c.self.view_is now (new_is setup _ from c.args.flow (search rules) now ∙ (search rules));
}

pub returns : goal.returns
returns c = record {
  value = λ setup from is.
      let now = subst (λ w. IsWorldAfter setup w from) (sym c.self.view_is) is in
      renew_goes setup _ c.renew.new.self c.args.flow c.args.first c.insert.new.self.items from now (search rules) (new_is setup _ from c.args.flow (search rules) now ∙ (search rules)) c.renew.ensures.value (c.renew.ensures.state from.work now.sender);
}
