use Rattle.std.proofs.Common.{rules, subst, sym}
use Rattle.std.proofs.lemmas.List.{places}
use Rattle.rist_world.specs.World.{IsWorldAfter}
use Rattle.rist_world.proofs.MarkLemmas.{lent_marks}
use Rattle.rist_world.proofs.SenderLemmas.{ok_then, feedback_goes}
use Rattle.rist_world.proofs.world.World.feed.Goals as goal

pub returns : goal.returns
returns c = record {
  value = ok_then c.mark_all.result c.mark_all.ensures.value
      (λ marks setup from is.
      let now = subst (λ w. IsWorldAfter setup w from) (sym c.self.view_is) is in
      feedback_goes setup _ _ c.feedback.new.self _ _ _ _ _ _ from c.args.us c.args.link c.args.compound.now c.feedback.result now c.feedback.ensures.set c.deref_mut.ensures.value (search (rules, places)) c.mark_all.ensures.same (search (rules, places)) c.deref-2.ensures.value (lent_marks _ _ _ _ _ _ _ (search rules) c.deref_mut-2.ensures.value (search (rules, places)) marks) c.feedback.auto.links c.deref.ensures.value c.in_ok-check_memory.ensures.sound (c.feedback.ensures.work from.work now.sender));
}
