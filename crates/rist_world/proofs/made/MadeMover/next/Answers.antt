use Rattle.std.proofs.Common.{ap, sym, subst, drop, ◌∙◌}
use Rattle.made_script.specs.Draws.{DrawsState}
use Rattle.rist_world.specs.Script.{MadeState, IsMadeScript, HasGiven}
use Rattle.rist_world.specs.Mover.{IsNext}
use Rattle.rist_world.proofs.ScriptLemmas.{next_given}
use Rattle.rist_world.proofs.made.MadeMover.next.Goals as goal

pub returns : goal.returns
returns c =
    let made = c.prepare.new.self in
    let script = c.in_ok-prepare.ensures.script in
    let queue = sym (ap (λ (m : MadeState). m.queue) c.self.view_is) ∙ c.pop_front.ensures.items in
    let after : MadeState = record { draws = c.self.inside.draws; queue = c.pop_front.new.self.items } in
    let draws = ap (λ (m : MadeState). m.draws) c.self.view_is in
    record {
      next = record {
        same = λ setup from to moves it. subst (λ s. IsMadeScript s setup from moves to) (ap (λ (d : DrawsState). d.script) draws ∙ script) it;
        gives = λ setup from to moves given stands.
            subst (λ s. IsNext (IsMadeScript s) (HasGiven after) setup from moves to c.pop_front.result) script
            (next_given made after c.pop_front.result setup from to moves (c.in_ok-prepare.ensures.given setup from moves to given stands) draws queue (c.pop_front.ensures.rest ∙ ap (λ (m : MadeState). drop 1 m.queue) c.self.view_is) c.in_ok-prepare.ensures.some);
      };
    }
