-- The two flows of the fan are those that were made.
use Rattle.std.proofs.Common.{◌≡◌, List, [], ◌∷◌, ◌++◌, ap, sym, ◌∙◌, subst}
use Rattle.rist_fan.specs.declared.flow.Flow.{Flow}
use Rattle.fan_desk.specs.Origin.{AreUntold}
use Rattle.test_runs.proofs.FlowLemmas.{two_untold}
use Rattle.test_runs.proofs.flowing.two.Goals as goal

pub returns-clause-untold : goal.returns-clause-untold
returns-clause-untold g c =
    let first = c.in_ok-first.first in
    let other = c.in_ok-flow.field-0 in
    let items : c.push.new.self.items ≡ other ∷ [] = c.in_ok-push.ensures.items ∙ ap (λ (l : List (Flow g.row.K.Denot)). l ++ other ∷ []) c.new-more.ensures.items in
    subst (AreUntold g.K.Sink.contents) (sym (c.with.ensures.flows ∙ ap (λ (l : List (Flow g.row.K.Denot)). first ∷ l) items))
    (two_untold g.K.Sink.contents first other c.in_ok-first.ensures.untold c.in_ok-flow.ensures.untold)
