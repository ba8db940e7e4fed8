use Rattle.std.proofs.Common.{rules, sym, subst, ◌+◌}
use Rattle.std.proofs.lemmas.Fn.{filter_same}
use Rattle.made_script.specs.Draws.{DrawsMore, dues_of, new_below, is_pending}
use Rattle.made_script.specs.declared.draws.Way.TheVariants.{Backward}
use Rattle.made_script.specs.contracts.draws.Draws.{the_view}
use Rattle.made_script.proofs.DrawLemmas.{slot_more}
use Rattle.made_script.proofs.draws.Draws.draw.Goals as goal

pub returns-clause-drawn : goal.returns-clause-drawn
returns-clause-drawn c = λ drawn stands.
    let middle = c.draw_way.new.self in
    let held = c.args.held.now in
    let back = subst (λ s. DrawsMore middle s (new_below Backward middle.held held middle.script.links) (λ w. dues_of middle.script middle.slot w Backward middle.held held middle.script.links)) (sym c.self.view_is) c.in_ok-draw_way-2.ensures.drawn in
    slot_more c.args.self.now middle (the_view c.self.inside) held c.retain.new.self.items drawn stands c.in_ok-draw_way.ensures.drawn back
    (filter_same _ (is_pending (c.self.inside.slot + 1)) _ (λ x b f' called. search (rules, called)) _ _ c.retain.ensures.filtered)
