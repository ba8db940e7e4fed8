use Rattle.std.proofs.Common.{rules, ap, sym, ◌≡◌, ◌∙◌, []}
use Rattle.std.proofs.lemmas.List.{nil_from_length}
use Rattle.rist_world.specs.Script.{MadeState}
use Rattle.rist_world.proofs.ScriptLemmas.{turned, moves_are_some}
use Rattle.rist_world.proofs.made.Made.prepare.Goals as goal

pub returns-clause-given : goal.returns-clause-given
returns-clause-given c = λ setup from moves to given stands.
    let count : c.self.inside.queue.len ≡ 0 = search rules in
    let empty : c.self.inside.queue.items ≡ [] = nil_from_length c.self.inside.queue.items (sym c.self.inside.queue.ok.0 ∙ count) in
    turned c.args.self.now c.turn.new.self setup c.args.world.now c.held_in.result from to moves given stands c.held_in.ensures.forward c.held_in.ensures.backward (sym (ap (λ (m : MadeState). m.queue) c.self.view_is) ∙ empty) (search rules)
    c.in_ok-turn.ensures.script c.in_ok-turn.ensures.slot c.in_ok-turn.ensures.drawn c.in_ok-turn.ensures.queue

pub returns-clause-some : goal.returns-clause-some
returns-clause-some c = λ none.
    let draws = c.turn.new.self.draws in
    absurd (moves_are_some draws.script draws.slot draws.dues (sym c.in_ok-turn.ensures.queue ∙ none))
