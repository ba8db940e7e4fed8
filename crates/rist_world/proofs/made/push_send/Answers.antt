use Rattle.std.proofs.Common.{rules, sym, subst, ◌≡◌, ◌∙◌, ◌++◌, IfOk}
use Rattle.rist_world.proofs.ScriptLemmas.{sends_one}
use Rattle.rist_world.proofs.made.push_send.Goals as goal

pub returns : goal.returns
returns c =
    let one = sends_one c.args.script.now c.args.slot c.micros_of.result c.in_ok-payload.payload (search rules) c.micros_of.ensures.value (c.in_ok-payload.ensures.value ∙ c.payload_of.ensures.value) in
    record { items = subst (λ ms. IfOk c.push.result (λ done. c.push.new.moves.items ≡ c.args.moves.now.items ++ ms)) (sym one) c.push.ensures.items }
