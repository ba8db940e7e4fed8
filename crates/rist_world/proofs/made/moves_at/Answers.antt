use Rattle.std.proofs.Common.{rules, ap, ◌∙◌, ◌++◌}
use Rattle.rist_world.specs.Script.{micros_of, sends, ticks}
use Rattle.made_script.specs.declared.draws.Script.{Script}
use Rattle.rist_world.proofs.ScriptLemmas.{slot_put}
use Rattle.rist_world.proofs.made.moves_at.Goals as goal

pub returns : goal.returns
returns c =
    let draws = c.args.draws.now in
    let was = c.script-script.result.now in
    let at = c.slot-slot.result in
    let script = c.script-script.ensures.value in
    let slot = c.slot-slot.ensures.value in
    let sent = c.in_ok-push_send.ensures.items ∙ ap (λ ms. ms ++ sends was at) c.new-moves.ensures.items ∙ ap (λ s. sends s at) script ∙ ap (sends draws.script) slot in
    let looked = c.in_ok-push_ticks.ensures.items ∙ ap (λ (s : Script). c.push_way.new.moves.items ++ ticks s.links at) script ∙ ap (λ n. c.push_way.new.moves.items ++ ticks draws.script.links n) slot in
    record {
      items = slot_put draws.script draws.slot c.micros_of-2.result draws.dues c.push_send.new.moves.items c.push-2.new.moves.items c.push_way.new.moves.items c.push_ticks.new.moves.items c.push_way-2.new.moves.items
          (search rules) (c.micros_of-2.ensures.value ∙ ap micros_of slot) sent c.in_ok-push-2.ensures.items c.in_ok-push_way.ensures.items looked c.in_ok-push_way-2.ensures.items;
    }
