use Rattle.std.proofs.Common.{◌≡◌, ℕ, [], get_or, sym, ap, ◌∙◌, inl, inr, arith}
use Rattle.std.proofs.lemmas.Bool.{cases_lt}
use Rattle.std.proofs.lemmas.List.{length-set, get_or-set_other}
use Rattle.std.proofs.lemmas.Grind.{get_or-set_at}
use Rattle.aes_block.specs.Inside.Keys.{unprepared}
use Rattle.aes_block.proofs.rounds.prepared.Goals as goal

pub loop-round-preserved : goal.loop-round-preserved
loop-round-preserved c =
    let all = c.loop-round.all in
    let k = c.loop-round.round in
    let v = c.prepared_key.result in
    let long = c.loop-round.invariant.long in
    record {
      long = length-set all k v ∙ long;
      done = λ r low. elim (cases_lt r k) [
        | inl p ↦ ap unprepared (get_or-set_other all k r v [] (omega arith)) ∙ c.loop-round.invariant.done r p
        | inr p ↦
            let here : r ≡ k = omega arith in
            ap unprepared (get_or-set_at all k r v [] here (omega arith)) ∙ c.prepared_key.ensures ∙ ap (λ (n : ℕ). get_or c.args.keys.now n []) (sym here)
      ];
    }
