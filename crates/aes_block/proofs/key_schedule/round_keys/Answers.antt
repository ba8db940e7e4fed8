use Rattle.std.proofs.Common.{◌≡◌, [], map, sym, ap, ◌∙◌, inl, inr, arith}
use Rattle.std.proofs.lemmas.Bool.{cases_lt}
use Rattle.std.proofs.lemmas.List.{length-set, get_or-set_other}
use Rattle.std.proofs.lemmas.Grind.{get_or-set_at}
use Rattle.aes_block.specs.Cipher.{round_key}
use Rattle.aes_block.specs.Inside.Words.{word_octets}
use Rattle.aes_block.proofs.key_schedule.round_keys.Goals as goal

pub loop-round-preserved : goal.loop-round-preserved
loop-round-preserved c =
    let keys = c.loop-round.keys in
    let k = c.loop-round.round in
    let v = c.key_at.result in
    let long = c.loop-round.invariant.long in
    let w = map word_octets c.args.words.now in
    record {
      long = length-set keys k v ∙ long;
      done = λ r low. elim (cases_lt r k) [
        | inl p ↦ get_or-set_other keys k r v [] (omega arith) ∙ c.loop-round.invariant.done r p
        | inr p ↦
            let here : r ≡ k = omega arith in
            get_or-set_at keys k r v [] here (omega arith) ∙ c.key_at.ensures ∙ ap (round_key w) (sym here)
      ];
    }
