-- What a pass asks for lies near together.
use Rattle.std.proofs.Common.{◌≡◌, ℕ, ◌+◌, ◌≤◌, true, false, ◌&&◌, List, [], ◌∷◌, ◌++◌, refl, sym, subst, arith}
use Rattle.std.specs.Prelude.{nat_le, not, ◌==◌, if◌then◌else◌}
use Rattle.std.specs.List.{list_any}
use Rattle.std.proofs.lemmas.Bool.{leb-true, and_parts}
use Rattle.receiver_rules.specs.declared.bounds.TheConstants.{MAX_SPAN}
use Rattle.receiver_rules.specs.Packets.{Packet}
use Rattle.request_rules.specs.declared.policy.NackKind.{NackKind}
use Rattle.request_rules.specs.declared.policy.NackKind.TheVariants.{Range, Mask}
use Rattle.request_rules.specs.declared.policy.Policy.{Policy}
use Rattle.request_rules.specs.Words.{words_for, IsRisingIn}
use Rattle.request_rules.specs.Near.{AreNear}
use Rattle.request_rules.proofs.NearLemmas.{words_near}
use Rattle.nack_timer.specs.declared.entry.Missing.{Missing}
use Rattle.nack_timer.specs.State.{AreRising}
use Rattle.nack_timer.specs.Inside.Pass.{is_live, is_due_entry, words_of}
use Rattle.nack_timer.proofs.DueLemmas.{due_in, words_is}

no_words : (kind : NackKind) → [] ≡ words_for kind 64 []
no_words Range = refl
no_words Mask = refl

rising_due : (policy : Policy) (rtt t low b from high : ℕ) (held : List Packet) (es : List Missing) → b ≤ from → b ≤ high → AreRising from high es → IsRisingIn b high (due_in policy rtt t low held es)
rising_due policy rtt t low b from high held [] l h order = h
rising_due policy rtt t low b from high held (e ∷ es) l h order =
    elim (is_live low held e && is_due_entry policy rtt t e) as (λ c. IsRisingIn b high ((if c then e.number ∷ [] else []) ++ due_in policy rtt t low held es)) [
      | true ↦ (omega (arith, l, order.0), rising_due policy rtt t low (e.number + 1) (e.number + 1) high held es (omega arith) (omega (arith, order.1)) order.2)
      | false ↦ rising_due policy rtt t low b (e.number + 1) high held es (omega (arith, l, order.0)) h order.2
    ]

near_due : (policy : Policy) (rtt t low from high : ℕ) (held : List Packet) (es : List Missing) → high ≤ low + MAX_SPAN → AreRising from high es → AreNear (words_for policy.kind 64 (due_in policy rtt t low held es))
near_due policy rtt t low from high held [] near order = subst AreNear (no_words policy.kind) (record { few = omega arith; close = tt })
near_due policy rtt t low from high held (e ∷ es) near order =
    elim (is_live low held e && is_due_entry policy rtt t e) as (λ c. (is_live low held e && is_due_entry policy rtt t e) ≡ c → AreNear (words_for policy.kind 64 ((if c then e.number ∷ [] else []) ++ due_in policy rtt t low held es))) [
      | true ↦ λ wanted.
          let live = (and_parts (is_live low held e) (is_due_entry policy rtt t e) wanted).0 in
          let above : low ≤ e.number = leb-true low e.number (and_parts (nat_le low e.number) (not (list_any (λ p. p.number == e.number) held)) live).0 in
          words_near policy.kind e.number high (e.number ∷ due_in policy rtt t low held es) (omega (arith, near, above))
          (omega arith, rising_due policy rtt t low (e.number + 1) (e.number + 1) high held es (omega arith) (omega (arith, order.1)) order.2)
      | false ↦ λ _. near_due policy rtt t low (e.number + 1) high held es near order.2
    ] refl

-- the words of a pass
pub near_words : (policy : Policy) (rtt t low high : ℕ) (held : List Packet) (es : List Missing) → high ≤ low + MAX_SPAN → AreRising 0 high es → AreNear (words_of policy rtt t low held [] es)
near_words policy rtt t low high held es near order =
    subst AreNear (sym (words_is policy rtt t low 0 high held [] [] es (no_words policy.kind) (λ x g le. le) order)) (near_due policy rtt t low 0 high held es near order)
