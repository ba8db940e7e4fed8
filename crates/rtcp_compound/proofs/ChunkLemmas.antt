-- Chunks: the test of a body agrees with the spelling of its chunks.
use Rattle.std.proofs.Common.{◌≡◌, ℕ, zero, suc, ◌+◌, ◌-◌, ◌<◌, ◌≤◌, true, false, List, [], ◌∷◌, ◌++◌, length, take, drop, get_or, Option, Some, None, refl, sym, ap, ◌∙◌, append_assoc, arith, length-append, inl, inr}
use Rattle.std.specs.Prelude.{is_some}
use Rattle.std.specs.List.{flat_map, AllByRecursion}
use Rattle.std.proofs.lemmas.Option.{same_Some, none-some}
use Rattle.std.proofs.lemmas.List.{take_rest, drop_at}
use Rattle.std.proofs.lemmas.Bool.{ne_eqb, cases_eq}
use Rattle.std.proofs.lemmas.List.Concat.{flat_map-cons}
use Rattle.octet_fields.proofs.OctetLemmas.{AreOctets, AreOctets-behind}
use Rattle.rtcp_compound.specs.Chunks.{Item, IsItem, item_spelling, after_items, after_chunk, after_chunks}

-- a text is stepped over at once
pub skip_text : (n : ℕ) (b : List ℕ) → n ≤ length b → after_items n b ≡ after_items 0 (drop n b)
skip_text zero b h = refl
skip_text (suc n) [] h = absurd (omega arith)
skip_text (suc n) (x ∷ b) h = skip_text n b (omega arith)

-- a text that passes the end
pub skip_past : (n : ℕ) (b : List ℕ) → length b < n → after_items n b ≡ None
skip_past zero b h = absurd (omega arith)
skip_past (suc n) [] h = refl
skip_past (suc n) (x ∷ b) h = skip_past n b (omega arith)

-- the zero octet ends the items
pub items_end : (b : List ℕ) → 0 < length b → get_or b 0 0 ≡ 0 → after_items 0 b ≡ Some (drop 1 b)
items_end [] h z = absurd (omega arith)
items_end (t ∷ []) h z = rw z refl
items_end (t ∷ n ∷ rest) h z = rw z refl

-- a type with no length
pub item_cut : (b : List ℕ) → length b < 2 → (get_or b 0 0 ≡ 0 → ⊥) → after_items 0 b ≡ None
item_cut [] h z = refl
item_cut (t ∷ []) h z = rw (ne_eqb t 0 z) refl
item_cut (t ∷ n ∷ rest) h z = absurd (omega arith)

-- a text that passes the end
pub item_past : (b : List ℕ) → 2 ≤ length b → (get_or b 0 0 ≡ 0 → ⊥) → length b < 2 + get_or b 1 0 → after_items 0 b ≡ None
item_past [] h z l = refl
item_past (t ∷ []) h z l = absurd (omega arith)
item_past (t ∷ n ∷ rest) h z l = rw (ne_eqb t 0 z) (skip_past n rest (omega arith))

-- one whole item
pub item_next : (b : List ℕ) (end : ℕ) → 2 ≤ length b → (get_or b 0 0 ≡ 0 → ⊥) → end ≡ 2 + get_or b 1 0 → end ≤ length b → after_items 0 b ≡ after_items 0 (drop end b)
item_next [] end h z e l = absurd (omega arith)
item_next (t ∷ []) end h z e l = absurd (omega arith)
item_next (t ∷ n ∷ rest) end h z e l =
    let two : end ≡ suc (suc n) = omega arith in
    rw (ne_eqb t 0 z, two) (skip_text n rest (omega arith))

pub ruleset item_cases = (items_end, item_cut, item_past, item_next)

-- the loop over items goes on behind one
pub item_stepped : (b : List ℕ) (end : ℕ) (total : Option (List ℕ)) → 2 ≤ length b → (get_or b 0 0 ≡ 0 → ⊥) → end ≡ 2 + get_or b 1 0 → end ≤ length b
    → after_items 0 b ≡ total → after_items 0 (take (length b - end) (drop end b)) ≡ total
item_stepped b end total two kind size within so_far = ap (after_items 0) (take_rest b end) ∙ sym (item_next b end two kind size within) ∙ so_far

-- the loop over chunks goes on behind one
pub chunk_stepped : (count i : ℕ) (rest next : List ℕ) (total : Option (List ℕ)) → i < count → Some next ≡ after_chunk rest
    → after_chunks (count - i) rest ≡ total → after_chunks (count - (i + 1)) next ≡ total
chunk_stepped count i rest next total lt one so_far =
    let k : count - i ≡ suc (count - (i + 1)) = omega arith in
    let step : after_chunks (count - i) rest ≡ after_chunks (count - (i + 1)) next = rw (k, ← one) refl in
    sym step ∙ so_far

-- a chunk that isn't there
pub chunk_missing : (count i : ℕ) (rest : List ℕ) (total : Option (List ℕ)) → i < count → None ≡ after_chunk rest
    → after_chunks (count - i) rest ≡ total → false ≡ is_some total
chunk_missing count i rest total lt one so_far =
    let k : count - i ≡ suc (count - (i + 1)) = omega arith in
    let step : after_chunks (count - i) rest ≡ None = rw (k, ← one) refl in
    ap is_some (sym step ∙ so_far)

-- after the last chunk
pub chunks_done : (count i : ℕ) (rest : List ℕ) (total : Option (List ℕ)) → count ≤ i → after_chunks (count - i) rest ≡ total → true ≡ is_some total
chunks_done count i rest total le so_far =
    let k : count - i ≡ 0 = omega arith in
    let step : after_chunks (count - i) rest ≡ Some rest = rw k refl in
    ap is_some (sym step ∙ so_far)

-- ---- what is read of items is spelled so, and what is spelled so is read

pub items_read : (items : List Item) (rest : List ℕ) → AllByRecursion IsItem items → after_items 0 (flat_map item_spelling items ++ 0 ∷ rest) ≡ Some rest
items_read [] [] each = refl
items_read [] (x ∷ rest) each = refl
items_read (i ∷ items) rest each =
    let more = flat_map item_spelling items ++ 0 ∷ rest in
    let kind : i.kind ≡ 0 → ⊥ = λ e. omega (arith, each.0.kind) in
    let within : length i.text ≤ length (i.text ++ more) = omega (arith, length-append i.text more) in
    let step : after_items 0 (i.kind ∷ length i.text ∷ (i.text ++ more)) ≡ after_items 0 more =
    rw (ne_eqb i.kind 0 kind) (skip_text (length i.text) (i.text ++ more) within ∙ ap (after_items 0) (drop_at i.text more (length i.text) refl)) in
    ap (after_items 0) (ap (λ (l : List ℕ). l ++ 0 ∷ rest) (flat_map-cons item_spelling i items) ∙ append_assoc (item_spelling i) (flat_map item_spelling items) (0 ∷ rest)) ∙ step ∙ items_read items rest each.1

-- so many octets, items, and what stands after the zero octet
pub record Ends (k : ℕ) (b rest : List ℕ) : Type 0 where
  pub text : List ℕ
  pub items : List Item
  pub size : length text ≡ k
  pub each : AllByRecursion IsItem items
  pub parts : b ≡ text ++ (flat_map item_spelling items ++ 0 ∷ rest)

pub items_spelled : (k : ℕ) (b rest : List ℕ) → AreOctets b → after_items k b ≡ Some rest → Ends k b rest
items_spelled zero [] rest fits e = absurd cc
items_spelled (suc k) [] rest fits e = absurd cc
items_spelled (suc k) (x ∷ b) rest fits e =
    let r = items_spelled k b rest (AreOctets-behind (x ∷ []) b fits) e in
    record { text = x ∷ r.text; items = r.items; size = ap suc r.size; each = r.each; parts = ap (λ (l : List ℕ). x ∷ l) r.parts }
items_spelled zero (kind ∷ []) rest fits e =
    elim (cases_eq kind 0) [
      | inl z ↦ record { text = []; items = []; size = refl; each = tt; parts = ap (λ (n : ℕ). n ∷ []) z ∙ ap (λ (l : List ℕ). 0 ∷ l) (same_Some [] rest (rw z at e)) }
      | inr n ↦ absurd (none-some rest (rw (ne_eqb kind 0 n) at e))
    ]
items_spelled zero (kind ∷ size ∷ b) rest fits e =
    elim (cases_eq kind 0) [
      | inl z ↦ record { text = []; items = []; size = refl; each = tt; parts = ap (λ (n : ℕ). n ∷ size ∷ b) z ∙ ap (λ (l : List ℕ). 0 ∷ l) (same_Some (size ∷ b) rest (rw z at e)) }
      | inr n ↦ (
          let r = items_spelled size b rest (AreOctets-behind (kind ∷ size ∷ []) b fits) (rw (ne_eqb kind 0 n) at e) in
          let one : Item = record { kind = kind; text = r.text } in
          record {
            text = [];
            items = one ∷ r.items;
            size = refl;
            each = (record { kind = omega arith; text = omega (arith, r.size, fits 1) }, r.each);
            parts = ap (λ (l : List ℕ). kind ∷ size ∷ l) r.parts ∙ ap (λ (n : ℕ). kind ∷ n ∷ (r.text ++ (flat_map item_spelling r.items ++ 0 ∷ rest))) (sym r.size)
                ∙ sym (ap (λ (l : List ℕ). l ++ 0 ∷ rest) (flat_map-cons item_spelling one r.items) ∙ append_assoc (item_spelling one) (flat_map item_spelling r.items) (0 ∷ rest));
          }
          )
    ]
