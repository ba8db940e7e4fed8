-- A body begins with so many chunks exactly where the test says so.
use Rattle.std.proofs.Common.{◌≡◌, ℕ, zero, suc, ◌+◌, ◌-◌, ◌%◌, ◌<◌, ◌≤◌, true, List, [], ◌∷◌, ◌++◌, length, take, drop, Option, Some, None, refl, sym, ap, subst, ◌∙◌, append_assoc, arith, length-append, length-drop, inl, inr}
use Rattle.std.specs.Prelude.{option_map, option_and_then, is_some}
use Rattle.std.specs.List.{flat_map, AllByRecursion}
use Rattle.std.proofs.lemmas.List.{take-append-drop, drop_at, length-take}
use Rattle.std.proofs.lemmas.List.Concat.{flat_map-cons}
use Rattle.std.proofs.lemmas.Option.{same_Some, none-some}
use Rattle.std.proofs.lemmas.Bool.{le-ltb, lt-ltb, cases_lt}
use Rattle.octet_fields.proofs.OctetLemmas.{AreOctets, AreOctets-drop, AreOctets-behind}
use Rattle.rtcp_compound.specs.Chunks.{Item, item_spelling, Chunk, IsChunk, chunk_spelling, AreChunks, after_items, whole_words, after_chunk, after_chunks, has_chunks}
use Rattle.rtcp_compound.proofs.ChunkLemmas.{items_read, items_spelled}

-- a chunk that is spelled is stepped over
chunk_read : (c : Chunk) (next : List ℕ) → IsChunk c → length next % 4 ≡ 0 → after_chunk (chunk_spelling c ++ next) ≡ Some next
chunk_read c next fits words =
    let behind = flat_map item_spelling c.items ++ 0 ∷ (c.fill ++ next) in
    let regrouped : chunk_spelling c ++ next ≡ c.source ++ behind =
    append_assoc c.source (flat_map item_spelling c.items ++ 0 ∷ c.fill) next ∙ ap (λ (l : List ℕ). c.source ++ l) (append_assoc (flat_map item_spelling c.items) (0 ∷ c.fill) next) in
    let long : 4 ≤ length (c.source ++ behind) = omega (arith, length-append c.source behind, fits.source) in
    let rest : drop 4 (c.source ++ behind) ≡ behind = drop_at c.source behind 4 fits.source in
    let size : length (c.fill ++ next) % 4 ≡ length c.fill = omega (arith, length-append c.fill next, words, fits.fill) in
    let words_of : whole_words (c.fill ++ next) ≡ next = rw size (drop_at c.fill next (length c.fill) refl) in
    let items : after_items 0 (drop 4 (c.source ++ behind)) ≡ Some (c.fill ++ next) = rw rest (items_read c.items (c.fill ++ next) fits.items) in
    ap after_chunk regrouped ∙ rw (le-ltb (length (c.source ++ behind)) 4 long, items, words_of) refl

-- the octets behind chunks that are whole words
spelled_words : (c : Chunk) (next : List ℕ) → IsChunk c → length (chunk_spelling c ++ next) % 4 ≡ 0 → length next % 4 ≡ 0
spelled_words c next fits words = let whole = fits.whole in omega (arith, length-append (chunk_spelling c) next, whole, words)

chunks_read : (chunks : List Chunk) (rest : List ℕ) → AllByRecursion IsChunk chunks → length (flat_map chunk_spelling chunks ++ rest) % 4 ≡ 0
    → after_chunks (length chunks) (flat_map chunk_spelling chunks ++ rest) ≡ Some rest
chunks_read [] rest each words = refl
chunks_read (c ∷ chunks) rest each words =
    let next = flat_map chunk_spelling chunks ++ rest in
    let regrouped : flat_map chunk_spelling (c ∷ chunks) ++ rest ≡ chunk_spelling c ++ next =
    ap (λ (l : List ℕ). l ++ rest) (flat_map-cons chunk_spelling c chunks) ∙ append_assoc (chunk_spelling c) (flat_map chunk_spelling chunks) rest in
    let words' : length next % 4 ≡ 0 = spelled_words c next each.0 (subst (λ (l : List ℕ). length l % 4 ≡ 0) regrouped words) in
    ap (after_chunks (suc (length chunks))) regrouped ∙ ap (option_and_then (after_chunks (length chunks))) (chunk_read c next each.0 words') ∙ chunks_read chunks rest each.1 words'

pub has_chunks_from : (count : ℕ) (body : List ℕ) → length body % 4 ≡ 0 → AreChunks count body → has_chunks count body ≡ true
has_chunks_from count body words a =
    let words' : length (flat_map chunk_spelling a.chunks ++ a.rest) % 4 ≡ 0 = subst (λ (l : List ℕ). length l % 4 ≡ 0) a.parts words in
    ap (has_chunks count) a.parts ∙ ap (λ (n : ℕ). has_chunks n (flat_map chunk_spelling a.chunks ++ a.rest)) (sym a.all) ∙ ap is_some (chunks_read a.chunks a.rest a.each words')

-- ---- and the other way

pub record Begins (body next : List ℕ) : Type 0 where
  pub chunk : Chunk
  pub fits : IsChunk chunk
  pub parts : body ≡ chunk_spelling chunk ++ next
  pub words : length next % 4 ≡ 0
  pub next_fits : AreOctets next

mapped : (o : Option (List ℕ)) (next : List ℕ) → option_map whole_words o ≡ Some next → (r : List ℕ) × (o ≡ Some r) × (whole_words r ≡ next)
mapped None next e = absurd (none-some next e)
mapped (Some r) next e = (r, refl, same_Some (whole_words r) next e)

nothing : (l : List ℕ) → length l ≡ 0 → l ≡ []
nothing [] e = refl
nothing (x ∷ l) e = absurd (omega arith)

octets_behind : (body r : List ℕ) (items : List Item) → AreOctets body → drop 4 body ≡ flat_map item_spelling items ++ 0 ∷ r → AreOctets r
octets_behind body r items fits tail = AreOctets-behind (0 ∷ []) r (AreOctets-behind (flat_map item_spelling items) (0 ∷ r) (subst AreOctets tail (AreOctets-drop 4 body fits)))

chunk_spelled : (body next : List ℕ) → AreOctets body → length body % 4 ≡ 0 → after_chunk body ≡ Some next → Begins body next
chunk_spelled body next fits words e =
    elim (cases_lt (length body) 4) [
      | inl lt ↦ absurd (none-some next (rw (lt-ltb (length body) 4 lt) at e))
      | inr le ↦ (
          let m = mapped (after_items 0 (drop 4 body)) next (rw (le-ltb (length body) 4 le) at e) in
          let r = m.0 in
          let ends = items_spelled 0 (drop 4 body) r (AreOctets-drop 4 body fits) m.1 in
          let fill = take (length r % 4) r in
          let c : Chunk = record { source = take 4 body; items = ends.items; fill = fill } in
          let empty : ends.text ≡ [] = nothing ends.text ends.size in
          let tail : drop 4 body ≡ flat_map item_spelling ends.items ++ 0 ∷ r = ends.parts ∙ ap (λ (l : List ℕ). l ++ (flat_map item_spelling ends.items ++ 0 ∷ r)) empty in
          let behind : r ≡ fill ++ next = sym (take-append-drop (length r % 4) r) ∙ ap (λ (l : List ℕ). fill ++ l) m.2 in
          let source : length (take 4 body) ≡ 4 = omega (arith, length-take 4 body) in
          let parts : body ≡ chunk_spelling c ++ next =
          sym (take-append-drop 4 body) ∙ ap (λ (l : List ℕ). take 4 body ++ l) (tail ∙ ap (λ (l : List ℕ). flat_map item_spelling ends.items ++ 0 ∷ l) behind ∙ sym (append_assoc (flat_map item_spelling ends.items) (0 ∷ fill) next))
          ∙ sym (append_assoc (take 4 body) (flat_map item_spelling ends.items ++ 0 ∷ fill) next) in
          let next_size : length next ≡ length r - length r % 4 = sym (ap length m.2) ∙ length-drop (length r % 4) r in
          let size : length body ≡ length (chunk_spelling c) + length next = ap length parts ∙ length-append (chunk_spelling c) next in
          let words' : length next % 4 ≡ 0 = omega (arith, next_size) in
          let short : length fill < 4 = omega (arith, length-take (length r % 4) r) in
          let whole : length (chunk_spelling c) % 4 ≡ 0 = omega (arith, size, words, words') in
          record {
            chunk = c;
            fits = record { source = source; items = ends.each; fill = short; whole = whole };
            parts = parts;
            words = words';
            next_fits = subst AreOctets m.2 (AreOctets-drop (length r % 4) r (octets_behind body r ends.items fits tail));
          }
          )
    ]

then_some : (o : Option (List ℕ)) (count : ℕ) (rest : List ℕ) → option_and_then (after_chunks count) o ≡ Some rest → (next : List ℕ) × (o ≡ Some next) × (after_chunks count next ≡ Some rest)
then_some None count rest e = absurd (none-some rest e)
then_some (Some next) count rest e = (next, refl, e)

chunks_spelled : (count : ℕ) (body rest : List ℕ) → AreOctets body → length body % 4 ≡ 0 → after_chunks count body ≡ Some rest → AreChunks count body
chunks_spelled zero body rest fits words e = record { chunks = []; rest = body; all = refl; each = tt; parts = refl }
chunks_spelled (suc count) body rest fits words e =
    let s = then_some (after_chunk body) count rest e in
    let b = chunk_spelled body s.0 fits words s.1 in
    let more = chunks_spelled count s.0 rest b.next_fits b.words s.2 in
    record {
      chunks = b.chunk ∷ more.chunks;
      rest = more.rest;
      all = ap suc more.all;
      each = (b.fits, more.each);
      parts = b.parts ∙ ap (λ (l : List ℕ). chunk_spelling b.chunk ++ l) more.parts ∙ sym (append_assoc (chunk_spelling b.chunk) (flat_map chunk_spelling more.chunks) more.rest) ∙ ap (λ (l : List ℕ). l ++ more.rest) (sym (flat_map-cons chunk_spelling b.chunk more.chunks));
    }

some_is : (o : Option (List ℕ)) → is_some o ≡ true → (r : List ℕ) × (o ≡ Some r)
some_is None e = absurd cc
some_is (Some r) e = (r, refl)

pub chunks_from : (count : ℕ) (body : List ℕ) → AreOctets body → length body % 4 ≡ 0 → has_chunks count body ≡ true → AreChunks count body
chunks_from count body fits words e =
    let s = some_is (after_chunks count body) e in
    chunks_spelled count body s.0 fits words s.1
