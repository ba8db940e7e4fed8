-- The chunks of a source description (RFC 3550, section 6.5).
use Rattle.std.specs.Prelude.{◌≡◌, ℕ, zero, suc, ◌<◌, ◌%◌, List, [], ◌∷◌, ◌++◌, length, drop, Option, Some, None, Bool}
use Rattle.std.specs.Prelude.{is_some, if◌then◌else◌, ◌==◌, nat_lt, option_map, option_and_then}
use Rattle.std.specs.List.{flat_map, AllByRecursion}

-- an item: its type, which is not 0, and a text
pub record Item : Type 0 where
  pub kind : ℕ
  pub text : List ℕ

-- each fits its octet, and the type isn't 0
pub record IsItem (i : Item) : Type 0 where
  pub kind : 0 < i.kind
  pub text : length i.text < 256

-- type, length and text
abbrev pub item_spelling : Item → List ℕ
item_spelling i = i.kind ∷ length i.text ∷ i.text

-- a chunk: the SSRC's four octets, items, and what fills it after the zero octet
pub record Chunk : Type 0 where
  pub source : List ℕ
  pub items : List Item
  pub fill : List ℕ

-- the SSRC, the items, a zero octet and the fill
abbrev pub chunk_spelling : Chunk → List ℕ
chunk_spelling c = c.source ++ (flat_map item_spelling c.items ++ 0 ∷ c.fill)

-- it is filled up to the next 32-bit boundary, by any octets
pub record IsChunk (c : Chunk) : Type 0 where
  pub source : length c.source ≡ 4
  pub items : AllByRecursion IsItem c.items
  pub fill : length c.fill < 4
  pub whole : length (chunk_spelling c) % 4 ≡ 0

-- the body begins with so many chunks
pub record AreChunks (count : ℕ) (body : List ℕ) : Type 0 where
  pub chunks : List Chunk
  pub rest : List ℕ
  pub all : length chunks ≡ count
  pub each : AllByRecursion IsChunk chunks
  pub parts : body ≡ flat_map chunk_spelling chunks ++ rest

-- what stands after so many octets, the items that follow and the zero octet
abbrev pub after_items : ℕ → List ℕ → Option (List ℕ)
after_items zero [] = None
after_items (suc k) [] = None
after_items (suc k) (b ∷ rest) = after_items k rest
after_items zero (kind ∷ []) = if kind == 0 then Some [] else None
after_items zero (kind ∷ size ∷ rest) = if kind == 0 then Some (size ∷ rest) else after_items size rest

-- what stands after the fill: whole words
abbrev pub whole_words : List ℕ → List ℕ
whole_words rest = drop (length rest % 4) rest

-- what stands after one chunk, in a body of whole words
abbrev pub after_chunk : List ℕ → Option (List ℕ)
after_chunk body = if nat_lt (length body) 4 then None else option_map whole_words (after_items 0 (drop 4 body))

-- what stands after so many chunks
abbrev pub after_chunks : ℕ → List ℕ → Option (List ℕ)
after_chunks zero body = Some body
after_chunks (suc n) body = option_and_then (after_chunks n) (after_chunk body)

-- whether a body of whole words begins with so many chunks
abbrev pub has_chunks : ℕ → List ℕ → Bool
has_chunks count body = is_some (after_chunks count body)
