-- The packet at the front: what passes the tests is spelled so, and what is spelled so passes them.
use Rattle.std.proofs.Common.{◌≡◌, ℕ, zero, suc, ◌+◌, ◌-◌, ◌*◌, ◌/◌, ◌%◌, ◌^◌, ◌<◌, ◌≤◌, Bool, true, false, List, [], ◌∷◌, ◌++◌, length, take, drop, get_or, None, refl, sym, ap, subst, ◌∙◌, arith, length-append, length-drop, inl, inr}
use Rattle.std.specs.Prelude.{not, ◌&&◌, ◌⊎◌, nat_le}
use Rattle.std.specs.Int.{w16, from_be_bytes, to_be_bytes}
use Rattle.std.proofs.lemmas.Nat.{be_bytes_2, from_be_bytes-to_be_bytes_2}
use Rattle.std.proofs.lemmas.List.{take-append-drop, take_at, length-take, take-take, drop-take, drop-drop, get_or-drop, get_or-take, get_or-append-add, append-nil, nil_from_length}
use Rattle.std.proofs.lemmas.Bool.{eqb-true, eqb-false, ne_eqb, eq-eqb, leb-true, le-leb, cases_eq, and_parts, and_from, or_right}
use Rattle.octet_fields.proofs.OctetLemmas.{AreOctets, AreOctets-drop, AreOctets-take}
use Rattle.rtcp_compound.specs.Compound.{Wire, IsWire, spelling, padding_bit, IsPadding, IsReason, Holds, IsReport}
use Rattle.rtcp_compound.specs.Reading.{version_in, is_padded, count_in, kind_in, length_in, padding_in, body_in, pads_well, is_reason, has_body, fault_at}
use Rattle.rtcp_compound.proofs.ChunkLaws.{chunks_from, has_chunks_from}
use Rattle.rtcp_compound.proofs.PacketLemmas.{Passes, passed, Pads, padding_cases, padding_within, pads_from, header_within}

-- the packet at the front
abbrev pub padding_octets : List ℕ → List ℕ
padding_octets b = take (padding_in b) (drop (length_in b - padding_in b - 4) (drop 4 b))

abbrev pub wire_in : List ℕ → Wire
wire_in b = record { count = count_in b; kind = kind_in b; body = body_in b; padding = padding_octets b }

-- two parts of a list one after another
parts_join : (n m : ℕ) (l : List ℕ) → take n l ++ take m (drop n l) ≡ take (n + m) l
parts_join n m l =
    ap (λ (x : List ℕ). x ++ take m (drop n l)) (sym (take-take n (n + m) l (omega arith))) ∙ ap (λ (x : List ℕ). take n (take (n + m) l) ++ x) (sym (drop-take n m l)) ∙ take-append-drop n (take (n + m) l)

padding_from : (l : List ℕ) → length l % 4 ≡ 0 → get_or l (length l - 1) 0 ≡ length l → IsPadding l
padding_from [] words last = tt
padding_from (x ∷ l) words last = (words, ap (λ (k : ℕ). get_or (x ∷ l) k 0) (omega arith) ∙ last)

no_bit : (l : List ℕ) → length l ≡ 0 → padding_bit l ≡ 0
no_bit [] e = refl
no_bit (x ∷ l) e = absurd (omega arith)

some_bit : (l : List ℕ) → (length l ≡ 0 → ⊥) → padding_bit l ≡ 32
some_bit [] e = absurd (e refl)
some_bit (x ∷ l) e = refl

-- nothing, or a length and at least so many octets
reason_from : (l : List ℕ) → is_reason l ≡ true → IsReason l
reason_from [] e = tt
reason_from (x ∷ l) e = leb-true x (length l) e

is_reason_from : (l : List ℕ) → IsReason l → is_reason l ≡ true
is_reason_from [] e = refl
is_reason_from (x ∷ l) e = le-leb x (length l) e

goodbye_from : (count : ℕ) (body : List ℕ) → (nat_le (4 * count) (length body) && is_reason (drop (4 * count) body)) ≡ true → (4 * count ≤ length body) × IsReason (drop (4 * count) body)
goodbye_from count body e =
    let p = and_parts (nat_le (4 * count) (length body)) (is_reason (drop (4 * count) body)) e in
    (leb-true _ _ p.0, reason_from _ p.1)

pub holds_from : (kind count : ℕ) (body : List ℕ) → AreOctets body → length body % 4 ≡ 0 → has_body kind count body ≡ true → Holds kind count body
holds_from kind count body fits words e = record {
  sender_report = λ k. leb-true (24 + 24 * count) (length body) (subst (λ (n : ℕ). has_body n count body ≡ true) k e);
  receiver_report = λ k. leb-true (4 + 24 * count) (length body) (subst (λ (n : ℕ). has_body n count body ≡ true) k e);
  description = λ k. chunks_from count body fits words (subst (λ (n : ℕ). has_body n count body ≡ true) k e);
  goodbye = λ k. goodbye_from count body (subst (λ (n : ℕ). has_body n count body ≡ true) k e);
  application = λ k. leb-true 8 (length body) (subst (λ (n : ℕ). has_body n count body ≡ true) k e);
  feedback = λ k. leb-true 8 (length body) (elim k [ inl x ↦ subst (λ (n : ℕ). has_body n count body ≡ true) x e | inr x ↦ subst (λ (n : ℕ). has_body n count body ≡ true) x e ]);
}

-- the type is one of those with a least body, or another
data Known (kind : ℕ) : Type 0 where
  known_200 : kind ≡ 200 → Known kind
  known_201 : kind ≡ 201 → Known kind
  known_202 : kind ≡ 202 → Known kind
  known_203 : kind ≡ 203 → Known kind
  known_204 : kind ≡ 204 → Known kind
  known_205 : kind ≡ 205 → Known kind
  known_206 : kind ≡ 206 → Known kind
  unknown : (kind ≡ 200 → ⊥) → (kind ≡ 201 → ⊥) → (kind ≡ 202 → ⊥) → (kind ≡ 203 → ⊥) → (kind ≡ 204 → ⊥) → (kind ≡ 205 → ⊥) → (kind ≡ 206 → ⊥) → Known kind

known : (kind : ℕ) → Known kind
known kind =
    elim (cases_eq kind 200) [
      | inl a ↦ known_200 a
      | inr a ↦
          elim (cases_eq kind 201) [
            | inl b ↦ known_201 b
            | inr b ↦
                elim (cases_eq kind 202) [
                  | inl c ↦ known_202 c
                  | inr c ↦
                      elim (cases_eq kind 203) [
                        | inl d ↦ known_203 d
                        | inr d ↦
                            elim (cases_eq kind 204) [
                              | inl e ↦ known_204 e
                              | inr e ↦
                                  elim (cases_eq kind 205) [
                                    | inl f ↦ known_205 f
                                    | inr f ↦
                                        elim (cases_eq kind 206) [ inl g ↦ known_206 g | inr g ↦ unknown a b c d e f g ]
                                  ]
                            ]
                      ]
                ]
          ]
    ]

goodbye_is : (count : ℕ) (body : List ℕ) → (4 * count ≤ length body) × IsReason (drop (4 * count) body) → (nat_le (4 * count) (length body) && is_reason (drop (4 * count) body)) ≡ true
goodbye_is count body p = and_from _ _ (le-leb (4 * count) (length body) p.0) (is_reason_from (drop (4 * count) body) p.1)

pub has_body_from : (kind count : ℕ) (body : List ℕ) → length body % 4 ≡ 0 → Holds kind count body → has_body kind count body ≡ true
has_body_from kind count body words h =
    elim (known kind) [
      | known_200 k ↦ subst (λ (n : ℕ). has_body n count body ≡ true) (sym k) (le-leb (24 + 24 * count) (length body) (h.sender_report k))
      | known_201 k ↦ subst (λ (n : ℕ). has_body n count body ≡ true) (sym k) (le-leb (4 + 24 * count) (length body) (h.receiver_report k))
      | known_202 k ↦ subst (λ (n : ℕ). has_body n count body ≡ true) (sym k) (has_chunks_from count body words (h.description k))
      | known_203 k ↦ subst (λ (n : ℕ). has_body n count body ≡ true) (sym k) (goodbye_is count body (h.goodbye k))
      | known_204 k ↦ subst (λ (n : ℕ). has_body n count body ≡ true) (sym k) (le-leb 8 (length body) (h.application k))
      | known_205 k ↦ subst (λ (n : ℕ). has_body n count body ≡ true) (sym k) (le-leb 8 (length body) (h.feedback (inl k)))
      | known_206 k ↦ subst (λ (n : ℕ). has_body n count body ≡ true) (sym k) (le-leb 8 (length body) (h.feedback (inr k)))
      | unknown a b c d e f g ↦ rw (ne_eqb kind 200 a, ne_eqb kind 201 b, ne_eqb kind 202 c, ne_eqb kind 203 d, ne_eqb kind 204 e, ne_eqb kind 205 f, ne_eqb kind 206 g) refl
    ]

-- ---- what passes the tests is spelled so

pos_of_ne : (n : ℕ) → (n ≡ 0 → ⊥) → 0 < n
pos_of_ne zero h = absurd (h refl)
pos_of_ne (suc n) h = omega arith

length_is : (b : List ℕ) → length_in b ≡ 4 * (from_be_bytes w16 (take 2 (drop 2 b)) + 1)
unfolding length_in
length_is b = refl

-- the sizes of the parts
pub record Sizes (b : List ℕ) : Type 0 where
  pub body : length (body_in b) + padding_in b + 4 ≡ length_in b
  pub padding : length (padding_octets b) ≡ padding_in b
  pub joined : body_in b ++ padding_octets b ≡ take (length_in b - 4) (drop 4 b)

sizes : (b : List ℕ) → length_in b ≤ length b → padding_in b + 4 ≤ length_in b → Sizes b
sizes b whole padded =
    let n = length_in b in
    let p = padding_in b in
    let left : length (drop 4 b) ≡ length b - 4 = length-drop 4 b in
    let body : length (body_in b) ≡ n - p - 4 = omega (arith, length-take (n - p - 4) (drop 4 b), left) in
    let padding : length (padding_octets b) ≡ p = omega (arith, length-take p (drop (n - p - 4) (drop 4 b)), length-drop (n - p - 4) (drop 4 b), left) in
    record {
      body = omega arith;
      padding = padding;
      joined = parts_join (n - p - 4) p (drop 4 b) ∙ ap (λ (k : ℕ). take k (drop 4 b)) (omega arith);
    }

-- the padding of the packet at the front
pub record PaddingOf (b : List ℕ) : Type 0 where
  pub words : padding_in b % 4 ≡ 0
  pub fits : IsPadding (padding_octets b)
  pub bit : padding_bit (padding_octets b) ≡ 32 * (get_or b 0 0 / 32 % 2)
  pub last : length_in b < length b → padding_octets b ≡ []

last_octet : (b : List ℕ) → length_in b ≤ length b → Pads (length_in b) (length b) (padding_in b) → get_or (padding_octets b) (padding_in b - 1) 0 ≡ get_or b (length_in b - 1) 0
last_octet b whole p =
    let n = length_in b in
    let q = padding_in b in
    let some : 0 < q = pos_of_ne q p.some in
    let place : 4 + (n - q - 4 + (q - 1)) ≡ n - 1 = omega (arith, p.within, header_within b) in
    get_or-take q (drop (n - q - 4) (drop 4 b)) (q - 1) 0 (omega arith) ∙ get_or-drop (n - q - 4) (drop 4 b) (q - 1) 0 ∙ get_or-drop 4 b (n - q - 4 + (q - 1)) 0 ∙ ap (λ (k : ℕ). get_or b k 0) place

padding_of : (b : List ℕ) → length_in b ≤ length b → pads_well b ≡ true → PaddingOf b
padding_of b whole pads =
    let size = sizes b whole (padding_within b pads) in
    elim (padding_cases b pads) [
      | inl f ↦ (
          let none : padding_in b ≡ 0 = rw f refl in
          let empty : padding_octets b ≡ [] = nil_from_length (padding_octets b) (size.padding ∙ none) in
          let bit0 : get_or b 0 0 / 32 % 2 ≡ 0 = omega (arith, eqb-false (get_or b 0 0 / 32 % 2) 1 f) in
          record { words = omega arith; fits = subst IsPadding (sym empty) tt; bit = no_bit (padding_octets b) (ap length empty) ∙ omega arith; last = λ lt. empty }
          )
      | inr t ↦ (
          let p = t.1 in
          let last : get_or (padding_octets b) (padding_in b - 1) 0 ≡ padding_in b = last_octet b whole p ∙ sym (rw t.0 refl) in
          let bit1 : get_or b 0 0 / 32 % 2 ≡ 1 = eqb-true (get_or b 0 0 / 32 % 2) 1 t.0 in
          record {
            words = p.words;
            fits = padding_from (padding_octets b) (ap (λ (k : ℕ). k % 4) size.padding ∙ p.words) (ap (λ (k : ℕ). get_or (padding_octets b) (k - 1) 0) size.padding ∙ last ∙ sym size.padding);
            bit = some_bit (padding_octets b) (λ e. p.some (sym size.padding ∙ e)) ∙ omega arith;
            last = λ lt. absurd (omega (arith, p.last));
          }
          )
    ]

pub record Front (first : Bool) (b : List ℕ) : Type 0 where
  pub parts : b ≡ spelling (wire_in b) ++ drop (length_in b) b
  pub fits : IsWire (wire_in b)
  pub last : length_in b < length b → padding_octets b ≡ []
  pub report : first ≡ true → IsReport (kind_in b)

head_is : (h bit : ℕ) → h / 64 ≡ 2 → bit ≡ 32 * (h / 32 % 2) → 128 + bit + h % 32 ≡ h
head_is h bit v e = omega arith

front_is : (first : Bool) (b : List ℕ) → AreOctets b → Passes first b → Front first b
front_is first [] fits p = absurd (omega (arith, p.header))
front_is first (h ∷ []) fits p = absurd (omega (arith, p.header))
front_is first (h ∷ k ∷ []) fits p = absurd (omega (arith, p.header))
front_is first (h ∷ k ∷ x ∷ []) fits p = absurd (omega (arith, p.header))
front_is first (h ∷ k ∷ x ∷ y ∷ t) fits p =
    let b = h ∷ k ∷ x ∷ y ∷ t in
    let n = length_in b in
    let w = from_be_bytes w16 (x ∷ y ∷ []) in
    let n-is : n ≡ 4 * (w + 1) = length_is b in
    let below : w < 2 ^ 16 = omega (arith, fits 2, fits 3) in
    let size = sizes b p.whole (padding_within b p.pads) in
    let pad = padding_of b p.whole p.pads in
    let total : length (body_in b) + length (padding_octets b) ≡ 4 * w = omega (arith, size.body, size.padding) in
    let words : to_be_bytes w16 ((length (body_in b) + length (padding_octets b)) / 4) ≡ x ∷ y ∷ [] =
    be_bytes_2 (x ∷ y ∷ []) _ refl (AreOctets-take 2 (x ∷ y ∷ t) (AreOctets-drop 2 b fits)) (omega (arith, total)) in
    let behind : drop n b ≡ drop (n - 4) t = ap (λ (j : ℕ). drop j b) (omega arith) ∙ sym (drop-drop (n - 4) 4 b) in
    let rest : (body_in b ++ padding_octets b) ++ drop n b ≡ t = ap (λ (l : List ℕ). l ++ drop n b) size.joined ∙ ap (λ (l : List ℕ). take (n - 4) t ++ l) behind ∙ take-append-drop (n - 4) t in
    let head : 128 + padding_bit (padding_octets b) + h % 32 ≡ h = head_is h (padding_bit (padding_octets b)) p.version pad.bit in
    let whole : spelling (wire_in b) ++ drop n b ≡ b =
    ap (λ (c : ℕ). c ∷ k ∷ ((to_be_bytes w16 ((length (body_in b) + length (padding_octets b)) / 4) ++ (body_in b ++ padding_octets b)) ++ drop n b)) head
    ∙ ap (λ (l : List ℕ). h ∷ k ∷ ((l ++ (body_in b ++ padding_octets b)) ++ drop n b)) words
    ∙ ap (λ (l : List ℕ). h ∷ k ∷ x ∷ y ∷ l) rest in
    let held = holds_from k (h % 32) (body_in b) (AreOctets-take _ t (AreOctets-drop 4 b fits)) (omega (arith, size.body, pad.words)) p.body in
    record {
      parts = sym whole;
      fits = record {
        count = omega arith;
        low = p.low;
        high = p.high;
        whole = omega (arith, total);
        size = omega (arith, total);
        padding = pad.fits;
        body = held;
      };
      last = pad.last;
      report = p.report;
    }

-- the packet at the front is the spelling of its parts
pub front : (first : Bool) (b : List ℕ) → AreOctets b → fault_at first b ≡ None → Front first b
front first b fits e = front_is first b fits (passed first b e)

-- ---- what is spelled so passes the tests

-- what is read of a packet that is spelled, whatever follows it
pub record Again (first : Bool) (w : Wire) (rest : List ℕ) : Type 0 where
  pub passes : Passes first (spelling w ++ rest)
  pub size : length_in (spelling w ++ rest) ≡ length (spelling w)
  pub count : count_in (spelling w ++ rest) ≡ w.count
  pub body : body_in (spelling w ++ rest) ≡ w.body

pub spelling_size : (w : Wire) → length (spelling w) ≡ 4 + (length w.body + length w.padding)
spelling_size w = ap (λ (n : ℕ). suc (suc (suc (suc n)))) (length-append w.body w.padding) ∙ omega arith

size_again : (w : Wire) (rest : List ℕ) → IsWire w → length_in (spelling w ++ rest) ≡ 4 + (length w.body + length w.padding)
size_again w rest f =
    let m = (length w.body + length w.padding) / 4 in
    let whole = f.whole in
    let size = f.size in
    let back : from_be_bytes w16 (to_be_bytes w16 m) ≡ m = from_be_bytes-to_be_bytes_2 m (omega arith) in
    length_is (spelling w ++ rest) ∙ ap (λ (n : ℕ). 4 * (n + 1)) back ∙ omega arith

-- the tests of the header, and what the body holds
passes_from : (first : Bool) (w : Wire) (rest : List ℕ) → IsWire w → (first ≡ true → IsReport w.kind) → version_in (spelling w ++ rest) ≡ 2
    → pads_well (spelling w ++ rest) ≡ true → length w.body % 4 ≡ 0 → count_in (spelling w ++ rest) ≡ w.count → body_in (spelling w ++ rest) ≡ w.body
    → Again first w rest
passes_from first w rest f report version pads words count body =
    let b = spelling w ++ rest in
    let n = size_again w rest f in
    let all : length b ≡ length (spelling w) + length rest = length-append (spelling w) rest in
    let long = spelling_size w in
    record {
      passes = record {
        header = omega (arith, all, long);
        version = version;
        low = f.low;
        high = f.high;
        report = report;
        whole = omega (arith, all, long, n);
        pads = pads;
        body = rw (count, body) (has_body_from w.kind w.count w.body words f.body);
      };
      size = n ∙ sym long;
      count = count;
      body = body;
    }

again_plain : (first : Bool) (count kind : ℕ) (body rest : List ℕ) → let w : Wire = record { count = count; kind = kind; body = body; padding = [] } in
    IsWire w → (first ≡ true → IsReport kind) → Again first w rest
again_plain first count kind body rest f report =
    let w : Wire = record { count = count; kind = kind; body = body; padding = [] } in
    let b = spelling w ++ rest in
    let small = f.count in
    let whole = f.whole in
    let unpadded : is_padded b ≡ false = ne_eqb ((128 + 0 + count) / 32 % 2) 1 (λ e. omega (arith, e)) in
    let n : length_in b ≡ 4 + (length body + 0) = size_again w rest f in
    let none : padding_in b ≡ 0 = rw unpadded refl in
    let content : body_in b ≡ body =
    ap (λ (k : ℕ). take k ((body ++ []) ++ rest)) (omega (arith, n, none)) ∙ ap (λ (l : List ℕ). take (length body) (l ++ rest)) (append-nil body) ∙ take_at body rest (length body) refl in
    passes_from first w rest f report (omega arith) (rw unpadded refl) (omega arith) (omega arith) content

again_padded : (first : Bool) (count kind : ℕ) (body : List ℕ) (x : ℕ) (xs : List ℕ) → let w : Wire = record { count = count; kind = kind; body = body; padding = x ∷ xs } in
    IsWire w → (first ≡ true → IsReport kind) → Again first w []
again_padded first count kind body x xs f report =
    let w : Wire = record { count = count; kind = kind; body = body; padding = x ∷ xs } in
    let b = spelling w ++ [] in
    let small = f.count in
    let whole = f.whole in
    let words = f.padding.0 in
    let padded : is_padded b ≡ true = eq-eqb ((128 + 32 + count) / 32 % 2) 1 (omega arith) in
    let n : length_in b ≡ 4 + (length body + suc (length xs)) = size_again w [] f in
    let last : get_or b (length_in b - 1) 0 ≡ suc (length xs) =
    ap (λ (k : ℕ). get_or b k 0) (omega (arith, n)) ∙ sym (get_or-drop 4 b (length body + length xs) 0) ∙ ap (λ (l : List ℕ). get_or l (length body + length xs) 0) (append-nil (body ++ x ∷ xs)) ∙ get_or-append-add body (x ∷ xs) (length xs) 0 ∙ f.padding.1 in
    let count_of : padding_in b ≡ suc (length xs) = rw padded last in
    let size : length b ≡ 4 + (length body + suc (length xs)) = ap length (append-nil (spelling w)) ∙ spelling_size w in
    let content : body_in b ≡ body =
    ap (λ (k : ℕ). take k ((body ++ x ∷ xs) ++ [])) (omega (arith, n, count_of)) ∙ ap (take (length body)) (append-nil (body ++ x ∷ xs)) ∙ take_at body (x ∷ xs) (length body) refl in
    let pads : Pads (length_in b) (length b) (padding_in b) = record { last = n ∙ sym size; some = λ e. omega (arith, count_of, e); words = ap (λ (k : ℕ). k % 4) count_of ∙ words; within = omega (arith, n, count_of) } in
    passes_from first w [] f report (omega arith) (or_right (not (is_padded b)) _ (pads_from (length_in b) (length b) (padding_in b) pads)) (omega (arith, words)) (omega arith) content

again_parts : (first : Bool) (padding : List ℕ) (count kind : ℕ) (body rest : List ℕ) → let w : Wire = record { count = count; kind = kind; body = body; padding = padding } in
    IsWire w → ((padding ≡ []) ⊎ (rest ≡ [])) → (first ≡ true → IsReport kind) → Again first w rest
again_parts first [] count kind body rest f place report = again_plain first count kind body rest f report
again_parts first (x ∷ xs) count kind body rest f (inl none) report = absurd cc
again_parts first (x ∷ xs) count kind body rest f (inr end) report = subst (Again first (record { count = count; kind = kind; body = body; padding = x ∷ xs })) (sym end) (again_padded first count kind body x xs f report)

-- a packet that is spelled is read again, whatever follows it, or at the end if it has padding
pub again : (first : Bool) (w : Wire) (rest : List ℕ) → IsWire w → ((w.padding ≡ []) ⊎ (rest ≡ [])) → (first ≡ true → IsReport w.kind) → Again first w rest
again first w rest f place report = again_parts first w.padding w.count w.kind w.body rest f place report
