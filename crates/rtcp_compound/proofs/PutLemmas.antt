-- What each put writes, by its own numbers.
use Rattle.std.proofs.Common.{◌≡◌, ℕ, ◌^◌, ◌<◌, List, [], ◌∷◌, ◌++◌, length, Result, refl, sym, subst, arith, inl, inr}
use Rattle.std.specs.Prelude.{OnOk, ⊤, ◌⊎◌}
use Rattle.std.specs.Int.{w32, to_be_bytes}
use Rattle.std.proofs.lemmas.Nat.{from_be_bytes-to_be_bytes_4}
use Rattle.std.proofs.lemmas.List.{take_at, drop_at}
use Rattle.rtcp_compound.specs.Chunks.{Item, Chunk}
use Rattle.rtcp_compound.specs.Compound.{Content, sender_report, receiver_report, application, feedback, content, number_at, Holds}
use Rattle.rtcp_compound.specs.Writing.{Written, with_packet, plain, name_item}

pub sr_content : (a b c d e f : ℕ) → a < 2 ^ 32 → b < 2 ^ 32 → c < 2 ^ 32 → d < 2 ^ 32 → e < 2 ^ 32 → f < 2 ^ 32
    → content (plain 0 200 (a ∷ b ∷ c ∷ d ∷ e ∷ f ∷ []) []) ≡ sender_report a b c d e f []
unfolding number_at
sr_content a b c d e f la lb lc ld le lf =
    λ i. sender_report (from_be_bytes-to_be_bytes_4 a la i) (from_be_bytes-to_be_bytes_4 b lb i) (from_be_bytes-to_be_bytes_4 c lc i) (from_be_bytes-to_be_bytes_4 d ld i) (from_be_bytes-to_be_bytes_4 e le i) (from_be_bytes-to_be_bytes_4 f lf i) []

pub rr_content : (a : ℕ) → a < 2 ^ 32 → content (plain 0 201 (a ∷ []) []) ≡ receiver_report a []
unfolding number_at
rr_content a la = λ i. receiver_report (from_be_bytes-to_be_bytes_4 a la i) []

feedback_content_205 : (format a b : ℕ) (words : List ℕ) → a < 2 ^ 32 → b < 2 ^ 32 → content (plain format 205 (a ∷ b ∷ []) words) ≡ feedback 205 format a b words
unfolding number_at
feedback_content_205 format a b words la lb = λ i. feedback 205 format (from_be_bytes-to_be_bytes_4 a la i) (from_be_bytes-to_be_bytes_4 b lb i) words

feedback_content_206 : (format a b : ℕ) (words : List ℕ) → a < 2 ^ 32 → b < 2 ^ 32 → content (plain format 206 (a ∷ b ∷ []) words) ≡ feedback 206 format a b words
unfolding number_at
feedback_content_206 format a b words la lb = λ i. feedback 206 format (from_be_bytes-to_be_bytes_4 a la i) (from_be_bytes-to_be_bytes_4 b lb i) words

pub feedback_content : (kind format a b : ℕ) (words : List ℕ) → ((kind ≡ 205) ⊎ (kind ≡ 206)) → a < 2 ^ 32 → b < 2 ^ 32
    → content (plain format kind (a ∷ b ∷ []) words) ≡ feedback kind format a b words
feedback_content kind format a b words (inl e) la lb = subst (λ (k : ℕ). content (plain format k (a ∷ b ∷ []) words) ≡ feedback k format a b words) (sym e) (feedback_content_205 format a b words la lb)
feedback_content kind format a b words (inr e) la lb = subst (λ (k : ℕ). content (plain format k (a ∷ b ∷ []) words) ≡ feedback k format a b words) (sym e) (feedback_content_206 format a b words la lb)

pub app_content : (subtype a : ℕ) (name words : List ℕ) → length name ≡ 4 → a < 2 ^ 32 → content (plain subtype 204 (a ∷ []) (name ++ words)) ≡ application subtype a name words
unfolding number_at
app_content subtype a name words size la =
    let front = take_at name words 4 size in
    let rest = drop_at name words 4 size in
    λ i. application subtype (from_be_bytes-to_be_bytes_4 a la i) (front i) (rest i)

-- the clause of a put by another name of what it wrote
pub ok_as : {E : Type 0} (r : Result ⊤ E) (new old : Written) (p q : Content) (s t : List ℕ) → p ≡ q → s ≡ t → OnOk r (new ≡ with_packet old p s) → OnOk r (new ≡ with_packet old q t)
ok_as r new old p q s t e f h = subst (λ (x : List ℕ). OnOk r (new ≡ with_packet old q x)) f (subst (λ (x : Content). OnOk r (new ≡ with_packet old x s)) e h)

-- the one chunk of a description
pub named : (a : ℕ) → Holds 202 1 (to_be_bytes w32 a ++ name_item)
named a =
    let item : Item = record { kind = 1; text = 114 ∷ 105 ∷ 115 ∷ 116 ∷ [] } in
    let chunk : Chunk = record { source = to_be_bytes w32 a; items = item ∷ []; fill = 0 ∷ [] } in
    record {
      sender_report = λ e. absurd (omega (arith, e));
      receiver_report = λ e. absurd (omega (arith, e));
      description = λ e. record {
        chunks = chunk ∷ [];
        rest = [];
        all = refl;
        each = (record { source = refl; items = (record { kind = omega arith; text = omega arith }, tt); fill = omega arith; whole = refl }, tt);
        parts = refl;
      };
      goodbye = λ e. absurd (omega (arith, e));
      application = λ e. absurd (omega (arith, e));
      feedback = λ e. absurd (elim e [ inl x ↦ omega (arith, x) | inr x ↦ omega (arith, x) ]);
    }
