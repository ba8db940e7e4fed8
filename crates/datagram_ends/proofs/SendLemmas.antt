-- A payload that went as it is, and the parts of a piece.
use Rattle.std.proofs.Common.{◌≡◌, ◌∙◌, ◌++◌, ◌∷◌, ◌+◌, ◌*◌, ◌<◌, ◌≤◌, ℕ, suc, List, [], length, take, drop, drop-drop, Option, Ok, Err, Result, OnOk, OnErr, ap, subst, sym, refl, arith}
use Rattle.std.specs.Option.{option_map}
use Rattle.link_channels.specs.declared.bounds.TheConstants.{MAX_PAYLOAD}
use Rattle.media_address.specs.declared.address.Form.TheVariants as forms
use Rattle.datagram_ends.specs.Media.{datagram_of}
use Rattle.datagram_ends.specs.Ends.{DatagramSinkState, IsHeadIn, Moments, Sends, SendsFirst, SendsFront, SendsParts, behind, head_at, next_number, next_moments}

sends_plain : {C : Type 0} (moments : Moments C) (old : DatagramSinkState C) (sent : Option (List (List ℕ))) (faults : ℕ)
    (payload : List ℕ) → old.form ≡ forms.Udp → sent ≡ option_map (λ all. all ++ payload ∷ []) old.sent
    → Sends moments old (record old { sent = sent; faults = faults }) payload
sends_plain moments old sent faults payload is gains = record {
  head = head_at old 0;
  next = subst (λ form. IsHeadIn moments form old (head_at old 0)) (sym is) tt;
  sent = gains ∙ ap (λ form. option_map (λ all. all ++ datagram_of form (head_at old 0) payload ∷ []) old.sent) (sym is);
  number = ap (λ form. next_number form old.number) (sym is);
  later = ap (λ form. next_moments form (moments old.clock)) (sym is);
  same = (refl, refl);
}

pub plain_sent : {T E C : Type 0} (r : Result T E) (moments : Moments C) (old : DatagramSinkState C) (sent : Option (List (List ℕ)))
    (faults : ℕ) (payload : List ℕ) → old.form ≡ forms.Udp → OnOk r (sent ≡ option_map (λ all. all ++ payload ∷ []) old.sent)
    → OnOk r (Sends moments old (record old { sent = sent; faults = faults }) payload)
plain_sent (Ok x) moments old sent faults payload is gains = sends_plain moments old sent faults payload is gains
plain_sent (Err e) moments old sent faults payload is gains = tt

-- so many whole parts went, and what is left lies behind them
abbrev pub HasSent : {C : Type 0} → Moments C → DatagramSinkState C → DatagramSinkState C → List ℕ → List ℕ → Type 0
HasSent moments old at piece rest = (count : ℕ) × SendsFirst moments count old at piece × (rest ≡ behind count piece)

pub one_more : {C : Type 0} (moments : Moments C) (old at new : DatagramSinkState C) (piece rest part more : List ℕ)
    → HasSent moments old at piece rest → MAX_PAYLOAD < length rest → part ≡ take MAX_PAYLOAD rest → more ≡ drop MAX_PAYLOAD rest
    → Sends moments at new part → HasSent moments old new piece more
one_more moments old at new piece rest part more (count, first, is) long front back sends = (
  suc count,
  (at, first, subst (λ r. MAX_PAYLOAD < length r) is long, subst (Sends moments at new) (front ∙ ap (take MAX_PAYLOAD) is) sends),
  back ∙ ap (drop MAX_PAYLOAD) is ∙ drop-drop MAX_PAYLOAD (count * MAX_PAYLOAD) piece
      ∙ ap (λ n. drop n piece) {x = count * MAX_PAYLOAD + MAX_PAYLOAD} {y = suc count * MAX_PAYLOAD} (omega arith),
)

pub all_parts : {T E C : Type 0} (r : Result T E) (moments : Moments C) (old at new : DatagramSinkState C) (piece rest : List ℕ)
    → HasSent moments old at piece rest → length rest ≤ MAX_PAYLOAD → OnOk r (Sends moments at new rest)
    → OnOk r (SendsParts moments old new piece)
all_parts (Ok x) moments old at new piece rest (count, first, is) short sends =
    (count, at, first, subst (λ r. length r ≤ MAX_PAYLOAD) is short, subst (Sends moments at new) is sends)
all_parts (Err e) moments old at new piece rest had short sends = tt

pub front_parts : {T E C : Type 0} (r : Result T E) (moments : Moments C) (old at new : DatagramSinkState C) (piece rest : List ℕ)
    → HasSent moments old at piece rest → OnErr r (new.sent ≡ at.sent) → OnErr r (SendsFront moments old new piece)
front_parts (Ok x) moments old at new piece rest had same = tt
front_parts (Err e) moments old at new piece rest (count, first, is) same = (count, at, first, same)

pub stopped : {T E C : Type 0} (r : Result T E) (moments : Moments C) (old at new : DatagramSinkState C) (piece rest : List ℕ)
    → HasSent moments old at piece rest → new.sent ≡ at.sent → OnErr r (SendsFront moments old new piece)
stopped (Ok x) moments old at new piece rest had same = tt
stopped (Err e) moments old at new piece rest (count, first, is) same = (count, at, first, same)
