-- What the receiver at a place is told of a record, beside a replay of its port.
use Rattle.std.proofs.Common.{◌≡◌, ◌≢◌, ◌⊎◌, inl, inr, ◌<◌, ◌==◌, ℕ, Bool, true, false, length, map, List, [], ◌∷◌, ◌++◌, reverse, Result, Ok, Err, refl, ap, sym, ◌∙◌, subst, arith}
use mathlib.Core.List.{reverse-cons}
use Rattle.std.specs.Prelude.{if◌then◌else◌}
use Rattle.std.proofs.lemmas.List.{map_push, reverse-append}
use Rattle.std.proofs.lemmas.Bool.Decides.{nat_tests}
use Rattle.link_channels.specs.declared.channel.Channel.{Channel}
use Rattle.capture_file.specs.Capture.{Record}
use Rattle.receiver_rules.specs.declared.limits.Limits.{Limits}
use Rattle.receiver_rules.specs.Steps.{Step, end_step, is_end}
use Rattle.receiver_rules.specs.History.{released_bytes}
use Rattle.request_rules.specs.Steps.{Input, Step as ReceiverStep, buffer_history}
use Rattle.request_rules.specs.Steps as inputs
use Rattle.rist_wire.specs.declared.session.Session.{Session}
use Rattle.rist_wire.specs.declared.bad.WireBad.{WireBad}
use Rattle.rist_wire.specs.declared.bad.WireBad.TheVariants.{Port}
use Rattle.rist_wire.specs.declared.item.Item.{Item}
use Rattle.rist_wire.specs.declared.item.Item.TheVariants as items
use Rattle.rist_wire.specs.Item.{item_of}
use Rattle.rist_wire.specs.Among.{IsForAnother, RefusesPort, TakesKeepalive, item_among, session_at}
use Rattle.rist_ends.specs.declared.told.What.{What}
use Rattle.rist_ends.specs.declared.told.What.TheVariants as whats
use Rattle.rist_ends.specs.Told.{IsNoEnd, event_of, input_of}
use Rattle.rist_ends.specs.Items.{input_read}
use Rattle.rist_fan.specs.Seen.{Alike, AreAlikeIn, KeptAsRefused, Same, is_for, what_for}
use Rattle.rist_fan.proofs.FanLemmas.{plays_alike}
use Rattle.rist_replay.specs.Steps.{receiver_history, step_of}
use Rattle.rist_replay.specs.Replay.{replayed}
use Rattle.rist_split.specs.Inside.Telling.{history_at, input_at, item_found, place_found, step_at}

-- ---- what is told of a datagram

no_tick : (us : ℕ) (item : Result Item WireBad) → inputs.Tick us ≡ input_read us item → ⊥
no_tick us (Ok (items.Media media)) e = cc
no_tick us (Ok (items.Control compound)) e = cc
no_tick us (Ok (items.Keepalive keepalive)) e = cc
no_tick us (Err bad) e = cc

no_ending : (us : ℕ) (item : Result Item WireBad) → inputs.End ≡ input_read us item → ⊥
no_ending us (Ok (items.Media media)) e = cc
no_ending us (Ok (items.Control compound)) e = cc
no_ending us (Ok (items.Keepalive keepalive)) e = cc
no_ending us (Err bad) e = cc

-- an item that is another's is refused
others_input : (us : ℕ) (w : What) (item : Result Item WireBad) → input_of us w ≡ input_read us item → input_of us (what_for false w) ≡ inputs.Refused
others_input us (whats.Media a) item e = refl
others_input us (whats.Control c) item e = refl
others_input us whats.Keepalive item e = refl
others_input us whats.Refused item e = refl
others_input us whats.Tick item e = absurd (no_tick us item e)
others_input us whats.End item e = absurd (no_ending us item e)

pub told_at : (found : Result (ℕ × Item) WireBad) (v us : ℕ) (w : What) → input_of us w ≡ input_read us (item_found found)
    → input_of us (what_for (is_for (place_found found) v) w) ≡ input_at v us found
told_at (Err bad) v us w e = others_input us w (Err bad) e
told_at (Ok found) v us w e = by_place (found.0 == v)
  where
    by_place : (own : Bool) → input_of us (what_for own w) ≡ (if own then input_read us (Ok found.1) else inputs.Refused)
    by_place true = e
    by_place false = others_input us w (Ok found.1) e

pub no_end_event : (us : ℕ) (w : What) → IsNoEnd w → is_end (event_of (input_of us w)) ≡ false
no_end_event us (whats.Media a) n = refl
no_end_event us (whats.Control c) n = refl
no_end_event us whats.Keepalive n = refl
no_end_event us whats.Refused n = refl
no_end_event us whats.Tick n = refl
no_end_event us whats.End n = absurd n

-- ---- beside a replay

pub history_push : (ports : List ℕ) (session : Session) (v : ℕ) (rs : List Record) (r : Record) → history_at ports session v (rs ++ r ∷ []) ≡ step_at ports session v r ∷ history_at ports session v rs
history_push ports session v rs r = ap reverse (map_push (step_at ports session v) rs r) ∙ reverse-append (map (step_at ports session v) rs) (step_at ports session v r ∷ [])

-- what is known of a datagram of the tunnel at each place
pub record IsOneSessions (ports : List ℕ) (session : Session) : Type 0 where
  pub own : (channel : Channel) (octets : List ℕ) (place : ℕ) (item : Item) → item_among ports session channel octets ≡ Ok (place, item)
      → item_of (session_at ports place session) channel octets ≡ Ok item
  pub others : (channel : Channel) (octets : List ℕ) (place v : ℕ) (item : Item) → item_among ports session channel octets ≡ Ok (place, item) → v < length ports → v ≢ place
      → IsForAnother place item (item_of (session_at ports v session) channel octets)
  pub refused : (channel : Channel) (octets : List ℕ) (v : ℕ) (bad : WireBad) → item_among ports session channel octets ≡ Err bad → v < length ports
      → (item_of (session_at ports v session) channel octets ≡ Err bad) ⊎ (item_of (session_at ports v session) channel octets ≡ Err Port)

alike_refused : (us : ℕ) (bad : WireBad) (read : Result Item WireBad) → read ≡ Err bad → Alike (input_read us read) inputs.Refused
alike_refused us bad read is = subst (λ (x : Result Item WireBad). Alike (input_read us x) inputs.Refused) (sym is) (Same inputs.Refused)

alike_other : (us place : ℕ) (item : Item) (read : Result Item WireBad) → IsForAnother place item read → Alike (input_read us read) inputs.Refused
alike_other us place item read (RefusesPort is) = alike_refused us Port read is
alike_other us place item read (TakesKeepalive keepalive kept first is) =
    subst (λ (x : Result Item WireBad). Alike (input_read us x) inputs.Refused) (sym (is ∙ ap Ok kept)) KeptAsRefused

-- a receiver in the session of a place is told the same, but that a keepalive may be refused here
alike_at : (ports : List ℕ) (session : Session) (v us : ℕ) (channel : Channel) (octets : List ℕ) → IsOneSessions ports session → v < length ports
    → Alike (input_read us (item_of (session_at ports v session) channel octets)) (input_at v us (item_among ports session channel octets))
alike_at ports session v us channel octets one low = by_found (item_among ports session channel octets) refl
  where
    by_found : (found : Result (ℕ × Item) WireBad) → item_among ports session channel octets ≡ found
        → Alike (input_read us (item_of (session_at ports v session) channel octets)) (input_at v us found)
    by_found (Err bad) is = refused (one.refused channel octets v bad is low)
      where
        refused : (item_of (session_at ports v session) channel octets ≡ Err bad) ⊎ (item_of (session_at ports v session) channel octets ≡ Err Port)
            → Alike (input_read us (item_of (session_at ports v session) channel octets)) inputs.Refused
        refused (inl same) = alike_refused us bad _ same
        refused (inr port) = alike_refused us Port _ port
    by_found (Ok found) is = elim (found.0 == v) as (λ b. (found.0 == v) ≡ b → Alike (input_read us (item_of (session_at ports v session) channel octets)) (if b then input_read us (Ok found.1) else inputs.Refused)) [
      | true ↦ λ t.
          let here : found.0 ≡ v = grind (arith, nat_tests) in
          let own : item_of (session_at ports v session) channel octets ≡ Ok found.1 = subst (λ (n : ℕ). item_of (session_at ports n session) channel octets ≡ Ok found.1) here (one.own channel octets found.0 found.1 is) in
          subst (λ (x : Result Item WireBad). Alike (input_read us x) (input_read us (Ok found.1))) (sym own) (Same (input_read us (Ok found.1)))
      | false ↦ λ t.
          let apart : v ≢ found.0 = grind (arith, nat_tests) in
          alike_other us found.0 found.1 _ (one.others channel octets found.0 v found.1 is low apart)
    ] refl

alike_push : (one other : List ReceiverStep) (s t : ReceiverStep) → AreAlikeIn one other → (s.link ≡ t.link) × (s.tick ≡ t.tick) × Alike s.input t.input
    → AreAlikeIn (one ++ s ∷ []) (other ++ t ∷ [])
alike_push [] [] s t a same = (same.0, same.1, same.2, tt)
alike_push [] (y ∷ other) s t a same = absurd a
alike_push (x ∷ one) [] s t a same = absurd a
alike_push (x ∷ one) (y ∷ other) s t a same = (a.0, a.1, a.2, alike_push one other s t a.3 same)

alike_histories : (ports : List ℕ) (session : Session) (v : ℕ) → IsOneSessions ports session → v < length ports
    → (rs : List Record) → AreAlikeIn (receiver_history (session_at ports v session) rs) (history_at ports session v rs)
alike_histories ports session v one low [] = tt
alike_histories ports session v one low (r ∷ rs) =
    let s : ReceiverStep = step_of (session_at ports v session) r in
    let t : ReceiverStep = step_at ports session v r in
    subst (λ (l : List ReceiverStep). AreAlikeIn l (reverse (t ∷ map (step_at ports session v) rs))) (sym (reverse-cons s (map (step_of (session_at ports v session)) rs)))
    (subst (λ (l : List ReceiverStep). AreAlikeIn (reverse (map (step_of (session_at ports v session)) rs) ++ s ∷ []) l) (sym (reverse-cons t (map (step_at ports session v) rs)))
    (alike_push (reverse (map (step_of (session_at ports v session)) rs)) (reverse (map (step_at ports session v) rs)) s t (alike_histories ports session v one low rs) (refl, refl, alike_at ports session v r.us r.channel r.octets one low)))

-- so both play out the same
pub replayed_at : (ports : List ℕ) (session : Session) (v : ℕ) → IsOneSessions ports session → v < length ports → (limits : Limits) (rs : List Record)
    → released_bytes limits (end_step ∷ buffer_history (history_at ports session v rs)) ≡ replayed (session_at ports v session) limits rs
replayed_at ports session v one low limits rs =
    ap (λ (h : List Step). released_bytes limits (end_step ∷ h)) (sym (plays_alike (receiver_history (session_at ports v session) rs) (history_at ports session v rs) (alike_histories ports session v one low rs)))
