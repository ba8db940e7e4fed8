-- What a sender keeps true of the packets that it stores.
use Rattle.std.proofs.Common.{◌≡◌, ◌∙◌, ℕ, zero, suc, ◌+◌, ◌%◌, ◌<◌, ◌≤◌, Bool, true, false, List, [], ◌∷◌, take, Option, None, Some, option_map, refl, sym, ap, subst, arith}
use Rattle.std.specs.Prelude.{◌==◌, if◌then◌else◌, IsSome}
use Rattle.std.specs.List.{AllByRecursion}
use Rattle.std.proofs.lemmas.Bool.{eq-eqb, eqb-true}
use Rattle.std.proofs.lemmas.Bool.Decides.{nat_tests}
use Rattle.std.proofs.lemmas.Grind.{common_steps}
use Rattle.link_channels.specs.Intervals.{has_passed_since}
use Rattle.seq_unwrap.specs.declared.width.Width.{Width}
use Rattle.seq_unwrap.specs.Nearest.{cycle_of}
use Rattle.sender_rules.specs.Sendings.{Packet, Sending, last_sent_again}
use Rattle.sender_rules.specs.Stored.{packet_with, packet_for, stored_mark}
use Rattle.retransmit_store.specs.declared.store.Stored.{Stored}
use Rattle.retransmit_store.specs.State.{packets_of, marked_with, with_mark}
use Rattle.rist_sender.specs.Inside.Numbers.{number_again}

-- a mark leaves the packets
pub marked_packets : (number at : ℕ) (ps : List Stored) → packets_of (with_mark number at ps) ≡ packets_of ps
marked_packets number at [] = refl
marked_packets number at (p ∷ ps) =
    elim (number == p.sent.number) as (λ (x : Bool). packets_of ((if x then marked_with at p else p) ∷ with_mark number at ps) ≡ packets_of (p ∷ ps)) [
      | true ↦ ap (λ qs. p.sent ∷ qs) (marked_packets number at ps)
      | false ↦ ap (λ qs. p.sent ∷ qs) (marked_packets number at ps)
    ]

pub all_taken : (P : Packet → Type 0) (n : ℕ) (ps : List Stored) → AllByRecursion P (packets_of ps) → AllByRecursion P (packets_of (take n ps))
all_taken P zero ps all = tt
all_taken P (suc n) [] all = tt
all_taken P (suc n) (p ∷ ps) all = (all.0, all_taken P n ps all.1)

pub all_with : (P : Packet → Type 0) (ps : List Packet) (n : ℕ) (p : Packet) → AllByRecursion P ps → packet_with ps n ≡ Some p → P p
all_with P [] n p all is = cc
all_with P (q ∷ ps) n p all is =
    elim (q.number == n) as (λ (x : Bool). (if x then Some q else packet_with ps n) ≡ Some p → P p) [
      | true ↦ λ here. let e : q ≡ p = cc here in subst P e all.0
      | false ↦ λ there. all_with P ps n p all.1 there
    ] is

-- the packet that a word finds is the one with its number
pub word_found : (history : List Sending) (ps : List Packet) (width : Width) (word : ℕ) (p : Packet) → packet_for ps width word ≡ Some p
    → IsSome (packet_with ps p.number) × (stored_mark history (packet_with ps p.number) ≡ last_sent_again history p.number)
word_found history [] width word p is = cc
word_found history (q ∷ ps) width word p is =
    elim (q.number % cycle_of width == word) as (λ (x : Bool). (if x then Some q else packet_for ps width word) ≡ Some p
    → IsSome (packet_with (q ∷ ps) p.number) × (stored_mark history (packet_with (q ∷ ps) p.number) ≡ last_sent_again history p.number)) [
      | true ↦ λ here.
          let e : q ≡ p = cc here in
          let same : (q.number == p.number) ≡ true = eq-eqb q.number p.number (ap (λ (x : Packet). x.number) e) in
          rw same (refl, ap (λ (x : Packet). last_sent_again history x.number) e)
      | false ↦ λ there.
          let on = word_found history ps width word p there in
          elim (q.number == p.number) as (λ (y : Bool). (q.number == p.number) ≡ y
          → IsSome (if y then Some q else packet_with ps p.number) × (stored_mark history (if y then Some q else packet_with ps p.number) ≡ last_sent_again history p.number)) [
            | true ↦ λ yes. (refl, ap (last_sent_again history) (eqb-true q.number p.number yes))
            | false ↦ λ no. on
          ] refl
    ] is

-- the number of what was found
pub some_number : (found : Option Packet) (number : ℕ) → Some number ≡ option_map (λ (p : Packet). p.number) found
    → (p : Packet) × (found ≡ Some p) × (p.number ≡ number)
some_number None number is = cc
some_number (Some p) number is = (p, refl, cc)

pub found_stored : (ps : List Packet) (width : Width) (word number : ℕ) → Some number ≡ option_map (λ (p : Packet). p.number) (packet_for ps width word)
    → IsSome (packet_with ps number)
found_stored ps width word number is =
    let p = some_number (packet_for ps width word) number is in
    subst (λ (n : ℕ). IsSome (packet_with ps n)) p.2 (word_found [] ps width word p.0 p.1).0

-- whether it is sent again, by its mark
pub again_is : (hold tick number : ℕ) (history : List Sending) (ps : List Packet) (width : Width) (word : ℕ) (mark : Option ℕ)
    → Some number ≡ option_map (λ (p : Packet). p.number) (packet_for ps width word) → mark ≡ stored_mark history (packet_with ps number)
    → number_again hold tick history (packet_for ps width word) ≡ (if has_passed_since hold tick mark then Some number else None)
again_is hold tick number history ps width word mark is marked =
    let p = some_number (packet_for ps width word) number is in
    let last : last_sent_again history p.0.number ≡ mark = sym (word_found history ps width word p.0 p.1).1 ∙ ap (λ n. stored_mark history (packet_with ps n)) p.2 ∙ sym marked in
    ap (number_again hold tick history) p.1
    ∙ ap (λ m. if has_passed_since hold tick m then Some p.0.number else None) last
    ∙ ap (λ n. if has_passed_since hold tick mark then Some n else None) p.2

pub not_passed : (hold tick at number : ℕ) → tick < at + hold → (if has_passed_since hold tick (Some at) then Some number else None) ≡ None
not_passed hold tick at number lt = grind (arith, nat_tests, common_steps)

pub passed : (hold tick at number : ℕ) → at + hold ≤ tick → (if has_passed_since hold tick (Some at) then Some number else None) ≡ Some number
passed hold tick at number le = grind (arith, nat_tests, common_steps)

-- a packet that is sent again was found, and its hold time has passed
pub again_found : (hold tick number : ℕ) (history : List Sending) (found : Option Packet) → Some number ≡ number_again hold tick history found
    → (p : Packet) × (found ≡ Some p) × (has_passed_since hold tick (last_sent_again history p.number) ≡ true) × (p.number ≡ number)
again_found hold tick number history None is = cc
again_found hold tick number history (Some p) is =
    elim (has_passed_since hold tick (last_sent_again history p.number)) as (λ (x : Bool). has_passed_since hold tick (last_sent_again history p.number) ≡ x
    → Some number ≡ (if x then Some p.number else None)
    → (q : Packet) × (Some p ≡ Some q) × (has_passed_since hold tick (last_sent_again history q.number) ≡ true) × (q.number ≡ number)) [
      | true ↦ λ rested here. (p, refl, rested, cc)
      | false ↦ λ held there. cc
    ] refl is

found_word : (ps : List Packet) (width : Width) (word : ℕ) (p : Packet) → packet_for ps width word ≡ Some p → (p.number % cycle_of width == word) ≡ true
found_word [] width word p is = cc
found_word (q ∷ ps) width word p is =
    elim (q.number % cycle_of width == word) as (λ (x : Bool). (q.number % cycle_of width == word) ≡ x → (if x then Some q else packet_for ps width word) ≡ Some p
    → (p.number % cycle_of width == word) ≡ true) [
      | true ↦ λ yes here. let e : q ≡ p = cc here in subst (λ (x : Packet). (x.number % cycle_of width == word) ≡ true) e yes
      | false ↦ λ no there. found_word ps width word p there
    ] refl is

-- and it is the one that is found by its number
pub word_with : (ps : List Packet) (width : Width) (word : ℕ) (p : Packet) → packet_for ps width word ≡ Some p → packet_with ps p.number ≡ Some p
word_with [] width word p is = cc
word_with (q ∷ ps) width word p is =
    elim (q.number % cycle_of width == word) as (λ (x : Bool). (q.number % cycle_of width == word) ≡ x → (if x then Some q else packet_for ps width word) ≡ Some p
    → packet_with (q ∷ ps) p.number ≡ Some p) [
      | true ↦ λ yes here.
          let e : q ≡ p = cc here in
          let same : (q.number == p.number) ≡ true = eq-eqb q.number p.number (ap (λ (x : Packet). x.number) e) in
          rw same (ap Some e)
      | false ↦ λ no there.
          elim (q.number == p.number) as (λ (y : Bool). (q.number == p.number) ≡ y → (if y then Some q else packet_with ps p.number) ≡ Some p) [
            | true ↦ λ yes.
                let e : q.number ≡ p.number = eqb-true q.number p.number yes in
                let right = found_word ps width word p there in
                let wrong : (p.number % cycle_of width == word) ≡ false = subst (λ (n : ℕ). (n % cycle_of width == word) ≡ false) e no in
                cc
            | false ↦ λ other. word_with ps width word p there
          ] refl
    ] refl is
