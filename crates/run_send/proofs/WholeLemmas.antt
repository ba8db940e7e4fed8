-- A sending in which nothing fails but links, of which one stays up, comes to its end.
use Rattle.std.proofs.Common.{◌≡◌, ◌∙◌, ◌⊎◌, ◌+◌, ◌<◌, ◌≤◌, ◌^◌, ℕ, List, [], ◌∷◌, ◌++◌, length, reverse, get_or, Bool}
use Rattle.std.proofs.Common.{true, false, is_some, Option, None, Some, Result, Ok, Err, refl, sym, ap, subst, arith}
use Rattle.std.proofs.Common.{length-append}
use Rattle.std.proofs.lemmas.List.{length-reverse}
use mathlib.Core.Logic.{inl, inr}
use Rattle.outside_io.specs.Causes.{Rose, HasReadCause}
use Rattle.outside_host.specs.Shelf.{Shelf}
use Rattle.outside_host.specs.declared.host.Place.{Place}
use Rattle.outside_host.specs.declared.host.Place.TheVariants.{Here, Back}
use Rattle.psk_seal.specs.Sealer.{SealerState}
use Rattle.sender_rules.specs.Sendings.{sent_packets}
use Rattle.outside_net.specs.Links.{LinkTells}
use Rattle.rist_sender.specs.History.{Event, packet_count, sendings_of}
use Rattle.rist_send.specs.Given.{joined, GivesFirst, Gives}
use Rattle.rist_send.specs.declared.fault.SendFault.{SendFault}
use Rattle.rist_send.specs.declared.fault.SendFault.TheVariants as faults
use Rattle.rist_sender.proofs.DownLemmas.{down_rose}
use Rattle.rist_send.proofs.DownLemmas.{down_at_end}
use Rattle.rist_send.proofs.PacketLemmas.{sent_as_packets, as_many, few_given}
use Rattle.rist_send.proofs.UnsealedLemmas.{far_at_end}
use Rattle.rist_words.specs.CommandLine.{Send, SendCommand}
use Rattle.run_parts.specs.Causes.{CanRefuse, fault_of}
use Rattle.run_parts.specs.Objects.{Tells, TellsLive}
use Rattle.run_parts.specs.Sealing.{FailedAt}
use Rattle.run_send.specs.Sessions.{session_sent, setup_sent}
use Rattle.run_send.specs.Sent.{Sent, send_status}
use Rattle.run_parts.specs.Complete.{NoneFailed, StaysUp}
use Rattle.run_send.specs.Complete.{IsWhole, CompletesSending}
use Rattle.run_parts.specs.declared.status.Status.{Status}
use Rattle.run_parts.specs.declared.status.Status.TheVariants as statuses
use Rattle.run_parts.proofs.PlaceLemmas.{same_here}
use Rattle.run_parts.proofs.RefusalLemmas.{is_refused}

-- a source within the bound isn't too long
not_long : (b : List ℕ) (left : Option (List ℕ)) (given : List (List ℕ)) → length b ≤ 2 ^ 40 → GivesFirst faults.TooLong b left given → ⊥
not_long b left given bound g =
    omega (arith, bound, g.drops.1, ap length g.whole, length-append (joined given) (g.dropped ++ g.rest), length-append g.dropped g.rest)

-- a link that stays up isn't one whose count rose
not_up : {L : Type 0} (line : LinkTells L) (old new : ℕ → Place L) (was is : List L) (place : ℕ) → place < length was
    → ((d : L) → old place ≡ Here (get_or was place d)) → ((d : L) → new place ≡ Back (get_or is place d))
    → ((d : L) → Rose (line.faults (get_or was place d)) (line.faults (get_or is place d)))
    → ((x y : L) → old place ≡ Here x → new place ≡ Back y → Rose (line.faults x) (line.faults y) → ⊥) → ⊥
not_up line old new [] is place less took gave rose up = omega (arith, less)
not_up line old new (x ∷ xs) is place less took gave rose up = up (get_or (x ∷ xs) place x) (get_or is place x) (took x) (gave x) (rose x)

no_sealer : (sealer : Option SealerState) → is_some sealer ≡ false → sealer ≡ None
no_sealer None is = refl
no_sealer (Some sealer) is = cc

-- the payloads of such a source don't come to number 2^62
not_far : (c : SendCommand) (history : List Event) (sent : List (List ℕ)) (b : List ℕ) (left : Option (List ℕ)) → c.stream.first < 2 ^ 32 → length b ≤ 2 ^ 40
    → 2 ^ 62 ≤ c.stream.first + packet_count history → length (sent_packets (sendings_of history)) ≡ length (reverse sent) → GivesFirst faults.Spent b left sent → ⊥
not_far c history sent b left low bound far many g =
    omega (arith, low, bound, far, many, length-reverse sent, few_given faults.Spent b left sent g)

sent_ends : {I O E L C : Type 0} (tells : Tells I O E) (live : TellsLive L C) (old new : Shelf I O E L C) (c : SendCommand) (status : Status) (end : Result Unit SendFault)
    → c.stream.first < 2 ^ 32 → (source : I) (b : List ℕ) → old.sources c.source ≡ Here source → tells.remaining source ≡ Some b → length b ≤ 2 ^ 40 → NoneFailed tells old new (Send c)
    → StaysUp live.line old.links new.links (length c.links) → (s : Sent tells live old new c status) → s.end ≡ end → status ≡ send_status end → IsWhole c status
sent_ends tells live old new c status (Ok done) low source b here told bound none stays s is answer = inl answer
sent_ends tells live old new c status (Err faults.TurnsSpent) low source b here told bound none stays s is answer = inr (inl answer)
sent_ends tells live old new c status (Err faults.Spent) low source b here told bound none stays s is answer = by_pass (is_some c.session.pass) refl
  where
    by_pass : (pass : Bool) → is_some c.session.pass ≡ pass → IsWhole c status
    by_pass true has = inr (inr (inl (answer, has)))
    by_pass false has =
        absurd (not_far c s.to.work.history s.to.sent b s.to.octets low bound
        (far_at_end (setup_sent c) s.end _ s.to s.sends (no_sealer s.sealer (s.fresh.paired ∙ has)) is)
        (as_many c.stream.nulls c.stream.first (reverse s.to.sent) (sent_packets (sendings_of s.to.work.history)) (sent_as_packets (setup_sent c) s.end _ s.to s.sends tt))
        (subst (λ end. Gives end b s.to.octets s.to.sent) is (s.sends.gives b (ap tells.remaining (same_here s.source source (sym s.took ∙ here)) ∙ told))))
sent_ends tells live old new c status (Err faults.ReadFault) low source b here told bound none stays s is answer =
    absurd (none.reads s.source s.spent s.took s.gave (subst (λ x. HasReadCause (fault_of x) (tells.read_faults s.source) (tells.read_faults s.spent)) answer s.read))
sent_ends tells live old new c status (Err faults.TooLong) low source b here told bound none stays s is answer =
    absurd (not_long b s.to.octets s.to.sent bound
    (subst (λ end. Gives end b s.to.octets s.to.sent) is (s.sends.gives b (ap tells.remaining (same_here s.source source (sym s.took ∙ here)) ∙ told))))
sent_ends tells live old new c status (Err faults.LinksDown) low source b here told bound none stays s is answer =
    let less : stays.place < length s.links_were = subst (λ n. stays.place < n) (sym s.link_count) stays.among in
    absurd (not_up live.line old.links new.links s.links_were s.links_are stays.place less (λ d. s.links.took stays.place d less) (λ d. s.links.gave stays.place d less)
    (λ d. down_rose live.line c.stream.flow (session_sent c) s.to.work.history s.links_were s.links_are stays.place d less (down_at_end (setup_sent c) s.end _ s.to s.sends is stays.place stays.among) s.given)
    stays.up)

refused_ends : (c : SendCommand) (s : Status) → (s ≡ statuses.OpenFault → ⊥) → (s ≡ statuses.EntropyFault → ⊥) → CanRefuse s → IsWhole c s
refused_ends c s opened words (inl e) = absurd (opened e)
refused_ends c s opened words (inr (inl e)) = inr (inr (inr e))
refused_ends c s opened words (inr (inr e)) = absurd (words e)

pub sent_completes : {I O E L C : Type 0} (tells : Tells I O E) (live : TellsLive L C) (old new : Shelf I O E L C) (c : SendCommand) (status : Status)
    → c.stream.first < 2 ^ 32 → (status ≡ statuses.OpenFault → ⊥) → (status ≡ statuses.EntropyFault → FailedAt tells old new) → ((CanRefuse status → ⊥) → Sent tells live old new c status)
    → CompletesSending tells live.line old new c status
sent_completes tells live old new c status low opened words sent source b here told bound none stays = by_refusal (is_refused status)
  where
    by_refusal : CanRefuse status ⊎ (CanRefuse status → ⊥) → IsWhole c status
    by_refusal (inl refused) = refused_ends c status opened (λ e. none.words (words e)) refused
    by_refusal (inr ran) =
        let s = sent ran in
        sent_ends tells live old new c status s.end low source b here told bound none stays s refl s.answer
