-- What a sending leaves, part by part.
use Rattle.std.proofs.Common.{◌≡◌, ◌*◌, ◌<◌, ◌∷◌, ◌++◌, take, drop, ℕ, List, [], length, map, Option, IfSome, refl, sym}
use Rattle.std.proofs.Common.{ap, ◌∙◌, subst, slice_index_or, arith}
use mathlib.Core.Logic.{inl, inr}
use Rattle.std.specs.Prelude.{Result, Ok, Err, Bool}
use Rattle.outside_io.specs.Causes.{HasReadCause}
use Rattle.outside_host.specs.Shelf.{Shelf, ChangesSources}
use Rattle.outside_host.specs.declared.host.Place.TheVariants.{Here, Back}
use Rattle.outside_net.specs.Real.{is_caller}
use Rattle.outside_host.specs.Links.{AreOut, AreBack, KnowStatedFrom}
use Rattle.psk_seal.specs.Sealer.{SealerState}
use Rattle.outside_net.specs.Links.{Answer, LinkTells}
use Rattle.rist_sender.specs.Sender.{SenderState}
use Rattle.rist_send.specs.Run.{setup_of}
use Rattle.rist_send.specs.Sending.{SendsSource}
use Rattle.rist_sender.specs.Served.{AreServed}
use Rattle.rist_send.specs.Served.{Outside, Runs, new_run}
use Rattle.rist_send.specs.declared.fault.SendFault.{SendFault}
use Rattle.rist_send.specs.declared.fault.SendFault.TheVariants as faults
use Rattle.rist_send.specs.declared.settings.SendSettings.{SendSettings}
use Rattle.rist_words.specs.CommandLine.{SendCommand}
use Rattle.run_parts.specs.Objects.{Tells, TellsLive}
use Rattle.run_parts.specs.Sealing.{DrawnFirst}
use Rattle.run_parts.specs.Sessions.{bonding_with}
use Rattle.run_send.specs.Sessions.{session_sent, setup_sent}
use Rattle.run_send.specs.Inside.Sending.{SendsAs, SendsByClock, SendsKnowing, SendsOnLinks}
use Rattle.run_parts.specs.Hosts.{IsUnused}
use Rattle.run_send.specs.Sent.{Sent, no_work, outside_left, send_status}
use Rattle.run_parts.specs.declared.status.Status.{Status}
use Rattle.run_parts.specs.declared.status.Status.TheVariants as statuses
use Rattle.run_parts.specs.Causes.{CanRefuse, fault_of}
use Rattle.run_parts.proofs.HandedLemmas.{places_between}
use Rattle.run_parts.proofs.PeerLemmas.{stated_known}
use Rattle.rist_words.specs.Links.{sending_role}

-- a sender is set to what a line says
pub record IsSetTo (s : SenderState) (c : SendCommand) : Type 0 where
  pub flow : s.flow ≡ c.stream.flow
  pub first : s.first ≡ c.stream.first
  pub hold : s.hold ≡ 90 * c.hold
  pub size : s.store.size ≡ c.store
  pub bonding : s.bonding ≡ bonding_with (length c.links) c.share
  pub session : s.session ≡ session_sent c

-- the pace of a line
abbrev pub pace_with : SendCommand → SendSettings
pace_with c = record { lead = 1000 * c.lead; gap = c.gap; linger = 1000 * c.linger; turns = c.turns }

same_setup : (c : SendCommand) (s : SenderState) (links : ℕ) → IsSetTo s c → links ≡ length c.links → setup_of (pace_with c) s links ≡ setup_sent c
same_setup c s links set is = rw (set.flow, set.first, set.hold, set.size, set.bonding, set.session, is) refl

-- what is left of clock, source and reads
same_outside : (x y : Outside) → x.moments ≡ y.moments → x.octets ≡ y.octets → x.payloads ≡ y.payloads → x.answers ≡ y.answers → x ≡ y
same_outside x y a b p d = λ i. record { moments = a i; octets = b i; payloads = p i; answers = d i }

-- what a run left is what the line asks for
pub sends_as : {L : Type 0} (line : LinkTells L) (c : SendCommand) (sealer : Option SealerState) (pace : SendSettings) (s after : SenderState) (had has : Outside) (was is : List L) (end : Result Unit SendFault) (status : Status)
    → pace ≡ pace_with c → IsSetTo s c → length was ≡ length c.links → status ≡ send_status end
    → Runs line s after has was is (no_work sealer) (SendsSource (setup_of pace s (length was)) end (new_run (no_work sealer) had))
    → SendsAs line c sealer had has was is status
sends_as line c sealer pace s after had has was is end status paced set count answer runs = record {
  end = end;
  answer = answer;
  to = runs.to;
  sends = subst (λ setup. SendsSource setup end (new_run (no_work sealer) had) runs.to) (ap (λ p. setup_of p s (length was)) paced ∙ same_setup c s (length was) set count) runs.fact;
  left = same_outside (outside_left runs.to) has runs.moments runs.octets runs.payloads runs.answers;
  given = subst (λ f. AreServed line f (session_sent c) [] runs.to.work.history was is) set.flow
      (subst (λ x. AreServed line s.flow x [] runs.to.work.history was is) set.session runs.given);
}

-- a run of a sending refuses nothing
not_open : (end : Result Unit SendFault) → send_status end ≡ statuses.OpenFault → ⊥
not_open (Ok x) e = cc
not_open (Err faults.ReadFault) e = cc
not_open (Err faults.LinksDown) e = cc
not_open (Err faults.Spent) e = cc
not_open (Err faults.TooLong) e = cc
not_open (Err faults.TurnsSpent) e = cc

not_memory : (end : Result Unit SendFault) → send_status end ≡ statuses.Memory → ⊥
not_memory (Ok x) e = cc
not_memory (Err faults.ReadFault) e = cc
not_memory (Err faults.LinksDown) e = cc
not_memory (Err faults.Spent) e = cc
not_memory (Err faults.TooLong) e = cc
not_memory (Err faults.TurnsSpent) e = cc

not_entropy : (end : Result Unit SendFault) → send_status end ≡ statuses.EntropyFault → ⊥
not_entropy (Ok x) e = cc
not_entropy (Err faults.ReadFault) e = cc
not_entropy (Err faults.LinksDown) e = cc
not_entropy (Err faults.Spent) e = cc
not_entropy (Err faults.TooLong) e = cc
not_entropy (Err faults.TurnsSpent) e = cc

pub refuses_none : (end : Result Unit SendFault) (status : Status) → status ≡ send_status end → CanRefuse status → ⊥
refuses_none end status is (inl e) = not_open end (sym is ∙ e)
refuses_none end status is (inr (inl e)) = not_memory end (sym is ∙ e)
refuses_none end status is (inr (inr e)) = not_entropy end (sym is ∙ e)

-- what was sent by a clock, over shelves that are the same but for sources and links
by_clock_between : {I O E L C : Type 0} (tells : Tells I O E) (live : TellsLive L C) (old mid later new : Shelf I O E L C) (c : SendCommand) (source spent : I) (was is : List L) (status : Status)
    → mid.clocks ≡ old.clocks → mid.entropies ≡ old.entropies → new.clocks ≡ later.clocks → new.entropies ≡ later.entropies
    → SendsByClock tells live mid later c source spent status was is → SendsByClock tells live old new c source spent status was is
by_clock_between tells live old mid later new c source spent was is status k e l f s = record {
  clock = s.clock;
  later = s.later;
  took = ap (λ x. x 0) (sym k) ∙ s.took;
  gave = ap (λ x. x 0) l ∙ s.gave;
  sealer = s.sealer;
  fresh = s.fresh;
  drawn = subst (λ x. IfSome s.sealer (DrawnFirst tells x new.entropies)) e (subst (λ x. IfSome s.sealer (DrawnFirst tells mid.entropies x)) (sym f) s.drawn);
  sends = s.sends;
}

-- what was sent from a source that was handed out and came back
pub sent_by : {I O E L C : Type 0} (tells : Tells I O E) (live : TellsLive L C) (old mid later new : Shelf I O E L C) (c : SendCommand) (source spent : I) (status : Status)
    → old.sources c.source ≡ Here source → new.sources c.source ≡ Back spent → HasReadCause (fault_of status) (tells.read_faults source) (tells.read_faults spent)
    → ChangesSources old mid → ChangesSources later new
    → SendsOnLinks tells live mid later c source spent status → Sent tells live old new c status
sent_by tells live old mid later new c source spent status took gave read e f s =
    let clock = by_clock_between tells live old mid later new c source spent s.were s.are status (ap (λ x. x.clocks) e) (ap (λ x. x.entropies) e) (ap (λ x. x.clocks) f) (ap (λ x. x.entropies) f) s.did.by_clock in
    record {
      source = source;
      spent = spent;
      took = took;
      gave = gave;
      read = read;
      links_were = s.were;
      links_are = s.are;
      link_count = s.count;
      links = places_between old.links mid.links later.links new.links s.were s.are (ap (λ x. x.links) e) (ap (λ x. x.links) f) s.places;
      clock = clock.clock;
      later = clock.later;
      took_clock = clock.took;
      gave_clock = clock.gave;
      sealer = clock.sealer;
      fresh = clock.fresh;
      drawn = clock.drawn;
      end = clock.sends.end;
      answer = clock.sends.answer;
      to = clock.sends.to;
      sends = clock.sends.sends;
      left = clock.sends.left;
      given = clock.sends.given;
      known = λ calls link d among. stated_known (live.line.knows (slice_index_or s.were link d)) (sending_role c.listens) c.session.profile (ap (λ l. is_caller (sending_role l)) calls) (s.did.know link d (omega arith) among);
    }

-- a host that hands out a source is as unused as before
pub still_unused : {I O E L C : Type 0} (tells : Bool) (old mid : Shelf I O E L C) → mid ≡ record old { sources = mid.sources } → IsUnused tells old → IsUnused tells mid
still_unused tells old mid e unused = record {
  told = unused.told;
  entropy = ap (λ x. x.next_entropy) e ∙ unused.entropy;
  links = ap (λ x. x.opened_links) e ∙ unused.links;
  clock = ap (λ x. x.next_clock) e ∙ unused.clock;
}

-- what was sent by a clock on links that were handed out before it and came back after it
pub on_opened_links : {I O E L C : Type 0} (tells : Tells I O E) (live : TellsLive L C) (old mid later new : Shelf I O E L C) (c : SendCommand) (source spent : I) (links was is given : List L) (status : Status)
    → mid ≡ record old { links = mid.links; opened_links = mid.opened_links } → new ≡ record later { links = new.links }
    → length links ≡ length c.links → AreOut old.links mid.links links → later.links ≡ mid.links → AreBack later.links new.links given
    → was ≡ links → given ≡ is → length is ≡ length was → KnowStatedFrom live.line.knows (sending_role c.listens) c.session.profile 0 links
    → SendsByClock tells live mid later c source spent status was is → SendsOnLinks tells live old new c source spent status
on_opened_links tells live old mid later new c source spent links was is given status e f some out between back same gives long know s = record {
  were = was;
  are = is;
  count = ap length same ∙ some;
  places = record {
    took = λ place d less. subst (λ l. old.links place ≡ Here (slice_index_or l place d)) (sym same) (out.was place d (subst (λ l. place < length l) same less));
    gave = λ place d less.
        subst (λ l. new.links place ≡ Back (slice_index_or l place d)) gives
        (back.now place d (subst (λ l. place < length l) (sym gives) (subst (λ n. place < n) (sym long) less))
        (ap (λ x. x place) between ∙ out.now place (subst (λ l. place < length l) same less)));
  };
  did = record {
    know = subst (λ l. KnowStatedFrom live.line.knows (sending_role c.listens) c.session.profile 0 l) (sym same) know;
    by_clock = by_clock_between tells live old mid later new c source spent was is status (ap (λ x. x.clocks) e) (ap (λ x. x.entropies) e) (ap (λ x. x.clocks) f) (ap (λ x. x.entropies) f) s;
  };
}

-- a front that was taken out and put back
front_of : {A : Type 0} (ys rest : List A) → take (length ys) (ys ++ rest) ≡ ys
front_of [] rest = refl
front_of (y ∷ ys) rest = ap (λ l. y ∷ l) (front_of ys rest)

pub put_front : {A : Type 0} (n : ℕ) (xs rest : List A) → n ≡ length xs → take n (xs ++ rest) ≡ xs
put_front n xs rest count = rw count (front_of xs rest)

pub put_back : {A : Type 0} (n : ℕ) (xs ys : List A) → n ≡ length ys → xs ≡ ys → take n (xs ++ drop (length xs) ys) ≡ ys
put_back n xs ys count same = rw (count, same) (front_of ys (drop (length ys) ys))

-- what a run left, under the names of its caller
pub sends_same : {I L C : Type 0} (line : LinkTells L) (moments : C → Option (ℕ → ℕ)) (remaining : I → Option (List ℕ)) (payloads : I → Option (List (List ℕ))) (c : SendCommand) (sealer : Option SealerState) (had : Outside) (was : List L)
    (clock clock' : C) (source source' : I) (links links' : List L) (status status' : Status) → clock' ≡ clock → source' ≡ source → links' ≡ links → status' ≡ status
    → SendsAs line c sealer had (record { moments = moments clock; octets = remaining source; payloads = payloads source; answers = map line.reads links }) was links status
    → SendsAs line c sealer had (record { moments = moments clock'; octets = remaining source'; payloads = payloads source'; answers = map line.reads links' }) was links' status'
sends_same line moments remaining payloads c sealer had was clock clock' source source' links links' status status' a b d e sends = rw (a, b, d, e) sends
