-- What a receiving leaves, part by part.
use Rattle.std.proofs.Common.{◌≡◌, ◌∙◌, ℕ, List, length, map, Bool, true, Option, IfSome, is_some, sym, ap, subst}
use mathlib.Core.Logic.{inr}
use Rattle.link_channels.specs.declared.profile.Profile.{Profile}
use Rattle.outside_net.specs.declared.link_spec.LinkSpec.{LinkSpec}
use Rattle.outside_net.specs.declared.link_spec.Role.{Role}
use Rattle.outside_host.specs.declared.host.Opened.{Opened}
use Rattle.outside_host.specs.declared.host.Place.TheVariants.{Here, Back}
use Rattle.outside_io.specs.Told.{IsEmpty}
use Rattle.outside_host.specs.Shelf.{Shelf, HandsOut, TakesBack, ChangesSinks}
use Rattle.psk_seal.specs.Sealer.{SealerState}
use Rattle.rist_ends.specs.declared.counts.Counts.{Counts}
use Rattle.desk_run.specs.Setup.{setup_made}
use Rattle.rist_ends.specs.declared.settings.Settings.{Settings as ReceiverSettings}
use Rattle.rist_wire.specs.declared.session.Session.{Session}
use Rattle.rist_words.specs.CommandLine.{RecvCommand}
use Rattle.run_parts.specs.Frame.{KeepsLinksBut, KeepsFiles}
use Rattle.run_links.specs.Frame.{KeepsWords}
use Rattle.run_receive.specs.Frame.{KeepsAroundSink}
use Rattle.run_receive.specs.Inside.Receiving.{HearsByClocks, HearsOnLinks, ReceivesAs}
use Rattle.run_parts.specs.Objects.{Tells, TellsLive}
use Rattle.run_receive.specs.Received.{Received}
use Rattle.run_parts.specs.Sealing.{DrawnFirst}
use Rattle.run_parts.specs.Hosts.{IsUnused}
use Rattle.run_receive.specs.Sessions.{kept_steps, settings_received, setup_received}
use Rattle.run_parts.specs.Sessions.{session_read}
use Rattle.run_parts.specs.declared.status.Status.{Status}
use Rattle.run_parts.proofs.HandedLemmas.{places_between}
use Rattle.run_links.proofs.WordLemmas.{words_between}

-- a run is set to what a line says
pub same_setup : (c : RecvCommand) (settings : ReceiverSettings) (session : Session) (sealer : Option SealerState) (limit : Option ℕ) → settings ≡ settings_received c → session ≡ session_read c.session
    → limit ≡ kept_steps c → setup_made settings session sealer limit true ≡ setup_received c sealer
same_setup c settings session sealer limit a b d =
    ap (λ x. setup_made x session sealer limit true) a
    ∙ (ap (λ x. setup_made (settings_received c) x sealer limit true) b ∙ ap (λ x. setup_made (settings_received c) (session_read c.session) sealer x true) d)

-- what was received by clocks, over shelves that are the same but for sinks and links
pub by_clocks_between : {I O E L C : Type 0} (tells : Tells I O E) (live : TellsLive L C) (old mid later new : Shelf I O E L C) (c : RecvCommand) (were are : List L) (sink filled : O) (status : Status)
    → mid.clocks ≡ old.clocks → mid.entropies ≡ old.entropies → new.clocks ≡ later.clocks → new.entropies ≡ later.entropies → new.report ≡ later.report
    → HearsByClocks tells live mid later c sink filled status were are → HearsByClocks tells live old new c sink filled status were are
by_clocks_between tells live old mid later new c were are sink filled status k e l f r s = record {
  were = s.were;
  are = s.are;
  count = s.count;
  places = places_between old.clocks mid.clocks later.clocks new.clocks s.were s.are k l s.places;
  did = record {
    sealer = s.did.sealer;
    fresh = s.did.fresh;
    drawn = subst (λ x. IfSome s.did.sealer (DrawnFirst tells x new.entropies)) e (subst (λ x. IfSome s.did.sealer (DrawnFirst tells mid.entropies x)) (sym f) s.did.drawn);
    counts = s.did.counts;
    reported = r ∙ s.did.reported;
    receives = s.did.receives;
  };
}

-- what was received into a sink that was handed out and came back
pub received_by : {I O E L C : Type 0} (tells : Tells I O E) (live : TellsLive L C) (old mid later new : Shelf I O E L C) (c : RecvCommand) (sink filled : O) (status : Status)
    → old.sinks c.out ≡ Here sink → new.sinks c.out ≡ Back filled → IsEmpty (tells.contents sink) → ChangesSinks old mid → ChangesSinks later new
    → HearsOnLinks tells live mid later c sink filled status → Received tells live old new c status
received_by tells live old mid later new c sink filled status took gave empty e f s =
    let clocks = by_clocks_between tells live old mid later new c s.were s.are sink filled status (ap (λ x. x.clocks) e) (ap (λ x. x.entropies) e) (ap (λ x. x.clocks) f) (ap (λ x. x.entropies) f)
    (ap (λ x. x.report) f) s.did in
    record {
      sink = sink;
      filled = filled;
      took = took;
      gave = gave;
      empty = empty;
      links_were = s.were;
      links_are = s.are;
      link_count = s.count;
      links = places_between old.links mid.links later.links new.links s.were s.are (ap (λ x. x.links) e) (ap (λ x. x.links) f) s.places;
      clocks_were = clocks.were;
      clocks_are = clocks.are;
      clock_count = clocks.count;
      clocks = clocks.places;
      sealer = clocks.did.sealer;
      fresh = clocks.did.fresh;
      drawn = clocks.did.drawn;
      counts = clocks.did.counts;
      reported = clocks.did.reported;
      ending = clocks.did.receives.ending;
      answer = clocks.did.receives.answer;
      run = clocks.did.receives.run;
    }

-- all of that between a sink that was handed out and came back
pub around_sink : {I O E L C : Type 0} (old mid later new : Shelf I O E L C) (c : RecvCommand) (sink filled : O) → HandsOut old.sinks mid.sinks c.out sink → ChangesSinks old mid
    → KeepsFiles mid later → KeepsLinksBut (length c.links) mid.links later.links → KeepsLinksBut (length c.links) mid.clocks later.clocks → KeepsWords mid later (is_some c.session.pass)
    → TakesBack later.sinks new.sinks c.out filled → ChangesSinks later new → KeepsAroundSink old new c
around_sink old mid later new c sink filled out e files links clocks words back f = record {
  sources = ap (λ s. s.sources) f ∙ (files.sources ∙ ap (λ s. s.sources) e);
  sinks = λ name other. back.others name other ∙ (ap (λ x. x name) files.sinks ∙ out.others name other);
  sink = inr (sink, filled, out.was, back.now (ap (λ x. x c.out) files.sinks ∙ out.now));
  links = subst (λ x. KeepsLinksBut (length c.links) x new.links) (ap (λ s. s.links) e) (subst (λ x. KeepsLinksBut (length c.links) mid.links x) (sym (ap (λ s. s.links) f)) links);
  clocks = subst (λ x. KeepsLinksBut (length c.links) x new.clocks) (ap (λ s. s.clocks) e) (subst (λ x. KeepsLinksBut (length c.links) mid.clocks x) (sym (ap (λ s. s.clocks) f)) clocks);
  words = words_between old mid later new (is_some c.session.pass) (ap (λ s. s.entropies) e) (ap (λ s. s.entropies) f) words;
}

-- links that are opened in a role
abbrev pub links_in : Role → Profile → List LinkSpec → List Opened
links_in role profile specs = map (λ spec. record { spec = spec; role = role; profile = profile }) specs

-- a host that hands out a sink is as unused as before
pub still_unused_behind : {I O E L C : Type 0} (tells : Bool) (old mid : Shelf I O E L C) → ChangesSinks old mid → IsUnused tells old → IsUnused tells mid
still_unused_behind tells old mid e unused = record {
  told = unused.told;
  entropy = ap (λ x. x.next_entropy) e ∙ unused.entropy;
  links = ap (λ x. x.opened_links) e ∙ unused.links;
  clock = ap (λ x. x.next_clock) e ∙ unused.clock;
}

-- what a run left, under the names of its caller
pub receives_same : {O L C : Type 0} (contents : O → Option (List ℕ)) (faults : O → ℕ) (live : TellsLive L C) (c : RecvCommand) (sealer : Option SealerState) (links_were links links' : List L)
    (clocks_were clocks clocks' : List C) (sink : O) (r r' : O × Status) (counts : Counts) → links' ≡ links → clocks' ≡ clocks → r' ≡ r
    → ReceivesAs live c sealer links_were links clocks_were clocks (contents sink) (contents r.0) (faults sink) (faults r.0) counts r.1
    → ReceivesAs live c sealer links_were links' clocks_were clocks' (contents sink) (contents r'.0) (faults sink) (faults r'.0) counts r'.1
receives_same contents faults live c sealer links_were links links' clocks_were clocks clocks' sink r r' counts a b d receives = rw (a, b, d) receives
