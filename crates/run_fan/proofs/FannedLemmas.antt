-- The sink of each output was handed out, and came back with what was received; and what that was part by part.
use Rattle.std.proofs.Common.{◌≡◌, ◌∙◌, ◌<◌, ℕ, List, [], length, map, slice_get, Bool, true, Option, Some, is_some, ap, sym, subst, arith}
use mathlib.Core.Logic.{inr}
use Rattle.std.specs.List.{All}
use Rattle.std.proofs.lemmas.List.{get_or_default, length-map}
use Rattle.std.proofs.lemmas.List.Elements.{All-get_or}
use Rattle.std.proofs.lemmas.Option.{get_or_from_slice_get, slice_get_within}
use Rattle.outside_io.specs.Told.{IsEmpty}
use Rattle.link_channels.specs.declared.profile.Profile.{Profile}
use Rattle.outside_net.specs.declared.link_spec.LinkSpec.{LinkSpec}
use Rattle.outside_net.specs.declared.link_spec.Role.{Role}
use Rattle.outside_host.specs.declared.host.Opened.{Opened}
use Rattle.outside_host.specs.Shelf.{ChangesSinks, Shelf}
use Rattle.outside_host.specs.Links.{AreAsTheyWere}
use Rattle.outside_host.specs.Sinks.{AreBack, AreDifferent, AreOut}
use Rattle.outside_host.specs.declared.host.Place.TheVariants.{Here, Out, Back}
use Rattle.rist_ends.specs.declared.counts.Counts.{Counts}
use Rattle.rist_fan.specs.declared.flow.Flow.{Flow}
use Rattle.rist_words.specs.CommandLine.{FanCommand}
use Rattle.rist_words.specs.Ranges.{IsInFan}
use Rattle.psk_seal.specs.Sealer.{SealerState}
use Rattle.run_parts.specs.Frame.{KeepsFiles, KeepsLinksBut}
use Rattle.run_parts.specs.Hosts.{IsUnused}
use Rattle.run_parts.specs.Objects.{Tells, TellsLive}
use Rattle.run_parts.specs.Places.{IsAsItWas}
use Rattle.run_parts.specs.declared.status.Status.{Status}
use Rattle.run_parts.proofs.HandedLemmas.{places_between}
use Rattle.run_parts.proofs.PlaceLemmas.{at_place, not_as_it_stood}
use Rattle.run_links.specs.Frame.{KeepsWords}
use Rattle.run_links.proofs.WordLemmas.{words_between}
use Rattle.run_fan.specs.Fanned.{Fanned, Unfanned}
use Rattle.run_fan.specs.Frame.{KeepsAroundSinks, OpensSinksFirst}
use Rattle.run_fan.specs.Inside.Fanning.{FansByClocks, FansOnLinks, FansWith, TellsSinks}
use Rattle.run_fan.specs.Inside.Making.{counts_of, sink_of}
use Rattle.run_fan.specs.Sealing.{DrawnInOrder}
use Rattle.run_fan.specs.Sessions.{output_name}
use Rattle.run_fan.proofs.MakingLemmas.{part_at}

-- ---- part by part

-- sealers that were drawn between the same places
pub drawn_between : {I O E : Type 0} (tells : Tells I O E) (keyed : Bool) (sealers : List (Option SealerState)) (old mid later new : ℕ → _) → mid ≡ old → new ≡ later
    → (keyed ≡ true → DrawnInOrder tells mid later sealers) → keyed ≡ true → DrawnInOrder tells old new sealers
drawn_between tells keyed sealers old mid later new e f drawn key = subst (λ x. DrawnInOrder tells x new sealers) e (subst (λ x. DrawnInOrder tells mid x sealers) (sym f) (drawn key))

-- what was received by clocks, over shelves that are the same but for sinks and links
pub by_clocks_between : {I O E L C : Type 0} (tells : Tells I O E) (live : TellsLive L C) (old mid later new : Shelf I O E L C) (c : FanCommand) (were are : List L) (sinks filled : List O) (status : Status)
    → mid.clocks ≡ old.clocks → mid.entropies ≡ old.entropies → new.clocks ≡ later.clocks → new.entropies ≡ later.entropies → new.report ≡ later.report
    → FansByClocks tells live mid later c sinks filled status were are → FansByClocks tells live old new c sinks filled status were are
by_clocks_between tells live old mid later new c were are sinks filled status k e l f r s = record {
  were = s.were;
  are = s.are;
  count = s.count;
  places = places_between old.clocks mid.clocks later.clocks new.clocks s.were s.are k l s.places;
  did = record {
    sealers = s.did.sealers;
    sealer_count = s.did.sealer_count;
    fresh = s.did.fresh;
    drawn = drawn_between tells (is_some c.session.pass) s.did.sealers old.entropies mid.entropies later.entropies new.entropies e f s.did.drawn;
    counts = s.did.counts;
    reported = λ v one last at. r ∙ s.did.reported v one last at;
    fans = s.did.fans;
  };
}

-- what a run left, under the names of its caller
pub fans_same : {K L C : Type 0} (live : TellsLive L C) (sinks : TellsSinks K) (c : FanCommand) (sealers : List (Option SealerState)) (links_were links links' : List L) (clocks_were clocks clocks' : List C)
    (sinks_were are are' : List K) (counts : List Counts) (status status' : Status) → links' ≡ links → clocks' ≡ clocks → are' ≡ are → status' ≡ status
    → FansWith live sinks c sealers links_were links clocks_were clocks sinks_were are counts status → FansWith live sinks c sealers links_were links' clocks_were clocks' sinks_were are' counts status'
fans_same live sinks c sealers links_were links links' clocks_were clocks clocks' sinks_were are are' counts status status' a b d e fans = rw (a, b, d, e) fans

-- links that are opened in a role and a profile, the first first
abbrev pub links_in : Role → Profile → List LinkSpec → List Opened
links_in role profile specs = map (λ spec. record { spec = spec; role = role; profile = profile }) specs

-- a host that hands out sinks is as unused as before
pub still_unused_behind : {I O E L C : Type 0} (tells : Bool) (old mid : Shelf I O E L C) → ChangesSinks old mid → IsUnused tells old → IsUnused tells mid
still_unused_behind tells old mid e unused = record {
  told = unused.told;
  entropy = ap (λ x. x.next_entropy) e ∙ unused.entropy;
  links = ap (λ x. x.opened_links) e ∙ unused.links;
  clock = ap (λ x. x.next_clock) e ∙ unused.clock;
}

-- ---- the sinks

-- no name is given twice
pub names_differ : (c : FanCommand) → IsInFan c → AreDifferent c.names
names_differ c range i j default less within same =
    let low : i < length c.names = omega (arith, less, within) in
    let one : i ≡ j = range.outs.apart i j low within (sym (get_or_default c.names i default [] low) ∙ (same ∙ get_or_default c.names j default [] within)) in
    omega (arith, less, one)

-- sinks were handed out in order, what was done between changed no source and no sink, and they came back
pub record WasHandled {I O E L C : Type 0} (c : FanCommand) (old mid later new : Shelf I O E L C) (were are : List O) : Type 0 where
  pub outs : AreOut old.sinks mid.sinks c.names were
  pub outs_alone : ChangesSinks old mid
  pub files : KeepsFiles mid later
  pub backs : AreBack later.sinks new.sinks c.names are
  pub backs_alone : ChangesSinks later new
  pub many : length were ≡ length c.names
  pub as_many : length are ≡ length were

module _ {I O E L C : Type 0} (c : FanCommand) (old mid later new : Shelf I O E L C) (were are : List O) (range : IsInFan c) (h : WasHandled c old mid later new were are) where
  named : (v : ℕ) → v < length c.ports → v < length c.names
  named v less = subst (λ n. v < n) (sym range.outs.count) less

  -- the sink of an output, before and after
  was_at : (v : ℕ) → v < length c.ports → (sink : O) × (slice_get were v ≡ Some sink)
  was_at v less = at_place were v (subst (λ n. v < n) (sym h.many) (named v less))

  is_at : (v : ℕ) → v < length c.ports → (filled : O) × (slice_get are v ≡ Some filled)
  is_at v less = at_place are v (subst (λ n. v < n) (sym (h.as_many ∙ h.many)) (named v less))

  took_sink : (v : ℕ) (sink : O) → v < length c.ports → slice_get were v ≡ Some sink → old.sinks (output_name c v) ≡ Here sink
  took_sink v sink less at = h.outs.was v sink (named v less) ∙ ap Here (get_or_from_slice_get were v sink sink at)

  gave_sink : (v : ℕ) (filled : O) → v < length c.ports → slice_get are v ≡ Some filled → new.sinks (output_name c v) ≡ Back filled
  gave_sink v filled less at =
      h.backs.now v filled (named v less) (ap (λ f. f (output_name c v)) h.files.sinks ∙ All-get_or (λ name. mid.sinks name ≡ Out) c.names v [] (named v less) h.outs.now)
      ∙ ap Back (get_or_from_slice_get are v filled filled at)

  inside : {X : Type 0} (xs : List X) (v : ℕ) (x : X) → slice_get xs v ≡ Some x → length xs ≡ length c.names → v < length c.ports
  inside xs v x at count = subst (λ n. v < n) (count ∙ range.outs.count) (slice_get_within xs v x at)

  -- all was opened, and nothing stands as it stood
  pub sinks_first : OpensSinksFirst old new c
  sinks_first = record {
    order = λ i j default less within same.
        let low : i < length c.names = omega (arith, less, within) in
        let at : i < length c.ports = subst (λ n. i < n) range.outs.count low in
        let sink = was_at i at in
        let filled = is_at i at in
        let name = get_or_default c.names i default [] low in
        absurd (not_as_it_stood (old.sinks (output_name c i)) (new.sinks (output_name c i)) sink.0 filled.0 (took_sink i sink.0 at sink.1) (gave_sink i filled.0 at filled.1)
        (subst (λ n. new.sinks n ≡ old.sinks n) name same));
    alone = λ v less same.
        let sink = was_at v less in
        let filled = is_at v less in
        absurd (not_as_it_stood (old.sinks (output_name c v)) (new.sinks (output_name c v)) sink.0 filled.0 (took_sink v sink.0 less sink.1) (gave_sink v filled.0 less filled.1) same);
  }

  pub around_sinks : KeepsLinksBut (length c.links) mid.links later.links → KeepsLinksBut (length c.links) mid.clocks later.clocks → KeepsWords mid later (is_some c.session.pass) → KeepsAroundSinks old new c
  around_sinks links clocks words =
      let e = h.outs_alone in
      let f = h.backs_alone in
      record {
        sources = ap (λ s. s.sources) f ∙ (h.files.sources ∙ ap (λ s. s.sources) e);
        sinks = λ name none. h.backs.others name none ∙ (ap (λ x. x name) h.files.sinks ∙ h.outs.others name none);
        outputs = λ v less.
            let sink = was_at v less in
            let filled = is_at v less in
            inr (sink.0, filled.0, took_sink v sink.0 less sink.1, gave_sink v filled.0 less filled.1);
        links = subst (λ x. KeepsLinksBut (length c.links) x new.links) (ap (λ s. s.links) e) (subst (λ x. KeepsLinksBut (length c.links) mid.links x) (sym (ap (λ s. s.links) f)) links);
        clocks = subst (λ x. KeepsLinksBut (length c.links) x new.clocks) (ap (λ s. s.clocks) e) (subst (λ x. KeepsLinksBut (length c.links) mid.clocks x) (sym (ap (λ s. s.clocks) f)) clocks);
        words = words_between old mid later new (is_some c.session.pass) (ap (λ s. s.entropies) e) (ap (λ s. s.entropies) f) words;
      }

  -- nothing of it was read or written
  pub unfanned_by : are ≡ were → AreAsTheyWere mid.links later.links → AreAsTheyWere mid.clocks later.clocks → later.report ≡ mid.report → Unfanned old new c
  unfanned_by unwritten links clocks report =
      let e = h.outs_alone in
      let f = h.backs_alone in
      record {
        sinks = λ v less.
            let sink = was_at v less in
            inr (sink.0, took_sink v sink.0 less sink.1, gave_sink v sink.0 less (subst (λ l. slice_get l v ≡ Some sink.0) (sym unwritten) sink.1));
        links = λ place. subst (λ x. IsAsItWas (x place) (new.links place)) (ap (λ s. s.links) e) (subst (λ x. IsAsItWas (mid.links place) (x place)) (sym (ap (λ s. s.links) f)) (links place));
        clocks = λ place. subst (λ x. IsAsItWas (x place) (new.clocks place)) (ap (λ s. s.clocks) e) (subst (λ x. IsAsItWas (mid.clocks place) (x place)) (sym (ap (λ s. s.clocks) f)) (clocks place));
        report = ap (λ s. s.report) f ∙ (report ∙ ap (λ s. s.report) e);
      }

  pub fanned_by : (tells : Tells I O E) (live : TellsLive L C) (status : Status) → All (λ sink. IsEmpty (tells.contents sink)) were → FansOnLinks tells live mid later c were are status → Fanned tells live old new c status
  fanned_by tells live status empty s =
      let e = h.outs_alone in
      let f = h.backs_alone in
      let clocks = by_clocks_between tells live old mid later new c s.were s.are were are status (ap (λ x. x.clocks) e) (ap (λ x. x.entropies) e) (ap (λ x. x.clocks) f) (ap (λ x. x.entropies) f)
      (ap (λ x. x.report) f) s.did in
      let did = clocks.did in
      let fans = did.fans.fans in
      let had : (v : ℕ) (flow : Flow O) → slice_get fans.flows v ≡ Some flow → slice_get were v ≡ Some flow.sink = λ v flow at. part_at sink_of fans.flows were v flow fans.had at in
      let has : (v : ℕ) (flow : Flow O) → slice_get fans.left v ≡ Some flow → slice_get are v ≡ Some flow.sink = λ v flow at. part_at sink_of fans.left are v flow fans.has at in
      record {
        flows = fans.flows;
        left = fans.left;
        places = many_flows fans.flows were fans.had ∙ (h.many ∙ range.outs.count);
        took = λ v flow at. took_sink v flow.sink (inside were v flow.sink (had v flow at) h.many) (had v flow at);
        gave = λ v flow at. gave_sink v flow.sink (inside are v flow.sink (has v flow at) (h.as_many ∙ h.many)) (has v flow at);
        empty = λ v flow at.
            subst (λ (x : O). IsEmpty (tells.contents x)) (get_or_from_slice_get were v flow.sink flow.sink (had v flow at))
            (All-get_or (λ (x : O). IsEmpty (tells.contents x)) were v flow.sink (slice_get_within were v flow.sink (had v flow at)) empty);
        links_were = s.were;
        links_are = s.are;
        link_count = s.count;
        links = places_between old.links mid.links later.links new.links s.were s.are (ap (λ x. x.links) e) (ap (λ x. x.links) f) s.places;
        clocks_were = clocks.were;
        clocks_are = clocks.are;
        clock_count = clocks.count;
        clocks = clocks.places;
        sealers = did.sealers;
        sealer_count = did.sealer_count;
        fresh = did.fresh;
        drawn = did.drawn;
        set = fans.set;
        reported = λ v flow last at. did.reported v flow.receiver.counts last (part_at counts_of fans.left did.counts v flow fans.counted at);
        ending = did.fans.ending;
        answer = did.fans.answer;
        came = fans.came;
        run = fans.run;
      }
    where
      many_flows : (flows : List (Flow O)) (sinks : List O) → map sink_of flows ≡ sinks → length flows ≡ length sinks
      many_flows flows sinks is = sym (length-map flows sink_of) ∙ ap length is
