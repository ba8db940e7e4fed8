-- What a gateway leaves, part by part, and how it ends where nothing fails but links.
use Rattle.std.proofs.Common.{◌≡◌, ◌∙◌, ◌⊎◌, ◌<◌, ◌≤◌, ◌+◌, ◌++◌, ℕ, List, length, map, take, drop, Option, None, Some}
use Rattle.std.proofs.Common.{IfSome, [], true, refl, sym, ap, subst, slice_get, slice_index_or, get_or-drop}
use Rattle.std.proofs.Common.{get_or-take, length-drop, length-take-le, arith}
use Rattle.std.proofs.lemmas.List.{length-map, get_or-map}
use Rattle.std.proofs.lemmas.Option.{get_or_from_slice_get}
use mathlib.Core.Logic.{inl, inr}
use Rattle.outside_io.specs.Causes.{Rose}
use Rattle.outside_host.specs.Shelf.{Shelf, ChangesLinks, ChangesOpening}
use Rattle.outside_host.specs.declared.host.Place.{Place}
use Rattle.outside_host.specs.declared.host.Place.TheVariants.{Here, Back}
use Rattle.outside_net.specs.declared.link_spec.LinkSpec.{LinkSpec}
use Rattle.outside_net.specs.declared.link_spec.Role.TheVariants.{Forwards, Receives}
use Rattle.outside_host.specs.declared.host.Opened.{Opened}
use Rattle.link_channels.specs.declared.profile.Profile.{Profile}
use Rattle.outside_host.specs.Links.{AreAsTheyWere, AreFirstOf, KnowStatedFrom}
use Rattle.psk_seal.specs.Sealer.{SealerState}
use Rattle.rist_wire.specs.declared.session.Session.{Session}
use Rattle.outside_net.specs.Links.{LinkTells}
use Rattle.rist_sender.specs.declared.settings.Settings.{Settings as SenderSettings}
use Rattle.sender_rules.specs.declared.send_bad.SendBad.{SendBad}
use Rattle.sender_rules.specs.declared.send_bad.SendBad.TheVariants as bads
use Rattle.rist_ends.specs.declared.counts.Counts.{Counts}
use Rattle.rist_ends.specs.declared.settings.Settings.{Settings as ReceiverSettings}
use Rattle.rist_compare.specs.declared.tear.Tear.{Tear}
use Rattle.desk_run.specs.declared.ending.Ending.{Ending}
use Rattle.desk_run.specs.declared.ending.Ending.TheVariants as endings
use Rattle.desk_run.specs.Run.{EndsAs}
use Rattle.desk_run.specs.Setup.{Setup as ReceiveSetup, given_to, setup_made}
use Rattle.rist_gateway.specs.declared.ending.GateEnding.{GateEnding}
use Rattle.rist_gateway.specs.declared.ending.GateEnding.TheVariants as gates
use Rattle.rist_gateway.specs.Onward.{HasRisen, LinkState, shown}
use Rattle.rist_gateway.specs.Run.{EndsGate}
use Rattle.rist_gateway.specs.Setup.{GateSetup, rules_with}
use Rattle.std.specs.List.{All}
use Rattle.sender_rules.specs.Bonding.{link_count}
use Rattle.rist_words.specs.CommandLine.{GateCommand}
use Rattle.rist_words.specs.Ranges.{IsWeight}
use Rattle.run_parts.specs.Causes.{CanRefuse}
use Rattle.run_gate.specs.Complete.{CompletesGating, IsGateWhole, StaysUpBehind}
use Rattle.run_parts.specs.Complete.{StaysUp}
use Rattle.run_gate.specs.Frame.{KeepsAroundGate}
use Rattle.run_parts.specs.Frame.{KeepsLinksBut, gate_draws, KeepsButTiming}
use Rattle.run_links.specs.Frame.{KeepsWords}
use Rattle.run_gate.specs.Gated.{Gated, Ungated, gate_status}
use Rattle.run_gate.specs.Inside.Gating.{GatesAs, PassesByClocks}
use Rattle.run_parts.specs.Objects.{Tells, TellsLive}
use Rattle.run_parts.specs.Places.{FromTheFirst}
use Rattle.run_gate.specs.Sealing.{AreDrawn}
use Rattle.run_parts.specs.Sealing.{FailedAt}
use Rattle.run_parts.specs.Sessions.{bonding_with, session_read}
use Rattle.run_links.specs.Sessions.{limits_served, settings_with, steps_kept}
use Rattle.run_gate.specs.Sessions.{sender_gated, session_gated, setup_gated}
use Rattle.run_parts.specs.declared.status.Status.{Status}
use Rattle.run_parts.specs.declared.status.Status.TheVariants as statuses
use Rattle.run_parts.proofs.PlaceLemmas.{at_place}
use Rattle.run_links.proofs.FailedLemmas.{failed_at}
use Rattle.run_links.proofs.KeptLemmas.{no_limit}
use Rattle.run_parts.proofs.HandedLemmas.{places_between}
use Rattle.run_links.proofs.WordLemmas.{words_between}
use Rattle.run_parts.proofs.RefusalLemmas.{is_refused}
use Rattle.run_parts.proofs.PeerLemmas.{stated_known}
use Rattle.run_gate.proofs.TakenLemmas.{took_behind}

-- links that are received on, and behind them links that are sent on
abbrev pub links_both : Profile → List LinkSpec → Profile → List LinkSpec → List Opened
links_both incoming inputs onward outputs =
    map (λ spec. record { spec = spec; role = Receives; profile = incoming }) inputs ++ map (λ spec. record { spec = spec; role = Forwards; profile = onward }) outputs

-- links of slices are those of the lists that these are of
pub both_same : (incoming : Profile) (ins inputs : List LinkSpec) (onward : Profile) (outs outputs : List LinkSpec) → ins ≡ inputs → outs ≡ outputs
    → links_both incoming ins onward outs ≡ links_both incoming inputs onward outputs
both_same incoming ins inputs onward outs outputs first second = ap (λ l. links_both incoming l onward outs) first ∙ ap (λ l. links_both incoming inputs onward l) second

-- likewise those that were tried
pub tried_on : (opened : List Opened) (incoming : Profile) (ins inputs : List LinkSpec) (onward : Profile) (outs outputs : List LinkSpec) → ins ≡ inputs → outs ≡ outputs
    → AreFirstOf opened (links_both incoming ins onward outs) → AreFirstOf opened (links_both incoming inputs onward outputs)
tried_on opened incoming ins inputs onward outs outputs first second front =
    subst (λ l. AreFirstOf opened (links_both incoming inputs onward l)) second (subst (λ l. AreFirstOf opened (links_both incoming l onward outs)) first front)

-- what is made for a receiving end and a sender with these settings
abbrev pub made_setup : ReceiveSetup → SenderSettings → Session → Option SealerState → GateSetup
made_setup receiving settings session sealer = record { receiving = receiving; rules = rules_with settings session; session = session; sealer = sealer }

-- a run is set to what a line says
pub same_gate_setup : (c : GateCommand) (receiving : ReceiveSetup) (settings : SenderSettings) (session : Session) (first second : Option SealerState)
    → receiving ≡ setup_made (settings_with c.receiver) (session_read c.incoming) first (steps_kept c.serving) true → settings ≡ sender_gated c → session ≡ session_gated c
    → made_setup receiving settings session second ≡ setup_gated c first second
same_gate_setup c receiving settings session first second a b d =
    ap (λ x. made_setup x settings session second) a
    ∙ (ap (λ x. made_setup (setup_made (settings_with c.receiver) (session_read c.incoming) first (steps_kept c.serving) true) x session second) b
    ∙ ap (λ x. made_setup (setup_made (settings_with c.receiver) (session_read c.incoming) first (steps_kept c.serving) true) (sender_gated c) x second) d)

-- a receiving end is set to what a line says
pub same_receiving_end : (settings settings' : ReceiverSettings) (session session' : Session) (sealer : Option SealerState) (limit limit' : Option ℕ) → settings ≡ settings' → session ≡ session' → limit ≡ limit'
    → setup_made settings session sealer limit true ≡ setup_made settings' session' sealer limit' true
same_receiving_end settings settings' session session' sealer limit limit' a b d = rw (a, b, d) refl

-- the links that share are as many as there are
pub as_many_links : (links : ℕ) (share : Option (List ℕ)) → IfSome share (λ weights. (length weights ≡ links) × All IsWeight weights) → link_count (bonding_with links share) ≡ links
as_many_links links None range = refl
as_many_links links (Some weights) range = range.0

-- what a run left, under the names of its caller
pub gates_same : {L C : Type 0} (live : TellsLive L C) (c : GateCommand) (receiving sending : Option SealerState) (links_were links links' : List L) (clocks_were clocks clocks' : List C) (status status' : Status)
    (counts : Counts) → links' ≡ links → clocks' ≡ clocks → status' ≡ status → GatesAs live c receiving sending links_were links clocks_were clocks counts status
    → GatesAs live c receiving sending links_were links' clocks_were clocks' counts status'
gates_same live c receiving sending links_were links links' clocks_were clocks clocks' status status' counts a b d gates = rw (a, b, d) gates

-- words that were drawn between the same places
pub both_between : {I O E : Type 0} (tells : Tells I O E) (first second : Option SealerState) (old mid later new : ℕ → Place E) → mid ≡ old → new ≡ later
    → AreDrawn tells mid later first second → AreDrawn tells old new first second
both_between tells first second old mid later new e f drawn =
    subst (λ x. AreDrawn tells x new first second) e (subst (λ x. AreDrawn tells mid x first second) (sym f) drawn)

-- what was done by clocks, over shelves that are the same but for links
pass_between : {I O E L C : Type 0} (tells : Tells I O E) (live : TellsLive L C) (old mid later new : Shelf I O E L C) (c : GateCommand) (were are : List L) (status : Status)
    → ChangesOpening old mid → ChangesLinks later new → PassesByClocks tells live mid later c status were are → PassesByClocks tells live old new c status were are
pass_between tells live old mid later new c were are status e f s = record {
  were = s.were;
  are = s.are;
  count = s.count;
  places = places_between old.clocks mid.clocks later.clocks new.clocks s.were s.are (ap (λ x. x.clocks) e) (ap (λ x. x.clocks) f) s.places;
  did = record {
    receiving = s.did.receiving;
    sending = s.did.sending;
    fresh_receiving = s.did.fresh_receiving;
    fresh_sending = s.did.fresh_sending;
    drawn = both_between tells s.did.receiving s.did.sending old.entropies mid.entropies later.entropies new.entropies (ap (λ x. x.entropies) e) (ap (λ x. x.entropies) f) s.did.drawn;
    counts = s.did.counts;
    reported = ap (λ x. x.report) f ∙ s.did.reported;
    gates = s.did.gates;
  };
}

-- what was done on links that were handed out and came back
pub gated_by : {I O E L C : Type 0} (tells : Tells I O E) (live : TellsLive L C) (old mid later new : Shelf I O E L C) (c : GateCommand) (were are : List L) (status : Status)
    → length were ≡ length c.inputs + length c.outputs → FromTheFirst old.links new.links were are → ChangesOpening old mid → ChangesLinks later new
    → KnowStatedFrom live.line.knows Forwards c.session.profile (length c.inputs) were → PassesByClocks tells live mid later c status were are → Gated tells live old new c status
gated_by tells live old mid later new c were are status count links e f know s =
    let clocks = pass_between tells live old mid later new c were are status e f s in
    record {
      links_were = were;
      links_are = are;
      link_count = count;
      links = links;
      clocks_were = clocks.were;
      clocks_are = clocks.are;
      clock_count = clocks.count;
      clocks = clocks.places;
      receiving = clocks.did.receiving;
      sending = clocks.did.sending;
      fresh_receiving = clocks.did.fresh_receiving;
      fresh_sending = clocks.did.fresh_sending;
      drawn = clocks.did.drawn;
      counts = clocks.did.counts;
      reported = clocks.did.reported;
      ending = clocks.did.gates.ending;
      answer = clocks.did.gates.answer;
      run = clocks.did.gates.run;
      taken = λ link d among.
          let n = length c.inputs in
          let inside : n + link < length were = omega (arith, among, count) in
          let sent : link < length (drop n were) = omega (arith, inside, length-drop n were) in
          let known = stated_known (live.line.knows (slice_index_or were (n + link) d)) Forwards c.session.profile refl (know (n + link) d (omega arith) inside) in
          record {
            known = known;
            taken = took_behind live.moments live.line (setup_gated c clocks.did.receiving clocks.did.sending) n link d were are _ _ _ _ clocks.did.gates.run.sends sent known;
          };
    }

-- all around links that were opened and came back
pub around_links : {I O E L C : Type 0} (old mid later new : Shelf I O E L C) (c : GateCommand) → ChangesOpening old mid → KeepsButTiming mid later → ChangesLinks later new
    → KeepsLinksBut (length c.inputs + length c.outputs) old.links new.links → KeepsLinksBut (length c.inputs + length c.outputs + 1) mid.clocks later.clocks
    → KeepsWords mid later (gate_draws c) → KeepsAroundGate old new c
around_links old mid later new c e others f links clocks words = record {
  sources = ap (λ s. s.sources) f ∙ (others.sources ∙ ap (λ s. s.sources) e);
  sinks = ap (λ s. s.sinks) f ∙ (others.sinks ∙ ap (λ s. s.sinks) e);
  links = links;
  clocks = subst (λ x. KeepsLinksBut (length c.inputs + length c.outputs + 1) x new.clocks) (ap (λ s. s.clocks) e)
      (subst (λ x. KeepsLinksBut (length c.inputs + length c.outputs + 1) mid.clocks x) (sym (ap (λ s. s.clocks) f)) clocks);
  words = words_between old mid later new (gate_draws c) (ap (λ s. s.entropies) e) (ap (λ s. s.entropies) f) words;
}

-- all around links that could not be opened
pub around_unopened : {I O E L C : Type 0} (old new : Shelf I O E L C) (c : GateCommand) → ChangesOpening old new → KeepsLinksBut (length c.inputs + length c.outputs) old.links new.links → KeepsAroundGate old new c
around_unopened old new c e links = record {
  sources = ap (λ s. s.sources) e;
  sinks = ap (λ s. s.sinks) e;
  links = links;
  clocks = record { others = λ place least. inl (ap (λ s. s.clocks place) e); first = λ place. inl (ap (λ s. s.clocks place) e) };
  words = record { others = λ place other. ap (λ s. s.entropies place) e; first = inl (ap (λ s. s.entropies 0) e); undrawn = λ none. ap (λ s. s.entropies 0) e };
}

-- words that failed, over shelves that are the same but for links
pub failed_between : {I O E L C : Type 0} (tells : Tells I O E) (old mid later new : Shelf I O E L C) → ChangesOpening old mid → ChangesLinks later new → FailedAt tells mid later → FailedAt tells old new
failed_between tells old mid later new e f s = record {
  words = s.words;
  drawn = s.drawn;
  took = sym (ap (λ x. x.entropies 0) e) ∙ s.took;
  gave = ap (λ x. x.entropies 0) f ∙ s.gave;
  rose = s.rose;
}

-- nothing was begun on links that came back as they were
pub ungated_between : {I O E L C : Type 0} (old mid later new : Shelf I O E L C) → ChangesOpening old mid → ChangesLinks later new → AreAsTheyWere old.links new.links
    → AreAsTheyWere mid.clocks later.clocks → later.report ≡ mid.report → Ungated old new
ungated_between old mid later new e f links clocks report = record {
  links = links;
  clocks = subst (λ x. AreAsTheyWere x new.clocks) (ap (λ s. s.clocks) e) (subst (λ x. AreAsTheyWere mid.clocks x) (sym (ap (λ s. s.clocks) f)) clocks);
  report = ap (λ s. s.report) f ∙ (report ∙ ap (λ s. s.report) e);
}

-- nor where they could not be opened
pub ungated_unopened : {I O E L C : Type 0} (old new : Shelf I O E L C) → ChangesOpening old new → AreAsTheyWere old.links new.links → Ungated old new
ungated_unopened old new e links = record { links = links; clocks = λ place. inl (ap (λ s. s.clocks place) e); report = ap (λ s. s.report) e }

-- why links are down at the end: those that are received on are, or a put was refused for it, or a look was
down_by : (ended : Ending) (put looked : Option SendBad) → EndsGate ended put looked gates.LinksDown
    → (ended ≡ endings.LinksDown) ⊎ ((put ≡ Some bads.LinksDown) ⊎ (looked ≡ Some bads.LinksDown))
down_by endings.WriteFault None looked ends = absurd ends
down_by endings.WriteFault (Some bads.Spent) looked ends = absurd (cc (ends))
down_by endings.WriteFault (Some bads.LinksDown) looked ends = inr (inl refl)
down_by endings.Spent put None ends = absurd (cc (ends))
down_by endings.Spent put (Some bads.Spent) ends = absurd (cc (ends))
down_by endings.Spent put (Some bads.LinksDown) ends = absurd (cc (ends))
down_by endings.TraceFull put None ends = absurd (cc (ends))
down_by endings.TraceFull put (Some bads.Spent) ends = absurd (cc (ends))
down_by endings.TraceFull put (Some bads.LinksDown) ends = absurd (cc (ends))
down_by (endings.Torn tear) put None ends = absurd (cc (ends))
down_by (endings.Torn tear) put (Some bads.Spent) ends = absurd (cc (ends))
down_by (endings.Torn tear) put (Some bads.LinksDown) ends = absurd (cc (ends))
down_by endings.LinksDown put looked ends = inl refl
down_by endings.Done put None ends = absurd (cc (ends))
down_by endings.Done put (Some bads.Spent) ends = absurd (cc (ends))
down_by endings.Done put (Some bads.LinksDown) ends = inr (inr refl)

-- the receiving end's trace was full, or its lists are torn, where the gateway's are
pub full_by : (ended : Ending) (put looked : Option SendBad) → EndsGate ended put looked gates.TraceFull → ended ≡ endings.TraceFull
full_by endings.WriteFault None looked ends = absurd ends
full_by endings.WriteFault (Some bads.Spent) looked ends = absurd (cc (ends))
full_by endings.WriteFault (Some bads.LinksDown) looked ends = absurd (cc (ends))
full_by endings.Spent put None ends = absurd (cc (ends))
full_by endings.Spent put (Some bads.Spent) ends = absurd (cc (ends))
full_by endings.Spent put (Some bads.LinksDown) ends = absurd (cc (ends))
full_by endings.TraceFull put looked ends = refl
full_by (endings.Torn tear) put None ends = absurd (cc (ends))
full_by (endings.Torn tear) put (Some bads.Spent) ends = absurd (cc (ends))
full_by (endings.Torn tear) put (Some bads.LinksDown) ends = absurd (cc (ends))
full_by endings.LinksDown put None ends = absurd (cc (ends))
full_by endings.LinksDown put (Some bads.Spent) ends = absurd (cc (ends))
full_by endings.LinksDown put (Some bads.LinksDown) ends = absurd (cc (ends))
full_by endings.Done put None ends = absurd (cc (ends))
full_by endings.Done put (Some bads.Spent) ends = absurd (cc (ends))
full_by endings.Done put (Some bads.LinksDown) ends = absurd (cc (ends))

same_tear : (a b : Tear) → gates.Torn a ≡ gates.Torn b → endings.Torn b ≡ endings.Torn a
same_tear a b e = cc (e)

pub torn_by : (tear : Tear) (ended : Ending) (put looked : Option SendBad) → EndsGate ended put looked (gates.Torn tear) → ended ≡ endings.Torn tear
torn_by tear endings.WriteFault None looked ends = absurd ends
torn_by tear endings.WriteFault (Some bads.Spent) looked ends = absurd (cc (ends))
torn_by tear endings.WriteFault (Some bads.LinksDown) looked ends = absurd (cc (ends))
torn_by tear endings.Spent put None ends = absurd (cc (ends))
torn_by tear endings.Spent put (Some bads.Spent) ends = absurd (cc (ends))
torn_by tear endings.Spent put (Some bads.LinksDown) ends = absurd (cc (ends))
torn_by tear endings.TraceFull put None ends = absurd (cc (ends))
torn_by tear endings.TraceFull put (Some bads.Spent) ends = absurd (cc (ends))
torn_by tear endings.TraceFull put (Some bads.LinksDown) ends = absurd (cc (ends))
torn_by tear (endings.Torn other) put None ends = same_tear tear other ends
torn_by tear (endings.Torn other) put (Some bads.Spent) ends = absurd (cc (ends))
torn_by tear (endings.Torn other) put (Some bads.LinksDown) ends = same_tear tear other ends
torn_by tear endings.LinksDown put None ends = absurd (cc (ends))
torn_by tear endings.LinksDown put (Some bads.Spent) ends = absurd (cc (ends))
torn_by tear endings.LinksDown put (Some bads.LinksDown) ends = absurd (cc (ends))
torn_by tear endings.Done put None ends = absurd (cc (ends))
torn_by tear endings.Done put (Some bads.Spent) ends = absurd (cc (ends))
torn_by tear endings.Done put (Some bads.LinksDown) ends = absurd (cc (ends))

-- one of the links behind the first ones, as it shows itself
shown_at : {L : Type 0} (line : LinkTells L) (xs : List L) (n k : ℕ) (x : L) (d : LinkState) → slice_get xs (n + k) ≡ Some x → k < length (drop n xs)
    → slice_index_or (map (shown line) (drop n xs)) k d ≡ shown line x
shown_at line xs n k x d here less =
    get_or-map (shown line) (drop n xs) k x d less ∙ ap (shown line) (get_or-drop n xs k x ∙ get_or_from_slice_get xs (n + k) x x here)

-- where all of them are down, the count of each rose
rose_behind : {L : Type 0} (line : LinkTells L) (why : Option SendBad) (first now : List LinkState) (were are : List L) (n k : ℕ) (was is : L) → why ≡ Some bads.LinksDown → HasRisen why first now
    → first ≡ map (shown line) (drop n were) → now ≡ map (shown line) (drop n are) → k < length (drop n were) → k < length (drop n are)
    → slice_get were (n + k) ≡ Some was → slice_get are (n + k) ≡ Some is → Rose (line.faults was) (line.faults is)
rose_behind line why first now were are n k was is down risen a b less later here there =
    let d = shown line was in
    let some : k < length first = subst (λ m. k < m) (sym (ap length a ∙ length-map (drop n were) (shown line))) less in
    let had : slice_index_or first k d ≡ shown line was = ap (λ l. slice_index_or l k d) a ∙ shown_at line were n k was d here less in
    let has : slice_index_or now k d ≡ shown line is = ap (λ l. slice_index_or l k d) b ∙ shown_at line are n k is d there later in
    subst (λ (s : LinkState). Rose (line.faults was) s.faults) has (subst (λ (s : LinkState). Rose s.faults (slice_index_or now k d).faults) had (risen down k d some))

-- so none of the links that are sent on stays up
sent_down : {I O E L C : Type 0} (tells : Tells I O E) (live : TellsLive L C) (old new : Shelf I O E L C) (c : GateCommand) (status : Status) (r : Gated tells live old new c status) (why : Option SendBad)
    → why ≡ Some bads.LinksDown → HasRisen why r.run.first.links r.run.last.links
    → StaysUpBehind live.line old.links new.links (length c.inputs) (length c.outputs) → ⊥
sent_down tells live old new c status r why down risen stays =
    let sends = r.run.sends in
    let n = length c.inputs in
    let k = stays.place in
    let among : n + k < length r.links_were = omega (arith, stays.among, r.link_count) in
    let had : k < length (drop n r.links_were) = omega (arith, among, length-drop n r.links_were) in
    let many : length (drop n r.links_are) ≡ length (drop n r.links_were) =
    sym (length-map (drop n r.links_are) (shown live.line))
    ∙ (ap length (sym sends.links_have) ∙ (sends.onward.count ∙ (ap length sends.links_had ∙ length-map (drop n r.links_were) (shown live.line)))) in
    let has : k < length (drop n r.links_are) = subst (λ m. k < m) (sym many) had in
    let later : n + k < length r.links_are = omega (arith, has, length-drop n r.links_are) in
    let was = at_place r.links_were (n + k) among in
    let is = at_place r.links_are (n + k) later in
    stays.up was.0 is.0 (r.links.took (n + k) was.0 among ∙ ap Here (get_or_from_slice_get r.links_were (n + k) was.0 was.0 was.1))
    (r.links.gave (n + k) is.0 among ∙ ap Back (get_or_from_slice_get r.links_are (n + k) is.0 is.0 is.1))
    (rose_behind live.line why r.run.first.links r.run.last.links r.links_were r.links_are n k was.0 is.0 down risen sends.links_had sends.links_have had has was.1 is.1)

-- nor of the links that are received on, where each of those failed
received_down : {I O E L C : Type 0} (tells : Tells I O E) (live : TellsLive L C) (old new : Shelf I O E L C) (c : GateCommand) (status : Status) (r : Gated tells live old new c status)
    → r.run.ended ≡ endings.LinksDown → StaysUp live.line old.links new.links (length c.inputs) → ⊥
received_down tells live old new c status r down stays =
    let run = r.run in
    let n = length c.inputs in
    let within : n ≤ length r.links_were = omega (arith, r.link_count) in
    let among : stays.place < length r.links_were = omega (arith, within, stays.among) in
    let few : stays.place < length (take n r.links_were) = subst (λ m. stays.place < m) (sym (length-take-le n r.links_were within)) stays.among in
    let failed =
    (subst (λ e. EndsAs e (given_to (setup_gated c r.receiving r.sending).receiving (Some []) 0) run.receives.desk run.receives.are r.counts) down run.receives.ends).1 in
    let f = failed_at live.moments live.line (setup_gated c r.receiving r.sending).receiving (limits_served c.serving) (take n r.links_were) (take n r.links_are) (take n r.clocks_were) (take n r.clocks_are)
    (Some []) _ 0 run.last.faults r.counts run.ended run.receives failed stays.place few in
    stays.up f.0 f.1 (r.links.took stays.place f.0 among ∙ ap Here (sym (get_or-take n r.links_were stays.place f.0 stays.among) ∙ f.2))
    (r.links.gave stays.place f.1 among ∙ ap Back (sym (get_or-take n r.links_are stays.place f.1 stays.among) ∙ f.3)) f.4

not_down : {I O E L C : Type 0} (tells : Tells I O E) (live : TellsLive L C) (old new : Shelf I O E L C) (c : GateCommand) (status : Status) (r : Gated tells live old new c status)
    → (r.run.ended ≡ endings.LinksDown) ⊎ ((r.run.last.put_bad ≡ Some bads.LinksDown) ⊎ (r.run.last.aside_bad ≡ Some bads.LinksDown))
    → StaysUp live.line old.links new.links (length c.inputs) → StaysUpBehind live.line old.links new.links (length c.inputs) (length c.outputs) → ⊥
not_down tells live old new c status r (inl ended) stays behind = received_down tells live old new c status r ended stays
not_down tells live old new c status r (inr (inl put)) stays behind =
    sent_down tells live old new c status r r.run.last.put_bad put r.run.sends.onward.put_down behind
not_down tells live old new c status r (inr (inr looked)) stays behind =
    sent_down tells live old new c status r r.run.last.aside_bad looked r.run.sends.onward.aside_down behind

ended_by : {I O E L C : Type 0} (tells : Tells I O E) (live : TellsLive L C) (old new : Shelf I O E L C) (c : GateCommand) (status : Status) (r : Gated tells live old new c status) (end : GateEnding)
    → r.ending ≡ end → status ≡ gate_status end → StaysUp live.line old.links new.links (length c.inputs)
    → StaysUpBehind live.line old.links new.links (length c.inputs) (length c.outputs) → IsGateWhole c status
ended_by tells live old new c status r gates.Done is answer stays behind = inl answer
ended_by tells live old new c status r gates.Spent is answer stays behind = inr (inl answer)
ended_by tells live old new c status r gates.TraceFull is answer stays behind =
    let run = r.run in
    let full = full_by run.ended run.last.put_bad run.last.aside_bad (subst (EndsGate run.ended run.last.put_bad run.last.aside_bad) is run.ends) in
    inr (inr (inr (λ zero. (run.receives.sure (no_limit c.serving.keep zero) refl).room full, inl answer)))
ended_by tells live old new c status r (gates.Torn tear) is answer stays behind =
    let run = r.run in
    let torn = torn_by tear run.ended run.last.put_bad run.last.aside_bad (subst (EndsGate run.ended run.last.put_bad run.last.aside_bad) is run.ends) in
    inr (inr (inr (λ zero. (run.receives.sure (no_limit c.serving.keep zero) refl).whole tear torn, inr (tear, answer))))
ended_by tells live old new c status r gates.LinksDown is answer stays behind =
    let run = r.run in
    absurd (not_down tells live old new c status r
    (down_by run.ended run.last.put_bad run.last.aside_bad (subst (EndsGate run.ended run.last.put_bad run.last.aside_bad) is run.ends)) stays behind)

refused_ends : (c : GateCommand) (s : Status) → (s ≡ statuses.OpenFault → ⊥) → (s ≡ statuses.EntropyFault → ⊥) → CanRefuse s → IsGateWhole c s
refused_ends c s opened words (inl e) = absurd (opened e)
refused_ends c s opened words (inr (inl e)) = inr (inr (inl e))
refused_ends c s opened words (inr (inr e)) = absurd (words e)

-- a gateway in which nothing fails but links, of which one of each end doesn't, comes to its end
pub gated_completes : {I O E L C : Type 0} (tells : Tells I O E) (live : TellsLive L C) (old new : Shelf I O E L C) (c : GateCommand) (status : Status)
    → (status ≡ statuses.OpenFault → ⊥) → (status ≡ statuses.EntropyFault → FailedAt tells old new) → ((CanRefuse status → ⊥) → Gated tells live old new c status)
    → CompletesGating tells live.line old new c status
gated_completes tells live old new c status opened words gated none stays behind = by_refusal (is_refused status)
  where
    by_refusal : CanRefuse status ⊎ (CanRefuse status → ⊥) → IsGateWhole c status
    by_refusal (inl refused) = refused_ends c status opened (λ e. none (words e)) refused
    by_refusal (inr ran) =
        let r = gated ran in
        ended_by tells live old new c status r r.ending refl r.answer stays behind
