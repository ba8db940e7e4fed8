-- What the links that a gateway sends on took.
use Rattle.std.proofs.Common.{◌≡◌, ◌∙◌, ◌<◌, ◌+◌, ◌^◌, ◌-◌, ◌++◌, get_or-drop, ℕ, List, length, map, drop, Option, option_map, slice_index_or, sym, ap, subst}
use Rattle.std.proofs.lemmas.List.{length-map, get_or-map}
use Rattle.outside_net.specs.Links.{Datagram, LinkTells}
use Rattle.rist_wire.specs.declared.session.Session.{Session}
use Rattle.rist_sender.specs.History.{Event, tried_as, tried_on}
use Rattle.rist_sender.specs.Links.{datagrams_given}
use Rattle.rist_sender.specs.Served.{KnowsPeers}
use Rattle.rist_sender.proofs.PeerLemmas.{took_all}
use Rattle.rist_gateway.specs.Onward.{LinkState, OnwardState, plain, shown}
use Rattle.rist_gateway.specs.Run.{SendsOnward}
use Rattle.rist_gateway.specs.Setup.{GateSetup}

-- what a link held, and behind it what was written on it
abbrev with_written : ℕ → Session → ℕ → List Event → Option (List Datagram) → Option (List Datagram)
with_written flow session link history taken = option_map (λ held. held ++ datagrams_given (tried_on (tried_as flow session) link history)) taken

-- as the links of a sending end show themselves
pub onward_taken : {L C : Type 0} (moments : C → Option (ℕ → ℕ)) (line : LinkTells L) (s : GateSetup) (were are : List L) (clock_was clock_is : C) (first last : OnwardState)
    → (sends : SendsOnward moments line s were are clock_was clock_is first last) → (link : ℕ) (d : L) → link < length were
    → KnowsPeers s.session (line.knows (slice_index_or were link d)) → line.faults (slice_index_or were link d) < 2 ^ 64 - 1
    → line.faults (slice_index_or are link d) ≡ line.faults (slice_index_or were link d)
    → line.taken (slice_index_or are link d) ≡ with_written s.rules.flow s.session link sends.onward.moved.to.work.history (line.taken (slice_index_or were link d))
onward_taken moments line s were are clock_was clock_is first last sends link d among known few same =
    let D = shown line d in
    let history = sends.onward.moved.to.work.history in
    let many : length are ≡ length were =
    sym (length-map are (shown line)) ∙ (ap length (sym sends.links_have) ∙ (sends.onward.count ∙ (ap length sends.links_had ∙ length-map were (shown line)))) in
    let had : slice_index_or first.links link D ≡ shown line (slice_index_or were link d) =
    ap (λ l. slice_index_or l link D) sends.links_had ∙ get_or-map (shown line) were link d D among in
    let has : slice_index_or last.links link D ≡ shown line (slice_index_or are link d) =
    ap (λ l. slice_index_or l link D) sends.links_have ∙ get_or-map (shown line) are link d D (subst (λ n. link < n) (sym many) among) in
    let there : link < length first.links = subst (λ n. link < n) (sym (ap length sends.links_had ∙ length-map were (shown line))) among in
    let all = took_all plain first.sender.flow first.sender.session history first.links last.links link D sends.onward.moved.given there
    (subst (λ (z : LinkState). z.faults < 2 ^ 64 - 1) (sym had) few)
    (ap (λ (z : LinkState). z.faults) has ∙ (same ∙ sym (ap (λ (z : LinkState). z.faults) had)))
    (subst (λ (z : LinkState). KnowsPeers first.sender.session z.knows) (sym had) (subst (λ (z : Session). KnowsPeers z (line.knows (slice_index_or were link d))) (sym sends.session) known)) in
    let there_taken = sym (ap (λ (z : LinkState). z.taken) has) ∙ (all ∙ ap (λ (z : LinkState). with_written first.sender.flow first.sender.session link history z.taken) had) in
    there_taken
    ∙ (ap (λ (z : ℕ). with_written z first.sender.session link history (line.taken (slice_index_or were link d))) (ap (λ r. r.flow) sends.rules)
    ∙ ap (λ (z : Session). with_written s.rules.flow z link history (line.taken (slice_index_or were link d))) sends.session)

-- by their places behind those that are received on
pub took_behind : {L C : Type 0} (moments : C → Option (ℕ → ℕ)) (line : LinkTells L) (s : GateSetup) (n link : ℕ) (d : L) (were are : List L) (clock_was clock_is : C) (first last : OnwardState)
    → (sends : SendsOnward moments line s (drop n were) (drop n are) clock_was clock_is first last) → link < length (drop n were)
    → KnowsPeers s.session (line.knows (slice_index_or were (n + link) d)) → line.faults (slice_index_or were (n + link) d) < 2 ^ 64 - 1
    → line.faults (slice_index_or are (n + link) d) ≡ line.faults (slice_index_or were (n + link) d)
    → line.taken (slice_index_or are (n + link) d) ≡ with_written s.rules.flow s.session link sends.onward.moved.to.work.history (line.taken (slice_index_or were (n + link) d))
took_behind {L} moments line s n link d were are clock_was clock_is first last sends among =
    let P : L → L → Type 0 = λ w i. KnowsPeers s.session (line.knows w) → line.faults w < 2 ^ 64 - 1 → line.faults i ≡ line.faults w
    → line.taken i ≡ with_written s.rules.flow s.session link sends.onward.moved.to.work.history (line.taken w) in
    subst (λ (w : L). P w (slice_index_or are (n + link) d)) (get_or-drop n were link d)
    (subst (λ (i : L). P (slice_index_or (drop n were) link d) i) (get_or-drop n are link d)
    (onward_taken moments line s (drop n were) (drop n are) clock_was clock_is first last sends link d among))
