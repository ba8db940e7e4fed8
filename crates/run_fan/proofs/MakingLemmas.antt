-- Receivers and sinks as flows, and sealers that are drawn one after another.
use Rattle.std.proofs.Common.{◌≡◌, ◌∙◌, ◌<◌, ◌≤◌, ◌+◌, ℕ, zero, suc, List, [], ◌∷◌, ◌++◌, length, map, slice_get, true, false}
use Rattle.std.proofs.Common.{Option, None, Some, is_some, refl, ap, sym, subst, arith}
use Rattle.std.proofs.Common.{append_assoc, if◌then◌else◌}
use Rattle.std.specs.Prelude.{Result, Ok, Err, IsOk, is_ok, insert, remove, slice_index, slice_index_or}
use Rattle.std.proofs.lemmas.List.{length-map, map-append}
use Rattle.rist_wire.specs.Writing.{ShutterState}
use Rattle.std.specs.List.{All}
use Rattle.std.specs.Option.{option_map}
use Rattle.std.proofs.lemmas.List.Elements.{All-get_or}
use Rattle.std.proofs.lemmas.Option.{get_or_from_slice_get, slice_get_within, slice_get-map}
use Rattle.outside_io.specs.Told.{IsEmpty}
use Rattle.psk_seal.specs.Sealer.{SealerState}
use Rattle.psk_seal.specs.Nonces.{Draws}
use Rattle.rist_ends.specs.Receiver.{ReceiverState}
use Rattle.rist_fan.specs.declared.flow.Flow.{Flow}
use Rattle.rist_fan.specs.declared.flow.Came.{Came}
use Rattle.fan_desk.specs.Origin.{AreUntold}
use Rattle.outside_net.specs.Links.{LinkTells}
use Rattle.rist_wire.specs.Among.{ArePorts}
use Rattle.rist_wire.specs.declared.session.Session.{Session as WireSession}
use Rattle.rist_desk.specs.declared.worker.ServingLimits.{ServingLimits}
use Rattle.desk_run.specs.declared.ending.Ending.{Ending}
use Rattle.desk_run.specs.Run.{TimedLinks}
use Rattle.fan_run.specs.Run.{ReceivesFlows, flows_of}
use Rattle.rist_words.specs.Ranges.{IsInFan}
use Rattle.rist_words.specs.CommandLine.{FanCommand, Session}
use Rattle.run_parts.specs.Sealing.{IsFreshFor}
use Rattle.run_fan.specs.Inside.Making.{AreNewFor, IsNewSealer, IsNewWith, receiver_of, sealer_of, sink_of}
use Rattle.run_fan.specs.Sealing.{AreDrawn}
use Rattle.run_fan.specs.Sessions.{IsSetAt}

-- ---- sealers

-- one more is drawn behind the others
pub drawn_more : (old mid new : Option (List ℕ)) (sealers : List (Option SealerState)) (one : SealerState) → AreDrawn old mid sealers → Draws mid new one.nonces 16 → AreDrawn old new (sealers ++ Some one ∷ [])
drawn_more old mid new [] one drawn more = (new, subst (λ (x : Option (List ℕ)). Draws x new one.nonces 16) drawn more, refl)
drawn_more old mid new (None ∷ rest) one drawn more = drawn_more old mid new rest one drawn more
drawn_more old mid new (Some first ∷ rest) one drawn more = (drawn.0, drawn.1, drawn_more drawn.0 mid new rest one drawn.2 more)

-- new sealers are fresh for a session that has a passphrase, and none for one that has none
pub fresh_keyed : (s : Session) (sealers : List (Option SealerState)) → is_some s.pass ≡ true → All IsNewSealer sealers → All (IsFreshFor s) sealers
fresh_keyed s sealers keyed all i d less = let new = all i d less in record { paired = new.some ∙ sym keyed; fresh = new.fresh; nonces = new.nonces }

none_fresh : (s : Session) → is_some s.pass ≡ false → IsFreshFor s None
none_fresh s clear = record { paired = sym clear; fresh = tt; nonces = tt }

pub fresh_clear : (s : Session) (sealers : List (Option SealerState)) → is_some s.pass ≡ false → All (λ sealer. sealer ≡ None) sealers → All (IsFreshFor s) sealers
fresh_clear s sealers clear all i d less = subst (IsFreshFor s) (sym (all i d less)) (none_fresh s clear)

-- ---- flows

-- the first of a list before the others
pub first_before : {A : Type 0} (xs : List A) (x : A) (rest : List A) → 0 < length xs → x ≡ slice_index_or xs 0 x → rest ≡ remove xs 0 → x ∷ rest ≡ xs
first_before [] x rest some is are = absurd (omega (arith, some))
first_before (y ∷ ys) x rest some is are = ap (λ l. x ∷ l) are ∙ ap (λ z. z ∷ ys) is

some_same : {A : Type 0} (x y : A) → Some x ≡ Some y → x ≡ y
some_same x y e = cc (e)

-- a part of what stands at a place
pub part_at : {A B : Type 0} (f : A → B) (xs : List A) (ys : List B) (v : ℕ) (x : A) → map f xs ≡ ys → slice_get xs v ≡ Some x → slice_get ys v ≡ Some (f x)
part_at f xs ys v x are at = subst (λ l. slice_get l v ≡ Some (f x)) are (slice_get-map f xs v ∙ ap (option_map f) at)

-- receivers that were told nothing with sinks that hold nothing
pub untold_flows : {K : Type 0} (c : FanCommand) (contents : K → Option (List ℕ)) (receivers : List ReceiverState) (sinks : List K) (flows : List (Flow K)) → AreNewFor c receivers
    → All (λ sink. IsEmpty (contents sink)) sinks → map receiver_of flows ≡ receivers → map sink_of flows ≡ sinks → AreUntold contents flows
untold_flows {K} c contents receivers sinks flows new empty are held v flow at =
    let r = new v flow.receiver (part_at receiver_of flows receivers v flow are at) in
    let there : slice_get sinks v ≡ Some flow.sink = part_at sink_of flows sinks v flow held at in
    record {
      receiver = r.told;
      running = r.running;
      empty = subst (λ (k : K). IsEmpty (contents k)) (get_or_from_slice_get sinks v flow.sink flow.sink there)
          (All-get_or (λ (k : K). IsEmpty (contents k)) sinks v flow.sink (slice_get_within sinks v flow.sink there) empty);
    }

-- each receiver is set for its place
pub set_flows : {K : Type 0} (c : FanCommand) (receivers : List ReceiverState) (sealers : List (Option SealerState)) (flows : List (Flow K)) → AreNewFor c receivers → map receiver_of flows ≡ receivers
    → map sealer_of receivers ≡ sealers → (v : ℕ) (flow : Flow K) (sealer : Option SealerState) → slice_get flows v ≡ Some flow → slice_get sealers v ≡ Some sealer → IsSetAt c v sealer flow.receiver
set_flows c receivers sealers flows new are seal v flow sealer at there =
    let r = part_at receiver_of flows receivers v flow are at in
    let n = new v flow.receiver r in
    let same : sealer_of flow.receiver ≡ sealer = some_same (sealer_of flow.receiver) sealer (sym (part_at sealer_of receivers sealers v flow.receiver seal r) ∙ there) in
    subst (λ (s : Option SealerState). IsSetAt c v s flow.receiver) same (record { settings = n.settings; shutter = n.shutter })

-- ---- from the last place to the first

-- one more stands before the others
pub inserted : {T E X : Type 0} (r : Result T E) (old new : List X) (x : X) → IsOk r → new ≡ (if is_ok r then insert old 0 x else old) → new ≡ x ∷ old
inserted (Ok y) old new x ok is = is
inserted (Err e) old new x ok is = absurd (cc (ok))

-- one more of a list has gone over to the front of another, in a part of it
pub one_back : {A B : Type 0} (f : A → B) (old left : List A) (x : A) (had has : List B) (all : List B) → old ≡ left ++ x ∷ [] → has ≡ f x ∷ had → map f old ++ had ≡ all → map f left ++ has ≡ all
one_back f old left x had has all popped put was =
    ap (λ l. map f left ++ l) put
    ∙ (sym (append_assoc (map f left) (f x ∷ []) had)
    ∙ (ap (λ l. l ++ had) (sym (map-append f left (x ∷ []))) ∙ (ap (λ l. map f l ++ had) (sym popped) ∙ was)))

-- likewise where it is a part of what stands before the other
pub one_over : {A B : Type 0} (f : B → A) (old left : List A) (y : B) (had has : List B) (all : List A) → old ≡ left ++ f y ∷ [] → has ≡ y ∷ had → old ++ map f had ≡ all → left ++ map f has ≡ all
one_over f old left y had has all popped put was =
    ap (λ l. left ++ map f l) put
    ∙ (sym (append_assoc left (f y ∷ []) (map f had)) ∙ (ap (λ l. l ++ map f had) (sym popped) ∙ was))

-- a receiver that is set for the place before the others
pub new_before : (c : FanCommand) (receivers : List ReceiverState) (first : ReceiverState) (sealer : Option SealerState) (place n m : ℕ) → place ≡ n → m ≡ n + 1 → IsNewWith c (slice_index c.ports place) sealer first
    → ((k : ℕ) (r : ReceiverState) → slice_get receivers k ≡ Some r → IsNewWith c (slice_index c.ports (m + k)) (sealer_of r) r)
    → (k : ℕ) (r : ReceiverState) → slice_get (first ∷ receivers) k ≡ Some r → IsNewWith c (slice_index c.ports (n + k)) (sealer_of r) r
new_before c receivers first sealer place n m here next new others zero r at =
    let own : IsNewWith c (slice_index c.ports place) (sealer_of first) first = subst (λ (s : Option SealerState). IsNewWith c (slice_index c.ports place) s first) (sym (ap (λ (s : ShutterState). s.sealer) new.shutter)) new in
    subst (λ (x : ReceiverState). IsNewWith c (slice_index c.ports (n + 0)) (sealer_of x) x) (some_same first r at)
    (subst (λ (k : ℕ). IsNewWith c (slice_index c.ports k) (sealer_of first) first) (omega (arith, here)) own)
new_before c receivers first sealer place n m here next new others (suc k) r at =
    subst (λ (p : ℕ). IsNewWith c (slice_index c.ports p) (sealer_of r) r) (omega (arith, next)) (others k r at)

-- ---- a run

-- the ports of a line's outputs are ports of one tunnel
pub are_ports : (c : FanCommand) → IsInFan c → ArePorts c.ports
are_ports c range = record { some = range.outs.some; few = range.outs.few; even = range.outs.even; high = range.outs.high; different = range.outs.different }

-- the flows of a fan are those that were seated
pub flows_are : {K : Type 0} (receivers : List ReceiverState) (places : ℕ) (seated flows : List (Flow K)) (first : Flow K) (rest : List (Flow K)) → map receiver_of seated ≡ receivers → length receivers ≡ places → 1 ≤ places
    → flows ≡ first ∷ rest → first ≡ slice_index_or seated 0 first → rest ≡ remove seated 0 → flows ≡ seated
flows_are receivers places seated flows first rest are many some is one others =
    is ∙ first_before seated first rest (omega (arith, ap length are, length-map seated receiver_of, many, some)) one others

-- a run of flows, under the names of its caller
pub run_same : {K L C : Type 0} (moments : C → Option (ℕ → ℕ)) (tells : LinkTells L) (contents : K → Option (List ℕ)) (faults : K → ℕ) (flows flows' : List (Flow K)) (ports ports' : List ℕ) (session : WireSession)
    (limits : ServingLimits) (was is : TimedLinks L C) (left : List (Flow K)) (came : List Came) (ending : Ending) → flows' ≡ flows → ports' ≡ ports
    → ReceivesFlows moments tells contents faults (flows_of contents faults flows ports) session limits was is left came ending
    → ReceivesFlows moments tells contents faults (flows_of contents faults flows' ports') session limits was is left came ending
run_same moments tells contents faults flows flows' ports ports' session limits was is left came ending a b run = rw (a, b) run
