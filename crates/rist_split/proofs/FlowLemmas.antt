-- Receivers and sinks as flows.
use Rattle.std.proofs.Common.{◌≡◌, ◌<◌, List, [], ◌∷◌, length, map, slice_get, Some, refl, ap, ◌∙◌, subst, arith}
use Rattle.std.specs.Prelude.{remove, slice_index_or}
use Rattle.std.specs.List.{All}
use Rattle.std.specs.Option.{option_map}
use Rattle.std.proofs.lemmas.List.Elements.{All-get_or}
use Rattle.std.proofs.lemmas.Option.{get_or_from_slice_get, slice_get_within, slice_get-map}
use Rattle.receiver_rules.specs.declared.limits.Limits.{Limits}
use Rattle.rist_ends.specs.Receiver.{ReceiverState}
use Rattle.rist_fan.specs.Fan.{flows_in}
use Rattle.rist_fan.specs.declared.fan.Fan.{Fan}
use Rattle.rist_fan.specs.declared.flow.Flow.{Flow}
use Rattle.rist_split.specs.Split.{AreFresh, IsFresh, limits_in}
use Rattle.rist_split.specs.Inside.Making.{receiver_of}

-- the first of a list before the others
pub first_before : {A : Type 0} (xs : List A) (x : A) (rest : List A) → 0 < length xs → x ≡ slice_index_or xs 0 x → rest ≡ remove xs 0 → x ∷ rest ≡ xs
first_before [] x rest some is are = absurd (omega (arith, some))
first_before (y ∷ ys) x rest some is are = ap (λ l. x ∷ l) are ∙ ap (λ z. z ∷ ys) is

-- flows of receivers that were told nothing
pub fresh_flows : {K : Type 0} (limits : Limits) (receivers : List ReceiverState) (flows : List (Flow K)) → All (IsFresh limits) receivers → map receiver_of flows ≡ receivers
    → AreFresh limits flows
fresh_flows {K} limits receivers flows each are v flow at =
    let there : slice_get receivers v ≡ Some flow.receiver =
    subst (λ (l : List ReceiverState). slice_get l v ≡ Some flow.receiver) are (slice_get-map receiver_of flows v ∙ ap (option_map receiver_of) at) in
    subst (λ (r : ReceiverState). IsFresh limits r) (get_or_from_slice_get receivers v flow.receiver flow.receiver there)
    (All-get_or (IsFresh limits) receivers v flow.receiver (slice_get_within receivers v flow.receiver there) each)

-- their limits are those of the first
pub limits_are : {K : Type 0} (limits : Limits) (fan : Fan K) → AreFresh limits (flows_in fan) → limits_in fan ≡ limits
limits_are limits fan fresh = (fresh 0 fan.first refl).limits_are
