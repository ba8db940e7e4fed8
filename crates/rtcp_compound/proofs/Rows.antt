-- Octets of the standard's layouts, against the definitions.
use Rattle.std.proofs.Common.{◌≡◌, ℕ, List, [], ◌∷◌, ◌++◌, Some, None, refl}
use Rattle.rtcp_compound.specs.Compound.{receiver_report, description, application, number_at}
use Rattle.rtcp_compound.specs.Reading.{length_in, fault_of, packets_in}
use Rattle.rtcp_compound.specs.Writing.{rr_octets, sdes_octets, app_octets}
use Rattle.rtcp_compound.specs.declared.refusal.RtcpWhy.TheVariants.{Short, First, Length}

-- the empty datagram
empty_is_short : fault_of [] ≡ Some (record { why = Short; place = 0 })
unfolding fault_of
empty_is_short = refl

-- a length that passes the end
long_is_refused : fault_of (128 ∷ 201 ∷ 0 ∷ 2 ∷ 0 ∷ 0 ∷ 0 ∷ 7 ∷ []) ≡ Some (record { why = Length; place = 0 })
unfolding fault_of length_in
long_is_refused = refl

-- a source description that comes first
description_is_refused : fault_of (128 ∷ 202 ∷ 0 ∷ 0 ∷ []) ≡ Some (record { why = First; place = 0 })
unfolding fault_of
description_is_refused = refl

-- a report, a description and a request
reported : List ℕ
reported = 128 ∷ 201 ∷ 0 ∷ 1 ∷ 0 ∷ 0 ∷ 0 ∷ 7
    ∷ 129 ∷ 202 ∷ 0 ∷ 3 ∷ 0 ∷ 0 ∷ 0 ∷ 7 ∷ 1 ∷ 4 ∷ 114 ∷ 105 ∷ 115 ∷ 116 ∷ 0 ∷ 0
    ∷ 128 ∷ 204 ∷ 0 ∷ 3 ∷ 16 ∷ 32 ∷ 48 ∷ 64 ∷ 82 ∷ 73 ∷ 83 ∷ 84 ∷ 255 ∷ 255 ∷ 0 ∷ 1 ∷ []

reported_is_accepted : fault_of reported ≡ None
unfolding reported fault_of length_in
reported_is_accepted = refl

reported_says : packets_in reported
    ≡ receiver_report 7 [] ∷ description 1 (0 ∷ 0 ∷ 0 ∷ 7 ∷ 1 ∷ 4 ∷ 114 ∷ 105 ∷ 115 ∷ 116 ∷ 0 ∷ 0 ∷ []) ∷ application 0 270544960 (82 ∷ 73 ∷ 83 ∷ 84 ∷ []) (255 ∷ 255 ∷ 0 ∷ 1 ∷ []) ∷ []
unfolding reported packets_in length_in number_at
reported_says = refl

reported_is_written : rr_octets 7 ++ sdes_octets 7 ++ app_octets 0 270544960 (82 ∷ 73 ∷ 83 ∷ 84 ∷ []) (255 ∷ 255 ∷ 0 ∷ 1 ∷ []) ≡ reported
unfolding reported
reported_is_written = refl
