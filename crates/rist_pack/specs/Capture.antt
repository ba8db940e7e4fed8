-- The capture that pieces are packed into: one media datagram each, in order, of one flow in a session (this profile).
use Rattle.std.specs.Prelude.{◌≡◌, ℕ, ◌+◌, ◌*◌, ◌%◌, ◌^◌, Bool, false, List, ◌++◌, map, flat_map, if◌then◌else◌, Option}
use Rattle.std.specs.Prelude.{Some, None, IfSome}
use Rattle.std.specs.List.{enumerate_from}
use Rattle.capture_file.specs.Capture.{Record, magic, spelling}
use Rattle.receiver_rules.specs.Steps.{tick_of}
use Rattle.seq_unwrap.specs.Nearest.{cycle_of}
use Rattle.ts_nulls.specs.Shape.{Shape}
use Rattle.ts_nulls.specs.Nulls.{stripping_of, blanking_of}
use Rattle.psk_seal.specs.declared.sealer.Pair.{Pair}
use Rattle.psk_seal.specs.Pairs.{pair_at}
use Rattle.psk_seal.specs.Sealer.{SealerState}
use Rattle.rist_wire.specs.declared.session.Session.{Session}
use Rattle.rist_wire.specs.Media.{MediaValue}
use Rattle.rist_wire.specs.Writing.{MediaOut, media_out}
use Rattle.rist_wire.specs.Sent.{media_channel, media_datagram}
use Rattle.rist_pack.specs.declared.settings.PackSettings.{PackSettings}

-- the time of piece k in microseconds
abbrev pub time_of : PackSettings → ℕ → ℕ
time_of settings k = k * settings.gap

-- ---- the media of a piece

-- what is sent of a piece: which null packets were deleted from it, if any were, and what was kept
pub record SentPiece : Type 0 where
  pub strip : Option Shape
  pub payload : List ℕ

-- a piece whole, or without its null packets
abbrev pub sent_with : List ℕ → Option (Shape × List ℕ) → SentPiece
sent_with piece None = record { strip = None; payload = piece }
sent_with piece (Some told) = record { strip = Some told.0; payload = told.1 }

-- where null packets are deleted, a piece from which none can be deleted is sent whole
abbrev pub sent_of : Bool → List ℕ → SentPiece
sent_of nulls piece = sent_with piece (if nulls then stripping_of piece else None)

-- its time in ticks of the RTP clock, in 32 bits
abbrev pub stamp_of : PackSettings → ℕ → ℕ
stamp_of settings k = tick_of (time_of settings k) % 2 ^ 32

-- the media that brings what is sent of piece k, which isn't a retransmission
abbrev pub media_with : PackSettings → ℕ → SentPiece → MediaOut
media_with settings k sent =
    media_out settings.flow false (settings.first + k) (stamp_of settings k) sent.strip sent.payload

-- the media of piece k
abbrev pub media_of : Bool → PackSettings → ℕ → List ℕ → MediaOut
media_of nulls settings k piece = media_with settings k (sent_of nulls piece)

-- what is taken of its datagram
abbrev pub taken_of : Session → PackSettings → ℕ → List ℕ → MediaValue
taken_of session settings k piece = record {
  flow = settings.flow;
  again = false;
  width = session.width;
  word = (settings.first + k) % cycle_of session.width;
  stamp = stamp_of settings k;
  strip = (sent_of session.nulls piece).strip;
  payload = (sent_of session.nulls piece).payload;
}

-- what its content is: where null packets are deleted, each is put back as the one that stands for it
abbrev pub content_for : Bool → List ℕ → List ℕ
content_for nulls piece = if nulls then blanking_of piece else piece

-- ---- its datagram

-- the nonces of a sealer, where there is one
abbrev pub nonces_of : Option SealerState → Option (List ℕ)
nonces_of None = None
nonces_of (Some sealer) = Some sealer.nonces

-- pair k under these nonces
abbrev pub pair_of : Option (List ℕ) → ℕ → Option Pair
pair_of None k = None
pair_of (Some nonces) k = Some (pair_at nonces k)

-- the octets of the datagram of piece k in a session, under a pair where it is enciphered
unfoldable pub piece_octets : Session → Option Pair → PackSettings → ℕ → List ℕ → List ℕ
piece_octets session pair settings k piece = media_datagram session pair (media_of session.nulls settings k piece)

-- ---- the capture

-- the record of piece k, on the first link, under a pair where it is enciphered
abbrev pub record_with : Session → Option Pair → PackSettings → ℕ → List ℕ → Record
record_with session pair settings k piece =
    record {
      link = 0;
      channel = media_channel session;
      us = time_of settings k;
      octets = piece_octets session pair settings k piece;
    }

-- the record of piece k, enciphered under pair k where there are nonces
abbrev pub packed_record : Session → Option (List ℕ) → PackSettings → ℕ → List ℕ → Record
packed_record session nonces settings k piece = record_with session (pair_of nonces k) settings k piece

-- the records of pieces of which the first is piece k, where a function gives the record of each
abbrev pub records_of : (ℕ → List ℕ → Record) → ℕ → List (List ℕ) → List Record
records_of record_of k pieces = map (λ piece. record_of piece.0 piece.1) (enumerate_from k pieces)

-- all octets of the capture of these pieces
abbrev pub capture_of : (ℕ → List ℕ → Record) → List (List ℕ) → List ℕ
capture_of record_of pieces = magic ++ flat_map spelling (records_of record_of 0 pieces)

-- ---- a sealer's turn

-- a sealer, where there is one, gave so many pairs
abbrev pub HasGiven : ℕ → Option SealerState → Type 0
HasGiven count sealer = IfSome sealer (λ state. state.given ≡ count)
