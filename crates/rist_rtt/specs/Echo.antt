-- The RTT echo: an application's packet (RFC 3550, section 6.7) of the name `RIST`, subtype 2 for a
-- request and 3 for a response, with a stamp, a processing delay and further words (this profile).
use Rattle.std.specs.Prelude.{ℕ, ◌*◌, ◌/◌, ◌++◌, List, [], length, take, drop, min, Option, Some, None, Bool, not, ◌&&◌}
use Rattle.std.specs.Prelude.{◌||◌, if◌then◌else◌, ◌==◌, nat_lt}
use Rattle.std.specs.List.{filter_map, find}
use Rattle.std.specs.Int.{w32, w64, from_be_bytes, to_be_bytes}
use Rattle.rtcp_compound.specs.Compound.{Content, sender_report, receiver_report, description, goodbye, application}
use Rattle.rtcp_compound.specs.Compound.{feedback, other}
use Rattle.rtcp_compound.specs.Name.{is_rist, rist_name}
use Rattle.rtcp_compound.specs.Writing.{app_octets}
use Rattle.rist_rtt.specs.declared.echo.Echo.{Echo}

-- what an echo says, without where its further words lie
pub record EchoOf : Type 0 where
  pub answer : Bool
  pub flow : ℕ
  pub stamp : ℕ
  pub delay : ℕ
  pub more : List ℕ

-- the echo without that
abbrev pub echo_seen : Echo → EchoOf
echo_seen e = record { answer = e.answer; flow = e.flow; stamp = e.stamp; delay = e.delay; more = e.more.now }

-- the stamp that a body begins with
unfoldable pub stamp_in : List ℕ → ℕ
stamp_in words = from_be_bytes w64 (take 8 words)

-- the processing delay behind it
unfoldable pub delay_in : List ℕ → ℕ
delay_in words = from_be_bytes w32 (take 4 (drop 8 words))

-- whether an application's packet is an echo: a shorter body is skipped
abbrev pub is_echo : ℕ → List ℕ → List ℕ → Bool
is_echo subtype name words = (subtype == 2 || subtype == 3) && (is_rist name && not (nat_lt (length words) 12))

-- the echo of a packet, if it is one
abbrev pub echo_in : Content → Option EchoOf
echo_in (application subtype ssrc name words) =
    if is_echo subtype name words
    then Some (record {
      answer = subtype == 3;
      flow = ssrc;
      stamp = stamp_in words;
      delay = delay_in words;
      more = drop 12 words;
    }) else None
echo_in (sender_report ssrc seconds fraction rtp_time packets octets blocks) = None
echo_in (receiver_report ssrc blocks) = None
echo_in (description count chunks) = None
echo_in (goodbye count rest) = None
echo_in (feedback kind format sender media words) = None
echo_in (other kind count body) = None

-- the echoes of a compound, in its order
abbrev pub echoes_in : List Content → List EchoOf
echoes_in packets = filter_map echo_in packets

-- the first response of a compound, which is the one that gives a sample
abbrev pub first_response : List EchoOf → Option EchoOf
first_response echoes = find (λ e. e.answer) echoes

-- its first request, which is the one that is answered
abbrev pub first_request : List EchoOf → Option EchoOf
first_request echoes = find (λ e. not e.answer) echoes

-- the body of an echo
abbrev pub echo_words : ℕ → ℕ → List ℕ → List ℕ
echo_words stamp delay more = to_be_bytes w64 stamp ++ (to_be_bytes w32 delay ++ more)

-- the whole words of further ones that an answer copies: at most the first 64
abbrev pub copied : List ℕ → List ℕ
copied more = take (4 * min (length more / 4) 64) more

-- a request's content
abbrev pub request : ℕ → ℕ → Content
request media stamp = application 2 media rist_name (echo_words stamp 0 [])

-- an answer's content: the request's SSRC and stamp, and the words that it copies
abbrev pub response : EchoOf → ℕ → Content
response echo delay = application 3 echo.flow rist_name (echo_words echo.stamp delay (copied echo.more))

-- a request's octets
abbrev pub request_octets : ℕ → ℕ → List ℕ
request_octets media stamp = app_octets 2 media rist_name (echo_words stamp 0 [])

-- an answer's octets
abbrev pub response_octets : EchoOf → ℕ → List ℕ
response_octets echo delay = app_octets 3 echo.flow rist_name (echo_words echo.stamp delay (copied echo.more))
