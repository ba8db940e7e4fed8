-- The control datagrams that each step of a receiver makes (RFC 3550, sections 6.1, 6.4.2 and 6.5, for reports and
-- source descriptions; VSF TR-06-1; the round-trip time's echo, keepalives and all times are this profile's).
use Rattle.std.specs.Prelude.{ℕ, List, [], ◌∷◌, ◌++◌, Bool, true, false, ◌&&◌, ◌||◌, if◌then◌else◌, Option, None, Some}
use Rattle.std.specs.Prelude.{option_map}
use Rattle.std.specs.Int.{w32, to_be_bytes}
use Rattle.seq_unwrap.specs.declared.width.Width.{Width}
use Rattle.receiver_rules.specs.declared.limits.Limits.{Limits}
use Rattle.receiver_rules.specs.History.{anchor_of}
use Rattle.rtcp_compound.specs.Compound.{Content, receiver_report, description}
use Rattle.rtcp_compound.specs.Writing.{name_item}
use Rattle.rist_rtt.specs.Echo.{EchoOf, request, response}
use Rattle.request_rules.specs.declared.policy.NackKind.{NackKind}
use Rattle.request_rules.specs.declared.policy.Policy.{Policy}
use Rattle.request_rules.specs.declared.word.AskWord.{AskWord}
use Rattle.request_rules.specs.Steps.{Input, Media, Control, Keepalive, Refused, Tick, End, Step, buffer_history}
use Rattle.request_rules.specs.Steps.{effective_time}
use Rattle.request_rules.specs.Requests.{asked_words}
use Rattle.rist_reporter.specs.When.{is_report_due, is_keepalive_due}
use Rattle.rist_reporter.specs.Nacks.{width_of, flow_nacks}

-- what a receiver is set to: its buffer's limits, when and how it asks, its own SSRC, whether it sends keepalives (the
-- Main Profile does), and whether it makes no datagrams at all
pub record ControlSettings : Type 0 where
  pub limits : Limits
  pub policy : Policy
  pub own : ℕ
  pub has_keepalives : Bool
  pub is_muted : Bool

-- a control datagram: an RTCP compound of these packets, or a keepalive of this SSRC
pub data Datagram : Type 0 where
  Compound : List Content → Datagram
  Alive : ℕ → Datagram

-- ---- compounds

-- each compound begins with a receiver's report without blocks, and a source description with CNAME `rist`
abbrev pub opening : ℕ → List Content
opening own = receiver_report own [] ∷ description 1 (to_be_bytes w32 own ++ name_item) ∷ []

-- an RTT request stands in a report where a flow is known: it names the flow, and the moment in microseconds
abbrev pub rtt_request : Bool → Option ℕ → ℕ → List Content
rtt_request false flow micros = []
rtt_request true None micros = []
rtt_request true (Some flow) micros = request flow micros ∷ []

-- the packets of a tick's compound, in order: the opening, the RTT request of a report, and the requests for
-- retransmission
abbrev pub tick_packets : NackKind → ℕ → Bool → Option ℕ → Width → List AskWord → ℕ → List Content
tick_packets kind own is_report flow width words micros =
    opening own ++ (rtt_request is_report flow micros ++ flow_nacks kind own flow width words)

-- the packets of the answer to an RTT request: the opening, and the answer at once
abbrev pub answer_packets : ℕ → EchoOf → List Content
answer_packets own echo = opening own ++ response echo 0 ∷ []

-- ---- what a step makes

-- something is asked for
abbrev pub is_any : List AskWord → Bool
is_any [] = false
is_any (word ∷ words) = true

-- the current epoch's flow, where a packet has come
abbrev pub flow_of : Limits → List Step → Option ℕ
flow_of limits history = option_map (λ a. a.flow) (anchor_of limits (buffer_history history))

-- a tick's compound is made where a report is due or something is asked for
abbrev pub tick_compound : NackKind → ℕ → Bool → Option ℕ → Width → List AskWord → ℕ → List Datagram
tick_compound kind own is_report flow width words micros =
    if is_report || is_any words then Compound (tick_packets kind own is_report flow width words micros) ∷ [] else []

-- a tick's keepalive
abbrev pub tick_keepalive : ℕ → Bool → List Datagram
tick_keepalive own is_sent = if is_sent then Alive own ∷ [] else []

-- what a tick of a link makes at a time, at a moment of its clock in microseconds: a compound, and then, in the Main
-- Profile, a keepalive where one is due
abbrev pub tick_datagrams : ControlSettings → List Step → ℕ → ℕ → ℕ → List Datagram
tick_datagrams settings before link t micros =
    tick_compound settings.policy.kind settings.own (is_report_due link before t) (flow_of settings.limits before)
    (width_of settings.limits before) (asked_words settings.limits settings.policy before t) micros
    ++ tick_keepalive settings.own (settings.has_keepalives && is_keepalive_due link before t)

-- the first RTT request of a compound is answered
abbrev pub answer_datagrams : ℕ → Option EchoOf → List Datagram
answer_datagrams own None = []
answer_datagrams own (Some echo) = Compound (answer_packets own echo) ∷ []

-- what comes with a step makes these datagrams, for its link
abbrev pub input_datagrams : ControlSettings → List Step → ℕ → ℕ → Input → List Datagram
input_datagrams settings before link t (Media arrival) = []
input_datagrams settings before link t (Control sample request) = answer_datagrams settings.own request
input_datagrams settings before link t Keepalive = []
input_datagrams settings before link t Refused = []
input_datagrams settings before link t (Tick micros) = tick_datagrams settings before link t micros
input_datagrams settings before link t End = []

-- the datagrams that a step after a history makes, for its link; a muted receiver makes none
abbrev pub datagrams_of : ControlSettings → List Step → Step → List Datagram
datagrams_of settings before step =
    if settings.is_muted then []
    else input_datagrams settings before step.link (effective_time (step ∷ before)) step.input

-- ---- the words in them

-- the words by which an input asks
abbrev pub input_words : ControlSettings → List Step → ℕ → Input → List AskWord
input_words settings before t (Media arrival) = []
input_words settings before t (Control sample request) = []
input_words settings before t Keepalive = []
input_words settings before t Refused = []
input_words settings before t (Tick micros) = asked_words settings.limits settings.policy before t
input_words settings before t End = []

-- the words by which a step after a history asks, in the datagrams that it makes
abbrev pub words_made : ControlSettings → List Step → Step → List AskWord
words_made settings before step =
    if settings.is_muted then [] else input_words settings before (effective_time (step ∷ before)) step.input
