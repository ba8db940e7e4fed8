-- What a contract sees of a sender.
use Rattle.std.specs.Prelude.{◌≡◌, ◌<◌, ℕ, ◌%◌, ◌^◌, List, ◌++◌, slice_index_or, length, Option, None, Bool, true}
use Rattle.link_channels.specs.declared.bounds.TheConstants.{MAX_LINKS}
use Rattle.std.specs.Prelude.{false}
use Rattle.link_channels.specs.declared.profile.Profile.{Profile}
use Rattle.link_channels.specs.declared.profile.Profile.TheVariants as profiles
use Rattle.sender_rules.specs.Bonding.{Bonding}
use Rattle.retransmit_store.specs.State.{StoreState, IsStoreAfter}
use Rattle.psk_seal.specs.Sealer.{SealerState}
use Rattle.rist_wire.specs.declared.session.Session.{Session}
use Rattle.outside_net.specs.Links.{LinkTells}
use Rattle.rist_sender.specs.Links.{Tried, Delivers}
use Rattle.rist_sender.specs.History.{Event, effective_time, sendings_of, packet_count, octet_count, is_down, is_report}
use Rattle.rist_sender.specs.History.{is_alive, last_time, tried_as, tried_on}
use Rattle.rist_sender.specs.Calls.{Work, Rules}

-- what a sender is set to, its session and its sealer; and what it keeps of its calls: the packets that it stores, the
-- effective time, how many packets and, modulo 2^32, how many octets of its flow it sent, and of each link whether the
-- link is down and when it last had a report and a keepalive
pub record SenderState : Type 0 where
  pub flow : ℕ
  pub first : ℕ
  pub hold : ℕ
  pub bonding : Bonding
  pub session : Session
  pub sealer : Option SealerState
  pub store : StoreState
  pub time : ℕ
  pub count : ℕ
  pub octets : ℕ
  pub down : List Bool
  pub reports : List (Option ℕ)
  pub keepalives : List (Option ℕ)

-- keepalives are written in the Main Profile
abbrev pub has_keepalives : Profile → Bool
has_keepalives profiles.Simple = false
has_keepalives profiles.Main = true

-- the rules that a sender is set to
abbrev pub rules_of : SenderState → Rules
rules_of s = record {
  flow = s.flow;
  first = s.first;
  hold = s.hold;
  size = s.store.size;
  bonding = s.bonding;
  nulls = s.session.nulls;
  keepalives = has_keepalives s.session.profile;
}

-- What a sender keeps is what its work says. There are at most sixteen links.
pub record IsSenderAfter (s : SenderState) (work : Work) : Type 0 where
  pub sealer : s.sealer ≡ work.sealer
  pub links : (length s.down ≡ 16) × (length s.reports ≡ 16) × (length s.keepalives ≡ 16)
  pub store : IsStoreAfter s.store (sendings_of work.history)
  pub time : s.time ≡ effective_time work.history
  pub count : s.count ≡ packet_count work.history
  pub octets : s.octets ≡ octet_count work.history % 2 ^ 32
  pub down : (link : ℕ) → link < MAX_LINKS → slice_index_or s.down link false ≡ is_down work.history link
  pub reports : (link : ℕ) → link < MAX_LINKS
      → slice_index_or s.reports link None ≡ last_time is_report work.history link
  pub keepalives : (link : ℕ) → link < MAX_LINKS
      → slice_index_or s.keepalives link None ≡ last_time is_alive work.history link

-- what a sender is set to, and its session, stay
pub record StaysSet (old new : SenderState) : Type 0 where
  pub rules : rules_of new ≡ rules_of old
  pub session : new.session ≡ old.session

-- ---- one call

-- one link was given the datagrams that its history gained, and no others
pub record IsGiven {L : Type 0} (line : LinkTells L) (had has : List Tried) (was is : L) : Type 0 where
  pub gained : List Tried
  pub more : has ≡ had ++ gained
  pub delivers : Delivers line gained was is

-- each link was given the datagrams that its history gained, and no others
abbrev pub AreGiven : {L : Type 0} → LinkTells L → ℕ → Session → List Event → List Event → List L → List L → Type 0
AreGiven {L} line flow session old new was is =
    (link : ℕ) (d : L) → link < length was
    → IsGiven line (tried_on (tried_as flow session) link old) (tried_on (tried_as flow session) link new)
    (slice_index_or was link d) (slice_index_or is link d)

-- A call, or a part of one, does work: P holds of the work after it. The sender stands for that work, and each link was
-- given just its datagrams.
pub record DoesWork {L : Type 0} (line : LinkTells L) (old new : SenderState) (was is : List L) (from : Work)
    (P : Work → Type 0) : Type 0 where
  pub to : Work
  pub fact : P to
  pub stands : IsSenderAfter new to
  pub given : AreGiven line old.flow old.session from.history to.history was is
