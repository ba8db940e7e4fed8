-- What stands under the names and at the places of a host in memory, and its calls.
use Rattle.std.specs.Prelude.{◌≡◌, ◌≢◌, ◌⊎◌, ◌<◌, ◌&&◌, [], length, None, Bool, true}
use Rattle.link_channels.specs.declared.channel.Channel.{Channel}
use Rattle.link_channels.specs.declared.channel.Channel.TheVariants.{Media, Control, Tunnel}
use Rattle.link_channels.specs.declared.profile.Profile.{Profile}
use Rattle.link_channels.specs.declared.profile.Profile.TheVariants.{Simple, Main}
use Rattle.outside_io.specs.Calls.{Calls, FailsNext}
use Rattle.outside_host.specs.Shelf.{Shelf, IsAway}
use Rattle.outside_host.specs.declared.host.HostBad.{HostBad}
use Rattle.outside_host.specs.declared.host.HostBad.TheVariants.{Failed}
use Rattle.outside_host.specs.Slots.{place_of}
use Rattle.outside_host.specs.ByPlace.{object_at}
use Rattle.outside_host.specs.declared.host.Place.{Place}
use Rattle.outside_host.specs.declared.host.Place.TheVariants.{Here}
use Rattle.outside_io.specs.declared.mem_source.MemSource.{MemSource}
use Rattle.outside_io.specs.declared.store.Store8.{Store8}
use Rattle.outside_io.specs.declared.words.Words.{Words}
use Rattle.outside_net.specs.declared.link_spec.Role.{Role}
use Rattle.outside_net.specs.declared.link_spec.Role.TheVariants as roles
use Rattle.outside_net.specs.declared.script_link.ScriptLink.{ScriptLink}
use Rattle.outside_net.specs.Scripts.{knows_in}
use Rattle.outside_net.specs.declared.script_clock.ScriptClock.{ScriptClock}
use Rattle.outside_host.specs.declared.mem_host.MemHost.{MemHost}
use Rattle.outside_host.specs.declared.mem_host.MemParts.{MemParts}

-- what stands under the names and at the places of a host in memory
abbrev pub mem_shelf : MemHost → Shelf MemSource Store8 Words ScriptLink ScriptClock
mem_shelf host = record {
  sources = place_of host.sources.items;
  sinks = place_of host.sinks.items;
  entropies = object_at host.entropies.items;
  next_entropy = host.next_entropy;
  links = object_at host.links.items;
  opened_links = host.opened;
  clocks = object_at host.clocks.items;
  next_clock = host.next_clock;
  report = host.report;
}

-- its calls
abbrev pub mem_calls : MemHost → Calls
mem_calls host = host.calls

-- no empty sink stands here to be handed out
abbrev pub HasNoEmptySink : Place Store8 → Type 0
HasNoEmptySink place = (sink : Store8) → place ≡ Here sink → sink.contents ≢ []

-- a call failed because it was to fail, or because there was nothing to hand out
abbrev pub IsRefused : HostBad → Calls → Type 0 → Type 0
IsRefused bad calls IsMissing = (bad ≡ Failed) × (FailsNext calls ⊎ IsMissing)

-- 256 sources of random words were handed out, or none stands at the next place
abbrev pub HasNoNextEntropy : {I O E L C : Type 0} → Shelf I O E L C → Type 0
HasNoNextEntropy shelf = (255 < shelf.next_entropy) ⊎ IsAway (shelf.entropies shelf.next_entropy)

-- the peers of all channels of a profile are known
abbrev pub are_sent_known : (Channel → Bool) → Profile → Bool
are_sent_known knows Simple = knows Media && knows Control
are_sent_known knows Main = knows Tunnel

-- the peers are known that an address states in this role and profile
abbrev pub are_stated_known : (Channel → Bool) → Role → Profile → Bool
are_stated_known knows roles.Receives profile = true
are_stated_known knows roles.ReceivesCalling profile = are_sent_known knows profile
are_stated_known knows roles.Sends profile = are_sent_known knows profile
are_stated_known knows roles.SendsListening profile = true
are_stated_known knows roles.Forwards profile = are_sent_known knows profile

-- a link may be handed out in this role: it took nothing yet, and knows the peers that an address states there
abbrev pub IsFitFor : ScriptLink → Role → Profile → Type 0
IsFitFor link role profile = (link.taken ≡ []) × (are_stated_known (knows_in link.known) role profile ≡ true)

-- no such link stands here to be handed out
abbrev pub HoldsNoneFor : Place ScriptLink → Role → Profile → Type 0
HoldsNoneFor place role profile = (link : ScriptLink) → place ≡ Here link → IsFitFor link role profile → ⊥

-- 256 links were handed out, or none that may be stands at the next place
abbrev pub HasNoNextLink : {I O E C : Type 0} → Shelf I O E ScriptLink C → Role → Profile → Type 0
HasNoNextLink shelf role profile =
    (255 < length shelf.opened_links) ⊎ HoldsNoneFor (shelf.links (length shelf.opened_links)) role profile

-- 256 clocks were handed out, or none stands at the next place
abbrev pub HasNoNextClock : {I O E L C : Type 0} → Shelf I O E L C → Type 0
HasNoNextClock shelf = (255 < shelf.next_clock) ⊎ IsAway (shelf.clocks shelf.next_clock)

-- what a host in memory hands out at first
abbrev pub shelf_of : MemParts → Shelf MemSource Store8 Words ScriptLink ScriptClock
shelf_of parts = record {
  sources = place_of parts.sources.items;
  sinks = place_of parts.sinks.items;
  entropies = object_at parts.entropies.items;
  next_entropy = 0;
  links = object_at parts.links.items;
  opened_links = [];
  clocks = object_at parts.clocks.items;
  next_clock = 0;
  report = None;
}
