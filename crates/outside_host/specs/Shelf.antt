-- The objects of a host, by the names or places that they are asked by.
use Rattle.std.specs.Prelude.{◌≡◌, ◌≢◌, ℕ, List, [], ◌∷◌, ◌++◌, length, Bool, true, false, Option, None, IfSome, Result}
use Rattle.std.specs.Prelude.{Ok, Err}
use Rattle.link_channels.specs.declared.channel.Channel.{Channel}
use Rattle.link_channels.specs.declared.profile.Profile.{Profile}
use Rattle.outside_io.specs.Causes.{RoseWhere}
use Rattle.outside_net.specs.declared.link_spec.Role.{Role}
use Rattle.outside_net.specs.Real.{stated_in}
use Rattle.outside_host.specs.declared.host.HostBad.{HostBad}
use Rattle.outside_host.specs.declared.host.HostBad.TheVariants.{Failed, NoMemory}
use Rattle.outside_host.specs.declared.host.Place.{Place}
use Rattle.outside_host.specs.declared.host.Place.TheVariants.{Absent, Here, Out, Back}
use Rattle.outside_host.specs.declared.host.Opened.{Opened}
use Rattle.outside_host.specs.Counts.{NamedCount}

-- what stands under each name and at each place; which links were handed out, the oldest first, so that their number is
-- the place of the next one; the places of the clock and of the source of random words that are handed out next; and
-- the counts that came last, where some did
pub record Shelf (I O E L C : Type 0) : Type 0 where
  pub sources : List ℕ → Place I
  pub sinks : List ℕ → Place O
  pub entropies : ℕ → Place E
  pub next_entropy : ℕ
  pub links : ℕ → Place L
  pub opened_links : List Opened
  pub clocks : ℕ → Place C
  pub next_clock : ℕ
  pub report : Option (List NamedCount)

-- the object that stood under this name, or at this place, is out, and all others stand as they stood
pub record HandsOut {N X : Type 0} (old new : N → Place X) (name : N) (object : X) : Type 0 where
  pub was : old name ≡ Here object
  pub now : new name ≡ Out
  pub others : (n : N) → n ≢ name → new n ≡ old n

-- the object stands as come back under the name, or at the place, that it was out from; where none was out, and under
-- all others, all stands as it stood
pub record TakesBack {N X : Type 0} (old new : N → Place X) (name : N) (object : X) : Type 0 where
  pub now : old name ≡ Out → new name ≡ Back object
  pub kept : old name ≢ Out → new name ≡ old name
  pub others : (n : N) → n ≢ name → new n ≡ old n

-- no object stands here to be handed out: there is none, it is out, or it came back
abbrev pub IsAway : {X : Type 0} → Place X → Type 0
IsAway {X} place = (object : X) → place ≢ Here object

-- all stands as it stood
abbrev pub Stays : {N X : Type 0} → (N → Place X) → (N → Place X) → Type 0
Stays {N} old new = (n : N) → new n ≡ old n

-- the source of this name is out, and all other sources stand as they stood
abbrev pub HandsOutSource : {I O E L C : Type 0} → Shelf I O E L C → Shelf I O E L C → List ℕ → I → Type 0
HandsOutSource old new name object = HandsOut old.sources new.sources name object

-- likewise a sink
abbrev pub HandsOutSink : {I O E L C : Type 0} → Shelf I O E L C → Shelf I O E L C → List ℕ → O → Type 0
HandsOutSink old new name object = HandsOut old.sinks new.sinks name object

-- the next source of random words is out, and all others stand as they stood
abbrev pub HandsOutNext : {I O E L C : Type 0} → Shelf I O E L C → Shelf I O E L C → E → Type 0
HandsOutNext old new object = HandsOut old.entropies new.entropies old.next_entropy object

-- the next link is out, opened so, and all others stand as they stood
pub record HandsOutLink {I O E L C : Type 0} (old new : Shelf I O E L C) (how : Opened) (object : L) : Type 0 where
  pub place : HandsOut old.links new.links (length old.opened_links) object
  pub opened : new.opened_links ≡ old.opened_links ++ how ∷ []

-- the next clock is out, and all others stand as they stood
abbrev pub HandsOutClock : {I O E L C : Type 0} → Shelf I O E L C → Shelf I O E L C → C → Type 0
HandsOutClock old new object = HandsOut old.clocks new.clocks old.next_clock object

-- all links stand as they stood, and none was handed out
pub record KeepsLinks {I O E L C : Type 0} (old new : Shelf I O E L C) : Type 0 where
  pub places : Stays old.links new.links
  pub opened : new.opened_links ≡ old.opened_links

-- all but the sources stands as it stood
abbrev pub ChangesSources : {I O E L C : Type 0} → Shelf I O E L C → Shelf I O E L C → Type 0
ChangesSources old new = new ≡ record old { sources = new.sources }

-- all but the sinks
abbrev pub ChangesSinks : {I O E L C : Type 0} → Shelf I O E L C → Shelf I O E L C → Type 0
ChangesSinks old new = new ≡ record old { sinks = new.sinks }

-- all but the sources of random words
abbrev pub ChangesEntropies : {I O E L C : Type 0} → Shelf I O E L C → Shelf I O E L C → Type 0
ChangesEntropies old new = new ≡ record old { entropies = new.entropies }

-- all but the sources of random words, and which of them comes next
abbrev pub ChangesDrawing : {I O E L C : Type 0} → Shelf I O E L C → Shelf I O E L C → Type 0
ChangesDrawing old new = new ≡ record old { entropies = new.entropies; next_entropy = new.next_entropy }

-- all but the links
abbrev pub ChangesLinks : {I O E L C : Type 0} → Shelf I O E L C → Shelf I O E L C → Type 0
ChangesLinks old new = new ≡ record old { links = new.links }

-- all but the links, and which of them were handed out
abbrev pub ChangesOpening : {I O E L C : Type 0} → Shelf I O E L C → Shelf I O E L C → Type 0
ChangesOpening old new = new ≡ record old { links = new.links; opened_links = new.opened_links }

-- all but the clocks
abbrev pub ChangesClocks : {I O E L C : Type 0} → Shelf I O E L C → Shelf I O E L C → Type 0
ChangesClocks old new = new ≡ record old { clocks = new.clocks }

-- all but the clocks, and which of them comes next
abbrev pub ChangesTiming : {I O E L C : Type 0} → Shelf I O E L C → Shelf I O E L C → Type 0
ChangesTiming old new = new ≡ record old { clocks = new.clocks; next_clock = new.next_clock }

-- all but the counts that came last
abbrev pub ChangesReport : {I O E L C : Type 0} → Shelf I O E L C → Shelf I O E L C → Type 0
ChangesReport old new = new ≡ record old { report = new.report }

-- nothing stands anywhere
abbrev pub nowhere : {I O E L C : Type 0} → Shelf I O E L C
nowhere = record {
  sources = λ _. Absent;
  sinks = λ _. Absent;
  entropies = λ _. Absent;
  next_entropy = 0;
  links = λ _. Absent;
  opened_links = [];
  clocks = λ _. Absent;
  next_clock = 0;
  report = None;
}

-- what a link took is nothing, where it tells
abbrev pub IsUnwritten : {D : Type 0} → Option (List D) → Type 0
IsUnwritten taken = IfSome taken (λ datagrams. datagrams ≡ [])

-- a link of this role knows the peers that its address states
abbrev pub KnowsStated : (Channel → Bool) → Role → Profile → Type 0
KnowsStated knows role profile = (c : Channel) → stated_in role profile c ≡ true → knows c ≡ true

-- the call of a host failed, and it was not for want of memory
abbrev pub has_host_failed : {T : Type 0} → Result T HostBad → Bool
has_host_failed (Ok x) = false
has_host_failed (Err Failed) = true
has_host_failed (Err NoMemory) = false

-- the count rose exactly where the host failed
abbrev pub HasHostCause : {T : Type 0} → ℕ → ℕ → Result T HostBad → Type 0
HasHostCause before now result = RoseWhere (has_host_failed result) before now
