-- One object more: a link or a clock.
use Rattle.std.specs.Prelude.{◌≡◌, ◌<◌, ℕ, List, [], ◌∷◌, ◌++◌, length, slice_index_or, Bool}
use Rattle.link_channels.specs.declared.channel.Channel.{Channel}
use Rattle.link_channels.specs.declared.profile.Profile.{Profile}
use Rattle.outside_net.specs.declared.link_spec.Role.{Role}
use Rattle.outside_host.specs.Shelf.{HandsOut}
use Rattle.outside_host.specs.declared.host.Place.{Place}
use Rattle.outside_host.specs.Links.{AreAsTheyWere, AreOut, KnowStatedFrom}

-- the object behind these was handed out
pub record IsNextOut {L : Type 0} (old new : ℕ → Place L) (had has : List L) : Type 0 where
  pub link : L
  pub more : has ≡ had ++ link ∷ []
  pub hands : HandsOut old new (length had) link

-- links came behind those that were there, each of which knows the peers that its address states
pub record GainKnowing {L : Type 0} (knows : L → Channel → Bool) (role : Role) (profile : Profile) (had has : List L)
    : Type 0 where
  pub first : (i : ℕ) (d : L) → i < length had → slice_index_or has i d ≡ slice_index_or had i d
  pub gained : KnowStatedFrom knows role profile (length had) has

-- the first places stand as they stood
abbrev pub StayFirst : {L : Type 0} → ℕ → (ℕ → Place L) → (ℕ → Place L) → Type 0
StayFirst count old new = (place : ℕ) → place < count → new place ≡ old place

-- wherever these were out, all of those are now
abbrev pub GoOut : {L : Type 0} → (ℕ → Place L) → (ℕ → Place L) → List L → List L → Type 0
GoOut {L} old new had has = (base : ℕ → Place L) → AreOut base old had → AreOut base new has

-- wherever these were out, each place is now as it was before
abbrev pub ComeBack : {L : Type 0} → (ℕ → Place L) → (ℕ → Place L) → List L → Type 0
ComeBack {L} old new had = (base : ℕ → Place L) → AreOut base old had → AreAsTheyWere base new
