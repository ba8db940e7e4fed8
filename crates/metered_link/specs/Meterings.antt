-- What a link counts, and what it tells.
use Rattle.std.specs.Prelude.{◌≡◌, ℕ, List, Option, None, Some, Bool, true, false}
use Rattle.std.specs.Option.{option_map}
use Rattle.outside_net.specs.Streams.{IsFirst, later}
use Rattle.outside_net.specs.declared.figures.ReceiverFigures.{ReceiverFigures}
use Rattle.outside_net.specs.declared.link.Got.{Got}
use Rattle.metered_link.specs.declared.meter.LinkTotals.{LinkTotals}
use Rattle.metered_link.specs.declared.meter.Meter.{Meter}
use Rattle.metered_link.specs.declared.meter.Telling.{Telling}
use Rattle.metered_link.specs.declared.metered.Metering.{Metering}
use Rattle.metered_link.specs.Meters.{dropped, meter_after, telling_at, wants_figures, with_totals}
use Rattle.metered_link.specs.Tellings.{Asked, Line, OfLink, OfReceiver, asked_with}

-- a meter by whether a line was told: one that couldn't be is counted
abbrev pub told_by : Bool → Meter → Meter
told_by true m = m
told_by false m = with_totals dropped m

-- A teller was asked for this line, and for nothing else; of a meter that came to this.
abbrev pub Tells : {T : Type 0} → (T → Option (List Asked)) → Line → T → T → Meter → Meter → Type 0
Tells asked line old new counted meter =
    (told : Bool) × (asked new ≡ option_map (asked_with line told) (asked old)) × (meter ≡ told_by told counted)

-- it was asked for the line of the link at a place, where there is one
abbrev pub TellsOf : {T : Type 0} → (T → Option (List Asked)) → ℕ → Option Telling → T → T → Meter → Meter → Type 0
TellsOf asked place None old new counted meter = (asked new ≡ asked old) × (meter ≡ counted)
TellsOf asked place (Some telling) old new counted meter = Tells asked (OfLink place telling) old new counted meter

-- A read was counted at the moment that the clock tells, and what is to be told of it was asked for.
pub record Counts {C T : Type 0} (moments : C → Option (ℕ → ℕ)) (asked : T → Option (List Asked)) (got : Got)
    (old new : Metering C T) : Type 0 where
  pub us : ℕ
  pub first : IsFirst (moments old.clock) us
  pub clock : moments new.clock ≡ option_map later (moments old.clock)
  pub tells : TellsOf asked old.place (telling_at us got old.meter) old.teller new.teller (meter_after us got old.meter)
      new.meter
  pub place : new.place ≡ old.place
  pub figured : new.figured ≡ old.figured

-- the receiver's figures at a moment were asked for
pub record TellsFigures {C T : Type 0} (asked : T → Option (List Asked)) (us flow : ℕ) (figures : ReceiverFigures)
    (old new : Metering C T) : Type 0 where
  pub clock : new.clock ≡ old.clock
  pub tells : Tells asked (OfReceiver us flow figures) old.teller new.teller old.meter new.meter
  pub place : new.place ≡ old.place
  pub figured : new.figured ≡ us

-- what a read counts of a link that tells something
abbrev pub CountsIn : {C T : Type 0} → (C → Option (ℕ → ℕ)) → (T → Option (List Asked)) → Got
    → Option (Metering C T) → Option (Metering C T) → Type 0
CountsIn moments asked got None new = new ≡ None
CountsIn moments asked got (Some old) None = ⊥
CountsIn moments asked got (Some old) (Some new) = Counts moments asked got old new

-- what is told by it of a receiver
abbrev pub TellsFiguresIn : {C T : Type 0} → (T → Option (List Asked)) → ℕ → ℕ → ReceiverFigures
    → Option (Metering C T) → Option (Metering C T) → Type 0
TellsFiguresIn asked us flow figures None new = new ≡ None
TellsFiguresIn asked us flow figures (Some old) None = ⊥
TellsFiguresIn asked us flow figures (Some old) (Some new) = TellsFigures asked us flow figures old new

-- by what its totals come to: all else stays
abbrev pub metering_with : {C T : Type 0} → (LinkTotals → LinkTotals) → Metering C T → Metering C T
metering_with after m = record m { meter = with_totals after m.meter }

-- it wants the receiver's figures at a moment
abbrev pub wants_in : {C T : Type 0} → Option (Metering C T) → ℕ → Bool
wants_in None us = false
wants_in (Some m) us = wants_figures m.place m.meter.every m.figured us
