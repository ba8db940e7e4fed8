-- When it is shown how far a source was read (this profile): nothing in the first second, and then a line each tenth of a
-- second at most, which goes when the source has ended or a read of it failed.
use Rattle.std.specs.Prelude.{ℕ, ◌+◌, ◌-◌, ◌^◌, ◌&&◌, min, not, nat_le, if◌then◌else◌, Bool, false, true, Option, None, Some}
use Rattle.progress_source.specs.declared.extent.Extent.{Extent}
use Rattle.progress_source.specs.declared.meter.Change.{Change}
use Rattle.progress_source.specs.declared.meter.Change.TheVariants.{Line, Clears}
use Rattle.progress_source.specs.declared.meter.Meter.{Meter}

-- the first line comes after so many microseconds
abbrev pub first : ℕ
first = 1000000

-- from one line to the next so many microseconds pass at least
abbrev pub every : ℕ
every = 100000

-- nothing was read, and no line stands
abbrev pub new_meter : Option ℕ → Meter
new_meter total = record { total = total; octets = 0; shown = None; is_over = false }

-- the time for a line has come, by the moment of the one that stands
abbrev pub is_time : Option ℕ → ℕ → Bool
is_time None us = nat_le first us
is_time (Some last) us = nat_le every (us - last)

-- a line comes
abbrev pub is_due : Meter → ℕ → Bool
is_due m us = not m.is_over && is_time m.shown us

-- so many octets more were read
abbrev pub counted : ℕ → Meter → Meter
counted octets m = record m { octets = min (m.octets + octets) (2 ^ 64 - 1) }

-- how far it was read
abbrev pub extent_at : ℕ → Meter → Extent
extent_at us m = record { octets = m.octets; total = m.total; us = us }

-- the line that comes at a moment, if one does
abbrev pub change_at : ℕ → Meter → Option Change
change_at us m = if is_due m us then Some (Line (extent_at us m)) else None

-- the moment of the line that stands then
abbrev pub shown_by : ℕ → Meter → Meter
shown_by us m = record m { shown = if is_due m us then Some us else m.shown }

-- where no more line comes the one that stands goes
abbrev pub change_over : Option ℕ → Option Change
change_over None = None
change_over (Some last) = Some Clears

-- no line stands, and none comes any more
abbrev pub over : Meter → Meter
over m = record m { shown = None; is_over = true }
