-- The text that says how far a source was read (this profile). A megabyte (MB) is 1,000,000 octets; a rate and a time are
-- means since the reading began.
use Rattle.std.specs.Prelude.{ℕ, ◌-◌, ◌*◌, ◌/◌, ◌%◌, min, max, List, ◌++◌, codes, decimal, Option, None, Some}
use Rattle.progress_source.specs.declared.extent.Extent.{Extent}

-- the hundredths that were read, rounded down, at most all
abbrev pub share_of : ℕ → ℕ → ℕ
share_of octets total = min (octets * 100 / max total 1) 100

-- tenths of a megabyte a second, rounded down, at most 999,999.9 MB/s
abbrev pub rate_of : ℕ → ℕ → ℕ
rate_of octets us = min (octets * 10 / max us 1) 9999999

-- the whole seconds that the rest takes where it goes on as fast as before, below 10,000 minutes
abbrev pub seconds_left : ℕ → ℕ → ℕ → ℕ
seconds_left octets total us = min ((total - octets) * us / (max octets 1 * 1000000)) 599999

-- a number of tenths, with a point before the last digit
abbrev pub tenths_text : ℕ → List ℕ
tenths_text n = decimal (n / 10) ++ (codes "." ++ decimal (n % 10))

-- a number of seconds as minutes and seconds, these with two digits
abbrev pub time_text : ℕ → List ℕ
time_text n = decimal (n / 60) ++ (codes ":" ++ (decimal (n % 60 / 10) ++ decimal (n % 60 % 10)))

-- of a source whose length is known: the share of it, its length, the rate and the time left
abbrev pub share_text : ℕ → ℕ → ℕ → List ℕ
share_text octets total us =
    codes "rist: " ++ (decimal (share_of octets total) ++ (codes " % of " ++ (tenths_text (total / 100000)
    ++ (codes " MB, " ++ (tenths_text (rate_of octets us) ++ (codes " MB/s, "
    ++ (time_text (seconds_left octets total us) ++ codes " left")))))))

-- of any other: how much was read, and the rate
abbrev pub amount_text : ℕ → ℕ → List ℕ
amount_text octets us =
    codes "rist: " ++ (tenths_text (octets / 100000)
    ++ (codes " MB, " ++ (tenths_text (rate_of octets us) ++ codes " MB/s")))

-- by whether the length is known
abbrev pub text_by : Option ℕ → ℕ → ℕ → List ℕ
text_by None octets us = amount_text octets us
text_by (Some total) octets us = share_text octets total us

-- the text
abbrev pub extent_text : Extent → List ℕ
extent_text e = text_by e.total e.octets e.us
