-- How a word writes an address of UDP (this profile): `udp://` or `rtp://`, an address of IPv4 or one of IPv6 in
-- brackets, a colon and a port; and then, behind a question mark, how datagrams leave this machine.
use Rattle.std.specs.Prelude.{ℕ, codes, Option, Some, None, option_map, Result, Ok, Err}
use Rattle.std.specs.declared.net.ip_addr.IpAddr.{IpAddr}
use Rattle.host_text.specs.declared.settings.Settings.{Settings}
use Rattle.host_text.specs.Parts.{Text, behind, first_part, number_in, ◌>>=◌}
use Rattle.host_text.specs.Hosts.{place_of as host_and_port}
use Rattle.host_text.specs.Settings.{settings_for}
use Rattle.media_address.specs.declared.address.Form.{Form}
use Rattle.media_address.specs.declared.address.Form.TheVariants as forms
use Rattle.media_address.specs.declared.address.MediaAddress.{MediaAddress}
use Rattle.media_address.specs.declared.bad.AddressBad.{AddressBad}
use Rattle.media_address.specs.declared.bad.AddressBad.TheVariants.{NoAddress, NoSetting}

-- the mark before the settings
abbrev pub question_mark : ℕ
question_mark = 63

-- an address and a port from 1 on
abbrev pub place_of : Text → Option (IpAddr × ℕ)
place_of text = do
  place ← host_and_port text
  port ← number_in 1 65535 place.1
  Some (place.0, port)

-- the address of a form, a place and settings
abbrev pub placed : Form → IpAddr × ℕ → Settings → MediaAddress
placed form place settings = record { form = form; host = place.0; port = place.1; settings = settings }

-- these settings, where a text has any that fit
abbrev pub placed_with : Form → IpAddr × ℕ → Option Settings → Result MediaAddress AddressBad
placed_with form place None = Err NoSetting
placed_with form place (Some settings) = Ok (placed form place settings)

-- what stands behind the place, where a text has one
abbrev pub placed_at : Form → Option (IpAddr × ℕ) → Option Text → Result MediaAddress AddressBad
placed_at form None settings = Err NoAddress
placed_at form (Some place) settings = placed_with form place (settings_for place.0 settings)

-- the address in what stands behind the form
abbrev pub read_as : Form → Text → Result MediaAddress AddressBad
read_as form text = placed_at form (place_of (first_part question_mark text).0) (first_part question_mark text).1

-- the form that a word begins with, and what stands behind it
abbrev pub form_behind : Text → Option Text → Option (Form × Text)
form_behind word (Some rest) = Some (forms.Udp, rest)
form_behind word None = option_map (λ rest. (forms.Rtp, rest)) (behind (codes "rtp://") word)

-- likewise
abbrev pub form_of : Text → Option (Form × Text)
form_of word = form_behind word (behind (codes "udp://") word)

-- a word that begins as an address is one, or none for a reason
abbrev pub in_some : Result MediaAddress AddressBad → Result (Option MediaAddress) AddressBad
in_some (Ok address) = Ok (Some address)
in_some (Err bad) = Err bad

-- an address where there is a form; a word without one is the name of a file
abbrev pub address_in : Option (Form × Text) → Result (Option MediaAddress) AddressBad
address_in None = Ok None
address_in (Some found) = in_some (read_as found.0 found.1)

-- the address that a word writes
abbrev pub address_of : Text → Result (Option MediaAddress) AddressBad
address_of word = address_in (form_of word)
