-- How the values of a command line read (this profile).
use Rattle.std.specs.Prelude.{ℕ, ◌+◌, ◌%◌, ◌==◌, ◌&&◌, Bool, true, false, not, nat_lt, length, Option, Some, None}
use Rattle.std.specs.Prelude.{option_map, if◌then◌else◌, codes}
use Rattle.std.specs.Char.{is_ascii_digit}
use Rattle.std.specs.List.{list_all}
use Rattle.std.specs.Str.{bytes_eq}
use Rattle.std.specs.Str.Parse.{digits_value}
use Rattle.clap.specs.Words.{Text}
use Rattle.rist_words.specs.declared.values.Numbers.{Numbers}
use Rattle.link_channels.specs.declared.profile.Profile.{Profile}
use Rattle.link_channels.specs.declared.profile.Profile.TheVariants.{Simple, Main}
use Rattle.gre_tunnel.specs.declared.tunnel.Tunnel.{Tunnel}
use Rattle.gre_tunnel.specs.declared.tunnel.Tunnel.TheVariants.{Own, Librist}
use Rattle.request_rules.specs.declared.policy.NackKind.{NackKind}
use Rattle.request_rules.specs.declared.policy.NackKind.TheVariants.{Range, Mask}

-- one reading after another: where one fails, all do
infixl 10 ◌>>=◌
abbrev pub ◌>>=◌ : {A B : Type 0} → Option A → (A → Option B) → Option B
None >>= f = None
(Some x) >>= f = f x

-- a number is 1 to 20 decimal digits, leading zeros among them, with no sign
abbrev pub is_numeral : Text → Bool
is_numeral text = nat_lt 0 (length text) && (nat_lt (length text) 21 && list_all is_ascii_digit text)

-- the option takes this number
abbrev pub is_among : Numbers → ℕ → Bool
is_among numbers n = not (nat_lt n numbers.least) && (not (nat_lt numbers.most n) && n % numbers.multiple_of == 0)

-- the number that a text is, if the option takes it
abbrev pub number_in : Numbers → Text → Option ℕ
number_in numbers text =
    if is_numeral text && is_among numbers (digits_value 10 text) then Some (digits_value 10 text) else None

-- an option's number, and its default where the option isn't given
abbrev pub number_of : Numbers → Option Text → Option ℕ
number_of numbers None = Some numbers.default
number_of numbers (Some text) = number_in numbers text

-- the number at a position, which has to be given
abbrev pub number_at : Numbers → Option Text → Option ℕ
number_at numbers None = None
number_at numbers (Some text) = number_in numbers text

-- a name isn't empty
abbrev pub name_of : Option Text → Option Text
name_of None = None
name_of (Some text) = if nat_lt 0 (length text) then Some text else None

-- a profile is one of two words
abbrev pub profile_of : Option Text → Option Profile
profile_of None = Some Simple
profile_of (Some text) =
    if bytes_eq text (codes "simple") then Some Simple else (if bytes_eq text (codes "main") then Some Main else None)

-- how requests are written is one of two words
abbrev pub nack_of : Option Text → Option NackKind
nack_of None = Some Range
nack_of (Some text) =
    if bytes_eq text (codes "range") then Some Range else (if bytes_eq text (codes "mask") then Some Mask else None)

-- the tunnel of the Main Profile is one of two words
abbrev pub tunnel_of : Profile → Option Text → Option Tunnel
tunnel_of profile None = Some Own
tunnel_of Simple (Some text) = None
tunnel_of Main (Some text) =
    if bytes_eq text (codes "own") then Some Own else (if bytes_eq text (codes "librist") then Some Librist else None)

-- a sender asks for the round-trip time where the flag is given, and always in librist's tunnel
abbrev pub echo_of : Tunnel → Bool → Bool
echo_of Own set = set
echo_of Librist set = true

-- how many octets a passphrase has
abbrev pub phrase_octets : Numbers
phrase_octets = record { default = 1; least = 1; most = 128; multiple_of = 1 }

-- a passphrase of so many octets, in the Main Profile; or none
abbrev pub phrase_of : Profile → Option Text → Option (Option Text)
phrase_of profile None = Some None
phrase_of Simple (Some text) = None
phrase_of Main (Some text) =
    if nat_lt 0 (length text) && nat_lt (length text) (phrase_octets.most + 1) then Some (Some text) else None

-- a flag that is given has the value `true`
abbrev pub is_set : Option Text → Bool
is_set None = false
is_set (Some text) = bytes_eq text (codes "true")

-- whether a flag is given that only the Main Profile has
abbrev pub flag_of : Profile → Option Text → Option Bool
flag_of Main value = Some (is_set value)
flag_of Simple value = if is_set value then None else Some false

-- a name that may be left out, and isn't empty where it is given
abbrev pub name_if : Option Text → Option (Option Text)
name_if None = Some None
name_if (Some text) = option_map Some (name_of (Some text))

-- a number that may be left out, and is one that the option takes where it is given
abbrev pub number_if : Numbers → Option Text → Option (Option ℕ)
number_if numbers None = Some None
number_if numbers (Some text) = option_map Some (number_in numbers text)
