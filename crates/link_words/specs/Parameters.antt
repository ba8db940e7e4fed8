-- The options that a URL's parameters stand for (this profile). The names are librist's.
use Rattle.std.specs.Prelude.{◌≡◌, ℕ, zero, suc, Bool, not, List, [], ◌∷◌, ◌++◌, ◌&&◌, ◌||◌, if◌then◌else◌, codes}
use Rattle.std.specs.Prelude.{Option, Some, None, Result, Ok, Err, string_bytes}
use Rattle.std.specs.List.{list_any}
use Rattle.std.specs.Str.{bytes_eq}
use Rattle.link_words.specs.declared.no_link.NoLink.{NoLink}
use Rattle.link_words.specs.declared.no_link.NoLink.TheVariants as refused
use Rattle.link_words.specs.Texts.{Word, and_then, split_at}
use Rattle.link_words.specs.Urls.{Form, Plain, Faulty, Written, form_of, parts_by, parts_of}

-- Why a link has no address: its URL has no host and port; it has an `@` where a link is to be sent to; a parameter,
-- which no option of the command stands for; too many of them; and a name that has no address.
pub data Fault : Type 0 where
  NoEndpoint : Word → Fault
  Listens : Word → Fault
  Parameter : Word → Word → Fault
  TooMany : Word → Fault
  Unknown : Word → Fault

-- a fault, of which the texts lie in memory; refused memory is none
abbrev pub fault_of : NoLink → Option Fault
fault_of refused.Memory = None
fault_of (refused.NoEndpoint url) = Some (NoEndpoint (string_bytes url))
fault_of (refused.Listens url) = Some (Listens (string_bytes url))
fault_of (refused.Parameter name url) = Some (Parameter (string_bytes name) (string_bytes url))
fault_of (refused.TooMany url) = Some (TooMany (string_bytes url))
fault_of (refused.Unknown name) = Some (Unknown (string_bytes name))

-- why there is none is the fault that a definition has
abbrev pub IsRefused : {A : Type 0} → Result A Fault → NoLink → Type 0
IsRefused defined e = (fault : Fault) → fault_of e ≡ Some fault → defined ≡ Err fault

-- a command that receives on all of its links
abbrev pub is_receiving : Word → Bool
is_receiving command = bytes_eq command (codes "recv") || bytes_eq command (codes "fan")

-- the options of a session
abbrev pub session_option : Word → Option Word
session_option name =
    if bytes_eq name (codes "secret") then Some (codes "--pass")
    else (if bytes_eq name (codes "aes-type") then Some (codes "--bits") else None)

-- the options of a receiver, and those
abbrev pub receiver_option : Word → Option Word
receiver_option name =
    if bytes_eq name (codes "buffer") then Some (codes "--delay")
    else (if bytes_eq name (codes "reorder-buffer") then Some (codes "--reorder")
    else (if bytes_eq name (codes "rtt-min") then Some (codes "--least")
    else (if bytes_eq name (codes "max-retries") then Some (codes "--tries") else session_option name)))

-- the option of a command that a parameter stands for
abbrev pub option_of : Word → Word → Option Word
option_of command name =
    if is_receiving command then receiver_option name
    else (if bytes_eq command (codes "send") then session_option name else None)

-- a text before its first mark, and what stands behind that
abbrev pub first_part : ℕ → Word → Word × Option Word
first_part mark text = parts_by text (split_at mark text)

-- the option with its value, as one word; or the name of a parameter that stands for none
abbrev pub valued : Word → Option Word → Option Word → Result Word Word
valued name None value = Err name
valued name (Some option) None = Err name
valued name (Some option) (Some value) = Ok (option ++ 61 ∷ value)

-- likewise of a parameter as it is written
abbrev pub option_word : Word → Word → Result Word Word
option_word command text =
    valued (first_part 61 text).0 (option_of command (first_part 61 text).0) (first_part 61 text).1

-- words with one more, unless it is there
abbrev pub with_word : List Word → Word → List Word
with_word options word = if list_any (λ o. bytes_eq o word) options then options else options ++ word ∷ []

-- a parameter's name as a fault of this URL
abbrev pub in_url : Word → Result Word Word → Result Word Fault
in_url url (Ok word) = Ok word
in_url url (Err name) = Err (Parameter name url)

-- a parameter that stays with its link: the address that it leaves from, and over how many networks it may pass
abbrev pub is_of_link : Word → Bool
is_of_link text =
    bytes_eq (first_part 61 text).0 (codes "from") || bytes_eq (first_part 61 text).0 (codes "ttl")

-- options, with the one that a parameter stands for; one that stays with its link stands for none
abbrev pub with_parameter : Word → Word → List Word → Word → Result (List Word) Fault
with_parameter command url options text =
    if is_of_link text then Ok options
    else and_then (in_url url (option_word command text)) (λ word. Ok (with_word options word))

-- options, with those that the parameters in a text stand for, with `&` between them: so many at most
abbrev pub parameters_in : ℕ → Word → Word → List Word → Option Word → Result (List Word) Fault
parameters_in most command url options None = Ok options
parameters_in zero command url options (Some text) = Err (TooMany url)
parameters_in (suc most) command url options (Some text) =
    and_then (with_parameter command url options (first_part 38 text).0)
    (λ more. parameters_in most command url more (first_part 38 text).1)

-- the mark before a parameter that stays with its link: `?` before the first, and then `&`
abbrev pub mark_behind : Word → ℕ
mark_behind [] = 63
mark_behind (octet ∷ kept) = 38

-- the parameters that stay with a link, and one more where it does, too
abbrev pub with_kept : Word → Word → Word
with_kept kept text = if is_of_link text then kept ++ mark_behind kept ∷ text else kept

-- the parameters in a text that stay with their link, of so many at most
abbrev pub kept_in : ℕ → Word → Option Word → Word
kept_in most kept None = kept
kept_in zero kept (Some text) = kept
kept_in (suc most) kept (Some text) = kept_in most (with_kept kept (first_part 38 text).0) (first_part 38 text).1

-- options, with those that a link's parameters stand for; where links are sent to none has an `@`
abbrev pub options_by : Word → Word → List Word → Form → Result (List Word) Fault
options_by command url options Plain = Ok options
options_by command url options Faulty = Err (NoEndpoint url)
options_by command url options (Written host port listens parameters) =
    if listens && not (is_receiving command) then Err (Listens url)
    else parameters_in 16 command url options parameters

-- the same of a word in the place of a link. A fault names its URL without the parameters
abbrev pub options_of : Word → List Word → Word → Result (List Word) Fault
options_of command options word = options_by command (parts_of word).0 options (form_of word)
