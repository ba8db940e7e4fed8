-- How a link is written: by an address, by a host's name, or by a URL (RFC 3986).
use Rattle.std.specs.Prelude.{Bool, true, false, length, ◌==◌, ◌&&◌, if◌then◌else◌, option_map, codes}
use Rattle.std.specs.Prelude.{Option, Some, None}
use Rattle.std.specs.Str.{bytes_eq}
use Rattle.link_words.specs.declared.forms.LinkWord.{LinkWord}
use Rattle.link_words.specs.declared.forms.LinkWord.TheVariants as links
use Rattle.link_words.specs.Texts.{Word, split_at, ◌>>=◌}
use Rattle.link_words.specs.Hosts.{endpoint_of, is_name}

-- A word in the place of a link: one with neither a name nor a URL; a URL without a host and a port; or a host and a
-- port, whether an `@` stands before them, and the parameters behind a `?`.
pub data Form : Type 0 where
  Plain : Form
  Faulty : Form
  Written : Word → Word → Bool → Option Word → Form

-- what stands behind `rist://`
abbrev pub behind_scheme : Word → Option Word
behind_scheme word = do
  scheme ← split_at 58 word
  first ← split_at 47 scheme.1
  second ← split_at 47 first.1
  if bytes_eq scheme.0 (codes "rist") && (length first.0 == 0 && length second.0 == 0) then Some second.1 else None

-- a text before its first `?`, and what stands behind that
abbrev pub parts_by : Word → Option (Word × Word) → Word × Option Word
parts_by text None = (text, None)
parts_by text (Some parts) = (parts.0, Some parts.1)

-- likewise
abbrev pub parts_of : Word → Word × Option Word
parts_of text = parts_by text (split_at 63 text)

-- whether a text begins with `@`, and the text without it
abbrev pub listening_by : Word → Option (Word × Word) → Bool × Word
listening_by text None = (false, text)
listening_by text (Some parts) = if length parts.0 == 0 then (true, parts.1) else (false, text)

-- likewise
abbrev pub listening : Word → Bool × Word
listening text = listening_by text (split_at 64 text)

-- the form of a URL with this host and port
abbrev pub with_endpoint : Bool → Option Word → Option (Word × Word) → Form
with_endpoint listens parameters None = Faulty
with_endpoint listens parameters (Some endpoint) = Written endpoint.0 endpoint.1 listens parameters

-- the form of a URL, of what stands behind `rist://`
abbrev pub form_of_url : Word → Form
form_of_url text =
    with_endpoint (listening (parts_of text).0).0 (parts_of text).1 (endpoint_of (listening (parts_of text).0).1)

-- the form of a word that is no URL; behind a name may stand parameters, as in one
abbrev pub named : Option Word → Option (Word × Word) → Form
named parameters None = Plain
named parameters (Some endpoint) =
    if is_name endpoint.0 then Written endpoint.0 endpoint.1 false parameters else Plain

-- the form of a word whose part behind `rist://` is this, where it has one
abbrev pub form_by : Word → Option Word → Form
form_by word None = named (parts_of word).1 (endpoint_of (parts_of word).0)
form_by word (Some text) = form_of_url text

-- the form of a word in the place of a link
abbrev pub form_of : Word → Form
form_of word = form_by word (behind_scheme word)

-- it has a name or a URL
abbrev pub is_written_by : Form → Bool
is_written_by Plain = false
is_written_by Faulty = true
is_written_by (Written host port listens parameters) = true

-- likewise
abbrev pub is_written : Word → Bool
is_written word = is_written_by (form_of word)

-- a form, without where its texts lie in memory
abbrev pub shown_form : LinkWord → Form
shown_form links.Plain = Plain
shown_form links.Faulty = Faulty
shown_form (links.Written link) =
    Written link.host.now link.port.now link.listens (option_map (λ p. p.now) link.parameters)
