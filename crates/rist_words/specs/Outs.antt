-- How the outputs of a tunnel's flows are written on a command line (this profile).
use Rattle.std.specs.Prelude.{ℕ, zero, suc, Bool, true, not, List, [], ◌∷◌, nat_eq, ◌&&◌, if◌then◌else◌, Option, Some}
use Rattle.std.specs.Prelude.{None}
use Rattle.std.specs.List.{list_any}
use Rattle.std.specs.Str.{bytes_eq}
use Rattle.clap.specs.Words.{Text}
use Rattle.rist_words.specs.declared.values.Numbers.{Numbers}
use Rattle.rist_words.specs.Values.{name_of, number_in, ◌>>=◌}
use Rattle.rist_words.specs.Links.{split_at}

-- the marks between two outputs; and between an output's port and its name
abbrev pub comma : ℕ
comma = 44

-- likewise
abbrev pub equals : ℕ
equals = 61

-- the numbers of an output's port, and of `--port`: an even UDP port
abbrev pub ports : Numbers
ports = record { default = 1968; least = 2; most = 65534; multiple_of = 2 }

-- an output: its port, and its name behind the first `=`
abbrev pub out_of : Text → Option (ℕ × Text)
out_of text = do
  parts ← split_at equals text
  port ← number_in ports parts.0
  name ← name_of (Some parts.1)
  Some (port, name)

-- a text with no comma in it is one part; else the text before the first comma is one, and the text behind it has more
abbrev pub part_of : Text → Option (Text × Text) → Text × Option Text
part_of text None = (text, None)
part_of text (Some parts) = (parts.0, Some parts.1)

-- the first part of a text, and the text that has more, where there is one
abbrev pub first_part : Text → Text × Option Text
first_part text = part_of text (split_at comma text)

-- the ports and the names of the outputs that a text has, at most so many
abbrev pub outs_in : ℕ → Option Text → Option (List ℕ × List Text)
outs_in most None = Some ([], [])
outs_in zero (Some text) = None
outs_in (suc most) (Some text) = do
  out ← out_of (first_part text).0
  outs ← outs_in most (first_part text).1
  Some (out.0 ∷ outs.0, out.1 ∷ outs.1)

-- no two of these are the same
abbrev pub are_different : {A : Type 0} → (A → A → Bool) → List A → Bool
are_different same [] = true
are_different same (x ∷ xs) = not (list_any (λ y. same y x) xs) && are_different same xs

-- the outputs of a command for a tunnel: one to eight, of different ports and of different names, in the order of the
-- line
abbrev pub outs_of : Option Text → Option (List ℕ × List Text)
outs_of None = None
outs_of (Some text) = do
  outs ← outs_in 8 (Some text)
  if are_different nat_eq outs.0 && are_different bytes_eq outs.1 then Some outs else None
