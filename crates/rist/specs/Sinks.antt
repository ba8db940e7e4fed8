-- Which commands write to several sinks.
use Rattle.std.specs.Prelude.{Bool, false, List, [], ◌∷◌, ◌||◌, codes}
use Rattle.std.specs.Str.{bytes_eq}
use Rattle.link_words.specs.Texts.{Word}

-- those of a tunnel's flows
abbrev pub has_several_sinks : List Word → Bool
has_several_sinks [] = false
has_several_sinks (program ∷ []) = false
has_several_sinks (program ∷ command ∷ rest) = bytes_eq command (codes "split") || bytes_eq command (codes "fan")
