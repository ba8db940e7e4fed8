use Rattle.std.proofs.Common.{◌≡◌, length, map}
use Rattle.rist_words.specs.Links.{each_link}
use Rattle.rist_words.proofs.LinkLemmas.{links_from, links_with}
use Rattle.rist_words.proofs.links.each_link.Given as goal

abbrev pub invariant-loop-text : goal.invariant-loop-text
invariant-loop-text l =
    (length l.links.items ≡ l.text-index) × (each_link l.role l.profile (map (λ t. t.now) l.texts) ≡ links_with l.links.items (links_from l.role l.profile l.texts l.text-index))
