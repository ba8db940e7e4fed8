use Rattle.std.proofs.Common.{◌≡◌, None, drop}
use Rattle.link_words.specs.Names.{address_among}
use Rattle.link_words.proofs.lookup.address_in.Given as goal

abbrev pub invariant-loop-row : goal.invariant-loop-row
invariant-loop-row l = address_among None l.rows l.name ≡ address_among l.best (drop l.row-index l.rows) l.name
