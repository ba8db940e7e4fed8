-- those passed come before the number
use Rattle.std.proofs.Common.{◌≡◌, ◌+◌, drop}
use Rattle.std.specs.Prelude.{nat_lt}
use Rattle.std.specs.List.{position_or_len}
use Rattle.plain_rules.proofs.receiver.kept.place_among.Given as goal

abbrev pub invariant-loop-i : goal.invariant-loop-i
invariant-loop-i l = l.i + position_or_len (λ k. nat_lt l.packet.place.number k.place.number) (drop l.i l.ordered) ≡ position_or_len (λ k. nat_lt l.packet.place.number k.place.number) l.ordered
