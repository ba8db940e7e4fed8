use Rattle.std.proofs.Common.{◌≡◌, ◌-◌}
use Rattle.psk_keys.specs.Pbkdf2.{round_value, sum_of_rounds}
use Rattle.psk_keys.proofs.derivation.pbkdf2.Given as goal

abbrev pub invariant-loop-round : goal.invariant-loop-round
invariant-loop-round l = record {
  value : l.value ≡ round_value l.pass l.salt (l._round - 1);
  sum : l.sum ≡ sum_of_rounds l.pass l.salt (l._round - 1);
}
