use Rattle.std.proofs.Common.{◌≡◌, ◌-◌}
use Rattle.aes_block.specs.Cipher.{expanded_key, key_octets, state_after}
use Rattle.aes_block.specs.Inside.Rounds.{octets_of}
use Rattle.aes_block.proofs.cipher.Aes.encrypt.Given as goal

abbrev pub invariant-loop-round : goal.invariant-loop-round
invariant-loop-round l =
    octets_of l.state ≡ state_after (expanded_key (key_octets l.self-inside.key)) (l.round - 1) l.fn.block
