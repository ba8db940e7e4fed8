use Rattle.std.proofs.Common.{◌≡◌, ◌-◌, List, ℕ}
use Rattle.aes_block.specs.Cipher.{expanded_key, key_octets, state_after}
use Rattle.aes_block.specs.Inside.Rounds.{octets_of}
use Rattle.aes_block.proofs.cipher.Aes.finished.Given as goal

abbrev StandsFor : List ℕ → List ℕ → ℕ → ℕ → List ℕ → Type 0
StandsFor key state done round now = (block : List ℕ) → octets_of state ≡ state_after (expanded_key key) done block
    → octets_of now ≡ state_after (expanded_key key) (round - 1) block

abbrev pub invariant-loop-round : goal.invariant-loop-round
invariant-loop-round l = record {
  first : StandsFor (key_octets l.self-inside.key) l.fn.states.0 l.fn.done l.round l.a;
  second : StandsFor (key_octets l.self-inside.key) l.fn.states.1 l.fn.done l.round l.b;
  third : StandsFor (key_octets l.self-inside.key) l.fn.states.2 l.fn.done l.round l.c;
  fourth : StandsFor (key_octets l.self-inside.key) l.fn.states.3 l.fn.done l.round l.d;
}
