use Rattle.std.proofs.Common.{ℕ, List, ap, ◌∙◌, arith}
use Rattle.aes_block.specs.Cipher.{expanded_key, key_octets, state_after}
use Rattle.aes_block.specs.Inside.Rounds.{octets_of}
use Rattle.aes_block.proofs.RoundLemmas.{begun}
use Rattle.aes_block.proofs.cipher.Aes.encrypt_four.Goals as goal

pub returns-clause-first : goal.returns-clause-first
returns-clause-first c =
    let key = key_octets c.self.inside.key in
    let kept = c.self.invariant.plain_key 0 (omega arith) in
    c.finished.ensures.first c.args.blocks.0
    (begun key c.args.blocks.0 (octets_of c.begun-a.result) _ c.begun-a.ensures.octets kept
    ∙ ap (λ (k : List ℕ). state_after (expanded_key k) 0 c.args.blocks.0) c.self.view_is)

pub returns-clause-second : goal.returns-clause-second
returns-clause-second c =
    let key = key_octets c.self.inside.key in
    let kept = c.self.invariant.plain_key 0 (omega arith) in
    c.finished.ensures.second c.args.blocks.1
    (begun key c.args.blocks.1 (octets_of c.begun-b.result) _ c.begun-b.ensures.octets kept
    ∙ ap (λ (k : List ℕ). state_after (expanded_key k) 0 c.args.blocks.1) c.self.view_is)

pub returns-clause-third : goal.returns-clause-third
returns-clause-third c =
    let key = key_octets c.self.inside.key in
    let kept = c.self.invariant.plain_key 0 (omega arith) in
    c.finished.ensures.third c.args.blocks.2
    (begun key c.args.blocks.2 (octets_of c.begun-c.result) _ c.begun-c.ensures.octets kept
    ∙ ap (λ (k : List ℕ). state_after (expanded_key k) 0 c.args.blocks.2) c.self.view_is)

pub returns-clause-fourth : goal.returns-clause-fourth
returns-clause-fourth c =
    let key = key_octets c.self.inside.key in
    let kept = c.self.invariant.plain_key 0 (omega arith) in
    c.finished.ensures.fourth c.args.blocks.3
    (begun key c.args.blocks.3 (octets_of c.begun-d.result) _ c.begun-d.ensures.octets kept
    ∙ ap (λ (k : List ℕ). state_after (expanded_key k) 0 c.args.blocks.3) c.self.view_is)
