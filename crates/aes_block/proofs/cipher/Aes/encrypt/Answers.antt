use Rattle.std.proofs.Common.{ℕ, List, ap, ◌∙◌, arith}
use Rattle.aes_block.specs.Cipher.{cipher, key_octets}
use Rattle.aes_block.specs.Inside.Rounds.{octets_of}
use Rattle.aes_block.proofs.RoundLemmas.{begun, gone_on, ended}
use Rattle.aes_block.proofs.cipher.Aes.encrypt.Goals as goal

pub loop-round-init : goal.loop-round-init
loop-round-init c =
    begun (key_octets c.self.inside.key) c.args.block.now (octets_of c.begun-state.result) _
    c.begun-state.ensures.octets (c.self.invariant.plain_key 0 (omega arith))

pub loop-round-preserved : goal.loop-round-preserved
loop-round-preserved c =
    let key = key_octets c.self.inside.key in
    let state = octets_of c.loop-round.state in
    let kept = c.self.invariant.prepared_key c.loop-round.round (omega (arith, c.rounds-rounds.ensures.count)) in
    gone_on key c.args.block.now state (octets_of c.middle-state.result) _ c.loop-round.round (omega arith)
    c.middle-state.ensures.octets kept c.loop-round.invariant

pub returns : goal.returns
returns c =
    let key = key_octets c.self.inside.key in
    let count = c.rounds-rounds.ensures.count in
    let kept = c.self.invariant.plain_key c.rounds-rounds.result (omega (arith, count)) in
    record {
      block = ended key c.args.block.now (octets_of c.loop-round.state) c.last.result _ c.loop-round.round c.rounds-rounds.result (omega arith) count
          c.last.ensures kept c.loop-round.invariant
          ∙ ap (λ (k : List ℕ). cipher k c.args.block.now) c.self.view_is;
    }
