use Rattle.std.proofs.Common.{◌≡◌, ◌+◌, ◌-◌, ℕ, List, ap, subst, ◌∙◌, arith}
use Rattle.aes_block.specs.Cipher.{expanded_key, key_octets, state_after}
use Rattle.aes_block.specs.Inside.Rounds.{octets_of, Comes}
use Rattle.aes_block.proofs.RoundLemmas.{gone_on, ended}
use Rattle.aes_block.proofs.cipher.Aes.finished.Goals as goal

pub loop-round-init : goal.loop-round-init
loop-round-init c =
    let w = expanded_key (key_octets c.self.inside.key) in
    let at : c.args.done ≡ c.args.done + 1 - 1 = omega arith in
    let on = λ (block : List ℕ). ap (λ (n : ℕ). state_after w n block) at in
    record { first = λ block is. is ∙ on block; second = λ block is. is ∙ on block; third = λ block is. is ∙ on block; fourth = λ block is. is ∙ on block }

pub loop-round-preserved : goal.loop-round-preserved
loop-round-preserved c =
    let key = key_octets c.self.inside.key in
    let kept = c.self.invariant.prepared_key c.loop-round.round (omega (arith, c.rounds-rounds.ensures.count)) in
    let before = c.loop-round.invariant in
    record {
      first = λ block is. gone_on key block (octets_of c.loop-round.a) (octets_of c.middle-a.result) _ c.loop-round.round (omega arith) c.middle-a.ensures.octets kept (before.first block is);
      second = λ block is. gone_on key block (octets_of c.loop-round.b) (octets_of c.middle-b.result) _ c.loop-round.round (omega arith) c.middle-b.ensures.octets kept (before.second block is);
      third = λ block is. gone_on key block (octets_of c.loop-round.c) (octets_of c.middle-c.result) _ c.loop-round.round (omega arith) c.middle-c.ensures.octets kept (before.third block is);
      fourth = λ block is. gone_on key block (octets_of c.loop-round.d) (octets_of c.middle-d.result) _ c.loop-round.round (omega arith) c.middle-d.ensures.octets kept (before.fourth block is);
    }

pub returns-clause-first : goal.returns-clause-first
returns-clause-first c =
    subst (λ (k : List ℕ). Comes k c.args.done c.args.states.0 c.last.result) c.self.view_is (λ block is.
    let key = key_octets c.self.inside.key in
    let count = c.rounds-rounds.ensures.count in
    let kept = c.self.invariant.plain_key c.rounds-rounds.result (omega (arith, count)) in
    ended key block (octets_of c.loop-round.a) c.last.result _ c.loop-round.round c.rounds-rounds.result (omega arith) count
    c.last.ensures kept (c.loop-round.invariant.first block is))

pub returns-clause-second : goal.returns-clause-second
returns-clause-second c =
    subst (λ (k : List ℕ). Comes k c.args.done c.args.states.1 c.last-2.result) c.self.view_is (λ block is.
    let key = key_octets c.self.inside.key in
    let count = c.rounds-rounds.ensures.count in
    let kept = c.self.invariant.plain_key c.rounds-rounds.result (omega (arith, count)) in
    ended key block (octets_of c.loop-round.b) c.last-2.result _ c.loop-round.round c.rounds-rounds.result (omega arith) count
    c.last-2.ensures kept (c.loop-round.invariant.second block is))

pub returns-clause-third : goal.returns-clause-third
returns-clause-third c =
    subst (λ (k : List ℕ). Comes k c.args.done c.args.states.2 c.last-3.result) c.self.view_is (λ block is.
    let key = key_octets c.self.inside.key in
    let count = c.rounds-rounds.ensures.count in
    let kept = c.self.invariant.plain_key c.rounds-rounds.result (omega (arith, count)) in
    ended key block (octets_of c.loop-round.c) c.last-3.result _ c.loop-round.round c.rounds-rounds.result (omega arith) count
    c.last-3.ensures kept (c.loop-round.invariant.third block is))

pub returns-clause-fourth : goal.returns-clause-fourth
returns-clause-fourth c =
    subst (λ (k : List ℕ). Comes k c.args.done c.args.states.3 c.last-4.result) c.self.view_is (λ block is.
    let key = key_octets c.self.inside.key in
    let count = c.rounds-rounds.ensures.count in
    let kept = c.self.invariant.plain_key c.rounds-rounds.result (omega (arith, count)) in
    ended key block (octets_of c.loop-round.d) c.last-4.result _ c.loop-round.round c.rounds-rounds.result (omega arith) count
    c.last-4.ensures kept (c.loop-round.invariant.fourth block is))
