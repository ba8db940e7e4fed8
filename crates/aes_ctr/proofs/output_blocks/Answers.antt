use Rattle.std.proofs.Common.{◌≡◌, ℕ, [], ◌∷◌, ◌+◌, ◌%◌, ◌^◌, ◌<◌, ◌++◌, List, get_or, refl, ap, ◌∙◌, arith}
use Rattle.std.specs.Int.{w128, to_be_bytes}
use Rattle.aes_block.specs.Cipher.{cipher}
use Rattle.aes_ctr.proofs.CounterLemmas.{block_on}
use Rattle.aes_ctr.proofs.CtrLemmas.{below_four}
use Rattle.aes_ctr.proofs.output_blocks.Goals as goal

pub returns-then-last-lt253 : goal.returns-then-last-lt253
returns-then-last-lt253 c =
    let r = c.encrypt_row.result in
    let e = c.encrypt_row.ensures in
    let key = c.args.aes.now in
    let n = c.args.counter in
    let octets = c.args.prefix.now.octets in
    let at : (j last : ℕ) → n % 256 + j < 256 → last ≡ n % 256 + j → octets ++ last ∷ [] ≡ to_be_bytes w128 ((n + j) % 2 ^ 128) =
    λ j last low is. ap (λ (o : List ℕ). o ++ last ∷ []) c.requires.row ∙ block_on n j last c.ranges.counter.fits low is in
    below_four (λ j. get_or (r.0 ∷ r.1 ∷ r.2 ∷ r.3 ∷ []) j [] ≡ cipher key (to_be_bytes w128 ((n + j) % 2 ^ 128)))
    (e.first ∙ ap (cipher key) (at 0 (n % 256) (omega arith) (omega arith)))
    (e.second ∙ ap (cipher key) (at 1 (n % 256 + 1) (omega arith) refl))
    (e.third ∙ ap (cipher key) (at 2 (n % 256 + 2) (omega arith) refl))
    (e.fourth ∙ ap (cipher key) (at 3 (n % 256 + 3) (omega arith) refl))
