use Rattle.std.proofs.Common.{ℕ, bit_xor, get_or, ap, ◌∙◌, arith}
use Rattle.std.proofs.lemmas.Simd.{length-zip2, length-chunk, get_or-chunk, get_or-zip2, get_or-put_chunk_at, get_or-put_chunk_below, get_or-put_chunk_above}
use lib.Lanes.{zip2, chunk}
use Rattle.aes_ctr.proofs.sums.add_block.Goals as goal

pub returns-clause-block : goal.returns-clause-block
returns-clause-block c = λ k low.
    let at = c.args.offset in
    let text = c.args.text.now in
    let v = c.args.block in
    let part = length-chunk at 16 text (omega arith) in
    let long = c.fits-block.0 in
    let full = length-zip2 bit_xor (chunk at 16 text) v (omega arith) in
    get_or-put_chunk_at at text (zip2 bit_xor (chunk at 16 text) v) k 0 (omega arith) (omega arith)
    ∙ get_or-zip2 bit_xor (chunk at 16 text) v k 0 0 0 (omega arith) (omega arith)
    ∙ ap (λ (x : ℕ). bit_xor x (get_or v k 0)) (get_or-chunk at 16 text k 0 low)

pub returns-clause-before : goal.returns-clause-before
returns-clause-before c = λ k low. get_or-put_chunk_below c.args.offset c.args.text.now _ k 0 low

pub returns-clause-after : goal.returns-clause-after
returns-clause-after c = λ k high.
    let at = c.args.offset in
    let text = c.args.text.now in
    let v = c.args.block in
    let part = length-chunk at 16 text (omega arith) in
    let long = c.fits-block.0 in
    let full = length-zip2 bit_xor (chunk at 16 text) v (omega arith) in
    get_or-put_chunk_above at text (zip2 bit_xor (chunk at 16 text) v) k 0 (omega arith)
