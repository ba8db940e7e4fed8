use Rattle.std.proofs.Common.{◌≡◌, map}
use Rattle.aes_block.specs.Inside.Tables.{read}
use Rattle.aes_block.specs.Inside.Tower.{high_half, low_half, both_halves, quotient, by_high, by_both, upper, lower}
use Rattle.aes_block.specs.declared.substitution.TheConstants.{INVERSES, QUOTIENTS}
use Rattle.aes_block.proofs.LaneLemmas.{places, looked_up, summed}
use Rattle.aes_block.proofs.substitution.parts.Goals as goal

pub look_up-quotient-requires : goal.look_up-quotient-requires
look_up-quotient-requires c =
    let v = c.args.t in
    let e_k : c.low-k.result ≡ map low_half v = c.low-k.ensures in
    places low_half v c.low-k.result c.fits-t.1 e_k tt

pub look_up-inverse_i-requires : goal.look_up-inverse_i-requires
look_up-inverse_i-requires c =
    let v = c.args.t in
    let e_i : c.high-i.result ≡ map high_half v = c.high-i.ensures in
    places high_half v c.high-i.result c.fits-t.1 e_i tt

pub look_up-inverse_j-requires : goal.look_up-inverse_j-requires
look_up-inverse_j-requires c =
    let v = c.args.t in
    let e_i : c.high-i.result ≡ map high_half v = c.high-i.ensures in
    let e_k : c.low-k.result ≡ map low_half v = c.low-k.ensures in
    let e_j : c.sum-j.result ≡ map both_halves v = summed high_half low_half v c.sum-j.ensures e_i e_k in
    places both_halves v c.sum-j.result c.fits-t.1 e_j tt

pub look_up-back_i-requires : goal.look_up-back_i-requires
look_up-back_i-requires c =
    let v = c.args.t in
    let e_i : c.high-i.result ≡ map high_half v = c.high-i.ensures in
    let e_ii : c.look_up-inverse_i.result ≡ map (λ x. read INVERSES (high_half x)) v = looked_up INVERSES high_half v c.look_up-inverse_i.ensures e_i in
    let e_k : c.low-k.result ≡ map low_half v = c.low-k.ensures in
    let e_q : c.look_up-quotient.result ≡ map quotient v = looked_up QUOTIENTS low_half v c.look_up-quotient.ensures e_k in
    let e_bi : c.sum-by_i.result ≡ map by_high v = summed (λ x. read INVERSES (high_half x)) quotient v c.sum-by_i.ensures e_ii e_q in
    places by_high v c.sum-by_i.result c.fits-t.1 e_bi tt

pub look_up-back_j-requires : goal.look_up-back_j-requires
look_up-back_j-requires c =
    let v = c.args.t in
    let e_i : c.high-i.result ≡ map high_half v = c.high-i.ensures in
    let e_k : c.low-k.result ≡ map low_half v = c.low-k.ensures in
    let e_j : c.sum-j.result ≡ map both_halves v = summed high_half low_half v c.sum-j.ensures e_i e_k in
    let e_ij : c.look_up-inverse_j.result ≡ map (λ x. read INVERSES (both_halves x)) v = looked_up INVERSES both_halves v c.look_up-inverse_j.ensures e_j in
    let e_q : c.look_up-quotient.result ≡ map quotient v = looked_up QUOTIENTS low_half v c.look_up-quotient.ensures e_k in
    let e_bj : c.sum-by_j.result ≡ map by_both v = summed (λ x. read INVERSES (both_halves x)) quotient v c.sum-by_j.ensures e_ij e_q in
    places by_both v c.sum-by_j.result c.fits-t.1 e_bj tt

pub returns-clause-upper : goal.returns-clause-upper
unfolding upper
returns-clause-upper c =
    let v = c.args.t in
    let e_i : c.high-i.result ≡ map high_half v = c.high-i.ensures in
    let e_ii : c.look_up-inverse_i.result ≡ map (λ x. read INVERSES (high_half x)) v = looked_up INVERSES high_half v c.look_up-inverse_i.ensures e_i in
    let e_k : c.low-k.result ≡ map low_half v = c.low-k.ensures in
    let e_q : c.look_up-quotient.result ≡ map quotient v = looked_up QUOTIENTS low_half v c.look_up-quotient.ensures e_k in
    let e_bi : c.sum-by_i.result ≡ map by_high v = summed (λ x. read INVERSES (high_half x)) quotient v c.sum-by_i.ensures e_ii e_q in
    let e_ki : c.look_up-back_i.result ≡ map (λ x. read INVERSES (by_high x)) v = looked_up INVERSES by_high v c.look_up-back_i.ensures e_bi in
    let e_j : c.sum-j.result ≡ map both_halves v = summed high_half low_half v c.sum-j.ensures e_i e_k in
    summed (λ x. read INVERSES (by_high x)) both_halves v c.sum.ensures e_ki e_j

pub returns-clause-lower : goal.returns-clause-lower
unfolding lower
returns-clause-lower c =
    let v = c.args.t in
    let e_i : c.high-i.result ≡ map high_half v = c.high-i.ensures in
    let e_k : c.low-k.result ≡ map low_half v = c.low-k.ensures in
    let e_j : c.sum-j.result ≡ map both_halves v = summed high_half low_half v c.sum-j.ensures e_i e_k in
    let e_ij : c.look_up-inverse_j.result ≡ map (λ x. read INVERSES (both_halves x)) v = looked_up INVERSES both_halves v c.look_up-inverse_j.ensures e_j in
    let e_q : c.look_up-quotient.result ≡ map quotient v = looked_up QUOTIENTS low_half v c.look_up-quotient.ensures e_k in
    let e_bj : c.sum-by_j.result ≡ map by_both v = summed (λ x. read INVERSES (both_halves x)) quotient v c.sum-by_j.ensures e_ij e_q in
    let e_kj : c.look_up-back_j.result ≡ map (λ x. read INVERSES (by_both x)) v = looked_up INVERSES by_both v c.look_up-back_j.ensures e_bj in
    summed (λ x. read INVERSES (by_both x)) high_half v c.sum-2.ensures e_kj e_i
