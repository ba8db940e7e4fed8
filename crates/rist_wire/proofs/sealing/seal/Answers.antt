use Rattle.std.proofs.Common.{◌≡◌, ◌-◌, ◌++◌, List, ℕ, length, take, ap, ◌∙◌, arith}
use Rattle.std.proofs.lemmas.Slice.{take-put_mid}
use Rattle.rist_wire.specs.Cipher.{ciphered_under}
use Rattle.rist_wire.proofs.SealLemmas.{slice-between, length-between}
use Rattle.rist_wire.proofs.sealing.seal.Goals as goal

pub returns : goal.returns
returns c =
    let out = c.args.out.now in
    let long : length c.cipher_under.new.text ≡ c.args.end - c.args.from =
    c.cipher_under.auto.text ∙ length-between c.args.from c.args.end out c.requires.order (omega (arith, c.fits-out)) in
    let part = slice-between c.args.from c.args.end out c.requires.order in
    record {
      octets =
          take-put_mid c.args.from (c.args.end - c.args.from) out c.cipher_under.new.text c.args.end (omega (arith, long)) (omega (arith, c.fits-out))
          ∙ ap (λ (x : List ℕ). take c.args.from out ++ x)
          (c.cipher_under.ensures.text
          ∙ (λ i. ciphered_under (c.requires.derived i) (c.sequence_of.ensures.value i) (part i)));
    }
