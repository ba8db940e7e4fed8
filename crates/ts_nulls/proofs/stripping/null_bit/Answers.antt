use Rattle.std.proofs.Common.{◌≡◌, ◌-◌, ◌^◌, Bool, true, cond, sym, ap, ◌∙◌}
use Rattle.ts_nulls.specs.Packets.{is_null}
use Rattle.ts_nulls.proofs.StripLemmas.{bit-shifted}
use Rattle.ts_nulls.proofs.stripping.null_bit.Goals as goal

pub returns-then-is_null-clause-value : goal.returns-then-is_null-clause-value
returns-then-is_null-clause-value c =
    let test : is_null c.args.packet.now ≡ true = sym c.is_null.ensures ∙ c.if-is_null.true in
    bit-shifted c.args.place c.requires.place ∙ ap (λ (b : Bool). cond b (2 ^ (6 - c.args.place)) 0) (sym test)
