use Rattle.std.proofs.Common.{◌+◌, ◌-◌, length, ap, arith}
use Rattle.std.proofs.lemmas.Slice.{drop-put_mid}
use Rattle.octet_fields.proofs.writing.put_at.Goals as goal

pub returns-clause-rest : goal.returns-clause-rest
returns-clause-rest c = λ n le.
    drop-put_mid c.args.at (c.args.at + length c.args.part.now - c.args.at) c.args.out.now c.copy_from_slice.new.self n
    (omega arith) (omega arith) (omega (arith, ap length c.copy_from_slice.ensures.after))
