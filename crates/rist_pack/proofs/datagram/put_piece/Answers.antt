use Rattle.std.proofs.Common.{sym, ap}
use Rattle.std.specs.Prelude.{is_ok}
use Rattle.ts_nulls.proofs.LawLemmas.{restoring-stripped}
use Rattle.rist_pack.proofs.datagram.put_piece.Goals as goal

pub put_sent-requires-clause-whole : goal.put_sent-requires-clause-whole
put_sent-requires-clause-whole c = ap is_ok (restoring-stripped c.args.piece.now _ _ (sym c.in-Some.ensures.value))
