use Rattle.std.proofs.Common.{sym, ap, subst, arith}
use Rattle.std.specs.Prelude.{is_ok}
use Rattle.ts_nulls.proofs.LawLemmas.{restoring-stripped, told-stripped}
use Rattle.rist_sender.specs.Inside.Kept.{IsSendable}
use Rattle.rist_sender.proofs.media.sent_as.Goals as goal

pub returns-in-Some-clause-sendable : goal.returns-in-Some-clause-sendable
returns-in-Some-clause-sendable c =
    subst (IsSendable c.args.nulls) (sym c.with.ensures.value)
    (record {
      payload = omega (arith, (told-stripped c.args.payload.now _ _ (sym c.in-Some.ensures.value)).1);
      strip = λ _. c.if-nulls.true;
      whole = ap is_ok (restoring-stripped c.args.payload.now _ _ (sym c.in-Some.ensures.value));
    })
