-- One more sealer is drawn behind the others.
use Rattle.std.proofs.Common.{◌∙◌, ◌++◌, ◌∷◌, [], Some, refl, subst, sym, arith}
use Rattle.std.specs.List.{All}
use Rattle.std.proofs.lemmas.List.Elements.{All-push}
use Rattle.desk_run.proofs.SeatLemmas.{one_less, pushed}
use Rattle.run_fan.specs.Inside.Making.{IsNewSealer}
use Rattle.run_fan.specs.Sealing.{AreDrawn}
use Rattle.run_fan.proofs.MakingLemmas.{drawn_more}
use Rattle.run_fan.proofs.sealing.draw.Goals as goal

pub loop-entropy-preserved : goal.loop-entropy-preserved
loop-entropy-preserved g c =
    let i = c.loop-entropy.invariant in
    let had = c.loop-entropy.sealers.items in
    let s = c.in-Ok.sealer in
    let room = i.room in
    let test = c.loop-entropy-test.true in
    let more = pushed c.push.result (had ++ Some s ∷ []) had c.push.new.self.items (c.push.ensures.succeeds (omega (arith, room, test))) c.push.ensures.items in
    let one = one_less _ _ _ more in
    record {
      few = omega (arith, one, test);
      room = let grows = c.push.ensures.capacity in omega (arith, room, grows);
      drawn = subst (AreDrawn _ _) (sym more) (drawn_more _ _ _ had s i.drawn c.in-Ok.ensures.ok);
      new = subst (All IsNewSealer) (sym more) (All-push IsNewSealer had (Some s) i.new (record { some = refl; fresh = c.in-Ok.ensures.fresh; nonces = c.in-Ok.ensures.nonces }));
      none = c.in-Ok.ensures.cause ∙ i.none;
    }
