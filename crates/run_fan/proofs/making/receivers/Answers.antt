-- One more receiver is set for the place before the others.
use Rattle.std.proofs.Common.{rules, ◌≡◌, ◌++◌, ◌∷◌, [], ◌∙◌, ℕ, length, slice_get, Some, ap, subst, sym, arith}
use Rattle.std.specs.Prelude.{slice_index}
use Rattle.desk_run.proofs.SeatLemmas.{one_less}
use Rattle.rist_words.specs.Shown.{shown_fan}
use Rattle.run_fan.specs.Inside.Making.{IsNewWith, sealer_of}
use Rattle.run_fan.proofs.MakingLemmas.{inserted, new_before, one_over}
use Rattle.run_fan.proofs.making.receivers.Goals as goal

pub loop-sealer-preserved : goal.loop-sealer-preserved
loop-sealer-preserved c =
    let i = c.loop-sealer.invariant in
    let had = c.loop-sealer.receivers.items in
    let one = c.in_ok-receiver.receiver in
    let popped = c.in-Some.ensures.items in
    let less = one_less _ _ _ popped in
    let room = i.room in
    let more = inserted c.insert.result had c.insert.new.self.items one (c.insert.ensures.succeeds (omega (arith, room, less))) c.insert.ensures.items in
    let same : sealer_of one ≡ c.in-Some.sealer = ap (λ s. s.sealer) c.in_ok-receiver.ensures.new.shutter in
    let here : c.len-place.result ≡ length c.pop.new.self.items = omega (arith, c.len-place.ensures) in
    record {
      room = let grows = c.insert.ensures.capacity in let longer = ap length more in omega (arith, room, less, longer, grows);
      sealers_are = one_over sealer_of _ _ one had _ _ (popped ∙ ap (λ s. c.pop.new.self.items ++ s ∷ []) (sym same)) more i.sealers_are;
      new = λ k r at.
          new_before (shown_fan c.args.line.now) had one c.in-Some.sealer c.len-place.result _ _ here less c.in_ok-receiver.ensures.new i.new k r
          (subst (λ l. slice_get l k ≡ Some r) more at);
    }

pub returns-clause-new : goal.returns-clause-new
returns-clause-new c v r at =
    let i = c.loop-sealer.invariant in
    let none : length c.loop-sealer.sealers.items ≡ 0 = search rules in
    subst (λ (n : ℕ). IsNewWith (shown_fan c.args.line.now) (slice_index (shown_fan c.args.line.now).ports n) (sealer_of r) r) (omega (arith, none)) (i.new v r at)
