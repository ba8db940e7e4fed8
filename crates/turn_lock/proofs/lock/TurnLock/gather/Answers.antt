use Rattle.std.proofs.Common.{rules, ◌≡◌, [], ◌∷◌, ◌++◌}
use Rattle.turn_lock.proofs.Gathered.{all_back, gathers_one, gathers_more, joins_more, same_table}
use Rattle.turn_lock.proofs.lock.TurnLock.gather.Goals as goal

pub loop-pass-init : goal.loop-pass-init
loop-pass-init g c = gathers_one _ _ _ _ c.unwrap-seat.result (all_back c.args.self.now c.args.passes.items c.requires.all) (search rules)

pub join_seat-requires : goal.join_seat-requires
join_seat-requires g c =
    let cut : c.loop-pass.passes.items ≡ c.pop-in-loop-pass.new.self.items ++ c.in-Some.pass ∷ [] = search rules in (
      c.loop-pass.invariant.own,
      same_table _ _ _ _ _ c.in-Some.pass c.loop-pass.seat (all_back c.args.self.now c.args.passes.items c.requires.all) c.loop-pass.invariant cut,
      c.in-Some.pass.idle.1,
      search rules,
      joins_more g.X.Turned.stands _ _ _ _ _ c.in-Some.pass c.loop-pass.seat (all_back c.args.self.now c.args.passes.items c.requires.all) c.loop-pass.invariant cut,
    )

pub loop-pass-preserved : goal.loop-pass-preserved
loop-pass-preserved g c =
    let cut : c.loop-pass.passes.items ≡ c.pop-in-loop-pass.new.self.items ++ c.in-Some.pass ∷ [] = search rules in
    let did = c.join_seat.ensures in
    gathers_more _ _ _ _ _ c.in-Some.pass c.loop-pass.seat c.join_seat.new.seat (all_back c.args.self.now c.args.passes.items c.requires.all) c.loop-pass.invariant cut did.0 did.2
