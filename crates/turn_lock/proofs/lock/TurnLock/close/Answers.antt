use Rattle.std.proofs.Common.{rules, sym, ap, ◌∙◌, subst}
use Rattle.std.specs.Option.{IsSome}
use Rattle.turn_lock.specs.Passes.{IsClosed}
use Rattle.turn_lock.proofs.Gathered.{all_back, closes, value_or}
use Rattle.turn_lock.proofs.lock.TurnLock.close.Goals as goal

pub unwrap-requires : goal.unwrap-requires
unwrap-requires g c =
    let e = closes g.X.Turned.stands _ _ _ _ _ _ c.take-value.result c.requires.some (all_back c.args.self c.args.passes.items c.requires.all) c.gather-seat.ensures c.take-value.ensures.value c.close_with-closed.ensures.values.2 in
    subst IsSome (sym e.1) (search rules)

pub returns : goal.returns
returns g c =
    let e = closes g.X.Turned.stands _ _ _ _ _ _ c.take-value.result c.requires.some (all_back c.args.self c.args.passes.items c.requires.all) c.gather-seat.ensures c.take-value.ensures.value c.close_with-closed.ensures.values.2 in
    record { closed = subst (IsClosed g.X.Turned.stands c.args.passes.items) (ap (value_or e.0) (sym e.1 ∙ c.unwrap.ensures)) e.2 }
