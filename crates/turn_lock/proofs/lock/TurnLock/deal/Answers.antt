use Rattle.std.proofs.Common.{rules, ◌≡◌, ◌≤◌, ℕ, suc, ◌+◌, ◌-◌, ap, ◌∙◌, subst, arith}
use Rattle.turn_lock.specs.Turns.{opener_at}
use Rattle.turn_lock.specs.Inside.Dealing.{AreDealt}
use Rattle.turn_lock.proofs.Steps.{opener_splits}
use Rattle.turn_lock.proofs.Dealt.{one_more, other_is, seat_is, last_is}
use Rattle.turn_lock.proofs.lock.TurnLock.deal.Goals as goal

pub split_seat-other-requires : goal.split_seat-other-requires
split_seat-other-requires g c =
    let i = c.loop-k.invariant in
    let k : ℕ = c.loop-k.k in
    let more : k + 1 ≤ c.args.passes = search rules in
    let n : c.args.passes - k ≡ suc (c.args.passes - (k + 1)) = omega arith in
    (search rules, search rules, opener_splits g.X.Turned.stands _ _ _ k (c.args.passes - (k + 1)) (ap (λ m. m.0) i.2 ∙ ap (opener_at k) n))

pub loop-k-preserved : goal.loop-k-preserved
loop-k-preserved g c =
    let i = c.loop-k.invariant in
    let did = c.split_seat-other.ensures in
    let view = ap (λ m. m.0) i.2 in
    let bare = ap (λ m. m.1) i.2 in
    let more = c.loop-k-test.true in (
      search rules,
      did.0 ∙ i.1,
      did.2 ∙ (λ j. (seat_is c.loop-k.seat.me.0 c.args.passes c.loop-k.k (search rules) view j, bare j)),
      search rules,
      one_more _ _ _ _ _ i.4 (did.3 ∙ i.1) (ap (λ m. m.0) did.4 ∙ other_is c.loop-k.seat.me.0 c.args.passes c.loop-k.k (search rules) view) c.in-Ok.ensures.items,
    )

pub returns : goal.returns
returns g c =
    let i = c.loop-k.invariant in
    let last : c.loop-k.k + 1 ≡ c.args.passes = let a = i.0 in let b = c.loop-k-test.false in omega arith in
    subst (λ (n : ℕ). AreDealt c.args.self.now.table.shared.table_id n c.push-2.new.self.items) last
    (one_more _ _ _ _ _ i.4 i.1 (last_is c.loop-k.seat.me.0 c.args.passes c.loop-k.k last (ap (λ m. m.0) i.2)) c.in-Ok-push.ensures.items)
