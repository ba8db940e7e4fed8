-- Before the first turn, after one more, and after the last.
use Rattle.std.proofs.Common.{refl, sym, ap, ◌∙◌, Some, arith}
use Rattle.rist_desk.proofs.TurnLemmas.{from_zero, not_last}
use Rattle.rist_gateway.proofs.SideLemmas.{side_first, side_on, side_over}
use Rattle.rist_gateway.proofs.threads.side_turns.Goals as goal

pub turns-init : goal.turns-init
turns-init g c = record {
  within = c.requires.turns.0;
  link = refl;
  own = λ number own. own;
  left = omega (arith, c.requires.left);
  going = λ told took. side_first g.S.SharesBeside.looks c.args.side.now.link c.args.limits.now told _ (took ∙ ap Some (sym (from_zero told)));
}

pub side_turn-requires : goal.side_turn-requires
side_turn-requires g c = record {
  own = (c.requires.own.0, c.turns.invariant.own c.requires.own.0 c.requires.own.1);
  left = omega (arith, c.turns.invariant.left, c.turns.invariant.within);
}

pub returns-in-Some-clause-served : goal.returns-in-Some-clause-served
returns-in-Some-clause-served g c = λ told took.
    side_over g.S.SharesBeside.looks c.args.side.now.link c.turns.side.link c.args.limits.now told c.turns.made _ _ _ c.turns.found c.side_turn.new.found c.side_turn.result c.in-Some.end refl c.turns.invariant.within (c.turns.invariant.going told took) c.turns.invariant.link c.side_turn.ensures.made c.in-Some.is

pub returns-in-Some-clause-own : goal.returns-in-Some-clause-own
returns-in-Some-clause-own g c = λ number own. c.side_turn.ensures.own number (c.turns.invariant.own number own)

pub turns-preserved : goal.turns-preserved
turns-preserved g c = record {
  within = not_last c.args.limits.now.turns c.turns.made _ refl c.in-None.ensures.more;
  link = c.side_turn.ensures.link ∙ c.turns.invariant.link;
  own = λ number own. c.side_turn.ensures.own number (c.turns.invariant.own number own);
  left = omega (arith, c.turns.invariant.left, c.side_turn.ensures.left);
  going = λ told took. side_on g.S.SharesBeside.looks c.args.side.now.link c.turns.side.link c.args.limits.now told c.turns.made _ _ _ c.turns.found c.side_turn.new.found c.side_turn.result refl (c.turns.invariant.going told took) c.turns.invariant.link c.side_turn.ensures.made c.in-None.is;
}
