use Rattle.std.proofs.Common.{sym, ap, subst, []}
use Rattle.std.specs.List.{All}
use Rattle.std.proofs.lemmas.List.Elements.{All-from_recursion}
use Rattle.plain_rules.specs.Inside.RequestsAsking.{found_in, requests_seen, IsSmallMark, IsSmallMade}
use Rattle.plain_rules.proofs.requests.asking.asking_of.Goals as goal

pub loop-place-init : goal.loop-place-init
loop-place-init c = (
  record {
    run = c.nothing_yet.ensures.small;
    marks = subst (All IsSmallMark) (sym c.new.ensures.items) (All-from_recursion IsSmallMark [] tt);
    made = subst (All IsSmallMade) (sym c.new-2.ensures.items) (All-from_recursion IsSmallMade [] tt);
  },
  record {
    run = c.nothing_yet.ensures.shows c.args.limits.now;
    marks = λ x. ap (λ l. found_in l x) c.new.ensures.items;
    made = ap requests_seen c.new-2.ensures.items;
  },
)
