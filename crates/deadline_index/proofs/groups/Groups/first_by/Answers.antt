-- The entries stand at the front.
use Rattle.std.proofs.Common.{length, subst, arith}
use Rattle.deadline_index.specs.Inside.Levels.{IsFirstIn, IsNoneIn}
use Rattle.deadline_index.proofs.LevelLemmas.{inside}
use Rattle.deadline_index.proofs.SearchLemmas.{first_at_front, none_from_front, some_as, none_as}
use Rattle.deadline_index.proofs.groups.Groups.first_by.Goals as goal

pub returns-clause-some : goal.returns-clause-some
returns-clause-some c =
    some_as (λ entry f. subst (λ xs. IsFirstIn xs 0 c.args.start (length xs) c.args.tick entry) c.self.view_is
    (first_at_front c.self.inside.count c.args.start c.args.tick entry c.self.inside.all.items (let room = inside c.self.inside.levels 0 c.self.inside.count c.self.inside.all.items c.self.invariant in omega arith) (subst (λ xs. IsFirstIn xs 0 c.args.start c.self.inside.count c.args.tick entry) c.deref.ensures.value f)))
    c.first_by.result c.first_by.ensures.some

pub returns-clause-none : goal.returns-clause-none
returns-clause-none c =
    none_as (λ n. subst (λ xs. IsNoneIn xs 0 c.args.start (length xs) c.args.tick) c.self.view_is
    (none_from_front c.self.inside.count c.args.start c.args.tick c.self.inside.all.items (let room = inside c.self.inside.levels 0 c.self.inside.count c.self.inside.all.items c.self.invariant in omega arith) (subst (λ xs. IsNoneIn xs 0 c.args.start c.self.inside.count c.args.tick) c.deref.ensures.value n)))
    c.first_by.result c.first_by.ensures.none
