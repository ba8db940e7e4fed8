-- The parts of both ends, put together and apart again.
use Rattle.std.proofs.Common.{◌≡◌, ◌∙◌, ◌++◌, ◌<◌, ℕ, List, length, map, reverse, get_or, ap, sym, subst, arith, rules}
use Rattle.desk_run.proofs.SeatLemmas.{put_front}
use Rattle.rist_desk.specs.declared.worker.Worker.{Worker}
use Rattle.outside_net.specs.Links.{LinkTells}
use Rattle.rist_desk.specs.Serving.{MayServe}
use Rattle.rist_gateway.specs.declared.either_worker.EitherWorker.{EitherWorker}
use Rattle.rist_gateway.specs.Workers.{IsPlaced, LooksWith, MayBegin, MayLook, ServesPart, ServesWith, SharedTells, shared_as, sides_as, trace_as}
use Rattle.rist_gateway.specs.Inside.Sides.{LookedWith, receiving_part, sending_part}
use Rattle.rist_gateway.proofs.GatherLemmas.{Served, reverse_twice, placed_from, may_from, parts_served}
use Rattle.rist_gateway.proofs.LendLemmas.{sides_same}
use Rattle.rist_gateway.proofs.sides.serve_both.Given as given
use Rattle.rist_gateway.proofs.sides.serve_both.Goals as goal

abbrev tells_of : (g : given.Over) → SharedTells g.row.S.Denot g.row.U.Denot g.row.P.Denot
tells_of g = shared_as g.S.Shares.given (trace_as g.S.Shares.list g.S.Shares.seen g.S.Shares.limit) g.S.Shares.is_of g.S.Shares.left g.S.Shares.broken
    (sides_as g.S.SharesBeside.is_beside g.S.SharesBeside.looks_left g.S.SharesBeside.looks)

abbrev links_of : (g : given.Over) → LinkTells g.row.L.Denot
links_of g = record { reads = g.L.Link.reads; taken = g.L.Link.taken; knows = g.L.Link.knows; ends = g.L.Link.ends; faults = g.L.Link.faults }

pub gate-requires-clause-placed : goal.gate-requires-clause-placed
gate-requires-clause-placed g c κs within = λ i d less.
    let ws = c.args.workers.now.items in
    let sides = c.requires.room.sides in
    let turned = ap (λ l. reverse l) c.requires.room.parts ∙ reverse_twice (map sending_part sides) in
    let all = c.as_mut_slice.ensures.value ∙ (c.gather.ensures.parts ∙ ap (λ l. map receiving_part ws ++ l) turned) in
    let placed = placed_from 0 ws sides (omega (arith, c.requires.few)) i d (subst (λ (ps : List (EitherWorker g.row.L.Denot g.row.C.Denot g.row.U.Denot g.row.C.Denot g.row.P.Denot)). i < length ps) all less) in
    subst (λ (ps : List (EitherWorker g.row.L.Denot g.row.C.Denot g.row.U.Denot g.row.C.Denot g.row.P.Denot)). IsPlaced (get_or ps i d) i) (sym all)
    (subst (λ (n : ℕ). IsPlaced (get_or (map receiving_part ws ++ map sending_part sides) i d) n) (omega arith) placed)

pub gate-requires-clause-may : goal.gate-requires-clause-may
gate-requires-clause-may g c κs within = λ i d less.
    let ws = c.args.workers.now.items in
    let sides = c.requires.room.sides in
    let tells = tells_of g in
    let desk = c.args.desk.now in
    let limits = c.args.limits.now in
    let turned = ap (λ l. reverse l) c.requires.room.parts ∙ reverse_twice (map sending_part sides) in
    let all = c.as_mut_slice.ensures.value ∙ (c.gather.ensures.parts ∙ ap (λ l. map receiving_part ws ++ l) turned) in
    let may = may_from tells desk limits 0 ws sides
    (λ j e more. subst (λ (n : ℕ). MayServe tells.is_of tells.left desk limits n (get_or ws j e)) (omega arith) (c.requires.may j e more))
    (λ j e more. subst (λ (n : ℕ). MayLook tells.sides desk limits n (get_or sides j e)) (omega arith) (c.requires.may_look sides c.requires.room.parts j e more)) i d (subst (λ (ps : List (EitherWorker g.row.L.Denot g.row.C.Denot g.row.U.Denot g.row.C.Denot g.row.P.Denot)). i < length ps) all less) in
    subst (λ (ps : List (EitherWorker g.row.L.Denot g.row.C.Denot g.row.U.Denot g.row.C.Denot g.row.P.Denot)). MayBegin tells desk limits i (get_or ps i d)) (sym all)
    (subst (λ (n : ℕ). MayBegin tells desk limits n (get_or (map receiving_part ws ++ map sending_part sides) i d)) (omega arith) may)

served_of : (g : given.Over) (c : goal.After-scatter g)
    → Served (tells_of g) c.args.desk.now g.C.Clock.moments g.C.Clock.moments (links_of g) c.args.limits.now 0 c.args.workers.now.items c.requires.room.sides c.gate.new.parts
served_of g c =
    let ws = c.args.workers.now.items in
    let sides = c.requires.room.sides in
    let turned = ap (λ l. reverse l) c.requires.room.parts ∙ reverse_twice (map sending_part sides) in
    let all = c.as_mut_slice.ensures.value ∙ (c.gather.ensures.parts ∙ ap (λ l. map receiving_part ws ++ l) turned) in
    let serves : ℕ → EitherWorker g.row.L.Denot g.row.C.Denot g.row.U.Denot g.row.C.Denot g.row.P.Denot → EitherWorker g.row.L.Denot g.row.C.Denot g.row.U.Denot g.row.C.Denot g.row.P.Denot → Type 0 =
    ServesPart (tells_of g) c.args.desk.now g.C.Clock.moments g.C.Clock.moments (links_of g) c.args.limits.now in
    parts_served (tells_of g) c.args.desk.now g.C.Clock.moments g.C.Clock.moments (links_of g) c.args.limits.now 0 ws sides c.gate.new.parts (c.gate.auto.parts ∙ ap length all)
    (λ i d less.
    subst (λ (n : ℕ). serves n (get_or (map receiving_part ws ++ map sending_part sides) i d) (get_or c.gate.new.parts i d)) (omega arith)
    (subst (λ (ps : List (EitherWorker g.row.L.Denot g.row.C.Denot g.row.U.Denot g.row.C.Denot g.row.P.Denot)). serves i (get_or ps i d) (get_or c.gate.new.parts i d)) all
    (c.gate.ensures i d (subst (λ (ps : List (EitherWorker g.row.L.Denot g.row.C.Denot g.row.U.Denot g.row.C.Denot g.row.P.Denot)). i < length ps) (sym all) less))))

apart_of : (g : given.Over) (c : goal.After-scatter g)
    → (c.scatter.new.workers.items ≡ (served_of g c).workers) × (c.scatter.new.parts.items ≡ reverse (map sending_part (served_of g c).are))
apart_of g c =
    let s = served_of g c in
    let many : length c.args.workers.now.items ≡ c.len-count.result = search rules in
    c.scatter.ensures.apart s.workers (map sending_part s.are) (put_front _ _ _ (sym c.as_mut_slice.ensures.len ∙ sym c.gate.auto.parts) ∙ s.new_is) (s.count ∙ many)

pub returns-clause-count : goal.returns-clause-count
returns-clause-count g c = ap length (apart_of g c).0 ∙ (served_of g c).count

pub returns-clause-on : goal.returns-clause-on
returns-clause-on g c = λ i d less.
    let s = served_of g c in
    let serves : ℕ → Worker g.row.L.Denot g.row.C.Denot g.row.U.Denot → Worker g.row.L.Denot g.row.C.Denot g.row.U.Denot → Type 0 =
    ServesWith (tells_of g) c.args.desk.now g.C.Clock.moments (links_of g) c.args.limits.now in
    subst (λ (ws : List (Worker g.row.L.Denot g.row.C.Denot g.row.U.Denot)). serves i (get_or c.args.workers.now.items i d) (get_or ws i d)) (sym (apart_of g c).0)
    (subst (λ (n : ℕ). serves n (get_or c.args.workers.now.items i d) (get_or s.workers i d)) (omega arith) (s.each i d less))

pub returns-clause-looked : goal.returns-clause-looked
returns-clause-looked g c = λ were is.
    let s = served_of g c in
    let same = sides_same c.requires.room.sides were (sym c.requires.room.parts ∙ is) in (
      s.are,
      (apart_of g c).1,
      subst (λ ws. LookedWith (tells_of g).sides c.args.desk.now g.C.Clock.moments c.args.limits.now (length c.args.workers.now.items) ws s.are) same (record {
        count = s.side_count;
        looked = λ k e more.
            subst (λ (n : ℕ). LooksWith (tells_of g).sides c.args.desk.now g.C.Clock.moments c.args.limits.now n (get_or c.requires.room.sides k e) (get_or s.are k e)) (omega arith) (s.each_side k e more);
      }),
    )
