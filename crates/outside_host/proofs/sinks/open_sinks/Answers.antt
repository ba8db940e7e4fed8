-- Each sink that was opened is out, or comes back as it was.
use Rattle.std.proofs.Common.{rules, ap, ◌≡◌, arith, length, map}
use Rattle.std.specs.Prelude.{IsTrue}
use Rattle.std.proofs.lemmas.List.{length-map}
use Rattle.outside_host.proofs.SinkNameLemmas.{different_named}
use Rattle.outside_host.proofs.SinkOpeningLemmas.{IsClosedAgain, all_as_they_were, all_in_order, closed_named, in_order, one_named, others_stay}
use Rattle.outside_host.proofs.sinks.open_sinks.Given.{Over}
use Rattle.outside_host.proofs.sinks.open_sinks.Goals as goal

-- where the sink of one name can't be opened, those before it came back
closed_again : (g : Over) (c : goal.After-back_sinks g) → IsTrue g.H.Host.tells
    → IsClosedAgain (g.H.Host.shelf c.args.host.now).sinks (g.H.Host.shelf c.back_sinks.new.host).sinks (map (λ name. name.now) c.args.names.now) c.loop-name.name-index
closed_again g c told =
    let so_far : length c.loop-name.sinks.items ≡ c.loop-name.name-index = c.loop-name.invariant.0 in
    let kept = c.in-Err-open_next.ensures.kept in
    closed_named (λ name. name.now) c.args.names.now _ c.loop-name.name-index c.len.result _ _ _ _ _ _ c.requires.different c.loop-name-test.true so_far
    (c.loop-name.invariant.1 told) (c.in-Err-open_next.ensures.err told) kept (omega (arith, c.len.ensures, ap length kept, so_far)) (c.back_sinks.ensures.state told)

pub back_sinks-requires-clause-different : goal.back_sinks-requires-clause-different
back_sinks-requires-clause-different g c κs within = different_named (λ name. name.now) c.args.names.now c.len.result c.requires.different

pub returns-in-Err-open_next-clause-err : goal.returns-in-Err-open_next-clause-err
returns-in-Err-open_next-clause-err g c = λ told. all_as_they_were _ _ _ _ (closed_again g c told)

pub returns-in-Err-open_next-clause-others : goal.returns-in-Err-open_next-clause-others
returns-in-Err-open_next-clause-others g c = λ told. others_stay _ _ _ _ (closed_again g c told)

pub returns-in-Err-open_next-clause-order : goal.returns-in-Err-open_next-clause-order
returns-in-Err-open_next-clause-order g c = λ told. in_order _ _ _ _ c.requires.different (closed_again g c told)

pub loop-name-preserved : goal.loop-name-preserved
loop-name-preserved g c = (
  omega (arith, c.in-Ok-open_next.ensures.more, c.loop-name.invariant.0),
  (λ told. one_named (λ name. name.now) c.args.names.now _ c.loop-name.name-index _ _ _ _ _ c.requires.different c.loop-name-test.true c.loop-name.invariant.0
      (c.loop-name.invariant.1 told) (c.in-Ok-open_next.ensures.ok told)),
  c.in-Ok-open_next.ensures.fresh c.loop-name.invariant.2,
  search rules,
  search rules,
)

pub returns-clause-order : goal.returns-clause-order
returns-clause-order g c = λ told.
    all_in_order _ _ _ c.loop-name.name-index c.loop-name.sinks.items (omega (arith, length-map c.args.names.now (λ name. name.now), c.loop-name-test.false)) c.loop-name.invariant.0
    (c.loop-name.invariant.1 told)
