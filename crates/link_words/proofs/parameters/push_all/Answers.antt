use Rattle.std.proofs.Common.{rules, arith, ◌∙◌, ◌+◌, ◌-◌, ◌≡◌, Some, ap, map, string_bytes}
use Rattle.link_words.specs.Parameters.{parameters_in}
use Rattle.link_words.proofs.ParameterLemmas.{bad_parameter, last_parameter, last_part, next_parameter, no_more, part_with_more}
use Rattle.link_words.proofs.parameters.push_all.Goals as goal

pub returns-in-Err-clause-refused : goal.returns-in-Err-clause-refused
returns-in-Err-clause-refused c = λ fault is.
    c.loop.invariant.2
    ∙ bad_parameter (16 - c.loop.counter) _ _ _ _ _ _ fault (omega (arith, c.loop-test.true)) c.first_part.ensures (c.in-Err.ensures.refused fault is)

pub returns-in-None-clause-ok : goal.returns-in-None-clause-ok
returns-in-None-clause-ok c =
    c.loop.invariant.2
    ∙ last_parameter (16 - c.loop.counter) _ _ _ _ _ _ (omega (arith, c.loop-test.true)) (last_part c.first_part.result _ c.first_part.ensures c.in-None.is) c.in-Ok.ensures.ok

pub loop-preserved : goal.loop-preserved
loop-preserved c =
    let less : 16 - c.loop.counter - 1 ≡ 16 - (c.loop.counter + 1) = omega arith in (
      search rules,
      omega (arith, c.loop-test.true),
      c.loop.invariant.2
          ∙ next_parameter (16 - c.loop.counter) c.args.command.now c.args.url.now _ (map string_bytes c.push_parameter.new.options.items) c.loop.rest.now _ c.in-Some.next.now (omega (arith, c.loop-test.true))
          (part_with_more c.first_part.result _ _ c.first_part.ensures c.in-Some.is) c.in-Ok.ensures.ok
          ∙ ap (λ k. parameters_in k c.args.command.now c.args.url.now (map string_bytes c.push_parameter.new.options.items) (Some c.in-Some.next.now)) less,
    )

pub returns-clause-refused : goal.returns-clause-refused
returns-clause-refused c = λ fault is. c.loop.invariant.2 ∙ no_more (16 - c.loop.counter) _ _ _ _ _ fault (omega (arith, c.loop-test.false)) c.in_ok-from_str.ensures.ok is
