use Rattle.std.proofs.Common.{◌∙◌, ◌++◌, ◌∷◌, [], length-take, arith, ap, sym}
use Rattle.std.proofs.Math.ListN.{length-set}
use Rattle.std.specs.Option.{option_map}
use Rattle.std.proofs.lemmas.List.{take_more_set}
use Rattle.outside_io.specs.Told.{Takes}
use Rattle.pass_words.specs.Line.{line_of}
use Rattle.pass_words.proofs.LineLemmas.{behind_more, line_long, line_more, no_end}
use Rattle.pass_words.proofs.line.first_line.Goals as goal

pub returns-then-count-eq129-clause-long : goal.returns-then-count-eq129-clause-long
returns-then-count-eq129-clause-long g c = λ _ text is.
    let took : Takes (g.S.Source.remaining c.loop-octet.source) (g.S.Source.remaining c.next.new.source) (c.in-Ok-Some.octet ∷ []) = rw c.in-Ok-Some.field-0-is at c.in-Ok-Some.ensures.some in
    line_long _ _ _ _ c.in-Ok-Some.octet c.loop-octet.invariant.line took (no_end _ c.if-octet-eq10.false) (omega (arith, length-take c.loop-octet.count c.loop-octet.line, c.loop-octet.invariant.whole)) text is

pub loop-octet-preserved : goal.loop-octet-preserved
loop-octet-preserved g c =
    let took : Takes (g.S.Source.remaining c.loop-octet.source) (g.S.Source.remaining c.next.new.source) (c.in-Ok-Some.octet ∷ []) = rw c.in-Ok-Some.field-0-is at c.in-Ok-Some.ensures.some in
    let is_not = no_end _ c.if-octet-eq10.false in
    let more = take_more_set c.loop-octet.line c.loop-octet.count c.in-Ok-Some.octet (omega arith) in
    record {
      within = omega arith;
      line = line_more _ _ _ _ c.in-Ok-Some.octet c.loop-octet.invariant.line took is_not ∙ ap (λ front. option_map (λ rest. front ++ line_of rest) (g.S.Source.remaining c.next.new.source)) (sym more);
      behind = behind_more _ _ _ c.in-Ok-Some.octet c.loop-octet.invariant.behind took is_not;
      whole = length-set c.loop-octet.line c.loop-octet.count c.in-Ok-Some.octet ∙ c.loop-octet.invariant.whole;
      faults = c.in-Ok-Some.ensures.cause ∙ c.loop-octet.invariant.faults;
    }
