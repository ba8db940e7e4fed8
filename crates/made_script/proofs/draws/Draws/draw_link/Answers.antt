use Rattle.std.proofs.Common.{rules, refl}
use Rattle.made_script.specs.Draws.{dues_on}
use Rattle.made_script.specs.contracts.draws.Draws.{the_view}
use Rattle.made_script.proofs.DrawLemmas.{same_count, link_more}
use Rattle.made_script.proofs.draws.Draws.draw_link.Goals as goal

pub loop-place-preserved : goal.loop-place-preserved
loop-place-preserved c = ((search rules), link_more c.args.self.now (the_view c.loop-place.self-inside) _ c.args.way c.args.link c.args.first c.loop-place.place c.next_word-word.result (search rules) c.loop-place.invariant.1 refl refl refl c.next_word-word.ensures.value c.next_word-word.ensures.next (search rules))

pub returns-clause-drawn : goal.returns-clause-drawn
returns-clause-drawn c = same_count c.args.self.now (the_view c.loop-place.self-inside) (λ n words. dues_on c.args.self.now.script c.args.self.now.slot words c.args.way c.args.link c.args.first n) (search rules) c.loop-place.invariant.1
