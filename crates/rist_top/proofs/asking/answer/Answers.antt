use Rattle.std.proofs.Common.{◌∙◌, sym}
use Rattle.rist_top.proofs.AskLemmas.{asked_same, asks_none_of, same_ask}
use Rattle.run_print.proofs.PrintLemmas.{does_print}
use Rattle.rist_top.proofs.asking.answer.Goals as goal

pub returns-in-Some-clause-asks : goal.returns-in-Some-clause-asks
returns-in-Some-clause-asks g c ask is =
    asked_same _ _ _ ask _ _ _ _ _ (same_ask _ _ ask (sym c.what_is_asked.ensures ∙ c.in-Some.is) is)
    (does_print _ _ _ _ _ _ _ _ c.tell.ensures.ends c.tell.ensures.opened c.tell.ensures.printed c.tell.ensures.unprinted c.tell.ensures.around c.tell.ensures.others)

pub returns-in-None-clause-asks : goal.returns-in-None-clause-asks
returns-in-None-clause-asks g c ask is = absurd (asks_none_of _ ask (sym c.what_is_asked.ensures ∙ c.in-None.is) is)
