use Rattle.std.proofs.Common.{◌+◌, map, length, ap, rules}
use Rattle.std.proofs.lemmas.List.{take_rest}
use Rattle.rist_nack.specs.Requests.{numbered}
use Rattle.rist_nack.proofs.AskLemmas.{word_masked}
use Rattle.rist_nack.proofs.words.WordsIterator.next.Goals as goal

pub returns-clause-steps : goal.returns-clause-steps
returns-clause-steps c =
    let w = c.self.inside in
    word_masked w.is_mask w.upper w.flow w.rest.now _ _ c.args.self.now c.u16_at-first.result c.u16_at-second.result c.ask_of-2.result c.if-not-self.false
    (ap (map (λ i. numbered w.upper w.flow (w.pid + i) 0)) c.in_default.ensures.places.0) (take_rest w.rest.now 4) c.if-self-lt4.false c.u16_at-first.ensures.value c.u16_at-second.ensures.value c.ask_of-2.ensures c.self.view_is

pub returns-clause-goes : goal.returns-clause-goes
returns-clause-goes c =
    let shorter = ap length (returns-clause-steps c) in
    search (rules, shorter)
