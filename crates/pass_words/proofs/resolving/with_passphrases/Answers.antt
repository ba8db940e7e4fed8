use Rattle.pass_words.proofs.resolving.with_passphrases.Goals as goal

pub returns-clause-placed : goal.returns-clause-placed
returns-clause-placed g c =
    (c.in_ok-own.own.items, c.in_ok-both.both.items, c.in_ok-own.ensures.placed, c.in_ok-both.ensures.placed, c.in_ok-by_variable.ensures.placed)
