-- What is said to the host first changes nothing that it tells.
use Rattle.run_fan.proofs.DoesFanLemmas.{does_after, refuses_before}
use Rattle.run_fan.proofs.fanning.fan_line.Goals as goal

pub returns-in-Ok-clause-does : goal.returns-in-Ok-clause-does
returns-in-Ok-clause-does g c =
    does_after _ _ _ _ _ _ _ _ _ _ _ c.watch.ensures.same c.in-Ok.ensures.cause c.fan_unwatched.ensures.does

pub returns-in-Err-clause-does : goal.returns-in-Err-clause-does
returns-in-Err-clause-does g c = refuses_before _ _ _ _ _ _ _ _ c.in-Err.bad _ c.from.ensures c.watch.ensures.same c.in-Err.ensures.cause
