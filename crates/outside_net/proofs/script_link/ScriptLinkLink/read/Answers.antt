use Rattle.std.proofs.Common.{rules}
use Rattle.outside_net.proofs.ScriptLemmas.{drop_end, nothing_after}
use Rattle.outside_net.proofs.script_link.ScriptLinkLink.read.Goals as goal

pub returns-then-self-len-clause-over : goal.returns-then-self-len-clause-over
returns-then-self-len-clause-over c = λ is. nothing_after c.next_fails.new.self _ (drop_end c.self.inside.script.items c.self.inside.at (search rules))
