use Rattle.host_text.proofs.PartLemmas.{stripped}
use Rattle.host_text.proofs.parts.behind.Goals as goal

pub returns : goal.returns
returns c = record { value = stripped c.args.front.now c.args.text.now c.strip_prefix.result c.strip_prefix.ensures.cases }
