use Rattle.gre_tunnel.proofs.HeaderLemmas.{reading-spelled}
use Rattle.gre_tunnel.proofs.laws.what_is_spelled_is_read.Goals as goal

pub returns : goal.returns
returns c = reading-spelled
