use Rattle.std.proofs.Common.{◌∙◌, sym, ap}
use Rattle.sha2.specs.Sha256.{sha256}
use Rattle.rist_world.proofs.RunLemmas.{drilled}
use Rattle.rist_world.proofs.running.drill.Goals as goal

pub returns : goal.returns
returns g c = record {
  run = drilled _ c.args.near_sealer c.args.far_sealer _ c.args.links c.in_ok-world.world _ c.in_ok-moves.moves.items _ c.digest_of.result (sym c.requires.links.2) c.in_ok-world.ensures.state c.in_ok-moves.ensures.made c.counts_of-counts.ensures.value (c.digest_of.ensures.value ∙ ap sha256 c.written.ensures.value);
}
