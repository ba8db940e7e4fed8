use Rattle.std.proofs.Common.{◌∙◌, ap}
use Rattle.std.specs.Prelude.{is_some}
use Rattle.rist_world.proofs.MarkLemmas.{media_is}
use Rattle.rist_world.proofs.world.World.media.Goals as goal

pub returns : goal.returns
returns c = record {
  value = λ setup course is. c.is_some.ensures ∙ ap is_some (c.media_at.ensures.value ∙ media_is setup _ course c.args.link c.args.place is);
}
