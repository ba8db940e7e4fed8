use Rattle.std.proofs.Common.{ap, ◌∙◌, is_ok}
use Rattle.ts_nulls.specs.Shape.{Shape}
use Rattle.ts_nulls.specs.Nulls.{restoring_of}
use Rattle.ts_nulls.proofs.RestoreLemmas.{restoring-test}
use Rattle.ts_nulls.proofs.restoring.can_restore.Goals as goal

pub returns : goal.returns
returns c = record {
  value = restoring-test c.strip.inside.units c.strip.inside.nulls c.packet_len.result c.kept_count.result c.strip.inside.long c.args.payload.now
      c.packet_len.ensures.value c.kept_count.ensures.count
      ∙ ap (λ (s : Shape). is_ok (restoring_of s c.args.payload.now)) c.strip.view_is;
}
