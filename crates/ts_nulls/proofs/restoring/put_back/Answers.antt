use Rattle.std.proofs.Common.{◌≡◌, true, sym, refl, subst, ap, ◌∙◌}
use Rattle.std.specs.Prelude.{is_ok}
use Rattle.ts_nulls.specs.Shape.{Shape}
use Rattle.ts_nulls.specs.Packets.{packet_len}
use Rattle.ts_nulls.specs.Nulls.{null_flags, kept_count, restoring_of}
use Rattle.ts_nulls.proofs.RestoreLemmas.{restoring-good, restoring-whole}
use Rattle.ts_nulls.proofs.restoring.put_back.Goals as goal

pub put_packets-requires-clause-whole : goal.put_packets-requires-clause-whole
put_packets-requires-clause-whole c =
    restoring-whole _ c.args.payload.now
    (subst (λ (s : Shape). is_ok (restoring_of s c.args.payload.now) ≡ true) (sym c.strip.view_is) c.requires.whole)

pub returns-clause-octets : goal.returns-clause-octets
returns-clause-octets c =
    let i = c.strip.inside in
    let whole = restoring-whole _ c.args.payload.now
    (subst (λ (s : Shape). is_ok (restoring_of s c.args.payload.now) ≡ true) (sym c.strip.view_is) c.requires.whole) in
    restoring-good i.units i.nulls (packet_len i.long) (kept_count (null_flags 7 i.units i.nulls)) i.long c.args.payload.now _
    refl refl whole c.put_packets.ensures.octets
    ∙ ap (λ (s : Shape). restoring_of s c.args.payload.now) c.strip.view_is
