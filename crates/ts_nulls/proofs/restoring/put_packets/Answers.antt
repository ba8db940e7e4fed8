use Rattle.std.proofs.Common.{suc, ◌+◌, ◌-◌, Bool, cond, take, drop, ◌++◌, sym, ap, ◌∙◌, refl, arith}
use Rattle.ts_nulls.specs.Packets.{packet_len, null_packet}
use Rattle.ts_nulls.proofs.RestoreLemmas.{Puts-at, Puts-there, Puts-room, Puts-next, Puts-end}
use Rattle.ts_nulls.proofs.restoring.put_packets.Goals as goal

pub put_next-end-requires-clause-room : goal.put_next-end-requires-clause-room
put_next-end-requires-clause-room c =
    let g = Puts-at c.args.long c.args.units _ _ c.args.nulls c.loop-place.at c.loop-place.rest.now c.args.octets.now c.loop-place.out
    (suc (c.args.units - (c.loop-place.place + 1))) (7 - c.loop-place.place) c.loop-place.invariant (omega arith) refl in
    omega (arith, Puts-room c.args.long c.args.units (c.args.units - (c.loop-place.place + 1)) (7 - c.loop-place.place) c.args.nulls c.loop-place.at c.loop-place.rest.now c.args.octets.now c.loop-place.out g c.requires.few)

pub put_next-end-requires-clause-rest : goal.put_next-end-requires-clause-rest
put_next-end-requires-clause-rest c = λ not_null.
    let g = Puts-at c.args.long c.args.units _ _ c.args.nulls c.loop-place.at c.loop-place.rest.now c.args.octets.now c.loop-place.out
    (suc (c.args.units - (c.loop-place.place + 1))) (suc (6 - c.loop-place.place)) c.loop-place.invariant (omega arith) (omega arith) in
    Puts-there c.args.long c.args.units (c.args.units - (c.loop-place.place + 1)) (6 - c.loop-place.place) c.args.nulls c.loop-place.at c.loop-place.rest.now c.args.octets.now c.loop-place.out
    g (sym c.was_null.ensures ∙ not_null)

pub loop-place-preserved : goal.loop-place-preserved
loop-place-preserved c =
    let g = Puts-at c.args.long c.args.units _ _ c.args.nulls c.loop-place.at c.loop-place.rest.now c.args.octets.now c.loop-place.out
    (suc (c.args.units - (c.loop-place.place + 1))) (suc (6 - c.loop-place.place)) c.loop-place.invariant (omega arith) (omega arith) in
    let rest = c.put_next-end.ensures.rest ∙ ap (λ (b : Bool). cond b c.loop-place.rest.now (drop (packet_len c.args.long) c.loop-place.rest.now)) c.was_null.ensures in
    let made = c.put_next-end.ensures.octets ∙ ap (λ (b : Bool). take c.loop-place.at c.loop-place.out ++ cond b (null_packet c.args.long) (take (packet_len c.args.long) c.loop-place.rest.now)) c.was_null.ensures in
    let next = Puts-next c.args.long c.args.units (c.args.units - (c.loop-place.place + 1)) (6 - c.loop-place.place) c.args.nulls c.loop-place.at c.put_next-end.result.0 c.loop-place.rest.now c.put_next-end.result.1.now c.args.octets.now c.loop-place.out c.put_next-end.new.out
    g c.put_next-end.ensures.end rest made in
    Puts-at c.args.long c.args.units (c.args.units - (c.loop-place.place + 1)) (6 - c.loop-place.place) c.args.nulls c.put_next-end.result.0 c.put_next-end.result.1.now c.args.octets.now c.put_next-end.new.out
    (c.args.units - (c.loop-place.place + 1)) (7 - (c.loop-place.place + 1)) next refl (omega arith)

pub returns-clause-octets : goal.returns-clause-octets
returns-clause-octets c =
    let g = Puts-at c.args.long c.args.units _ _ c.args.nulls c.loop-place.at c.loop-place.rest.now c.args.octets.now c.loop-place.out
    0 (7 - c.loop-place.place) c.loop-place.invariant (omega arith) refl in
    (Puts-end c.args.long c.args.units (7 - c.loop-place.place) c.args.nulls c.loop-place.at c.loop-place.rest.now c.args.octets.now c.loop-place.out g).made

pub returns-clause-end : goal.returns-clause-end
returns-clause-end c =
    let g = Puts-at c.args.long c.args.units _ _ c.args.nulls c.loop-place.at c.loop-place.rest.now c.args.octets.now c.loop-place.out
    0 (7 - c.loop-place.place) c.loop-place.invariant (omega arith) refl in
    (Puts-end c.args.long c.args.units (7 - c.loop-place.place) c.args.nulls c.loop-place.at c.loop-place.rest.now c.args.octets.now c.loop-place.out g).end
