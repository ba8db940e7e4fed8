use Rattle.std.proofs.Common.{ap, ◌∙◌, ℕ, arith}
use Rattle.std.specs.List.{list_all}
use Rattle.ts_nulls.specs.Packets.{packets_of, begins_packet}
use Rattle.ts_nulls.proofs.StripLemmas.{length-packets_of, null_bits-below, null_bits-clear, stripping-none, stripping-stops, stripping-zero, stripping-some}
use Rattle.ts_nulls.proofs.stripping.strip.Goals as goal

pub returns-in_default-clause-value : goal.returns-in_default-clause-value
returns-in_default-clause-value c = stripping-none c.args.payload.now c.in_default.ensures.value

pub returns-in_default-keep-clause-value : goal.returns-in_default-keep-clause-value
returns-in_default-keep-clause-value c =
    stripping-stops c.in-Some.long c.in-Some.units c.args.payload.now (record { found = c.in-Some.ensures.value; few = c.in-Some.ensures.few })
    (c.in_default-keep.ensures.begins ∙ ap (λ (n : ℕ). list_all begins_packet (packets_of n c.in-Some.units c.args.payload.now)) c.packet_len.ensures.value)

pub returns-then-nulls-eq0-clause-value : goal.returns-then-nulls-eq0-clause-value
returns-then-nulls-eq0-clause-value c =
    stripping-zero c.in-Some.long c.in-Some.units c.packet_len.result c.in-Some-keep.nulls c.args.payload.now
    (record { found = c.in-Some.ensures.value; few = c.in-Some.ensures.few }) c.packet_len.ensures.value
    c.in-Some-keep.ensures.begins c.in-Some-keep.ensures.bits c.if-nulls-eq0.true

pub invariant_of-result : goal.invariant_of-result
invariant_of-result c =
    let packets = packets_of c.packet_len.result c.in-Some.units c.args.payload.now in
    let len = length-packets_of c.packet_len.result c.in-Some.units c.args.payload.now in
    let clear = null_bits-clear packets c.in-Some.units len c.in-Some.ensures.few in
    record {
      some = c.in-Some.ensures.some;
      few = c.in-Some.ensures.few;
      below = omega (arith, c.in-Some-keep.ensures.bits, null_bits-below 7 packets);
      clear = rw c.in-Some-keep.ensures.bits clear;
    }

pub returns-clause-value : goal.returns-clause-value
returns-clause-value c =
    stripping-some c.in-Some.long c.in-Some.units c.packet_len.result c.in-Some-keep.nulls c.args.payload.now _
    (record { found = c.in-Some.ensures.value; few = c.in-Some.ensures.few }) c.packet_len.ensures.value
    c.in-Some-keep.ensures.begins c.in-Some-keep.ensures.bits (λ e. c.if-nulls-eq0.false e) c.in-Some-keep.ensures.kept
