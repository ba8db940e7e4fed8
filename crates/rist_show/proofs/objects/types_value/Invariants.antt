use Rattle.std.proofs.Common.{◌≡◌, ◌++◌, map}
use Rattle.serde_json.specs.View.{view}
use Rattle.rtcp_compound.specs.Compound.{kind_of}
use Rattle.rist_show.specs.Lines.{natural}
use Rattle.rist_show.proofs.objects.types_value.Given as goal

abbrev pub invariant-loop-packet : goal.invariant-loop-packet
invariant-loop-packet l = map view l.values.items ++ map (λ p. natural (kind_of p)) l.packet-iterator ≡ map (λ p. natural (kind_of p)) l.compound
