use Rattle.std.proofs.Common.{◌≡◌, ◌++◌, map, None}
use Rattle.serde_json.specs.View.{view}
use Rattle.rist_nack.specs.Asked.{asks_in}
use Rattle.rist_show.specs.Lines.{ask_data}
use Rattle.rist_show.proofs.objects.asks_value.Given as goal

abbrev pub invariant-loop-ask : goal.invariant-loop-ask
invariant-loop-ask l = map view l.values.items ++ map ask_data l.ask-iterator ≡ map ask_data (asks_in None l.compound)
