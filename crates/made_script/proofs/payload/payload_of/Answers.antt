use Rattle.std.proofs.Common.{rules, ◌/◌, ◌%◌}
use Rattle.std.proofs.lemmas.List.FromFn.{fill_by_all}
use Rattle.made_script.specs.Payload.{octet_of}
use Rattle.made_script.proofs.payload.payload_of.Goals as goal

pub returns : goal.returns
returns c = record {
  value = fill_by_all (λ n. octet_of c.args.payload (n / 188) (n % 188)) c.loop-place.octets 1316 0 c.loop-place.invariant.0 (λ k less. c.loop-place.invariant.1 k (search rules));
}
