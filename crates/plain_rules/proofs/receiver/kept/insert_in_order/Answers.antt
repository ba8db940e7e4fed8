-- Before the first of a higher number the packet stands in order.
use Rattle.std.proofs.Common.{ap, ◌∙◌, ◌≡◌}
use Rattle.std.specs.Prelude.{nat_lt}
use Rattle.std.specs.List.{insert, position_or_len}
use Rattle.plain_rules.specs.declared.receiver.kept.Kept.{Kept}
use Rattle.plain_rules.specs.Receiver.Kept.{kept_packets}
use Rattle.plain_rules.proofs.KeptLemmas.{insert_plain}
use Rattle.plain_rules.proofs.receiver.kept.insert_in_order.Goals as goal

pub returns : goal.returns
returns c =
    let at : c.place_among-at.result ≡ position_or_len (λ (k : Kept). nat_lt c.args.packet.now.place.number k.place.number) c.args.ordered.now.items = c.place_among-at.ensures.value ∙ ap (λ ks. position_or_len (λ (k : Kept). nat_lt c.args.packet.now.place.number k.place.number) ks) c.as_slice.ensures.value in
    ap kept_packets (c.in_ok-insert.ensures.items ∙ ap (λ n. insert c.args.ordered.now.items n c.args.packet.now) at)
    ∙ insert_plain c.args.packet.now c.args.ordered.now.items
