-- Sinks are given back from the last one on.
use Rattle.std.proofs.Common.{rules, refl, arith, length, [], ◌≡◌, ◌<◌}
use Rattle.std.proofs.lemmas.List.{length-map}
use Rattle.outside_host.proofs.SinkGivingLemmas.{none_given, one_given}
use Rattle.outside_host.proofs.SinkNameLemmas.{named}
use Rattle.outside_host.proofs.sinks.back_sinks.Goals as goal

pub loop-sink-init : goal.loop-sink-init
loop-sink-init g c =
    (omega (arith, c.requires.count), (λ tells. none_given _ _ _ (omega (arith, c.requires.count, length-map c.args.names.now (λ name. name.now)))), (λ tells. refl), refl)

pub loop-sink-preserved : goal.loop-sink-preserved
loop-sink-preserved g c =
    let inside : c.len.result < length c.args.names.now = omega (arith, c.in-Some.ensures.cases, c.len.ensures, c.loop-sink.invariant.0) in
    let here : c.len.result ≡ length c.pop.new.self.items = omega (arith, c.len.ensures) in (
      omega (arith, inside, here),
      (λ told. one_given _ _ (g.H.Host.shelf c.back_sink.new.self).sinks _ _ _ _ _ _ c.requires.different c.in-Some.ensures.items
          (named (λ name. name.now) c.args.names.now c.len.result (length c.pop.new.self.items) (record { ref_ptr = (0, 0); now = [] }) here inside) (c.loop-sink.invariant.1 told) (c.back_sink.ensures.state told)),
      search rules,
      search rules,
    )
