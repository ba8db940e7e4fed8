-- There is a point for the latest second, and so for each.
use Rattle.std.proofs.Common.{◌≡◌, ◌<◌, ◌*◌, ◌^◌, ◌∷◌, ℕ, List, length, ap, subst, sym, arith}
use Rattle.std.proofs.lemmas.List.{with_items_is}
use Rattle.time_series.specs.Points.{SeriesState, latest}
use Rattle.time_series.specs.Peaks.{IsPeaksOf}
use Rattle.time_series.specs.Inside.Widening.{IsRoomy}
use Rattle.time_series.specs.Inside.Rising.{ArePeaks}
use Rattle.time_series.proofs.SeriesLemmas.{later_more, room_for}
use Rattle.time_series.proofs.PeakLemmas.{peaks_kept, peaks_shown}
use Rattle.time_series.proofs.peaks.Peaks.add.Goals as goal

pub lift_at-requires-clause-order : goal.lift_at-requires-clause-order
lift_at-requires-clause-order c =
    let more = later_more c.self.inside.latest c.max-latest.result (omega (arith, c.max-latest.ensures)) in
    omega (arith, more, c.self.invariant.doubled, c.halvings-scale.ensures.value)

pub lift_at-requires-clause-within : goal.lift_at-requires-clause-within
lift_at-requires-clause-within c =
    let room : c.max-latest.result < 4096 * 2 ^ c.halvings-scale.result = subst (λ (k : ℕ). c.max-latest.result < 4096 * 2 ^ k) (sym c.halvings-scale.ensures.value) (room_for c.max-latest.result c.max-latest.type_inv) in
    omega (arith, room, c.max-latest.ensures)

pub invariant_of-self : goal.invariant_of-self
invariant_of-self c =
    let room : c.max-latest.result < 4096 * 2 ^ c.halvings-scale.result = subst (λ (k : ℕ). c.max-latest.result < 4096 * 2 ^ k) (sym c.halvings-scale.ensures.value) (room_for c.max-latest.result c.max-latest.type_inv) in
    let kept : length c.lift_at.new.points ≡ 4096 = omega arith in
    subst (λ (points : List ℕ). IsRoomy points c.halvings-scale.result c.max-latest.result) (sym (with_items_is c.self.inside.points c.lift_at.new.points (omega arith)))
    (record { room = kept; doubled = c.halvings-scale.ensures.value; small = c.halvings-scale.ensures.within; within = room })

pub returns : goal.returns
returns c = record {
  state = λ marks is.
      let before = peaks_kept c.self.inside.points.items c.self.inside.scale c.self.inside.latest marks (subst (λ s. IsPeaksOf s marks) (sym c.self.view_is) is) in
      let after = c.lift_at.ensures.peaks marks (subst (ArePeaks c.self.inside.scale marks) (sym c.deref_mut.ensures.value) before) in
      let newest : c.max-latest.result ≡ latest (record { second = c.args.second; amount = c.args.amount } ∷ marks) = omega (arith, c.max-latest.ensures, is.newest, ap (λ (s : SeriesState). s.latest) c.self.view_is) in
      subst (λ (points : List ℕ). IsPeaksOf (record { points = points; scale = c.halvings-scale.result; latest = c.max-latest.result }) (record { second = c.args.second; amount = c.args.amount } ∷ marks))
      (sym (with_items_is c.self.inside.points c.lift_at.new.points (omega arith)))
      (peaks_shown c.lift_at.new.points c.halvings-scale.result c.max-latest.result (record { second = c.args.second; amount = c.args.amount } ∷ marks) c.halvings-scale.ensures.value newest after);
}
