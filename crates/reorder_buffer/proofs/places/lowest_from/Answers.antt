-- Places from the start on hold the lower numbers.
use Rattle.std.proofs.Common.{◌≡◌, ◌^◌, ◌-◌, Some, rules, ap, subst, sym, ◌∙◌}
use Rattle.std.specs.Option.{ForSome, option_map}
use Rattle.deadline_index.specs.Places.{IsFirstBy, IsNoneFrom}
use Rattle.reorder_buffer.specs.declared.places.Standing.{Standing}
use Rattle.reorder_buffer.specs.declared.ring.Held.{Held}
use Rattle.reorder_buffer.proofs.RingLemmas.{place_at}
use Rattle.reorder_buffer.proofs.AroundLemmas.{lowest_straight, lowest_wrapped, lowest_none, lowest_here, found_place, same_some, of_some, of_none}
use Rattle.reorder_buffer.proofs.places.lowest_from.Goals.{in-Some-first_by, in-None}
use Rattle.reorder_buffer.proofs.places.lowest_from.Goals as goal

pub returns-in-Some-clause-number : goal.returns-in-Some-clause-number
returns-in-Some-clause-number c blocks sized rising =
    lowest_here c.args.low c.in-Some.lowest.number c.args.places.now c.args.index.now blocks c.requires.around sized rising
    (subst (λ k. option_map (λ (h : Held). h.number) (place_at c.args.places.now k) ≡ Some c.in-Some.lowest.number) c.requires.start
    (sym c.standing_at.ensures.number ∙ ap (option_map (λ (s : Standing). s.number)) c.in-Some.is))

pub returns-in-Some-clause-place : goal.returns-in-Some-clause-place
returns-in-Some-clause-place c =
    found_place c.args.low c.args.start c.args.places.now c.args.index.now (Some c.in-Some.lowest) c.requires.around
    (ap (option_map (λ (s : Standing). s.number)) (sym c.in-Some.is) ∙ c.standing_at.ensures.number)
    (subst (λ o. ForSome o (λ s. s.place ≡ c.args.start)) c.in-Some.is c.standing_at.ensures.place)

pub returns-in-Some-first-clause-number : goal.returns-in-Some-first-clause-number
returns-in-Some-first-clause-number c blocks sized rising =
    c.standing_at-in-Some-first.ensures.number
    ∙ elim c.match-first_by.branch [
      | in-Some-first_by w ↦
          lowest_straight c.args.low c.in-Some-first.place c.args.places.now c.args.index.now blocks c.requires.around sized rising
          (subst (λ k. IsFirstBy c.args.index.now k (2 ^ 64 - 2) c.in-Some-first.place) c.requires.start
          (subst (IsFirstBy c.args.index.now c.args.start (2 ^ 64 - 2)) (same_some (sym w.first-is ∙ c.in-Some-first.is)) w.in-Some-first_by.ensures.some))
      | in-None w ↦
          lowest_wrapped c.args.low c.in-Some-first.place c.args.places.now c.args.index.now blocks c.requires.around sized rising
          (subst (λ k. IsNoneFrom c.args.index.now k (2 ^ 64 - 2)) c.requires.start w.in-None.ensures.none)
          (of_some (IsFirstBy c.args.index.now 0 (2 ^ 64 - 2)) w.first_by-first.result c.in-Some-first.place (sym w.first-is ∙ c.in-Some-first.is) w.first_by-first.ensures.some)
    ]

pub returns-in-Some-first-clause-place : goal.returns-in-Some-first-clause-place
returns-in-Some-first-clause-place c =
    found_place c.args.low c.in-Some-first.place c.args.places.now c.args.index.now c.standing_at-in-Some-first.result c.requires.around
    c.standing_at-in-Some-first.ensures.number c.standing_at-in-Some-first.ensures.place

pub returns-in-None-first-clause-number : goal.returns-in-None-first-clause-number
returns-in-None-first-clause-number c blocks sized rising =
    lowest_none c.args.low c.args.places.now c.args.index.now blocks c.requires.around
    (elim c.match-first_by.branch [
      | in-Some-first_by w ↦ absurd (let none = sym w.first-is ∙ c.in-None-first.is in search rules)
      | in-None w ↦ of_none (IsNoneFrom c.args.index.now 0 (2 ^ 64 - 2)) w.first_by-first.result (sym w.first-is ∙ c.in-None-first.is) w.first_by-first.ensures.none
    ])
