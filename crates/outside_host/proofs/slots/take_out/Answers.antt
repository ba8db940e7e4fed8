use Rattle.std.proofs.Common.{sym, ◌∙◌}
use Rattle.outside_host.proofs.Places.{place_of-none, stood, stands, stay}
use Rattle.outside_host.proofs.slots.take_out.Goals.{in-Here, in_default}
use Rattle.outside_host.proofs.slots.take_out.Goals as goal

pub returns-in-Here-replace-clause-some : goal.returns-in-Here-replace-clause-some
returns-in-Here-replace-clause-some g c =
    let e = c.in_ok-i.ensures.value in
    record {
      was = stood c.args.slots.now c.args.name.now c.index-slots-i.result _ e.0 e.1 ∙ sym c.replace.ensures.value ∙ c.in-Here-replace.is;
      now = stands c.args.slots.now c.args.name.now c.index-slots-i.result _ _ e.0 e.1 ∙ c.replace.ensures.after;
      others = stay c.args.slots.now c.args.name.now c.index-slots-i.result _ _ e.0 e.1;
    }

pub returns-in_err-i-clause-away : goal.returns-in_err-i-clause-away
returns-in_err-i-clause-away g c =
    rw c.from_residual.ensures (λ object here. let none = sym (place_of-none c.args.slots.now c.args.name.now c.in_err-i.ensures.value) ∙ here in cc)

pub returns-then-not-matches-clause-away : goal.returns-then-not-matches-clause-away
returns-then-not-matches-clause-away g c = λ object here.
    let e = c.in_ok-i.ensures.value in
    elim c.match-matches.branch [
      | in-Here w ↦ let no = sym w.matches-is ∙ c.if-not-matches.true in cc
      | in_default w ↦ w.in_default.not-Here object (sym (stood c.args.slots.now c.args.name.now _ _ e.0 e.1) ∙ here)
    ]
