use Rattle.std.proofs.Common.{refl, sym, ◌∙◌}
use Rattle.outside_host.proofs.Places.{place_of-none, stood, stands, stay}
use Rattle.outside_host.proofs.slots.put_back.Goals.{in-Out, in_default-matches}
use Rattle.outside_host.proofs.slots.put_back.Goals as goal

pub returns-then-matches : goal.returns-then-matches
returns-then-matches g c =
    let e = c.in-Some.ensures.value in
    record {
      state = record {
        now = λ out. stands c.args.slots.now c.args.name.now c.index-slots-i.result _ _ e.0 e.1;
        kept = λ other. elim c.match-matches.branch [
          | in-Out w ↦ absurd (other (stood c.args.slots.now c.args.name.now _ _ e.0 e.1 ∙ w.in-Out.is))
          | in_default-matches w ↦ let no = sym w.matches-is ∙ c.if-matches.true in cc
        ];
        others = stay c.args.slots.now c.args.name.now c.index-slots-i.result _ _ e.0 e.1;
      };
    }

pub returns-else-matches : goal.returns-else-matches
returns-else-matches g c =
    let e = c.in-Some.ensures.value in
    record {
      state = record {
        now = λ out. elim c.match-matches.branch [
          | in-Out w ↦ let no = sym w.matches-is ∙ c.if-matches.false in cc
          | in_default-matches w ↦ absurd (w.in_default-matches.not-Out (sym (stood c.args.slots.now c.args.name.now _ _ e.0 e.1) ∙ out))
        ];
        kept = λ other. refl;
        others = λ m apart. refl;
      };
    }

pub returns-in_default : goal.returns-in_default
returns-in_default g c = record {
  state = record {
    now = λ out. let none = sym (place_of-none c.args.slots.now c.args.name.now c.in_default.ensures.value) ∙ out in cc;
    kept = λ other. refl;
    others = λ m apart. refl;
  };
}
