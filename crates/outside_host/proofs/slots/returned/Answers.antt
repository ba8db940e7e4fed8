use Rattle.std.proofs.Common.{sym, ◌∙◌}
use Rattle.outside_host.proofs.Places.{place_of-none, stood}
use Rattle.outside_host.proofs.slots.returned.Goals as goal

pub returns-in_err-i-clause-none : goal.returns-in_err-i-clause-none
returns-in_err-i-clause-none g c =
    rw c.from_residual.ensures (λ object back. let none = sym (place_of-none c.args.slots.now c.args.name.now c.in_err-i.ensures.value) ∙ back in cc)

pub returns-in-Back-clause-some : goal.returns-in-Back-clause-some
returns-in-Back-clause-some g c =
    let e = c.in_ok-i.ensures.value in
    stood c.args.slots.now c.args.name.now c.index-slots-i.result _ e.0 e.1 ∙ c.in-Back.is

pub returns-in_default : goal.returns-in_default
returns-in_default g c =
    let e = c.in_ok-i.ensures.value in
    record {
      some = tt;
      none = λ object back. c.in_default.not-Back object (sym (stood c.args.slots.now c.args.name.now c.index-slots-i.result _ e.0 e.1) ∙ back);
    }
