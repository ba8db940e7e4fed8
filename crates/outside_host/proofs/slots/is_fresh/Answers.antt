use Rattle.std.proofs.Common.{◌≡◌, sym, ap, ◌∙◌}
use Rattle.outside_host.proofs.Places.{place_of-none, stood}
use Rattle.outside_host.proofs.slots.is_fresh.Goals as goal

pub returns-in-Here-clause-value : goal.returns-in-Here-clause-value
returns-in-Here-clause-value c = λ sink fresh here.
    let e = c.in-Some.ensures.value in
    let same = sym here ∙ stood c.args.slots.now c.args.name.now c.index-slots-i.result _ e.0 e.1 ∙ c.in-Here.is in
    let one : sink ≡ c.in-Here.sink = cc in
    ap (λ s. s.contents) one ∙ c.is_empty.ensures.value.0 fresh

pub returns-in-Here-clause-none : goal.returns-in-Here-clause-none
returns-in-Here-clause-none c = λ no sink here nothing.
    let e = c.in-Some.ensures.value in
    let same = sym here ∙ stood c.args.slots.now c.args.name.now c.index-slots-i.result _ e.0 e.1 ∙ c.in-Here.is in
    let one : sink ≡ c.in-Here.sink = cc in
    let fresh = c.is_empty.ensures.value.1 (sym (ap (λ s. s.contents) one) ∙ nothing) in
    cc

pub returns-in_default-clause-none : goal.returns-in_default-clause-none
returns-in_default-clause-none c = λ no sink here nothing.
    let e = c.in-Some.ensures.value in
    c.in_default.not-Here sink (sym (stood c.args.slots.now c.args.name.now c.index-slots-i.result _ e.0 e.1) ∙ here)

pub returns-in-None-clause-none : goal.returns-in-None-clause-none
returns-in-None-clause-none c = λ no sink here nothing.
    let none = sym (place_of-none c.args.slots.now c.args.name.now c.in-None.ensures.value) ∙ here in cc
