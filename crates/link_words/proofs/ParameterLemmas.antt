-- One parameter more of a text.
use Rattle.std.proofs.Common.{◌≡◌, ◌∙◌, ◌≤◌, ◌-◌, ℕ, zero, suc, List, Bor, ap, refl, arith, option_map, sym}
use Rattle.std.specs.Prelude.{Option, Some, None, Ok, Err}
use Rattle.link_words.specs.Texts.{Word}
use Rattle.link_words.specs.Parameters.{Fault, TooMany, first_part, kept_in, parameters_in, with_kept, with_parameter}

pub next_parameter : (most : ℕ) (command url : Word) (options new : List Word) (text part more : Word) → 1 ≤ most → (part, Some more) ≡ first_part 38 text
    → with_parameter command url options part ≡ Ok new
    → parameters_in most command url options (Some text) ≡ parameters_in (most - 1) command url new (Some more)
next_parameter zero command url options new text part more some split is = absurd (omega arith)
next_parameter (suc most) command url options new text part more some split is =
    let less : suc most - 1 ≡ most = omega arith in
    rw (← split, is, less) refl

pub last_parameter : (most : ℕ) (command url : Word) (options new : List Word) (text part : Word) → 1 ≤ most → (part, None) ≡ first_part 38 text
    → with_parameter command url options part ≡ Ok new
    → parameters_in most command url options (Some text) ≡ Ok new
last_parameter zero command url options new text part some split is = absurd (omega arith)
last_parameter (suc most) command url options new text part some split is = rw (← split, is) refl

pub bad_parameter : (most : ℕ) (command url : Word) (options : List Word) (text part : Word) (more : Option Word) (fault : Fault) → 1 ≤ most → (part, more) ≡ first_part 38 text
    → with_parameter command url options part ≡ Err fault
    → parameters_in most command url options (Some text) ≡ Err fault
bad_parameter zero command url options text part more fault some split is = absurd (omega arith)
bad_parameter (suc most) command url options text part more fault some split is = rw (← split, is) refl

-- the same of the parameters that stay with a link
pub next_kept : (most : ℕ) (kept new : Word) (text part more : Word) → 1 ≤ most → (part, Some more) ≡ first_part 38 text → new ≡ with_kept kept part
    → kept_in most kept (Some text) ≡ kept_in (most - 1) new (Some more)
next_kept zero kept new text part more some split is = absurd (omega arith)
next_kept (suc most) kept new text part more some split is =
    let less : suc most - 1 ≡ most = omega arith in
    ap (λ parts. kept_in most (with_kept kept parts.0) parts.1) (sym split)
    ∙ ap (λ k. kept_in most k (Some more)) (sym is)
    ∙ ap (λ m. kept_in m new (Some more)) (sym less)

pub last_kept : (most : ℕ) (kept new : Word) (text part : Word) → 1 ≤ most → (part, None) ≡ first_part 38 text → new ≡ with_kept kept part
    → kept_in most kept (Some text) ≡ new
last_kept zero kept new text part some split is = absurd (omega arith)
last_kept (suc most) kept new text part some split is =
    ap (λ parts. kept_in most (with_kept kept parts.0) parts.1) (sym split) ∙ last_of most (with_kept kept part) ∙ sym is
  where
    last_of : (most : ℕ) (kept : Word) → kept_in most kept None ≡ kept
    last_of zero kept = refl
    last_of (suc most) kept = refl

pub no_more_kept : (most : ℕ) (kept text : Word) → most ≡ 0 → kept_in most kept (Some text) ≡ kept
no_more_kept zero kept text none = refl
no_more_kept (suc most) kept text none = absurd (omega arith)

-- what a first part is, without where it lies in memory
pub part_with_more : (r : Bor Word × Option (Bor Word)) (more : Bor Word) (s : Word × Option Word) → (r.0.now, option_map (λ m. m.now) r.1) ≡ s → r.1 ≡ Some more
    → (r.0.now, Some more.now) ≡ s
part_with_more r more s e is = rw (← e, is) refl

pub last_part : (r : Bor Word × Option (Bor Word)) (s : Word × Option Word) → (r.0.now, option_map (λ m. m.now) r.1) ≡ s → r.1 ≡ None → (r.0.now, None) ≡ s
last_part r s e is = rw (← e, is) refl

-- more parameters than are taken
pub no_more : (most : ℕ) (command url said : Word) (options : List Word) (text : Word) (fault : Fault) → most ≡ 0 → said ≡ url → Some (TooMany said) ≡ Some fault
    → parameters_in most command url options (Some text) ≡ Err fault
no_more zero command url said options text fault none is e =
    let same : TooMany said ≡ fault = cc in
    rw (← same, is) refl
no_more (suc most) command url said options text fault none is e = absurd (omega arith)
