-- One octet more of a line.
use Rattle.std.proofs.Common.{◌≡◌, ◌∙◌, ◌<◌, ◌≤◌, ◌+◌, ◌-◌, ℕ, suc, Bool, not, true, false, List, [], ◌∷◌, ◌++◌, if◌then◌else◌, length, take, refl, sym, ap, arith, append_assoc, length-append, length-take}
use Rattle.std.specs.Prelude.{Option, Some, None}
use Rattle.std.specs.Option.{option_map}
use Rattle.std.specs.List.{position_or_len}
use Rattle.std.proofs.lemmas.List.Sums.{take_while-cons}
use Rattle.outside_io.specs.Told.{Takes}
use Rattle.pass_words.specs.Line.{behind_line, ends_in_return, is_line_end, line_of, without_return}

-- an octet that is no line feed
pub no_end : (x : ℕ) → (x ≡ 10 → ⊥) → is_line_end x ≡ false
no_end x is_not = grind arith

pub line_cons : (x : ℕ) (rest : List ℕ) → is_line_end x ≡ false → line_of (x ∷ rest) ≡ x ∷ line_of rest
line_cons x rest e = take_while-cons (λ c. not (is_line_end c)) x rest ∙ (rw e refl)

pub behind_cons : (x : ℕ) (rest : List ℕ) → is_line_end x ≡ false → behind_line (x ∷ rest) ≡ behind_line rest
behind_cons x rest e =
    let before : ℕ = position_or_len is_line_end rest in
    let place : position_or_len is_line_end (x ∷ rest) + 1 ≡ suc (before + 1) = (rw e (omega arith)) in
    rw place refl

pub line_more : (old now new : Option (List ℕ)) (front : List ℕ) (x : ℕ) → option_map line_of old ≡ option_map (λ rest. front ++ line_of rest) now
    → Takes now new (x ∷ []) → is_line_end x ≡ false → option_map line_of old ≡ option_map (λ rest. (front ++ x ∷ []) ++ line_of rest) new
line_more old now None front x e t is_not = rw t at e
line_more old now (Some rest) front x e t is_not =
    let h : option_map line_of old ≡ Some (front ++ line_of (x ∷ rest)) = rw t at e in
    h ∙ ap Some (ap (λ (l : List ℕ). front ++ l) (line_cons x rest is_not) ∙ sym (append_assoc front (x ∷ []) (line_of rest)))

pub behind_more : (old now new : Option (List ℕ)) (x : ℕ) → option_map behind_line old ≡ option_map behind_line now → Takes now new (x ∷ []) → is_line_end x ≡ false
    → option_map behind_line old ≡ option_map behind_line new
behind_more old now None x e t is_not = rw t at e
behind_more old now (Some rest) x e t is_not =
    let h : option_map behind_line old ≡ Some (behind_line (x ∷ rest)) = rw t at e in
    h ∙ ap Some (behind_cons x rest is_not)

-- a line that has as many octets as are taken, and one more
line_longer : (old new : Option (List ℕ)) (front : List ℕ) (x : ℕ) → 129 ≤ length front → (text : List ℕ) → old ≡ Some text
    → option_map line_of old ≡ option_map (λ rest. (front ++ x ∷ []) ++ line_of rest) new → 129 < length (line_of text)
line_longer old None front x size text is e = let h : Some (line_of text) ≡ None = (rw is at e) in absurd cc
line_longer old (Some rest) front x size text is e =
    let h : Some (line_of text) ≡ Some ((front ++ x ∷ []) ++ line_of rest) = (rw is at e) in
    let k : line_of text ≡ (front ++ x ∷ []) ++ line_of rest = cc in
    omega (arith, ap length k, length-append (front ++ x ∷ []) (line_of rest), length-append front (x ∷ []))

pub line_long : (old now new : Option (List ℕ)) (front : List ℕ) (x : ℕ) → option_map line_of old ≡ option_map (λ rest. front ++ line_of rest) now
    → Takes now new (x ∷ []) → is_line_end x ≡ false → 129 ≤ length front → (text : List ℕ) → old ≡ Some text → 129 < length (line_of text)
line_long old now new front x e t is_not size text is = line_longer old new front x size text is (line_more old now new front x e t is_not)

-- a line above 129 octets is above 128 without a carriage return at its end
long_by : (line : List ℕ) (returns : Bool) → 129 < length line → 128 < length (if returns then take (length line - 1) line else line)
long_by line true size = omega (arith, length-take (length line - 1) line)
long_by line false size = omega arith

pub return_long : (line : List ℕ) → 129 < length line → 128 < length (without_return line)
return_long line size = long_by line (ends_in_return line) size
