-- A script past its last answer.
use Rattle.std.proofs.Common.{◌≡◌, ◌∙◌, ℕ, zero, suc, List, [], ◌∷◌, true, false, Option, Some, None, length, drop, refl, sym, ap}
use Rattle.std.specs.Prelude.{if◌then◌else◌}
use Rattle.outside_net.specs.Links.{Answer, Failed, End, gives_datagram}
use Rattle.outside_net.specs.declared.script_link.ScriptRead.{ScriptRead}
use Rattle.outside_net.specs.Scripts.{CallPlaces, answers_of, fails_next, call_made}

-- it gives no datagram
nothing_left : (calls : CallPlaces) (k : ℕ) → gives_datagram (answers_of calls [] k) ≡ false
nothing_left calls zero = elim (fails_next calls) as (λ c. gives_datagram (if c then Failed else End) ≡ false) [ true ↦ refl | false ↦ refl ]
nothing_left calls (suc k) =
    elim (fails_next calls) as (λ c. gives_datagram (answers_of (call_made calls) (if c then [] else []) k) ≡ false) [ true ↦ nothing_left (call_made calls) k | false ↦ nothing_left (call_made calls) k ]

pub drop_end : (script : List ScriptRead) (at : ℕ) → at ≡ length script → drop at script ≡ []
drop_end script at e = ap (λ n. drop n script) e ∙ whole script
  where
    whole : (script : List ScriptRead) → drop (length script) script ≡ []
    whole [] = refl
    whole (read ∷ script) = whole script

same_stream : (s t : ℕ → Answer) → Some s ≡ Some t → s ≡ t
same_stream s t e = ap (λ (o : Option (ℕ → Answer)). value_of o) e
  where
    value_of : Option (ℕ → Answer) → ℕ → Answer
    value_of None k = End
    value_of (Some f) k = f k

pub nothing_after : (calls : CallPlaces) (script : List ScriptRead) → script ≡ [] → (s : ℕ → Answer) → Some (answers_of calls script) ≡ Some s → (k : ℕ) → gives_datagram (s k) ≡ false
nothing_after calls script empty s told k =
    ap (λ (f : ℕ → Answer). gives_datagram (f k)) (sym (same_stream (answers_of calls script) s told)) ∙ ap (λ (l : List ScriptRead). gives_datagram (answers_of calls l k)) empty ∙ nothing_left calls k
