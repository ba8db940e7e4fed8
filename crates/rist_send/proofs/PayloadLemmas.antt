-- What a run gave its sender of the payloads of datagrams, part after part, and what it gave in all.
use Rattle.std.proofs.Common.{◌≡◌, ◌∙◌, ◌⊎◌, ℕ, zero, suc, ◌+◌, ◌<◌, nat_le, List, [], ◌∷◌, ◌++◌, length, Bool, true, false, if◌then◌else◌, Option, None, Some, Result, Ok, Err, refl, sym, ap, subst, arith, append-nil, append_assoc, length-append}
use Rattle.std.specs.Prelude.{IfSome}
use Rattle.std.proofs.lemmas.Bool.Decides.{nat_tests}
use mathlib.Core.Logic.{inl, inr}
use Rattle.live_source.specs.Payloads.{TakesPayload}
use Rattle.block_source.specs.declared.fault.PieceFault.{PieceFault}
use Rattle.block_source.specs.declared.fault.PieceFault.TheVariants as pieces
use Rattle.rist_sender.specs.Calls.{Work, IfElse}
use Rattle.sender_rules.specs.declared.send_bad.SendBad.{SendBad}
use Rattle.sender_rules.specs.declared.send_bad.SendBad.TheVariants as refusals
use Rattle.rist_send.specs.declared.fault.SendFault.{SendFault}
use Rattle.rist_send.specs.declared.fault.SendFault.TheVariants as faults
use Rattle.rist_send.specs.declared.progress.Stage.{Stage}
use Rattle.rist_send.specs.declared.progress.Stage.TheVariants.{Reading, Ended}
use Rattle.rist_send.specs.Payloads.{ReadsPayload, TakesNext}
use Rattle.rist_send.specs.Run.{Setup, Run, is_due, is_over_at, has_ended, outcome}
use Rattle.rist_send.specs.Turns.{Stays, GoesOn, SendsRead, BringsDue, BringsNext, ReadsAndTicks, Turn, sent_with, stage_after, with_piece, with_moment}
use Rattle.rist_send.specs.Given.{DropsPayloads, GivesFirstPayloads, GivesPayloads}
use Rattle.rist_send.specs.Sending.{TurnsOn, StopsWith, Stops, IsSpent, SendsSource, result_at_last}
use Rattle.rist_send.specs.Served.{Outside, new_run}
use Rattle.rist_send.proofs.GivenLemmas.{Keeps, rest_keeps, gives_octets}

-- what was given and the rest, by what the source is at
abbrev IsCounted : Stage → List (List ℕ) → List (List ℕ) → Type 0
IsCounted (Reading k) given rest = length given ≡ k
IsCounted (Ended moment) given rest = rest ≡ []

-- how far a run has come with a source that had these payloads
record HasGiven (payloads : List (List ℕ)) (left : Option (List (List ℕ))) (given : List (List ℕ)) (stage : Stage) : Type 0 where
  rest : List (List ℕ)
  told : left ≡ Some rest
  whole : payloads ≡ given ++ rest
  place : IsCounted stage given rest

-- after a part of it, or where that was refused
abbrev Leaves : Result Unit SendFault → List (List ℕ) → Run → Type 0
Leaves (Ok done) payloads to = HasGiven payloads to.payloads to.sent to.progress.stage
Leaves (Err fault) payloads to = GivesFirstPayloads fault payloads to.payloads to.sent

at_first : (payloads : List (List ℕ)) (left : Option (List (List ℕ))) → left ≡ Some payloads → HasGiven payloads left [] (Reading 0)
at_first payloads left told = record { rest = payloads; told = told; whole = refl; place = refl }

-- no payload was read and not given
drops_none : (fault : SendFault) (payloads : List (List ℕ)) (left : Option (List (List ℕ))) (given : List (List ℕ)) (stage : Stage)
    → HasGiven payloads left given stage → DropsPayloads fault (length given) [] → GivesFirstPayloads fault payloads left given
drops_none fault payloads left given stage g none = record { dropped = []; rest = g.rest; told = g.told; whole = g.whole; drops = none }

-- ---- the next payload

record IsBehind (had : List (List ℕ)) (left : Option (List (List ℕ))) (payload : List ℕ) : Type 0 where
  rest : List (List ℕ)
  told : left ≡ Some rest
  whole : had ≡ payload ∷ rest

behind : (had : List (List ℕ)) (left : Option (List (List ℕ))) (payload : List ℕ) → TakesPayload (Some had) left payload → IsBehind had left payload
behind had None payload is = cc
behind had (Some rest) payload is = record { rest = rest; told = refl; whole = cc }

placed : (moment k : ℕ) (given : List (List ℕ)) (payload : List ℕ) (rest : List (List ℕ)) → length given ≡ k → 0 < length payload
    → (whole : Bool) → nat_le 1 (length payload) ≡ whole → IsCounted (if whole then Reading (k + 1) else Ended moment) (given ++ payload ∷ []) rest
placed moment k given payload rest size some true is = omega (arith, size, length-append given (payload ∷ []))
placed moment k given payload rest size some false is = absurd (grind (arith, nat_tests))

-- a payload was read and given
gives_payload : (payloads : List (List ℕ)) (had left : Option (List (List ℕ))) (given : List (List ℕ)) (moment k : ℕ) (payload : List ℕ) → 0 < length payload
    → HasGiven payloads had given (Reading k) → TakesNext k had left payload → HasGiven payloads left (given ++ payload ∷ []) (stage_after moment k 1 (length payload))
gives_payload payloads had left given moment k payload some g taken =
    let b = behind g.rest left payload (subst (λ (told : Option (List (List ℕ))). TakesPayload told left payload) g.told (taken.taken some)) in
    record {
      rest = b.rest;
      told = b.told;
      whole = g.whole ∙ ap (λ r. given ++ r) b.whole ∙ sym (append_assoc given (payload ∷ []) b.rest);
      place = placed moment k given payload b.rest g.place some (nat_le 1 (length payload)) refl;
    }

-- a payload had no pair or no number
keeps_payload : (payloads : List (List ℕ)) (had left : Option (List (List ℕ))) (given : List (List ℕ)) (k : ℕ) (payload : List ℕ) → 0 < length payload
    → HasGiven payloads had given (Reading k) → TakesNext k had left payload → GivesFirstPayloads faults.Spent payloads left (given ++ [])
keeps_payload payloads had left given k payload some g taken =
    let b = behind g.rest left payload (subst (λ (told : Option (List (List ℕ))). TakesPayload told left payload) g.told (taken.taken some)) in
    subst (λ (ps : List (List ℕ)). GivesFirstPayloads faults.Spent payloads left ps) (sym (append-nil given)) (record {
      dropped = payload ∷ [];
      rest = b.rest;
      told = b.told;
      whole = g.whole ∙ ap (λ r. given ++ r) b.whole;
      drops = omega arith;
    })

sent_payload : (payloads : List (List ℕ)) (k : ℕ) (payload : List ℕ) (left : Option (List (List ℕ))) (from to : Run) (answer : Result Unit SendBad) → 0 < length payload
    → HasGiven payloads from.payloads from.sent (Reading k) → TakesNext k from.payloads left payload
    → Leaves (outcome answer) payloads (record (with_piece k 1 (length payload) (record from { payloads = left })) { work = to.work; sent = from.sent ++ sent_with payload answer })
sent_payload payloads k payload left from to (Ok done) some g taken = gives_payload payloads from.payloads left from.sent from.progress.moment k payload some g taken
sent_payload payloads k payload left from to (Err refusals.LinksDown) some g taken =
    drops_none faults.LinksDown payloads left (from.sent ++ payload ∷ []) _ (gives_payload payloads from.payloads left from.sent from.progress.moment k payload some g taken) refl
sent_payload payloads k payload left from to (Err refusals.Spent) some g taken = keeps_payload payloads from.payloads left from.sent k payload some g taken

-- it was not read
unread : (fault : SendFault) (payloads : List (List ℕ)) (k : ℕ) (left : Option (List (List ℕ))) (from to : Run) (result : Result Unit SendFault)
    → HasGiven payloads from.payloads from.sent (Reading k) → left ≡ from.payloads → DropsPayloads fault (length from.sent) []
    → result ≡ Err fault → to ≡ record from { payloads = left } → Leaves result payloads to
unread fault payloads k left from to result g same none answer is =
    subst (λ (r : Result Unit SendFault). Leaves r payloads to) (sym answer) (subst (λ (t : Run). GivesFirstPayloads fault payloads t.payloads t.sent) (sym is)
    (drops_none fault payloads left from.sent (Reading k) (subst (λ (l : Option (List (List ℕ))). HasGiven payloads l from.sent (Reading k)) (sym same) g) none))

brought : (setup : Setup) (payloads : List (List ℕ)) (k : ℕ) (left : Option (List (List ℕ))) (from to : Run) (reading : Result (List ℕ) PieceFault) (result : Result Unit SendFault)
    → HasGiven payloads from.payloads from.sent (Reading k) → ReadsPayload k from.payloads left reading → SendsRead setup k 1 reading result (record from { payloads = left }) to → Leaves result payloads to
brought setup payloads k left from to (Err pieces.ReadFault) result g same (answer, is) = unread faults.ReadFault payloads k left from to result g same refl answer is
brought setup payloads k left from to (Err pieces.TooLong) result g (same, far) (answer, is) =
    unread faults.TooLong payloads k left from to result g same (refl, omega (arith, far, g.place)) answer is
brought setup payloads k left from to (Ok []) result g taken (answer, is) =
    let none = taken.none refl in
    subst (λ (r : Result Unit SendFault). Leaves r payloads to) (sym answer) (subst (λ (t : Run). HasGiven payloads t.payloads t.sent t.progress.stage) (sym is) (record {
      rest = g.rest;
      told = none.1 ∙ g.told;
      whole = g.whole;
      place = subst (λ (told : Option (List (List ℕ))). IfSome told (λ ps. ps ≡ [])) g.told none.0;
    }))
brought setup payloads k left from to (Ok (x ∷ xs)) result g taken s =
    subst (λ (r : Result Unit SendFault). Leaves r payloads to) (sym s.answers)
    (subst (λ (t : Run). Leaves (outcome s.answer) payloads t) (sym s.is) (sent_payload payloads k (x ∷ xs) left from to s.answer (omega arith) g taken))

stays : (payloads : List (List ℕ)) (result : Result Unit SendFault) (from to : Run) → HasGiven payloads from.payloads from.sent from.progress.stage → Stays result from to → Leaves result payloads to
stays payloads result from to g (answer, is) =
    subst (λ (r : Result Unit SendFault). Leaves r payloads to) (sym answer) (subst (λ (t : Run). HasGiven payloads t.payloads t.sent t.progress.stage) (sym is) g)

brings_if : (setup : Setup) (payloads : List (List ℕ)) (k : ℕ) (from to : Run) (result : Result Unit SendFault) (due : Bool) → from.progress.stage ≡ Reading k
    → HasGiven payloads from.payloads from.sent from.progress.stage → IfElse due (BringsDue setup k result from to) (Stays result from to) → Leaves result payloads to
brings_if setup payloads k from to result true at g (inl b) = absurd (cc (g.told, b.untold))
brings_if setup payloads k from to result true at g (inr (inl b)) =
    brought setup payloads k b.left from to b.reading result (subst (HasGiven payloads from.payloads from.sent) at g) b.reads b.sends
brings_if setup payloads k from to result true at g (inr (inr w)) = stays payloads result from to g w.stays
brings_if setup payloads k from to result false at g b = stays payloads result from to g b

brings_next : (setup : Setup) (payloads : List (List ℕ)) (stage : Stage) (from to : Run) (result : Result Unit SendFault) → from.progress.stage ≡ stage
    → HasGiven payloads from.payloads from.sent from.progress.stage → BringsNext setup stage result from to → Leaves result payloads to
brings_next setup payloads (Reading k) from to result at g b = brings_if setup payloads k from to result (is_due setup.settings from.progress k) at g b
brings_next setup payloads (Ended moment) from to result at g b = stays payloads result from to g b

-- ---- turns

by_answer : (payloads : List (List ℕ)) (to : Run) (answer : Result Unit SendBad) → HasGiven payloads to.payloads to.sent to.progress.stage → Leaves (outcome answer) payloads to
by_answer payloads to (Ok done) g = g
by_answer payloads to (Err refusals.LinksDown) g = drops_none faults.LinksDown payloads to.payloads to.sent to.progress.stage g refl
by_answer payloads to (Err refusals.Spent) g = drops_none faults.Spent payloads to.payloads to.sent to.progress.stage g (omega arith)

kept : (payloads : List (List ℕ)) (result : Result Unit SendFault) (from to : Run) → HasGiven payloads from.payloads from.sent from.progress.stage → Keeps result from to → Leaves result payloads to
kept payloads result from to g k =
    subst (λ (r : Result Unit SendFault). Leaves r payloads to) (sym k.is) (by_answer payloads to k.answer
    (subst (λ (s : Stage). HasGiven payloads to.payloads to.sent s) (sym k.stage)
    (subst (λ (ps : List (List ℕ)). HasGiven payloads to.payloads ps from.progress.stage) (sym k.sent)
    (subst (λ (left : Option (List (List ℕ))). HasGiven payloads left from.sent from.progress.stage) (sym k.payloads) g))))

after_piece : (setup : Setup) (payloads : List (List ℕ)) (first result : Result Unit SendFault) (between to : Run) → Leaves first payloads between → GoesOn (ReadsAndTicks setup) first result between to → Leaves result payloads to
after_piece setup payloads (Ok done) result between to g r = kept payloads result between to g (rest_keeps setup result between to r)
after_piece setup payloads (Err fault) result between to g (answer, is) =
    subst (λ (r : Result Unit SendFault). Leaves r payloads to) (sym answer) (subst (λ (t : Run). GivesFirstPayloads fault payloads t.payloads t.sent) (sym is) g)

turn_leaves : (setup : Setup) (payloads : List (List ℕ)) (result : Result Unit SendFault) (from to : Run) → HasGiven payloads from.payloads from.sent from.progress.stage → Turn setup result from to → Leaves result payloads to
turn_leaves setup payloads result from to g t =
    after_piece setup payloads t.parts.first result t.parts.between to
    (brings_next setup payloads from.progress.stage (with_moment t.moment from) t.parts.between t.parts.first refl g t.parts.before) t.parts.after

turns_leave : (setup : Setup) (payloads : List (List ℕ)) (count : ℕ) (from to : Run) → HasGiven payloads from.payloads from.sent from.progress.stage → TurnsOn setup count from to
    → HasGiven payloads to.payloads to.sent to.progress.stage
turns_leave setup payloads zero from to g is = subst (λ (t : Run). HasGiven payloads t.payloads t.sent t.progress.stage) (sym is) g
turns_leave setup payloads (suc count) from to g (between, before, turn, on) = turn_leaves setup payloads (Ok tt) between to (turns_leave setup payloads count from between g before) turn

-- ---- the end

all_given : (payloads : List (List ℕ)) (left : Option (List (List ℕ))) (given : List (List ℕ)) (moment : ℕ) → HasGiven payloads left given (Ended moment) → GivesPayloads (Ok tt) payloads left given
all_given payloads left given moment g = (g.told ∙ ap Some g.place, sym (g.whole ∙ ap (λ r. given ++ r) g.place ∙ append-nil given))

over_given : (linger now : ℕ) (payloads : List (List ℕ)) (left : Option (List (List ℕ))) (given : List (List ℕ)) (stage : Stage) → is_over_at linger stage now ≡ true
    → HasGiven payloads left given stage → GivesPayloads (Ok tt) payloads left given
over_given linger now payloads left given (Reading k) over g = cc
over_given linger now payloads left given (Ended moment) over g = all_given payloads left given moment g

stopped_gives : (setup : Setup) (payloads : List (List ℕ)) (result : Result Unit SendFault) (to : Run) → Leaves result payloads to → StopsWith setup result to → GivesPayloads result payloads to.payloads to.sent
stopped_gives setup payloads (Ok done) to g over = over_given setup.settings.linger to.progress.moment payloads to.payloads to.sent to.progress.stage over g
stopped_gives setup payloads (Err fault) to g stops = g

at_last : (payloads : List (List ℕ)) (left : Option (List (List ℕ))) (given : List (List ℕ)) (stage : Stage) → HasGiven payloads left given stage
    → GivesPayloads (if has_ended stage then Ok tt else Err faults.TurnsSpent) payloads left given
at_last payloads left given (Reading k) g = drops_none faults.TurnsSpent payloads left given (Reading k) g refl
at_last payloads left given (Ended moment) g = all_given payloads left given moment g

ends_give : (setup : Setup) (payloads : List (List ℕ)) (count : ℕ) (result : Result Unit SendFault) (before to : Run) → HasGiven payloads before.payloads before.sent before.progress.stage
    → Stops setup count result before to ⊎ IsSpent setup count result before to → GivesPayloads result payloads to.payloads to.sent
ends_give setup payloads count result before to g (inl s) = stopped_gives setup payloads result to (turn_leaves setup payloads result before to g s.turn) s.stops
ends_give setup payloads count result before to g (inr s) =
    subst (λ (r : Result Unit SendFault). GivesPayloads r payloads to.payloads to.sent) (sym s.answer)
    (subst (λ (t : Run). GivesPayloads (result_at_last before) payloads t.payloads t.sent) (sym s.same) (at_last payloads before.payloads before.sent before.progress.stage g))

-- a run, and what it gave
pub sends_source : (setup : Setup) (count : ℕ) (result : Result Unit SendFault) (work : Work) (outside : Outside) (before to : Run)
    → TurnsOn setup count (new_run work outside) before → Stops setup count result before to ⊎ IsSpent setup count result before to
    → SendsSource setup result (new_run work outside) to
sends_source setup count result work outside before to turns ends = record {
  count = count;
  before = before;
  turns = turns;
  ends = ends;
  gives = λ octets told. gives_octets setup octets count result work outside before to told turns ends;
  gives_payloads = λ payloads told.
      ends_give setup payloads count result before to (turns_leave setup payloads count (new_run work outside) before (at_first payloads outside.payloads told) turns) ends;
}
