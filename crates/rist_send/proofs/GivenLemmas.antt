-- What a run gave its sender, part after part.
use Rattle.std.proofs.Common.{◌≡◌, ◌∙◌, ◌⊎◌, ℕ, zero, suc, ◌+◌, ◌*◌, ◌^◌, ◌<◌, ◌≤◌, nat_le, List, [], ◌∷◌, ◌++◌, length, Bool, true, false, if◌then◌else◌, Option, None, Some, Result, Ok, Err, refl, sym, ap, subst, arith, append-nil, append_assoc, length-append}
use Rattle.std.specs.List.{range_with_len}
use Rattle.std.proofs.lemmas.Bool.Decides.{nat_tests}
use Rattle.std.proofs.lemmas.Grind.{flat_map-append}
use mathlib.Core.Logic.{inl, inr}
use Rattle.outside_io.specs.Told.{Takes, IsEmpty}
use Rattle.rtcp_compound.specs.Compound.{Content}
use Rattle.block_source.specs.Pieces.{pieces_of}
use Rattle.block_source.specs.Reading.{ReadsPiece, TakesPiece}
use Rattle.block_source.specs.declared.fault.PieceFault.{PieceFault}
use Rattle.block_source.specs.declared.fault.PieceFault.TheVariants as pieces
use Rattle.block_source.proofs.PieceLemmas.{no_piece, next_piece}
use Rattle.rist_sender.specs.Calls.{Work, IfElse}
use Rattle.sender_rules.specs.declared.send_bad.SendBad.{SendBad}
use Rattle.sender_rules.specs.declared.send_bad.SendBad.TheVariants as refusals
use Rattle.rist_send.specs.declared.fault.SendFault.{SendFault}
use Rattle.rist_send.specs.declared.fault.SendFault.TheVariants as faults
use Rattle.rist_send.specs.declared.progress.Stage.{Stage}
use Rattle.rist_send.specs.declared.progress.Stage.TheVariants.{Reading, Ended}
use Rattle.rist_send.specs.Run.{Setup, Run, is_due, is_over_at, has_ended, outcome}
use Rattle.rist_sender.specs.Incoming.{compound_in}
use Rattle.rist_send.specs.Turns.{Stays, GoesOn, SendsRead, BringsDue, BringsNext, AnswersIf, ReadsOn, ReadsInTurn, TicksOnce, ReadsAndTicks, Turn, sent_with, stage_after, with_piece, is_read, with_answer, with_moment}
use Rattle.rist_send.specs.Given.{joined, Drops, GivesFirst, GivesAll, Gives}
use Rattle.rist_send.specs.Sending.{TurnsOn, StopsWith, Stops, IsSpent, result_at_last}
use Rattle.rist_send.specs.Served.{Outside, new_run}

-- what was given and the rest, by what the source is at
abbrev IsGivenTo : Stage → List ℕ → List ℕ → Type 0
IsGivenTo (Reading k) given rest = length given ≡ 1316 * k
IsGivenTo (Ended moment) given rest = rest ≡ []

-- how far a run has come with a source that had these octets
pub record HasGiven (octets : List ℕ) (left : Option (List ℕ)) (given : List (List ℕ)) (stage : Stage) : Type 0 where
  rest : List ℕ
  told : left ≡ Some rest
  whole : octets ≡ joined given ++ rest
  first : pieces_of octets ≡ given ++ pieces_of rest
  within : length (joined given) ≤ 2 ^ 40
  place : IsGivenTo stage (joined given) rest

-- after a part of it, or where that was refused
abbrev pub Leaves : Result Unit SendFault → List ℕ → Run → Type 0
Leaves (Ok done) octets to = HasGiven octets to.octets to.sent to.progress.stage
Leaves (Err fault) octets to = GivesFirst fault octets to.octets to.sent

pub at_first : (octets : List ℕ) (left : Option (List ℕ)) → left ≡ Some octets → HasGiven octets left [] (Reading 0)
at_first octets left told = record { rest = octets; told = told; whole = refl; first = refl; within = omega arith; place = refl }

-- ---- what is taken of a source that tells

record IsBehind (had : List ℕ) (left : Option (List ℕ)) (taken : List ℕ) : Type 0 where
  rest : List ℕ
  told : left ≡ Some rest
  whole : had ≡ taken ++ rest

behind : (had : List ℕ) (left : Option (List ℕ)) (taken : List ℕ) → Takes (Some had) left taken → IsBehind had left taken
behind had None taken is = cc
behind had (Some rest) taken is = record { rest = rest; told = refl; whole = cc }

none_left : (left : Option (List ℕ)) (rest : List ℕ) → left ≡ Some rest → IsEmpty left → rest ≡ []
none_left left rest told empty = subst IsEmpty told empty

-- octets that were read and not given
drops : (fault : SendFault) (octets : List ℕ) (had left : Option (List ℕ)) (given : List (List ℕ)) (stage : Stage) (part : List ℕ)
    → HasGiven octets had given stage → Takes had left part → ((rest : List ℕ) → left ≡ Some rest → Drops fault (length (joined given)) part rest) → GivesFirst fault octets left given
drops fault octets had left given stage part g taken few =
    let b = behind g.rest left part (subst (λ (told : Option (List ℕ)). Takes told left part) g.told taken) in
    record {
      dropped = part;
      rest = b.rest;
      told = b.told;
      whole = g.whole ∙ ap (λ r. joined given ++ r) b.whole;
      first = g.first ∙ ap (λ r. given ++ pieces_of r) b.whole;
      drops = few b.rest b.told;
    }

-- nothing was
drops_none : (fault : SendFault) (octets : List ℕ) (left : Option (List ℕ)) (given : List (List ℕ)) (stage : Stage)
    → HasGiven octets left given stage → ((rest : List ℕ) → Drops fault (length (joined given)) [] rest) → GivesFirst fault octets left given
drops_none fault octets left given stage g none = record { dropped = []; rest = g.rest; told = g.told; whole = g.whole; first = g.first; drops = none g.rest }

-- ---- the next piece

joined_more : (given : List (List ℕ)) (piece : List ℕ) → joined (given ++ piece ∷ []) ≡ joined given ++ piece
joined_more given piece = flat_map-append (λ (p : List ℕ). p) given (piece ∷ []) ∙ ap (λ l. joined given ++ l) (append-nil piece)

placed : (moment k : ℕ) (given : List (List ℕ)) (piece rest : List ℕ) → length (joined given) ≡ 1316 * k → length piece ≤ 1316 → (length piece < 1316 → rest ≡ [])
    → (whole : Bool) → nat_le 1316 (length piece) ≡ whole → IsGivenTo (if whole then Reading (k + 1) else Ended moment) (joined (given ++ piece ∷ [])) rest
placed moment k given piece rest size few last true is =
    let long : 1316 ≤ length piece = grind (arith, nat_tests) in
    omega (arith, size, few, long, ap length (joined_more given piece), length-append (joined given) piece)
placed moment k given piece rest size few last false is = last (grind (arith, nat_tests))

-- a piece was read and given
gives_piece : (octets : List ℕ) (had left : Option (List ℕ)) (given : List (List ℕ)) (moment k : ℕ) (piece : List ℕ) → 0 < length piece
    → HasGiven octets had given (Reading k) → TakesPiece k had left piece → HasGiven octets left (given ++ piece ∷ []) (stage_after moment k 1316 (length piece))
gives_piece octets had left given moment k piece some g taken =
    let b = behind g.rest left piece (subst (λ (told : Option (List ℕ)). Takes told left piece) g.told taken.taken) in
    let last : length piece < 1316 → b.rest ≡ [] = λ short. none_left left b.rest b.told (taken.last short) in
    record {
      rest = b.rest;
      told = b.told;
      whole = g.whole ∙ ap (λ r. joined given ++ r) b.whole ∙ sym (append_assoc (joined given) piece b.rest) ∙ ap (λ l. l ++ b.rest) (sym (joined_more given piece));
      first = g.first ∙ ap (λ r. given ++ pieces_of r) b.whole ∙ ap (λ ps. given ++ ps) (next_piece piece b.rest some taken.few last) ∙ sym (append_assoc given (piece ∷ []) (pieces_of b.rest));
      within = omega (arith, taken.within, g.place, ap length (joined_more given piece), length-append (joined given) piece);
      place = placed moment k given piece b.rest g.place taken.few last (nat_le 1316 (length piece)) refl;
    }

-- a piece had no pair or no number
keeps_piece : (octets : List ℕ) (had left : Option (List ℕ)) (given : List (List ℕ)) (k : ℕ) (piece : List ℕ) → 0 < length piece
    → HasGiven octets had given (Reading k) → TakesPiece k had left piece → GivesFirst faults.Spent octets left (given ++ [])
keeps_piece octets had left given k piece some g taken =
    subst (λ (ps : List (List ℕ)). GivesFirst faults.Spent octets left ps) (sym (append-nil given))
    (drops faults.Spent octets had left given (Reading k) piece g taken.taken
    (λ rest told. inr (next_piece piece rest some taken.few (λ short. none_left left rest told (taken.last short)))))

sent_piece : (setup : Setup) (octets : List ℕ) (k : ℕ) (piece : List ℕ) (left : Option (List ℕ)) (payloads : Option (List (List ℕ))) (from to : Run) (answer : Result Unit SendBad) → 0 < length piece
    → HasGiven octets from.octets from.sent (Reading k) → TakesPiece k from.octets left piece
    → Leaves (outcome answer) octets (record (with_piece k 1316 (length piece) (record from { octets = left; payloads = payloads })) { work = to.work; sent = from.sent ++ sent_with piece answer })
sent_piece setup octets k piece left payloads from to (Ok done) some g taken = gives_piece octets from.octets left from.sent from.progress.moment k piece some g taken
sent_piece setup octets k piece left payloads from to (Err refusals.LinksDown) some g taken =
    drops_none faults.LinksDown octets left (from.sent ++ piece ∷ []) _ (gives_piece octets from.octets left from.sent from.progress.moment k piece some g taken) (λ rest. refl)
sent_piece setup octets k piece left payloads from to (Err refusals.Spent) some g taken = keeps_piece octets from.octets left from.sent k piece some g taken

brought : (setup : Setup) (octets : List ℕ) (k : ℕ) (left : Option (List ℕ)) (payloads : Option (List (List ℕ))) (from to : Run) (reading : Result (List ℕ) PieceFault) (result : Result Unit SendFault)
    → HasGiven octets from.octets from.sent (Reading k) → ReadsPiece k from.octets left reading → SendsRead setup k 1316 reading result (record from { octets = left; payloads = payloads }) to → Leaves result octets to
brought setup octets k left payloads from to (Err pieces.ReadFault) result g part (answer, is) =
    subst (λ (r : Result Unit SendFault). Leaves r octets to) (sym answer) (subst (λ (t : Run). GivesFirst faults.ReadFault octets t.octets t.sent) (sym is)
    (drops faults.ReadFault octets from.octets left from.sent (Reading k) part.part g part.taken (λ rest told. (part.few, omega (arith, part.fact, g.place)))))
brought setup octets k left payloads from to (Err pieces.TooLong) result g part (answer, is) =
    subst (λ (r : Result Unit SendFault). Leaves r octets to) (sym answer) (subst (λ (t : Run). GivesFirst faults.TooLong octets t.octets t.sent) (sym is)
    (drops faults.TooLong octets from.octets left from.sent (Reading k) part.part g part.taken (λ rest told. (part.few, omega (arith, part.fact, g.place)))))
brought setup octets k left payloads from to (Ok []) result g taken (answer, is) =
    let b = behind g.rest left [] (subst (λ (told : Option (List ℕ)). Takes told left []) g.told taken.taken) in
    subst (λ (r : Result Unit SendFault). Leaves r octets to) (sym answer) (subst (λ (t : Run). HasGiven octets t.octets t.sent t.progress.stage) (sym is) (record {
      rest = b.rest;
      told = b.told;
      whole = g.whole ∙ ap (λ r. joined from.sent ++ r) b.whole;
      first = g.first ∙ ap (λ r. from.sent ++ pieces_of r) b.whole;
      within = g.within;
      place = none_left left b.rest b.told (taken.last (omega arith));
    }))
brought setup octets k left payloads from to (Ok (x ∷ xs)) result g taken s =
    subst (λ (r : Result Unit SendFault). Leaves r octets to) (sym s.answers)
    (subst (λ (t : Run). Leaves (outcome s.answer) octets t) (sym s.is) (sent_piece setup octets k (x ∷ xs) left payloads from to s.answer (omega arith) g taken))

stays : (octets : List ℕ) (result : Result Unit SendFault) (from to : Run) → HasGiven octets from.octets from.sent from.progress.stage → Stays result from to → Leaves result octets to
stays octets result from to g (answer, is) =
    subst (λ (r : Result Unit SendFault). Leaves r octets to) (sym answer) (subst (λ (t : Run). HasGiven octets t.octets t.sent t.progress.stage) (sym is) g)

brings_if : (setup : Setup) (octets : List ℕ) (k : ℕ) (from to : Run) (result : Result Unit SendFault) (due : Bool) → from.progress.stage ≡ Reading k
    → HasGiven octets from.octets from.sent from.progress.stage → IfElse due (BringsDue setup k result from to) (Stays result from to) → Leaves result octets to
brings_if setup octets k from to result true at g (inl b) =
    brought setup octets k b.left b.payloads from to b.reading result (subst (HasGiven octets from.octets from.sent) at g) b.reads b.sends
brings_if setup octets k from to result true at g (inr (inl b)) = absurd (cc (g.told, b.untold))
brings_if setup octets k from to result true at g (inr (inr w)) = stays octets result from to g w.stays
brings_if setup octets k from to result false at g b = stays octets result from to g b

brings_next : (setup : Setup) (octets : List ℕ) (stage : Stage) (from to : Run) (result : Result Unit SendFault) → from.progress.stage ≡ stage
    → HasGiven octets from.octets from.sent from.progress.stage → BringsNext setup stage result from to → Leaves result octets to
brings_next setup octets (Reading k) from to result at g b = brings_if setup octets k from to result (is_due setup.settings from.progress k) at g b
brings_next setup octets (Ended moment) from to result at g b = stays octets result from to g b

-- ---- the parts that give nothing

-- a part that comes to neither source nor what was given; it may be refused by the sender
pub record Keeps (result : Result Unit SendFault) (from to : Run) : Type 0 where
  pub answer : Result Unit SendBad
  pub is : result ≡ outcome answer
  pub octets : to.octets ≡ from.octets
  pub payloads : to.payloads ≡ from.payloads
  pub sent : to.sent ≡ from.sent
  pub stage : to.progress.stage ≡ from.progress.stage

keeps_none : (result : Result Unit SendFault) (from to : Run) → Stays result from to → Keeps result from to
keeps_none result from to (answer, is) = record { answer = Ok tt; is = answer; octets = ap (λ (r : Run). r.octets) is; payloads = ap (λ (r : Run). r.payloads) is; sent = ap (λ (r : Run). r.sent) is; stage = ap (λ (r : Run). r.progress.stage) is }

keeps_then : (P : Result Unit SendFault → Run → Run → Type 0) → ((r : Result Unit SendFault) (a b : Run) → P r a b → Keeps r a b)
    → (first result : Result Unit SendFault) (from between to : Run) → Keeps first from between → GoesOn P first result between to → Keeps result from to
keeps_then P next (Ok done) result from between to k p =
    let n = next result between to p in
    record { answer = n.answer; is = n.is; octets = n.octets ∙ k.octets; payloads = n.payloads ∙ k.payloads; sent = n.sent ∙ k.sent; stage = n.stage ∙ k.stage }
keeps_then P next (Err fault) result from between to k (answer, is) = record {
  answer = k.answer;
  is = answer ∙ k.is;
  octets = ap (λ (r : Run). r.octets) is ∙ k.octets;
  payloads = ap (λ (r : Run). r.payloads) is ∙ k.payloads;
  sent = ap (λ (r : Run). r.sent) is ∙ k.sent;
  stage = ap (λ (r : Run). r.progress.stage) is ∙ k.stage;
}

-- whether it was refused
abbrev refused_by : Result ℕ SendBad → Result Unit SendBad
refused_by (Ok count) = Ok tt
refused_by (Err bad) = Err bad

refused_same : (answer : Result ℕ SendBad) → outcome answer ≡ outcome (refused_by answer)
refused_same (Ok count) = refl
refused_same (Err bad) = refl

answers_if : (setup : Setup) (link : ℕ) (compound : Option (List Content)) (result : Result Unit SendFault) (from to : Run) → AnswersIf setup link compound result from to → Keeps result from to
answers_if setup link None result from to a = keeps_none result from to a
answers_if setup link (Some compound) result from to a = record {
  answer = refused_by a.answer;
  is = a.answers ∙ refused_same a.answer;
  octets = ap (λ (r : Run). r.octets) a.is;
  payloads = ap (λ (r : Run). r.payloads) a.is;
  sent = ap (λ (r : Run). r.sent) a.is;
  stage = ap (λ (r : Run). r.progress.stage) a.is;
}

link_if : (setup : Setup) (link : ℕ) (result : Result Unit SendFault) (from to : Run) (read : Bool) → IfElse read (ReadsOn setup link result from to) (Stays result from to) → Keeps result from to
link_if setup link result from to true r =
    let k = answers_if setup link (compound_in setup.session r.answer) result (with_answer link r.answer from) to r.answers in
    record { answer = k.answer; is = k.is; octets = k.octets; payloads = k.payloads; sent = k.sent; stage = k.stage }
link_if setup link result from to false r = keeps_none result from to r

reads_keep : (setup : Setup) (links : List ℕ) (result : Result Unit SendFault) (from to : Run) → ReadsInTurn setup links result from to → Keeps result from to
reads_keep setup [] result from to r = keeps_none result from to r
reads_keep setup (link ∷ links) result from to f =
    keeps_then (ReadsInTurn setup links) (reads_keep setup links) f.first result from f.between to (link_if setup link f.first from f.between (is_read link from) f.before) f.after

tick_keeps : (setup : Setup) (result : Result Unit SendFault) (from to : Run) → TicksOnce setup result from to → Keeps result from to
tick_keeps setup result from to t = record { answer = t.answer; is = t.answers; octets = ap (λ (r : Run). r.octets) t.is; payloads = ap (λ (r : Run). r.payloads) t.is; sent = ap (λ (r : Run). r.sent) t.is; stage = ap (λ (r : Run). r.progress.stage) t.is }

pub rest_keeps : (setup : Setup) (result : Result Unit SendFault) (from to : Run) → ReadsAndTicks setup result from to → Keeps result from to
rest_keeps setup result from to f =
    keeps_then (TicksOnce setup) (tick_keeps setup) f.first result from f.between to (reads_keep setup (range_with_len 0 setup.links) f.first from f.between f.before) f.after

by_answer : (octets : List ℕ) (to : Run) (answer : Result Unit SendBad) → HasGiven octets to.octets to.sent to.progress.stage → Leaves (outcome answer) octets to
by_answer octets to (Ok done) g = g
by_answer octets to (Err refusals.LinksDown) g = drops_none faults.LinksDown octets to.octets to.sent to.progress.stage g (λ rest. refl)
by_answer octets to (Err refusals.Spent) g = drops_none faults.Spent octets to.octets to.sent to.progress.stage g (λ rest. inl refl)

kept : (octets : List ℕ) (result : Result Unit SendFault) (from to : Run) → HasGiven octets from.octets from.sent from.progress.stage → Keeps result from to → Leaves result octets to
kept octets result from to g k =
    subst (λ (r : Result Unit SendFault). Leaves r octets to) (sym k.is) (by_answer octets to k.answer
    (subst (λ (s : Stage). HasGiven octets to.octets to.sent s) (sym k.stage)
    (subst (λ (ps : List (List ℕ)). HasGiven octets to.octets ps from.progress.stage) (sym k.sent)
    (subst (λ (left : Option (List ℕ)). HasGiven octets left from.sent from.progress.stage) (sym k.octets) g))))

-- ---- turns

after_piece : (setup : Setup) (octets : List ℕ) (first result : Result Unit SendFault) (between to : Run) → Leaves first octets between → GoesOn (ReadsAndTicks setup) first result between to → Leaves result octets to
after_piece setup octets (Ok done) result between to g r = kept octets result between to g (rest_keeps setup result between to r)
after_piece setup octets (Err fault) result between to g (answer, is) =
    subst (λ (r : Result Unit SendFault). Leaves r octets to) (sym answer) (subst (λ (t : Run). GivesFirst fault octets t.octets t.sent) (sym is) g)

turn_leaves : (setup : Setup) (octets : List ℕ) (result : Result Unit SendFault) (from to : Run) → HasGiven octets from.octets from.sent from.progress.stage → Turn setup result from to → Leaves result octets to
turn_leaves setup octets result from to g t =
    after_piece setup octets t.parts.first result t.parts.between to
    (brings_next setup octets from.progress.stage (with_moment t.moment from) t.parts.between t.parts.first refl g t.parts.before) t.parts.after

turns_leave : (setup : Setup) (octets : List ℕ) (count : ℕ) (from to : Run) → HasGiven octets from.octets from.sent from.progress.stage → TurnsOn setup count from to
    → HasGiven octets to.octets to.sent to.progress.stage
turns_leave setup octets zero from to g is = subst (λ (t : Run). HasGiven octets t.octets t.sent t.progress.stage) (sym is) g
turns_leave setup octets (suc count) from to g (between, before, turn, on) = turn_leaves setup octets (Ok tt) between to (turns_leave setup octets count from between g before) turn

-- ---- the end

all_given : (octets : List ℕ) (left : Option (List ℕ)) (given : List (List ℕ)) (moment : ℕ) → HasGiven octets left given (Ended moment) → GivesAll octets left given
all_given octets left given moment g =
    let end : joined given ≡ octets = sym (g.whole ∙ ap (λ r. joined given ++ r) g.place ∙ append-nil (joined given)) in
    record {
      ended = g.told ∙ ap Some g.place;
      within = omega (arith, g.within, ap length end);
      all = sym (g.first ∙ ap (λ r. given ++ pieces_of r) g.place ∙ ap (λ ps. given ++ ps) (no_piece [] refl) ∙ append-nil given);
    }

over_given : (linger now : ℕ) (octets : List ℕ) (left : Option (List ℕ)) (given : List (List ℕ)) (stage : Stage) → is_over_at linger stage now ≡ true → HasGiven octets left given stage → GivesAll octets left given
over_given linger now octets left given (Reading k) over g = cc
over_given linger now octets left given (Ended moment) over g = all_given octets left given moment g

stopped_gives : (setup : Setup) (octets : List ℕ) (result : Result Unit SendFault) (to : Run) → Leaves result octets to → StopsWith setup result to → Gives result octets to.octets to.sent
stopped_gives setup octets (Ok done) to g over = over_given setup.settings.linger to.progress.moment octets to.octets to.sent to.progress.stage over g
stopped_gives setup octets (Err fault) to g stops = g

at_last : (octets : List ℕ) (left : Option (List ℕ)) (given : List (List ℕ)) (stage : Stage) → HasGiven octets left given stage
    → Gives (if has_ended stage then Ok tt else Err faults.TurnsSpent) octets left given
at_last octets left given (Reading k) g = drops_none faults.TurnsSpent octets left given (Reading k) g (λ rest. refl)
at_last octets left given (Ended moment) g = all_given octets left given moment g

ends_give : (setup : Setup) (octets : List ℕ) (count : ℕ) (result : Result Unit SendFault) (before to : Run) → HasGiven octets before.octets before.sent before.progress.stage
    → Stops setup count result before to ⊎ IsSpent setup count result before to → Gives result octets to.octets to.sent
ends_give setup octets count result before to g (inl s) = stopped_gives setup octets result to (turn_leaves setup octets result before to g s.turn) s.stops
ends_give setup octets count result before to g (inr s) =
    subst (λ (r : Result Unit SendFault). Gives r octets to.octets to.sent) (sym s.answer)
    (subst (λ (t : Run). Gives (result_at_last before) octets t.octets t.sent) (sym s.same) (at_last octets before.octets before.sent before.progress.stage g))

-- a run, and what it gave of octets
pub gives_octets : (setup : Setup) (octets : List ℕ) (count : ℕ) (result : Result Unit SendFault) (work : Work) (outside : Outside) (before to : Run) → outside.octets ≡ Some octets
    → TurnsOn setup count (new_run work outside) before → Stops setup count result before to ⊎ IsSpent setup count result before to → Gives result octets to.octets to.sent
gives_octets setup octets count result work outside before to told turns ends =
    ends_give setup octets count result before to (turns_leave setup octets count (new_run work outside) before (at_first octets outside.octets told) turns) ends
