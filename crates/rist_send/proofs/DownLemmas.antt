-- A run that ends with all links down: a write on each of them failed.
use Rattle.std.proofs.Common.{◌≡◌, ◌∙◌, ◌⊎◌, ℕ, List, [], ◌∷◌, Bool, true, false, if◌then◌else◌, Option, None, Some, Result, Ok, Err, sym, subst}
use Rattle.std.specs.List.{range_with_len}
use mathlib.Core.Logic.{inl, inr}
use Rattle.rtcp_compound.specs.Compound.{Content}
use Rattle.block_source.specs.declared.fault.PieceFault.{PieceFault}
use Rattle.block_source.specs.declared.fault.PieceFault.TheVariants as pieces
use Rattle.sender_rules.specs.declared.send_bad.SendBad.{SendBad}
use Rattle.sender_rules.specs.declared.send_bad.SendBad.TheVariants as refusals
use Rattle.rist_sender.specs.Calls.{IfElse, AreDown, IsAnswer}
use Rattle.rist_send.specs.declared.fault.SendFault.{SendFault}
use Rattle.rist_send.specs.declared.fault.SendFault.TheVariants as faults
use Rattle.rist_send.specs.declared.progress.Stage.{Stage}
use Rattle.rist_send.specs.declared.progress.Stage.TheVariants.{Reading, Ended}
use Rattle.rist_send.specs.Run.{Setup, Run, is_due, fault_of, has_ended, outcome}
use Rattle.rist_sender.specs.Incoming.{compound_in}
use Rattle.rist_send.specs.Turns.{Stays, GoesOn, SendsRead, BringsDue, BringsNext, AnswersIf, ReadsOn, ReadsInTurn, TicksOnce, ReadsAndTicks, Turn, with_piece, is_read, with_answer, with_moment}
use Rattle.rist_send.specs.Sending.{Stops, IsSpent, SendsSource}

-- ---- a run

abbrev EndsDown : Setup → Result Unit SendFault → Run → Type 0
EndsDown setup result to = result ≡ Err faults.LinksDown → AreDown setup.links to.work.history

down_not : (setup : Setup) (result : Result Unit SendFault) (from to : Run) → Stays result from to → EndsDown setup result to
down_not setup result from to (answer, is) e = absurd (cc (sym answer ∙ e))

down_answer : {T : Type 0} (setup : Setup) (P : T → Type 0) (answer : Result T SendBad) (result : Result Unit SendFault) (to : Run) → result ≡ outcome answer → IsAnswer setup.links P answer to.work → EndsDown setup result to
down_answer setup P (Ok done) result to is a e = absurd (cc (sym is ∙ e))
down_answer setup P (Err refusals.Spent) result to is a e = absurd (cc (sym is ∙ e))
down_answer setup P (Err refusals.LinksDown) result to is a e = a.1

down_then : (setup : Setup) (P : Result Unit SendFault → Run → Run → Type 0) → ((r : Result Unit SendFault) (a b : Run) → P r a b → EndsDown setup r b)
    → (first result : Result Unit SendFault) (between to : Run) → EndsDown setup first between → GoesOn P first result between to → EndsDown setup result to
down_then setup P next (Ok done) result between to d p e = next result between to p e
down_then setup P next (Err fault) result between to d (answer, is) e =
    subst (λ (r : Run). AreDown setup.links r.work.history) (sym is) (d (sym answer ∙ e))

down_unread : (setup : Setup) (fault : PieceFault) (to : Run) → EndsDown setup (Err (fault_of fault)) to
down_unread setup pieces.ReadFault to e = absurd (cc e)
down_unread setup pieces.TooLong to e = absurd (cc e)

down_read : (setup : Setup) (k least : ℕ) (reading : Result (List ℕ) PieceFault) (result : Result Unit SendFault) (from to : Run) → SendsRead setup k least reading result from to → EndsDown setup result to
down_read setup k least (Err fault) result from to (answer, is) e = down_unread setup fault to (sym answer ∙ e)
down_read setup k least (Ok []) result from to s e = down_not setup result (with_piece k least 0 from) to s e
down_read setup k least (Ok (x ∷ xs)) result from to s e = down_answer setup (λ done. Unit {0}) s.answer result to s.answers s.sends.answer e

down_if : (setup : Setup) (k : ℕ) (due : Bool) (result : Result Unit SendFault) (from to : Run) → IfElse due (BringsDue setup k result from to) (Stays result from to) → EndsDown setup result to
down_if setup k true result from to (inl b) = down_read setup k 1316 b.reading result (record from { octets = b.left; payloads = b.payloads }) to b.sends
down_if setup k true result from to (inr (inl b)) = down_read setup k 1 b.reading result (record from { payloads = b.left }) to b.sends
down_if setup k true result from to (inr (inr w)) = down_not setup result from to w.stays
down_if setup k false result from to b = down_not setup result from to b

down_next : (setup : Setup) (stage : Stage) (result : Result Unit SendFault) (from to : Run) → BringsNext setup stage result from to → EndsDown setup result to
down_next setup (Reading k) result from to b = down_if setup k (is_due setup.settings from.progress k) result from to b
down_next setup (Ended moment) result from to b = down_not setup result from to b

down_answers : (setup : Setup) (link : ℕ) (compound : Option (List Content)) (result : Result Unit SendFault) (from to : Run) → AnswersIf setup link compound result from to → EndsDown setup result to
down_answers setup link None result from to a = down_not setup result from to a
down_answers setup link (Some compound) result from to a = down_answer setup _ a.answer result to a.answers a.feeds.answer

down_link : (setup : Setup) (link : ℕ) (read : Bool) (result : Result Unit SendFault) (from to : Run) → IfElse read (ReadsOn setup link result from to) (Stays result from to) → EndsDown setup result to
down_link setup link true result from to r = down_answers setup link (compound_in setup.session r.answer) result (with_answer link r.answer from) to r.answers
down_link setup link false result from to r = down_not setup result from to r

down_links : (setup : Setup) (links : List ℕ) (result : Result Unit SendFault) (from to : Run) → ReadsInTurn setup links result from to → EndsDown setup result to
down_links setup [] result from to r = down_not setup result from to r
down_links setup (link ∷ links) result from to f =
    down_then setup (ReadsInTurn setup links) (down_links setup links) f.first result f.between to (down_link setup link (is_read link from) f.first from f.between f.before) f.after

down_tick : (setup : Setup) (result : Result Unit SendFault) (from to : Run) → TicksOnce setup result from to → EndsDown setup result to
down_tick setup result from to t = down_answer setup (λ done. Unit {0}) t.answer result to t.answers t.ticks.answer

down_rest : (setup : Setup) (result : Result Unit SendFault) (from to : Run) → ReadsAndTicks setup result from to → EndsDown setup result to
down_rest setup result from to f =
    down_then setup (TicksOnce setup) (down_tick setup) f.first result f.between to (down_links setup (range_with_len 0 setup.links) f.first from f.between f.before) f.after

down_turn : (setup : Setup) (result : Result Unit SendFault) (from to : Run) → Turn setup result from to → EndsDown setup result to
down_turn setup result from to t =
    down_then setup (ReadsAndTicks setup) (down_rest setup) t.parts.first result t.parts.between to
    (down_next setup from.progress.stage t.parts.first (with_moment t.moment from) t.parts.between t.parts.before) t.parts.after

abbrev at_last : Bool → Result Unit SendFault
at_last ended = if ended then Ok tt else Err faults.TurnsSpent

not_at_last : (ended : Bool) → at_last ended ≡ Err faults.LinksDown → ⊥
not_at_last true e = cc
not_at_last false e = cc

down_end : (setup : Setup) (count : ℕ) (result : Result Unit SendFault) (before to : Run) → Stops setup count result before to ⊎ IsSpent setup count result before to
    → result ≡ Err faults.LinksDown → AreDown setup.links to.work.history
down_end setup count result before to (inl s) e = down_turn setup result before to s.turn e
down_end setup count result before to (inr s) e = absurd (not_at_last (has_ended before.progress.stage) (sym s.answer ∙ e))

-- where it ends so, all links are down
pub down_at_end : (setup : Setup) (result : Result Unit SendFault) (from to : Run) → SendsSource setup result from to → result ≡ Err faults.LinksDown → AreDown setup.links to.work.history
down_at_end setup result from to s e = down_end setup s.count result s.before to s.ends e
