-- What a worker's step of all places leaves of its rows and of its link, by why it ends the worker.
use Rattle.std.proofs.Common.{◌≡◌, ◌≢◌, ◌⊎◌, inl, inr, ◌<◌, ℕ, List, [], ◌∷◌, ◌++◌, length, reverse, slice_get, Bool, true, false, if◌then◌else◌, Result, Err, Option, None, Some, option_map, refl, ap, sym, ◌∙◌, subst, arith, length-append}
use Rattle.std.specs.List.{list_all, list_any}
use Rattle.std.proofs.lemmas.List.{append-nil, reverse-append, reverse-reverse}
use Rattle.link_channels.specs.declared.channel.Channel.{Channel}
use Rattle.outside_net.specs.Links.{Datagram}
use Rattle.rist_reporter.specs.Made.{OutOf}
use Rattle.rist_ends.specs.declared.outcome.Answer.{Answer}
use Rattle.rist_ends.specs.declared.outcome.Answer.TheVariants as answers
use Rattle.rist_desk.specs.declared.ended.Ended.{Ended}
use Rattle.rist_desk.specs.declared.ended.Ended.TheVariants as ends
use Rattle.rist_desk.specs.Desk.{Given, is_cut_off}
use Rattle.rist_desk.specs.Items.{told_plan}
use Rattle.rist_desk.specs.Sending.{written}
use Rattle.rist_desk.specs.Links.{SentPart, is_failure}
use Rattle.rist_desk.specs.Made.{steps_with}
use Rattle.rist_desk.specs.Work.{CutShort, Gains, Goes, OwnTold, SeesWith, holds}
use Rattle.rist_desk.proofs.ListLemmas.{reverse_more}
use Rattle.rist_desk.proofs.WorkLemmas.{made_last, made_one, none_gained, not_made, sees_nothing, sees_one}
use Rattle.turn_lock.specs.History.{added}
use Rattle.turn_lock.specs.declared.rule.Turn.{Turn}
use Rattle.turn_lock.specs.Turns.{entries}
use Rattle.turn_desk.proofs.OwnLemmas.{entries_both}
use Rattle.rist_fan.specs.declared.flow.Came.{Came}
use Rattle.rist_fan.specs.Fan.{AllAnswer, step_come}
use Rattle.rist_fan.specs.Seen.{FanStep}
use Rattle.fan_desk.specs.declared.told.FanTold.{FanTold}
use Rattle.fan_desk.specs.Rows.{is_stopped, row_added, row_unless}
use Rattle.fan_desk.specs.Made.{IsSomeKeyed, MadeRow, RowPlan, all_outs, is_wanting, row_end, several}
use Rattle.fan_desk.proofs.MadeLemmas.{all_at, all_over, goes_on, has_pairs, inside_row, keyed_somewhere, made_row, no_outs, outs_are, row_made, some_spent}
use Rattle.fan_desk.proofs.WriteLemmas.{taken_none}

-- ---- why it ends

-- the three reasons
pub data EndsAs (came : List Came) : Ended → Type 0 where
  AllStopped : list_all (λ (c : Came). is_stopped c.answer) came ≡ true → EndsAs came ends.Stopped
  AllOver : list_all (λ (c : Came). is_stopped c.answer) came ≡ false → list_all (λ (c : Came). is_cut_off c.answer) came ≡ true → EndsAs came ends.WriteFault
  SomeSpent : list_all (λ (c : Came). is_stopped c.answer) came ≡ false → list_any (λ (c : Came). is_wanting c.answer) came ≡ true → EndsAs came ends.Spent

abbrev end_of : Bool → Bool → Bool → Option Ended
end_of stopped over wanting = if stopped then Some ends.Stopped else if over then Some ends.WriteFault else if wanting then Some ends.Spent else None

pub same_error : (x y : Ended) → ◌≡◌ {A = Result Unit Ended} (Err x) (Err y) → x ≡ y
same_error x y e = cc (e)

same_end : (x y : Ended) → Some x ≡ Some y → x ≡ y
same_end x y e = cc (e)

ends_by : (came : List Came) (e : Ended) (a b c : Bool) → list_all (λ (c : Came). is_stopped c.answer) came ≡ a → list_all (λ (c : Came). is_cut_off c.answer) came ≡ b → list_any (λ (c : Came). is_wanting c.answer) came ≡ c
    → end_of a b c ≡ Some e → EndsAs came e
ends_by came e true b c ea eb ec is = subst (EndsAs came) (same_end ends.Stopped e is) (AllStopped ea)
ends_by came e false true c ea eb ec is = subst (EndsAs came) (same_end ends.WriteFault e is) (AllOver ea eb)
ends_by came e false false true ea eb ec is = subst (EndsAs came) (same_end ends.Spent e is) (SomeSpent ea ec)
ends_by came e false false false ea eb ec is = absurd (cc (is))

pub ends_as : (came : List Came) (e : Ended) → row_end came ≡ Some e → EndsAs came e
ends_as came e is = ends_by came e _ _ _ refl refl refl is

-- it doesn't
pub record EndsNot (came : List Came) : Type 0 where
  pub going : list_all (λ (c : Came). is_stopped c.answer) came ≡ false
  pub sound : list_all (λ (c : Came). is_cut_off c.answer) came ≡ false
  pub pairs : list_any (λ (c : Came). is_wanting c.answer) came ≡ false

not_by : (came : List Came) (a b c : Bool) → list_all (λ (c : Came). is_stopped c.answer) came ≡ a → list_all (λ (c : Came). is_cut_off c.answer) came ≡ b → list_any (λ (c : Came). is_wanting c.answer) came ≡ c
    → end_of a b c ≡ None → EndsNot came
not_by came true b c ea eb ec is = absurd (cc (is))
not_by came false true c ea eb ec is = absurd (cc (is))
not_by came false false true ea eb ec is = absurd (cc (is))
not_by came false false false ea eb ec is = record { going = ea; sound = eb; pairs = ec }

pub ends_not : (came : List Came) → row_end came ≡ None → EndsNot came
ends_not came is = not_by came _ _ _ refl refl refl is

-- none of these is a fault of the link, its end, or a full trace
pub no_failure : (came : List Came) (e : Ended) → EndsAs came e → is_failure e ≡ false
no_failure came ends.Stopped (AllStopped a) = refl
no_failure came ends.WriteFault (AllOver a b) = refl
no_failure came ends.Spent (SomeSpent a c) = refl
no_failure came ends.End x = elim x [ ]
no_failure came ends.Turns x = elim x [ ]
no_failure came ends.Idle x = elim x [ ]
no_failure came ends.Failed x = elim x [ ]
no_failure came ends.TraceFull x = elim x [ ]

pub no_end : (came : List Came) (e : Ended) → EndsAs came e → e ≢ ends.End
no_end came ends.Stopped (AllStopped a) = λ is. cc (is)
no_end came ends.WriteFault (AllOver a b) = λ is. cc (is)
no_end came ends.Spent (SomeSpent a c) = λ is. cc (is)
no_end came ends.End x = elim x [ ]
no_end came ends.Turns x = elim x [ ]
no_end came ends.Idle x = elim x [ ]
no_end came ends.Failed x = elim x [ ]
no_end came ends.TraceFull x = elim x [ ]

pub no_full : (came : List Came) (e : Ended) → EndsAs came e → e ≡ ends.TraceFull → ⊥
no_full came ends.Stopped (AllStopped a) is = cc (is)
no_full came ends.WriteFault (AllOver a b) is = cc (is)
no_full came ends.Spent (SomeSpent a c) is = cc (is)
no_full came ends.End x is = elim x [ ]
no_full came ends.Turns x is = elim x [ ]
no_full came ends.Idle x is = elim x [ ]
no_full came ends.Failed x is = elim x [ ]
no_full came ends.TraceFull x is = elim x [ ]

-- ---- its rows

-- what turns of several flows added, and what a pass told of it
pub rows_more : (e : Option FanStep) (old new : List FanStep) → new ≡ added e old → Some (reverse new) ≡ option_map (steps_with e) (Some (reverse old))
rows_more None old new is = ap (λ (l : List FanStep). Some (reverse l)) is
rows_more (Some row) old new is = ap (λ (l : List FanStep). Some (reverse l)) is ∙ ap Some (reverse_first row old)
  where
    reverse_first : (row : FanStep) (rows : List FanStep) → reverse (row ∷ rows) ≡ reverse rows ++ row ∷ []
    reverse_first row rows =
        ap (λ (l : List FanStep). reverse (row ∷ l)) (sym (reverse-reverse rows))
        ∙ (ap (λ (l : List FanStep). reverse l) (sym (reverse_more (reverse rows) row)) ∙ reverse-reverse (reverse rows ++ row ∷ []))

-- what a pass saw before a turn, and with it
pub rows_seen : (e : Option FanStep) (since earlier now : List (Turn FanStep)) (turn : Turn FanStep) → turn.entry ≡ e → now ≡ turn ∷ since ++ earlier
    → SeesWith (Some (reverse (entries earlier))) (Some (reverse (entries now))) (Some (reverse (entries (since ++ earlier)))) e
rows_seen e since earlier now turn entry is = (
  record {
    later = reverse (entries since);
    is = ap (λ (l : List FanStep). reverse l) (entries_both since earlier) ∙ reverse-append (entries since) (entries earlier);
  },
  rows_more e (entries (since ++ earlier)) (entries now) (ap entries is ∙ ap (λ (x : Option FanStep). added x (entries (since ++ earlier))) entry),
)

list_still : (l k : Option (List FanStep)) → k ≡ option_map (steps_with None) l → k ≡ option_map (λ x. x ++ []) l
list_still None k e = e
list_still (Some l) k e = e ∙ ap Some (sym (append-nil l))

nothing_before : (front rest : List OutOf) (x : OutOf) → [] ≡ front ++ x ∷ rest → ⊥
nothing_before front rest x e =
    let long : length (front ++ x ∷ rest) ≡ 0 = sym (ap (λ (l : List OutOf). length l) e) in
    let parts = length-append front (x ∷ rest) in
    omega (arith, long, parts)

-- ---- what it leaves

module _ (ports : List ℕ) (given : ℕ → Given) (places : ℕ) (ask : FanTold) (knows : Channel → Bool) (was came : List Came) (before : List FanStep)
    (answered : AllAnswer given before ask.place ask.told was came) (many : length came ≡ places) (had_many : length was ≡ places)
    (had has : OwnTold FanStep) (added_is : has.list ≡ option_map (steps_with (row_added ask came tt)) had.list) (saw : SeesWith had.seen has.seen (Some (reverse before)) (row_added ask came tt)) (t u : Option (List Datagram)) where
  abbrev plan_made : RowPlan
  plan_made = record { place = ask.place; planned = told_plan knows ask.told }

  entry_is : (stopped : Bool) → list_all (λ (c : Came). is_stopped c.answer) came ≡ stopped → row_added ask came tt ≡ row_unless stopped (step_come ask.place ask.told came)
  entry_is stopped is = ap (λ (b : Bool). row_unless b (step_come ask.place ask.told came)) is

  gained : (went : List Datagram) → list_all (λ (c : Came). is_stopped c.answer) came ≡ false → u ≡ option_map (λ x. x ++ went) t
      → Gains (several ports given places) (holds had t) (holds has u) (row_made ask.place ask.told came before knows went ∷ [])
  gained went going taken =
      let m : MadeRow = row_made ask.place ask.told came before knows went in
      record {
        list = added_is ∙ ap (λ (e : Option FanStep). option_map (steps_with e) had.list) (entry_is false going);
        taken = taken ∙ ap (λ (l : List Datagram). option_map (λ x. x ++ l) t) (sym (append-nil went));
        seen = sees_one (several ports given places) m had.seen has.seen (Some (reverse before)) refl (subst (λ (e : Option FanStep). SeesWith had.seen has.seen (Some (reverse before)) e) (entry_is false going) saw);
      }

  -- no place made a step
  gained_nothing : list_all (λ (c : Came). is_stopped c.answer) came ≡ true → u ≡ t → Gains (several ports given places) (holds had t) (holds has u) []
  gained_nothing all taken = record {
    list = list_still had.list has.list (added_is ∙ ap (λ (e : Option FanStep). option_map (steps_with e) had.list) (entry_is true all));
    taken = taken ∙ none_gained t;
    seen = sees_nothing (several ports given places) had.seen has.seen (Some (reverse before)) (subst (λ (e : Option FanStep). SeesWith had.seen has.seen (Some (reverse before)) e) (entry_is true all) saw);
  }

  -- all that was made was sent, and the worker ends
  pub cut_sent : (e : Ended) → EndsAs came e → u ≡ option_map (λ x. x ++ written knows (all_outs came)) t
      → CutShort (several ports given places) e (holds had t) (holds has u) (plan_made ∷ [])
  cut_sent ends.Stopped (AllStopped all) taken =
      let none : u ≡ t = taken ∙ (ap (λ (l : List OutOf). option_map (λ x. x ++ written knows l) t) (no_outs came all) ∙ sym (taken_none t t refl)) in
      not_made (several ports given places) ends.Stopped (holds had t) (holds has u) plan_made (gained_nothing all none) (λ missing some. (refl, some))
  cut_sent ends.WriteFault (AllOver going over) taken =
      let went = written knows (all_outs came) in
      made_last (several ports given places) ends.WriteFault (holds had t) (holds has u) (row_made ask.place ask.told came before knows went) (gained went going taken)
      (record { made = made_row ask.place ask.told came given places knows went before was answered many had_many; cause = all_over ask.place ask.told came over; went = ap (written knows) (sym (outs_are ask.place ask.told came before knows went)) })
  cut_sent ends.Spent (SomeSpent going wanting) taken =
      let went = written knows (all_outs came) in
      made_last (several ports given places) ends.Spent (holds had t) (holds has u) (row_made ask.place ask.told came before knows went) (gained went going taken)
      (record { made = made_row ask.place ask.told came given places knows went before was answered many had_many; cause = some_spent ask.place ask.told came wanting; went = ap (written knows) (sym (outs_are ask.place ask.told came before knows went)) })
  cut_sent ends.End x taken = elim x [ ]
  cut_sent ends.Turns x taken = elim x [ ]
  cut_sent ends.Idle x taken = elim x [ ]
  cut_sent ends.Failed x taken = elim x [ ]
  cut_sent ends.TraceFull x taken = elim x [ ]

  -- all that was made was sent, and the worker goes on
  pub goes_sent : EndsNot came → u ≡ option_map (λ x. x ++ written knows (all_outs came)) t
      → Goes (several ports given places) (holds had t) (holds has u) (plan_made ∷ [])
  goes_sent not taken =
      let went = written knows (all_outs came) in
      made_one (several ports given places) (holds had t) (holds has u) (row_made ask.place ask.told came before knows went) (gained went not.going taken)
      (record {
        made = made_row ask.place ask.told came given places knows went before was answered many had_many;
        goes = goes_on ask.place ask.told came not.sound;
        pairs = has_pairs ask.place ask.told came not.pairs;
        went = ap (written knows) (sym (outs_are ask.place ask.told came before knows went));
      })

  -- a write of what was made failed
  pub cut_half : SentPart knows (all_outs came) t u → CutShort (several ports given places) ends.Failed (holds had t) (holds has u) (plan_made ∷ [])
  cut_half part = by_all (list_all (λ (c : Came). is_stopped c.answer) came) refl
    where
      by_all : (b : Bool) → list_all (λ (c : Came). is_stopped c.answer) came ≡ b
          → CutShort (several ports given places) ends.Failed (holds had t) (holds has u) (plan_made ∷ [])
      by_all true all = absurd (nothing_before part.front part.rest part.failed (sym (no_outs came all) ∙ part.outs_are))
      by_all false going =
          let went = written knows part.front in
          made_last (several ports given places) ends.Failed (holds had t) (holds has u) (row_made ask.place ask.told came before knows went) (gained went going part.taken)
          (record {
            made = made_row ask.place ask.told came given places knows went before was answered many had_many;
            front = part.front;
            failed = part.failed;
            rest = part.rest;
            outs = outs_are ask.place ask.told came before knows went ∙ part.outs_are;
            went = refl;
          })

  -- pairs were wanting at a place with a sealer
  pub keyed : EndsAs came ends.Spent → IsSomeKeyed given
  keyed (SomeSpent going wanting) =
      let m : MadeRow = row_made ask.place ask.told came before knows [] in
      keyed_somewhere given places m (made_row ask.place ask.told came given places knows [] before was answered many had_many).each
      (λ v s seen. subst (λ (n : ℕ). v < n) many (inside_row ask.place ask.told came v s seen)) (some_spent ask.place ask.told came wanting)

-- ---- each place has ended

stopped_is_cut : (a : Answer) → is_stopped a ≡ true → is_cut_off a ≡ true
stopped_is_cut answers.Stopped e = refl
stopped_is_cut answers.WriteFault e = absurd (cc (e))
stopped_is_cut (answers.Verdict v) e = absurd (cc (e))
stopped_is_cut answers.Spent e = absurd (cc (e))
stopped_is_cut answers.Made e = absurd (cc (e))
stopped_is_cut answers.Nothing e = absurd (cc (e))

pub all_cut : (came : List Came) (e : Ended) → EndsAs came e → (e ≡ ends.Stopped) ⊎ (e ≡ ends.WriteFault) → (v : ℕ) (c : Came) → slice_get came v ≡ Some c → is_cut_off c.answer ≡ true
all_cut came ends.Stopped (AllStopped all) why v c at = stopped_is_cut c.answer (all_at (λ (x : Came). is_stopped x.answer) came v c all at)
all_cut came ends.WriteFault (AllOver going over) why v c at = all_at (λ (x : Came). is_cut_off x.answer) came v c over at
all_cut came ends.Spent (SomeSpent going wanting) (inl is) v c at = absurd (cc (is))
all_cut came ends.Spent (SomeSpent going wanting) (inr is) v c at = absurd (cc (is))
all_cut came ends.End x why v c at = elim x [ ]
all_cut came ends.Turns x why v c at = elim x [ ]
all_cut came ends.Idle x why v c at = elim x [ ]
all_cut came ends.Failed x why v c at = elim x [ ]
all_cut came ends.TraceFull x why v c at = elim x [ ]
