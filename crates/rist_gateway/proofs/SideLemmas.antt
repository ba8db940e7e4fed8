-- A side worker after one more turn.
use Rattle.std.proofs.Common.{◌≡◌, ◌∙◌, ◌<◌, ℕ, ◌+◌, nat_le, List, [], ◌∷◌, length, get_or, Bool, Option, None, Some, refl, ap, sym, subst, arith}
use Rattle.rist_desk.specs.declared.worker.ServingLimits.{ServingLimits}
use Rattle.rist_desk.specs.declared.beside.Side.{Side}
use Rattle.rist_desk.specs.Turns.{from}
use Rattle.rist_desk.proofs.TurnLemmas.{told_next, told_first}
use Rattle.rist_gateway.specs.declared.found.Found.{Found}
use Rattle.rist_gateway.specs.declared.side_worker.SideEnded.{SideEnded}
use Rattle.rist_gateway.specs.declared.side_worker.SideWorker.{SideWorker}
use Rattle.outside_net.specs.Links.{LinkTells}
use Rattle.rist_desk.specs.Desk.{DeskState}
use Rattle.rist_desk.specs.Aside.{HandsOn}
use Rattle.turn_desk.specs.Asides.{LooksAt}
use Rattle.rist_gateway.specs.Onward.{LooksOnce, OnwardParts, OnwardState, shows}
use Rattle.rist_gateway.specs.Run.{AreLookedAt, LooksOn}
use Rattle.rist_gateway.specs.Workers.{side_workers}
use Rattle.rist_gateway.specs.Sides.{AreLooks, ServesSide, found_after, found_by, is_quiet, end_by, end_at, IsSideServed, SideTurn, IsSideGoing}

-- what the turn came to, by the moments that the clock was to give
record Same (limits : ServingLimits) (told : ℕ → ℕ) (last : Bool) (before : List Side) (side : Side) (now : Option Found) (at : ℕ) : Type 0 where
  moment : told (length before) ≡ at
  found : now ≡ found_by told (side ∷ before)
  ends : end_by side last (is_quiet limits.idle now at) ≡ end_at limits told side before

same_turn : (looks : ℕ → ℕ → Side → Type 0) (link : ℕ) (limits : ServingLimits) (told : ℕ → ℕ) (made : ℕ) (last : Bool) (m n : Option (ℕ → ℕ)) (found now : Option Found) (result : Option SideEnded) → last ≡ nat_le limits.turns (made + 1)
    → (g : IsSideGoing looks link limits told made m found) → (t : SideTurn looks link m n limits.idle last found now result) → Same limits told last g.sides t.side now t.moment
same_turn looks link limits told made last m n found now result last_is g t =
    let moment : told (length g.sides) ≡ t.moment = ap told g.count ∙ told_first made told m t.moment g.took t.first in
    let found_is : now ≡ found_by told (t.side ∷ g.sides) = t.found_is ∙ (ap (λ f. found_after f t.moment t.side) g.found_is ∙ ap (λ k. found_after (found_by told g.sides) k t.side) (sym moment)) in
    record {
      moment = moment;
      found = found_is;
      ends = ap (λ b. end_by t.side b (is_quiet limits.idle now t.moment)) (last_is ∙ ap (λ k. nat_le limits.turns (k + 1)) (sym g.count))
          ∙ (ap (λ f. end_by t.side (nat_le limits.turns (length g.sides + 1)) (is_quiet limits.idle f t.moment)) found_is
          ∙ ap (λ k. end_by t.side (nat_le limits.turns (length g.sides + 1)) (is_quiet limits.idle (found_by told (t.side ∷ g.sides)) k)) (sym moment));
    }

pub side_first : (looks : ℕ → ℕ → Side → Type 0) (link : ℕ) (limits : ServingLimits) (told : ℕ → ℕ) (m : Option (ℕ → ℕ)) → m ≡ Some (from 0 told) → IsSideGoing looks link limits told 0 m None
side_first looks link limits told m took = record { sides = []; count = refl; looked = tt; going = tt; took = took; found_is = refl }

pub side_on : (looks : ℕ → ℕ → Side → Type 0) (link at : ℕ) (limits : ServingLimits) (told : ℕ → ℕ) (made : ℕ) (last : Bool) (m n : Option (ℕ → ℕ)) (found now : Option Found) (result : Option SideEnded) → last ≡ nat_le limits.turns (made + 1)
    → IsSideGoing looks link limits told made m found → at ≡ link → SideTurn looks at m n limits.idle last found now result → result ≡ None → IsSideGoing looks link limits told (made + 1) n now
side_on looks link at limits told made last m n found now result last_is g here turn none =
    let t = subst (λ k. SideTurn looks k m n limits.idle last found now result) here turn in
    let s = same_turn looks link limits told made last m n found now result last_is g t in
    record {
      sides = t.side ∷ g.sides;
      count = omega (arith, g.count);
      looked = (g.looked, subst (λ k. looks k link t.side) (sym s.moment) t.looked);
      going = (g.going, sym s.ends ∙ (sym t.result_is ∙ none));
      took = told_next made told m n g.took t.moments;
      found_is = s.found;
    }

pub side_over : (looks : ℕ → ℕ → Side → Type 0) (link at : ℕ) (limits : ServingLimits) (told : ℕ → ℕ) (made : ℕ) (last : Bool) (m n : Option (ℕ → ℕ)) (found now : Option Found) (result : Option SideEnded) (end : SideEnded) → last ≡ nat_le limits.turns (made + 1) → made < limits.turns
    → IsSideGoing looks link limits told made m found → at ≡ link → SideTurn looks at m n limits.idle last found now result → result ≡ Some end → IsSideServed looks link limits told end n
side_over looks link at limits told made last m n found now result end last_is within g here turn is =
    let t = subst (λ k. SideTurn looks k m n limits.idle last found now result) here turn in
    let s = same_turn looks link limits told made last m n found now result last_is g t in
    record {
      before = g.sides;
      last = t.side;
      looked = (g.looked, subst (λ k. looks k link t.side) (sym s.moment) t.looked);
      within = omega (arith, g.count, within);
      going = g.going;
      ends = sym s.ends ∙ (sym t.result_is ∙ is);
      took = subst (λ k. n ≡ Some (from (k + 1) told)) (sym g.count) (told_next made told m n g.took t.moments);
    }

-- ---- what a look comes to, said in other words

looks_as : (looks others : ℕ → ℕ → Side → Type 0) → ((us link : ℕ) (side : Side) → looks us link side → others us link side)
    → (link : ℕ) (moments : ℕ → ℕ) (sides : List Side) → AreLooks looks link moments sides → AreLooks others link moments sides
looks_as looks others same link moments [] all = tt
looks_as looks others same link moments (side ∷ before) all = (looks_as looks others same link moments before all.0, same (moments (length before)) link side all.1)

served_as : (looks others : ℕ → ℕ → Side → Type 0) → ((us link : ℕ) (side : Side) → looks us link side → others us link side)
    → (link : ℕ) (limits : ServingLimits) (moments : ℕ → ℕ) (end : SideEnded) (left : Option (ℕ → ℕ)) → IsSideServed looks link limits moments end left → IsSideServed others link limits moments end left
served_as looks others same link limits moments end left s = record {
  before = s.before;
  last = s.last;
  looked = looks_as looks others same link moments (s.last ∷ s.before) s.looked;
  within = s.within;
  going = s.going;
  ends = s.ends;
  took = s.took;
}

pub looked_as : {C : Type 0} (looks others : ℕ → ℕ → Side → Type 0) → ((us link : ℕ) (side : Side) → looks us link side → others us link side)
    → (moments : C → Option (ℕ → ℕ)) (limits : ServingLimits) (were are : List C) → AreLookedAt looks moments limits were are → AreLookedAt others moments limits were are
looked_as {C} looks others same moments limits were are l = record {
  are = l.are;
  clocks_have = l.clocks_have;
  looked = record {
    count = l.looked.count;
    looked = λ place d less. side_as (get_or (side_workers 0 were) place d) (get_or l.are place d) (l.looked.looked place d less);
  };
}
  where
    side_as : (old new : SideWorker C (Unit {0})) → ServesSide looks moments limits old new → ServesSide others moments limits old new
    side_as old new s = record {
      end = s.end;
      ended = s.ended;
      link = s.link;
      served = λ told is. served_as looks others same old.link limits told s.end (moments new.clock) (s.served told is);
    }

-- what an aside of a sending end came to is a look of one that was made so
pub look_on : {L C : Type 0} (line : LinkTells L) (moments : C → Option (ℕ → ℕ)) (first : OnwardState) (us link : ℕ) (side : Side)
    → LooksAt {K = OnwardParts L C} (λ (o : OnwardParts L C). Some o.handed) (λ (o : OnwardParts L C). o.faults)
    (λ (old new : OnwardParts L C) (u l : ℕ) (s : Side). LooksOnce first (shows line moments old) (shows line moments new) u l s) us link side → LooksOn first us link side
look_on line moments first us link side l = record { before = shows line moments l.before; after = shows line moments l.after; looked = l.looked }

-- an aside that a desk handed on is one after which its sink tells the same
pub looks_handed : {K : Type 0} (contents : K → Option (List ℕ)) (faults : K → ℕ) (looks : K → K → ℕ → ℕ → Side → Type 0) (d : DeskState) (us link : ℕ) (side : Side)
    → HandsOn contents faults looks d us link side → LooksAt contents faults looks us link side
looks_handed contents faults looks d us link side h = record {
  before = h.before;
  after = h.after;
  contents_same = h.contents_after ∙ sym h.contents_before;
  faults_same = h.faults_after ∙ sym h.faults_before;
  looked = h.looked;
}
