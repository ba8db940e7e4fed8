-- The rule of a lock's table, and what each step on it tells. The one word is 0 where any pass may take the turn, and 4
-- where one may that has slept. Where it is another number, the turn is taken, and the value, else in the slot, is out
-- with the pass that has it. Lists stand with the newest first.
use Rattle.std.specs.Prelude.{◌≡◌, ◌≢◌, ◌⊎◌, ℕ, ◌+◌, ◌-◌, ◌*◌, ◌<◌, ◌≤◌, List, [], ◌∷◌, ◌++◌, map, length, replicate}
use Rattle.std.specs.Prelude.{if◌then◌else◌, ◌==◌, Option, Some, None}
use mathlib.Core.Option.{some, none}
use mathlib.Core.Option as maybe
use lib.ListN.{get_elem?}
use Rattle.atomic_table.specs.Table.{State, Me, Step, rest}
use Rattle.turn_lock.specs.declared.rule.Stage.{Stage}
use Rattle.turn_lock.specs.declared.rule.Stage.TheVariants.{Idle, Holds}
use Rattle.turn_lock.specs.declared.rule.Turn.{Turn}
use Rattle.turn_lock.specs.declared.rule.View.{View}
use Rattle.turn_lock.specs.History.{added}

-- no pass has the turn where this is the word
abbrev pub IsFree : ℕ → Type 0
IsFree n = (n ≡ 0) ⊎ (n ≡ 4)

module _ {A : Type 0} where
  abbrev pub only_first : List A → List A
  only_first [] = []
  only_first (x ∷ xs) = x ∷ []

  abbrev pub all_but_first : List A → List A
  all_but_first [] = []
  all_but_first (x ∷ xs) = xs

module _ {E : Type 0} where
  -- what the turns added, the newest first
  abbrev pub entries : List (Turn E) → List E
  entries [] = []
  entries (t ∷ ts) = added t.entry (entries ts)

  -- what the turns of one pass added
  abbrev pub of : ℕ → List (Turn E) → List E
  of p [] = []
  of p (t ∷ ts) = if t.pass == p then added t.entry (of p ts) else of p ts

  -- the pass has turns under this number
  abbrev pub Names : ℕ → View E → Type 0
  Names k v = (v.first ≤ k) × (k < v.first + length v.owns)

  abbrev pub StageOk : List (Turn E) → View E → Stage → Type 0
  StageOk turns v Idle = Unit {0}
  StageOk turns v Holds = (v.seen ≡ turns) × (length v.owns ≡ 1)

  -- the earlier turns are those of ts, and others may have come since
  abbrev pub Begins : List (Turn E) → List (Turn E) → Type 0
  Begins turns ts = (later : List (Turn E)) × (turns ≡ later ++ ts)

  -- what one pass knows is so
  pub record Knows (count : ℕ) (turns : List (Turn E)) (v : View E) : Type 0 where
    pub stage : StageOk turns v v.stage
    pub saw : Begins turns v.seen
    pub met : (k : ℕ) (ts : List (Turn E)) → get_elem? v.met k ≡ some ts → Begins turns ts
    pub own : (k : ℕ) (l : List E) → get_elem? v.owns k ≡ some l → of (v.first + k) turns ≡ l
    pub within : v.first + length v.owns ≤ count

  -- n numbers from the first on, with no turn made
  abbrev pub opener_at : ℕ → ℕ → View E
  opener_at first n =
      record { stage = Idle; seen = []; first = first; owns = replicate n []; met = []; left = n * 288230376151711744 }

  abbrev pub opener : ℕ → View E
  opener count = opener_at 0 count

  abbrev pub fresh : ℕ → View E
  fresh k = record { stage = Idle; seen = []; first = k; owns = [] ∷ []; met = []; left = 288230376151711744 }

  -- the turn's entry is added to the history, and to the pass's own
  abbrev pub turn_of : View E → Option E → Turn E
  turn_of v e = record { pass = v.first; entry = e }

  abbrev pub after : View E → Option E → View E
  after v e =
      record {
        stage = Idle;
        seen = turn_of v e ∷ v.seen;
        first = v.first;
        owns = map (added e) v.owns;
        met = v.met;
        left = v.left;
      }

  -- the first number is cut off
  abbrev pub one_off : View E → View E
  one_off v =
      record {
        stage = Idle;
        seen = v.seen;
        first = v.first;
        owns = only_first v.owns;
        met = [];
        left = 288230376151711744;
      }

  abbrev pub others : View E → View E
  others v =
      record {
        stage = v.stage;
        seen = v.seen;
        first = v.first + 1;
        owns = all_but_first v.owns;
        met = v.met;
        left = v.left - 288230376151711744;
      }

  -- the second has the numbers right below those of the first
  abbrev pub joined : View E → View E → View E
  joined v w =
      record {
        stage = v.stage;
        seen = w.seen;
        first = w.first;
        owns = w.owns ++ v.owns;
        met = v.seen ∷ v.met;
        left = v.left + w.left;
      }

  abbrev pub ended : View E
  ended = record { stage = Idle; seen = []; first = 0; owns = []; met = []; left = 0 }

  abbrev pub One : (ℕ → View E → Type 0) → List (View E) → Type 0
  One P vs =
      (i j : ℕ) (v w : View E) (k : ℕ) → get_elem? vs i ≡ some v → get_elem? vs j ≡ some w → P k v → P k w → i ≡ j

module _ {X E : Type 0} where
  abbrev pub AtHome : (X → List E → Type 0) → List (Turn E) → List (maybe.Option (Option X)) → Type 0
  AtHome stands turns homes = (x : X) × (homes ≡ some (Some x) ∷ []) × stands x (entries turns)

  abbrev pub Away : List (View E) → List (maybe.Option (Option X)) → Type 0
  Away views homes = (homes ≡ none ∷ []) × ((k : ℕ) × (v : View E) × (get_elem? views k ≡ some v) × (v.stage ≡ Holds))

  pub record Kept (stands : X → List E → Type 0) (count : ℕ) (s : State (Option X) (View E)) : Type 0 where
    pub turns : List (Turn E)
    pub word : ℕ
    pub words : s.words ≡ word ∷ []
    pub named : (k : ℕ) (t : Turn E) → get_elem? turns k ≡ some t → t.pass < count
    pub home : (IsFree word × AtHome stands turns s.homes) ⊎ ((IsFree word → ⊥) × Away s.views s.homes)
    pub out : (j : ℕ) (v : View E) → get_elem? s.views j ≡ some v → v.stage ≡ Holds → s.homes ≡ none ∷ []
    pub each : (j : ℕ) (v : View E) → get_elem? s.views j ≡ some v → Knows count turns v
    pub one_turn : One (λ _ v. v.stage ≡ Holds) s.views
    pub one_name : One Names s.views

  -- the pass has its turn, and the value, which stands for all turns before
  pub record Took (stands : X → List E → Type 0) (m m' : Me (Option X) (View E)) : Type 0 where
    pub turns : List (Turn E)
    pub later : List (Turn E)
    pub value : X
    pub now : m' ≡ (
      record {
        stage = Holds;
        seen = turns;
        first = m.0.first;
        owns = m.0.owns;
        met = m.0.met;
        left = m.0.left - 1;
      },
      (0, Some value) ∷ m.1,
    )
    pub stood : stands value (entries turns)
    pub saw : turns ≡ later ++ m.0.seen

  -- the turn is taken where the word was the first operand, and else nothing is
  abbrev pub taken : (X → List E → Type 0) → Step (Option X) → Me (Option X) (View E) → ℕ → Me (Option X) (View E)
      → Type 0
  taken stands st m n m' = (n ≡ st.first → Took stands m m') × (n ≢ st.first → m' ≡ m)

  -- the pass is where it was
  abbrev pub stayed : Step (Option X) → Me (Option X) (View E) → ℕ → Me (Option X) (View E) → Type 0
  stayed st m n m' = m' ≡ m

  abbrev pub passed : Option E → Step (Option X) → Me (Option X) (View E) → ℕ → Me (Option X) (View E) → Type 0
  passed e st m n m' = m' ≡ (after m.0 e, rest m.1)

  -- the turn is passed on where the word was the first operand, and else it is kept
  abbrev pub passed_if : Option E → Step (Option X) → Me (Option X) (View E) → ℕ → Me (Option X) (View E) → Type 0
  passed_if e st m n m' = (n ≡ st.first → m' ≡ (after m.0 e, rest m.1)) × (n ≢ st.first → m' ≡ m)

  -- the value that the pass has out stands for the turns before, and what its own adds
  abbrev pub GivesBack : (X → List E → Type 0) → Option E → Me (Option X) (View E) → Type 0
  GivesBack stands e m = (x : X) × (m.1 ≡ (0, Some x) ∷ []) × stands x (added e (entries m.0.seen))

  -- the pass has its turn, and x stands for the turns before
  pub record HasTurn (stands : X → List E → Type 0) (v : View E) (m : Me (Option X) (View E)) (x : X) : Type 0 where
    pub turns : List (Turn E)
    pub later : List (Turn E)
    pub now : m ≡ (
      record {
        stage = Holds;
        seen = turns;
        first = v.first;
        owns = v.owns;
        met = v.met;
        left = v.left - 1;
      },
      (0, None) ∷ [],
    )
    pub stood : stands x (entries turns)
    pub saw : turns ≡ later ++ v.seen

module _ {X E : Type 0} where
  -- the value stands for a history of `count` passes, in which each number has what it owns
  pub record Closes (stands : X → List E → Type 0) (count : ℕ) (v : View E) (x : X) : Type 0 where
    pub turns : List (Turn E)
    pub stood : stands x (entries turns)
    pub named : (k : ℕ) (t : Turn E) → get_elem? turns k ≡ some t → t.pass < count
    pub own : (k : ℕ) (l : List E) → get_elem? v.owns k ≡ some l → of k turns ≡ l
    pub saw : (k : ℕ) (ts : List (Turn E)) → get_elem? (v.seen ∷ v.met) k ≡ some ts → Begins turns ts
