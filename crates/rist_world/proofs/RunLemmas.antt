-- A run of moves, one after another.
use Rattle.std.proofs.Common.{◌≡◌, ◌∙◌, ◌<◌, ◌+◌, ◌^◌, ℕ, List, [], ◌∷◌, ◌++◌, length, reverse, Option, None, Some, refl, sym, ap, subst}
use Rattle.std.proofs.lemmas.List.{reverse-append, length-append}
use Rattle.psk_seal.specs.Sealer.{SealerState}
use Rattle.sha2.specs.Sha256.{sha256}
use Rattle.world_rules.specs.declared.moves.Move.{Move}
use Rattle.world_rules.specs.World.{Setup, Course, links_of, beginning, Makes, MakesAll}
use Rattle.world_rules.proofs.CourseLemmas.{plays_short}
use Rattle.rist_world.specs.World.{WorldState, IsWorldAfter, GoesOn}
use Rattle.rist_world.specs.Mover.{HasGivenNone, GivesNext, MakesScript}
use Rattle.rist_world.specs.declared.counts.Counts.{Counts}
use Rattle.rist_world.specs.Counted.{Counted}
use Rattle.rist_world.specs.Drill.{Drilled}

-- Moves of a script were made in a world, so many, and a mover has given them.
pub record Running (first now : WorldState) (script given script_now given_now : Setup → Course → List Move → Course → Type 0) (moves : List Move) (count : ℕ) : Type 0 where
  pub goes : GoesOn first now (λ setup from to. MakesAll setup (reverse moves) from to × given_now setup from (reverse moves) to)
  pub same : (setup : Setup) (from to : Course) (ms : List Move) → script_now setup from ms to → script setup from ms to
  pub size : length moves ≡ count

-- none yet
pub none_run : (first : WorldState) (script given : Setup → Course → List Move → Course → Type 0) (moves : List Move) → moves ≡ [] → HasGivenNone given → Running first first script given script given moves 0
none_run first script given moves is none = record {
  goes = λ setup from stands. record {
    to = from;
    fact = subst (λ ms. MakesAll setup (reverse ms) from from × given setup from (reverse ms) from) (sym is) (refl, none setup from);
    stands = stands;
  };
  same = λ setup from to ms it. it;
  size = ap length is;
}

-- the newest comes first
newest : (moves all : List Move) (next : Move) → all ≡ moves ++ next ∷ [] → next ∷ reverse moves ≡ reverse all
newest moves all next is = sym (ap reverse is ∙ reverse-append moves (next ∷ []))

-- one more move
pub one_more : (first between last : WorldState) (script given script_then given_then script_now given_now : Setup → Course → List Move → Course → Type 0) (moves all : List Move) (count : ℕ) (next : Move)
    → all ≡ moves ++ next ∷ [] → Running first between script given script_then given_then moves count → GivesNext script_then given_then script_now given_now between (Some next)
    → GoesOn between last (λ setup from to. Makes setup next from to) → Running first last script given script_now given_now all (count + 1)
one_more first between last script given script_then given_then script_now given_now moves all count next is run gives more = record {
  goes = λ setup from stands.
      let b = run.goes setup from stands in
      let a = more setup b.to b.stands in
      let given_more : given_now setup from (next ∷ reverse moves) a.to = gives.gives setup from b.to (reverse moves) b.fact.1 b.stands a.to a.fact in
      let makes : MakesAll setup (next ∷ reverse moves) from a.to = (b.to, b.fact.0, a.fact) in
      record {
        to = a.to;
        fact = (subst (λ ms. MakesAll setup ms from a.to) (newest moves all next is) makes, subst (λ ms. given_now setup from ms a.to) (newest moves all next is) given_more);
        stands = a.stands;
      };
  same = λ setup from to ms it. run.same setup from to ms (gives.same setup from to ms it);
  size = ap length is ∙ length-append moves (next ∷ []) ∙ ap (λ n. n + 1) run.size;
}

-- the mover has no more, and few were made
pub none_left : (first now : WorldState) (script given script_then given_then script_now given_now : Setup → Course → List Move → Course → Type 0) (moves : List Move) (count : ℕ) → Running first now script given script_then given_then moves count
    → count < 2 ^ 27 → GivesNext script_then given_then script_now given_now now None → GoesOn first now (λ setup from to. MakesScript script setup from moves to)
none_left first now script given script_then given_then script_now given_now moves count run few gives = λ setup from stands.
    let b = run.goes setup from stands in
    record {
      to = b.to;
      fact = record { makes = b.fact.0; few = subst (λ n. n < 2 ^ 27) (sym run.size) few; whole = run.same setup from b.to (reverse moves) (gives.gives setup from b.to (reverse moves) b.fact.1 b.stands) };
      stands = b.stands;
    }

-- what came of a script
pub drilled : (setup : Setup) (near far : Option SealerState) (script : Setup → Course → List Move → Course → Type 0) (links : ℕ) (first last : WorldState) (moves : List Move) (counts : Counts) (hash : List ℕ) → links ≡ links_of setup
    → IsWorldAfter setup first (beginning near far links) → GoesOn first last (λ setup from to. MakesScript script setup from moves to)
    → ((setup : Setup) (course : Course) → IsWorldAfter setup last course → Counted setup course counts) → hash ≡ sha256 last.written.octets → Drilled setup near far script moves counts hash
drilled setup near far script links first last moves counts hash count begun goes counted is =
    let g = goes setup (beginning near far links) begun in
    let run : MakesScript script setup (beginning near far (links_of setup)) moves g.to = subst (λ n. MakesScript script setup (beginning near far n) moves g.to) count g.fact in
    record {
      course = g.to;
      makes = run.makes;
      few = run.few;
      follows = run.whole;
      taken = g.stands.taken;
      counted = counted setup g.to g.stands;
      digest = is ∙ ap sha256 g.stands.written;
      exact = λ legal sealer short. plays_short setup near far (reverse moves) g.to legal sealer short run.makes;
    }
