-- What the words of a made script do to its datagrams (this profile): each that is put draws one word, which loses it
-- or says in which of the next five slots it is carried.
use Rattle.std.specs.Prelude.{ℕ, ◌≡◌, ◌+◌, ◌-◌, ◌/◌, ◌%◌, List, [], ◌∷◌, ◌++◌, get_or, Bool, nat_lt, nat_le}
use Rattle.std.specs.Prelude.{if◌then◌else◌}
use Rattle.std.specs.List.{range_with_len, flat_map, filter, sum_by}
use Rattle.rand_chacha.specs.ChaCha.{ChaCha}
use Rattle.made_script.specs.declared.draws.Way.{Way}
use Rattle.made_script.specs.declared.draws.Way.TheVariants.{Forward, Backward}
use Rattle.made_script.specs.declared.draws.Due.{Due}
use Rattle.made_script.specs.declared.draws.Held.{Held}
use Rattle.made_script.specs.declared.draws.Script.{Script}
use Rattle.made_script.specs.Words.{word_of, generator_at}

-- the word at a place of a script
abbrev pub script_word : Script → ℕ → ℕ
script_word script place = word_of script.number 0 place

-- a datagram that is put in a slot, by its word: not in the list where it is lost, else due one to five slots later
abbrev pub due_by : Script → ℕ → Way → ℕ → ℕ → ℕ → List Due
due_by script slot way link place word =
    if nat_lt (word % 1000) script.loss then []
    else record { way = way; link = link; place = place; slot = slot + 1 + word / 65536 % 5 } ∷ []

-- so many datagrams of a link from a place on, which draw the words from one on
abbrev pub dues_on : Script → ℕ → ℕ → Way → ℕ → ℕ → ℕ → List Due
dues_on script slot first way link place count =
    flat_map (λ k. due_by script slot way link (place + k) (script_word script (first + k))) (range_with_len 0 count)

-- how many a link holds
abbrev pub held_on : Way → Held → ℕ → ℕ
held_on Forward held link = get_or held.forward link 0
held_on Backward held link = get_or held.backward link 0

-- how many were put on a link since
abbrev pub new_on : Way → Held → Held → ℕ → ℕ
new_on way before after link = held_on way after link - held_on way before link

-- how many were put on the first so many links
abbrev pub new_below : Way → Held → Held → ℕ → ℕ
new_below way before after links = sum_by (new_on way before after) (range_with_len 0 links)

-- all that were put one way: they draw words by link, and then by place
abbrev pub dues_of : Script → ℕ → ℕ → Way → Held → Held → ℕ → List Due
dues_of script slot first way before after links =
    flat_map (λ link. dues_on script slot (first + new_below way before after link) way link (held_on way before link)
    (new_on way before after link))
    (range_with_len 0 links)

-- how many words were drawn, how many datagrams the links held then, and what is due
pub record Drawn : Type 0 where
  pub words : ℕ
  pub held : Held
  pub dues : List Due

-- no link holds a datagram
abbrev pub none_held : Held
none_held = record { forward = 0 ∷ 0 ∷ 0 ∷ 0 ∷ []; backward = 0 ∷ 0 ∷ 0 ∷ 0 ∷ [] }

-- before the first slot
abbrev pub nothing_drawn : Drawn
nothing_drawn = record { words = 0; held = none_held; dues = [] }

-- Behind a slot, after which the links hold so many datagrams, those that were put in it draw their words: those of the
-- sender first.
abbrev pub draw : Script → ℕ → Held → Drawn → Drawn
draw script slot held drawn =
    let forward = new_below Forward drawn.held held script.links in
    record {
      words = (drawn.words + forward) + new_below Backward drawn.held held script.links;
      held = held;
      dues = (drawn.dues ++ dues_of script slot drawn.words Forward drawn.held held script.links)
          ++ dues_of script slot (drawn.words + forward) Backward drawn.held held script.links;
    }

-- a datagram is due in a slot or a later one
abbrev pub is_pending : ℕ → Due → Bool
is_pending slot due = nat_le slot due.slot

-- what is kept: the script, the slot, the generator, how many datagrams the links held, and what is due
pub record DrawsState : Type 0 where
  pub script : Script
  pub slot : ℕ
  pub words : ChaCha
  pub held : Held
  pub dues : List Due

-- it is what was drawn before its slot, without the datagrams that were due before it
pub record IsDrawn (state : DrawsState) (drawn : Drawn) : Type 0 where
  pub words : state.words ≡ generator_at state.script.number 0 drawn.words
  pub held : state.held ≡ drawn.held
  pub dues : state.dues ≡ filter (is_pending state.slot) drawn.dues

-- so many words were drawn, of which these datagrams came behind the others
pub record DrawsMore (old new : DrawsState) (count : ℕ) (more : ℕ → List Due) : Type 0 where
  pub script : new.script ≡ old.script
  pub slot : new.slot ≡ old.slot
  pub held : new.held ≡ old.held
  pub words : (first : ℕ) → old.words ≡ generator_at old.script.number 0 first
      → new.words ≡ generator_at old.script.number 0 (first + count)
  pub dues : (first : ℕ) → old.words ≡ generator_at old.script.number 0 first → new.dues ≡ old.dues ++ more first
