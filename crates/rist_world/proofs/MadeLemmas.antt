-- The run of a made script.
use Rattle.std.proofs.Common.{◌≡◌, ◌∙◌, ◌≤◌, ◌+◌, ◌-◌, ◌^◌, ◌==◌, max, min, false, if◌then◌else◌, ℕ, List, [], ◌++◌, length, take, drop, is_some, Option, None, Some, IfSome, Result, Ok, Err, IfOk, inl, refl, sym, ap, subst, rules, arith}
use Rattle.std.proofs.Math.Seq.{take-append_seam, drop-append_seam}
use Rattle.std.proofs.lemmas.List.{length-append}
use Rattle.std.proofs.lemmas.List.FromFn.{length-map-range_with_len}
use Rattle.outside_io.specs.Causes.{Rose}
use Rattle.psk_seal.specs.Nonces.{AreNonces, EndsAtFault}
use Rattle.psk_seal.specs.Sealer.{SealerState}
use Rattle.made_script.specs.declared.draws.Script.{Script}
use Rattle.made_script.specs.Words.{DrawnState, word_of, words_from, words_left}
use Rattle.rist_wire.specs.declared.session.Session.{Session}
use Rattle.rist_ends.specs.declared.settings.Settings.{Settings as ReceiverSettings}
use Rattle.rist_sender.specs.declared.settings.Settings.{Settings as SenderSettings}
use Rattle.world_rules.specs.World.{IsSealerOf, IsSetup, beginning, links_of}
use Rattle.rist_world.specs.declared.running.Report.{Report}
use Rattle.rist_world.specs.World.{setup_of}
use Rattle.rist_world.specs.Script.{IsMadeScript}
use Rattle.rist_world.specs.Drill.{Drilled}
use Rattle.rist_world.specs.Made.{GivesSealer, IsSealerFrom, IsMadeRun, counts_in, nonce_words, made_session, made_sender, made_receiver, made_setup}
use Rattle.rist_world.proofs.ShortLemmas.{made_is_short}

-- the words that an option holds
abbrev told : Option (List ℕ) → List ℕ
told None = []
told (Some words) = words

-- so many are left where no call failed
left_words : (drawn : DrawnState) → drawn.faults ≡ 0 → length (words_left drawn) ≡ drawn.left
left_words drawn sound = grind (rules, sound, length-map-range_with_len (word_of drawn.number drawn.filling) drawn.at drawn.left)

-- sixteen words were taken
pub left_after : (old new : DrawnState) (words : List ℕ) → Some (words_left old) ≡ Some (words ++ words_left new) → length words ≡ 16 → old.faults ≡ 0 → new.faults ≡ 0 → new.left + 16 ≡ old.left
left_after old new words taken size was is =
    let all = ap length (ap told taken) ∙ length-append words (words_left new) in
    let before = left_words old was in
    let after = left_words new is in
    omega (arith, all, before, after, size)

-- a call that fails finds no word, so none fails where sixteen are left
pub never_fails : (old new : DrawnState) → 16 ≤ old.left → old.faults ≡ 0 → Rose old.faults new.faults → EndsAtFault (λ (d : DrawnState). Some (words_left d)) (λ (d : DrawnState). d.faults) old new → ⊥
never_fails old new enough sound rose ends =
    let some : 1 ≤ new.faults = subst (λ n. max n (min (n + 1) (2 ^ 64 - 1)) ≤ new.faults) sound rose in
    let failed : (new.faults == 0) ≡ false = search (rules, some) in
    let none : words_left new ≡ [] = ap (λ b. if b then words_from new.number new.filling new.at new.left else []) failed in
    let found : words_left ends.found ≡ [] = sym (ap told ends.none_after) ∙ none in
    let all = ap length (ap told ends.taken) ∙ length-append ends.words (words_left ends.found) in
    let before = left_words old sound in
    let empty : length (words_left ends.found) ≡ 0 = ap length found in
    omega (arith, all, before, empty, ends.few, enough)

-- the sealers of a script's session
sealed : (sealer : Option SealerState) (words : List ℕ) → IsSealerFrom words sealer → IfSome sealer (λ s. AreNonces s.nonces) → IsSealerOf made_session sealer
sealed sealer words from sound = record { paired = ap is_some from.is; nonces = sound }

-- a sealer of the first words
front : (first second : List ℕ) (sealer : Option SealerState) → GivesSealer first second sealer → IsSealerFrom (take 16 first) sealer
front first second sealer gives =
    let is : take 16 first ≡ gives.words = ap (take 16) gives.taken ∙ ap (λ n. take n (gives.words ++ second)) (sym gives.size) ∙ take-append_seam gives.words second in
    subst (λ words. IsSealerFrom words sealer) (sym is) gives.made

-- the words behind them
behind : (first second : List ℕ) (sealer : Option SealerState) → GivesSealer first second sealer → drop 16 first ≡ second
behind first second sealer gives = ap (drop 16) gives.taken ∙ ap (λ n. drop n (gives.words ++ second)) (sym gives.size) ∙ drop-append_seam gives.words second

-- the setup of a made script is one
made_is_setup : (links : ℕ) → IsSetup (made_setup links)
made_is_setup links = record {
  session = record { even = refl; low = omega arith; high = omega arith; bits = inl refl; simple = λ e. cc (e) };
  even = refl;
  small = omega arith;
  delay = omega arith;
}

pub made_run : {E : Type 0} → (script mover : Script) (session : Session) (sender : SenderSettings) (receiver : ReceiverSettings) (first second third : List ℕ) (near far : Option SealerState) (result : Result Report E) → script.count ≤ 5000 → mover ≡ script → session ≡ made_session
    → sender ≡ made_sender script.links → receiver ≡ made_receiver → first ≡ nonce_words script.number → GivesSealer first second near → GivesSealer second third far
    → IfOk result (λ report. Drilled (setup_of session sender receiver) near far (IsMadeScript mover) report.moves.items (counts_in report) report.digest) → IfOk result (λ report. IsMadeRun script report)
made_run script mover session sender receiver first second third near far (Err e) count m s n r words by_near by_far run = tt
made_run script mover session sender receiver first second third near far (Ok report) count m s n r words by_near by_far run =
    let fresh = sealed near by_near.words by_near.made by_near.sound in
    let drilled : Drilled (made_setup script.links) near far (IsMadeScript script) report.moves.items (counts_in report) report.digest =
    subst (λ x. Drilled (setup_of made_session (made_sender script.links) made_receiver) near far (IsMadeScript x) report.moves.items (counts_in report) report.digest) m
    (subst (λ x. Drilled (setup_of x (made_sender script.links) made_receiver) near far (IsMadeScript mover) report.moves.items (counts_in report) report.digest) s
    (subst (λ x. Drilled (setup_of session x made_receiver) near far (IsMadeScript mover) report.moves.items (counts_in report) report.digest) n
    (subst (λ x. Drilled (setup_of session sender x) near far (IsMadeScript mover) report.moves.items (counts_in report) report.digest) r run))) in
    record {
      near = near;
      far = far;
      sender = subst (λ ws. IsSealerFrom (take 16 ws) near) words (front first second near by_near);
      receiver = subst (λ ws. IsSealerFrom (take 16 (drop 16 ws)) far) words (subst (λ ws. IsSealerFrom (take 16 ws) far) (sym (behind first second near by_near)) (front second third far by_far));
      sealed = fresh;
      run = drilled;
      exact = drilled.exact (made_is_setup script.links) fresh
          (made_is_short script (made_setup script.links) (beginning near far (links_of (made_setup script.links))) report.moves.items drilled.course count drilled.few drilled.follows);
    }
