use Rattle.std.proofs.Common.{◌≡◌, ◌<◌, ◌+◌, [], ◌∷◌, ◌++◌, length, map, take, ℕ, List, arith, rules, slice_index_or, slice_set, ap, ◌∙◌, sym}
use Rattle.std.proofs.lemmas.List.{take_more, take_more_set, map-append}
use Rattle.request_rules.specs.declared.word.AskWord.{AskWord}
use Rattle.rist_reporter.specs.Nacks.{halves_of}
use Rattle.rist_reporter.proofs.requests.put_halves.Goals as goal

more : (halves : List (ℕ × ℕ)) (words : List AskWord) (i : ℕ) (d : AskWord) → i < length halves → i < length words
    → take i halves ≡ map halves_of (take i words)
    → take (i + 1) (slice_set halves i (halves_of (slice_index_or words i d))) ≡ map halves_of (take (i + 1) words)
more halves words i d a b e =
    take_more_set halves i (halves_of (slice_index_or words i d)) a
    ∙ ap (λ l. l ++ halves_of (slice_index_or words i d) ∷ []) e
    ∙ sym (ap (map halves_of) (take_more words i d b) ∙ map-append halves_of (take i words) (slice_index_or words i d ∷ []))

pub loop-place-preserved : goal.loop-place-preserved
loop-place-preserved c = record {
  room = search rules;
  value = more c.loop-place.halves c.args.words.now c.loop-place.place _ (omega (arith, c.loop-place-test.true, c.requires.room, c.loop-place.invariant.room)) c.loop-place-test.true c.loop-place.invariant.value;
}
