use Rattle.std.proofs.Common.{◌∙◌}
use Rattle.rist_words.proofs.ParseLemmas.{named_command, refused_words, taken_words}
use Rattle.rist_words.proofs.matching.matched.Goals as goal

pub returns-in-Ok-try_get_matches_from-clause-taken : goal.returns-in-Ok-try_get_matches_from-clause-taken
returns-in-Ok-try_get_matches_from-clause-taken c = taken_words _ _ c.in-Ok.ensures.app c.in-Ok-try_get_matches_from.ensures.kinds

pub returns-in-Ok-try_get_matches_from-clause-rows : goal.returns-in-Ok-try_get_matches_from-clause-rows
returns-in-Ok-try_get_matches_from-clause-rows c = named_command _ _ _ c.in-Ok.ensures.app c.in-Ok-try_get_matches_from.ensures.matches

pub returns : goal.returns
returns c = record {
  taken = tt;
  rows = tt;
  usage = λ _ taken. refused_words _ _ c.in-Err-try_get_matches_from.error c.in-Ok.ensures.app c.in-Err-try_get_matches_from.ensures.kinds (λ m. c.in_default.not-OutOfMemory (c.kind.ensures ∙ m)) taken;
}
