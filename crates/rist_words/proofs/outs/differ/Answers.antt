use Rattle.std.proofs.Common.{◌∙◌, sym}
use Rattle.rist_words.proofs.OutLemmas.{different_names, second_of}
use Rattle.rist_words.proofs.outs.differ.Goals as goal

pub returns-then-are_different : goal.returns-then-are_different
returns-then-are_different c =
    c.are_different-then-are_different.ensures ∙ different_names c.args.names.now ∙ second_of _ _ (sym c.are_different.ensures ∙ c.if-are_different.true)
