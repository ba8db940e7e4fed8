use Rattle.std.proofs.Common.{◌≡◌, ◌++◌, ap, ◌∙◌, length}
use Rattle.capture_file.specs.Capture.{head_spelling}
use Rattle.capture_file.specs.Heads.{head_octets}
use Rattle.capture_file.proofs.WritingLemmas.{spelled}
use Rattle.capture_file.proofs.writer.spell.Goals as goal

pub returns-clause-value : goal.returns-clause-value
returns-clause-value c =
    let head = c.args.head.now in
    let octets = c.args.octets.now in
    let front = c.copy_from_slice.new.self in
    let same : front ≡ head_octets head = c.copy_from_slice.ensures.after ∙ c.spelled_head.ensures.value in
    let rest : c.copy_from_slice-2.new.self ≡ octets = c.copy_from_slice-2.ensures.after in
    spelled front _ c.copy_from_slice-2.new.self (length octets) _ (ap length same) (ap length rest) ∙ ap (λ l. front ++ l) rest
    ∙ ap (λ l. l ++ octets) (same ∙ ap (λ n. head_spelling head.link head.channel n head.us) c.requires.length)
