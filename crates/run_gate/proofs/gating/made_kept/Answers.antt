-- What is made is what the line says.
use Rattle.std.proofs.Common.{◌≡◌, ◌∙◌, Some, subst}
use Rattle.std.specs.Prelude.{IfOk}
use Rattle.rist_gateway.specs.Setup.{gate_setup_of}
use Rattle.rist_words.specs.Shown.{shown_gate}
use Rattle.run_gate.proofs.GatingLemmas.{same_gate_setup, same_receiving_end}
use Rattle.run_links.proofs.KeptLemmas.{kept_some}
use Rattle.run_gate.proofs.gating.made_kept.Goals as goal

pub returns-clause-setup : goal.returns-clause-setup
returns-clause-setup g c =
    let line = shown_gate c.args.line.now in
    subst (λ x. IfOk c.make-2.result (λ made. gate_setup_of (λ kept. Some kept.limit) made ≡ x))
    (same_gate_setup line _ _ _ _ _
    (c.in-Ok.ensures.setup
    ∙ same_receiving_end _ _ _ _ _ _ _ c.settings_of.ensures.value c.session_of-session.ensures.value
    (kept_some line.serving.keep c.requires.kept))
    c.sender_settings.ensures.value c.session_of-onward.ensures.value)
    c.make-2.ensures.setup
