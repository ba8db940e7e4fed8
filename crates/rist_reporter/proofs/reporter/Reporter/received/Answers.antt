-- The timer is told of a number that rises, and stays else.
use Rattle.std.proofs.Common.{◌≡◌, ℕ, Bool, true, false, Option, None, Some, refl, ◌∙◌, ◌∷◌, ap, sym, subst}
use Rattle.std.specs.Prelude.{if◌then◌else◌, IsSome}
use Rattle.nack_timer.specs.Steps.{media_step}
use Rattle.nack_timer.specs.TimerAfter.{IsTimerAfter}
use Rattle.rist_reporter.specs.Links.{AreLinksAfter}
use Rattle.rist_reporter.specs.Inside.Due.{IsNoLowerNumber}
use Rattle.rist_reporter.specs.Reporter.{ReporterState, IsReporterAfter}
use Rattle.rist_reporter.proofs.MediaLemmas.{AtMedia, links_stand, width_stands, known, known_opened, timer_stands, no_lower_none, same_number}
use Rattle.rist_reporter.proofs.reporter.Reporter.received.Goals as goal

pub returns-in_default-clause-state : goal.returns-in_default-clause-state
returns-in_default-clause-state c limits before link tick arrival s got =
    let k : AtMedia c.args.self.now limits before link tick arrival c.args.at c.args.width c.args.is_kept c.args.opened c.args.after = record { reporter = s; received = got } in
    absurd (elim c.args.opened as (λ (b : Bool). c.args.opened ≡ b → ⊥) [
      | true ↦ λ o. known_opened c.args.self.now limits before link tick arrival c.args.at c.args.width c.args.is_kept c.args.opened c.args.after k o c.in_default.is
      | false ↦ λ o.
          let lost = no_lower_none c.args.before (subst (IsNoLowerNumber c.args.before) c.in_default.is (c.requires.rises o)) in
          known c.args.self.now limits before link tick arrival c.args.at c.args.width c.args.is_kept c.args.opened c.args.after k (sym c.requires.told ∙ lost) c.in_default.is
    ] refl)

pub returns-in_default-clause-told : goal.returns-in_default-clause-told
returns-in_default-clause-told c =
    ap (λ (r : ReporterState). r.timer.high) c.self.view_is ∙ sym c.requires.told
    ∙ elim c.args.opened as (λ (b : Bool). c.args.opened ≡ b → c.args.before ≡ c.args.after) [
      | true ↦ λ o. absurd (none_known c.args.after (c.requires.opens o) c.in_default.is)
      | false ↦ λ o. no_lower_none c.args.before (subst (IsNoLowerNumber c.args.before) c.in_default.is (c.requires.rises o)) ∙ sym c.in_default.is
    ] refl
  where
    none_known : (o : Option ℕ) → IsSome o → o ≡ None → ⊥
    none_known None some e = cc
    none_known (Some n) some e = cc

pub returns-then-opened-clause-state : goal.returns-then-opened-clause-state
returns-then-opened-clause-state c limits before link tick arrival s got =
    let r = c.args.self.now in
    let k : AtMedia r limits before link tick arrival c.args.at c.args.width c.args.is_kept c.args.opened c.args.after = record { reporter = s; received = got } in
    let here = subst (λ (x : ReporterState). IsReporterAfter x limits before) (sym c.self.view_is) s in
    record {
      timer = c.renew.ensures.state limits before link tick arrival here.timer (got.next c.if-opened.true) (got.high ∙ c.in-Some.is) got.time;
      links = subst (λ (x : ReporterState). AreLinksAfter x.links (media_step link tick arrival ∷ before)) (sym c.self.view_is)
          (links_stand r limits before link tick arrival c.args.at c.args.width c.args.is_kept c.args.opened c.args.after k);
      width = c.width_after-self-inside.ensures.value ∙ ap (λ (x : ReporterState). if c.args.is_kept then c.args.width else x.width) c.self.view_is
          ∙ width_stands r limits before link tick arrival c.args.at c.args.width c.args.is_kept c.args.opened c.args.after k;
    }

pub returns-then-ne-clause-state : goal.returns-then-ne-clause-state
returns-then-ne-clause-state c limits before link tick arrival s got =
    let r = c.args.self.now in
    let k : AtMedia r limits before link tick arrival c.args.at c.args.width c.args.is_kept c.args.opened c.args.after = record { reporter = s; received = got } in
    let here = subst (λ (x : ReporterState). IsReporterAfter x limits before) (sym c.self.view_is) s in
    record {
      timer = c.raised.ensures.state limits before link tick arrival here.timer (got.same c.if-opened.false) (got.high ∙ c.in-Some.is) got.time;
      links = subst (λ (x : ReporterState). AreLinksAfter x.links (media_step link tick arrival ∷ before)) (sym c.self.view_is)
          (links_stand r limits before link tick arrival c.args.at c.args.width c.args.is_kept c.args.opened c.args.after k);
      width = c.width_after-self-inside.ensures.value ∙ ap (λ (x : ReporterState). if c.args.is_kept then c.args.width else x.width) c.self.view_is
          ∙ width_stands r limits before link tick arrival c.args.at c.args.width c.args.is_kept c.args.opened c.args.after k;
    }

pub returns-else-ne-clause-state : goal.returns-else-ne-clause-state
returns-else-ne-clause-state c limits before link tick arrival s got =
    let r = c.args.self.now in
    let k : AtMedia r limits before link tick arrival c.args.at c.args.width c.args.is_kept c.args.opened c.args.after = record { reporter = s; received = got } in
    record {
      timer = subst (λ (x : ReporterState). IsTimerAfter x.timer limits (media_step link tick arrival ∷ before)) (sym c.self.view_is)
          (timer_stands r limits before link tick arrival c.args.at c.args.width c.args.is_kept c.args.opened c.args.after k c.if-opened.false c.in-Some.high (sym c.requires.told ∙ same_number c.args.before c.in-Some.high (sym c.ne.ensures ∙ c.if-ne.false)) c.in-Some.is);
      links = subst (λ (x : ReporterState). AreLinksAfter x.links (media_step link tick arrival ∷ before)) (sym c.self.view_is)
          (links_stand r limits before link tick arrival c.args.at c.args.width c.args.is_kept c.args.opened c.args.after k);
      width = c.width_after-self-inside.ensures.value ∙ ap (λ (x : ReporterState). if c.args.is_kept then c.args.width else x.width) c.self.view_is
          ∙ width_stands r limits before link tick arrival c.args.at c.args.width c.args.is_kept c.args.opened c.args.after k;
    }
