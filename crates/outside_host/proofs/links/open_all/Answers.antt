-- Each link that was opened is out, or comes back as it was.
use Rattle.std.proofs.Common.{rules, arith, ap, sym, ◌∙◌, ◌+◌, length, length-append, subst}
use Rattle.outside_host.specs.Links.{AreBack}
use Rattle.outside_host.proofs.LinkOpeningLemmas.{one_out, all_as_they_were, first_still, first_with_all, one_more_behind, know_both}
use Rattle.outside_host.proofs.links.open_all.Goals as goal

pub returns-in-Err-clause-err : goal.returns-in-Err-clause-err
returns-in-Err-clause-err g c =
    λ told as_many base out.
    let err = c.in-Err.ensures.err told (c.loop-spec.invariant.1 told as_many) in
    all_as_they_were _ _ _ _ _ (c.loop-spec.invariant.2 told as_many base out) err.0 err.1
    (subst (AreBack (g.H.Host.shelf c.open_next.new.host).links (g.H.Host.shelf c.back_links.new.host).links) c.in-Err.ensures.kept (c.back_links.ensures.state told))

pub returns-in-Err-clause-tried : goal.returns-in-Err-clause-tried
returns-in-Err-clause-tried g c =
    λ told as_many.
    first_still _ _ _ (ap (λ s. s.opened_links) (c.back_links.ensures.same told))
    (first_with_all _ _ _ _ _ _ _ (c.loop-spec.invariant.3 told as_many) c.loop-spec-test.true (c.in-Err.ensures.tried told (c.loop-spec.invariant.1 told as_many)))

pub loop-spec-preserved : goal.loop-spec-preserved
loop-spec-preserved g c = (
  omega (arith, c.in-Ok.ensures.more, c.loop-spec.invariant.0),
  (λ told as_many.
      let ok = c.in-Ok.ensures.ok told (c.loop-spec.invariant.1 told as_many) in
      ap length ok.1 ∙ (length-append _ _ ∙ (ap (λ n. n + 1) (c.loop-spec.invariant.1 told as_many) ∙ sym c.in-Ok.ensures.more))),
  (λ told as_many base out. one_out _ _ _ _ _ (c.loop-spec.invariant.2 told as_many base out) (c.in-Ok.ensures.ok told (c.loop-spec.invariant.1 told as_many)).0),
  (λ told as_many.
      (c.in-Ok.ensures.ok told (c.loop-spec.invariant.1 told as_many)).1
      ∙ one_more_behind _ _ _ _ _ _ (c.loop-spec.invariant.3 told as_many) c.loop-spec-test.true),
  search rules,
  search rules,
  know_both _ _ _ _ _ _ (omega (arith, c.loop-spec.invariant.0)) c.loop-spec.invariant.6 c.in-Ok.ensures.knows,
)
