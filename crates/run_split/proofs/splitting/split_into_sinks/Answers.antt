-- The source and the sinks were handed out for the split, and came back.
use Rattle.std.proofs.Common.{◌≡◌, ◌∙◌, length, map, ap, subst, sym}
use Rattle.std.proofs.lemmas.List.{length-map}
use Rattle.std.specs.Prelude.{IsTrue}
use mathlib.Core.Logic.{inl, inr}
use Rattle.outside_host.specs.Sinks.{AreBack, AreOut}
use Rattle.rist_words.specs.Shown.{shown_split}
use Rattle.run_parts.specs.Causes.{CanRefuse}
use Rattle.run_split.specs.Splits.{Unsplit}
use Rattle.run_split.proofs.SplitHostLemmas.{WasHandled, split_around, split_done, split_order, split_undone}
use Rattle.run_split.proofs.splitting.split_into_sinks.Given as given
use Rattle.run_split.proofs.splitting.split_into_sinks.Goals as goal

handled : (g : given.Over) (c : goal.After-back_sinks g) → IsTrue g.H.Host.tells
    → WasHandled (shown_split c.args.line.now) (g.H.Host.shelf c.args.host.now) (g.H.Host.shelf c.back_sinks.new.host) c.in-Ok.source c.split_over-source.result.source
    c.in-Ok-open_sinks.sinks.items c.split_over-source.result.sinks.items
handled g c t =
    let line = shown_split c.args.line.now in
    let sinks = c.in-Ok-open_sinks.ensures in
    let names : map (λ n. n.now) c.deref.result.now ≡ line.names = ap (map (λ n. n.now)) c.deref.ensures.value in
    let again : map (λ n. n.now) c.deref-2.result.now ≡ line.names = ap (map (λ n. n.now)) c.deref-2.ensures.value in
    record {
      first = g.H.Host.shelf c.source.new.self;
      opened = g.H.Host.shelf c.open_sinks.new.host;
      later = g.H.Host.shelf c.back_source-2.new.self;
      out = c.in-Ok.ensures.ok t;
      out_alone = c.in-Ok.ensures.same t;
      outs = subst (λ l. AreOut (g.H.Host.shelf c.source.new.self).sinks (g.H.Host.shelf c.open_sinks.new.host).sinks l c.in-Ok-open_sinks.sinks.items) names (sinks.ok t);
      outs_alone = sinks.same t;
      back = c.back_source-2.ensures.state t;
      back_alone = c.back_source-2.ensures.same t;
      backs = subst (λ l. AreBack (g.H.Host.shelf c.back_source-2.new.self).sinks (g.H.Host.shelf c.back_sinks.new.host).sinks l c.split_over-source.result.sinks.items) again
          (c.back_sinks.ensures.state t);
      backs_alone = c.back_sinks.ensures.same t;
      many = sinks.count ∙ (sym (length-map c.deref.result.now (λ n. n.now)) ∙ ap length names);
      as_many = c.split_over-source.ensures.places;
    }

pub returns-clause-splits : goal.returns-clause-splits
returns-clause-splits g c t ran =
    split_done _ _ _ _ _ _ _ c.requires.range (handled g c t) _ c.in-Ok-open_sinks.ensures.fresh c.split_over-source.result.status
    (c.split_over-source.ensures.work (λ e. ran (inr (inl e))))

undone : (g : given.Over) (c : goal.After-back_sinks g) → IsTrue g.H.Host.tells → CanRefuse c.split_over-source.result.status
    → Unsplit (g.H.Host.shelf c.args.host.now) (g.H.Host.shelf c.back_sinks.new.host) (shown_split c.args.line.now)
undone g c t (inl opened) = absurd (c.split_over-source.ensures.own.opened opened)
undone g c t (inr (inl memory)) =
    let same = c.split_over-source.ensures.memory memory in
    split_undone _ _ _ _ _ _ _ c.requires.range (handled g c t) same.0 (ap (λ v. v.items) same.1)
undone g c t (inr (inr random)) = absurd (c.split_over-source.ensures.own.random random)

pub returns-clause-unsplit : goal.returns-clause-unsplit
returns-clause-unsplit g c t refused = undone g c t refused

pub returns-clause-around : goal.returns-clause-around
returns-clause-around g c t = split_around _ _ _ _ _ _ _ c.requires.range (handled g c t)

pub returns-clause-order : goal.returns-clause-order
returns-clause-order g c t = split_order _ _ _ _ _ _ _ c.requires.range (handled g c t)
