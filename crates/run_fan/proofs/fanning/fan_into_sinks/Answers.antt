-- The sinks come back with what was received.
use Rattle.std.proofs.Common.{◌≡◌, ◌∙◌, length, map, ap, subst, sym}
use Rattle.std.proofs.lemmas.List.{length-map}
use Rattle.std.specs.Prelude.{IsTrue}
use Rattle.outside_host.proofs.LinkOpeningLemmas.{first_still, none_first}
use Rattle.outside_host.specs.Sinks.{AreBack, AreDifferent, AreOut}
use Rattle.rist_words.specs.Shown.{shown_fan}
use Rattle.run_fan.proofs.FannedLemmas.{WasHandled, around_sinks, fanned_by, names_differ, sinks_first, still_unused_behind, unfanned_by}
use Rattle.run_fan.proofs.fanning.fan_into_sinks.Given as given
use Rattle.run_fan.proofs.fanning.fan_into_sinks.Goals as goal

handled : (g : given.Over) (c : goal.After-back_sinks g) → IsTrue g.H.Host.tells
    → WasHandled (shown_fan c.args.line.now) (g.H.Host.shelf c.args.host.now) (g.H.Host.shelf c.open_sinks.new.host) (g.H.Host.shelf c.fan_on_links-status.new.host) (g.H.Host.shelf c.back_sinks.new.host)
    c.in-Ok.sinks.items c.fan_on_links-status.new.sinks.items
handled g c t =
    let line = shown_fan c.args.line.now in
    let sinks = c.in-Ok.ensures in
    let names : map (λ n. n.now) c.deref.result.now ≡ line.names = ap (map (λ n. n.now)) c.deref.ensures.value in
    let again : map (λ n. n.now) c.deref-2.result.now ≡ line.names = ap (map (λ n. n.now)) c.deref-2.ensures.value in
    record {
      outs = subst (λ l. AreOut (g.H.Host.shelf c.args.host.now).sinks (g.H.Host.shelf c.open_sinks.new.host).sinks l c.in-Ok.sinks.items) names (sinks.ok t);
      outs_alone = sinks.same t;
      files = c.fan_on_links-status.ensures.others t;
      backs = subst (λ l. AreBack (g.H.Host.shelf c.fan_on_links-status.new.host).sinks (g.H.Host.shelf c.back_sinks.new.host).sinks l c.fan_on_links-status.new.sinks.items) again
          (c.back_sinks.ensures.state t);
      backs_alone = c.back_sinks.ensures.same t;
      many = sinks.count ∙ (sym (length-map c.deref.result.now (λ n. n.now)) ∙ ap length names);
      as_many = c.fan_on_links-status.ensures.places;
    }

pub open_sinks-requires-clause-different : goal.open_sinks-requires-clause-different
open_sinks-requires-clause-different g c κs within =
    subst AreDifferent (sym (ap (map (λ n. n.now)) c.deref.ensures.value)) (names_differ (shown_fan c.args.line.now) c.requires.range)

pub back_sinks-requires-clause-different : goal.back_sinks-requires-clause-different
back_sinks-requires-clause-different g c κs within =
    subst AreDifferent (sym (ap (map (λ n. n.now)) c.deref-2.ensures.value)) (names_differ (shown_fan c.args.line.now) c.requires.range)

pub returns-clause-fanned : goal.returns-clause-fanned
returns-clause-fanned g c unused ran =
    fanned_by _ _ _ _ _ _ _ c.requires.range (handled g c unused.told) _ _ _ c.in-Ok.ensures.fresh
    (c.fan_on_links-status.ensures.fanned (still_unused_behind _ _ _ (c.in-Ok.ensures.same unused.told) unused) ran)

pub returns-clause-unfanned : goal.returns-clause-unfanned
returns-clause-unfanned g c unused refused =
    let still = still_unused_behind _ _ _ (c.in-Ok.ensures.same unused.told) unused in
    unfanned_by _ _ _ _ _ _ _ c.requires.range (handled g c unused.told) (c.fan_on_links-status.ensures.unfanned refused) (c.fan_on_links-status.ensures.links still refused)
    (c.fan_on_links-status.ensures.clocks still refused) (c.fan_on_links-status.ensures.unreported unused.told refused)

pub returns-clause-around : goal.returns-clause-around
returns-clause-around g c unused =
    let still = still_unused_behind _ _ _ (c.in-Ok.ensures.same unused.told) unused in
    around_sinks _ _ _ _ _ _ _ c.requires.range (handled g c unused.told) (c.fan_on_links-status.ensures.kept still) (c.fan_on_links-status.ensures.times still) (c.fan_on_links-status.ensures.words still)

pub returns-clause-order : goal.returns-clause-order
returns-clause-order g c t = sinks_first _ _ _ _ _ _ _ c.requires.range (handled g c t)

pub returns-clause-links_tried : goal.returns-clause-links_tried
returns-clause-links_tried g c unused =
    first_still _ _ _ (ap (λ s. s.opened_links) (c.back_sinks.ensures.same unused.told))
    (c.fan_on_links-status.ensures.links_tried (still_unused_behind _ _ _ (c.in-Ok.ensures.same unused.told) unused))

pub returns-in-Err-clause-links_tried : goal.returns-in-Err-clause-links_tried
returns-in-Err-clause-links_tried g c unused = none_first _ _ (ap (λ s. s.opened_links) (c.in-Err.ensures.same unused.told) ∙ unused.links)
