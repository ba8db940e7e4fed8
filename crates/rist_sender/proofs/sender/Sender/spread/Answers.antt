use Rattle.std.proofs.Common.{◌≡◌, ◌∙◌, ℕ, ◌-◌, true, false, length, ap, subst, arith}
use Rattle.std.specs.List.{range_with_len}
use Rattle.sender_rules.specs.Bonding.{Bonding, link_count, links_from}
use Rattle.rist_sender.specs.Messages.{Original}
use Rattle.rist_sender.specs.Calls.{Spreads, is_sharing, links_tried}
use Rattle.rist_sender.specs.Sender.{SenderState}
use Rattle.rist_sender.proofs.PutLemmas.{packet_in}
use Rattle.rist_sender.proofs.SendLemmas.{plan_all, plan_one, spread_whole, spread_same}
use Rattle.rist_sender.proofs.TurnLemmas.{does_then, does_weaker}
use Rattle.rist_sender.proofs.sender.Sender.spread.Goals as goal

pub returns-in-All-clause-does : goal.returns-in-All-clause-does
returns-in-All-clause-does g c = λ from packet pair stands spells.
    let old = c.args.self.now in
    let bond : c.self.inside.bond ≡ old.bonding = ap (λ (s : SenderState). s.bonding) c.self.view_is in
    let plan = plan_all c.self.inside.bond c.args.k c.in-All.ensures.value in
    let count : length c.args.links.now - 0 ≡ link_count c.self.inside.bond = omega (arith, c.requires.links, ap link_count bond) in
    does_weaker _ _ _ _ _ from _ _ (c.spread_over.ensures.does from packet pair stands spells)
    (λ to fact. record {
      spreads = spread_same false (is_sharing old.bonding) old.time pair (Original packet) (range_with_len 0 (length c.args.links.now - 0)) (links_tried old.bonding c.args.k) from to
          (plan.0 ∙ ap is_sharing bond) (ap (range_with_len 0) count ∙ plan.1 ∙ ap (λ (b : Bonding). links_tried b c.args.k) bond)
          (spread_whole false old.time pair (Original packet) (range_with_len 0 (length c.args.links.now - 0)) c.spread_over.result from to fact.spreads);
      short = fact.short;
    })

pub returns-then-not-spread_over-clause-does : goal.returns-then-not-spread_over-clause-does
returns-then-not-spread_over-clause-does g c = λ from packet pair stands spells.
    let old = c.args.self.now in
    let link = c.in-One.link in
    let links = length c.args.links.now in
    let bond : c.self.inside.bond ≡ old.bonding = ap (λ (s : SenderState). s.bonding) c.self.view_is in
    let plan = plan_one c.self.inside.bond c.args.k link c.in-One.ensures.value in
    let count : links ≡ link_count c.self.inside.bond = omega (arith, c.requires.links, ap link_count bond) in
    let tried : links_from link links ≡ links_tried old.bonding c.args.k =
    ap (links_from link) count ∙ plan.1 ∙ ap (λ (b : Bonding). links_tried b c.args.k) bond in
    let d = c.if-not-spread_over.ensures.does from packet pair stands spells in
    let e = c.spread_over-then-not-spread_over.ensures.does d.to packet pair d.stands
    (packet_in old c.spread_over-in-One.new.self pair packet c.args.channel c.args.octets.now c.if-not-spread_over.ensures.set spells) in
    does_then _ old c.spread_over-in-One.new.self c.spread_over-then-not-spread_over.new.self c.args.links.now c.spread_over-in-One.new.links c.spread_over-then-not-spread_over.new.links from _ _ _
    c.spread_over-in-One.auto.links c.if-not-spread_over.ensures.set d e
    (λ to fact.
    let below = spread_whole true c.spread_over-in-One.new.self.time pair (Original packet) (range_with_len 0 (link - 0)) c.spread_over-then-not-spread_over.result d.to to fact.spreads in
    let timed = subst (λ (t : ℕ). Spreads true t pair (Original packet) (range_with_len 0 (link - 0)) d.to to) c.if-not-spread_over.ensures.time below in
    let none : link - 0 ≡ link = omega arith in
    let rest = subst (λ (n : ℕ). Spreads true old.time pair (Original packet) (range_with_len 0 n) d.to to) none timed in
    record {
      spreads = spread_same true (is_sharing old.bonding) old.time pair (Original packet) (links_from link links) (links_tried old.bonding c.args.k) from to
          (plan.0 ∙ ap is_sharing bond) tried (d.fact.spreads (range_with_len 0 link) to rest);
      short = fact.short ∙ d.fact.short;
    })

pub returns-else-not-spread_over-clause-does : goal.returns-else-not-spread_over-clause-does
returns-else-not-spread_over-clause-does g c = λ from packet pair stands spells.
    let old = c.args.self.now in
    let link = c.in-One.link in
    let links = length c.args.links.now in
    let bond : c.self.inside.bond ≡ old.bonding = ap (λ (s : SenderState). s.bonding) c.self.view_is in
    let plan = plan_one c.self.inside.bond c.args.k link c.in-One.ensures.value in
    let count : links ≡ link_count c.self.inside.bond = omega (arith, c.requires.links, ap link_count bond) in
    let tried : links_from link links ≡ links_tried old.bonding c.args.k =
    ap (links_from link) count ∙ plan.1 ∙ ap (λ (b : Bonding). links_tried b c.args.k) bond in
    does_weaker _ _ _ _ _ from _ _ (c.if-not-spread_over.ensures.does from packet pair stands spells)
    (λ to fact. record {
      spreads = spread_same true (is_sharing old.bonding) old.time pair (Original packet) (links_from link links) (links_tried old.bonding c.args.k) from to
          (plan.0 ∙ ap is_sharing bond) tried (fact.spreads (range_with_len 0 link));
      short = fact.short;
    })
