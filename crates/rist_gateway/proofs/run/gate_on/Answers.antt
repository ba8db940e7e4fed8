-- Links and clocks are handed on, and stand in their lists again.
use Rattle.outside_net.specs.Links.{LinkTells}
use Rattle.std.proofs.Common.{◌≡◌, ◌∙◌, ◌++◌, ◌∷◌, ◌≤◌, ℕ, ◌+◌, List, [], length, map, take, drop, Some, None, refl, ap, sym, subst, arith, rules}
use Rattle.std.proofs.lemmas.List.{append_assoc, length-append, length-map}
use Rattle.std.specs.Prelude.{vec_capacity}
use Rattle.desk_run.specs.Run.{Receives, outside}
use Rattle.desk_run.proofs.SeatLemmas.{one_less, pushed}
use Rattle.rist_gateway.specs.Onward.{OnwardState, onward_of, passed_of, shown}
use Rattle.rist_gateway.specs.Setup.{IsReceivingEnd, received_setup_of}
use Rattle.rist_gateway.specs.Run.{AreLookedAt, LooksOn}
use Rattle.rist_gateway.proofs.LendLemmas.{back_is, cut_counts, front_is}
use Rattle.rist_gateway.proofs.RunLemmas.{last_at, take_front, ok_both, on_err, together}
use Rattle.rist_gateway.proofs.run.gate_on.Given as given
use Rattle.rist_gateway.proofs.run.gate_on.Goals as goal
use Rattle.rist_gateway.proofs.run.gate_on.Goals.{After-hand_on-2}

-- what stayed of a run's links and clocks, and what was handed on
record Parted {L C : Type 0} (inputs outputs : ℕ) (links kept moved : List L) (clocks clocks_left clocks_on : List C) : Type 0 where
  clocks_many : length clocks ≡ inputs + outputs
  links_front : kept ≡ take inputs links
  links_back : moved ≡ drop inputs links
  clocks_front : clocks_left ≡ take inputs clocks
  clocks_back : clocks_on ≡ drop inputs clocks
  links_kept : length kept ≡ inputs
  links_moved : length moved ≡ outputs
  clocks_kept : length clocks_left ≡ inputs
  clocks_moved : length clocks_on ≡ outputs

parted : (g : given.Over) (c : After-hand_on-2 g)
    → Parted c.args.inputs c.args.outputs c.args.links.now.items c.hand_on.new.all.items c.hand_on.new.onward.items
    c.pop.new.self.items c.hand_on-2.new.all.items c.hand_on-2.new.onward.items
parted g c =
    let links = c.args.links.now.items in
    let clocks = c.pop.new.self.items in
    let one = one_less _ _ _ c.in-Some.ensures.items in
    let many : length clocks ≡ c.args.inputs + c.args.outputs = omega (arith, one, c.requires.clocks) in
    let l = c.hand_on.ensures.apart c.args.inputs c.requires.links in
    let k = c.hand_on-2.ensures.apart c.args.inputs many in
    let links_long = cut_counts c.args.inputs c.args.outputs links c.hand_on.new.all.items c.hand_on.new.onward.items c.requires.links l.0 l.1 in
    let clocks_long = cut_counts c.args.inputs c.args.outputs clocks c.hand_on-2.new.all.items c.hand_on-2.new.onward.items many k.0 k.1 in
    record {
      clocks_many = many;
      links_front = l.0;
      links_back = l.1;
      clocks_front = k.0;
      clocks_back = k.1;
      links_kept = links_long.0;
      links_moved = links_long.1;
      clocks_kept = clocks_long.0;
      clocks_moved = clocks_long.1;
    }

pub forward-ended-requires-clause-some : goal.forward-ended-requires-clause-some
forward-ended-requires-clause-some g c κs within =
    let p = parted g (goal.at.forward-ended-requires-clause-some g c).After-hand_on-2 in
    omega (arith, p.links_kept, c.requires.some.0)

pub forward-ended-requires-clause-few : goal.forward-ended-requires-clause-few
forward-ended-requires-clause-few g c κs within =
    let p = parted g (goal.at.forward-ended-requires-clause-few g c).After-hand_on-2 in
    omega (arith, p.links_kept, p.clocks_moved, c.requires.few)

pub forward-ended-requires-clause-clocks : goal.forward-ended-requires-clause-clocks
forward-ended-requires-clause-clocks g c κs within =
    let p = parted g (goal.at.forward-ended-requires-clause-clocks g c).After-hand_on-2 in
    p.clocks_kept ∙ sym p.links_kept

pub forward-ended-requires-clause-made : goal.forward-ended-requires-clause-made
forward-ended-requires-clause-made g c κs within =
    let p = parted g (goal.at.forward-ended-requires-clause-made g c).After-hand_on-2 in
    subst (λ (n : ℕ). IsReceivingEnd g.T.Trace.list g.T.Trace.limit n (length c.hand_on-2.new.onward.items) c.args.made.receiving) (sym p.links_kept)
    (subst (λ (n : ℕ). IsReceivingEnd g.T.Trace.list g.T.Trace.limit c.args.inputs n c.args.made.receiving) (sym p.clocks_moved) c.requires.made.receiving)

pub forward-ended-requires-clause-uncalled : goal.forward-ended-requires-clause-uncalled
forward-ended-requires-clause-uncalled g c κs within =
    let p = parted g (goal.at.forward-ended-requires-clause-uncalled g c).After-hand_on-2 in
    let shown_long = length-map c.hand_on.new.onward.items (shown (record { reads = g.L.Link.reads; taken = g.L.Link.taken; knows = g.L.Link.knows; ends = g.L.Link.ends; faults = g.L.Link.faults })) in
    record {
      sender = c.requires.made.sender;
      opener = c.requires.made.opener;
      some = omega (arith, shown_long, p.links_moved, c.requires.some.1);
      few = omega (arith, shown_long, p.links_moved, c.requires.few);
      bonded = shown_long ∙ (p.links_moved ∙ sym c.requires.made.bonded);
    }

pub give_back-requires : goal.give_back-requires
give_back-requires g c =
    let p = parted g (goal.at.give_back-requires g c).After-hand_on-2 in
    let f = c.forward-ended in
    let room : length c.args.links.now.items ≤ vec_capacity c.args.links.now = search rules in
    record { room = omega (arith, f.ensures.links, f.ensures.onward, p.links_kept, p.links_moved, f.ensures.link_room, c.hand_on.ensures.room, c.requires.links, room) }

pub give_back-requires-2 : goal.give_back-requires-2
give_back-requires-2 g c =
    let p = parted g (goal.at.give_back-requires-2 g c).After-hand_on-2 in
    let f = c.forward-ended in
    let room : length c.args.clocks.now.items ≤ vec_capacity c.args.clocks.now = search rules in
    record { room = omega (arith, f.ensures.clocks, f.ensures.beside, p.clocks_kept, p.clocks_moved, f.ensures.clock_room, c.hand_on-2.ensures.room, c.pop.ensures.capacity, c.requires.clocks, room) }

pub returns-clause-links : goal.returns-clause-links
returns-clause-links g c =
    let p = parted g (goal.at.returns-clause-links g c).After-hand_on-2 in
    let f = c.forward-ended in
    let back = ap length c.give_back.ensures.value ∙ length-append f.new.links.items f.result.links.items in
    omega (arith, back, f.ensures.onward, f.ensures.links, p.links_kept, p.links_moved, c.requires.links)

pub returns-clause-clocks : goal.returns-clause-clocks
returns-clause-clocks g c =
    let p = parted g (goal.at.returns-clause-clocks g c).After-hand_on-2 in
    let f = c.forward-ended in
    let room : length c.args.clocks.now.items ≤ vec_capacity c.args.clocks.now = search rules in
    let given_long = ap length c.give_back-2.ensures.value ∙ length-append f.new.clocks.items f.new.beside.items in
    let more = pushed c.push.result (c.give_back-2.new.all.items ++ f.result.clock ∷ []) c.give_back-2.new.all.items c.push.new.self.items
    (c.push.ensures.succeeds (omega (arith, given_long, f.ensures.clocks, f.ensures.beside, p.clocks_kept, p.clocks_moved, c.give_back-2.ensures.room, f.ensures.clock_room, c.hand_on-2.ensures.room, c.pop.ensures.capacity, c.requires.clocks, room))) c.push.ensures.items in
    let last_long = ap length more ∙ length-append c.give_back-2.new.all.items (f.result.clock ∷ []) in
    omega (arith, last_long, given_long, f.ensures.clocks, f.ensures.beside, p.clocks_kept, p.clocks_moved, c.requires.clocks)

pub returns-clause-memory : goal.returns-clause-memory
returns-clause-memory g c =
    let p = parted g (goal.at.returns-clause-memory g c).After-hand_on-2 in
    let links = c.args.links.now.items in
    let clocks = c.pop.new.self.items in
    let f = c.forward-ended in
    let room : length c.args.clocks.now.items ≤ vec_capacity c.args.clocks.now = search rules in
    let given_long = ap length c.give_back-2.ensures.value ∙ length-append f.new.clocks.items f.new.beside.items in
    let more = pushed c.push.result (c.give_back-2.new.all.items ++ f.result.clock ∷ []) c.give_back-2.new.all.items c.push.new.self.items
    (c.push.ensures.succeeds (omega (arith, given_long, f.ensures.clocks, f.ensures.beside, p.clocks_kept, p.clocks_moved, c.give_back-2.ensures.room, f.ensures.clock_room, c.hand_on-2.ensures.room, c.pop.ensures.capacity, c.requires.clocks, room))) c.push.ensures.items in
    on_err f.result.ended _ _ f.ensures.refused
    (λ same. (
      c.give_back.ensures.value ∙ together c.args.inputs links f.new.links.items f.result.links.items (same.0 ∙ p.links_front) (same.3 ∙ p.links_back),
      more ∙ (ap (λ l. l ++ f.result.clock ∷ []) (c.give_back-2.ensures.value ∙ together c.args.inputs clocks f.new.clocks.items f.new.beside.items (same.1 ∙ p.clocks_front) (same.2 ∙ p.clocks_back))
          ∙ (ap (λ k. clocks ++ k ∷ []) same.4 ∙ sym c.in-Some.ensures.items)),
    ))

pub returns-clause-work : goal.returns-clause-work
returns-clause-work g c =
    let p = parted g (goal.at.returns-clause-work g c).After-hand_on-2 in
    let links = c.args.links.now.items in
    let clocks = c.pop.new.self.items in
    let f = c.forward-ended in
    let room : length c.args.clocks.now.items ≤ vec_capacity c.args.clocks.now = search rules in
    let given_long = ap length c.give_back-2.ensures.value ∙ length-append f.new.clocks.items f.new.beside.items in
    let more = pushed c.push.result (c.give_back-2.new.all.items ++ f.result.clock ∷ []) c.give_back-2.new.all.items c.push.new.self.items
    (c.push.ensures.succeeds (omega (arith, given_long, f.ensures.clocks, f.ensures.beside, p.clocks_kept, p.clocks_moved, c.give_back-2.ensures.room, f.ensures.clock_room, c.hand_on-2.ensures.room, c.pop.ensures.capacity, c.requires.clocks, room))) c.push.ensures.items in
    let line : LinkTells g.row.L.Denot = record { reads = g.L.Link.reads; taken = g.L.Link.taken; knows = g.L.Link.knows; ends = g.L.Link.ends; faults = g.L.Link.faults } in
    let inputs = c.args.inputs in
    let links_now = c.give_back.new.all.items in
    let clocks_was = c.args.clocks.now.items in
    let clocks_now = c.push.new.self.items in
    let sides = f.new.beside.items in
    let clock = c.in-Some.clock in
    let whole = length links in
    let links_three = f.ensures.links ∙ p.links_kept in
    let clocks_three = f.ensures.clocks ∙ p.clocks_kept in
    let front_long : length clocks ≡ whole = omega (arith, p.clocks_many, c.requires.links) in
    let back_long : length (f.new.clocks.items ++ sides) ≡ whole = omega (arith, length-append f.new.clocks.items sides, f.ensures.beside, p.clocks_moved, clocks_three, c.requires.links) in
    let all_links : f.new.links.items ++ f.result.links.items ≡ links_now = sym c.give_back.ensures.value in
    let all_clocks : (f.new.clocks.items ++ sides) ++ f.result.clock ∷ [] ≡ clocks_now = ap (λ l. l ++ f.result.clock ∷ []) (sym c.give_back-2.ensures.value) ∙ sym more in
    let links_front = front_is inputs f.new.links.items f.result.links.items links_now all_links links_three in
    let links_back = back_is inputs f.new.links.items f.result.links.items links_now all_links links_three in
    let clocks_first = p.clocks_front ∙ take_front inputs clocks (clock ∷ []) clocks_was (sym c.in-Some.ensures.items) (omega (arith, front_long, c.requires.links)) in
    let clocks_front = front_is inputs f.new.clocks.items (sides ++ f.result.clock ∷ []) clocks_now (sym (append_assoc f.new.clocks.items sides (f.result.clock ∷ [])) ∙ all_clocks) clocks_three in
    let was_back = p.clocks_back ∙ ap (drop inputs) (front_is whole clocks (clock ∷ []) clocks_was (sym c.in-Some.ensures.items) front_long) in
    let now_back = back_is inputs f.new.clocks.items sides (f.new.clocks.items ++ sides) refl clocks_three ∙ ap (drop inputs) (front_is whole (f.new.clocks.items ++ sides) (f.result.clock ∷ []) clocks_now all_clocks back_long) in
    let shown_long = length-map c.hand_on.new.onward.items (shown line) in
    let first : OnwardState = onward_of line c.args.made.sender c.args.made.opener c.hand_on.new.onward.items (passed_of (g.C.Clock.moments clock) []) 0 0 None None in
    ok_both f.result.ended _ _ _ f.ensures.work f.ensures.looked
    (λ gated played looked.
    let received : List g.row.L.Denot → List g.row.L.Denot → List g.row.C.Denot → List g.row.C.Denot → Type 0 = λ a b x y.
    Receives g.C.Clock.moments line (received_setup_of g.T.Trace.limit c.args.made.receiving) c.args.limits.now (outside a x (Some []) 0) (outside b y (Some played.last.passed.sent) played.last.faults) gated.counts played.ended in
    record {
      first = first;
      last = played.last;
      ended = played.ended;
      receives = subst (λ a. received a (take inputs links_now) (take inputs clocks_was) (take inputs clocks_now)) p.links_front
          (subst (λ b. received c.hand_on.new.all.items b (take inputs clocks_was) (take inputs clocks_now)) links_front
          (subst (λ x. received c.hand_on.new.all.items f.new.links.items x (take inputs clocks_now)) clocks_first
          (subst (λ y. received c.hand_on.new.all.items f.new.links.items c.hand_on-2.new.all.items y) clocks_front played.receives)));
      clock_was = clock;
      clock_is = f.result.clock;
      clock_had = last_at whole clocks clocks_was clock c.in-Some.ensures.items front_long;
      clock_has = last_at whole (f.new.clocks.items ++ sides) clocks_now f.result.clock (sym all_clocks) back_long;
      sends = record {
        rules = refl;
        session = refl;
        sealer = refl;
        uncalled = record {
          sender = c.requires.made.sender;
          opener = c.requires.made.opener;
          some = omega (arith, shown_long, p.links_moved, c.requires.some.1);
          few = omega (arith, shown_long, p.links_moved, c.requires.few);
          bonded = shown_long ∙ (p.links_moved ∙ sym c.requires.made.bonded);
        };
        none = refl;
        links_had = ap (map (shown line)) p.links_back;
        links_have = played.links ∙ ap (map (shown line)) links_back;
        clock_had = refl;
        clock_has = played.clock_is;
        onward = played.does;
      };
      looked = subst (λ a. AreLookedAt (LooksOn first) g.C.Clock.moments c.args.limits.now a (drop inputs (take whole clocks_now))) was_back
          (subst (λ b. AreLookedAt (LooksOn first) g.C.Clock.moments c.args.limits.now c.hand_on-2.new.onward.items b) now_back looked);
      ends = played.ends;
    })
