use Rattle.std.proofs.Common.{◌≡◌, ◌∙◌, ℕ, suc, ◌+◌, ◌-◌, ◌<◌, ◌≤◌, false, true, [], ◌∷◌, take, Ok, refl, sym, ap, subst, arith}
use Rattle.std.specs.Prelude.{Option}
use Rattle.psk_seal.specs.declared.sealer.Spent.{Spent}
use Rattle.sender_rules.specs.declared.bounds.TheConstants.{MAX_LOOKED_AT}
use Rattle.rist_sender.specs.declared.answer.Answer.{Answer}
use Rattle.rist_sender.specs.declared.answer.Answer.TheVariants.{Took}
use Rattle.rist_sender.specs.Links.{is_failed}
use Rattle.rist_sender.specs.History.{effective_time, is_down}
use Rattle.rist_sender.specs.Calls.{Rules, asked_numbers}
use Rattle.rist_sender.specs.Sender.{SenderState, rules_of}
use Rattle.rist_sender.specs.Inside.Numbers.{number_seen}
use Rattle.rist_sender.specs.Inside.Puts.{AnswersBefore, AnswersNumber}
use Rattle.rist_sender.proofs.AgainLemmas.{ends_empty, ends_full, ends_down, ends_short, goes_none, goes_some, sends_all, leaves_same, sends_same, before_more, before_left, at_most_one}
use Rattle.rist_sender.proofs.TurnLemmas.{does_none, does_then, does_weaker, stays_then}
use Rattle.rist_sender.proofs.sender.Sender.send_again.Goals as goal
use Rattle.rist_sender.proofs.sender.Sender.send_again.Goals.{then-left-eq0-via-then-left-eq0, then-left-eq0-via-else-left-eq0+then-is_down}

pub loop-asked-init : goal.loop-asked-init
loop-asked-init g c = record {
  same = refl;
  set = record { rules = refl; session = refl };
  few = omega arith;
  does = λ from stands fresh. does_none _ _ _ from _ stands (record {
    ends = record { pair = fresh; spent = λ (e : false ≡ true). cc };
    time = refl;
    stored = refl;
    counts = omega arith;
    rest = λ last w. w;
  });
}

pub returns-then-left-eq0-clause-does : goal.returns-then-left-eq0-clause-does
returns-then-left-eq0-clause-does g c = λ from stands fresh.
    let old = c.args.self.now in
    let loop = c.loop-asked in
    let size = old.store.size in
    let hold = old.hold in
    let link = c.args.link in
    let all = c.of-numbers.result in
    let all_is : all ≡ take MAX_LOOKED_AT (asked_numbers old.flow c.args.compound.now) =
    c.of-numbers.ensures.value ∙ ap (λ (s : SenderState). take MAX_LOOKED_AT (asked_numbers s.flow c.args.compound.now)) c.self.view_is in
    let d = loop.invariant.does from stands fresh in
    let few : link < 16 = omega arith in
    let t = effective_time from.history in
    record {
      to = d.to;
      fact = record {
        writes = sends_all (rules_of old) link c.args.compound.now all from d.to all_is (elim c.then-left-eq0.branch [
          | then-left-eq0-via-then-left-eq0 w ↦ ends_full size hold t link loop.count loop.left loop.numbers all from d.to (omega arith) d.fact
          | then-left-eq0-via-else-left-eq0+then-is_down w ↦
              ends_down size hold t link loop.count loop.left loop.numbers all from d.to (sym (d.stands.down link few) ∙ sym w.is_down.ensures.value ∙ w.if-is_down.true) d.fact
        ]);
        ends = d.fact.ends;
        counts = d.fact.counts;
      };
      stands = d.stands;
      given = d.given;
    }

pub loop-asked-preserved-in-Ok-None : goal.loop-asked-preserved-in-Ok-None
loop-asked-preserved-in-Ok-None g c =
    let old = c.args.self.now in
    let loop = c.loop-asked in
    let size = old.store.size in
    let hold = old.hold in
    let link = c.args.link in
    let all = c.of-numbers.result in
    let n = number_seen c.in-Some.asked in
    let ns = c.next.new.self in
    let sized : loop.self.store.size ≡ size = ap (λ (r : Rules). r.size) loop.invariant.set.rules in
    let held : loop.self.hold ≡ hold = ap (λ (r : Rules). r.hold) loop.invariant.set.rules in
    record {
      same = omega (arith, loop.invariant.same, c.answer_number.auto.links);
      set = stays_then old loop.self c.answer_number.new.self loop.invariant.set c.answer_number.ensures.set;
      few = loop.invariant.few;
      does = λ from stands fresh.
          let d = loop.invariant.does from stands fresh in
          let t = effective_time from.history in
          does_then _ old loop.self c.answer_number.new.self c.args.links.now loop.links c.answer_number.new.links from _ _ _ loop.invariant.same loop.invariant.set d
          (c.in-Ok-None.ensures.does d.to d.stands d.fact.ends.pair)
          (λ to fact.
          let leaves = leaves_same loop.self.store.size size loop.self.hold hold (effective_time d.to.history) t n d.to to sized held d.fact.time
          (subst (λ (o : Option Answer). AnswersNumber {E = Spent} loop.self.store.size loop.self.hold (effective_time d.to.history) link n (Ok o) d.to to) c.in-Ok-None.field-0-is fact) in
          goes_none size hold t link loop.count loop.left n ns all from d.to to
          (before_more size hold t link loop.count loop.left loop.numbers (n ∷ ns) all from d.to c.in-Some.ensures.steps d.fact) leaves);
    }

pub loop-asked-preserved : goal.loop-asked-preserved
loop-asked-preserved g c =
    let old = c.args.self.now in
    let loop = c.loop-asked in
    let size = old.store.size in
    let hold = old.hold in
    let link = c.args.link in
    let all = c.of-numbers.result in
    let n = number_seen c.in-Some.asked in
    let ns = c.next.new.self in
    let sized : loop.self.store.size ≡ size = ap (λ (r : Rules). r.size) loop.invariant.set.rules in
    let held : loop.self.hold ≡ hold = ap (λ (r : Rules). r.hold) loop.invariant.set.rules in
    let some : 1 ≤ hold = omega (arith, c.self.invariant.holds.0, ap (λ (s : SenderState). s.hold) c.self.view_is) in
    let less : loop.left ≡ suc (loop.left - 1) = omega arith in
    let a = c.in-Ok-Some.answer in
    record {
      same = omega (arith, loop.invariant.same, c.answer_number.auto.links);
      set = stays_then old loop.self c.answer_number.new.self loop.invariant.set c.answer_number.ensures.set;
      few = omega (arith, c.counted-count.ensures.value, at_most_one (is_failed a), loop.invariant.few, less);
      does = λ from stands fresh.
          let d = loop.invariant.does from stands fresh in
          let t = effective_time from.history in
          does_then _ old loop.self c.answer_number.new.self c.args.links.now loop.links c.answer_number.new.links from _ _ _ loop.invariant.same loop.invariant.set d
          (c.in-Ok-Some.ensures.does d.to d.stands d.fact.ends.pair)
          (λ to fact.
          let few : link < 16 = omega arith in
          let up : is_down d.to.history link ≡ false = sym (d.stands.down link few) ∙ sym c.is_down.ensures.value ∙ c.if-is_down.false in
          let sends = sends_same loop.self.store.size size loop.self.hold hold (effective_time d.to.history) t link n a false d.to to sized held d.fact.time
          (subst (λ (o : Option Answer). AnswersNumber {E = Spent} loop.self.store.size loop.self.hold (effective_time d.to.history) link n (Ok o) d.to to) c.in-Ok-Some.field-0-is fact) in
          subst (λ (k : ℕ). AnswersBefore size hold t link (loop.count + k) (loop.left - 1) ns all from to) (sym c.counted-count.ensures.value)
          (goes_some size hold t link loop.count (loop.left - 1) n ns all from d.to to a some
          (before_left size hold t link loop.count loop.left (suc (loop.left - 1)) (n ∷ ns) all from d.to less
          (before_more size hold t link loop.count loop.left loop.numbers (n ∷ ns) all from d.to c.in-Some.ensures.steps d.fact)) up sends));
    }

pub returns-in-Err-clause-does : goal.returns-in-Err-clause-does
returns-in-Err-clause-does g c = λ from stands fresh.
    let old = c.args.self.now in
    let loop = c.loop-asked in
    let size = old.store.size in
    let hold = old.hold in
    let link = c.args.link in
    let all = c.of-numbers.result in
    let all_is : all ≡ take MAX_LOOKED_AT (asked_numbers old.flow c.args.compound.now) =
    c.of-numbers.ensures.value ∙ ap (λ (s : SenderState). take MAX_LOOKED_AT (asked_numbers s.flow c.args.compound.now)) c.self.view_is in
    let n = number_seen c.in-Some.asked in
    let ns = c.next.new.self in
    let sized : loop.self.store.size ≡ size = ap (λ (r : Rules). r.size) loop.invariant.set.rules in
    let held : loop.self.hold ≡ hold = ap (λ (r : Rules). r.hold) loop.invariant.set.rules in
    let some : 1 ≤ hold = omega (arith, c.self.invariant.holds.0, ap (λ (s : SenderState). s.hold) c.self.view_is) in
    let less : loop.left ≡ suc (loop.left - 1) = omega arith in
    let d = loop.invariant.does from stands fresh in
    let t = effective_time from.history in
    does_then _ old loop.self c.answer_number.new.self c.args.links.now loop.links c.answer_number.new.links from _ _ _ loop.invariant.same loop.invariant.set d
    (c.in-Err.ensures.does d.to d.stands d.fact.ends.pair)
    (λ to fact.
    let sends = sends_same loop.self.store.size size loop.self.hold hold (effective_time d.to.history) t link n Took true d.to to sized held d.fact.time fact in
    record {
      writes = sends_all (rules_of old) link c.args.compound.now all from to all_is
          (ends_short size hold t link loop.count (loop.left - 1) n ns all from d.to to some
          (before_left size hold t link loop.count loop.left (suc (loop.left - 1)) (n ∷ ns) all from d.to less
          (before_more size hold t link loop.count loop.left loop.numbers (n ∷ ns) all from d.to c.in-Some.ensures.steps d.fact)) sends);
      ends = sends.puts.ends;
      counts = tt;
    })

pub returns-clause-does : goal.returns-clause-does
returns-clause-does g c = λ from stands fresh.
    let old = c.args.self.now in
    let loop = c.loop-asked in
    let size = old.store.size in
    let hold = old.hold in
    let link = c.args.link in
    let all = c.of-numbers.result in
    let all_is : all ≡ take MAX_LOOKED_AT (asked_numbers old.flow c.args.compound.now) =
    c.of-numbers.ensures.value ∙ ap (λ (s : SenderState). take MAX_LOOKED_AT (asked_numbers s.flow c.args.compound.now)) c.self.view_is in
    let d = loop.invariant.does from stands fresh in
    let t = effective_time from.history in
    does_weaker _ _ _ _ _ from _ _ d (λ to fact. record {
      writes = sends_all (rules_of old) link c.args.compound.now all from to all_is
          (ends_empty size hold t link loop.count loop.left all from to (before_more size hold t link loop.count loop.left loop.numbers [] all from to c.in_default.ensures.steps.0 fact));
      ends = fact.ends;
      counts = fact.counts;
    })
