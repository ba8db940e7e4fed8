use Rattle.std.proofs.Common.{◌≡◌, ℕ, ◌+◌, length, Err, refl, subst}
use Rattle.rist_sender.specs.History.{again_count}
use Rattle.rist_sender.specs.Calls.{Rules, called_at, AnswersOn, IsAnswer, IsUp}
use Rattle.rist_sender.proofs.TurnLemmas.{does_call}
use Rattle.rist_sender.proofs.SendLemmas.{answer_err}
use Rattle.rist_sender.proofs.sender.Sender.feedback.Goals as goal

pub returns-in-Ok-check_up-clause-work : goal.returns-in-Ok-check_up-clause-work
returns-in-Ok-check_up-clause-work g c = λ from stands.
    let begun = c.begin.ensures.state from stands in
    does_call _ c.args.self.now c.begin.new.self c.answer_compound.new.self c.args.links.now c.answer_compound.new.links from c.args.us _ _ c.begin.ensures.same c.begin.ensures.session
    (c.in-Ok.ensures.does (called_at c.args.us from) begun refl)
    (λ to after fact.
    let up = c.in-Ok-check_up.ensures.answer to after fact.ends.pair in
    record {
      writes = subst (λ (r : Rules). AnswersOn r c.args.us c.args.link c.args.compound.now (called_at c.args.us from) to) c.begin.ensures.same fact.answers;
      answer = (up.0, subst (λ (n : ℕ). IsUp n to.history) c.answer_compound.auto.links up.1, fact.counts);
    })

pub returns-in-Err-check_up-clause-work : goal.returns-in-Err-check_up-clause-work
returns-in-Err-check_up-clause-work g c = λ from stands.
    let begun = c.begin.ensures.state from stands in
    does_call _ c.args.self.now c.begin.new.self c.answer_compound.new.self c.args.links.now c.answer_compound.new.links from c.args.us _ _ c.begin.ensures.same c.begin.ensures.session
    (c.in-Ok.ensures.does (called_at c.args.us from) begun refl)
    (λ to after fact. record {
      writes = subst (λ (r : Rules). AnswersOn r c.args.us c.args.link c.args.compound.now (called_at c.args.us from) to) c.begin.ensures.same fact.answers;
      answer = answer_err (length c.args.links.now) (λ (done : Unit {0}). Unit {0}) (λ (count : ℕ). again_count to.history ≡ again_count from.history + count) c.in-Err-check_up.bad to
          (subst (λ (n : ℕ). IsAnswer {T = Unit {0}} n (λ done. Unit {0}) (Err c.in-Err-check_up.bad) to) c.answer_compound.auto.links
          (c.in-Err-check_up.ensures.answer to after fact.ends.pair));
    })

pub returns-in-Err-clause-work : goal.returns-in-Err-clause-work
returns-in-Err-clause-work g c = λ from stands.
    let begun = c.begin.ensures.state from stands in
    does_call _ c.args.self.now c.begin.new.self c.answer_compound.new.self c.args.links.now c.answer_compound.new.links from c.args.us _ _ c.begin.ensures.same c.begin.ensures.session
    (c.in-Err.ensures.does (called_at c.args.us from) begun refl)
    (λ to after fact. record {
      writes = subst (λ (r : Rules). AnswersOn r c.args.us c.args.link c.args.compound.now (called_at c.args.us from) to) c.begin.ensures.same fact.answers;
      answer = fact.ends.pair;
    })
