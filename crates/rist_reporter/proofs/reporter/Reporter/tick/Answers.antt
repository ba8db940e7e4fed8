-- What is due by the entries is what the history makes.
use Rattle.std.proofs.Common.{List, ◌∷◌, ◌∙◌, ap, refl, sym, subst, length}
use Rattle.std.specs.Prelude.{IfOk}
use Rattle.rist_wire.specs.Writing.{pairs_left}
use Rattle.request_rules.specs.declared.word.AskWord.{AskWord}
use Rattle.request_rules.specs.Requests.{asked_words}
use Rattle.nack_timer.specs.Steps.{tick_step}
use Rattle.rist_reporter.specs.Control.{Datagram}
use Rattle.rist_reporter.specs.Links.{LinksState, AreLinksAfter, longest_of}
use Rattle.rist_reporter.specs.Reporter.{ReporterState, IsReporterAfter}
use Rattle.rist_reporter.specs.OneMore.{is_short, IsMade}
use Rattle.rist_reporter.specs.Inside.Due.{datagrams_due}
use Rattle.rist_reporter.proofs.LinksLemmas.{links_ticked}
use Rattle.rist_reporter.proofs.TickLemmas.{lacking, not_short, AtTick, time_is, rtts_are, due_made, answers_made, keepalive_stands, stands_answered}
use Rattle.rist_reporter.proofs.reporter.Reporter.tick.Goals as goal

pub returns-then-is_short_at-clause-answer : goal.returns-then-is_short_at-clause-answer
returns-then-is_short_at-clause-answer c before tick s stands =
    let r = c.args.self.now in
    let b = c.args.buffer.now in
    let k : AtTick r b before c.args.at c.args.link tick c.args.micros = record { reporter = s; buffer = stands; running = c.requires.running; clock = c.requires.clock; link_is = c.requires.link } in
    let rtts = rtts_are r b before c.args.at c.args.link tick c.args.micros k c.tick_of-rtt.result c.longest.result c.tick_of-rtt.ensures.value (c.longest.ensures.value ∙ ap (λ (x : ReporterState). longest_of 16 x.links.rtts) c.self.view_is) in
    let words = asked_words b.limits r.timer.policy before c.args.at in
    let lack = lacking r.is_muted (pairs_left r.shutter.sealer) (datagrams_due c.due_at-due.result words) (sym (c.is_short_at.ensures.value before c.args.link tick c.args.micros s.timer stands rtts) ∙ c.if-is_short_at.true) in
    record {
      spent = sym lack.1 ∙ ap (λ (ds : List Datagram). is_short (pairs_left r.shutter.sealer) (length ds)) (due_made r b before c.args.at c.args.link tick c.args.micros k c.due_at-due.result c.flow.result words c.due_at-due.ensures.value c.flow.ensures refl lack.0);
      made = tt;
    }

pub returns-then-is_short_at-clause-state : goal.returns-then-is_short_at-clause-state
returns-then-is_short_at-clause-state c before tick s stands =
    keepalive_stands c.args.self.now c.args.buffer.now.limits before c.args.link tick s

pub returns-then-self-clause-state : goal.returns-then-self-clause-state
returns-then-self-clause-state c before tick s stands =
    let r = c.args.self.now in
    let b = c.args.buffer.now in
    let k : AtTick r b before c.args.at c.args.link tick c.args.micros = record { reporter = s; buffer = stands; running = c.requires.running; clock = c.requires.clock; link_is = c.requires.link } in
    let rtts = rtts_are r b before c.args.at c.args.link tick c.args.micros k c.tick_of-rtt.result c.longest.result c.tick_of-rtt.ensures.value (c.longest.ensures.value ∙ ap (λ (x : ReporterState). longest_of 16 x.links.rtts) c.self.view_is) in
    let here = subst (λ (x : ReporterState). IsReporterAfter x b.limits before) (sym c.self.view_is) s in
    record {
      timer = c.due-asked.ensures.state before c.args.link tick c.args.micros here.timer stands rtts;
      links = subst (λ (l : LinksState). AreLinksAfter l (tick_step c.args.link tick c.args.micros ∷ before)) (sym c.tick.ensures.value)
          (links_ticked c.self.inside.links before c.args.at c.args.link tick c.args.micros c.requires.link (time_is r b before c.args.at c.args.link tick c.args.micros k) here.links);
      width = here.width;
    }

pub returns-clause-answer : goal.returns-clause-answer
returns-clause-answer c before tick s stands =
    let r = c.args.self.now in
    let b = c.args.buffer.now in
    let k : AtTick r b before c.args.at c.args.link tick c.args.micros = record { reporter = s; buffer = stands; running = c.requires.running; clock = c.requires.clock; link_is = c.requires.link } in
    let rtts = rtts_are r b before c.args.at c.args.link tick c.args.micros k c.tick_of-rtt.result c.longest.result c.tick_of-rtt.ensures.value (c.longest.ensures.value ∙ ap (λ (x : ReporterState). longest_of 16 x.links.rtts) c.self.view_is) in
    let here = subst (λ (x : ReporterState). IsReporterAfter x b.limits before) (sym c.self.view_is) s in
    let asks = c.due-asked.ensures.requests before c.args.link tick c.args.micros here.timer stands rtts ∙ ap (λ (x : ReporterState). asked_words b.limits x.timer.policy before c.args.at) c.self.view_is in
    answers_made r b before c.args.at c.args.link tick c.args.micros k c.due_at-due.result c.flow.result c.due-asked.result c.make_tick.result c.due_at-due.ensures.value c.flow.ensures asks
    (ap (λ (x : ReporterState). x.is_muted) (sym c.self.view_is) ∙ c.if-self.false)
    (c.make_tick.ensures.spent ∙ ap (λ (x : ReporterState). is_short (pairs_left x.shutter.sealer) (length (datagrams_due c.due_at-due.result c.due-asked.result))) c.self.view_is)
    (subst (λ (x : ReporterState). IfOk c.make_tick.result (IsMade x.shutter.session (datagrams_due c.due_at-due.result c.due-asked.result) c.due-asked.result)) c.self.view_is c.make_tick.ensures.made)

pub returns-clause-state : goal.returns-clause-state
returns-clause-state c before tick s stands =
    let r = c.args.self.now in
    let b = c.args.buffer.now in
    let k : AtTick r b before c.args.at c.args.link tick c.args.micros = record { reporter = s; buffer = stands; running = c.requires.running; clock = c.requires.clock; link_is = c.requires.link } in
    let rtts = rtts_are r b before c.args.at c.args.link tick c.args.micros k c.tick_of-rtt.result c.longest.result c.tick_of-rtt.ensures.value (c.longest.ensures.value ∙ ap (λ (x : ReporterState). longest_of 16 x.links.rtts) c.self.view_is) in
    let here = subst (λ (x : ReporterState). IsReporterAfter x b.limits before) (sym c.self.view_is) s in
    let asks = c.due-asked.ensures.requests before c.args.link tick c.args.micros here.timer stands rtts ∙ ap (λ (x : ReporterState). asked_words b.limits x.timer.policy before c.args.at) c.self.view_is in
    let unmuted = ap (λ (x : ReporterState). x.is_muted) (sym c.self.view_is) ∙ c.if-self.false in
    let enough = not_short r.is_muted (pairs_left r.shutter.sealer) (datagrams_due c.due_at-due.result (asked_words b.limits r.timer.policy before c.args.at))
    (sym (c.is_short_at.ensures.value before c.args.link tick c.args.micros s.timer stands rtts) ∙ c.if-is_short_at.false) unmuted in
    let fine = c.make_tick.ensures.spent ∙ ap (λ (x : ReporterState). is_short (pairs_left x.shutter.sealer) (length (datagrams_due c.due_at-due.result c.due-asked.result))) c.self.view_is
    ∙ ap (λ (ws : List AskWord). is_short (pairs_left r.shutter.sealer) (length (datagrams_due c.due_at-due.result ws))) asks ∙ enough in
    stands_answered _ b.limits before (tick_step c.args.link tick c.args.micros) c.make_tick.result fine
    (record {
      timer = c.due-asked.ensures.state before c.args.link tick c.args.micros here.timer stands rtts;
      links = subst (λ (l : LinksState). AreLinksAfter l (tick_step c.args.link tick c.args.micros ∷ before)) (sym c.tick.ensures.value)
          (links_ticked c.self.inside.links before c.args.at c.args.link tick c.args.micros c.requires.link (time_is r b before c.args.at c.args.link tick c.args.micros k) here.links);
      width = here.width;
    })
