-- What was split into the sinks is, of each, what a replay at its port leaves.
use Rattle.std.proofs.Common.{length, List, ℕ, ap, subst, sym}
use Rattle.rist_split.specs.Outputs.{IsMade, SplitsInto}
use Rattle.rist_wire.specs.declared.session.Session.{Session}
use Rattle.rist_words.specs.Shown.{shown_split}
use Rattle.run_split.specs.Splits.{split_limits}
use Rattle.run_split.proofs.SplitLemmas.{splits_as}
use Rattle.run_split.proofs.splitting.split_records.Goals as goal

pub returns-clause-work : goal.returns-clause-work
returns-clause-work g c =
    let line = shown_split c.args.line.now in
    let limits = split_limits line in
    let reader = c.args.reader in
    let after = c.split_into-end.new.reader in
    let form = g.R.Records.form reader in
    let had = g.R.Records.remaining reader in
    let rest = g.R.Records.remaining after in
    let ahead = g.R.Records.ahead after in
    let were = g.R.Records.faults reader in
    let are = g.R.Records.faults after in
    let old = c.args.sinks.items in
    let new = c.split_into-end.new.sinks.items in
    let result = c.split_into-end.result in
    let made : IsMade limits (length c.deref.result.now) c.args.made = subst (λ (n : ℕ). IsMade limits n c.args.made) (sym (ap length c.deref.ensures.value)) c.requires.made in
    let s = c.split_into-end.ensures.work limits made in
    let by_ports = subst (λ (p : List ℕ). SplitsInto form had rest ahead were are g.K.Sink.contents g.K.Sink.faults p c.args.made.opener limits old new result) c.deref.ensures.value s in
    let by_session = subst (λ (x : Session). SplitsInto form had rest ahead were are g.K.Sink.contents g.K.Sink.faults line.ports x limits old new result) c.requires.session by_ports in
    splits_as form line g.K.Sink.contents g.K.Sink.faults had rest (g.R.Input.Source.remaining c.back.result) ahead were are old new result by_session c.back.ensures.value c.back.ensures.within
    (g.R.Input.Source.faults c.back.result) c.from.result c.back.ensures.same c.from.ensures
