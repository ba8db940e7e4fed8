use Rattle.std.proofs.Common.{Some, ap, sym, ◌∙◌, take, drop, take-append-drop, ◌-◌, ◌++◌}
use Rattle.outside_io.proofs.store.Store8Sink.put.Goals as goal

pub returns-clause-err : goal.returns-clause-err
returns-clause-err c =
    let n = c.self.inside.room - c.len.result in
    (take n c.args.piece.now, (drop n c.args.piece.now, sym (take-append-drop n c.args.piece.now)), ap Some (c.keep-2.ensures.value ∙ ap (λ s. s.contents ++ take n c.args.piece.now) c.self.view_is))
