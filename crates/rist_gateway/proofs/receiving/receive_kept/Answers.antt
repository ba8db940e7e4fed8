-- What the desk is given, and that it is new.
use Rattle.std.proofs.Common.{◌≡◌, ◌∙◌, List, [], Bool, true, false, Option, refl, sym, ap, subst}
use Rattle.std.specs.Prelude.{is_some, IfSome}
use Rattle.outside_io.specs.Told.{IsEmpty}
use Rattle.rist_desk.specs.declared.step.Step.{Step}
use Rattle.rist_desk.specs.Desk.{Given, state_of}
use Rattle.desk_run.proofs.RunLemmas.{none_told, same_given}
use Rattle.desk_run.specs.Receiving.{given_by}
use Rattle.desk_run.specs.Setup.{no_steps}
use Rattle.rist_gateway.proofs.receiving.receive_kept.Goals as goal

pub named_run-requires-clause-given : goal.named_run-requires-clause-given
named_run-requires-clause-given g c κs within =
    let made = c.args.end.made in
    let given : Given = given_by (state_of made.receiver (g.T.Trace.list made.trace) (g.T.Trace.limit made.trace) (g.K.Sink.contents c.args.sink) (g.K.Sink.faults c.args.sink)) in
    let told : is_some (g.T.Trace.list made.trace) ≡ is_some (g.T.Trace.limit made.trace) = ap is_some c.requires.made.receiving.list_is ∙ none_told (is_some (g.T.Trace.limit made.trace)) in
    same_given given (is_some (g.T.Trace.limit made.trace)) told

-- no steps are kept yet
none_kept : (tells : Bool) → IfSome (no_steps tells) (λ steps. steps ≡ [])
none_kept false = tt
none_kept true = refl

pub named_run-requires-clause-fresh : goal.named_run-requires-clause-fresh
named_run-requires-clause-fresh g c κs within =
    let made = c.args.end.made in
    record {
      settings = refl;
      receiver = c.requires.made.receiving.told;
      running = c.requires.made.receiving.running;
      shutter = refl;
      limit = refl;
      tells_steps = refl;
      tells_octets = refl;
      faults = refl;
      steps = λ list is. subst (λ (o : Option (List Step)). IfSome o (λ steps. steps ≡ [])) (sym c.requires.made.receiving.list_is ∙ is) (none_kept (is_some (g.T.Trace.limit made.trace)));
      octets = λ octets is. subst IsEmpty is c.requires.empty;
    }
