-- One receiver more was told nothing.
use Rattle.std.proofs.Common.{◌≡◌, ◌∙◌, ◌∷◌, ◌++◌, [], List, Bool, true, length, length-append, ap, subst, sym, arith}
use Rattle.std.specs.Prelude.{is_ok, if◌then◌else◌}
use Rattle.std.specs.List.{All}
use Rattle.std.proofs.lemmas.List.Elements.{All-push}
use Rattle.rist_ends.specs.Receiver.{ReceiverState}
use Rattle.rist_ends.specs.Settings.{limits_of}
use Rattle.rist_split.specs.Split.{IsFresh}
use Rattle.rist_split.proofs.made.receivers.Goals as goal

pushed : (ok : Bool) (more same new : List ReceiverState) → ok ≡ true → new ≡ (if ok then more else same) → new ≡ more
pushed ok more same new sound is = is ∙ ap (λ (b : Bool). if b then more else same) sound

pub loop-alloc-preserved : goal.loop-alloc-preserved
loop-alloc-preserved c =
    let had = c.loop-alloc.receivers.items in
    let more : c.push.new.self.items ≡ had ++ c.in_ok-receiver.receiver ∷ [] =
    pushed (is_ok c.push.result) (had ++ c.in_ok-receiver.receiver ∷ []) had c.push.new.self.items c.if-is_err.ensures.negation c.push.ensures.items in (
      omega (arith, ap length more, length-append had (c.in_ok-receiver.receiver ∷ []), c.loop-alloc.invariant.0, c.loop-alloc-test.true),
      subst (All (IsFresh (limits_of c.args.settings.now))) (sym more) (All-push (IsFresh (limits_of c.args.settings.now)) had c.in_ok-receiver.receiver c.loop-alloc.invariant.1 c.in_ok-receiver.ensures.fresh),
    )
