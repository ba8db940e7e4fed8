-- Each pass is one of the lock's.
use Rattle.std.proofs.Common.{ℕ, ◌<◌, length, subst, sym}
use Rattle.std.specs.Prelude.{slice_index_or}
use Rattle.std.proofs.lemmas.Option.{slice_get-get_or}
use Rattle.turn_lock.specs.Passes.{IsPassOf}
use Rattle.test_runs.proofs.contending.all_taken.Goals as goal

pub contend-requires-clause-own : goal.contend-requires-clause-own
contend-requires-clause-own g c κs within =
    subst (λ l. (i : ℕ) (d : _) → i < length l → IsPassOf c.args.lock (slice_index_or l i d)) (sym c.deref_mut.ensures.value)
    (λ i d less. (c.requires.fresh.each i (slice_index_or c.args.passes.items i d) (slice_get-get_or c.args.passes.items i d less)).own)
