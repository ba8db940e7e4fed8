-- What a split has done, by what its parts leave.
use Rattle.std.proofs.Common.{◌≡◌, ◌⊎◌, ◌<◌, ℕ, length, Bool, refl, subst}
use mathlib.Core.Logic.{inl, inr}
use Rattle.std.specs.Prelude.{IsTrue}
use Rattle.outside_io.specs.Causes.{HasOpenCause, Rose}
use Rattle.outside_host.specs.Shelf.{Shelf}
use Rattle.rist_words.specs.CommandLine.{Replay, SplitCommand, replay_at}
use Rattle.rist_words.specs.Ranges.{IsInSplit}
use Rattle.run_parts.specs.Causes.{CanRefuse, fault_of}
use Rattle.run_files.specs.Complete.{IsWholeFile}
use Rattle.run_parts.specs.Complete.{NoneFailed}
use Rattle.run_split.specs.DoesSplit.{CompletesSplitting, DoesSplit, IsSplitEnd, KeepsAroundSplit, OpensInOrder}
use Rattle.run_parts.specs.Objects.{Tells}
use Rattle.run_parts.specs.Sealing.{FailedAt}
use Rattle.run_split.specs.Splits.{AreAsReplayed, IsAsReplayed, SomeIsCutOff, Splits, Unsplit}
use Rattle.run_parts.specs.declared.status.Status.{Status}
use Rattle.run_parts.specs.declared.status.Status.TheVariants as statuses
use Rattle.run_files.proofs.CompleteLemmas.{ran_completes}
use Rattle.run_parts.proofs.RefusalLemmas.{refuses}
use Rattle.run_parts.proofs.PlaceLemmas.{not_as_it_stood}
use Rattle.run_split.proofs.SplitHostLemmas.{form_at}

pub split_same : {I O E L C : Type 0} (told : Bool) (tells : Tells I O E) (c k : SplitCommand) (were are : ℕ) (old new : Shelf I O E L C) (status : Status)
    → c ≡ k → DoesSplit told tells c were are old new status → DoesSplit told tells k were are old new status
split_same told tells c k were are old new status same does = subst (λ x. DoesSplit told tells x were are old new status) same does

-- whether a split didn't begin
begun : (s : Status) → IsSplitEnd s → (s ≡ statuses.OpenFault) ⊎ ((s ≡ statuses.Memory) ⊎ (CanRefuse s → ⊥))
begun statuses.Done e = inr (inr not)
  where
    not : CanRefuse statuses.Done → ⊥
    not (inl x) = cc
    not (inr (inl x)) = cc
    not (inr (inr x)) = cc
begun statuses.Memory e = inr (inl refl)
begun statuses.Usage e = absurd e
begun statuses.OpenFault e = inl refl
begun statuses.ReadFault e = inr (inr not)
  where
    not : CanRefuse statuses.ReadFault → ⊥
    not (inl x) = cc
    not (inr (inl x)) = cc
    not (inr (inr x)) = cc
begun statuses.WriteFault e = inr (inr not)
  where
    not : CanRefuse statuses.WriteFault → ⊥
    not (inl x) = cc
    not (inr (inl x)) = cc
    not (inr (inr x)) = cc
begun (statuses.BadCapture kind at) e = inr (inr not)
  where
    not : CanRefuse (statuses.BadCapture kind at) → ⊥
    not (inl x) = cc
    not (inr (inl x)) = cc
    not (inr (inr x)) = cc
begun statuses.EntropyFault e = absurd e
begun statuses.TooLong e = inr (inr not)
  where
    not : CanRefuse statuses.TooLong → ⊥
    not (inl x) = cc
    not (inr (inl x)) = cc
    not (inr (inr x)) = cc
begun statuses.LinksDown e = absurd e
begun statuses.TraceFull e = absurd e
begun (statuses.Torn tear) e = absurd e
begun statuses.Spent e = absurd e
begun statuses.TurnsSpent e = absurd e
begun (statuses.BadPcap kind at) e = inr (inr not)
  where
    not : CanRefuse (statuses.BadPcap kind at) → ⊥
    not (inl x) = cc
    not (inr (inl x)) = cc
    not (inr (inr x)) = cc

done_is : CanRefuse statuses.Done → ⊥
done_is (inl x) = cc
done_is (inr (inl x)) = cc
done_is (inr (inr x)) = cc

write_is : statuses.Done ≡ statuses.WriteFault → ⊥
write_is e = cc

module _ {I O E L C : Type 0} (told : Bool) (tells : Tells I O E) (c : SplitCommand) (were are : ℕ) (old new : Shelf I O E L C) (status : Status)
    (range : IsInSplit c) (ends : IsSplitEnd status) (opened : HasOpenCause (fault_of status) were are)
    (splits : IsTrue told → (CanRefuse status → ⊥) → Splits tells old new c status)
    (unsplit : IsTrue told → CanRefuse status → Unsplit old new c)
    (around : IsTrue told → KeepsAroundSplit old new c) (order : IsTrue told → OpensInOrder old new c) where
  each_done : IsTrue told → status ≡ statuses.Done → (v : ℕ) → v < length c.ports → IsAsReplayed tells old new (replay_at c v) status
  each_done tells_it done = by_answer (splits tells_it (λ refused. done_is (subst CanRefuse done refused))).answer
    where
      by_answer : {ended : Status} → ((status ≡ ended) × AreAsReplayed tells old new c status) ⊎ ((status ≡ statuses.WriteFault) × SomeIsCutOff tells old new c ended)
          → (v : ℕ) → v < length c.ports → IsAsReplayed tells old new (replay_at c v) status
      by_answer (inl whole) = whole.1
      by_answer (inr cut) = absurd (write_is (subst (λ s. s ≡ statuses.WriteFault) done cut.0))

  completes : IsTrue told → (Rose were are → ⊥) → CompletesSplitting tells old new c status
  completes tells_it unopened source b here is_told whole none = by_begun (begun status ends)
    where
      undrawn : FailedAt tells old new → ⊥
      undrawn f = not_as_it_stood (old.entropies 0) (new.entropies 0) f.words f.drawn f.took f.gave ((around tells_it).entropies 0)

      unfailed : NoneFailed tells old new (Replay (replay_at c 0))
      unfailed = record { reads = none.reads; writes = λ sink filled took gave. none.writes 0 sink filled range.outs.some took gave; words = undrawn }

      by_answer : {ended : Status} → ((status ≡ ended) × AreAsReplayed tells old new c status) ⊎ ((status ≡ statuses.WriteFault) × SomeIsCutOff tells old new c ended)
          → (status ≡ statuses.Done) ⊎ (status ≡ statuses.Memory)
      by_answer (inl each) =
          ran_completes tells old new (Replay (replay_at c 0)) status (λ e. unopened (subst (λ s. HasOpenCause (fault_of s) were are) e opened))
          (λ not_open not_memory. (each.1 0 range.outs.some).ran) source b here is_told (subst (λ f. IsWholeFile f b) (form_at c 0) whole) unfailed
      by_answer (inr cut) =
          let x = cut.1.cut in
          absurd (none.writes cut.1.output x.sink x.filled cut.1.among x.took_sink x.gave_sink x.rose)

      by_begun : (status ≡ statuses.OpenFault) ⊎ ((status ≡ statuses.Memory) ⊎ (CanRefuse status → ⊥)) → (status ≡ statuses.Done) ⊎ (status ≡ statuses.Memory)
      by_begun (inl e) = absurd (unopened (subst (λ s. HasOpenCause (fault_of s) were are) e opened))
      by_begun (inr (inl e)) = inr e
      by_begun (inr (inr ran)) = by_answer (splits tells_it ran).answer

  pub does_split : DoesSplit told tells c were are old new status
  does_split = record {
    ends = ends;
    splits = splits;
    unsplit = unsplit;
    reached = λ tells_it done v less. (each_done tells_it done v less).reached done;
    epochs = λ tells_it done v less. (each_done tells_it done v less).epochs done;
    around = around;
    order = order;
    complete = completes;
  }

-- memory is refused before a split is known
pub splits_nothing : {I O E L C : Type 0} (told : Bool) (tells : Tells I O E) (c : SplitCommand) (faults : ℕ) (old : Shelf I O E L C)
    → DoesSplit told tells c faults faults old old statuses.Memory
splits_nothing told tells c faults old = record {
  ends = tt;
  splits = λ told ran. absurd (ran refuses);
  unsplit = λ told refused. record { source = inl refl; sinks = λ v less. inl refl };
  reached = λ told done. absurd (cc (done));
  epochs = λ told done. absurd (cc (done));
  around = λ told. record {
    sources = λ n other. refl;
    source = inl refl;
    sinks = λ name none. refl;
    outputs = λ v less. inl refl;
    entropies = λ place. refl;
    live = record { links = refl; opened = refl; clocks = refl; next = refl; report = refl };
  };
  order = λ told. record { after_source = λ same name. refl; after_another = λ i j default less inside same. refl };
  complete = λ told unopened source b here is_told whole none. inr refl;
}
