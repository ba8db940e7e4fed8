-- What a split leaves is, of each output, what a replay at its port leaves.
use Rattle.std.proofs.Common.{◌≡◌, ◌⊎◌, ◌≤◌, ◌++◌, ℕ, List, length, Option, None, Some, IfSome, refl, ap, sym, ◌∙◌}
use Rattle.std.proofs.Common.{subst, append_assoc}
use mathlib.Core.Logic.{inl, inr}
use Rattle.std.specs.Prelude.{Result, Ok, Err}
use Rattle.std.specs.Option.{option_map}
use Rattle.outside_io.specs.Causes.{HasReadCause, HasWriteCause, fault_by}
use Rattle.outside_io.specs.Told.{Appends, AppendsPart, Takes}
use Rattle.capture_file.specs.Capture.{Record}
use Rattle.block_source.specs.Block.{most_ahead}
use Rattle.capture_walk.specs.Causes.{walk_fault}
use Rattle.capture_walk.specs.Form.{Form}
use Rattle.capture_walk.specs.Leaves.{EndsAfter, Leaves, passage as passed}
use Rattle.capture_walk.specs.declared.walk_bad.WalkBad.{WalkBad}
use Rattle.capture_walk.specs.declared.walk_bad.WalkBad.TheVariants as walks
use Rattle.capture_walk.proofs.EndingLemmas.{given_back}
use Rattle.rist_wire.specs.Among.{ArePorts}
use Rattle.rist_replay.specs.Replay.{released_so_far, replayed}
use Rattle.rist_split.specs.Outputs.{IsCut, IsWhole, SplitsInto}
use Rattle.rist_split.specs.Outputs as splits
use Rattle.rist_words.specs.CommandLine.{SplitCommand, replay_at}
use Rattle.rist_words.specs.Ranges.{IsInSplit}
use Rattle.run_parts.specs.Causes.{fault_of}
use Rattle.run_split.specs.DoesSplit.{IsSplitEnd}
use Rattle.run_parts.specs.Sessions.{session_read}
use Rattle.run_split.specs.Splits.{split_limits, IsFront, IsRecordsEnd}
use Rattle.run_files.specs.Works.{ReplaysAs}
use Rattle.run_parts.specs.Statuses.{walk_status}
use Rattle.run_files.specs.Inside.Answers.{IsOwn}
use Rattle.run_split.specs.Inside.Splitting.{AllWhole, IsAnswered, LeavesPart, LeavesWhole, SomeCut, SplitsAs}
use Rattle.run_parts.specs.declared.status.Status.{Status}
use Rattle.run_parts.specs.declared.status.Status.TheVariants as statuses

-- the ports of a line are ports of sessions in one tunnel
pub are_ports : (c : SplitCommand) → IsInSplit c → ArePorts c.ports
are_ports c range = record { some = range.outs.some; few = range.outs.few; even = range.outs.even; high = range.outs.high; different = range.outs.different }

records_end : (end : Result Unit WalkBad) → (end ≡ Err walks.WriteFault → ⊥) → (end ≡ Err walks.Memory → ⊥) → IsRecordsEnd (walk_status end)
records_end (Ok x) unfailed unrefused = tt
records_end (Err (walks.BadCapture kind at)) unfailed unrefused = tt
records_end (Err (walks.BadPcap kind at)) unfailed unrefused = tt
records_end (Err walks.TooLong) unfailed unrefused = tt
records_end (Err walks.ReadFault) unfailed unrefused = tt
records_end (Err walks.WriteFault) unfailed unrefused = absurd (unfailed refl)
records_end (Err walks.Memory) unfailed unrefused = absurd (unrefused refl)

fault_is : (end : Result Unit WalkBad) → fault_by walk_fault end ≡ fault_of (walk_status end)
fault_is (Ok x) = refl
fault_is (Err (walks.BadCapture kind at)) = refl
fault_is (Err (walks.BadPcap kind at)) = refl
fault_is (Err walks.TooLong) = refl
fault_is (Err walks.ReadFault) = refl
fault_is (Err walks.WriteFault) = refl
fault_is (Err walks.Memory) = refl

ends_split : (s : Status) → IsRecordsEnd s → IsSplitEnd s
ends_split statuses.Done r = tt
ends_split statuses.Memory r = tt
ends_split statuses.Usage r = r
ends_split statuses.OpenFault r = tt
ends_split statuses.ReadFault r = tt
ends_split statuses.WriteFault r = tt
ends_split (statuses.BadCapture kind at) r = tt
ends_split statuses.EntropyFault r = r
ends_split statuses.TooLong r = tt
ends_split statuses.LinksDown r = r
ends_split statuses.TraceFull r = r
ends_split (statuses.Torn tear) r = r
ends_split statuses.Spent r = r
ends_split statuses.TurnsSpent r = r
ends_split (statuses.BadPcap kind at) r = tt

-- no write is at fault there
pub writes_stand : (s : Status) (before now : ℕ) → IsRecordsEnd s → now ≡ before → HasWriteCause (fault_of s) before now
writes_stand statuses.Done before now r same = same
writes_stand statuses.Memory before now r same = same
writes_stand statuses.Usage before now r same = same
writes_stand statuses.OpenFault before now r same = same
writes_stand statuses.ReadFault before now r same = same
writes_stand statuses.WriteFault before now r same = absurd r
writes_stand (statuses.BadCapture kind at) before now r same = same
writes_stand statuses.EntropyFault before now r same = same
writes_stand statuses.TooLong before now r same = same
writes_stand statuses.LinksDown before now r same = same
writes_stand statuses.TraceFull before now r same = same
writes_stand (statuses.Torn tear) before now r same = same
writes_stand statuses.Spent before now r same = same
writes_stand statuses.TurnsSpent before now r same = same
writes_stand (statuses.BadPcap kind at) before now r same = same

given : (form : Form) (whole : List Record → List ℕ) (had left held holds : Option (List ℕ)) (done : List Record) (end : Result Unit WalkBad)
    → IfSome had (λ b. EndsAfter form 0 b left done end) → Appends held holds (whole done)
    → IfSome had (λ b. (rs : List Record) × EndsAfter form 0 b left rs end × Appends held holds (whole rs))
given form whole None left held holds done end read written = tt
given form whole (Some b) left held holds done end read written = (done, read, written)

leaves : (form : Form) (so_far whole : List Record → List ℕ) (had left held holds : Option (List ℕ)) (done : List Record) (end : Result Unit WalkBad)
    → (end ≡ Err walks.WriteFault → ⊥) → (end ≡ Err walks.Memory → ⊥) → IfSome had (λ b. EndsAfter form 0 b left done end) → Appends held holds (whole done)
    → Leaves form so_far whole 0 (passed had left held holds) end
leaves form so_far whole had left held holds done (Ok x) unfailed unrefused read written = given form whole had left held holds done (Ok x) read written
leaves form so_far whole had left held holds done (Err (walks.BadCapture kind at)) unfailed unrefused read written =
    given form whole had left held holds done (Err (walks.BadCapture kind at)) read written
leaves form so_far whole had left held holds done (Err (walks.BadPcap kind at)) unfailed unrefused read written =
    given form whole had left held holds done (Err (walks.BadPcap kind at)) read written
leaves form so_far whole had left held holds done (Err walks.TooLong) unfailed unrefused read written = given form whole had left held holds done (Err walks.TooLong) read written
leaves form so_far whole had left held holds done (Err walks.ReadFault) unfailed unrefused read written = given form whole had left held holds done (Err walks.ReadFault) read written
leaves form so_far whole had left held holds done (Err walks.WriteFault) unfailed unrefused read written = absurd (unfailed refl)
leaves form so_far whole had left held holds done (Err walks.Memory) unfailed unrefused read written = absurd (unrefused refl)

-- a front part of what is put behind what was held is a front part of the whole
front_of : (held holds : Option (List ℕ)) (octets : List ℕ) → AppendsPart held holds octets → IsFront holds (option_map (λ h. h ++ octets) held)
front_of None holds octets part = subst (λ o. IsFront o None) (sym part.2) tt
front_of (Some h) holds octets part =
    subst (λ o. IsFront o (Some (h ++ octets))) (sym part.2)
    (part.1.0, ap (λ l. h ++ l) part.1.1 ∙ sym (append_assoc h part.0 part.1.0))

module _ {K : Type 0} (form : Form) (c : SplitCommand) (contents : K → Option (List ℕ)) (faults : K → ℕ) (had rest spent : Option (List ℕ)) (ahead : List ℕ) (were are : ℕ)
    (old new : List K) (result : Result Unit WalkBad)
    (s : SplitsInto form had rest ahead were are contents faults c.ports (session_read c.session) (split_limits c) old new result)
    (told : Takes rest spent ahead) (within : length ahead ≤ most_ahead) where
  replays_as : (v : ℕ) (held holds : Option (List ℕ)) → Appends held holds (replayed (session_read (replay_at c v).session) (split_limits c) s.brought.done)
      → ReplaysAs form (replay_at c v) (passed had spent held holds) (walk_status s.end)
  replays_as v held holds written =
      let so_far = released_so_far (session_read (replay_at c v).session) (split_limits c) in
      let whole = replayed (session_read (replay_at c v).session) (split_limits c) in (
        s.end,
        refl,
        given_back form so_far whole most_ahead had rest spent held holds ahead s.end s.all_read told within
            (leaves form so_far whole had rest held holds s.brought.done s.end s.unfailed s.unrefused s.brought.read written),
      )

  whole_at : (v : ℕ) (sink filled : K) → splits.Of contents faults c.ports (session_read c.session) (split_limits c) old new s.brought.done IsWhole v sink filled
      → LeavesWhole form (replay_at c v) (passed had spent (contents sink) (contents filled)) (faults sink) (faults filled) (walk_status s.end)
  whole_at v sink filled is = record { work = replays_as v (contents sink) (contents filled) is.written; unfailed = is.unfailed }

  part_at : (v : ℕ) (sink filled : K) → splits.Of contents faults c.ports (session_read c.session) (split_limits c) old new s.brought.done IsCut v sink filled
      → LeavesPart form (replay_at c v) (passed had spent (contents sink) (contents filled)) (faults sink) (faults filled) (walk_status s.end)
  part_at v sink filled is =
      let octets = replayed (session_read (replay_at c v).session) (split_limits c) s.brought.done in
      record {
        work = (
          option_map (λ h. h ++ octets) (contents sink),
          replays_as v (contents sink) (option_map (λ h. h ++ octets) (contents sink)) refl,
          front_of (contents sink) (contents filled) octets is.written,
        );
        failed = is.failed;
      }

  answered : splits.IsAnswered contents faults c.ports (session_read c.session) (split_limits c) old new s.brought.done s.end result
      → IsAnswered form c contents faults had spent old new (walk_status s.end) (walk_status result)
  answered (splits.AllWhole whole is) = AllWhole (λ v sink filled was now. whole_at v sink filled (whole v sink filled was now)) (ap walk_status is)
  answered (splits.SomeCut outputs cut is) =
      SomeCut (λ v sink filled was now. each v sink filled (outputs v sink filled was now))
      (record { place = cut.place; sink = cut.sink; filled = cut.filled; was = cut.was; is = cut.is; part = part_at cut.place cut.sink cut.filled cut.cut })
      (ap walk_status is)
    where
      each : (v : ℕ) (sink filled : K)
          → splits.Of contents faults c.ports (session_read c.session) (split_limits c) old new s.brought.done IsWhole v sink filled
          ⊎ splits.Of contents faults c.ports (session_read c.session) (split_limits c) old new s.brought.done IsCut v sink filled
          → LeavesWhole form (replay_at c v) (passed had spent (contents sink) (contents filled)) (faults sink) (faults filled) (walk_status s.end)
          ⊎ LeavesPart form (replay_at c v) (passed had spent (contents sink) (contents filled)) (faults sink) (faults filled) (walk_status s.end)
      each v sink filled (inl is) = inl (whole_at v sink filled is)
      each v sink filled (inr is) = inr (part_at v sink filled is)

  pub splits_as : (now : ℕ) (status : Status) → now ≡ are → status ≡ walk_status result → SplitsAs form c contents faults had spent were now old new status
  splits_as now status same is = record {
    ended = walk_status s.end;
    records = records_end s.end s.unfailed s.unrefused;
    read = subst (λ n. HasReadCause (fault_of (walk_status s.end)) were n) (sym same) (subst (λ f. HasReadCause f were are) (fault_is s.end) s.read);
    answered = subst (λ x. IsAnswered form c contents faults had spent old new (walk_status s.end) x) (sym is) (answered s.brought.seen);
  }

module _ {K : Type 0} (form : Form) (c : SplitCommand) (contents : K → Option (List ℕ)) (faults : K → ℕ) (had left : Option (List ℕ)) (were are : ℕ)
    (old new : List K) (status : Status) (s : SplitsAs form c contents faults had left were are old new status) where
  answer_is : (P : Status → Type 0) → ((x : Status) → IsRecordsEnd x → P x) → P statuses.WriteFault → P status
  answer_is P records write = by_answer s.answered
    where
      by_answer : IsAnswered form c contents faults had left old new s.ended status → P status
      by_answer (AllWhole whole is) = subst P (sym is) (records s.ended s.records)
      by_answer (SomeCut outputs cut is) = subst P (sym is) write

  pub split_ends : IsSplitEnd status
  split_ends = answer_is IsSplitEnd ends_split tt

  pub split_own : IsOwn status
  split_own = answer_is IsOwn
      (λ x r. record { line = λ e. subst IsRecordsEnd e r; opened = λ e. subst IsRecordsEnd e r; random = λ e. subst IsRecordsEnd e r })
      (record { line = λ e. cc (e); opened = λ e. cc (e); random = λ e. cc (e) })

  pub split_remembers : status ≡ statuses.Memory → ⊥
  split_remembers = answer_is (λ x. x ≡ statuses.Memory → ⊥) (λ x r e. subst IsRecordsEnd e r) (λ e. cc (e))
