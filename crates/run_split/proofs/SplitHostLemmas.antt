-- The source of a split and the sink of each output were handed out, and came back.
use Rattle.std.proofs.Common.{◌≡◌, ◌⊎◌, ◌<◌, ℕ, List, [], length, slice_get, Option, None, Some, refl, ap, sym, ◌∙◌}
use Rattle.std.proofs.Common.{subst, arith}
use mathlib.Core.Logic.{inl, inr}
use Rattle.std.specs.List.{All}
use Rattle.std.proofs.lemmas.List.{get_or_default}
use Rattle.std.proofs.lemmas.List.Elements.{All-get_or}
use Rattle.std.proofs.lemmas.Option.{get_or_from_slice_get, slice_get_within}
use Rattle.outside_io.specs.Causes.{HasReadCause}
use Rattle.outside_io.specs.Told.{IsEmpty}
use Rattle.outside_host.specs.Shelf.{ChangesSinks, ChangesSources, HandsOut, Shelf, TakesBack}
use Rattle.outside_host.specs.declared.host.Place.TheVariants.{Here, Out, Back}
use Rattle.capture_walk.specs.Leaves.{passage as passed}
use Rattle.outside_host.specs.Sinks.{AreBack, AreOut}
use Rattle.rist_words.specs.CommandLine.{Replay, SplitCommand, replay_at}
use Rattle.rist_words.specs.Ranges.{IsInSplit}
use Rattle.run_parts.specs.Causes.{fault_of}
use Rattle.run_split.specs.DoesSplit.{KeepsAroundSplit, OpensInOrder}
use Rattle.run_parts.specs.Objects.{Tells}
use Rattle.run_files.specs.Ran.{Ran}
use Rattle.run_split.specs.Splits.{IsAsReplayed, IsCutOff, IsOutput, Splits, Unsplit, output_name, IsRecordsEnd}
use Rattle.run_files.specs.Works.{ReplaysAs, form_of}
use Rattle.run_split.specs.Inside.Splitting.{AllWhole, IsAnswered, LeavesPart, LeavesWhole, SomeCut, SplitsAs}
use Rattle.run_parts.specs.declared.status.Status.{Status}
use Rattle.run_files.proofs.ExactLemmas.{ran_epochs, ran_reached}
use Rattle.run_parts.proofs.PlaceLemmas.{not_as_it_stood, at_place}
use Rattle.run_split.proofs.SplitLemmas.{writes_stand}

-- the file of an output is that of all
pub form_at : (c : SplitCommand) (v : ℕ) → form_of c.session c.pcap ≡ form_of (replay_at c v).session (replay_at c v).pcap
form_at c v = by_pcap c.pcap
  where
    by_pcap : (pcap : Option ℕ) → form_of c.session pcap ≡ form_of (replay_at c v).session pcap
    by_pcap None = refl
    by_pcap (Some port) = refl

-- a source and sinks were handed out one after another, and came back
pub record WasHandled {I O E L C : Type 0} (c : SplitCommand) (old new : Shelf I O E L C) (source spent : I) (were are : List O) : Type 0 where
  pub first : Shelf I O E L C
  pub opened : Shelf I O E L C
  pub later : Shelf I O E L C
  pub out : HandsOut old.sources first.sources c.capture source
  pub out_alone : ChangesSources old first
  pub outs : AreOut first.sinks opened.sinks c.names were
  pub outs_alone : ChangesSinks first opened
  pub back : TakesBack opened.sources later.sources c.capture spent
  pub back_alone : ChangesSources opened later
  pub backs : AreBack later.sinks new.sinks c.names are
  pub backs_alone : ChangesSinks later new
  pub many : length were ≡ length c.names
  pub as_many : length are ≡ length were

module _ {I O E L C : Type 0} (c : SplitCommand) (old new : Shelf I O E L C) (source spent : I) (were are : List O) (range : IsInSplit c)
    (h : WasHandled c old new source spent were are) where
  gave_source : new.sources c.capture ≡ Back spent
  gave_source = ap (λ s. s.sources c.capture) h.backs_alone ∙ h.back.now (ap (λ s. s.sources c.capture) h.outs_alone ∙ h.out.now)

  named : (v : ℕ) → v < length c.ports → v < length c.names
  named v less = subst (λ n. v < n) (sym range.outs.count) less

  -- the sink of an output, before and after
  was_at : (v : ℕ) → v < length c.ports → (sink : O) × (slice_get were v ≡ Some sink)
  was_at v less = at_place were v (subst (λ n. v < n) (sym h.many) (named v less))

  is_at : (v : ℕ) → v < length c.ports → (filled : O) × (slice_get are v ≡ Some filled)
  is_at v less = at_place are v (subst (λ n. v < n) (sym (h.as_many ∙ h.many)) (named v less))

  took_sink : (v : ℕ) (sink : O) → v < length c.ports → slice_get were v ≡ Some sink → old.sinks (output_name c v) ≡ Here sink
  took_sink v sink less at = sym (ap (λ s. s.sinks (output_name c v)) h.out_alone) ∙ (h.outs.was v sink (named v less) ∙ ap Here (get_or_from_slice_get were v sink sink at))

  gave_sink : (v : ℕ) (filled : O) → v < length c.ports → slice_get are v ≡ Some filled → new.sinks (output_name c v) ≡ Back filled
  gave_sink v filled less at =
      h.backs.now v filled (named v less) (ap (λ s. s.sinks (output_name c v)) h.back_alone ∙ All-get_or (λ name. h.opened.sinks name ≡ Out) c.names v [] (named v less) h.outs.now)
      ∙ ap Back (get_or_from_slice_get are v filled filled at)

  -- ---- what it leaves

  module _ (tells : Tells I O E) (fresh : All (λ sink. IsEmpty (tells.contents sink)) were) (ended : Status) (records : IsRecordsEnd ended)
      (reads : HasReadCause (fault_of ended) (tells.read_faults source) (tells.read_faults spent)) where
    empty_at : (v : ℕ) (sink : O) → slice_get were v ≡ Some sink → IsEmpty (tells.contents sink)
    empty_at v sink at =
        subst (λ x. IsEmpty (tells.contents x)) (get_or_from_slice_get were v sink sink at)
        (All-get_or (λ x. IsEmpty (tells.contents x)) were v sink (slice_get_within were v sink at) fresh)

    as_replayed : (v : ℕ) (sink filled : O) → v < length c.ports → slice_get were v ≡ Some sink → slice_get are v ≡ Some filled
        → LeavesWhole (form_of c.session c.pcap) (replay_at c v) (passed (tells.remaining source) (tells.remaining spent) (tells.contents sink) (tells.contents filled))
        (tells.write_faults sink) (tells.write_faults filled) ended
        → IsAsReplayed tells old new (replay_at c v) ended
    as_replayed v sink filled less at at_new whole =
        let ran : Ran tells old new (Replay (replay_at c v)) ended = record {
          source = source;
          spent = spent;
          sink = sink;
          filled = filled;
          took_source = h.out.was;
          gave_source = gave_source;
          took_sink = took_sink v sink less at;
          gave_sink = gave_sink v filled less at_new;
          fresh = empty_at v sink at;
          work = subst (λ f. ReplaysAs f (replay_at c v) (passed (tells.remaining source) (tells.remaining spent) (tells.contents sink) (tells.contents filled)) ended) (form_at c v) whole.work;
          read = reads;
          write = writes_stand ended (tells.write_faults sink) (tells.write_faults filled) records whole.unfailed;
          random = λ failed. absurd (subst IsRecordsEnd failed records);
        } in
        record {
          ran = ran;
          reached = λ done. ran_reached tells old new (replay_at c v) ended range.some_delay done ran;
          epochs = λ done. ran_epochs tells old new (replay_at c v) ended range.some_delay done ran;
        }

    cut_off : (v : ℕ) (sink filled : O) → v < length c.ports → slice_get were v ≡ Some sink → slice_get are v ≡ Some filled
        → LeavesPart (form_of c.session c.pcap) (replay_at c v) (passed (tells.remaining source) (tells.remaining spent) (tells.contents sink) (tells.contents filled))
        (tells.write_faults sink) (tells.write_faults filled) ended
        → IsCutOff tells old new (replay_at c v) ended
    cut_off v sink filled less at at_new part = record {
      source = source;
      spent = spent;
      sink = sink;
      filled = filled;
      took_source = h.out.was;
      gave_source = gave_source;
      took_sink = took_sink v sink less at;
      gave_sink = gave_sink v filled less at_new;
      fresh = empty_at v sink at;
      part = (
        part.work.0,
        subst (λ f. ReplaysAs f (replay_at c v) (passed (tells.remaining source) (tells.remaining spent) (tells.contents sink) part.work.0) ended) (form_at c v) part.work.1,
        part.work.2,
      );
      read = reads;
      rose = part.failed;
    }

    at_port : {X : Type 0} (xs : List X) (v : ℕ) (x : X) → slice_get xs v ≡ Some x → length xs ≡ length c.names → v < length c.ports
    at_port xs v x at count = subst (λ n. v < n) (count ∙ range.outs.count) (slice_get_within xs v x at)

    output : (v : ℕ) (sink filled : O) → v < length c.ports → slice_get were v ≡ Some sink → slice_get are v ≡ Some filled
        → LeavesWhole (form_of c.session c.pcap) (replay_at c v) (passed (tells.remaining source) (tells.remaining spent) (tells.contents sink) (tells.contents filled))
        (tells.write_faults sink) (tells.write_faults filled) ended
        ⊎ LeavesPart (form_of c.session c.pcap) (replay_at c v) (passed (tells.remaining source) (tells.remaining spent) (tells.contents sink) (tells.contents filled))
        (tells.write_faults sink) (tells.write_faults filled) ended
        → IsOutput tells old new (replay_at c v) ended
    output v sink filled less at at_new (inl whole) = inl (as_replayed v sink filled less at at_new whole)
    output v sink filled less at at_new (inr part) = inr (cut_off v sink filled less at at_new part)

    split_as : (status : Status) → IsAnswered (form_of c.session c.pcap) c tells.contents tells.write_faults (tells.remaining source) (tells.remaining spent) were are ended status
        → Splits tells old new c status
    split_as status (AllWhole whole is) =
        let each : (v : ℕ) → v < length c.ports → IsAsReplayed tells old new (replay_at c v) ended = λ v less.
        let sink = was_at v less in
        let filled = is_at v less in
        as_replayed v sink.0 filled.0 less sink.1 filled.1 (whole v sink.0 filled.0 sink.1 filled.1) in
        record {
          ended = ended;
          records = records;
          outputs = λ v less. inl (each v less);
          answer = inl (is, λ v less. subst (λ x. IsAsReplayed tells old new (replay_at c v) x) (sym is) (each v less));
        }
    split_as status (SomeCut outputs cut is) = record {
      ended = ended;
      records = records;
      outputs = λ v less.
          let sink = was_at v less in
          let filled = is_at v less in
          output v sink.0 filled.0 less sink.1 filled.1 (outputs v sink.0 filled.0 sink.1 filled.1);
      answer = inr (
        is,
        record {
          output = cut.place;
          among = at_port were cut.place cut.sink cut.was h.many;
          cut = cut_off cut.place cut.sink cut.filled (at_port were cut.place cut.sink cut.was h.many) cut.was cut.is cut.part;
        },
      );
    }

  pub split_done : (tells : Tells I O E) → All (λ sink. IsEmpty (tells.contents sink)) were → (status : Status)
      → SplitsAs (form_of c.session c.pcap) c tells.contents tells.write_faults (tells.remaining source) (tells.remaining spent) (tells.read_faults source) (tells.read_faults spent) were are status
      → Splits tells old new c status
  split_done tells fresh status s = split_as tells fresh s.ended s.records s.read status s.answered

  pub split_around : KeepsAroundSplit old new c
  split_around = record {
    sources = λ n other. ap (λ s. s.sources n) h.backs_alone ∙ (h.back.others n other ∙ (ap (λ s. s.sources n) h.outs_alone ∙ h.out.others n other));
    source = inr (source, spent, h.out.was, gave_source);
    sinks = λ name none. h.backs.others name none ∙ (ap (λ s. s.sinks name) h.back_alone ∙ (h.outs.others name none ∙ ap (λ s. s.sinks name) h.out_alone));
    outputs = λ v less.
        let sink = was_at v less in
        let filled = is_at v less in
        inr (sink.0, filled.0, took_sink v sink.0 less sink.1, gave_sink v filled.0 less filled.1);
    entropies = λ place. ap (λ s. s.entropies place) h.backs_alone ∙ (ap (λ s. s.entropies place) h.back_alone ∙ (ap (λ s. s.entropies place) h.outs_alone ∙ ap (λ s. s.entropies place) h.out_alone));
    live = record {
      links = ap (λ s. s.links) h.backs_alone ∙ (ap (λ s. s.links) h.back_alone ∙ (ap (λ s. s.links) h.outs_alone ∙ ap (λ s. s.links) h.out_alone));
      opened = ap (λ s. s.opened_links) h.backs_alone ∙ (ap (λ s. s.opened_links) h.back_alone ∙ (ap (λ s. s.opened_links) h.outs_alone ∙ ap (λ s. s.opened_links) h.out_alone));
      clocks = ap (λ s. s.clocks) h.backs_alone ∙ (ap (λ s. s.clocks) h.back_alone ∙ (ap (λ s. s.clocks) h.outs_alone ∙ ap (λ s. s.clocks) h.out_alone));
      next = ap (λ s. s.next_clock) h.backs_alone ∙ (ap (λ s. s.next_clock) h.back_alone ∙ (ap (λ s. s.next_clock) h.outs_alone ∙ ap (λ s. s.next_clock) h.out_alone));
      report = ap (λ s. s.report) h.backs_alone ∙ (ap (λ s. s.report) h.back_alone ∙ (ap (λ s. s.report) h.outs_alone ∙ ap (λ s. s.report) h.out_alone));
    };
  }

  -- all was opened, and nothing stands as it stood
  pub split_order : OpensInOrder old new c
  split_order = record {
    after_source = λ same. absurd (not_as_it_stood (old.sources c.capture) (new.sources c.capture) source spent h.out.was gave_source same);
    after_another = λ i j default less inside same.
        let low : i < length c.names = omega (arith, less, inside) in
        let at : i < length c.ports = subst (λ n. i < n) range.outs.count low in
        let sink = was_at i at in
        let filled = is_at i at in
        let name = get_or_default c.names i default [] low in
        absurd (not_as_it_stood (old.sinks (output_name c i)) (new.sinks (output_name c i)) sink.0 filled.0 (took_sink i sink.0 at sink.1) (gave_sink i filled.0 at filled.1)
        (subst (λ n. new.sinks n ≡ old.sinks n) name same));
  }

  -- nothing of it was read or written
  pub split_undone : spent ≡ source → are ≡ were → Unsplit old new c
  split_undone unread unwritten = record {
    source = inr (source, h.out.was, subst (λ x. new.sources c.capture ≡ Back x) unread gave_source);
    sinks = λ v less.
        let sink = was_at v less in
        inr (sink.0, took_sink v sink.0 less sink.1, gave_sink v sink.0 less (subst (λ l. slice_get l v ≡ Some sink.0) (sym unwritten) sink.1));
  }
