-- A command whose calls don't fail comes to its end, or memory is refused.
use Rattle.std.proofs.Common.{◌≡◌, ◌⊎◌, ℕ, ◌≤◌, ◌^◌, List, ◌++◌, length, length-append, Some, None, Option, refl, sym}
use Rattle.std.proofs.Common.{ap, ◌∙◌, subst, arith}
use mathlib.Core.Logic.{inl, inr}
use Rattle.std.specs.Prelude.{Result, Ok, Err}
use Rattle.outside_io.specs.Told.{Passage, Takes}
use Rattle.outside_host.specs.Shelf.{Shelf}
use Rattle.outside_host.specs.declared.host.Place.TheVariants.{Here}
use Rattle.capture_file.specs.Capture.{Record}
use Rattle.block_source.specs.Block.{most_ahead}
use Rattle.capture_walk.specs.Form.{Form}
use Rattle.capture_walk.proofs.FileLemmas.{walk_completes}
use Rattle.psk_seal.specs.Sealer.{SealerState}
use Rattle.rist_pack.specs.Packing.{Packs}
use Rattle.rist_pack.specs.Capture.{packed_record, nonces_of}
use Rattle.rist_pack.specs.declared.bad.PackBad.{PackBad}
use Rattle.rist_pack.specs.declared.bad.PackBad.TheVariants as packs
use Rattle.rist_words.specs.CommandLine.{CommandLine, Replay, Show, Count, Report, Pack, Split, Send, Recv, Fan, Gate}
use Rattle.rist_words.specs.CommandLine.{Drill}
use Rattle.outside_io.specs.Causes.{HasReadCause, HasWriteCause}
use Rattle.run_parts.specs.Sessions.{session_with}
use Rattle.run_files.specs.Sessions.{pack_settings}
use Rattle.run_parts.specs.Causes.{fault_of}
use Rattle.run_parts.specs.Objects.{Tells, passage}
use Rattle.run_files.specs.Works.{Works, Walks, form_of, pack_status}
use Rattle.run_parts.specs.Statuses.{walk_status}
use Rattle.run_files.specs.Ran.{Ran}
use Rattle.run_parts.specs.Names.{source_name}
use Rattle.run_files.specs.Complete.{IsWholeFile, IsWholeInput, Completes}
use Rattle.run_parts.specs.Complete.{NoneFailed}
use Rattle.run_parts.specs.declared.status.Status.{Status}
use Rattle.run_parts.specs.declared.status.Status.TheVariants as statuses
use Rattle.run_parts.proofs.PlaceLemmas.{same_here}

is_memory : (s : Status) → (s ≡ statuses.Memory) ⊎ (s ≡ statuses.Memory → ⊥)
is_memory statuses.Memory = inl refl
is_memory statuses.Done = inr (λ e. cc)
is_memory statuses.Usage = inr (λ e. cc)
is_memory statuses.OpenFault = inr (λ e. cc)
is_memory statuses.ReadFault = inr (λ e. cc)
is_memory statuses.WriteFault = inr (λ e. cc)
is_memory (statuses.BadCapture kind at) = inr (λ e. cc)
is_memory statuses.EntropyFault = inr (λ e. cc)
is_memory statuses.TooLong = inr (λ e. cc)
is_memory (statuses.BadPcap kind at) = inr (λ e. cc)
is_memory statuses.LinksDown = inr (λ e. cc)
is_memory statuses.TraceFull = inr (λ e. cc)
is_memory (statuses.Torn tear) = inr (λ e. cc)
is_memory statuses.Spent = inr (λ e. cc)
is_memory statuses.TurnsSpent = inr (λ e. cc)

walk_ends : (form : Form) (so_far whole : List Record → List ℕ) (b : List ℕ) (p : Passage) (status : Status) → IsWholeFile form b → p.had ≡ Some b
    → (status ≡ statuses.ReadFault → ⊥) → (status ≡ statuses.WriteFault → ⊥) → (status ≡ statuses.Memory → ⊥) → Walks form so_far whole p status → status ≡ statuses.Done
walk_ends form so_far whole b p status capture told read write memory walks =
    walks.1 ∙ ap walk_status (walk_completes form so_far whole most_ahead p walks.0 b capture.0.0 told capture.0.1 capture.1
    (λ e. read (walks.1 ∙ ap walk_status e)) (λ e. write (walks.1 ∙ ap walk_status e)) (λ e. memory (walks.1 ∙ ap walk_status e)) walks.2)

taken_within : (b octets : List ℕ) (left : Option (List ℕ)) → Takes (Some b) left octets → length octets ≤ length b
taken_within b octets None took = cc
taken_within b octets (Some rest) took =
    let same : b ≡ octets ++ rest = cc in
    omega (arith, ap length same, length-append octets rest)

pack_ends : (record_of : ℕ → List ℕ → Record) (b : List ℕ) (p : Passage) (status : Status) (end : Result Unit PackBad) → length b ≤ 2 ^ 40 → p.had ≡ Some b → status ≡ pack_status end
    → (status ≡ statuses.ReadFault → ⊥) → (status ≡ statuses.WriteFault → ⊥) → Packs record_of p end → status ≡ statuses.Done
pack_ends record_of b p status (Ok x) bound told is read write packed = is
pack_ends record_of b p status (Err packs.ReadFault) bound told is read write packed = absurd (read is)
pack_ends record_of b p status (Err packs.WriteFault) bound told is read write packed = absurd (write is)
pack_ends record_of b p status (Err packs.TooLong) bound told is read write packed =
    let within = taken_within b packed.0 p.left (subst (λ o. Takes o p.left packed.0) told packed.1) in
    absurd (omega (arith, within, bound, packed.2))

work_ends : (IsKnown : SealerState → Type 0) (c : CommandLine) (b : List ℕ) (p : Passage) (status : Status) → IsWholeInput c b → p.had ≡ Some b
    → (status ≡ statuses.ReadFault → ⊥) → (status ≡ statuses.WriteFault → ⊥) → (status ≡ statuses.EntropyFault → ⊥) → (status ≡ statuses.Memory → ⊥) → Works IsKnown c p status → status ≡ statuses.Done
work_ends IsKnown (Replay c) b p status input told read write words memory work = walk_ends (form_of c.session c.pcap) _ _ b p status input told read write memory work
work_ends IsKnown (Show c) b p status input told read write words memory work = walk_ends (form_of c.session c.pcap) _ _ b p status input told read write memory work
work_ends IsKnown (Count c) b p status input told read write words memory work = walk_ends (form_of c.session c.pcap) _ _ b p status input told read write memory work
work_ends IsKnown (Report c) b p status input told read write words memory work = walk_ends (form_of c.session c.pcap) _ _ b p status input told read write memory work
work_ends IsKnown (Pack c) b p status input told read write words memory (inl failed) = absurd (words failed.0)
work_ends IsKnown (Pack c) b p status input told read write words memory (inr work) =
    pack_ends (packed_record (session_with c.session c.stream.nulls c.stream.wide) (nonces_of work.0) (pack_settings c)) b p status work.3.0 input told work.3.1 read write work.3.2
work_ends IsKnown (Split c) b p status input told read write words memory work = absurd work
work_ends IsKnown (Send c) b p status input told read write words memory work = absurd work
work_ends IsKnown (Recv c) b p status input told read write words memory work = absurd work
work_ends IsKnown (Fan c) b p status input told read write words memory work = absurd work
work_ends IsKnown (Gate c) b p status input told read write words memory work = absurd work
work_ends IsKnown (Drill c) b p status input told read write words memory work = absurd work

ran_done : {I O E L C : Type 0} (tells : Tells I O E) (old new : Shelf I O E L C) (c : CommandLine) (status : Status)
    (source : I) (b : List ℕ) → old.sources (source_name c) ≡ Here source → tells.remaining source ≡ Some b → IsWholeInput c b → NoneFailed tells old new c
    → (status ≡ statuses.Memory → ⊥) → Ran tells old new c status → status ≡ statuses.Done
ran_done tells old new c status source b here told input none memory ran =
    work_ends _ c b (passage tells ran.source ran.spent ran.sink ran.filled) status input
    (ap tells.remaining (same_here ran.source source (sym ran.took_source ∙ here)) ∙ told)
    (λ e. none.reads ran.source ran.spent ran.took_source ran.gave_source (subst (λ s. HasReadCause (fault_of s) (tells.read_faults ran.source) (tells.read_faults ran.spent)) e ran.read))
    (λ e. none.writes ran.sink ran.filled ran.took_sink ran.gave_sink (subst (λ s. HasWriteCause (fault_of s) (tells.write_faults ran.sink) (tells.write_faults ran.filled)) e ran.write))
    (λ e. none.words (ran.random e)) memory ran.work

done_or_memory : (status : Status) → (status ≡ statuses.Memory) ⊎ (status ≡ statuses.Memory → ⊥) → ((status ≡ statuses.Memory → ⊥) → status ≡ statuses.Done) → (status ≡ statuses.Done) ⊎ (status ≡ statuses.Memory)
done_or_memory status (inl memory) done = inr memory
done_or_memory status (inr other) done = inl (done other)

-- a run in which nothing failed is done, or memory was refused
pub ran_completes : {I O E L C : Type 0} (tells : Tells I O E) (old new : Shelf I O E L C) (c : CommandLine) (status : Status)
    → (status ≡ statuses.OpenFault → ⊥) → ((status ≡ statuses.OpenFault → ⊥) → (status ≡ statuses.Memory → ⊥) → Ran tells old new c status)
    → Completes tells old new c status
ran_completes tells old new c status opened ran source b here told input none =
    done_or_memory status (is_memory status) (λ memory.
    ran_done tells old new c status source b here told input none memory (ran opened memory))
