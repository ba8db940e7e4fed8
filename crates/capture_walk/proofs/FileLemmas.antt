-- A file's records, and a walk over all of them.
use Rattle.std.proofs.Common.{◌≡◌, ℕ, ◌^◌, ◌≤◌, List, [], ◌++◌, length, Some, refl, sym, ap, ◌∙◌, subst, append-nil, IfSome}
use Rattle.std.specs.Prelude.{Result, Ok, Err}
use Rattle.outside_io.specs.Told.{Passage, Appends}
use Rattle.capture_file.specs.Capture.{Record, IsCapture, IsFront, magic}
use Rattle.capture_file.specs.declared.reader.CapKind.{CapKind}
use Rattle.capture_file.proofs.FormatLemmas.{one_reading, no_capture, no_record_in_nothing}
use Rattle.pcap_file.specs.Pcap.{Captured}
use Rattle.pcap_file.specs.Converted.{converted}
use Rattle.pcap_file.specs.declared.bad.PcapKind.{PcapKind}
use Rattle.pcap_file.proofs.FormatLemmas.{no-file, one-list-of-frames}
use Rattle.capture_walk.specs.Form.{Form, Capture, Pcap, IsFile, IsBadCapture, IsBadPcap, IsTooLong}
use Rattle.capture_walk.specs.Leaves.{Leaves, EndsAfter}
use Rattle.capture_walk.specs.declared.walk_bad.WalkBad.{WalkBad}
use Rattle.capture_walk.specs.declared.walk_bad.WalkBad.TheVariants as bads
use Rattle.capture_walk.proofs.CompleteLemmas.{no_too_long}
use Rattle.capture_walk.proofs.PortCompleteLemmas.{no_long_packet}

-- a capture's records are the whole records at its front
front_of : (b : List ℕ) (rs : List Record) → IsCapture rs b → IsFront rs b
front_of b rs c = record {
  each = c.each;
  rest = [];
  whole = c.whole ∙ ap (λ l. magic ++ l) (sym (append-nil _));
  no_more = no_record_in_nothing;
}

-- octets are a file of one list of records
pub one_list : (form : Form) (b : List ℕ) (rs ss : List Record) → IsFile form rs b → IsFile form ss b → rs ≡ ss
one_list Capture b rs ss p q = one_reading b rs ss (front_of b rs p) (front_of b ss q)
one_list (Pcap profile port) b rs ss p q =
    p.2 ∙ ap (λ (f : List Captured). converted f profile port) (one-list-of-frames p.0 q.0 b p.1 q.1) ∙ sym q.2

pub written_whole : (form : Form) (so_far whole : List Record → List ℕ) (ahead : ℕ) (p : Passage) (b : List ℕ) (rs : List Record) → p.had ≡ Some b → IsFile form rs b
    → Leaves form so_far whole ahead p (Ok tt) → Appends p.held p.holds (whole rs)
written_whole form so_far whole ahead p b rs told file left =
    let l = subst (λ o. IfSome o (λ b. (done : List Record) × EndsAfter form 0 b p.left done (Ok tt) × Appends p.held p.holds (whole done))) told left in
    subst (λ (done : List Record). Appends p.held p.holds (whole done)) (one_list form b l.0 rs l.1.1 file) l.2

no_bad_capture : (form : Form) (done rs : List Record) (b : List ℕ) (kind : CapKind) (at : ℕ) → IsBadCapture form done b kind at → IsFile form rs b → ⊥
no_bad_capture Capture done rs b kind at bad file = no_capture b kind at rs bad.1 bad.0 file
no_bad_capture (Pcap profile port) done rs b kind at bad file = bad

no_bad_pcap : (form : Form) (done rs : List Record) (b : List ℕ) (kind : PcapKind) (at : ℕ) → IsBadPcap form done b kind at → IsFile form rs b → ⊥
no_bad_pcap Capture done rs b kind at bad file = bad
no_bad_pcap (Pcap profile port) done rs b kind at bad file = no-file b kind at file.1.format file.1.packets bad.1 bad.0 file.1.file

none_too_long : (form : Form) (done rs : List Record) (b : List ℕ) → IsTooLong form done b → IsFile form rs b → length b ≤ 2 ^ 40 → ⊥
none_too_long Capture done rs b bad file bound = no_too_long b bad.0 rs bad.1 file bound
none_too_long (Pcap profile port) done rs b bad file bound = no_long_packet b bad.0 file.1.format file.1.packets bad.1 file.1.file bound

-- a walk over a file within the greatest offset, in which nothing failed and no memory was refused, came to the end
pub walk_completes : (form : Form) (so_far whole : List Record → List ℕ) (ahead : ℕ) (p : Passage) (end : Result Unit WalkBad) (b : List ℕ) (rs : List Record) → p.had ≡ Some b → IsFile form rs b → length b ≤ 2 ^ 40
    → (end ≡ Err bads.ReadFault → ⊥) → (end ≡ Err bads.WriteFault → ⊥) → (end ≡ Err bads.Memory → ⊥) → Leaves form so_far whole ahead p end → end ≡ Ok tt
walk_completes form so_far whole ahead p (Ok x) b rs told c bound read write memory left = refl
walk_completes form so_far whole ahead p (Err (bads.BadCapture kind at)) b rs told c bound read write memory left =
    let l = subst (λ o. IfSome o (λ b. (done : List Record) × EndsAfter form 0 b p.left done (Err (bads.BadCapture kind at)) × Appends p.held p.holds (whole done))) told left in
    absurd (no_bad_capture form l.0 rs b kind at l.1 c)
walk_completes form so_far whole ahead p (Err (bads.BadPcap kind at)) b rs told c bound read write memory left =
    let l = subst (λ o. IfSome o (λ b. (done : List Record) × EndsAfter form 0 b p.left done (Err (bads.BadPcap kind at)) × Appends p.held p.holds (whole done))) told left in
    absurd (no_bad_pcap form l.0 rs b kind at l.1 c)
walk_completes form so_far whole ahead p (Err bads.TooLong) b rs told c bound read write memory left =
    let l = subst (λ o. IfSome o (λ b. (done : List Record) × EndsAfter form 0 b p.left done (Err bads.TooLong) × Appends p.held p.holds (whole done))) told left in
    absurd (none_too_long form l.0 rs b l.1 c bound)
walk_completes form so_far whole ahead p (Err bads.ReadFault) b rs told c bound read write memory left = absurd (read refl)
walk_completes form so_far whole ahead p (Err bads.WriteFault) b rs told c bound read write memory left = absurd (write refl)
walk_completes form so_far whole ahead p (Err bads.Memory) b rs told c bound read write memory left = absurd (memory refl)
