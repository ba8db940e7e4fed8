-- A reader of a pcap file's datagrams comes to a fault.
use Rattle.std.proofs.Common.{◌≡◌, ◌≢◌, ◌⊎◌, ℕ, ◌+◌, ◌^◌, ◌<◌, ◌≤◌, true, false, List, [], ◌∷◌, ◌++◌, length, take, map, flat_map, All, refl, sym, ap, ◌∙◌, subst, append_assoc, append-nil, arith, length-append, IfSome}
use mathlib.Core.Logic.{inl, inr}
use Rattle.std.specs.Prelude.{Result, Ok, Err, if◌then◌else◌, nat_lt}
use Rattle.std.specs.Int.{w32, from_be_bytes}
use Rattle.std.specs.declared.option.Option.{Option}
use Rattle.std.specs.declared.option.Option.TheVariants.{None, Some}
use Rattle.std.proofs.lemmas.Bool.{cases_lt}
use Rattle.std.proofs.lemmas.Bool.Decides.{nat_tests}
use Rattle.std.proofs.lemmas.List.{take_all}
use Rattle.link_channels.specs.declared.profile.Profile.{Profile}
use Rattle.outside_io.specs.Told.{Takes, IsReadTo}
use Rattle.outside_io.proofs.ToldLemmas.{takes_both}
use Rattle.capture_file.specs.Capture.{Record}
use Rattle.pcap_file.specs.Pcap.{Packet, Fits, IsPcap, Captured, spelling, frame_of}
use Rattle.pcap_file.specs.Converted.{converted}
use Rattle.pcap_file.specs.Reader.{ReaderState}
use Rattle.pcap_file.specs.Reading.{ReadsNext, IsBadAt, IsBadRecord, IsCutShort, IsUnfinished, BeginsWith, NoRecord}
use Rattle.pcap_file.specs.Tests.{BadAt, FaultIn, fault_at, fault_behind, fault_of_header, kind_of}
use Rattle.pcap_file.specs.declared.format.ByteOrder.{ByteOrder}
use Rattle.pcap_file.specs.declared.format.Fraction.{Fraction}
use Rattle.pcap_file.specs.declared.format.Format.{Format}
use Rattle.pcap_file.specs.declared.bad.PcapKind.{PcapKind}
use Rattle.pcap_file.specs.declared.bad.PcapKind.TheVariants as kinds
use Rattle.pcap_file.specs.declared.bad.PcapBad.{PcapBad}
use Rattle.pcap_file.specs.declared.bad.PcapBad.TheVariants.{Bad, ReadFault}
use Rattle.pcap_file.proofs.TakenLemmas.{same_some}
use Rattle.pcap_file.proofs.FormatLemmas.{no-record-at-fault}
use Rattle.capture_walk.specs.Form.{Pcap, Fronts, HasNoHeader, frames_before}
use Rattle.capture_walk.specs.Leaves.{EndsAfter, walk_bad_of_pcap}
use Rattle.capture_walk.specs.Port.{PortState}
use Rattle.capture_walk.specs.Inside.Frames.{IsTaken, HasTaken, HasReadPort, IsBadTurn}
use Rattle.capture_walk.specs.declared.walk_bad.WalkBad.{WalkBad}
use Rattle.capture_walk.specs.declared.walk_bad.WalkBad.TheVariants as bads
use Rattle.capture_walk.proofs.GoingLemmas.{left_of}
use Rattle.capture_walk.proofs.PortLemmas.{enter}

-- what is left of a source that told
remains : (known : Option Format) (at : ℕ) (b : List ℕ) (a : Option (List ℕ)) (frames : List Captured) → HasTaken known at (Some b) a frames → (c : List ℕ) × (a ≡ Some c)
remains None at b a frames t = let l = left_of b [] a t.1 in (l.rest, l.told)
remains (Some format) at b a frames t = let l = left_of b _ a t.taken in (l.rest, l.told)

-- a test of a record fails
bad_record : (known : Option Format) (at : ℕ) (b c : List ℕ) (frames : List Captured) (kind : PcapKind) (place : ℕ) → HasTaken known at (Some b) (Some c) frames → place ≡ at
    → IsBadRecord known c kind place → (bad : BadAt b kind place) × (frames ≡ frames_before bad)
bad_record known at b c frames kind place t here h =
    let told : Takes (Some c) (Some h.rest) (h.header ++ []) = ap Some (h.whole ∙ ap (λ (l : List ℕ). l ++ h.rest) (sym (append-nil h.header))) in
    let e = enter known h.format h.header [] at (Some b) (Some c) (Some h.rest) frames t h.begins told in
    let spelled : List ℕ = flat_map (spelling h.format.order) e.packets in
    let whole : b ≡ ((e.header ++ spelled) ++ []) ++ h.rest = same_some e.taken in (
      inr (record {
        format = h.format;
        header = e.header;
        done = e.packets;
        rest = h.rest;
        is_header = e.is_header;
        each = e.each;
        whole = whole ∙ ap (λ (l : List ℕ). l ++ h.rest) (append-nil (e.header ++ spelled)) ∙ append_assoc e.header spelled h.rest;
        place = here ∙ e.place;
        some = h.some;
        fails = h.fails;
      }),
      e.same,
    )

bad_at : (known : Option Format) (at : ℕ) (b c : List ℕ) (frames : List Captured) (kind : PcapKind) (place : ℕ) → HasTaken known at (Some b) (Some c) frames
    → IsBadAt known at c kind place → (bad : BadAt b kind place) × (frames ≡ frames_before bad)
bad_at None at b c frames kind place t (inl h) =
    let all : b ≡ c = same_some t.1 in
    (inl (h.1, subst (λ (l : List ℕ). fault_of_header (take 24 l) ≡ Some kind) (sym all) h.2), t.2)
bad_at (Some format) at b c frames kind place t (inl h) = absurd (known_none h.0)
  where
    known_none : {A : Type 0} {x : A} → ◌≡◌ {A = Option A} (Some x) None → ⊥
    known_none e = cc
bad_at None at b c frames kind place t (inr h) = bad_record None at b c frames kind place t h.0 h.1
bad_at (Some format) at b c frames kind place t (inr h) = bad_record (Some format) at b c frames kind place t h.0 h.1

told_bad : (known : Option Format) (at : ℕ) (b : List ℕ) (a : Option (List ℕ)) (frames : List Captured) (kind : PcapKind) (place : ℕ) → HasTaken known at (Some b) a frames
    → IfSome a (λ c. IsBadAt known at c kind place) → (bad : BadAt b kind place) × (frames ≡ frames_before bad)
told_bad known at b a frames kind place t told =
    let l = remains known at b a frames t in
    bad_at known at b l.0 frames kind place (subst (λ (o : Option (List ℕ)). HasTaken known at (Some b) o frames) l.1 t)
    (subst (λ (o : Option (List ℕ)). IfSome o (λ c. IsBadAt known at c kind place)) l.1 told)

-- the frames before a fault are those of the whole records at the front
bad_fronts : (b : List ℕ) (kind : PcapKind) (place : ℕ) (profile : Profile) (port : ℕ) → kind ≢ kinds.TooLong → (bad : BadAt b kind place)
    → Fronts (Pcap profile port) (converted (frames_before bad) profile port) b
bad_fronts b kind place profile port other (inl header) = inr (refl, (kind, header.1))
bad_fronts b kind place profile port other (inr fault) =
    let spelled : List ℕ = flat_map (spelling fault.format.order) fault.done in
    inl (record {
      format = fault.format;
      packets = fault.done;
      front = fault.header ++ spelled;
      rest = fault.rest;
      file = record { header = fault.header; is_header = fault.is_header; each = fault.each; whole = refl };
      whole = fault.whole ∙ sym (append_assoc fault.header spelled fault.rest);
      no_more = no-record-at-fault fault.format.order place kind fault.rest fault.fails other;
      same = refl;
    })

-- a test fails behind these records
ends_bad : (b : List ℕ) (left : Option (List ℕ)) (done : List Record) (frames : List Captured) (profile : Profile) (port : ℕ) (kind : PcapKind) (place : ℕ) → kind ≢ kinds.TooLong
    → done ≡ converted frames profile port → (bad : BadAt b kind place) × (frames ≡ frames_before bad) → EndsAfter (Pcap profile port) 0 b left done (Err (bads.BadPcap kind place))
ends_bad b left done frames profile port kind place other same bad = (
  other,
  bad.0,
  subst (λ (rs : List Record). Fronts (Pcap profile port) rs b) (sym (same ∙ ap (λ (f : List Captured). converted f profile port) bad.1))
      (bad_fronts b kind place profile port other bad.0),
)

-- fewer octets than a header's are none
short_behind : (o : Option (ByteOrder × Fraction)) (l : List ℕ) → length l < 24 → (kind : PcapKind) × (fault_behind o l ≡ Some kind)
short_behind None l short = (kinds.Magic, refl)
short_behind (Some kind) l short = (kinds.Truncated, rw (less (length l) short) refl)
  where
    less : (n : ℕ) → n < 24 → nat_lt n 24 ≡ true
    less n short = grind (arith, nat_tests)

short_header : (part : List ℕ) → length part < 24 → HasNoHeader part
short_header part short = subst (λ (l : List ℕ). (kind : PcapKind) × (fault_of_header l ≡ Some kind)) (sym (take_all 24 part (omega arith))) (elim (cases_lt (length part) 4) [
  | inl lt ↦ (kinds.Magic, rw (less (length part) lt) refl)
  | inr le ↦
      let behind = short_behind (kind_of (from_be_bytes w32 (take 4 part))) part short in
      (behind.0, rw (more (length part) le) behind.1)
])
  where
    less : (n : ℕ) → n < 4 → nat_lt n 4 ≡ true
    less n short = grind (arith, nat_tests)

    more : (n : ℕ) → 4 ≤ n → nat_lt n 4 ≡ false
    more n long = grind (arith, nat_tests)

-- what was read before a fault is no whole header
cut_header : (b : List ℕ) (a c : Option (List ℕ)) (done : List Record) (profile : Profile) (port : ℕ) (part : List ℕ) → Takes (Some b) a [] → done ≡ [] → Takes a c part → length part < 24
    → EndsAfter (Pcap profile port) 0 b c done (Err bads.ReadFault)
cut_header b a c done profile port part none nothing told short =
    let l = left_of b part c (takes_both (Some b) a c [] part none told) in
    (part, record { more = []; rest = l.rest; whole = l.whole; told = l.told; within = omega arith }, inr (nothing, short_header part short))

-- or a header and whole records, and no whole one behind them
cut_record : (known : Option Format) (at : ℕ) (b : List ℕ) (a c : Option (List ℕ)) (done : List Record) (frames : List Captured) (profile : Profile) (port : ℕ) (format : Format) (header rest : List ℕ)
    → HasTaken known at (Some b) a frames → done ≡ converted frames profile port → BeginsWith known format header → Takes a c (header ++ rest) → NoRecord format.order rest
    → EndsAfter (Pcap profile port) 0 b c done (Err bads.ReadFault)
cut_record known at b a c done frames profile port format header rest t same begins told no_more =
    let e = enter known format header rest at (Some b) a c frames t begins told in
    let front : List ℕ = e.header ++ flat_map (spelling format.order) e.packets in
    let l = left_of b (front ++ rest) c e.taken in (
      front ++ rest,
      record { more = []; rest = l.rest; whole = l.whole; told = l.told; within = omega arith },
      inl (record {
        format = format;
        packets = e.packets;
        front = front;
        rest = rest;
        file = record { header = e.header; is_header = e.is_header; each = e.each; whole = refl };
        whole = refl;
        no_more = no_more;
        same = same ∙ ap (λ (f : List Captured). converted f profile port) e.same;
      }),
    )

ends_cut : (known : Option Format) (at : ℕ) (b : List ℕ) (a c : Option (List ℕ)) (done : List Record) (frames : List Captured) (profile : Profile) (port : ℕ) (part : List ℕ)
    → HasTaken known at (Some b) a frames → done ≡ converted frames profile port → Takes a c part → IsUnfinished known part → EndsAfter (Pcap profile port) 0 b c done (Err bads.ReadFault)
ends_cut None at b a c done frames profile port part t same told (inl short) =
    cut_header b a c done profile port part t.1 (same ∙ ap (λ (f : List Captured). converted f profile port) t.2) told short.1
ends_cut (Some format) at b a c done frames profile port part t same told (inl short) = absurd (known_none short.0)
  where
    known_none : {A : Type 0} {x : A} → ◌≡◌ {A = Option A} (Some x) None → ⊥
    known_none e = cc
ends_cut known at b a c done frames profile port part t same told (inr more) =
    cut_record known at b a c done frames profile port more.0 more.1 more.2 t same more.3 (subst (Takes a c) more.4 told) more.5

-- an error of the reader says how the records ended
ends_by : (b : List ℕ) (old new : ReaderState) (done : List Record) (frames : List Captured) (profile : Profile) (port : ℕ) (block : List ℕ) (error : PcapBad)
    → HasTaken old.format old.at (Some b) old.remaining frames → done ≡ converted frames profile port → ReadsNext old new block (Err error)
    → EndsAfter (Pcap profile port) 0 b new.remaining done (Err (walk_bad_of_pcap error))
ends_by b old new done frames profile port block (Bad kinds.TooLong place) t same told =
    let bad = told_bad old.format old.at b old.remaining frames kinds.TooLong place t told in
    (place, bad.0, same ∙ ap (λ (f : List Captured). converted f profile port) bad.1)
ends_by b old new done frames profile port block (Bad kinds.Magic place) t same told =
    ends_bad b new.remaining done frames profile port kinds.Magic place (λ e. cc) same (told_bad old.format old.at b old.remaining frames kinds.Magic place t told)
ends_by b old new done frames profile port block (Bad kinds.Truncated place) t same told =
    ends_bad b new.remaining done frames profile port kinds.Truncated place (λ e. cc) same (told_bad old.format old.at b old.remaining frames kinds.Truncated place t told)
ends_by b old new done frames profile port block (Bad kinds.Version place) t same told =
    ends_bad b new.remaining done frames profile port kinds.Version place (λ e. cc) same (told_bad old.format old.at b old.remaining frames kinds.Version place t told)
ends_by b old new done frames profile port block (Bad kinds.LinkType place) t same told =
    ends_bad b new.remaining done frames profile port kinds.LinkType place (λ e. cc) same (told_bad old.format old.at b old.remaining frames kinds.LinkType place t told)
ends_by b old new done frames profile port block (Bad kinds.Long place) t same told =
    ends_bad b new.remaining done frames profile port kinds.Long place (λ e. cc) same (told_bad old.format old.at b old.remaining frames kinds.Long place t told)
ends_by b old new done frames profile port block ReadFault t same told =
    ends_cut old.format old.at b old.remaining new.remaining done frames profile port told.0 t same told.1 told.2

-- where the source may not tell
pub turns_bad : (first : Option (List ℕ)) (old new : PortState) (done : List Record) (bad : WalkBad) → HasReadPort first old done → IsBadTurn old.frames new.frames bad
    → IfSome first (λ b. EndsAfter (Pcap old.profile old.port) 0 b new.frames.remaining done (Err bad))
turns_bad None old new done bad read turn = tt
turns_bad (Some b) old new done bad read turn =
    subst (λ (w : WalkBad). EndsAfter (Pcap old.profile old.port) 0 b new.frames.remaining done (Err w)) (sym turn.is)
    (ends_by b old.frames new.frames done read.frames old.profile old.port turn.block turn.error read.taken read.same turn.reads)
