-- A reader of a pcap file's datagrams goes on from frame to frame.
use Rattle.std.proofs.Common.{◌≡◌, ℕ, ◌+◌, List, [], ◌∷◌, ◌++◌, length, flat_map, refl, sym, ap, ap₂, ◌∙◌, subst, append_assoc, append-nil, arith, length-append, IfSome}
use Rattle.std.specs.Prelude.{Ok}
use Rattle.std.specs.declared.option.Option.{Option}
use Rattle.std.specs.declared.option.Option.TheVariants.{None, Some}
use Rattle.std.specs.Option.{option_map}
use Rattle.std.proofs.lemmas.List.{map-append}
use Rattle.std.proofs.lemmas.List.Elements.{All-push, All-nil}
use Rattle.std.proofs.lemmas.Grind.{flat_map-append}
use Rattle.link_channels.specs.declared.profile.Profile.{Profile}
use Rattle.outside_io.specs.Told.{Takes, IsEmpty}
use Rattle.outside_io.proofs.ToldLemmas.{takes_both, takes_none}
use Rattle.capture_file.specs.Capture.{Record}
use Rattle.pcap_file.specs.Pcap.{Packet, Fits, HasFrames, Captured, head_spelling, spelling, frame_of}
use Rattle.pcap_file.specs.Converted.{converted, datagram_of, records_at}
use Rattle.pcap_file.specs.Reader.{ReaderState, new_reader}
use Rattle.pcap_file.specs.Reading.{BeginsWith, Ends}
use Rattle.pcap_file.specs.declared.format.ByteOrder.{ByteOrder}
use Rattle.pcap_file.specs.declared.format.Format.{Format}
use Rattle.pcap_file.proofs.NumberLemmas.{head-len}
use Rattle.pcap_file.proofs.FormatLemmas.{header-len}
use Rattle.capture_walk.specs.Form.{Pcap}
use Rattle.capture_walk.specs.Leaves.{HasGiven, EndsAfter}
use Rattle.capture_walk.specs.Port.{PortState}
use Rattle.capture_walk.specs.Inside.Frames.{IsTaken, HasTaken, HasReadPort, GivesRecords}
use Rattle.capture_walk.proofs.GoingLemmas.{left_of}

-- the records of one more frame
converted_more : (frames : List Captured) (profile : Profile) (port : ℕ) (given : Captured)
    → converted (frames ++ given ∷ []) profile port ≡ converted frames profile port ++ records_at given.at_us (datagram_of profile port given.link_type given.octets)
converted_more frames profile port given =
    let records : Captured → List Record = λ (f : Captured). records_at f.at_us (datagram_of profile port f.link_type f.octets) in
    flat_map-append records frames (given ∷ []) ∙ ap (λ (l : List Record). converted frames profile port ++ l) (append-nil (records given))

-- the octets of one more packet
spelled_more : (order : ByteOrder) (packets : List Packet) (packet : Packet) → flat_map (spelling order) (packets ++ packet ∷ []) ≡ flat_map (spelling order) packets ++ spelling order packet
spelled_more order packets packet =
    flat_map-append (spelling order) packets (packet ∷ []) ∙ ap (λ (l : List ℕ). flat_map (spelling order) packets ++ l) (append-nil (spelling order packet))

spelled_long : (order : ByteOrder) (packet : Packet) → length (spelling order packet) ≡ 16 + length packet.octets
spelled_long order packet =
    let head = head_spelling order packet.seconds packet.fraction (length packet.octets) packet.first_len in
    omega (arith, length-append head packet.octets, head-len order packet.seconds packet.fraction (length packet.octets) packet.first_len)

-- the header, where it was not read yet, and then more
pub enter : (known : Option Format) (format : Format) (header more : List ℕ) (at : ℕ) (first a c : Option (List ℕ)) (frames : List Captured)
    → HasTaken known at first a frames → BeginsWith known format header → Takes a c (header ++ more) → IsTaken format at first c more frames
enter None format header more at first a c frames t is told = record {
  header = header;
  packets = [];
  is_header = is;
  each = All-nil Fits;
  taken = takes_both first a c [] (header ++ more) t.1 told ∙ ap (λ (l : List ℕ). option_map (λ (rest : List ℕ). (l ++ more) ++ rest) c) (sym (append-nil header));
  place = t.0;
  same = t.2;
}
enter (Some known) format header more at first a c frames t is told =
    let front : List ℕ = t.header ++ flat_map (spelling known.order) t.packets in
    subst (λ (f : Format). IsTaken f at first c more frames) (sym is.0) (record {
      header = t.header;
      packets = t.packets;
      is_header = t.is_header;
      each = t.each;
      taken = takes_both first a c (front ++ []) more t.taken (subst (λ (h : List ℕ). Takes a c (h ++ more)) is.1 told)
          ∙ ap (λ (l : List ℕ). option_map (λ (rest : List ℕ). (l ++ more) ++ rest) c) (append-nil front);
      place = t.place;
      same = t.same;
    })

-- one more record was read
frame_on : (format : Format) (at next : ℕ) (first c : Option (List ℕ)) (packet : Packet) (frames : List Captured) (given : Captured)
    → Fits packet → given ≡ frame_of format packet → next ≡ at + (16 + length packet.octets) → IsTaken format at first c (spelling format.order packet) frames
    → IsTaken format next first c [] (frames ++ given ∷ [])
frame_on format at next first c packet frames given fits same place t =
    let spelled : List ℕ = flat_map (spelling format.order) t.packets in
    let more : List ℕ = spelling format.order packet in
    let all : List ℕ = flat_map (spelling format.order) (t.packets ++ packet ∷ []) in
    let is : all ≡ spelled ++ more = spelled_more format.order t.packets packet in
    let whole : (t.header ++ spelled) ++ more ≡ (t.header ++ all) ++ [] =
    append_assoc t.header spelled more ∙ ap (λ (l : List ℕ). t.header ++ l) (sym is) ∙ sym (append-nil (t.header ++ all)) in
    record {
      header = t.header;
      packets = t.packets ++ packet ∷ [];
      is_header = t.is_header;
      each = All-push Fits t.packets packet t.each fits;
      taken = t.taken ∙ ap (λ (l : List ℕ). option_map (λ (rest : List ℕ). l ++ rest) c) whole;
      place = omega (arith, place, t.place, ap length is, length-append spelled more, spelled_long format.order packet);
      same = ap₂ (λ (x : List Captured) (y : Captured). x ++ y ∷ []) t.same same ∙ sym (map-append (frame_of format) t.packets (packet ∷ []));
    }

-- what a turn that read a frame has taken
turned : (first : Option (List ℕ)) (old new : PortState) (done rs : List Record) (read : HasReadPort first old done) (g : GivesRecords old new rs)
    → IsTaken g.frame.format new.frames.at first new.frames.remaining [] (read.frames ++ g.given ∷ [])
turned first old new done rs read g =
    frame_on g.frame.format old.frames.at new.frames.at first new.frames.remaining g.frame.packet read.frames g.given g.frame.fits g.frame.same g.frame.place
    (enter old.frames.format g.frame.format g.frame.header (spelling g.frame.format.order g.frame.packet) old.frames.at first old.frames.remaining new.frames.remaining
    read.frames read.taken g.frame.begins g.frame.takes)

records_on : (first : Option (List ℕ)) (old new : PortState) (done rs : List Record) (read : HasReadPort first old done) (g : GivesRecords old new rs)
    → done ++ rs ≡ converted (read.frames ++ g.given ∷ []) old.profile old.port
records_on first old new done rs read g =
    ap₂ (λ (x y : List Record). x ++ y) read.same (sym g.carried) ∙ sym (converted_more read.frames old.profile old.port g.given)

-- a reader that read a frame has read its records
pub steps_on : (first : Option (List ℕ)) (old new : PortState) (done rs : List Record) → HasReadPort first old done → GivesRecords old new rs
    → new.profile ≡ old.profile → new.port ≡ old.port → HasReadPort first new (done ++ rs)
steps_on first old new done rs read g profile port = record {
  frames = read.frames ++ g.given ∷ [];
  taken = subst (λ (k : Option Format). HasTaken k new.frames.at first new.frames.remaining (read.frames ++ g.given ∷ [])) (sym g.frame.known)
      (turned first old new done rs read g);
  bound = g.bound;
  same = records_on first old new done rs read g ∙ ap₂ (converted (read.frames ++ g.given ∷ [])) (sym profile) (sym port);
}

-- a frame that carries nothing leaves the records
pub steps_over : (first : Option (List ℕ)) (old new : PortState) (done : List Record) → HasReadPort first old done → GivesRecords old new []
    → new.profile ≡ old.profile → new.port ≡ old.port → HasReadPort first new done
steps_over first old new done read g profile port =
    subst (HasReadPort first new) (append-nil done) (steps_on first old new done [] read g profile port)

-- what was taken is a file of these frames
has_frames : (format : Format) (at : ℕ) (first c : Option (List ℕ)) (more : List ℕ) (frames : List Captured) (t : IsTaken format at first c more frames)
    → HasFrames frames (t.header ++ flat_map (spelling format.order) t.packets)
has_frames format at first c more frames t = record {
  format = format;
  packets = t.packets;
  file = record { header = t.header; is_header = t.is_header; each = t.each; whole = refl };
  same = t.same;
}

-- of octets that are told, the records were given
pub gives_on : (first : Option (List ℕ)) (old new : PortState) (done rs : List Record) → HasReadPort first old done → GivesRecords old new rs
    → IfSome first (λ b. HasGiven (Pcap old.profile old.port) 0 (done ++ rs) b new.frames.remaining)
gives_on None old new done rs read g = tt
gives_on (Some b) old new done rs read g =
    let t = turned (Some b) old new done rs read g in
    let front : List ℕ = t.header ++ flat_map (spelling g.frame.format.order) t.packets in
    let l = left_of b (front ++ []) new.frames.remaining t.taken in
    record {
      octets = front;
      file = (
        read.frames ++ g.given ∷ [],
        has_frames g.frame.format new.frames.at (Some b) new.frames.remaining [] (read.frames ++ g.given ∷ []) t,
        records_on (Some b) old new done rs read g,
      );
      read = record {
        more = [];
        rest = l.rest;
        whole = l.whole ∙ ap (λ (x : List ℕ). x ++ l.rest) (append-nil front);
        told = l.told;
        within = omega arith;
      };
    }

-- at the end they are a file of these records
pub ends_on : (first : Option (List ℕ)) (old new : PortState) (done : List Record) → HasReadPort first old done → Ends old.frames new.frames
    → IfSome first (λ b. EndsAfter (Pcap old.profile old.port) 0 b new.frames.remaining done (Ok tt))
ends_on None old new done read e = tt
ends_on (Some b) old new done read e =
    let t = enter old.frames.format e.format e.header [] old.frames.at (Some b) old.frames.remaining new.frames.remaining read.frames read.taken e.begins
    (subst (Takes old.frames.remaining new.frames.remaining) (sym (append-nil e.header)) e.takes) in
    let spelled : List ℕ = flat_map (spelling e.format.order) t.packets in
    let front : List ℕ = t.header ++ spelled in
    let l = left_of b (front ++ []) new.frames.remaining t.taken in
    let nothing : l.rest ≡ [] = subst IsEmpty l.told e.empty in
    let whole : b ≡ front = l.whole ∙ ap (λ (c : List ℕ). (front ++ []) ++ c) nothing ∙ append-nil (front ++ []) ∙ append-nil front in (
      e.empty,
      (read.frames, subst (HasFrames read.frames) (sym whole) (has_frames e.format old.frames.at (Some b) new.frames.remaining [] read.frames t), read.same),
      omega (arith, ap length whole, length-append t.header spelled, header-len e.format t.header t.is_header, t.place, read.bound),
    )

-- a new reader has read nothing
pub new_has_read : (remaining : Option (List ℕ)) (faults : ℕ) (frames : ReaderState) (profile : Profile) (port : ℕ) (octets : List ℕ) → frames ≡ new_reader remaining faults
    → HasReadPort frames.remaining (record { frames = frames; profile = profile; port = port; octets = octets }) []
new_has_read remaining faults frames profile port octets is =
    subst (λ (r : ReaderState). HasReadPort r.remaining (record { frames = r; profile = profile; port = port; octets = octets }) []) (sym is) (record {
      frames = [];
      taken = (refl, takes_none remaining, refl);
      bound = omega arith;
      same = refl;
    })
