-- No value of a line is a float, and one more record is one more line.
use Rattle.std.proofs.Common.{◌≡◌, ℕ, List, [], ◌∷◌, ◌++◌, map, Bool, false, ◌||◌, refl, sym, ap, ◌∙◌, append-nil, append_assoc}
use Rattle.std.specs.Prelude.{Option, None, Result, Ok, Err, OnOk, OnErr}
use Rattle.outside_io.specs.Told.{Appends, AppendsPart, Writes, WritesPart}
use Rattle.outside_io.proofs.ToldLemmas.{appends_none}
use Rattle.rist_wire.specs.Item.{item_of}
use Rattle.serde_json.specs.View.{items_of}
use Rattle.serde_json.specs.Written.{has_float, items_have_float}
use Rattle.capture_file.specs.Capture.{Record}
use Rattle.rtcp_compound.specs.Compound.{Content, kind_of}
use Rattle.rist_nack.specs.Asked.{asks_in}
use Rattle.rist_nack.specs.declared.ask.Ask.{Ask}
use Rattle.rist_wire.specs.declared.session.Session.{Session}
use Rattle.rist_wire.specs.declared.bad.WireBad.{WireBad}
use Rattle.rist_wire.specs.declared.item.Item.{Item}
use Rattle.rist_wire.specs.declared.item.Item.TheVariants as items
use Rattle.rist_show.specs.Lines.{Origin, natural, ask_data, asks_data, types_data, data_by, line_by, origin_of, line_of, lines}

asks_have_none : (asks : List Ask) → items_have_float (items_of (map ask_data asks)) ≡ false
asks_have_none [] = refl
asks_have_none (ask ∷ asks) = asks_have_none asks

types_have_none : (packets : List Content) → items_have_float (items_of (map (λ p. natural (kind_of p)) packets)) ≡ false
types_have_none [] = refl
types_have_none (p ∷ packets) = types_have_none packets

either_none : (a b : Bool) → a ≡ false → b ≡ false → (a || b) ≡ false
either_none a b p q = ap (λ x. x || b) p ∙ q

-- so its text is told
pub no_float : (o : Origin) (item : Result Item WireBad) → has_float (data_by o item) ≡ false
no_float o (Ok (items.Media media)) = refl
no_float o (Ok (items.Control packets)) =
    either_none (has_float (asks_data packets)) (has_float (types_data packets) || false) (asks_have_none (asks_in None packets))
    (either_none (has_float (types_data packets)) false (types_have_none packets) refl)
no_float o (Ok (items.Keepalive keepalive)) = refl
no_float o (Err bad) = refl

-- the line of a record's item is the record's line
pub line_is : (session : Session) (r : Record) (found : Result Item WireBad) → found ≡ item_of session r.channel r.octets → line_by (origin_of r) found ≡ line_of session r
unfolding line_of
line_is session r found is = ap (line_by (origin_of r)) is

pub lines_push : (session : Session) (rs : List Record) (r : Record) → lines session (rs ++ r ∷ []) ≡ lines session rs ++ line_of session r
lines_push session [] r = append-nil (line_of session r)
lines_push session (q ∷ rs) r =
    ap (λ l. line_of session q ++ l) (lines_push session rs r) ∙ sym (append_assoc (line_of session q) (lines session rs) (line_of session r))

-- a line that was put is what the record adds
pub wrote : (session : Session) (done : List Record) (r : Record) (old new : Option (List ℕ)) (text : List ℕ) → text ≡ line_of session r → Appends old new text → Writes old new (lines session done) (lines session (done ++ r ∷ []))
wrote session done r old new text is put = (text, put, lines_push session done r ∙ ap (λ t. lines session done ++ t) (sym is))

-- and a front part of it is a front of that
pub wrote_part : (session : Session) (done : List Record) (r : Record) (old new : Option (List ℕ)) (text : List ℕ) → text ≡ line_of session r → AppendsPart old new text → WritesPart old new (lines session done) (lines session (done ++ r ∷ []))
wrote_part session done r old new text is part = (
  part.0,
  part.2,
  (part.1.0, lines_push session done r ∙ ap (λ t. lines session done ++ t) (sym is ∙ part.1.1) ∙ sym (append_assoc (lines session done) part.0 part.1.0)),
)

-- as is nothing
pub wrote_nothing : (session : Session) (done : List Record) (r : Record) (told : Option (List ℕ)) → WritesPart told told (lines session done) (lines session (done ++ r ∷ []))
wrote_nothing session done r told =
    ([], appends_none told, (line_of session r, lines_push session done r ∙ ap (λ l. l ++ line_of session r) (sym (append-nil (lines session done)))))

-- what follows from a fact of a good answer, or of a bad one
pub on_ok : {T E : Type 0} (r : Result T E) (P Q : Type 0) → (P → Q) → OnOk r P → OnOk r Q
on_ok (Ok x) P Q so p = so p
on_ok (Err e) P Q so p = tt

pub on_err : {T E : Type 0} (r : Result T E) (P Q : Type 0) → (P → Q) → OnErr r P → OnErr r Q
on_err (Ok x) P Q so p = tt
on_err (Err e) P Q so p = so p
