use Rattle.std.proofs.Common.{◌≡◌, ◌+◌, ℕ, List, is_some, Ok, Err, refl, ap, sym, subst, ◌∙◌, arith}
use Rattle.std.specs.Prelude.{Option}
use Rattle.psk_seal.specs.Sealer.{SealerState}
use Rattle.capture_file.specs.Capture.{Record}
use Rattle.rist_wire.specs.Writing.{ShutterState, after_pair}
use Rattle.rist_pack.specs.Capture.{packed_record, nonces_of, HasGiven}
use Rattle.rist_pack.specs.Inside.Steps.{PacksPiece}
use Rattle.rist_pack.specs.Packing.{Packs}
use Rattle.rist_pack.specs.declared.packing.Turn.TheVariants.{On, Over}
use Rattle.rist_pack.proofs.DatagramLemmas.{after-given, after-nonces, after-some}
use Rattle.rist_pack.proofs.PackLemmas.{at_start, name_failed, goes_on, ended, stopped}
use Rattle.rist_pack.proofs.packing.pack.Goals as goal

pub returns-in-Err-clause-work : goal.returns-in-Err-clause-work
returns-in-Err-clause-work g c =
    name_failed (packed_record c.args.session.now (nonces_of c.args.sealer) c.args.settings.now) _ c.args.capture.now.contents c.begin.new.self.contents c.in-Err.ensures.err

pub loop-k-init : goal.loop-k-init
loop-k-init g c =
    let is = c.with-shutter.ensures.value in
    record {
      sofar = at_start (packed_record c.args.session.now (nonces_of c.with-shutter.result.sealer) c.args.settings.now) _ c.args.capture.now.contents c.begin.new.self.contents c.in-Ok.ensures.ok;
      place = omega arith;
      begun = c.begin.ensures.begun;
      session = ap (λ (s : ShutterState). s.session) is;
      nonces = refl;
      paired = ap (λ (s : ShutterState). is_some s.sealer) is ∙ c.requires.paired;
      given = subst (λ (s : ShutterState). HasGiven 0 s.sealer) (sym is) c.requires.given;
      source_faults = refl;
      sink_faults = c.in-Ok.ensures.cause;
    }

pub loop-k-preserved : goal.loop-k-preserved
loop-k-preserved g c =
    let inv = c.loop-k.invariant in
    let now = rw c.in-Ok-On.field-0-is at c.in-Ok-On.ensures.value in
    let packed = subst (λ (f : ℕ → List ℕ → Record). PacksPiece f c.loop-k.k (record { had = g.S.Source.remaining c.loop-k.source; left = g.S.Source.remaining c.pack_piece.new.source; held = c.loop-k.capture.contents; holds = c.pack_piece.new.capture.contents }) (Ok On))
    (λ i. packed_record (inv.session i) (inv.nonces i) c.args.settings.now) now in
    let is = c.in-Ok-On.ensures.state c.in-Ok-On.field-0-is in
    let sealer : c.pack_piece.new.shutter.sealer ≡ after_pair c.loop-k.shutter.sealer = ap (λ (s : ShutterState). s.sealer) is in
    record {
      sofar = goes_on (packed_record c.args.session.now (nonces_of c.with-shutter.result.sealer) c.args.settings.now) c.loop-k.k _ _ _ c.args.capture.now.contents c.loop-k.capture.contents c.pack_piece.new.capture.contents
          inv.sofar packed;
      place = omega (arith, packed.2.0, packed.2.1);
      begun = c.pack_piece.ensures.begun;
      session = ap (λ (s : ShutterState). s.session) is ∙ inv.session;
      nonces = ap nonces_of sealer ∙ after-nonces c.loop-k.shutter.sealer ∙ inv.nonces;
      paired = ap (λ (s : Option SealerState). is_some s) sealer ∙ after-some c.loop-k.shutter.sealer ∙ inv.paired;
      given = subst (HasGiven (c.loop-k.k + 1)) (sym sealer) (after-given c.loop-k.shutter.sealer c.loop-k.k inv.given);
      source_faults = c.in-Ok-On.ensures.read ∙ inv.source_faults;
      sink_faults = c.in-Ok-On.ensures.write ∙ inv.sink_faults;
    }

pub returns-in-Ok-Over-clause-work : goal.returns-in-Ok-Over-clause-work
returns-in-Ok-Over-clause-work g c =
    let inv = c.loop-k.invariant in
    let now = rw c.in-Ok-Over.field-0-is at c.in-Ok-Over.ensures.value in
    let packed = subst (λ (f : ℕ → List ℕ → Record). PacksPiece f c.loop-k.k (record { had = g.S.Source.remaining c.loop-k.source; left = g.S.Source.remaining c.pack_piece.new.source; held = c.loop-k.capture.contents; holds = c.pack_piece.new.capture.contents }) (Ok Over))
    (λ i. packed_record (inv.session i) (inv.nonces i) c.args.settings.now) now in
    subst (λ (s : ShutterState). Packs (packed_record c.args.session.now (nonces_of s.sealer) c.args.settings.now) (record { had = g.S.Source.remaining c.args.source.now; left = g.S.Source.remaining c.pack_piece.new.source; held = c.args.capture.now.contents; holds = c.pack_piece.new.capture.contents }) (Ok tt))
    c.with-shutter.ensures.value
    (ended (packed_record c.args.session.now (nonces_of c.with-shutter.result.sealer) c.args.settings.now) c.loop-k.k _ _ _ c.args.capture.now.contents c.loop-k.capture.contents c.pack_piece.new.capture.contents
    inv.sofar packed)

pub returns-in-Err-pack_piece-clause-work : goal.returns-in-Err-pack_piece-clause-work
returns-in-Err-pack_piece-clause-work g c =
    let inv = c.loop-k.invariant in
    let packed = subst (λ (f : ℕ → List ℕ → Record). PacksPiece f c.loop-k.k (record { had = g.S.Source.remaining c.loop-k.source; left = g.S.Source.remaining c.pack_piece.new.source; held = c.loop-k.capture.contents; holds = c.pack_piece.new.capture.contents }) (Err c.in-Err-pack_piece.bad))
    (λ i. packed_record (inv.session i) (inv.nonces i) c.args.settings.now) c.in-Err-pack_piece.ensures.value in
    subst (λ (s : ShutterState). Packs (packed_record c.args.session.now (nonces_of s.sealer) c.args.settings.now) (record { had = g.S.Source.remaining c.args.source.now; left = g.S.Source.remaining c.pack_piece.new.source; held = c.args.capture.now.contents; holds = c.pack_piece.new.capture.contents }) (Err c.in-Err-pack_piece.bad))
    c.with-shutter.ensures.value
    (stopped (packed_record c.args.session.now (nonces_of c.with-shutter.result.sealer) c.args.settings.now) c.loop-k.k _ _ _ c.args.capture.now.contents c.loop-k.capture.contents c.pack_piece.new.capture.contents c.in-Err-pack_piece.bad
    inv.sofar packed)
