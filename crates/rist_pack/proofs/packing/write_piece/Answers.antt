use Rattle.std.proofs.Common.{◌≡◌, ℕ, List, OnOk, OnErr, subst}
use Rattle.outside_io.specs.Told.{Appends, AppendsPart}
use Rattle.link_channels.specs.declared.channel.Channel.{Channel}
use Rattle.capture_file.specs.Capture.{Record, spelling}
use Rattle.rist_pack.proofs.packing.write_piece.Goals as goal

abbrev first_link : Channel → ℕ → List ℕ → Record
first_link channel us octets = record { link = 0; channel = channel; us = us; octets = octets }

same_record : (one two : Channel) (us vs : ℕ) (a b : List ℕ) → one ≡ two → us ≡ vs → a ≡ b → first_link one us a ≡ first_link two vs b
same_record one two us vs a b o p q = λ i. first_link (o i) (p i) (q i)

pub returns-clause-ok : goal.returns-clause-ok
returns-clause-ok g c =
    subst (λ (r : Record). OnOk c.add.result (Appends c.args.capture.now.contents c.add.new.self.contents (spelling r)))
    (same_record _ _ _ _ _ _ c.put_piece-channel.ensures.channel c.time_of.ensures.value c.put_piece-channel.ensures.octets) c.add.ensures.ok

pub returns-clause-err : goal.returns-clause-err
returns-clause-err g c =
    subst (λ (r : Record). OnErr c.add.result (AppendsPart c.args.capture.now.contents c.add.new.self.contents (spelling r)))
    (same_record _ _ _ _ _ _ c.put_piece-channel.ensures.channel c.time_of.ensures.value c.put_piece-channel.ensures.octets) c.add.ensures.err
