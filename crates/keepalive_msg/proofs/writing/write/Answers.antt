use Rattle.std.proofs.Common.{arith, refl}
use Rattle.keepalive_msg.specs.Writing.{message_of}
use Rattle.keepalive_msg.proofs.MessageLemmas.{reading-spelled}
use Rattle.keepalive_msg.proofs.writing.write.Goals as goal

pub returns-clause-read_back : goal.returns-clause-read_back
returns-clause-read_back c =
    reading-spelled (message_of c.args.ssrc) _ (record { fits = record { mac = refl; capabilities = omega arith }; whole = rw c.to_be_bytes.ensures refl })
