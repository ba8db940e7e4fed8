use Rattle.std.proofs.Common.{true, false}
use Rattle.rist_wire.proofs.MediaLemmas.{media-taken}
use Rattle.rist_sender.specs.Messages.{media_of}
use Rattle.rist_sender.specs.Calls.{packet_for}
use Rattle.rist_sender.proofs.LawLemmas.{content-is, media-is, octets-are}
use Rattle.rist_sender.proofs.laws.each_payload_is_taken.Goals as goal

pub returns-clause-original : goal.returns-clause-original
returns-clause-original c = λ session pair flow number tick payload legal fits paired even small few are.
    media-taken session pair (media_of flow false (packet_for session.nulls number tick payload)) legal fits paired (media-is session.nulls false flow number tick payload even small few)
    (λ full. octets-are session.nulls number tick payload (are full))

pub returns-clause-again : goal.returns-clause-again
returns-clause-again c = λ session pair flow number tick payload legal fits paired even small few are.
    media-taken session pair (media_of flow true (packet_for session.nulls number tick payload)) legal fits paired (media-is session.nulls true flow number tick payload even small few)
    (λ full. octets-are session.nulls number tick payload (are full))

pub returns-clause-content : goal.returns-clause-content
returns-clause-content c = λ width nulls again flow number tick payload. content-is nulls number tick payload
