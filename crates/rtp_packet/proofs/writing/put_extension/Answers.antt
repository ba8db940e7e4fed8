use Rattle.std.proofs.Common.{arith}
use Rattle.rtp_packet.proofs.writing.put_extension.Goals as goal

pub put_words-requires-clause-room : goal.put_words-requires-clause-room
put_words-requires-clause-room c = omega (arith, c.requires.few (c.in-Some.profile, c.in-Some.words) c.in-Some.is)

pub put_words-requires-clause-few : goal.put_words-requires-clause-few
put_words-requires-clause-few c = c.requires.few (c.in-Some.profile, c.in-Some.words) c.in-Some.is

pub returns-in-Some-clause-within : goal.returns-in-Some-clause-within
returns-in-Some-clause-within c = omega (arith, c.requires.few (c.in-Some.profile, c.in-Some.words) c.in-Some.is)
