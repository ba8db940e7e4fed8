use Rattle.std.proofs.Common.{sym, ◌∙◌}
use Rattle.keepalive_msg.proofs.MessageLemmas.{message-spelled}
use Rattle.keepalive_msg.proofs.laws.one_message_is_spelled.Goals as goal

pub returns : goal.returns
returns c = λ m n octets first second. sym (message-spelled m octets first) ∙ message-spelled n octets second
