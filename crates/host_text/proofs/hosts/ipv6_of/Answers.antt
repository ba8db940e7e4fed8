use Rattle.std.proofs.Common.{◌∙◌, ap, subst}
use Rattle.std.specs.Net.Grammar.{IsIpv6Text}
use Rattle.host_text.specs.Hosts.{ipv6_of}
use Rattle.host_text.proofs.HostLemmas.{ipv6_given, ipv6_missing}
use Rattle.host_text.proofs.hosts.ipv6_of.Goals as goal

pub returns-in-Ok-clause-value : goal.returns-in-Ok-clause-value
returns-in-Ok-clause-value c = ipv6_given c.as_bytes.result.now c.in-Ok.address c.in-Ok.ensures ∙ ap ipv6_of c.as_bytes.ensures.value

pub returns-in-Err-clause-value : goal.returns-in-Err-clause-value
returns-in-Err-clause-value c = ipv6_missing c.as_bytes.result.now c.in-Err.ensures ∙ ap ipv6_of c.as_bytes.ensures.value

pub returns-in-Err-clause-none : goal.returns-in-Err-clause-none
returns-in-Err-clause-none c = λ is address. subst (λ t. ¬ (IsIpv6Text t address)) c.as_bytes.ensures.value (c.in-Err.ensures address)
