-- How the program ends where the system gives no words, a passphrase can't be had, or a link has no address.
use Rattle.link_words.specs.declared.no_link.NoLink.{NoLink}
use Rattle.link_words.specs.declared.no_link.NoLink.TheVariants as links
use Rattle.pass_words.specs.declared.resolving.NoPass.{NoPass}
use Rattle.pass_words.specs.declared.resolving.NoPass.TheVariants as refused
use Rattle.rist.specs.declared.NoWords.{NoWords}
use Rattle.rist.specs.declared.NoWords.TheVariants as without
use Rattle.run_parts.specs.declared.status.Status.{Status}
use Rattle.run_parts.specs.declared.status.Status.TheVariants.{Memory, Usage, OpenFault}

-- a file with no passphrase in its first line is one that can't be opened
abbrev pub pass_status : NoPass → Status
pass_status refused.Memory = Memory
pass_status (refused.Words fault) = Usage
pass_status (refused.Closed name error) = OpenFault
pass_status (refused.Line name fault) = OpenFault
pass_status refused.Variable = Usage

-- a name without an address is a link that can't be opened
abbrev pub link_status : NoLink → Status
link_status links.Memory = Memory
link_status (links.NoEndpoint url) = Usage
link_status (links.Listens url) = Usage
link_status (links.Parameter name url) = Usage
link_status (links.TooMany url) = Usage
link_status (links.Unknown name) = OpenFault

-- likewise of each
abbrev pub status_before : NoWords → Status
status_before (without.Given status) = status
status_before (without.Pass refused) = pass_status refused
status_before (without.Link refused) = link_status refused
