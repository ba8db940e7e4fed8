-- What a look at a socket of UDP comes to.
use Rattle.std.specs.Prelude.{Bool, true, false, if◌then◌else◌}
use Rattle.std.specs.declared.io.ErrorKind.{ErrorKind}
use Rattle.outside_net.specs.Sockets.{is_no_fault}
use Rattle.datagram_ends.specs.declared.sockets.Look.{Look}
use Rattle.datagram_ends.specs.declared.sockets.Look.TheVariants as looks

-- what a look that took nothing came to, by the kind of its error
abbrev pub missed_by : ErrorKind → Look
missed_by kind = if is_no_fault kind then looks.Nothing else looks.Failed

-- a look failed
abbrev pub is_failed : Look → Bool
is_failed looks.Took = false
is_failed looks.Nothing = false
is_failed looks.Failed = true
