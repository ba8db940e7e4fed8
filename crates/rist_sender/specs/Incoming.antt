-- What comes on a sender's links: compounds are answered, and nothing else is.
use Rattle.std.specs.Prelude.{List, Option, None, Some, Result, Ok, Err}
use Rattle.outside_net.specs.Links.{Answer, Gave, Quiet, End, Failed}
use Rattle.rtcp_compound.specs.Compound.{Content}
use Rattle.rist_wire.specs.declared.session.Session.{Session}
use Rattle.rist_wire.specs.declared.bad.WireBad.{WireBad}
use Rattle.rist_wire.specs.declared.item.Item.{Item}
use Rattle.rist_wire.specs.declared.item.Item.TheVariants as items
use Rattle.rist_wire.specs.Item.{item_of}

-- the compound that an item is, if it is one
abbrev pub compound_of : Result Item WireBad → Option (List Content)
compound_of (Ok (items.Media media)) = None
compound_of (Ok (items.Control compound)) = Some compound
compound_of (Ok (items.Keepalive message)) = None
compound_of (Err bad) = None

-- the compound that came in the session, if one did
abbrev pub compound_in : Session → Answer → Option (List Content)
compound_in session (Gave datagram) = compound_of (item_of session datagram.channel datagram.octets)
compound_in session Quiet = None
compound_in session End = None
compound_in session Failed = None
