-- A link that knows the peers that its address states knows those of each kind of message.
use Rattle.std.proofs.Common.{◌≡◌, Bool, true, refl}
use Rattle.link_channels.specs.declared.channel.Channel.{Channel}
use Rattle.link_channels.specs.declared.profile.Profile.{Profile}
use Rattle.link_channels.specs.declared.profile.Profile.TheVariants.{Simple, Main}
use Rattle.outside_net.specs.declared.link_spec.Role.{Role}
use Rattle.outside_net.specs.Real.{is_caller}
use Rattle.outside_host.specs.Shelf.{KnowsStated}
use Rattle.rist_wire.specs.declared.item.Kind.{Kind}
use Rattle.rist_wire.specs.declared.item.Kind.TheVariants as kinds
use Rattle.rist_wire.specs.Datagrams.{channel_on}

pub stated_known : (knows : Channel → Bool) (role : Role) (profile : Profile) → is_caller role ≡ true → KnowsStated knows role profile → (kind : Kind) → knows (channel_on profile kind) ≡ true
stated_known knows role Simple sends stated kinds.Media = stated (channel_on Simple kinds.Media) sends
stated_known knows role Simple sends stated kinds.Control = stated (channel_on Simple kinds.Control) sends
stated_known knows role Simple sends stated kinds.Keepalive = stated (channel_on Simple kinds.Keepalive) sends
stated_known knows role Main sends stated kind = stated (channel_on Main kind) sends
