-- The link knows the same peers, and took the same, once a datagram is a flow's.
use Rattle.std.proofs.Common.{◌≡◌, ◌++◌, List, Bool, Option, OnOk, option_map, subst}
use Rattle.link_channels.specs.declared.channel.Channel.{Channel}
use Rattle.outside_net.specs.Links.{Datagram}
use Rattle.rist_desk.specs.Sending.{written}
use Rattle.fan_desk.specs.Made.{all_outs}
use Rattle.fan_desk.proofs.WriteLemmas.{same_peers}
use Rattle.fan_desk.proofs.sending.send_assigned.Goals as goal

pub returns-clause-ok : goal.returns-clause-ok
returns-clause-ok g c =
    let knew = g.L.Link.knows c.args.link.now in
    let knows = g.L.Link.knows c.assign.new.self in
    let outs = all_outs c.args.came.now in
    let after = g.L.Link.taken c.send_each.new.link in
    subst (λ (t : Option (List Datagram)). OnOk c.send_each.result (after ≡ option_map (λ l. l ++ written knew outs) t)) c.assign.ensures.taken
    (subst (λ (k : Channel → Bool). OnOk c.send_each.result (after ≡ option_map (λ l. l ++ written k outs) (g.L.Link.taken c.assign.new.self))) (same_peers knows knew c.assign.ensures.peers)
    c.send_each.ensures.ok)
