-- By what was read.
use Rattle.std.proofs.Common.{◌≡◌, take, length, refl, subst}
use Rattle.outside_net.specs.Links.{Gave, Quiet, End, Failed}
use Rattle.rist_gateway.specs.Course.{Setup, AfterRead, with_read}
use Rattle.rist_gateway.proofs.MoveLemmas.{goes_none, reads_then, setup_links}
use Rattle.rist_gateway.proofs.look.look_on.Goals as goal

pub returns-in-Datagram-clause-work : goal.returns-in-Datagram-clause-work
returns-in-Datagram-clause-work g c = λ moments from far.
    let gave = Gave (record { channel = c.in-Datagram.channel; octets = take c.in-Datagram.count c.read_at.new.block }) in
    reads_then _ c.args.sender.now c.answer_and_tick-answer.new.sender moments c.args.us c.args.link c.args.puts gave c.args.links.now c.read_at.new.links c.answer_and_tick-answer.new.links from _ _
    c.read_at.auto.links c.requires.among c.in-Datagram.ensures.reads far
    (λ here. c.answer_and_tick-answer.ensures.work moments (with_read c.args.link from) here)
    (λ first to fact. record { answer = gave; first = first; after = subst (λ (s : Setup). AfterRead s c.args.us c.args.link c.args.puts gave c.side_of.result (with_read c.args.link from) to) (setup_links c.args.sender.now (length c.args.links.now) (length c.read_at.new.links) c.read_at.auto.links) (c.answer_and_tick-answer.result, fact, c.side_of.ensures.value) })

pub returns-in-Quiet-clause-work : goal.returns-in-Quiet-clause-work
returns-in-Quiet-clause-work g c = λ moments from far.
    reads_then _ c.args.sender.now c.tick-answer.new.sender moments c.args.us c.args.link c.args.puts Quiet c.args.links.now c.read_at.new.links c.tick-answer.new.links from _ _
    c.read_at.auto.links c.requires.among c.in-Quiet.ensures.reads far
    (λ here. c.tick-answer.ensures.work moments (with_read c.args.link from) here)
    (λ first to fact. record { answer = Quiet; first = first; after = subst (λ (s : Setup). AfterRead s c.args.us c.args.link c.args.puts Quiet c.side_of-in-Quiet.result (with_read c.args.link from) to) (setup_links c.args.sender.now (length c.args.links.now) (length c.read_at.new.links) c.read_at.auto.links) (c.tick-answer.result, fact, c.side_of-in-Quiet.ensures.value) })

pub returns-in-End-clause-work : goal.returns-in-End-clause-work
returns-in-End-clause-work g c = λ moments from far.
    reads_then _ c.args.sender.now c.args.sender.now moments c.args.us c.args.link c.args.puts End c.args.links.now c.read_at.new.links c.read_at.new.links from (λ to. to ≡ with_read c.args.link from) _
    c.read_at.auto.links c.requires.among c.in-End.ensures.reads far
    (λ here. goes_none _ c.args.sender.now moments c.read_at.new.links (with_read c.args.link from) _ here refl)
    (λ first to same. record { answer = End; first = first; after = (refl, same) })

pub returns-in-Failed-clause-work : goal.returns-in-Failed-clause-work
returns-in-Failed-clause-work g c = λ moments from far.
    reads_then _ c.args.sender.now c.args.sender.now moments c.args.us c.args.link c.args.puts Failed c.args.links.now c.read_at.new.links c.read_at.new.links from (λ to. to ≡ with_read c.args.link from) _
    c.read_at.auto.links c.requires.among c.in-Failed.ensures.reads far
    (λ here. goes_none _ c.args.sender.now moments c.read_at.new.links (with_read c.args.link from) _ here refl)
    (λ first to same. record { answer = Failed; first = first; after = (refl, same) })
