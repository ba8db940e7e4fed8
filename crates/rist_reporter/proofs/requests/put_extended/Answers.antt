-- One group or two.
use Rattle.rist_reporter.specs.Nacks.{extended_nack}
use Rattle.rist_reporter.proofs.GroupLemmas.{near_one, near_two, packets_one, packets_two}
use Rattle.rist_reporter.proofs.requests.put_extended.Goals as goal

pub returns-then-count-words-clause-packets : goal.returns-then-count-words-clause-packets
returns-then-count-words-clause-packets c =
    packets_two (extended_nack c.args.asker.now.kind c.args.asker.now.own c.args.asker.now.flow) _ _ _ _ _ _
    c.put_group.ensures.packets c.put_group-then-count-words.ensures.packets
    (near_two c.args.words.now _ _ _ _ _ c.requires.some c.requires.near.close c.upper_of-upper.ensures.value c.group_len-count.ensures.value c.if-count-words.true c.upper_of.ensures.value)

pub returns-else-count-words-clause-packets : goal.returns-else-count-words-clause-packets
returns-else-count-words-clause-packets c =
    packets_one (extended_nack c.args.asker.now.kind c.args.asker.now.own c.args.asker.now.flow) _ _ _ _
    c.put_group.ensures.packets
    (near_one c.args.words.now _ _ _ c.requires.some c.upper_of-upper.ensures.value c.group_len-count.ensures.value c.if-count-words.false)
