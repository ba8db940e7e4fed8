use Rattle.std.proofs.Common.{◌+◌, sym, ap, ◌∙◌, subst}
use Rattle.std.specs.List.{AllByRecursion}
use Rattle.retransmit_store.specs.State.{packets_in}
use Rattle.rist_sender.specs.Inside.Kept.{IsSendable}
use Rattle.rist_sender.proofs.KeptLemmas.{marked_packets}
use Rattle.rist_sender.proofs.sender.Sender.mark.Goals as goal

pub invariant_of-self : goal.invariant_of-self
invariant_of-self c =
    let had = c.self.invariant in
    record {
      session = had.session;
      paired = had.paired;
      deletes = had.deletes;
      lives = had.lives;
      even = had.even;
      holds = had.holds;
      begins = had.begins;
      numbers = had.numbers;
      next = c.mark.ensures.next (c.self.inside.first + c.self.inside.count) had.next;
      sendable = subst (AllByRecursion (IsSendable c.self.inside.shutter.session.nulls))
          (sym (ap packets_in c.mark.ensures.value ∙ marked_packets c.args.number c.self.inside.time c.self.inside.store.packets)) had.sendable;
      within = had.within;
    }
