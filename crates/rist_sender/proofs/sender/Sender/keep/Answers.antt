use Rattle.std.proofs.Common.{◌≡◌, ◌+◌, ◌∷◌, None, sym, ap, subst, arith}
use Rattle.std.specs.List.{AllByRecursion}
use Rattle.retransmit_store.specs.State.{IsNext, packets_in}
use Rattle.rist_sender.specs.Inside.Kept.{IsSendable}
use Rattle.rist_sender.specs.Sender.{SenderState}
use Rattle.rist_sender.proofs.KeptLemmas.{all_taken}
use Rattle.rist_sender.proofs.sender.Sender.keep.Goals as goal

pub invariant_of-self : goal.invariant_of-self
invariant_of-self c =
    let P = IsSendable c.self.inside.shutter.session.nulls in
    let had = c.self.invariant in
    let first = ap (λ (s : SenderState). s.first) c.self.view_is in
    let count = ap (λ (s : SenderState). s.count) c.self.view_is in
    let number : c.args.sent.number + 1 ≡ c.self.inside.first + (c.self.inside.count + 1) = omega (arith, c.requires.number, first, count) in
    record {
      session = had.session;
      paired = had.paired;
      deletes = had.deletes;
      lives = had.lives;
      even = had.even;
      holds = had.holds;
      begins = had.begins;
      numbers = omega (arith, c.requires.within, first, count);
      next = subst (IsNext c.put.new.self.packets) number c.put.ensures.next;
      sendable = subst (AllByRecursion P) (sym (ap packets_in c.put.ensures.value))
          (all_taken P c.self.inside.store.size (record { sent = c.args.sent; mark = None } ∷ c.self.inside.store.packets)
          (subst (λ (s : SenderState). IsSendable s.session.nulls c.args.sent) (sym c.self.view_is) c.requires.sendable, had.sendable));
      within = had.within;
    }
