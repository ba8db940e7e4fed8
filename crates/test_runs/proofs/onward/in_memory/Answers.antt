-- It was called by nobody yet.
use Rattle.std.proofs.Common.{false, ◌≤◌, map, Some, ◌≡◌, ◌∙◌, ◌<◌, ℕ, List, [], ◌∷◌, ◌++◌, length, Option, refl, sym, ap, subst, arith}
use Rattle.std.proofs.lemmas.List.{length-map}
use Rattle.outside_net.specs.Scripts.{ScriptState, answers_of, knows_in}
use Rattle.psk_seal.specs.Sealer.{SealerState}
use Rattle.sender_rules.specs.Bonding.{link_count}
use Rattle.rist_sender.specs.Sender.{IsSenderAfter}
use Rattle.rist_gateway.specs.Onward.{LinkState, shown}
use Rattle.test_runs.proofs.onward.in_memory.Goals as goal

pub forwarded-requires-clause-uncalled : goal.forwarded-requires-clause-uncalled
forwarded-requires-clause-uncalled c =
    let s = c.in_ok-sender.sender in
    let items : c.push-2.new.self.items ≡ c.in_ok-link.link ∷ [] = c.in_ok-push-2.ensures.items ∙ ap (λ (l : List ScriptState). l ++ c.in_ok-link.link ∷ []) c.new-links.ensures.items in
    let f : ScriptState → LinkState = shown (record { reads = λ (l : ScriptState). Some (answers_of l.reads l.script); taken = λ (l : ScriptState). Some l.taken; knows = λ (l : ScriptState). knows_in l.known; ends = λ (l : ScriptState). l.ends; faults = λ (l : ScriptState). l.faults }) in
    let one : length (map f c.push-2.new.self.items) ≡ 1 = length-map c.push-2.new.self.items f ∙ ap length items in
    record {
      sender = subst (λ (x : Option SealerState). IsSenderAfter s (record { history = []; sealer = x; is_short = false })) (sym c.in_ok-sender.ensures.state.sealer) c.in_ok-sender.ensures.state;
      opener = c.in_ok-opener.ensures.ok ∙ sym c.in_ok-sender.ensures.set.5;
      some = subst (λ (n : ℕ). 0 < n) (sym one) (omega arith);
      few = subst (λ (n : ℕ). n ≤ 16) (sym one) (omega arith);
      bonded = one ∙ (sym (ap link_count (c.in_ok-sender.ensures.set.4 ∙ c.duplicate.ensures.value)));
    }
