use Rattle.std.proofs.Common.{◌≡◌, ◌∙◌, ◌+◌, ◌-◌, ◌%◌, ℕ, List, [], Some, option_map, sym, ap}
use Rattle.seq_unwrap.specs.Nearest.{cycle_of}
use Rattle.sender_rules.specs.Stored.{packet_for}
use Rattle.retransmit_store.specs.declared.store.Stored.{Stored}
use Rattle.retransmit_store.specs.State.{packets_of}
use Rattle.retransmit_store.proofs.StoreLemmas.{number_for_word, nothing_stored}
use Rattle.retransmit_store.proofs.store.Store.number_for.Goals as goal

pub returns-in_err-front : goal.returns-in_err-front
returns-in_err-front c =
    let empty : c.args.self.now.packets ≡ [] = sym (ap (λ s. s.packets) c.self.view_is) ∙ nothing_stored c.self.inside.packets.items c.in_err-front.ensures in
    record { value = c.from_residual.ensures ∙ ap (λ (ps : List Stored). option_map (λ p. p.number) (packet_for (packets_of ps) c.args.width c.args.word)) (sym empty) }

pub returns-in-Some : goal.returns-in-Some
returns-in-Some c =
    let items = c.self.inside.packets.items in
    let place = c.places_behind-place.ensures.value
    ∙ ap (λ (n : ℕ). (n % cycle_of c.args.width + cycle_of c.args.width - c.args.word) % cycle_of c.args.width) c.number-newest.ensures.value in
    record {
      value = ap Some c.number.ensures.value ∙ ap (option_map (λ p. p.sent.number)) c.in-Some.ensures
          ∙ sym (number_for_word items c.in_ok-front.field-0.now c.args.width c.args.word c.places_behind-place.result c.self.invariant.3 c.in_ok-front.ensures c.requires place)
          ∙ ap (λ (ps : List Stored). option_map (λ p. p.number) (packet_for (packets_of ps) c.args.width c.args.word)) (ap (λ s. s.packets) c.self.view_is);
    }

pub returns-in-None : goal.returns-in-None
returns-in-None c =
    let items = c.self.inside.packets.items in
    let place = c.places_behind-place.ensures.value
    ∙ ap (λ (n : ℕ). (n % cycle_of c.args.width + cycle_of c.args.width - c.args.word) % cycle_of c.args.width) c.number-newest.ensures.value in
    record {
      value = ap (option_map (λ p. p.sent.number)) c.in-None.ensures
          ∙ sym (number_for_word items c.in_ok-front.field-0.now c.args.width c.args.word c.places_behind-place.result c.self.invariant.3 c.in_ok-front.ensures c.requires place)
          ∙ ap (λ (ps : List Stored). option_map (λ p. p.number) (packet_for (packets_of ps) c.args.width c.args.word)) (ap (λ s. s.packets) c.self.view_is);
    }
