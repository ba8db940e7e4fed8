-- How full a buffer is, and where its base lies, is what its history says.
use Rattle.std.proofs.Common.{◌≡◌, ℕ, List, [], ◌∷◌, length, Option, refl, ap, ◌∙◌}
use Rattle.std.specs.Prelude.{ℤ}
use Rattle.std.specs.Option.{option_map}
use Rattle.receiver_rules.specs.declared.limits.Limits.{Limits}
use Rattle.receiver_rules.specs.declared.anchor.Anchor.{Anchor}
use Rattle.receiver_rules.specs.declared.anchor.Highest.{Highest}
use Rattle.receiver_rules.specs.declared.clock.Clock.{Clock}
use Rattle.receiver_rules.specs.Packets.{Packet, highest_of}
use Rattle.receiver_rules.specs.Steps as buffer
use Rattle.receiver_rules.specs.Epochs.{Epoch, epochs_of, newest_anchor, IsNewestClock}
use Rattle.receiver_rules.specs.History.{accepted_packets, buffered_packets}
use Rattle.reorder_buffer.specs.State.{State}
use Rattle.reorder_buffer.specs.StateAfter.{Shows}
use Rattle.reorder_buffer.specs.Fill.{base_in, fill_by, fill_of}
use Rattle.rist_ends.specs.Fill.{base_at, base_or_0, fill_at}

-- the clock's base is that of the newest epoch
base_told : (limits : Limits) (clock : Clock) (epochs : List Epoch) → IsNewestClock limits clock epochs
    → ◌≡◌ {A = Option ℤ} (option_map (λ (a : Anchor). clock.base) (newest_anchor epochs)) (base_at limits epochs)
base_told limits clock [] is = refl
base_told limits clock (current ∷ earlier) is = ap (λ (c : Clock). option_map (λ (a : Anchor). c.base) (newest_anchor (current ∷ earlier))) is

fill_told : (limits : Limits) (clock : Clock) (epochs : List Epoch) (highest : Option Highest) (time waiting : ℕ) → IsNewestClock limits clock epochs
    → fill_by limits (newest_anchor epochs) clock.base highest time waiting ≡ fill_by limits (newest_anchor epochs) (base_or_0 (base_at limits epochs)) highest time waiting
fill_told limits clock [] highest time waiting is = refl
fill_told limits clock (current ∷ earlier) highest time waiting is = ap (λ (c : Clock). fill_by limits (newest_anchor (current ∷ earlier)) c.base highest time waiting) is

pub base_shown : (b : State) (history : List buffer.Step) → Shows b history → base_in b ≡ base_at b.limits (epochs_of b.limits history)
base_shown b history s =
    ap (λ (a : Option Anchor). option_map (λ (x : Anchor). b.clock.base) a) s.anchor ∙ base_told b.limits b.clock (epochs_of b.limits history) s.clock

pub fill_shown : (b : State) (history : List buffer.Step) → Shows b history → fill_of b ≡ fill_at b.limits history
fill_shown b history s =
    ap (λ (a : Option Anchor). fill_by b.limits a b.clock.base b.highest b.time (length b.held)) s.anchor
    ∙ ap (λ (h : Option Highest). fill_by b.limits (newest_anchor (epochs_of b.limits history)) b.clock.base h b.time (length b.held)) s.highest
    ∙ ap (λ (t : ℕ). fill_by b.limits (newest_anchor (epochs_of b.limits history)) b.clock.base (highest_of (accepted_packets b.limits history)) t (length b.held)) s.time
    ∙ ap (λ (ps : List Packet). fill_by b.limits (newest_anchor (epochs_of b.limits history)) b.clock.base (highest_of (accepted_packets b.limits history)) (buffer.effective_time history) (length ps)) s.held
    ∙ fill_told b.limits b.clock (epochs_of b.limits history) (highest_of (accepted_packets b.limits history)) (buffer.effective_time history) (length (buffered_packets b.limits history)) s.clock
