-- A packet that may wait leaves a sound state.
use Rattle.std.proofs.Common.{◌∙◌, subst}
use Rattle.receiver_rules.specs.Seen.{packet_at}
use Rattle.reorder_buffer.specs.Inside.Sound.{IsSound}
use Rattle.reorder_buffer.proofs.HeldLemmas.{sound_after, after_hold}
use Rattle.reorder_buffer.proofs.buffer.Buffer.hold.Goals as goal

pub invariant_of-self : goal.invariant_of-self
invariant_of-self c =
    record {
      state = sound_after c.args.self.now _ (packet_at c.args.place.now c.args.payload.now)
          (after_hold c.self.inside c.args.self.now c.self.view_is c.put.new.self (packet_at c.args.place.now c.args.payload.now) c.highest_after.result c.put.ensures.packets c.highest_after.ensures)
          (subst IsSound c.self.view_is c.self.invariant.state)
          c.requires.fits.low c.requires.fits.high c.requires.fits.new c.requires.fits.near c.requires.fits.mid;
      places = c.put.ensures.capacity ∙ c.self.invariant.places;
    }
