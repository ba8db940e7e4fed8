-- The phases of a buffer.
use Rattle.std.proofs.Common.{◌≡◌}
use Rattle.std.specs.Prelude.{◌≢◌}
use Rattle.reorder_buffer.specs.declared.phase.Phase.{Phase}
use Rattle.reorder_buffer.specs.declared.phase.Phase.TheVariants.{Open, Failed}

-- a buffer that takes arrivals has not failed
pub not_failed : (phase : Phase) → phase ≡ Open → phase ≢ Failed
not_failed phase e f = cc
