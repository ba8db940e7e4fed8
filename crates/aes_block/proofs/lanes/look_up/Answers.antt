use Rattle.aes_block.proofs.LaneLemmas.{places_ok, swz_read}
use Rattle.aes_block.proofs.lanes.look_up.Goals as goal

pub swizzle : goal.swizzle
swizzle c = places_ok c.args.indexes c.fits-indexes.0 c.requires

pub returns : goal.returns
returns c = swz_read c.args.table c.args.indexes c.fits-indexes.0
