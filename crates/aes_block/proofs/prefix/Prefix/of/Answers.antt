use Rattle.aes_block.specs.Cipher.{key_octets}
use Rattle.aes_block.proofs.PrefixLemmas.{is_prefix}
use Rattle.aes_block.proofs.prefix.Prefix.of.Goals as goal

pub invariant_of-result : goal.invariant_of-result
invariant_of-result c =
    let a = c.args in
    is_prefix (key_octets a.key) a.block a.zeroth a.first a.second c.begun-state.result c.middle-once.result c.middle.result
    c.fits-block.0 c.fits-zeroth.0 c.fits-block.1 c.fits-zeroth.1 c.fits-first.1 c.fits-second.1
    c.requires.zeroth c.requires.first c.requires.second
    c.begun-state.ensures.lanes c.middle-once.ensures.lanes c.middle.ensures.lanes
