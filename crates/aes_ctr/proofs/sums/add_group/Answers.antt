use Rattle.std.proofs.Common.{◌∙◌, arith}
use Rattle.aes_ctr.proofs.AddLemmas.{four_added}
use Rattle.aes_ctr.proofs.sums.add_group.Goals as goal

pub returns-clause-group : goal.returns-clause-group
returns-clause-group c =
    four_added c.args.text.now c.add_block.new.text c.add_block-2.new.text c.add_block-3.new.text c.add_block-4.new.text
    c.args.blocks.0 c.args.blocks.1 c.args.blocks.2 c.args.blocks.3 c.args.offset
    c.add_block.ensures.block c.add_block-2.ensures.block c.add_block-3.ensures.block c.add_block-4.ensures.block
    c.add_block-2.ensures.before c.add_block-3.ensures.before c.add_block-4.ensures.before
    c.add_block.ensures.after c.add_block-2.ensures.after c.add_block-3.ensures.after

pub returns-clause-before : goal.returns-clause-before
returns-clause-before c = λ k low.
    c.add_block-4.ensures.before k (omega arith) ∙ c.add_block-3.ensures.before k (omega arith)
    ∙ c.add_block-2.ensures.before k (omega arith) ∙ c.add_block.ensures.before k low

pub returns-clause-after : goal.returns-clause-after
returns-clause-after c = λ k high.
    c.add_block-4.ensures.after k (omega arith) ∙ c.add_block-3.ensures.after k (omega arith)
    ∙ c.add_block-2.ensures.after k (omega arith) ∙ c.add_block.ensures.after k (omega arith)
