use Rattle.query.proofs.blocks.answers_of_block.Goals as goal

pub returns-in-Eight : goal.returns-in-Eight
returns-in-Eight c = rw c.in-Eight.is c.of_8_bits.ensures

pub returns-in-Sixteen : goal.returns-in-Sixteen
returns-in-Sixteen c = rw c.in-Sixteen.is c.of_16_bits.ensures

pub returns-in-ThirtyTwo : goal.returns-in-ThirtyTwo
returns-in-ThirtyTwo c = rw c.in-ThirtyTwo.is c.of_32_bits.ensures
