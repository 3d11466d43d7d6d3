use Rattle.text_columns.proofs.placing.append_bits.Goals as goal

pub returns : goal.returns
returns c = rw (c.deref.ensures.value, c.in_ok-buffer.ensures.exact) at c.append.ensures
