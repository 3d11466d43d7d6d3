use Rattle.text_columns.proofs.plain_reader.PlainReader.new.Goals as goal

pub returns : goal.returns
returns c = rw c.as_bytes.ensures.value at c.fresh-stand.ensures.same
