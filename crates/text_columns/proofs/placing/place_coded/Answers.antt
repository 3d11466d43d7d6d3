use Rattle.text_columns.proofs.PlacedBuffers.{coded_laid}
use Rattle.text_columns.proofs.placing.place_coded.Goals as goal

pub returns : goal.returns
returns c =
    coded_laid c.args.entries.now c.args.coding.now c.args.bytes.now.items c.append.new.bytes.items c.place_entries.new.bytes.items c.args.dictionaries.now.items c.place_entries.new.dictionaries.items
    c.in_ok-indices.indices c.in_ok-part.part
    (rw c.deref.ensures.value at c.in_ok-indices.ensures)
    (rw c.len.ensures.len at c.in_ok-part.ensures)
