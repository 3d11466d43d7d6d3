use Rattle.std.proofs.Common.{refl}
use Rattle.query.proofs.column_slots.column_at.Goals as goal

pub returns : goal.returns
returns c = record {
  column = refl;
  array = c.array_or.ensures c.args.batch.bytes.now c.args.batch.dictionaries.now;
  buffers = c.buffers_of.ensures;
}
