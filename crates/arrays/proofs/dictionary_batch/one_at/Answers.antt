use Rattle.std.proofs.Common.{◌≡◌, ◌+◌, ◌-◌, arith}
use Rattle.arrow_schema.specs.View.{column_of}
use Rattle.arrays.proofs.DictionaryFound.{one_within}
use Rattle.arrays.proofs.dictionary_batch.one_at.Goals as goal

pub returns-then-i-fields : goal.returns-then-i-fields
returns-then-i-fields c = let e : c.args.i + 1 - c.args.i ≡ 1 = omega arith in rw e (one_within column_of c.args.fields.now c.args.i c.if-i-fields.true)
