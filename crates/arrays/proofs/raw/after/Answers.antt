use Rattle.std.proofs.Common.{◌*◌, arith}
use Rattle.std.proofs.lemmas.List.{take_rest}
use Rattle.arrays.proofs.Raws.{nodes_left, buffers_left}
use Rattle.arrays.proofs.raw.after.Goals as goal

pub returns-clause-nodes : goal.returns-clause-nodes
returns-clause-nodes c = λ n is.
    rw (take_rest c.args.bytes.now (16 * c.args.count)) (nodes_left c.args.bytes.now c.args.count n is (omega arith) (omega arith))

pub returns-clause-buffers : goal.returns-clause-buffers
returns-clause-buffers c = λ n is.
    rw (take_rest c.args.bytes.now (16 * c.args.count)) (buffers_left c.args.bytes.now c.args.count n is (omega arith) (omega arith))
