use Rattle.std.proofs.Common.{refl, arith}
use Rattle.std.proofs.lemmas.Result.{err_from_is_err_and}
use Rattle.columns.specs.Places.{within}
use Rattle.ipc_message.specs.View.{raw_batch_of}
use Rattle.ipc_stream.proofs.Batches.{RowLaws, within_small, weight_fits, batch_added, batch_refused}
use Rattle.ipc_stream.proofs.add.add_batch.Goals as goal

pub returns-in_err-placed : goal.returns-in_err-placed
returns-in_err-placed c = λ k is.
    let p = err_from_is_err_and c.from_residual.result c.from_residual.ensures.1 in
    rw (p.1, p.2) (batch_refused k (raw_batch_of c.args.raw.now) (within c.args.bytes.now c.args.body) _ (c.in_err-placed.ensures k is).2)

pub overflow_add-front : goal.overflow_add-front
overflow_add-front c =
    let laws : RowLaws = record { rows = c.read_rows_are_rows.ensures; readable = c.read_dictionaries_are_readable.ensures.known; bytes = c.read_dictionaries_have_bytes.ensures.known } in
    let known = c.requires.front in
    let given = c.in_ok-placed.ensures known.0 known.1 in
    let light = weight_fits laws c.args.bytes.now c.args.front.now known.0 (raw_batch_of c.args.raw.now) (within c.args.bytes.now c.args.body) given.0 c.in_ok-placed.placed known.1
    (within_small c.args.bytes.now c.args.body (λ i. (c.type_inv.bytes i).fits)) given.2 in
    omega (arith, light)

pub returns : goal.returns
returns c = λ k is.
    let laws : RowLaws = record { rows = c.read_rows_are_rows.ensures; readable = c.read_dictionaries_are_readable.ensures.known; bytes = c.read_dictionaries_have_bytes.ensures.known } in
    let given = c.in_ok-placed.ensures k is in
    batch_added laws c.args.bytes.now c.args.front.now _ k (raw_batch_of c.args.raw.now) (within c.args.bytes.now c.args.body) given.0 c.in_ok-placed.placed _ is
    (within_small c.args.bytes.now c.args.body (λ i. (c.type_inv.bytes i).fits)) given.1 given.2
    (record { schema = refl; columns = refl; dictionaries = refl; batches = c.in_ok-push.ensures.items; arrays = refl; weight = refl }) refl
