use Rattle.std.proofs.Common.{◌≡◌, ℕ, List, Some, map, sym, ap, ◌∙◌}
use Rattle.facts.specs.Checks.{first_some}
use Rattle.arrow_schema.specs.Column.{Columns, columns_of}
use Rattle.arrow_schema.specs.View.{column_of}
use Rattle.ipc_message.specs.Raw.{RawBatch}
use Rattle.ipc_message.specs.View.{raw_batch_of}
use Rattle.columns.specs.declared.array.PlacedArray.{PlacedArray}
use Rattle.columns.specs.Array.{Array, Arrays}
use Rattle.columns.specs.Places.{within}
use Rattle.columns.specs.View.{arrays_in, placed_arrays}
use Rattle.arrays.specs.Checks.{batch_arrays, array_checks}
use Rattle.arrays.proofs.Answered.{read_err}
use Rattle.arrays.proofs.batch_arrays.read_arrays.Goals as goal

pub returns-in-Some-clause-arrays : goal.returns-in-Some-clause-arrays
returns-in-Some-clause-arrays c =
    let columns : Columns = columns_of (map column_of c.args.fields.now) in
    let b : RawBatch = raw_batch_of c.args.batch.now in
    let body : List ℕ = within c.args.bytes.now c.args.body in
    let known : List (List Array) = map (arrays_in c.args.bytes.now c.args.dictionaries.now) c.args.parts.now in
    let arrays : Arrays = placed_arrays c.args.bytes.now c.args.dictionaries.now c.deref.result.now in
    let same : c.deref.result.now ≡ c.in_ok-arrays.arrays.items = cc in
    let some : c.in_ok-fault.fault ≡ Some c.in-Some.fault = cc in
    let is : arrays ≡ batch_arrays columns b body known = ap (λ (xs : List PlacedArray). placed_arrays c.args.bytes.now c.args.dictionaries.now xs) same ∙ c.in_ok-arrays.ensures.placed in
    let found : Some c.in-Some.fault ≡ first_some (array_checks columns b body arrays)
    = sym some ∙ c.in_ok-fault.ensures ∙ ap (λ (xs : List ℕ). first_some (array_checks columns b xs arrays)) c.bytes_at.ensures in
    read_err columns b body known arrays c.in-Some.fault is found
