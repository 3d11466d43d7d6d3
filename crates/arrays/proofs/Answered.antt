-- What is answered of a batch, by the arrays that were placed and what their checks found.
use Rattle.std.proofs.Common.{◌≡◌, ℕ, List, Some, None, Ok, Err, sym, ◌∙◌}
use Rattle.facts.specs.Checks.{first_some, unless}
use Rattle.arrow_schema.specs.Column.{Columns}
use Rattle.ipc_message.specs.declared.fault.Fault.{Fault}
use Rattle.ipc_message.specs.Raw.{RawBatch}
use Rattle.columns.specs.Array.{Array, Arrays}
use Rattle.arrays.specs.Checks.{batch_arrays, array_checks, arrays_read}

pub read_err : (columns : Columns) (b : RawBatch) (body : List ℕ) (dictionaries : List (List Array)) (arrays : Arrays) (f : Fault) → arrays ≡ batch_arrays columns b body dictionaries
    → Some f ≡ first_some (array_checks columns b body arrays) → arrays_read columns b body dictionaries ≡ Err f
unfolding arrays_read
read_err columns b body dictionaries arrays f is found =
    (λ j. unless (first_some (array_checks columns b body (sym is j))) (Ok (batch_arrays columns b body dictionaries)))
    ∙ λ j. unless (sym found j) (Ok (batch_arrays columns b body dictionaries))

pub read_ok : (columns : Columns) (b : RawBatch) (body : List ℕ) (dictionaries : List (List Array)) (arrays : Arrays) → arrays ≡ batch_arrays columns b body dictionaries
    → None ≡ first_some (array_checks columns b body arrays) → arrays_read columns b body dictionaries ≡ Ok arrays
unfolding arrays_read
read_ok columns b body dictionaries arrays is found =
    (λ j. unless (first_some (array_checks columns b body (sym is j))) (Ok (sym is j)))
    ∙ λ j. unless (sym found j) (Ok arrays)
