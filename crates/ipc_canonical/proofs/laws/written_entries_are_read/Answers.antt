use Rattle.std.specs.Prelude.{◌≡◌, ◌≤◌, ◌==◌, not, List, [], length}
use Rattle.std.specs.List.{AllByRecursion, list_any}
use Rattle.std.proofs.Common.{arith, ap, sym, subst, ◌∙◌}
use Rattle.arrow_schema.specs.Column.{Columns}
use Rattle.arrow_schema.specs.Preorder.{preorder_all}
use Rattle.columns.specs.Alone.{own_column, own_array, IsBuiltAlone}
use Rattle.columns.specs.Array.{Array, Arrays, array_list, slots_in, first_array}
use Rattle.columns.specs.Built.{built_parts}
use Rattle.columns.specs.Layouts.{dictionary_arrays}
use Rattle.columns.specs.Tests.{Typed, every_array}
use Rattle.arrays.specs.Checks.{batch_arrays}
use Rattle.ipc_canonical.specs.WrittenBatch.{written_batch, written_body, IsWritable}
use Rattle.ipc_canonical.proofs.Written.{most}
use Rattle.ipc_canonical.proofs.Answered.{one_count, entries_are, first_few}
use Rattle.ipc_canonical.proofs.laws.written_entries_are_read.Goals as goal

pub returns : goal.returns
returns c =
    let shape = c.written_arrays_have_their_shape.ensures in
    let slots = c.written_slots_pass.ensures in
    let pass = c.written_batches_pass.ensures in
    let count : (t : Typed) (h : IsBuiltAlone most t) → slots_in t.array ≡ length h.rows =
    λ t h. one_count t.array (length h.rows) (ap (λ (xs : Arrays). list_any (λ a. not (slots_in a == length h.rows)) (array_list xs)) h.array ∙ shape.slots (own_column t) h.rows) in
    let few : (t : Typed) (h : IsBuiltAlone most t) → length h.rows ≤ most =
    λ t h.
    let all = shape.few_slots most (own_column t) h.rows h.can h.weighs in
    let own : AllByRecursion (λ u. slots_in u.array ≤ most) (every_array (own_column t) (own_array t)) =
    subst (λ (xs : Arrays). AllByRecursion (λ u. slots_in u.array ≤ most) (every_array (own_column t) xs)) (sym h.array) all in
    omega (arith, count t h, first_few most t.column t.array own) in
    let writable : (t : Typed) (h : IsBuiltAlone most t) → length (preorder_all (own_column t)) ≤ 2048 → IsWritable (own_column t) h.rows =
    λ t h n. record { can = h.can; few_columns = n; few_rows = few t h; weighs = h.weighs } in
    record {
      writable = λ t h n. rw (count t h, h.array) (pass.writable (own_column t) h.rows (writable t h n));
      read = λ t h n none.
          let cs : Columns = own_column t in
          let w = writable t h n in
          let known : dictionary_arrays cs (built_parts cs h.rows) ≡ [] = ap (dictionary_arrays cs) (sym h.array) ∙ none in
          let arrays : batch_arrays cs (written_batch cs (built_parts cs h.rows) (length h.rows)) (written_body cs (built_parts cs h.rows)) [] ≡ built_parts cs h.rows =
          ap (λ (ds : List (List Array)). batch_arrays cs (written_batch cs (built_parts cs h.rows) (length h.rows)) (written_body cs (built_parts cs h.rows)) ds) (sym known) ∙ pass.arrays cs h.rows w in
          rw (count t h, h.array)
          (entries_are t.column (written_batch cs (built_parts cs h.rows) (length h.rows)) (written_body cs (built_parts cs h.rows)) t.array (built_parts cs h.rows) arrays (ap first_array (sym h.array)) (pass.checks cs h.rows w)
          (slots.texts cs h.rows h.can h.fit));
    }
