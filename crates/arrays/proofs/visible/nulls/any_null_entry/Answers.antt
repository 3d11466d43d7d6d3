use Rattle.std.specs.Prelude.{not, ◌||◌}
use Rattle.std.specs.List.{list_any, range_with_len}
use Rattle.std.proofs.Common.{◌≡◌, ℕ, Bool, true, false, List, ap, sym, ◌∙◌}
use Rattle.arrow_schema.specs.Column.{Kind}
use Rattle.arrow_schema.specs.View.{index_of, kind_of}
use Rattle.columns.specs.Array.{Array, dictionary_in}
use Rattle.columns.specs.CellAt.{entries_of_kind, is_valid}
use Rattle.columns.specs.View.{view_array}
use Rattle.columns.specs.Visible.{is_null}
use Rattle.arrays.proofs.EntryNulls.{no_values}
use Rattle.arrays.proofs.VisibleSlots.{past}
use Rattle.arrays.proofs.visible.nulls.any_null_entry.Goals as goal

pub returns-then-any_unset : goal.returns-then-any_unset
returns-then-any_unset c =
    let kind : Kind = kind_of c.args.data_type.now in
    let a : Array = view_array c.args.view in
    let slots : List ℕ = range_with_len c.args.from c.args.count in
    let values : list_any is_null (entries_of_kind kind (dictionary_in a)) ≡ false = c.has_only_values.ensures c.if-has_only_values.true in
    let unset : true ≡ list_any (λ i. not (is_valid a i)) slots = sym c.if-any_unset.true ∙ c.any_unset.ensures in
    c.if-any_unset.true
    ∙ ap (λ (b : Bool). b || list_any (past c.args.spec c.args.view kind) slots) unset
    ∙ sym (no_values (index_of c.args.spec) kind a c.args.from c.args.count values)

pub returns-else-any_unset : goal.returns-else-any_unset
returns-else-any_unset c =
    let kind : Kind = kind_of c.args.data_type.now in
    let a : Array = view_array c.args.view in
    let slots : List ℕ = range_with_len c.args.from c.args.count in
    let values : list_any is_null (entries_of_kind kind (dictionary_in a)) ≡ false = c.has_only_values.ensures c.if-has_only_values.true in
    let set : false ≡ list_any (λ i. not (is_valid a i)) slots = sym c.if-any_unset.false ∙ c.any_unset.ensures in
    c.any_past.ensures kind
    ∙ (λ j. list_any (past (c.new.ensures.spec j) (c.new.ensures.view j) kind) slots)
    ∙ ap (λ (b : Bool). b || list_any (past c.args.spec c.args.view kind) slots) set
    ∙ sym (no_values (index_of c.args.spec) kind a c.args.from c.args.count values)
