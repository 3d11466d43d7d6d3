use Rattle.std.proofs.Common.{◌≡◌, ◌∷◌, ◌+◌, ℕ, List, map, drop, sym, subst}
use Rattle.std.proofs.lemmas.List.{drop_all}
use Rattle.arrays.specs.Shared.{SharesEntries, ShareEntries}
use Rattle.arrow_schema.specs.Column.{columns_of}
use Rattle.arrow_schema.specs.View.{column_of}
use Rattle.arrow_schema.specs.declared.types.Field.{Field}
use Rattle.columns.specs.Array.{Array, first_array}
use Rattle.columns.specs.View.{view_array}
use Rattle.facts.specs.laws.Lists.{drop-item}
use Rattle.table_cut.specs.declared.row_run.RowRun.{RowRun}
use Rattle.table_cut.specs.inner.Columns.{arrays_from_place}
use Rattle.table_cut.proofs.SharedLemmas.{next_shares}
use Rattle.table_cut.proofs.shared.+shared.Goals as goal

pub share_entries-loop-i-init : goal.share_entries-loop-i-init
share_entries-loop-i-init t c = λ share. share

pub share_entries-loop-i-preserved : goal.share_entries-loop-i-preserved
share_entries-loop-i-preserved t c = λ rest.
    let i : ℕ = c.loop-i.i in
    let fields : List Field = c.args.fields.now in
    let field : Field = c.index-fields-i.result in
    let own : RowRun = c.args.own in
    let others : RowRun = c.args.others in
    let here : drop i fields ≡ field ∷ drop (i + 1) fields = drop-item fields i field c.loop-i-test.true c.index-fields-i.is in
    let first : SharesEntries (column_of field) (first_array (arrays_from_place i own)) (first_array (arrays_from_place i others))
    = subst (λ (a : Array). SharesEntries (column_of field) a (first_array (arrays_from_place i others))) c.view_at-a.ensures
    (subst (λ (b : Array). SharesEntries (column_of field) (view_array c.view_at-a.result) b) c.view_at-b.ensures (c.shares_entries.ensures c.if-not-shares_entries.false)) in
    c.loop-i.invariant
    (subst (λ (fs : List Field). ShareEntries (columns_of (map column_of fs)) (arrays_from_place i own) (arrays_from_place i others)) (sym here)
    (next_shares (column_of field) (columns_of (map column_of (drop (i + 1) fields))) own others i first rest))

pub share_entries-returns : goal.share_entries-returns
unfolding ShareEntries
share_entries-returns t c = λ yes.
    c.loop-i.invariant
    (subst (λ (fs : List Field). ShareEntries (columns_of (map column_of fs)) (arrays_from_place c.loop-i.i c.args.own) (arrays_from_place c.loop-i.i c.args.others))
    (sym (drop_all c.loop-i.i c.args.fields.now c.loop-i-test.false)) tt)
