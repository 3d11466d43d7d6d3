use Rattle.std.proofs.Common.{◌+◌, ◌*◌, ◌≤◌, length}
use Rattle.text_columns.specs.inner.Kept.{key_list}
use Rattle.text_columns.proofs.ItemRows.{ItemsRead}
use Rattle.text_columns.proofs.LineRows.{MembersRead}
use Rattle.text_columns.proofs.ListCells.{ListRead}
use Rattle.text_columns.proofs.+next.Given as goal

abbrev pub invariant-next::push_list_items-loop-count : goal.invariant-next::push_list_items-loop-count
invariant-next::push_list_items-loop-count l = record {
  some : 1 ≤ l.weight;
  few : l.weight ≤ 16777216;
  read : ListRead l.form.dates l.form.depth l.initial.reader l.reader l.count l.weight l.initial.items l.items;
}

abbrev pub decreases-builder::ColumnBuilder::push_array : goal.decreases-builder::ColumnBuilder::push_array
decreases-builder::ColumnBuilder::push_array l = l.form.depth * 16 + 15

abbrev pub decreases-next::push_list_items : goal.decreases-next::push_list_items
decreases-next::push_list_items l = l.form.depth * 16 + 2

abbrev pub decreases-builder::ColumnBuilder::push_next : goal.decreases-builder::ColumnBuilder::push_next
decreases-builder::ColumnBuilder::push_next l = l.form.depth * 16 + 1

abbrev pub decreases-builder::ColumnBuilder::push_nested : goal.decreases-builder::ColumnBuilder::push_nested
decreases-builder::ColumnBuilder::push_nested l = l.form.depth * 16

abbrev pub invariant-next::push_items-loop-i : goal.invariant-next::push_items-loop-i
invariant-next::push_items-loop-i l = record {
  some : 1 ≤ l.weight;
  few : l.weight ≤ 16777216;
  within : l.i ≤ length l.initial.builders;
  read : ItemsRead l.form.dates l.form.depth l.initial.reader l.reader l.i l.weight l.initial.builders l.builders;
}

abbrev pub invariant-next::push_members-loop-k : goal.invariant-next::push_members-loop-k
invariant-next::push_members-loop-k l = record {
  read : MembersRead l.form.dates l.form.depth (key_list l.names.keys) l.initial.reader l.reader l.initial.weights l.weights l.initial.builders l.builders;
}

abbrev pub decreases-builder::ColumnBuilder::push_object : goal.decreases-builder::ColumnBuilder::push_object
decreases-builder::ColumnBuilder::push_object l = l.form.depth * 16 + 14

abbrev pub decreases-next::push_fields : goal.decreases-next::push_fields
decreases-next::push_fields l = l.form.depth * 16 + 5

abbrev pub decreases-next::push_members : goal.decreases-next::push_members
decreases-next::push_members l = l.form.depth * 16 + 4

abbrev pub decreases-next::push_member : goal.decreases-next::push_member
decreases-next::push_member l = l.form.depth * 16 + 3

abbrev pub decreases-next::push_items : goal.decreases-next::push_items
decreases-next::push_items l = l.form.depth * 16 + 2

abbrev pub decreases-next::push_named : goal.decreases-next::push_named
decreases-next::push_named l = l.form.depth * 16 + 7

abbrev pub decreases-next::push_parts : goal.decreases-next::push_parts
decreases-next::push_parts l = l.form.depth * 16 + 6
