use Rattle.std.specs.Prelude.{option_map}
use Rattle.std.proofs.Common.{◌≡◌, ℕ, map, ap, ◌∙◌}
use Rattle.std.proofs.lemmas.Result.{IfOk-weaker}
use Rattle.arrow_schema.specs.Column.{Column, Kind}
use Rattle.arrow_schema.specs.Parts.{kind_of_column, index_of_column}
use Rattle.arrow_schema.specs.laws.Parts.{kind_of_field, index_of_field}
use Rattle.arrow_schema.specs.View.{column_of, kind_of, index_of}
use Rattle.flatbuf.specs.View.{node_of, nodes_of, slot_before}
use Rattle.ipc_write.specs.Trees.{child_nodes}
use Rattle.ipc_write.proofs.TreeSteps.{field_is, nodes_after, ids_after, nodes_end}
use Rattle.ipc_write.proofs.fields.+fields.Goals as goal

pub field_node-returns-clause-node : goal.field_node-returns-clause-node
field_node-returns-clause-node t c =
    let column : Column = column_of c.args.field.now in
    let kind : Kind = kind_of c.args.field.now.data_type in
    let k : kind_of_column (column_of c.args.field.now) ≡ kind_of c.args.field.now.data_type = kind_of_field c.args.field.now in
    let d : index_of_column (column_of c.args.field.now) ≡ option_map index_of c.args.field.now.dictionary = index_of_field c.args.field.now in
    let below = c.in_ok-children.ensures.nodes ∙ ap (λ (id : ℕ). child_nodes id kind) c.in_ok-dictionary.ensures.next in
    IfOk-weaker c.field_table.result _ _
    (λ n h. h ∙ field_is c.args.next_id.now column kind (option_map index_of c.args.field.now.dictionary) (slot_before c.in_ok-dictionary.dictionary) (nodes_of (map node_of c.in_ok-children.children.items)) k d c.in_ok-dictionary.ensures.slot below)
    c.field_table.ensures

pub field_nodes-loop-field-preserved : goal.field_nodes-loop-field-preserved
field_nodes-loop-field-preserved t c =
    let was = c.loop-field.invariant in
    let made = c.in_ok-field_node.ensures in (
      nodes_after c.args.fields.now c.loop-field.field-index c.field-item.result c.loop-field.next_id c.field_node.new.next_id c.loop-field.nodes.items c.push.new.self.items c.in_ok-field_node.field-0
          c.loop-field-test.true c.field-item.is c.in_ok-push.ensures.items made.node made.next
          ∙ was.0,
      ids_after c.args.fields.now c.loop-field.field-index c.field-item.result c.loop-field.next_id c.field_node.new.next_id c.loop-field-test.true c.field-item.is made.next ∙ was.1,
    )

pub field_nodes-returns-clause-nodes : goal.field_nodes-returns-clause-nodes
field_nodes-returns-clause-nodes t c =
    nodes_end c.args.fields.now c.loop-field.field-index c.loop-field.next_id (map node_of c.loop-field.nodes.items) c.loop-field-test.false ∙ c.loop-field.invariant.0
