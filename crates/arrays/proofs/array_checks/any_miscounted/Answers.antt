use Rattle.std.proofs.Common.{◌≡◌, ◌<◌, ◌/◌, ℕ, true, false, List, length, arith, sym, ap, ◌∙◌}
use Rattle.arrow_schema.specs.View.{column_of}
use Rattle.ipc_message.specs.Raw.{nodes_in}
use Rattle.columns.specs.View.{view_array}
use Rattle.columns.specs.Tests.{counts_wrong}
use Rattle.arrays.specs.declared.every.TypedView.{TypedView}
use Rattle.arrays.specs.Checks.{is_miscounted, typed_is_short}
use Rattle.arrays.specs.inner.Every.{typed_view}
use Rattle.arrays.proofs.Raws.{node_at, next_node, count_nodes}
use Rattle.arrays.proofs.Everys.{none_here, pair_here, pair_later, short_validity}
use Rattle.arrays.proofs.array_checks.any_miscounted.Goals as goal

pub pair_at-null_count-requires : goal.pair_at-null_count-requires
pair_at-null_count-requires c = omega (arith, count_nodes c.args.nodes.now, c.requires.count)

pub counts_wrong-requires : goal.counts_wrong-requires
counts_wrong-requires c =
    let x : TypedView = c.index-every-i.result in
    short_validity (column_of x.field.now) (view_array x.view) (none_here typed_is_short c.args.every.now c.loop-i.i x c.loop-i-test.true c.index-every-i.is c.loop-i.invariant.long).0

pub returns-then-counts_wrong : goal.returns-then-counts_wrong
returns-then-counts_wrong c =
    let x : TypedView = c.index-every-i.result in
    let nodes : List ℕ = c.args.nodes.now in
    let i : ℕ = c.loop-i.i in
    let few : i < length nodes / 16 = omega (arith, count_nodes nodes, c.requires.count) in
    let here : is_miscounted (node_at nodes i, typed_view x) ≡ true
    = ap (λ (k : ℕ). counts_wrong k (column_of x.field.now) (view_array x.view)) (sym c.pair_at-null_count.ensures.second) ∙ sym c.counts_wrong.ensures ∙ c.if-counts_wrong.true in
    sym (pair_here (nodes_in nodes) c.args.every.now i (node_at nodes i) x (next_node nodes i few) c.loop-i-test.true c.index-every-i.is here) ∙ c.loop-i.invariant.same

pub loop-i-preserved : goal.loop-i-preserved
loop-i-preserved c =
    let x : TypedView = c.index-every-i.result in
    let nodes : List ℕ = c.args.nodes.now in
    let i : ℕ = c.loop-i.i in
    let few : i < length nodes / 16 = omega (arith, count_nodes nodes, c.requires.count) in
    let here : is_miscounted (node_at nodes i, typed_view x) ≡ false
    = ap (λ (k : ℕ). counts_wrong k (column_of x.field.now) (view_array x.view)) (sym c.pair_at-null_count.ensures.second) ∙ sym c.counts_wrong.ensures ∙ c.if-counts_wrong.false in
    record {
      long = (none_here typed_is_short c.args.every.now i x c.loop-i-test.true c.index-every-i.is c.loop-i.invariant.long).1;
      same = pair_later (nodes_in nodes) c.args.every.now i (node_at nodes i) x (next_node nodes i few) c.loop-i-test.true c.index-every-i.is here ∙ c.loop-i.invariant.same;
    }
