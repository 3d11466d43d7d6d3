-- Whether the columns take the nodes and buffers that there are.
use Rattle.std.specs.Prelude.{not, ◌&&◌, ◌==◌}
use Rattle.std.proofs.Common.{◌≡◌, ℕ, ◌<◌, ◌^◌, false, length, map, arith, sym, ap, ◌∙◌}
use Rattle.std.proofs.lemmas.List.{length-map}
use Rattle.std.proofs.lemmas.Bool.Decides.{nat_tests}
use Rattle.std.proofs.lemmas.Bool.{and_parts, eqb-true, not-false}
use Rattle.arrow_schema.specs.Column.{Columns}
use Rattle.ipc_message.specs.Raw.{RawBatch}
use Rattle.columns.specs.Array.{Arrays, no_array}
use Rattle.columns.specs.Tests.{every_array}
use Rattle.columns.specs.Buffers.{node_of}
use Rattle.columns.specs.laws.Everys.{as_many}
use Rattle.arrays.specs.Checks.{has_other_layout}
use Rattle.arrays.specs.inner.Counted.{capped, buffers_among}

-- a count is what is needed where the capped one is: no slice has more
pub same_capped : (n needed : ℕ) → n < 2 ^ 60 → (n == capped needed) ≡ (n == needed)
same_capped n needed small = grind (arith, nat_tests)

pub layout_is : (columns : Columns) (b : RawBatch) (nodes buffers : ℕ) → length b.nodes < 2 ^ 60 → length b.buffers < 2 ^ 60
    → nodes ≡ capped (length (every_array columns no_array)) → buffers ≡ capped (buffers_among (every_array columns no_array))
    → has_other_layout columns b ≡ not (length b.nodes == nodes && length b.buffers == buffers)
layout_is columns b nodes buffers few_nodes few_buffers n m =
    let every = every_array columns no_array in
    let count = length-map every node_of in
    let left : (length b.nodes == length (map node_of every)) ≡ (length b.nodes == nodes)
    = ap (λ (k : ℕ). length b.nodes == k) count ∙ sym (same_capped (length b.nodes) (length every) few_nodes) ∙ ap (λ (k : ℕ). length b.nodes == k) (sym n) in
    let right : (length b.buffers == buffers_among every) ≡ (length b.buffers == buffers)
    = sym (same_capped (length b.buffers) (buffers_among every) few_buffers) ∙ ap (λ (k : ℕ). length b.buffers == k) (sym m) in
    λ j. not (left j && right j)

-- where they do, each array has a node
pub every_has_a_node : (columns : Columns) (b : RawBatch) (arrays : Arrays) → has_other_layout columns b ≡ false → length (every_array columns arrays) ≡ length b.nodes
every_has_a_node columns b arrays h =
    let every = every_array columns no_array in
    let parts = and_parts (length b.nodes == length (map node_of every)) _ (not-false _ h) in
    as_many columns arrays no_array ∙ sym (length-map every node_of) ∙ sym (eqb-true (length b.nodes) (length (map node_of every)) parts.0)
