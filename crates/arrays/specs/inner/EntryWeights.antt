-- What is known of the weights of a dictionary's entries.
use Rattle.std.specs.Prelude.{ℕ, ◌+◌, List, map, if◌then◌else◌}
use Rattle.std.specs.List.{range_with_len}
use Rattle.cells.specs.Weight.{capped_weight}
use Rattle.columns.specs.Array.{Array, slots_in}
use Rattle.columns.specs.CellAt.{is_valid, span_size}
use Rattle.columns.specs.Offsets.{width_of}
use Rattle.columns.specs.View.{view_array}
use Rattle.arrays.specs.declared.entry_weights.EntryWeights.{EntryWeights}
use Rattle.arrays.specs.declared.entry_weights.EntryWeights.TheVariants.{First, Sized}

-- what each slot of an array of texts or binaries weighs
abbrev pub content_weights : (width : ℕ) → Array → List ℕ
content_weights width a = map (λ i. capped_weight (1 + (if is_valid a i then span_size width a i else 0))) (range_with_len 0 (slots_in a))

-- the weights of the first entries that are known
abbrev pub weights_in : EntryWeights → List ℕ
weights_in (First weights) = weights.now
weights_in (Sized slots) = content_weights (width_of slots.width) (view_array slots.view)
