-- The layouts that places of bytes stand for, without looking up dictionaries.
use Rattle.std.specs.Prelude.{ℕ, List}
use Rattle.columns.specs.Array.{Array, Layout}
use Rattle.columns.specs.View.{layout_step, array_step, no_dictionary}
use Rattle.columns.specs.declared.array.PlacedLayout.{PlacedLayout}
use Rattle.columns.specs.declared.array.PlacedLayout.TheFolds.{fold-PlacedLayout}

abbrev pub flat_layout : List ℕ → PlacedLayout → Layout
flat_layout bytes = fold-PlacedLayout Layout Array (layout_step bytes no_dictionary) (array_step bytes)
