-- Arrays whose values and indices are bytes: numbers below 256.
use Rattle.std.specs.Prelude.{ℕ, Bool, true, ◌&&◌, nat_lt, List}
use Rattle.std.specs.List.{list_all}
use Rattle.columns.specs.Array.{Array, Arrays, Layout, array, no_array, and_array, null_layout, bit_layout, fixed_layout, binary_layout, list_layout, fixed_list_layout, struct_layout, dictionary_layout}

abbrev pub are_bytes : List ℕ → Bool
are_bytes bytes = list_all (λ b. nat_lt b 256) bytes

unfoldable mutual
  pub has_bytes : Array → Bool
  has_bytes (array slots validity layout) = has_layout_bytes layout

  pub has_layout_bytes : Layout → Bool
  has_layout_bytes null_layout = true
  has_layout_bytes (bit_layout bits) = true
  has_layout_bytes (fixed_layout values) = are_bytes values
  has_layout_bytes (binary_layout offsets contents) = true
  has_layout_bytes (list_layout offsets items) = has_bytes items
  has_layout_bytes (fixed_list_layout items) = has_bytes items
  has_layout_bytes (struct_layout children) = have_bytes children
  has_layout_bytes (dictionary_layout indices dictionary) = are_bytes indices && have_bytes dictionary

  pub have_bytes : Arrays → Bool
  have_bytes no_array = true
  have_bytes (and_array a others) = has_bytes a && have_bytes others
