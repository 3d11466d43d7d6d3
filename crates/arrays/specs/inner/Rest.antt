-- What is left of a batch to be given to columns, and how much they take.
use Rattle.std.specs.Prelude.{◌≡◌, ℕ, ◌+◌, ◌≤◌, Bool, true, List, [], map, drop, get_or}
use Rattle.std.specs.List.{list_all}
use Rattle.arrow_schema.specs.Column.{Kind, Column, Columns}
use Rattle.ipc_message.specs.Raw.{nodes_in, buffers_in}
use Rattle.columns.specs.declared.array.PlacedArray.{PlacedArray}
use Rattle.columns.specs.declared.array.PlacedLayout.{PlacedLayout}
use Rattle.columns.specs.declared.array.PlacedLayout.TheFolds.{fold-PlacedLayout}
use Rattle.columns.specs.declared.array.DictionaryPart.{DictionaryPart}
use Rattle.columns.specs.declared.span.Span.{Span}
use Rattle.columns.specs.Array.{Array, Layout, layout_in, validity_in}
use Rattle.columns.specs.Buffers.{Node}
use Rattle.columns.specs.FromBuffers.{array_from, kind_array_from, arrays_from}
use Rattle.columns.specs.Places.{within}
use Rattle.columns.specs.Within.{layout_within, array_within, stands_within, is_placed_within}
use Rattle.columns.specs.View.{array_in, arrays_in, layout_step, array_step, placed_arrays}
use Rattle.arrays.specs.declared.rest.Rest.{Rest}
use Rattle.arrays.specs.Checks.{plain_node, buffer_bytes}
use Rattle.arrays.specs.Placed.{ArraysEndWithin}

abbrev pub rest_nodes : Rest → List Node
rest_nodes r = map plain_node (nodes_in r.nodes.now)

abbrev pub rest_buffers : Rest → List (List ℕ)
rest_buffers r = map (buffer_bytes (within r.bytes.now r.body)) (buffers_in r.buffers.now)

-- the arrays of a dictionary that an array knows
abbrev pub rest_known : Rest → DictionaryPart → List Array
rest_known r = arrays_in r.bytes.now r.dictionaries.now

abbrev pub rest_dictionaries : Rest → List (List Array)
rest_dictionaries r = map (rest_known r) r.parts.now

-- an array is what the first of them are for a column
abbrev pub IsPlaced : Column → Rest → PlacedArray → Type 0
IsPlaced c r a = array_in r.bytes.now (rest_known r) a ≡ array_from c (rest_nodes r) (rest_buffers r) (rest_dictionaries r)

-- the same of a type, without its dictionary
abbrev pub kind_placed : Kind → Rest → Array
kind_placed k r = kind_array_from k (rest_nodes r) (rest_buffers r) (rest_dictionaries r)

abbrev pub IsLaidOut : Kind → Rest → PlacedLayout → Type 0
IsLaidOut k r p = fold-PlacedLayout Layout Array (layout_step r.bytes.now (rest_known r)) (array_step r.bytes.now) p ≡ layout_in (kind_placed k r)

abbrev pub IsValidity : Kind → Rest → Span → Type 0
IsValidity k r validity = within r.bytes.now validity ≡ validity_in (kind_placed k r)

abbrev pub ArePlaced : Columns → Rest → List PlacedArray → Type 0
ArePlaced cs r arrays = placed_arrays r.bytes.now r.dictionaries.now arrays ≡ arrays_from cs (rest_nodes r) (rest_buffers r) (rest_dictionaries r)

-- the same of what stands below an array with n buffers
abbrev pub IsPlacedBelow : Column → Rest → (buffers : ℕ) → PlacedArray → Type 0
IsPlacedBelow c r buffers a = array_in r.bytes.now (rest_known r) a ≡ array_from c (drop 1 (rest_nodes r)) (drop buffers (rest_buffers r)) (rest_dictionaries r)

abbrev pub ArePlacedBelow : Columns → Rest → List PlacedArray → Type 0
ArePlacedBelow cs r arrays =
    placed_arrays r.bytes.now r.dictionaries.now arrays ≡ arrays_from cs (drop 1 (rest_nodes r)) (drop 1 (rest_buffers r)) (rest_dictionaries r)

-- a dictionary is the first of them, or has no arrays where there is none
abbrev pub IsFirstPart : Rest → DictionaryPart → Type 0
IsFirstPart r part = rest_known r part ≡ get_or (rest_dictionaries r) 0 []

-- ---- where they end

abbrev pub IsInBody : Rest → Span → Type 0
IsInBody r span = span.start + span.len ≤ r.body.start + r.body.len

-- by a test of what is placed within n bytes
abbrev pub Ends : Rest → (ℕ → Bool) → Type 0
Ends r placed = (size : ℕ) → r.body.start + r.body.len ≤ size → list_all (stands_within size r.dictionaries.now) r.parts.now ≡ true → placed size ≡ true

abbrev pub PartEnds : Rest → DictionaryPart → Type 0
PartEnds r part = Ends r (λ size. stands_within size r.dictionaries.now part)

abbrev pub LayoutEnds : Rest → PlacedLayout → Type 0
LayoutEnds r p = Ends r (λ size. fold-PlacedLayout Bool Bool (layout_within size (stands_within size r.dictionaries.now)) (array_within size) p)

abbrev pub ArrayEnds : Rest → PlacedArray → Type 0
ArrayEnds r a = Ends r (λ size. is_placed_within size r.dictionaries.now a)

abbrev pub ArraysEnd : Rest → List PlacedArray → Type 0
ArraysEnd r arrays = ArraysEndWithin r.body r.dictionaries.now r.parts.now arrays

-- what is left after n nodes, buffers and dictionaries
pub record IsLeft (r left : Rest) (nodes buffers dictionaries : ℕ) : Type 0 where
  pub same_body : left.body ≡ r.body
  pub same_bytes : left.bytes.now ≡ r.bytes.now
  pub same_dictionaries : left.dictionaries.now ≡ r.dictionaries.now
  pub nodes_left : rest_nodes left ≡ drop nodes (rest_nodes r)
  pub buffers_left : rest_buffers left ≡ drop buffers (rest_buffers r)
  pub parts_left : left.parts.now ≡ drop dictionaries r.parts.now
  pub dictionaries_left : rest_dictionaries left ≡ drop dictionaries (rest_dictionaries r)
