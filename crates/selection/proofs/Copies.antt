-- What copies are in bytes, part by part.
use Rattle.std.specs.Global.{Box}
use Rattle.std.proofs.Common.{◌≡◌, ◌+◌, ◌<◌, ℕ, List, [], ◌∷◌, ◌++◌, map, length, take, get_or, sym, ap, ◌∙◌}
use Rattle.std.specs.Global.{Vec}
use Rattle.std.proofs.lemmas.List.{map-append, take_more}
use Rattle.columns.specs.Array.{Array, Layout, array, arrays_of, list_layout, fixed_list_layout, struct_layout}
use Rattle.columns.specs.Places.{within}
use Rattle.columns.specs.View.{layout_step, array_step, array_in}
use Rattle.columns.specs.declared.array.DictionaryPart.{DictionaryPart}
use Rattle.columns.specs.declared.array.PlacedArray.{PlacedArray}
use Rattle.columns.specs.declared.array.PlacedLayout.TheFolds.{fold_out-PlacedArray, fold-roll-PlacedLayout}
use Rattle.columns.specs.declared.array.PlacedLayout.TheOpen as placed
use Rattle.columns.specs.declared.array.PlacedLayout.TheVariants as layouts
use Rattle.columns.specs.declared.span.Span.{Span}
use Rattle.selection.specs.inner.Copies.{layout_in, IsSameLayout, IsSameArray, AreSameArrays}

array_is : (bytes : List ℕ) (known : DictionaryPart → List Array) (a : PlacedArray) → array_in bytes known a ≡ array a.slots (within bytes a.validity) (layout_in bytes known a.layout)
array_is bytes known a = fold_out-PlacedArray Layout Array (layout_step bytes known) (array_step bytes) a

-- an array of equal parts
pub array_copied : (a b : PlacedArray) → a.slots ≡ b.slots → a.validity ≡ b.validity → IsSameLayout a.layout b.layout → IsSameArray a b
array_copied a b slots validity same bytes known =
    array_is bytes known a ∙ (λ k. array (slots k) (within bytes (validity k)) (same bytes known k)) ∙ sym (array_is bytes known b)

list_is : (bytes : List ℕ) (known : DictionaryPart → List Array) (offsets : Span) (items : Box PlacedArray) → layout_in bytes known (layouts.List offsets items) ≡ list_layout (within bytes offsets) (array_in bytes known items.value)
list_is bytes known offsets items =
    ap (layout_in bytes known) (sym (layouts.rolls-List offsets items)) ∙ fold-roll-PlacedLayout Layout Array (layout_step bytes known) (array_step bytes) (placed.List offsets items)

pub list_copied : (offsets : Span) (items others : Box PlacedArray) → IsSameArray items.value others.value → IsSameLayout (layouts.List offsets items) (layouts.List offsets others)
list_copied offsets items others same bytes known =
    list_is bytes known offsets items ∙ ap (list_layout (within bytes offsets)) (same bytes known) ∙ sym (list_is bytes known offsets others)

fixed_list_is : (bytes : List ℕ) (known : DictionaryPart → List Array) (items : Box PlacedArray) → layout_in bytes known (layouts.FixedList items) ≡ fixed_list_layout (array_in bytes known items.value)
fixed_list_is bytes known items =
    ap (layout_in bytes known) (sym (layouts.rolls-FixedList items)) ∙ fold-roll-PlacedLayout Layout Array (layout_step bytes known) (array_step bytes) (placed.FixedList items)

pub fixed_list_copied : (items others : Box PlacedArray) → IsSameArray items.value others.value → IsSameLayout (layouts.FixedList items) (layouts.FixedList others)
fixed_list_copied items others same bytes known =
    fixed_list_is bytes known items ∙ ap fixed_list_layout (same bytes known) ∙ sym (fixed_list_is bytes known others)

struct_is : (bytes : List ℕ) (known : DictionaryPart → List Array) (children : Vec PlacedArray) → layout_in bytes known (layouts.Struct children) ≡ struct_layout (arrays_of (map (array_in bytes known) children.items))
struct_is bytes known children =
    ap (layout_in bytes known) (sym (layouts.rolls-Struct children)) ∙ fold-roll-PlacedLayout Layout Array (layout_step bytes known) (array_step bytes) (placed.Struct children)

pub struct_copied : (children others : Vec PlacedArray) → AreSameArrays children.items others.items → IsSameLayout (layouts.Struct children) (layouts.Struct others)
struct_copied children others same bytes known =
    struct_is bytes known children ∙ ap (λ (xs : List Array). struct_layout (arrays_of xs)) (same bytes known) ∙ sym (struct_is bytes known others)

-- one more
pub copied_more : (before more arrays : List PlacedArray) (i : ℕ) (a x : PlacedArray) → i < length arrays → x ≡ get_or arrays i x → more ≡ before ++ a ∷ [] → IsSameArray a x
    → AreSameArrays before (take i arrays) → AreSameArrays more (take (i + 1) arrays)
copied_more before more arrays i a x lt is added same h bytes known =
    let f = array_in bytes known in
    ap (map f) added
    ∙ map-append f before (a ∷ [])
    ∙ (λ k. h bytes known k ++ same bytes known k ∷ [])
    ∙ sym (map-append f (take i arrays) (x ∷ []))
    ∙ ap (map f) (ap (λ (y : PlacedArray). take i arrays ++ y ∷ []) is ∙ sym (take_more arrays i x lt))
