use Rattle.std.specs.Prelude.{not}
use Rattle.std.specs.List.{list_all}
use Rattle.std.proofs.Common.{◌≡◌, [], ◌∷◌, ℕ, List, map, true, ap, sym, subst, ◌∙◌}
use Rattle.std.proofs.lemmas.Bool.{and_parts}
use Rattle.columns.specs.Array.{Array, Arrays, array_list, arrays_of, dictionary_in}
use Rattle.columns.specs.Offsets.{width_of}
use Rattle.columns.specs.Tests.{are_few_offsets}
use Rattle.columns.specs.View.{array_in, no_dictionary, view_array}
use Rattle.columns.specs.declared.array.PlacedArray.{PlacedArray}
use Rattle.table_cut.specs.inner.EntrySizes.{AreNoLonger}
use Rattle.table_cut.proofs.Bounds.{only_item}
use Rattle.table_cut.proofs.entry_sizes.dictionary_size.Goals as goal

pub entry_size-size-requires : goal.entry_size-size-requires
entry_size-size-requires c =
    let arrays : List PlacedArray = c.dictionary.result.arrays.now in
    let array : PlacedArray = c.array-item.result in
    let a : Array = array_in c.args.view.bytes.now no_dictionary array in
    let w : ℕ = width_of c.args.width in
    let item : arrays ≡ array ∷ [] = only_item arrays array c.in-len1.len_at_least c.in-len1.len_below c.array-item.is in
    let known : arrays_of (a ∷ []) ≡ dictionary_in (view_array c.args.view) =
    ap (λ (xs : List PlacedArray). arrays_of (map (array_in c.args.view.bytes.now no_dictionary) xs)) (sym item) ∙ c.dictionary.ensures in
    (and_parts (not (are_few_offsets w a)) true (subst (λ (xs : Arrays). list_all (λ x. not (are_few_offsets w x)) (array_list xs) ≡ true) (sym known) c.requires)).0

pub returns-in-len1 : goal.returns-in-len1
returns-in-len1 c =
    let arrays : List PlacedArray = c.dictionary.result.arrays.now in
    let array : PlacedArray = c.array-item.result in
    let a : Array = array_in c.args.view.bytes.now no_dictionary array in
    let item : arrays ≡ array ∷ [] = only_item arrays array c.in-len1.len_at_least c.in-len1.len_below c.array-item.is in
    let known : arrays_of (a ∷ []) ≡ dictionary_in (view_array c.args.view) =
    ap (λ (xs : List PlacedArray). arrays_of (map (array_in c.args.view.bytes.now no_dictionary) xs)) (sym item) ∙ c.dictionary.ensures in
    subst (AreNoLonger (width_of c.args.width) c.entry_size-size.result) known c.entry_size-size.ensures
