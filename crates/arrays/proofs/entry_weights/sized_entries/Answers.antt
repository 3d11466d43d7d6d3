use Rattle.std.specs.Prelude.{Some, option_map}
use Rattle.std.specs.List.{list_all}
use Rattle.std.proofs.Common.{◌≡◌, [], ◌∷◌, List, ℕ, true, map, ap, sym, subst, ◌∙◌}
use Rattle.arrow_schema.specs.Column.{Kind}
use Rattle.arrow_schema.specs.View.{kind_of}
use Rattle.columns.specs.Array.{Array, Arrays, array_list, arrays_of, dictionary_in}
use Rattle.columns.specs.Offsets.{contents_width, width_of}
use Rattle.columns.specs.Sound.{is_kind_sound}
use Rattle.columns.specs.View.{array_in, no_dictionary, view_array}
use Rattle.columns.specs.declared.array.PlacedArray.{PlacedArray}
use Rattle.arrays.specs.inner.EntryWeights.{content_weights}
use Rattle.arrays.specs.inner.Weights.{AreEntryWeights}
use Rattle.arrays.proofs.EntryWeights.{only_item, only_sound, only_weights}
use Rattle.arrays.proofs.entry_weights.sized_entries.Goals as goal

pub returns-in-Some-len1 : goal.returns-in-Some-len1
returns-in-Some-len1 c =
    let kind : Kind = kind_of c.args.data_type.now in
    let arrays : List PlacedArray = c.dictionary.result.arrays.now in
    let array : PlacedArray = c.array-item.result in
    let w : ℕ = width_of c.in-Some-len1.width in
    let a : Array = array_in c.args.view.bytes.now no_dictionary array in
    let item : arrays ≡ array ∷ [] = only_item arrays array c.in-Some-len1.len_at_least c.in-Some-len1.len_below c.array-item.is in
    let known : arrays_of (a ∷ []) ≡ dictionary_in (view_array c.args.view) =
    ap (λ (xs : List PlacedArray). arrays_of (map (array_in c.args.view.bytes.now no_dictionary) xs)) (sym item) ∙ c.dictionary.ensures in
    let wide : contents_width kind ≡ Some w = sym c.contents_width.ensures ∙ ap (option_map width_of) c.in-Some-len1.is-0 in
    let sound : is_kind_sound kind a ≡ true = only_sound kind a (ap (λ (d : Arrays). list_all (is_kind_sound kind) (array_list d)) known ∙ c.requires) in
    let same : content_weights (width_of c.new.result.width) (view_array c.new.result.view) ≡ content_weights w a =
    λ j. content_weights (width_of (c.new.ensures.width j)) (view_array (c.new.ensures.view j)) in
    subst (λ (weights : List ℕ). AreEntryWeights kind (dictionary_in (view_array c.args.view)) weights) (sym same)
    (subst (λ (d : Arrays). AreEntryWeights kind d (content_weights w a)) known (only_weights kind w a wide sound))
