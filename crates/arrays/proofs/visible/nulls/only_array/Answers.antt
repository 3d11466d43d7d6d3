use Rattle.std.specs.List.{list_all}
use Rattle.std.proofs.Common.{◌≡◌, [], ◌∷◌, List, true, map, ap, sym, ◌∙◌}
use Rattle.arrow_schema.specs.Column.{Kind}
use Rattle.arrow_schema.specs.View.{kind_of}
use Rattle.columns.specs.Array.{Array, Arrays, array_list, arrays_of, dictionary_in}
use Rattle.columns.specs.Sound.{is_kind_sound}
use Rattle.columns.specs.View.{array_in, no_dictionary, view_array}
use Rattle.columns.specs.laws.SoundParts.{sound_validity}
use Rattle.columns.specs.declared.array.PlacedArray.{PlacedArray}
use Rattle.arrays.proofs.EntryWeights.{only_item, only_sound}
use Rattle.arrays.proofs.visible.nulls.only_array.Goals as goal

pub returns-in-len1 : goal.returns-in-len1
returns-in-len1 c =
    let kind : Kind = kind_of c.args.data_type.now in
    let arrays : List PlacedArray = c.dictionary.result.arrays.now in
    let array : PlacedArray = c.array-item.result in
    let a : Array = array_in c.args.view.bytes.now no_dictionary array in
    let item : arrays ≡ array ∷ [] = only_item arrays array c.in-len1.len_at_least c.in-len1.len_below c.array-item.is in
    let known : arrays_of (a ∷ []) ≡ dictionary_in (view_array c.args.view) =
    ap (λ (xs : List PlacedArray). arrays_of (map (array_in c.args.view.bytes.now no_dictionary) xs)) (sym item) ∙ c.dictionary.ensures in
    let sound : is_kind_sound kind a ≡ true = only_sound kind a (ap (λ (d : Arrays). list_all (is_kind_sound kind) (array_list d)) known ∙ c.requires) in
    (known, sound_validity kind a sound)
