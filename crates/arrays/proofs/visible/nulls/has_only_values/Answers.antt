use Rattle.std.specs.List.{list_all}
use Rattle.std.proofs.Common.{◌≡◌, true, false, List, map, ap, sym, ◌∙◌}
use Rattle.arrow_schema.specs.Column.{Kind}
use Rattle.arrow_schema.specs.Parts.{is_nulls}
use Rattle.arrow_schema.specs.View.{kind_of}
use Rattle.columns.specs.Array.{Array, Arrays, array_list}
use Rattle.columns.specs.declared.array.PlacedArray.{PlacedArray}
use Rattle.columns.specs.Sound.{is_kind_sound}
use Rattle.columns.specs.View.{array_in, no_dictionary}
use Rattle.columns.specs.laws.Places.{listed}
use Rattle.columns.specs.laws.SoundParts.{sound_validity}
use Rattle.arrays.proofs.EntryNulls.{sound_there, values_next}
use Rattle.arrays.proofs.visible.nulls.has_only_values.Goals as goal

pub is_surely_full-requires : goal.is_surely_full-requires
is_surely_full-requires c =
    let kind : Kind = kind_of c.args.data_type.now in
    let placed : List PlacedArray = c.dictionary-known.result.arrays.now in
    let arrays : List Array = map (array_in c.args.view.bytes.now no_dictionary) placed in
    let sound : list_all (is_kind_sound kind) arrays ≡ true =
    ap (list_all (is_kind_sound kind)) (sym (listed arrays)) ∙ ap (λ (d : Arrays). list_all (is_kind_sound kind) (array_list d)) c.dictionary-known.ensures ∙ c.requires in
    sound_validity kind (array_in c.args.view.bytes.now no_dictionary c.array-item.result)
    (sound_there (is_kind_sound kind) (array_in c.args.view.bytes.now no_dictionary) placed c.loop-array.array-index c.array-item.result c.loop-array-test.true c.array-item.is sound)

pub loop-array-preserved : goal.loop-array-preserved
loop-array-preserved c =
    let kind : Kind = kind_of c.args.data_type.now in
    let filled : is_nulls kind ≡ false = sym c.is_of_nulls.ensures ∙ c.if-is_of_nulls.false in
    values_next c.args.view.bytes.now kind c.dictionary-known.result.arrays.now c.loop-array.array-index c.array-item.result c.loop-array-test.true c.array-item.is filled
    (c.is_surely_full.ensures c.if-not-is_surely_full.false) c.loop-array.invariant
