use Rattle.std.proofs.Common.{take}
use Rattle.text_columns.specs.inner.Placed.{ArePlacedBehind}
use Rattle.text_columns.proofs.placing.+place.Given as goal

abbrev pub invariant-place_fields-loop-field : goal.invariant-place_fields-loop-field
invariant-place_fields-loop-field l =
    ArePlacedBehind (take l.field-index l.fields) l.initial.bytes.items l.bytes.items l.initial.dictionaries.items l.dictionaries.items l.arrays.items
