use Rattle.std.specs.Prelude.{Some, option_map}
use Rattle.std.proofs.Common.{◌≡◌, ◌<◌, ap, arith, length, sym, ◌∙◌}
use Rattle.std.proofs.lemmas.Option.{slice_get-get_or}
use Rattle.arrow_schema.specs.View.{kind_of}
use Rattle.columns.specs.Offsets.{contents_width, width_of}
use Rattle.table_cut.specs.declared.entry_sizes.EntrySize.{EntrySize}
use Rattle.table_cut.specs.inner.Columns.{array_at}
use Rattle.table_cut.proofs.Bounds.{coded_light}
use Rattle.table_cut.proofs.entry_sizes.size_at.Goals as goal

pub returns-in-Some-Some-Some : goal.returns-in-Some-Some-Some
returns-in-Some-Some-Some c = λ run known i.
    let own : EntrySize = c.in-Some-Some-Some.own in
    let wide : contents_width (kind_of c.args.field.now.data_type) ≡ Some (width_of own.width)
    = sym c.contents_width.ensures ∙ ap (option_map width_of) c.in-Some-Some-Some.is-1 ∙ ap Some (c.are_same.ensures c.if-are_same.true) in
    let within : c.args.place < length c.args.sizes.now = omega (arith, c.if-place-sizes.false) in
    coded_light c.args.field.now c.in-Some-Some-Some.field-0-0 (width_of own.width) (array_at c.args.place run) own.size i c.in-Some-Some-Some.is-0 wide
    (known c.args.place own (slice_get-get_or c.args.sizes.now c.args.place _ within ∙ ap Some c.in-Some-Some-Some.is-2))
