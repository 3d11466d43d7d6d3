use Rattle.std.specs.Prelude.{Some, None, nat_le, option_map}
use Rattle.std.proofs.Common.{◌≡◌, ◌+◌, ap, sym, ◌∙◌}
use Rattle.std.proofs.lemmas.Bool.{and_parts}
use Rattle.arrow_schema.specs.Column.{Kind}
use Rattle.arrow_schema.specs.View.{kind_of}
use Rattle.batch_build.specs.Batch.{plain_column}
use Rattle.array_build.specs.inner.Runs.{offsets_width, fixed_width, is_as_written}
use Rattle.array_build.proofs.AsWritten.{no_bytes_written, short_validity, zeros_written}
use Rattle.array_build.proofs.RunContents.{enough_offsets}
use Rattle.array_build.proofs.RunSlots.{all_in_row}
use Rattle.array_build.proofs.RunValues.{enough}
use Rattle.columns.specs.Array.{Array, slots_in}
use Rattle.columns.specs.Offsets.{width_of}
use Rattle.columns.specs.Sound.{is_sound}
use Rattle.columns.specs.View.{view_array}
use Rattle.array_build.proofs.as_written.are_slots_as_written.Goals as goal

pub have_zeros-requires-clause-short : goal.have_zeros-requires-clause-short
have_zeros-requires-clause-short c = short_validity (kind_of c.args.data_type.now) c.args.array c.args.from c.args.len c.requires

pub have_zeros-requires-clause-long : goal.have_zeros-requires-clause-long
have_zeros-requires-clause-long c =
    let kind : Kind = kind_of c.args.data_type.now in
    let wide : fixed_width kind ≡ Some c.in-Some-default.width = sym c.value_width.ensures ∙ c.in-Some-default.is-0 in
    enough kind c.in-Some-default.width (view_array c.args.array) wide (and_parts (is_sound (plain_column kind None) (view_array c.args.array)) (nat_le (c.args.from + c.args.len) (slots_in (view_array c.args.array))) c.requires).0

pub have_no_bytes-requires-clause-short : goal.have_no_bytes-requires-clause-short
have_no_bytes-requires-clause-short c = short_validity (kind_of c.args.data_type.now) c.args.array c.args.from c.args.len c.requires

pub have_no_bytes-requires-clause-long : goal.have_no_bytes-requires-clause-long
have_no_bytes-requires-clause-long c =
    let kind : Kind = kind_of c.args.data_type.now in
    let wide : offsets_width kind ≡ Some (width_of c.in-None-Some.width) = sym c.offsets_width.ensures ∙ ap (option_map width_of) c.in-None-Some.is-1 in
    enough_offsets kind (width_of c.in-None-Some.width) (view_array c.args.array) wide (and_parts (is_sound (plain_column kind None) (view_array c.args.array)) (nat_le (c.args.from + c.args.len) (slots_in (view_array c.args.array))) c.requires).0

pub are_all_valid-requires-clause-long : goal.are_all_valid-requires-clause-long
are_all_valid-requires-clause-long c = short_validity (kind_of c.args.data_type.now) c.args.array c.args.from c.args.len c.requires

pub returns-in-Some-default : goal.returns-in-Some-default
returns-in-Some-default c = λ h.
    let kind : Kind = kind_of c.args.data_type.now in
    let a : Array = view_array c.args.array in
    let wide : fixed_width kind ≡ Some c.in-Some-default.width = sym c.value_width.ensures ∙ c.in-Some-default.is-0 in
    all_in_row (is_as_written kind a) c.args.from c.args.len (λ i low high. zeros_written kind c.in-Some-default.width a i wide (c.have_zeros.ensures h i low high))

pub returns-in-None-Some : goal.returns-in-None-Some
returns-in-None-Some c = λ h.
    let kind : Kind = kind_of c.args.data_type.now in
    let a : Array = view_array c.args.array in
    let wide : offsets_width kind ≡ Some (width_of c.in-None-Some.width) = sym c.offsets_width.ensures ∙ ap (option_map width_of) c.in-None-Some.is-1 in
    all_in_row (is_as_written kind a) c.args.from c.args.len (λ i low high. no_bytes_written kind (width_of c.in-None-Some.width) a i wide (c.have_no_bytes.ensures h i low high))
