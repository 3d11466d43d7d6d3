use Rattle.std.specs.Prelude.{Some, get_or}
use Rattle.std.specs.List.{list_all}
use Rattle.std.proofs.Common.{◌≤◌, ◌+◌, ◌/◌, ◌∙◌, ℕ, Bool, List, arith, ap, subst, sym}
use Rattle.std.proofs.lemmas.Bool.{and_parts, leb-true}
use Rattle.std.proofs.lemmas.Result.{on_ok_weaker}
use Rattle.arrow_schema.specs.Column.{Column}
use Rattle.arrow_schema.specs.View.{bits_of, column_of}
use Rattle.arrow_schema.specs.declared.types.DictSpec.{DictSpec}
use Rattle.dictionary_codes.specs.Named.{named_cells, seen_cells}
use Rattle.dictionary_codes.proofs.CodedRuns.{long_buffers}
use Rattle.dictionary_codes.proofs.run_codes.put_array_codes.Goals as goal
use Rattle.dictionary_codes.specs.inner.Codes.{IsWritten, own_entries}
use Rattle.dictionary_codes.specs.Masks.{masked}
use Rattle.dictionary_codes.specs.inner.MaskParts.{part_bits}
use Rattle.dictionary_codes.specs.CodedCells.{is_coded}
use Rattle.cells.specs.Cell.{Cell, null}
use Rattle.cells.specs.Dictionary.{is_entry}
use Rattle.columns.specs.Array.{slots_in}
use Rattle.columns.specs.CellAt.{cell_at, cells_from}
use Rattle.columns.specs.Sound.{is_sound}
use Rattle.columns.specs.View.{view_array}
use Rattle.columns.specs.declared.view.ArrayView.{ArrayView}

pub new-slots-requires-clause-valid : goal.new-slots-requires-clause-valid
new-slots-requires-clause-valid c =
    let col : Column = column_of c.args.field.now in
    let sound = and_parts (is_sound col (view_array c.args.array)) _ c.requires.sound in
    (long_buffers c.args.field.now c.args.spec (view_array c.args.array) c.requires.spec sound.0).0

pub new-slots-requires-clause-long : goal.new-slots-requires-clause-long
new-slots-requires-clause-long c =
    let col : Column = column_of c.args.field.now in
    let sound = and_parts (is_sound col (view_array c.args.array)) _ c.requires.sound in
    (long_buffers c.args.field.now c.args.spec (view_array c.args.array) c.requires.spec sound.0).1

pub put_part_codes-requires-clause-spec : goal.put_part_codes-requires-clause-spec
put_part_codes-requires-clause-spec c = c.requires.spec ∙ ap (λ (d : DictSpec). Some d) (sym c.new-slots.ensures.spec)

pub put_part_codes-requires-clause-sound : goal.put_part_codes-requires-clause-sound
put_part_codes-requires-clause-sound c =
    let col : Column = column_of c.args.field.now in
    ap (λ (v : ArrayView). is_sound col (view_array v)) c.new-slots.ensures.view ∙ (and_parts (is_sound col (view_array c.args.array)) _ c.requires.sound).0

pub put_part_codes-requires-clause-within : goal.put_part_codes-requires-clause-within
put_part_codes-requires-clause-within c =
    let sound = and_parts (is_sound (column_of c.args.field.now) (view_array c.args.array)) _ c.requires.sound in
    let most : c.args.from + c.args.len ≤ slots_in (view_array c.args.array) = leb-true _ _ sound.1 in
    omega (arith, most, ap (λ (v : ArrayView). slots_in (view_array v)) c.new-slots.ensures.view)

pub put_part_codes-requires-clause-coded : goal.put_part_codes-requires-clause-coded
put_part_codes-requires-clause-coded c =
    let bits : List Bool = part_bits c.args.mask.now c.args.at c.args.len in
    ap (λ (v : ArrayView). list_all is_coded (masked bits (cells_from (cell_at (column_of c.args.field.now) (view_array v)) c.args.from c.args.len))) c.new-slots.ensures.view ∙ c.requires.coded

pub put_part_codes-requires-clause-known : goal.put_part_codes-requires-clause-known
put_part_codes-requires-clause-known c = λ n k some.
    let seen : List Cell = seen_cells c.args.entries.now in
    ap (λ (xs : List Cell). is_entry (get_or (own_entries c.args.field.now c.new-slots.result.view) n null) (get_or xs k null)) c.in_ok-known.ensures.seen
    ∙ ap (λ (v : ArrayView). is_entry (get_or (own_entries c.args.field.now v) n null) (get_or seen k null)) c.new-slots.ensures.view
    ∙ c.in_ok-known.ensures.known n k some

pub keep_numbers-requires : goal.keep_numbers-requires
keep_numbers-requires c = λ n k some.
    let seen : List Cell = seen_cells c.put_part_codes.new.entries in
    ap (λ (v : ArrayView). is_entry (get_or (own_entries c.args.field.now v) n null) (get_or seen k null)) (sym c.new-slots.ensures.view)
    ∙ c.in_ok-put_part_codes.ensures.known n k some

pub returns : goal.returns
returns c =
    let col : Column = column_of c.args.field.now in
    let es : List Cell = named_cells c.args.entries.now in
    let after : List Cell = named_cells c.put_part_codes.new.entries in
    let indices : List ℕ = c.put_part_codes.new.indices in
    let valid : List Bool = c.put_part_codes.new.valid in
    let bits : List Bool = part_bits c.args.mask.now c.args.at c.args.len in
    let cells : ArrayView → List Cell = λ v. masked bits (cells_from (cell_at col (view_array v)) c.args.from c.args.len) in
    let own : List Cell = cells c.args.array in
    let size = ap (λ (d : DictSpec). bits_of d.index.width / 8) c.new-slots.ensures.spec in
    let written : IsWritten (bits_of c.args.spec.index.width / 8) es after indices valid own =
    subst (λ (n : ℕ). IsWritten n es after indices valid own) size
    (subst (λ (v : ArrayView). IsWritten (bits_of c.new-slots.result.spec.index.width / 8) es after indices valid (cells v)) c.new-slots.ensures.view
    (subst (λ (xs : List Cell). IsWritten (bits_of c.new-slots.result.spec.index.width / 8) xs after indices valid (cells c.new-slots.result.view)) c.in_ok-known.ensures.named
    c.in_ok-put_part_codes.ensures.written)) in
    on_ok_weaker c.keep_numbers.result
    (λ kept. subst (λ (xs : List Cell). IsWritten (bits_of c.args.spec.index.width / 8) es xs indices valid own) (sym kept) written)
    c.keep_numbers.ensures.named
