use Rattle.std.specs.Prelude.{Some, get_or}
use Rattle.std.specs.List.{list_all}
use Rattle.std.proofs.Common.{◌≡◌, ◌≤◌, ◌+◌, ◌-◌, ◌∙◌, ℕ, List, arith, ap, subst, sym}
use Rattle.std.proofs.lemmas.Bool.{and_parts, leb-true}
use Rattle.arrow_schema.specs.Column.{Column}
use Rattle.arrow_schema.specs.View.{column_of}
use Rattle.arrow_schema.specs.declared.types.DictSpec.{DictSpec}
use Rattle.cells.specs.Cell.{Cell, null}
use Rattle.cells.specs.Dictionary.{is_entry}
use Rattle.columns.specs.Array.{slots_in}
use Rattle.columns.specs.CellAt.{cell_at, cells_from}
use Rattle.columns.specs.Sound.{is_sound}
use Rattle.columns.specs.View.{view_array}
use Rattle.columns.specs.declared.view.ArrayView.{ArrayView}
use Rattle.dictionary_codes.specs.CodedCells.{is_coded}
use Rattle.dictionary_codes.specs.Named.{named_cells, seen_cells}
use Rattle.dictionary_codes.specs.Room.{IsRoomFor}
use Rattle.dictionary_codes.specs.inner.Codes.{own_entries}
use Rattle.dictionary_codes.proofs.CodedRuns.{long_buffers}
use Rattle.dictionary_codes.proofs.named_slots.name_array_slots.Goals as goal

pub new-slots-requires-clause-valid : goal.new-slots-requires-clause-valid
new-slots-requires-clause-valid c =
    let sound = and_parts (is_sound (column_of c.args.field.now) (view_array c.args.array)) _ c.requires.sound in
    (long_buffers c.args.field.now c.args.spec (view_array c.args.array) c.requires.spec sound.0).0

pub new-slots-requires-clause-long : goal.new-slots-requires-clause-long
new-slots-requires-clause-long c =
    let sound = and_parts (is_sound (column_of c.args.field.now) (view_array c.args.array)) _ c.requires.sound in
    (long_buffers c.args.field.now c.args.spec (view_array c.args.array) c.requires.spec sound.0).1

pub name_coded_slots-requires-clause-slots : goal.name_coded_slots-requires-clause-slots
name_coded_slots-requires-clause-slots c =
    let col : Column = column_of c.args.field.now in
    let sound = and_parts (is_sound col (view_array c.args.array)) _ c.requires.sound in
    let most : c.args.from + c.args.len ≤ slots_in (view_array c.args.array) = leb-true _ _ sound.1 in
    let len : c.args.from + c.args.len - c.args.from ≡ c.args.len = omega arith in
    record {
      spec = c.requires.spec ∙ ap (λ (d : DictSpec). Some d) (sym c.new-slots.ensures.spec);
      sound = ap (λ (v : ArrayView). is_sound col (view_array v)) c.new-slots.ensures.view ∙ sound.0;
      within = omega (arith, most, ap (λ (v : ArrayView). slots_in (view_array v)) c.new-slots.ensures.view);
      coded = ap (λ (v : ArrayView). list_all is_coded (cells_from (cell_at col (view_array v)) c.args.from (c.args.from + c.args.len - c.args.from))) c.new-slots.ensures.view
          ∙ ap (λ (n : ℕ). list_all is_coded (cells_from (cell_at col (view_array c.args.array)) c.args.from n)) len ∙ c.requires.coded;
    }

pub keep_numbers-requires : goal.keep_numbers-requires
keep_numbers-requires c = λ n k some.
    let seen : List Cell = seen_cells c.name_coded_slots.new.entries in
    ap (λ (v : ArrayView). is_entry (get_or (own_entries c.args.field.now v) n null) (get_or seen k null)) (sym c.new-slots.ensures.view)
    ∙ c.in_ok-count.ensures.known n k some

pub returns : goal.returns
returns c =
    let col : Column = column_of c.args.field.now in
    let most : ℕ = c.args.most in
    let old : List Cell = named_cells c.args.entries.now in
    let new : List Cell = named_cells c.name_coded_slots.new.entries in
    let cells : ArrayView → ℕ → List Cell = λ v n. cells_from (cell_at col (view_array v)) c.args.from n in
    let len : c.args.from + c.args.len - c.args.from ≡ c.args.len = omega arith in
    let n : ℕ = c.in_ok-count.count in
    subst (λ (xs : List Cell). IsRoomFor most old xs (cells c.args.array c.args.len) n) (sym c.in_ok-keep_numbers.ensures.named)
    (subst (λ (k : ℕ). IsRoomFor most old new (cells c.args.array k) n) len
    (subst (λ (v : ArrayView). IsRoomFor most old new (cells v (c.args.from + c.args.len - c.args.from)) n) c.new-slots.ensures.view
    (subst (λ (xs : List Cell). IsRoomFor most xs new (cells c.new-slots.result.view (c.args.from + c.args.len - c.args.from)) n) c.in_ok-known.ensures.named c.in_ok-count.ensures.room)))
