use Rattle.std.specs.Prelude.{ℤ, None, Some, get_or}
use Rattle.std.proofs.Common.{◌≡◌, List, ap, sym, ◌∙◌}
use Rattle.arrow_schema.specs.View.{column_of, index_of}
use Rattle.dictionary_codes.proofs.CodedRuns.{hidden_cell, valid_cell}
use Rattle.dictionary_codes.proofs.Written.{put_is}
use Rattle.dictionary_codes.proofs.Known.{is_within}
use Rattle.dictionary_codes.proofs.Codes.{is_known, known_named, null_code}
use Rattle.dictionary_codes.proofs.run_codes.put_slot_code.Goals as goal
use Rattle.dictionary_codes.specs.inner.Codes.{own_entries}
use Rattle.dictionary_codes.specs.Named.{named_cells, seen_cells}
use Rattle.cells.specs.Cell.{Cell, null}
use Rattle.cells.specs.Dictionary.{is_entry}
use Rattle.columns.specs.CellAt.{cell_at, entry_at, index_at, named_number}
use Rattle.columns.specs.View.{view_array}

pub returns-then-not-is_valid-clause-entries : goal.returns-then-not-is_valid-clause-entries
returns-then-not-is_valid-clause-entries g c =
    let cell : Cell = cell_at (column_of c.args.field.now) (view_array c.args.slots.view) c.args.i in
    let hidden : cell ≡ null = hidden_cell c.args.field.now c.args.slots.spec (view_array c.args.slots.view) c.args.i c.requires.slot.spec (sym c.is_valid.ensures ∙ c.if-not-is_valid.true) in
    (null_code (named_cells c.args.entries.now) cell hidden).0

pub returns-then-not-is_valid-clause-put : goal.returns-then-not-is_valid-clause-put
returns-then-not-is_valid-clause-put g c =
    let cell : Cell = cell_at (column_of c.args.field.now) (view_array c.args.slots.view) c.args.i in
    let hidden : cell ≡ null = hidden_cell c.args.field.now c.args.slots.spec (view_array c.args.slots.view) c.args.i c.requires.slot.spec (sym c.is_valid.ensures ∙ c.if-not-is_valid.true) in
    put_is g.row.SIZE c.args.place (named_cells c.args.entries.now) cell c.args.indices.now _ c.args.valid.now _ None (null_code (named_cells c.args.entries.now) cell hidden).1
    c.put_at.ensures.index c.put_at.ensures.valid

pub place_of-requires : goal.place_of-requires
place_of-requires g c =
    let own : List Cell = own_entries c.args.field.now c.args.slots.view in
    let z : ℤ = index_at (index_of c.args.slots.spec) (view_array c.args.slots.view) c.args.i in
    let found = known_named c.args.known.now (named_number z) c.number_below-number.result c.in-Some.known c.number_below-number.ensures.named (sym c.in-Some.is ∙ c.known_code.ensures) in
    is_within (seen_cells c.args.entries.now) (entry_at own z) c.in-Some.known (is_known (seen_cells c.args.entries.now) own c.args.known.now z c.in-Some.known c.requires.known found)

pub returns-in-Some-clause-entries : goal.returns-in-Some-clause-entries
returns-in-Some-clause-entries g c =
    let own : List Cell = own_entries c.args.field.now c.args.slots.view in
    let seen : List Cell = seen_cells c.args.entries.now in
    let z : ℤ = index_at (index_of c.args.slots.spec) (view_array c.args.slots.view) c.args.i in
    let cell = valid_cell c.args.field.now c.args.slots.spec (view_array c.args.slots.view) c.args.i c.requires.slot.spec (sym c.is_valid.ensures ∙ c.if-not-is_valid.false) in
    let found = known_named c.args.known.now (named_number z) c.number_below-number.result c.in-Some.known c.number_below-number.ensures.named (sym c.in-Some.is ∙ c.known_code.ensures) in
    let is = is_known seen own c.args.known.now z c.in-Some.known c.requires.known found in
    c.in_ok-code.ensures.named _ (ap (λ (x : Cell). is_entry x (get_or seen c.in-Some.known null)) cell ∙ is)

pub returns-in-Some-clause-put : goal.returns-in-Some-clause-put
returns-in-Some-clause-put g c =
    let own : List Cell = own_entries c.args.field.now c.args.slots.view in
    let seen : List Cell = seen_cells c.args.entries.now in
    let z : ℤ = index_at (index_of c.args.slots.spec) (view_array c.args.slots.view) c.args.i in
    let cell = valid_cell c.args.field.now c.args.slots.spec (view_array c.args.slots.view) c.args.i c.requires.slot.spec (sym c.is_valid.ensures ∙ c.if-not-is_valid.false) in
    let found = known_named c.args.known.now (named_number z) c.number_below-number.result c.in-Some.known c.number_below-number.ensures.named (sym c.in-Some.is ∙ c.known_code.ensures) in
    let is = is_known seen own c.args.known.now z c.in-Some.known c.requires.known found in
    let code = c.in_ok-code.ensures.place _ (ap (λ (x : Cell). is_entry x (get_or seen c.in-Some.known null)) cell ∙ is) in
    put_is g.row.SIZE c.args.place (named_cells c.place_of.new.self) _ c.args.indices.now _ c.args.valid.now _ (Some c.in_ok-code.code) code c.put_at-in-Some.ensures.index c.put_at-in-Some.ensures.valid

pub returns-in-Some-clause-known : goal.returns-in-Some-clause-known
returns-in-Some-clause-known g c = λ n k some.
    ap (λ (xs : List Cell). is_entry (get_or (own_entries c.args.field.now c.args.slots.view) n null) (get_or xs k null)) c.in_ok-code.ensures.seen ∙ c.requires.known n k some
