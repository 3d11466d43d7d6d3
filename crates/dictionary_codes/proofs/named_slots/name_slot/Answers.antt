use Rattle.std.specs.Prelude.{ℤ, get_or}
use Rattle.std.proofs.Common.{◌≡◌, List, ap, sym, ◌∙◌}
use Rattle.arrow_schema.specs.View.{column_of, index_of}
use Rattle.dictionary_codes.proofs.CodedRuns.{hidden_cell, valid_cell}
use Rattle.dictionary_codes.proofs.Known.{is_within}
use Rattle.dictionary_codes.proofs.Codes.{is_known, null_code}
use Rattle.dictionary_codes.proofs.named_slots.name_slot.Goals as goal
use Rattle.dictionary_codes.specs.inner.Codes.{known_at, own_entries}
use Rattle.dictionary_codes.specs.Named.{named_cells, seen_cells}
use Rattle.cells.specs.Cell.{Cell, null}
use Rattle.cells.specs.Dictionary.{is_entry}
use Rattle.columns.specs.CellAt.{cell_at, entry_at, index_at}
use Rattle.columns.specs.View.{view_array}

pub returns-then-not-is_valid-clause-entries : goal.returns-then-not-is_valid-clause-entries
returns-then-not-is_valid-clause-entries c =
    let cell : Cell = cell_at (column_of c.args.field.now) (view_array c.args.slots.view) c.args.i in
    let hidden : cell ≡ null = hidden_cell c.args.field.now c.args.slots.spec (view_array c.args.slots.view) c.args.i c.requires.slot.spec (sym c.is_valid.ensures ∙ c.if-not-is_valid.true) in
    (null_code (named_cells c.args.entries.now) cell hidden).0

pub place_of-requires : goal.place_of-requires
place_of-requires c =
    let own : List Cell = own_entries c.args.field.now c.args.slots.view in
    let seen : List Cell = seen_cells c.args.entries.now in
    let z : ℤ = index_at (index_of c.args.slots.spec) (view_array c.args.slots.view) c.args.i in
    let found = sym c.in-Some.is ∙ c.known_code.ensures ∙ ap (known_at c.args.known.now) c.number-number.ensures in
    is_within seen (entry_at own z) c.in-Some.known (is_known seen own c.args.known.now z c.in-Some.known c.requires.known found)

pub returns-in-Some-clause-entries : goal.returns-in-Some-clause-entries
returns-in-Some-clause-entries c =
    let own : List Cell = own_entries c.args.field.now c.args.slots.view in
    let seen : List Cell = seen_cells c.args.entries.now in
    let z : ℤ = index_at (index_of c.args.slots.spec) (view_array c.args.slots.view) c.args.i in
    let cell = valid_cell c.args.field.now c.args.slots.spec (view_array c.args.slots.view) c.args.i c.requires.slot.spec (sym c.is_valid.ensures ∙ c.if-not-is_valid.false) in
    let found = sym c.in-Some.is ∙ c.known_code.ensures ∙ ap (known_at c.args.known.now) c.number-number.ensures in
    let is = is_known seen own c.args.known.now z c.in-Some.known c.requires.known found in
    c.in_ok-place_of.ensures.named _ (ap (λ (x : Cell). is_entry x (get_or seen c.in-Some.known null)) cell ∙ is)

pub returns-in-Some-clause-known : goal.returns-in-Some-clause-known
returns-in-Some-clause-known c = λ n k some.
    ap (λ (xs : List Cell). is_entry (get_or (own_entries c.args.field.now c.args.slots.view) n null) (get_or xs k null)) c.in_ok-place_of.ensures.seen ∙ c.requires.known n k some
