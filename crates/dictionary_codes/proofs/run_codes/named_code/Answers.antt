use Rattle.std.specs.Prelude.{ℤ, get_or}
use Rattle.std.proofs.Common.{◌∙◌, List, ap, sym}
use Rattle.std.proofs.lemmas.Option.{IfSome_then}
use Rattle.arrow_schema.specs.View.{index_of}
use Rattle.dictionary_codes.proofs.CodedRuns.{valid_cell}
use Rattle.dictionary_codes.proofs.Codes.{is_known, known_named}
use Rattle.dictionary_codes.proofs.Known.{is_within}
use Rattle.dictionary_codes.proofs.run_codes.named_code.Goals as goal
use Rattle.dictionary_codes.specs.inner.Codes.{own_entries}
use Rattle.dictionary_codes.specs.Named.{seen_cells}
use Rattle.cells.specs.Cell.{Cell, null}
use Rattle.cells.specs.Dictionary.{is_entry}
use Rattle.columns.specs.CellAt.{entry_at, index_at, named_number}
use Rattle.columns.specs.View.{view_array}

pub named_place-requires : goal.named_place-requires
named_place-requires g c =
    let own : List Cell = own_entries c.args.field.now c.args.slots.view in
    let z : ℤ = index_at (index_of c.args.slots.spec) (view_array c.args.slots.view) c.args.i in
    let found = known_named c.args.known.now (named_number z) c.number_below-number.result c.in-Some.number c.number_below-number.ensures.named (sym c.in-Some.is ∙ c.known_code.ensures) in
    record {
      places = c.requires.places;
      within = is_within (seen_cells c.args.entries.now) (entry_at own z) c.in-Some.number (is_known (seen_cells c.args.entries.now) own c.args.known.now z c.in-Some.number c.requires.known found);
    }

pub returns-in-Some-clause-entries : goal.returns-in-Some-clause-entries
returns-in-Some-clause-entries g c =
    let own : List Cell = own_entries c.args.field.now c.args.slots.view in
    let seen : List Cell = seen_cells c.args.entries.now in
    let z : ℤ = index_at (index_of c.args.slots.spec) (view_array c.args.slots.view) c.args.i in
    let cell = valid_cell c.args.field.now c.args.slots.spec (view_array c.args.slots.view) c.args.i c.requires.slot.spec c.requires.valid in
    let found = known_named c.args.known.now (named_number z) c.number_below-number.result c.in-Some.number c.number_below-number.ensures.named (sym c.in-Some.is ∙ c.known_code.ensures) in
    let is = is_known seen own c.args.known.now z c.in-Some.number c.requires.known found in
    IfSome_then c.named_place.result c.named_place.ensures.named (λ place all. all _ (ap (λ (x : Cell). is_entry x (get_or seen c.in-Some.number null)) cell ∙ is))

pub returns-in-Some-clause-code : goal.returns-in-Some-clause-code
returns-in-Some-clause-code g c =
    let own : List Cell = own_entries c.args.field.now c.args.slots.view in
    let seen : List Cell = seen_cells c.args.entries.now in
    let z : ℤ = index_at (index_of c.args.slots.spec) (view_array c.args.slots.view) c.args.i in
    let cell = valid_cell c.args.field.now c.args.slots.spec (view_array c.args.slots.view) c.args.i c.requires.slot.spec c.requires.valid in
    let found = known_named c.args.known.now (named_number z) c.number_below-number.result c.in-Some.number c.number_below-number.ensures.named (sym c.in-Some.is ∙ c.known_code.ensures) in
    let is = is_known seen own c.args.known.now z c.in-Some.number c.requires.known found in
    IfSome_then c.named_place.result c.named_place.ensures.place (λ place all. all _ (ap (λ (x : Cell). is_entry x (get_or seen c.in-Some.number null)) cell ∙ is))
