use Rattle.std.proofs.Common.{◌≡◌, ◌/◌, ◌∙◌, ℕ, Bool, List, [], ap, arith, drop, length, subst}
use Rattle.std.proofs.lemmas.List.{take_at}
use Rattle.arrow_schema.specs.Column.{Index}
use Rattle.arrow_schema.specs.View.{column_of, index_of}
use Rattle.cells.specs.Cell.{Cell}
use Rattle.dictionary_codes.specs.Masks.{masked_cells}
use Rattle.dictionary_codes.specs.inner.Codes.{IsWritten}
use Rattle.dictionary_codes.specs.Named.{named_cells, seen_cells}
use Rattle.dictionary_codes.specs.inner.Seen.{cells_numbered}
use Rattle.dictionary_codes.proofs.Codes.{indices_are, valid_are}
use Rattle.dictionary_codes.proofs.coded_runs.new_codes.Goals as goal

pub returns-clause-indices : goal.returns-clause-indices
returns-clause-indices c =
    let cells : List Cell = masked_cells (column_of c.args.field.now) c.args.mask.now c.args.runs.now in
    let index : Index = index_of c.args.spec in
    let es : List Cell = named_cells c.put_codes.new.entries in
    let indices : List ℕ = c.put_codes.new.indices in
    let none : named_cells c.args.entries.now ≡ [] = ap (cells_numbered (seen_cells c.args.entries.now)) c.requires.none in
    let written : IsWritten (index.bits / 8) [] es indices c.put_codes.new.valid cells =
    subst (λ (old : List Cell). IsWritten (index.bits / 8) old es indices c.put_codes.new.valid cells) none c.in_ok-put_codes.ensures in
    let bytes = take_at indices (drop (length indices) c.in_ok-indices.indices.items) c.in_ok-indices.indices.len (omega (arith, c.put_codes.auto.indices, c.as_mut_slice.ensures.len)) in
    bytes ∙ indices_are index cells es indices c.put_codes.new.valid written

pub returns-clause-valid : goal.returns-clause-valid
returns-clause-valid c =
    let cells : List Cell = masked_cells (column_of c.args.field.now) c.args.mask.now c.args.runs.now in
    let index : Index = index_of c.args.spec in
    let es : List Cell = named_cells c.put_codes.new.entries in
    let valid : List Bool = c.put_codes.new.valid in
    let none : named_cells c.args.entries.now ≡ [] = ap (cells_numbered (seen_cells c.args.entries.now)) c.requires.none in
    let written : IsWritten (index.bits / 8) [] es c.put_codes.new.indices valid cells =
    subst (λ (old : List Cell). IsWritten (index.bits / 8) old es c.put_codes.new.indices valid cells) none c.in_ok-put_codes.ensures in
    let bits = take_at valid (drop (length valid) c.in_ok-valid.valid.items) c.in_ok-valid.valid.len (omega (arith, c.put_codes.auto.valid, c.as_mut_slice-2.ensures.len)) in
    bits ∙ valid_are (index.bits / 8) cells es c.put_codes.new.indices valid c.requires.coded written

pub returns-clause-entries : goal.returns-clause-entries
returns-clause-entries c =
    let cells : List Cell = masked_cells (column_of c.args.field.now) c.args.mask.now c.args.runs.now in
    let index : Index = index_of c.args.spec in
    let es : List Cell = named_cells c.put_codes.new.entries in
    let none : named_cells c.args.entries.now ≡ [] = ap (cells_numbered (seen_cells c.args.entries.now)) c.requires.none in
    let written : IsWritten (index.bits / 8) [] es c.put_codes.new.indices c.put_codes.new.valid cells =
    subst (λ (old : List Cell). IsWritten (index.bits / 8) old es c.put_codes.new.indices c.put_codes.new.valid cells) none c.in_ok-put_codes.ensures in
    c.in_ok-entries.ensures ∙ written.coded.entries
