use Rattle.std.proofs.Common.{◌≡◌, ℕ, ◌<◌, ◌+◌, ◌&&◌, Bool, List, length, get_or, map, drop, refl, ap, sym, arith, ◌∙◌}
use Rattle.arrow_schema.specs.declared.types.Field.{Field}
use Rattle.arrow_schema.specs.Column.{columns_of}
use Rattle.arrow_schema.specs.View.{column_of}
use Rattle.cells.specs.declared.value.Value.{Value}
use Rattle.cells.specs.Cell.{Cell, cells_of}
use Rattle.cells.specs.View.{cell}
use Rattle.cells.specs.Fit.{fits, all_cells, each_fits}
use Rattle.facts.specs.laws.Lists.{drop-item}
use Rattle.cells.proofs.fit.+fits.Goals as goal

pub all_fit-loop-value-preserved : goal.all_fit-loop-value-preserved
all_fit-loop-value-preserved t c =
    let values : List Value = c.args.values.now in
    let i = c.loop-value.value-index in
    let passes : Cell → Bool = fits (column_of c.args.item.now) in
    let rest : Bool = all_cells passes (cells_of (map cell (drop (i + 1) values))) in
    let next = ap (λ (vs : List Value). all_cells passes (cells_of (map cell vs))) (drop-item values i c.value-item.result c.loop-value-test.true c.value-item.is) in
    sym (next ∙ ap (λ (b : Bool). b && rest) (sym c.fits.ensures ∙ c.if-not-fits.false)) ∙ c.loop-value.invariant

pub all_fit-returns-then-not-fits : goal.all_fit-returns-then-not-fits
all_fit-returns-then-not-fits t c =
    let values : List Value = c.args.values.now in
    let i = c.loop-value.value-index in
    let passes : Cell → Bool = fits (column_of c.args.item.now) in
    let rest : Bool = all_cells passes (cells_of (map cell (drop (i + 1) values))) in
    let next = ap (λ (vs : List Value). all_cells passes (cells_of (map cell vs))) (drop-item values i c.value-item.result c.loop-value-test.true c.value-item.is) in
    sym (next ∙ ap (λ (b : Bool). b && rest) (sym c.fits.ensures ∙ c.if-not-fits.true)) ∙ c.loop-value.invariant

-- the step of a loop over fields and their parts
next_part : (fields : List Field) (parts : List Value) (i : ℕ) (f : Field) (p : Value) → i < length fields → f ≡ get_or fields i f → i < length parts → p ≡ get_or parts i p
    → each_fits (columns_of (map column_of (drop i fields))) (cells_of (map cell (drop i parts)))
    ≡ (fits (column_of f) (cell p) && each_fits (columns_of (map column_of (drop (i + 1) fields))) (cells_of (map cell (drop (i + 1) parts))))
unfolding each_fits
next_part fields parts i f p in_fields f_is in_parts p_is = rw (drop-item fields i f in_fields f_is, drop-item parts i p in_parts p_is) refl

pub each_fits-loop-i-preserved : goal.each_fits-loop-i-preserved
each_fits-loop-i-preserved t c =
    let fields : List Field = c.args.fields.now in
    let parts : List Value = c.args.parts.now in
    let i = c.loop-i.i in
    let rest : Bool = each_fits (columns_of (map column_of (drop (i + 1) fields))) (cells_of (map cell (drop (i + 1) parts))) in
    let next = next_part fields parts i c.index-fields-i.result c.index-parts-i.result (omega arith) c.index-fields-i.is c.loop-i-test.true c.index-parts-i.is in
    sym (next ∙ ap (λ (b : Bool). b && rest) (sym c.fits.ensures ∙ c.if-not-fits.false)) ∙ c.loop-i.invariant

pub each_fits-returns-then-not-fits : goal.each_fits-returns-then-not-fits
each_fits-returns-then-not-fits t c =
    let fields : List Field = c.args.fields.now in
    let parts : List Value = c.args.parts.now in
    let i = c.loop-i.i in
    let rest : Bool = each_fits (columns_of (map column_of (drop (i + 1) fields))) (cells_of (map cell (drop (i + 1) parts))) in
    let next = next_part fields parts i c.index-fields-i.result c.index-parts-i.result (omega arith) c.index-fields-i.is c.loop-i-test.true c.index-parts-i.is in
    sym (next ∙ ap (λ (b : Bool). b && rest) (sym c.fits.ensures ∙ c.if-not-fits.true)) ∙ c.loop-i.invariant
