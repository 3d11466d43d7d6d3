use Rattle.std.specs.Prelude.{replicate}
use Rattle.std.proofs.Common.{◌≡◌, ◌-◌, ◌*◌, ◌/◌, ◌∙◌, ℕ, Bool, List, ap, arith, false, length, subst, sym}
use Rattle.std.proofs.lemmas.Result.{on_ok_weaker}
use Rattle.arrow_schema.specs.View.{bits_of}
use Rattle.dictionary_codes.proofs.MaskedCodes.{all_set_kept, all_unset_null}
use Rattle.dictionary_codes.proofs.Written.{nulls_written}
use Rattle.dictionary_codes.proofs.masked_codes.put_alike_codes.Goals as goal
use Rattle.dictionary_codes.specs.inner.Codes.{IsWritten, coded_cell}
use Rattle.dictionary_codes.specs.Masks.{masked}
use Rattle.dictionary_codes.specs.Named.{named_cells}
use Rattle.cells.specs.Cell.{Cell}
use Rattle.columns.specs.CellAt.{cells_from}

pub returns-then-set-clause-written : goal.returns-then-set-clause-written
returns-then-set-clause-written c =
    let size : ℕ = bits_of c.args.slots.spec.index.width / 8 in
    let f : ℕ → Cell = coded_cell c.args.field.now c.args.slots in
    let n : ℕ = c.args.to - c.args.from in
    let cells = ap (λ (b : Bool). masked (replicate n b) (cells_from f c.args.from n)) c.if-set.true ∙ all_set_kept f c.args.from n in
    on_ok_weaker c.put_slot_codes.result
    (λ written. subst (λ (cs : List Cell). IsWritten size (named_cells c.args.entries.now) (named_cells c.put_slot_codes.new.entries) c.put_slot_codes.new.indices c.put_slot_codes.new.valid cs) (sym cells) written)
    c.put_slot_codes.ensures.written

pub returns-else-set-clause-written : goal.returns-else-set-clause-written
returns-else-set-clause-written c =
    let size : ℕ = bits_of c.args.slots.spec.index.width / 8 in
    let f : ℕ → Cell = coded_cell c.args.field.now c.args.slots in
    let n : ℕ = c.args.to - c.args.from in
    let es : List Cell = named_cells c.args.entries.now in
    let cells = ap (λ (b : Bool). masked (replicate n b) (cells_from f c.args.from n)) c.if-set.false ∙ all_unset_null f c.args.from n in
    let room : length c.args.indices.now ≡ n * size = c.requires.room ∙ omega arith in
    subst (λ (cs : List Cell). IsWritten size es es c.put_null_codes.new.indices c.put_null_codes.new.valid cs) (sym cells)
    (nulls_written size es n _ _ (c.put_null_codes.ensures.indices ∙ ap (λ (m : ℕ). replicate m 0) room) (c.put_null_codes.ensures.valid ∙ ap (λ (m : ℕ). replicate m false) c.requires.places))
