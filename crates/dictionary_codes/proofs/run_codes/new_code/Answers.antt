use Rattle.std.specs.Prelude.{ℤ, Option, None, get_or}
use Rattle.std.proofs.Common.{◌≡◌, ℕ, List, ap, subst, sym, ◌∙◌}
use Rattle.std.proofs.lemmas.Result.{on_ok_weaker}
use Rattle.arrow_schema.specs.View.{index_of}
use Rattle.dictionary_codes.proofs.CodedRuns.{valid_cell}
use Rattle.dictionary_codes.proofs.Codes.{noted_known, small_number}
use Rattle.dictionary_codes.proofs.run_codes.new_code.Goals as goal
use Rattle.dictionary_codes.specs.inner.Codes.{AreKnown, IsNumber, noted, own_entries}
use Rattle.dictionary_codes.specs.Named.{seen_cells}
use Rattle.cells.specs.Cell.{Cell}
use Rattle.cells.specs.Dictionary.{with_entry}
use Rattle.columns.specs.CellAt.{entry_at, index_at}
use Rattle.columns.specs.View.{view_array}
use Rattle.columns.specs.Borrowed.{borrowed_cell}

pub returns-clause-known : goal.returns-clause-known
returns-clause-known c =
    let before : List Cell = seen_cells c.args.entries.now in
    let after : List Cell = seen_cells c.number_by_guess.new.self in
    let own : List Cell = own_entries c.args.field.now c.args.slots.view in
    let z : ℤ = index_at (index_of c.args.slots.spec) (view_array c.args.slots.view) c.args.i in
    let cell : borrowed_cell c.value.result ≡ entry_at own z =
    c.value.ensures ∙ valid_cell c.args.field.now c.args.slots.spec (view_array c.args.slots.view) c.args.i c.requires.slot.spec c.requires.valid in
    let seen : after ≡ with_entry before (entry_at own z) = c.in_ok-number.ensures.seen ∙ ap (with_entry before) cell in
    let number : IsNumber (with_entry before (entry_at own z)) c.in_ok-number.number (entry_at own z) =
    subst (λ (x : Cell). IsNumber (with_entry before (entry_at own z)) c.in_ok-number.number x) cell
    (subst (λ (xs : List Cell). IsNumber xs c.in_ok-number.number (borrowed_cell c.value.result)) seen c.in_ok-number.ensures.number) in
    let items = c.note_code.ensures ∙ ap (λ (place : Option ℕ). noted c.args.known.now place c.small_code.result) c.number-place.ensures in
    let small = small_number (with_entry before (entry_at own z)) (entry_at own z) c.in_ok-number.number c.small_code.result c.small_code.ensures.same number in
    let all = noted_known before own c.args.known.now z c.small_code.result c.requires.known small in
    on_ok_weaker c.code_at.result
    (λ same. subst (λ (xs : List Cell). AreKnown xs own c.note_code.new.known) (sym (same ∙ seen)) (λ n k some. all n k (some ∙ ap (λ (ks : List (Option ℕ)). get_or ks n None) items)))
    c.code_at.ensures.seen
