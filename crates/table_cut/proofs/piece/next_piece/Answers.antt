use Rattle.std.specs.Prelude.{sum_by, Bool, true, false}
use Rattle.std.proofs.Common.{◌≡◌, ◌≤◌, ◌<◌, ◌+◌, ◌∷◌, ◌++◌, [], List, ℕ, map, length, take, drop, subst, sym, ap, ◌∙◌, refl, is_ok, arith, length-append}
use Rattle.std.proofs.lemmas.Bool.{cond-true}
use Rattle.std.proofs.lemmas.List.{map-append, length-map, drop_all}
use Rattle.arrow_schema.specs.Column.{PlainSchema}
use Rattle.cells.specs.Cell.{Cell}
use Rattle.cells.specs.Weight.{row_weight, capped_weight}
use Rattle.table_cut.specs.Cut.{pieces, pieces_from}
use Rattle.table_cut.specs.Piece.{within_piece}
use Rattle.table_cut.proofs.CutSteps.{first_row, one_more, no_more, is_within, has_too_many, is_too_heavy, has_full_dictionary, sum_more, one_weight, row_before, one_row_taken}
use Rattle.table_cut.specs.inner.Seen.{AreSeen, entries_in}
use Rattle.arrow_schema.specs.View.{schema_of}
use Rattle.cells.specs.Dictionary.{Holding, holdings_of, entries_of, dictionaries_fit}
use Rattle.table_cut.proofs.SeenLemmas.{as_many_more, all_written}
use Rattle.columns.specs.Borrowed.{borrowed_cells}
use Rattle.values.specs.TableView.{table_of}
use Rattle.columns.specs.declared.borrowed.Values.{Values}
use Rattle.table_cut.proofs.piece.next_piece.Goals.{then-len-ge-MAX_PIECE_ROWS-via-then-len-ge-MAX_PIECE_ROWS, then-len-ge-MAX_PIECE_ROWS-via-else-len-ge-MAX_PIECE_ROWS+then-weight-gt-MAX_PIECE_WEIGHT}
use Rattle.table_cut.proofs.piece.next_piece.Goals as goal

pub unwrap-requires : goal.unwrap-requires
unwrap-requires c =
    c.push.ensures.succeeds (omega (arith, c.in_ok-piece.ensures.len, c.in_ok-piece.ensures.capacity, c.min.ensures, c.len-rows.ensures, c.requires.left))

pub unwrap-requires-in-loop-place : goal.unwrap-requires-in-loop-place
unwrap-requires-in-loop-place c =
    let is = c.loop-place.invariant in
    let taken : ℕ = length c.loop-place.piece.items in
    let few : taken < 4096 = omega (arith, c.loop-place.piece.ok.0, c.len.ensures, c.if-len-ge-MAX_PIECE_ROWS.false) in
    let there : c.args.from + taken < length (table_of c.args.table.now).rows = omega (arith, is.place, c.loop-place-test.true, c.len-rows.ensures) in
    c.push-in-loop-place.ensures.succeeds (omega (arith, is.room taken few there, c.loop-place.piece.ok.0))

pub loop-place-init : goal.loop-place-init
loop-place-init c =
    let s : PlainSchema = schema_of c.args.schema.now in
    let rows : List (List Cell) = (table_of c.args.table.now).rows in
    let from : ℕ = c.args.from in
    let first : List Cell = borrowed_cells c.row_at-first.result in
    let is_pushed : is_ok c.push.result ≡ true = ap is_ok c.unwrap.ensures in
    let pushed : c.push.new.self.items ≡ c.row_at-first.result ∷ [] = c.push.ensures.items ∙ cond-true (is_ok c.push.result) _ _ is_pushed ∙ ap (λ (x : List Values). x ++ c.row_at-first.result ∷ []) c.in_ok-piece.ensures.items in
    let next : drop from rows ≡ first ∷ drop (from + 1) rows = row_before rows from first c.requires.left c.row_at-first.ensures in
    let weighed : c.row_weight-weight.result ≡ capped_weight (row_weight s first) = c.row_weight-weight.ensures in
    record {
      place = omega (arith, ap length pushed);
      some = omega (arith, ap length pushed);
      inside = omega (arith, c.requires.left);
      room = λ n few there. omega (arith, few, there, c.in_ok-piece.ensures.capacity, c.push.ensures.capacity, c.min.ensures, c.len-rows.ensures);
      cut = ap (λ (x : List Values). pieces_from (within_piece s) (map borrowed_cells x) (drop (from + 1) rows)) pushed ∙ first_row (within_piece s) (drop from rows) (drop (from + 1) rows) first next;
      taken = rw (pushed, next) refl;
      seen = subst (λ (x : List Values). AreSeen s (map borrowed_cells x) (map entries_in c.in_ok-entries.entries.items)) (sym pushed)
          c.in_ok-entries.ensures;
      weight = weighed ∙ ap capped_weight (sym (one_weight s first)) ∙ ap (λ (x : List Values). capped_weight (sum_by (row_weight s) (map borrowed_cells x))) (sym pushed);
    }

pub returns-then-len-ge-MAX_PIECE_ROWS : goal.returns-then-len-ge-MAX_PIECE_ROWS
returns-then-len-ge-MAX_PIECE_ROWS c =
    let s : PlainSchema = schema_of c.args.schema.now in
    let rows : List (List Cell) = (table_of c.args.table.now).rows in
    let is = c.loop-place.invariant in
    let place : ℕ = c.loop-place.place in
    let front : List (List Cell) = map borrowed_cells c.loop-place.piece.items in
    let row : List Cell = borrowed_cells c.row_at-row.result in
    let count = length-map c.loop-place.piece.items borrowed_cells in
    let next : drop place rows ≡ row ∷ drop (place + 1) rows = row_before rows place row (omega (arith, c.loop-place-test.true)) c.row_at-row.ensures in
    let weighed : c.row_weight.result ≡ capped_weight (row_weight s row) = c.row_weight.ensures in
    let full : within_piece s (front ++ row ∷ []) ≡ false =
    elim c.then-len-ge-MAX_PIECE_ROWS.branch [
      | then-len-ge-MAX_PIECE_ROWS-via-then-len-ge-MAX_PIECE_ROWS w ↦ has_too_many s front row (omega (arith, count, w.if-len-ge-MAX_PIECE_ROWS.true))
      | then-len-ge-MAX_PIECE_ROWS-via-else-len-ge-MAX_PIECE_ROWS+then-weight-gt-MAX_PIECE_WEIGHT w ↦
          is_too_heavy s front row (omega (arith, is.weight, weighed, c.add_weights-weight.ensures, w.if-weight-gt-MAX_PIECE_WEIGHT.true))
    ] in
    record {
      piece = sym is.cut
          ∙ no_more (within_piece s) front (drop place rows) (drop (place + 1) rows) row next full
          ∙ ap (λ (p : ℕ). front ∷ pieces (within_piece s) (drop p rows)) (sym is.place);
      some = c.loop-place.invariant.some;
      within = omega (arith, c.loop-place.invariant.place, c.loop-place.invariant.inside);
      rows = c.loop-place.invariant.taken;
    }

pub returns-then-not-branch : goal.returns-then-not-branch
returns-then-not-branch c =
    let s : PlainSchema = schema_of c.args.schema.now in
    let rows : List (List Cell) = (table_of c.args.table.now).rows in
    let is = c.loop-place.invariant in
    let place : ℕ = c.loop-place.place in
    let front : List (List Cell) = map borrowed_cells c.loop-place.piece.items in
    let row : List Cell = borrowed_cells c.row_at-row.result in
    let next : drop place rows ≡ row ∷ drop (place + 1) rows = row_before rows place row (omega (arith, c.loop-place-test.true)) c.row_at-row.ensures in
    let given : AreSeen s front (map entries_in c.deref_mut.result.now) = subst (λ x. AreSeen s front (map entries_in x)) (sym c.deref_mut.ensures.value) is.seen in
    let full : dictionaries_fit s (front ++ row ∷ []) ≡ false = sym (c.in_ok-takes_row.ensures.fits front given) ∙ c.if-not-branch.true in
    record {
      piece = sym is.cut
          ∙ no_more (within_piece s) front (drop place rows) (drop (place + 1) rows) row next (has_full_dictionary s front row full)
          ∙ ap (λ (p : ℕ). front ∷ pieces (within_piece s) (drop p rows)) (sym is.place);
      some = c.loop-place.invariant.some;
      within = omega (arith, c.loop-place.invariant.place, c.loop-place.invariant.inside);
      rows = c.loop-place.invariant.taken;
    }

pub loop-place-preserved : goal.loop-place-preserved
loop-place-preserved c =
    let s : PlainSchema = schema_of c.args.schema.now in
    let rows : List (List Cell) = (table_of c.args.table.now).rows in
    let is = c.loop-place.invariant in
    let from : ℕ = c.args.from in
    let place : ℕ = c.loop-place.place in
    let old : List Values = c.loop-place.piece.items in
    let new : List Values = c.push-in-loop-place.new.self.items in
    let front : List (List Cell) = map borrowed_cells old in
    let row : List Cell = borrowed_cells c.row_at-row.result in
    let count : length front ≡ length old = length-map old borrowed_cells in
    let next : drop place rows ≡ row ∷ drop (place + 1) rows = row_before rows place row (omega (arith, c.loop-place-test.true)) c.row_at-row.ensures in
    let weighed : c.row_weight.result ≡ capped_weight (row_weight s row) = c.row_weight.ensures in
    let is_pushed : is_ok c.push-in-loop-place.result ≡ true = ap is_ok c.unwrap-in-loop-place.ensures in
    let pushed : new ≡ old ++ c.row_at-row.result ∷ [] = c.push-in-loop-place.ensures.items ∙ cond-true (is_ok c.push-in-loop-place.result) _ _ is_pushed in
    let mapped : map borrowed_cells new ≡ front ++ row ∷ [] = ap (map borrowed_cells) pushed ∙ map-append borrowed_cells old (c.row_at-row.result ∷ []) in
    let longer : length new ≡ length old + 1 = ap length pushed ∙ length-append old (c.row_at-row.result ∷ []) in
    let few : length front + 1 ≤ 4096 = omega (arith, count, c.if-len-ge-MAX_PIECE_ROWS.false) in
    let light : sum_by (row_weight s) front + row_weight s row ≤ 16777216 = omega (arith, is.weight, weighed, c.add_weights-weight.ensures, c.if-weight-gt-MAX_PIECE_WEIGHT.false) in
    let given : AreSeen s front (map entries_in c.deref_mut.result.now) = subst (λ x. AreSeen s front (map entries_in x)) (sym c.deref_mut.ensures.value) is.seen in
    let room : dictionaries_fit s (front ++ row ∷ []) ≡ true = sym (c.in_ok-takes_row.ensures.fits front given) ∙ c.if-not-branch.false in
    let fits = is_within s front row few light room in
    let sums : sum_by (row_weight s) (map borrowed_cells new) ≡ sum_by (row_weight s) front + row_weight s row = ap (sum_by (row_weight s)) mapped ∙ sum_more s front row in
    let here : drop (from + length old) rows ≡ row ∷ drop (place + 1) rows = ap (λ (p : ℕ). drop p rows) is.place ∙ next in
    let seen : AreSeen s (map borrowed_cells new) (map entries_in (take c.loop-place.entries.len (c.takes_row.new.sets ++ drop (length c.takes_row.new.sets) c.loop-place.entries.items))) =
    λ limited.
    let old_seen = given limited in
    let new_seen = c.in_ok-takes_row.ensures.seen front given limited in
    let entries : Holding → List Cell = λ h. entries_of h.cells in
    let kept : length c.takes_row.new.sets ≡ length c.loop-place.entries.items =
    sym (length-map c.takes_row.new.sets entries_in) ∙ ap length new_seen ∙ length-map (holdings_of s (front ++ row ∷ [])) entries ∙ as_many_more s front row
    ∙ sym (length-map (holdings_of s front) entries) ∙ sym (ap length old_seen) ∙ length-map c.deref_mut.result.now entries_in ∙ ap length c.deref_mut.ensures.value in
    let filled : length c.loop-place.entries.items ≡ c.loop-place.entries.len = omega (arith, c.deref_mut.ensures.len, ap length c.deref_mut.ensures.value) in
    ap (map entries_in) (all_written c.takes_row.new.sets c.loop-place.entries.items c.loop-place.entries.len (kept ∙ filled) filled) ∙ new_seen
    ∙ ap (λ (x : List (List Cell)). map entries (holdings_of s x)) (sym mapped) in
    record {
      place = omega (arith, longer, is.place);
      some = omega (arith, longer);
      inside = omega (arith, c.loop-place-test.true);
      room = λ n few there. omega (arith, is.room n few there, c.push-in-loop-place.ensures.capacity);
      cut = ap (λ (x : List (List Cell)). pieces_from (within_piece s) x (drop (place + 1) rows)) mapped
          ∙ sym (one_more (within_piece s) front (drop place rows) (drop (place + 1) rows) row next fits) ∙ is.cut;
      taken = mapped ∙ ap (λ (x : List (List Cell)). x ++ row ∷ []) is.taken
          ∙ sym (one_row_taken rows (drop (place + 1) rows) from (length old) row here)
          ∙ ap (λ (n : ℕ). take n (drop from rows)) (sym longer);
      seen = seen;
      weight = omega (arith, sums, is.weight, weighed, c.add_weights-weight.ensures);
    }

pub takes_row-requires-clause-seen : goal.takes_row-requires-clause-seen
takes_row-requires-clause-seen c =
    let s : PlainSchema = schema_of c.args.schema.now in
    let front : List (List Cell) = map borrowed_cells c.loop-place.piece.items in
    (front, subst (λ x. AreSeen s front (map entries_in x)) (sym c.deref_mut.ensures.value) c.loop-place.invariant.seen)

pub returns : goal.returns
returns c =
    let within : List (List Cell) → Bool = within_piece (schema_of c.args.schema.now) in
    let rows : List (List Cell) = (table_of c.args.table.now).rows in
    let is = c.loop-place.invariant in
    let front : List (List Cell) = map borrowed_cells c.loop-place.piece.items in
    let none : drop c.loop-place.place rows ≡ [] = drop_all c.loop-place.place rows (omega (arith, c.loop-place-test.false, c.len-rows.ensures)) in
    record {
      piece = sym is.cut
          ∙ ap (pieces_from within front) none
          ∙ ap (λ (x : List (List Cell)). front ∷ pieces within x) (sym (ap (λ (p : ℕ). drop p rows) is.place ∙ none));
      some = c.loop-place.invariant.some;
      within = omega (arith, c.loop-place.invariant.place, c.loop-place.invariant.inside);
      rows = c.loop-place.invariant.taken;
    }
