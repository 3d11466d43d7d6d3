use Rattle.std.specs.Prelude.{sum_by}
use Rattle.std.proofs.Common.{◌≡◌, ◌+◌, ◌≤◌, ◌<◌, ℕ, map, length, take, drop, vec_capacity}
use Rattle.arrow_schema.specs.View.{schema_of}
use Rattle.cells.specs.Weight.{row_weight, capped_weight}
use Rattle.table_cut.specs.Cut.{pieces, pieces_from}
use Rattle.table_cut.specs.inner.Seen.{AreSeen, entries_in}
use Rattle.table_cut.specs.Piece.{within_piece}
use Rattle.columns.specs.Borrowed.{borrowed_cells}
use Rattle.values.specs.TableView.{table_of}
use Rattle.table_cut.proofs.piece.next_piece.Given as goal

abbrev pub invariant-loop-place : goal.invariant-loop-place
invariant-loop-place l =
    let s = schema_of l.schema in
    let rows = (table_of l.table).rows in
    let front = map borrowed_cells l.piece.items in
    record {
      place : l.from + length l.piece.items ≡ l.place;
      some : 1 ≤ length l.piece.items;
      inside : l.place ≤ length rows;
      room : (n : ℕ) → n < 4096 → l.from + n < length rows → n < vec_capacity l.piece;
      cut : pieces_from (within_piece s) front (drop l.place rows) ≡ pieces (within_piece s) (drop l.from rows);
      taken : front ≡ take (length l.piece.items) (drop l.from rows);
      seen : AreSeen s front (map entries_in l.entries.items);
      weight : l.weight ≡ capped_weight (sum_by (row_weight s) front);
    }
