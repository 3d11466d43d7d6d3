use Rattle.std.specs.Prelude.{◌&&◌, ◌∷◌, [], nat_le}
use Rattle.std.proofs.Common.{◌≡◌, ◌≤◌, ℕ, drop, true}
use Rattle.columns.specs.View.{fields_of}
use Rattle.table_cut.specs.inner.Fit.{fit_with, AreCounted}
use Rattle.table_cut.proofs.columns_room.columns_room.Given as goal

-- the dictionaries of the columns so far have room for just these rows
abbrev pub invariant-loop-place : goal.invariant-loop-place
invariant-loop-place l = record {
  before : AreCounted l.place (fields_of (drop l.place l.fields)) l.piece;
  own : AreCounted l.place (fields_of (drop l.place l.fields)) (l.run ∷ []);
  fits : fit_with l.place (fields_of (drop l.place l.fields)) l.piece l.run 0 ≡ true;
  within : l.rows ≤ l.run.len;
  room : (k : ℕ) → k ≤ l.run.len → fit_with 0 (fields_of l.fields) l.piece l.run k ≡ (nat_le k l.rows && fit_with l.place (fields_of (drop l.place l.fields)) l.piece l.run k);
}
