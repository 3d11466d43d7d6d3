use Rattle.std.proofs.Common.{◌≡◌, drop}
use Rattle.std.specs.Prelude.{find, bytes_eq, string_bytes}
use Rattle.arrowstore.proofs.notes.find_rows.Given as goal

-- no table so far has the name
abbrev pub invariant-loop-table : goal.invariant-loop-table
invariant-loop-table l =
    find (λ t. bytes_eq (string_bytes t.0) l.name) (drop l.table-index l.tables) ≡ find (λ t. bytes_eq (string_bytes t.0) l.name) l.tables
