-- The lines so far, and those of the tables that are left, are the lines of all.
use Rattle.std.proofs.Common.{◌≡◌, ◌++◌, map, drop, string_bytes}
use Rattle.cli_commands.specs.Printed.{tables_text}
use Rattle.cli_commands.proofs.printing.lines_of_tables.Given as goal

abbrev pub invariant-loop-table : goal.invariant-loop-table
invariant-loop-table l =
    string_bytes l.text ++ tables_text (map (λ t. (string_bytes t.0, t.1)) (drop l.table-index l.tables))
    ≡ tables_text (map (λ t. (string_bytes t.0, t.1)) l.tables)
