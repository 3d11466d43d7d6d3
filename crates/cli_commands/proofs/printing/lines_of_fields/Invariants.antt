-- The lines so far, and those of the fields that are left, are the lines of all.
use Rattle.std.proofs.Common.{◌≡◌, ◌++◌, map, drop, string_bytes}
use Rattle.arrow_schema.specs.View.{column_of}
use Rattle.cli_commands.specs.Printed.{schema_text}
use Rattle.cli_commands.proofs.printing.lines_of_fields.Given as goal

abbrev pub invariant-loop-field : goal.invariant-loop-field
invariant-loop-field l =
    string_bytes l.text ++ schema_text (map column_of (drop l.field-index l.fields))
    ≡ schema_text (map column_of l.fields)
