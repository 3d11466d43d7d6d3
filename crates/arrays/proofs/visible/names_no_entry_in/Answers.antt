use Rattle.std.proofs.Common.{◌∙◌}
use Rattle.columns.specs.View.{placed_arrays, fields_of}
use Rattle.columns.specs.Visible.{names_no_entry}
use Rattle.arrays.proofs.SpanLists.{all_visible_of, no_row_fits, rows_fit}
use Rattle.arrays.proofs.visible.names_no_entry_in.Goals as goal

pub returns : goal.returns
returns c =
    c.any_part.ensures
    ∙ all_visible_of names_no_entry (fields_of c.args.fields.now) (placed_arrays c.args.bytes.now c.args.dictionaries.now c.args.arrays.now) c.args.rows

pub any_part-requires-clause-sound : goal.any_part-requires-clause-sound
any_part-requires-clause-sound c =
    no_row_fits (fields_of c.args.fields.now) (placed_arrays c.args.bytes.now c.args.dictionaries.now c.args.arrays.now) c.args.rows c.requires

pub any_part-requires-clause-long : goal.any_part-requires-clause-long
any_part-requires-clause-long c =
    rows_fit (fields_of c.args.fields.now) (placed_arrays c.args.bytes.now c.args.dictionaries.now c.args.arrays.now) c.args.rows c.requires
