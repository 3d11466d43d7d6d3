use Rattle.arrow_schema.specs.View.{column_of}
use Rattle.dictionary_codes.specs.Named.{named_cells}
use Rattle.dictionary_codes.proofs.Written.{put_is}
use Rattle.dictionary_codes.proofs.run_codes.put_new_code.Goals as goal
use Rattle.columns.specs.CellAt.{cell_at}
use Rattle.columns.specs.View.{view_array}

pub returns-clause-put : goal.returns-clause-put
returns-clause-put g c =
    put_is g.row.SIZE c.args.place (named_cells c.new_code.new.entries) (cell_at (column_of c.args.field.now) (view_array c.args.slots.view) c.args.i) c.args.indices.now _
    c.args.valid.now _ c.in_ok-code.code c.in_ok-code.ensures.code c.put_at.ensures.index c.put_at.ensures.valid
