use Rattle.std.proofs.Common.{arith, refl}
use Rattle.arrow_schema.specs.Column.{columns_of}
use Rattle.text_columns.proofs.FewEntries.{rows_fit}
use Rattle.text_columns.proofs.Tables.{part_made}
use Rattle.text_columns.proofs.batches.build_part.Goals as goal

pub returns : goal.returns
returns c =
    λ s rows keeps count table.
    let cs = columns_of s.columns in
    let can = c.rows_can_be_built.ensures s rows table.schema table.rows table.weight (rows_fit s rows c.args.columns.items keeps) in
    let weight = c.written_arrays_have_their_shape.ensures.weight s rows in
    part_made s rows c.args.columns.items c.args.rows
    (record { bytes = c.in_ok-placed.placed.bytes; dictionaries = c.in_ok-placed.placed.dictionaries; batches = c.push_reserved.new.self })
    (record { arrays = c.in_ok-placed.placed.arrays; rows = c.args.rows })
    keeps count
    (λ cs rows can. record {
      back = c.built_reads_back.ensures.rows cs rows can;
      again = c.listed_reads_back.ensures.arrays cs _ (c.listed_reads_back.ensures.written cs rows);
      long = c.written_arrays_pass.ensures.long cs rows can;
      ordered = c.written_arrays_pass.ensures.ordered cs rows can;
      children = c.written_arrays_have_their_shape.ensures.children cs rows can;
      slots = c.written_arrays_have_their_shape.ensures.slots cs rows;
    })
    (λ cs rows can. c.dictionaries_are_written_alone.ensures.known cs rows can)
    can
    (record {
      alone = c.dictionaries_are_written_alone.ensures.alone 268435456 cs rows can (omega (arith, weight, table.weight));
      flat = c.dictionaries_are_written_alone.ensures.flat cs rows table.schema.dictionaries can;
    })
    (rw c.in_ok-batches.ensures.items at c.push_reserved.ensures.items) refl c.in_ok-placed.ensures
