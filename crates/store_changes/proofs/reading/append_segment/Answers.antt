use Rattle.std.proofs.Common.{ap, subst, arith}
use Rattle.arrow_schema.specs.Column.{PlainSchema}
use Rattle.cells.specs.Cell.{PlainTable}
use Rattle.values.specs.Table.{IsTable}
use Rattle.values.specs.TableView.{table_of}
use Rattle.store_runs.specs.Changes.{rows_under}
use Rattle.store_changes.specs.inner.TableBuilder.{table_so_far}
use Rattle.store_changes.proofs.reading.append_segment.Goals as goal

pub read_next_segment-requires-clause-light : goal.read_next_segment-requires-clause-light
read_next_segment-requires-clause-light g c = let gathered = c.args.gathered in omega (arith, gathered.weighs, gathered.kept.weight)

pub append-requires-clause-schema : goal.append-requires-clause-schema
append-requires-clause-schema g c = c.in-Ok.ensures.schema (table_so_far c.args.gathered).schema c.requires.limits c.requires.message

pub returns-in-Ok-append-clause-schema : goal.returns-in-Ok-append-clause-schema
returns-in-Ok-append-clause-schema g c = ap (λ (t : PlainTable). t.schema) c.in-Ok-append.ensures.joined

pub returns-in-Ok-append-clause-read : goal.returns-in-Ok-append-clause-read
returns-in-Ok-append-clause-read g c =
    let joined = c.in-Ok-append.ensures.joined in
    record {
      own = (table_of c.in-Ok.weighed.table).rows;
      read = c.in-Ok.ensures.rows (table_so_far c.args.gathered).schema c.requires.message;
      count = c.in-Ok.ensures.count;
      is = ap (λ (t : PlainTable). t.rows) joined;
      kept = subst (λ (s : PlainSchema). IsTable (rows_under s (table_so_far c.in-Ok-append.more).rows)) (ap (λ (t : PlainTable). t.schema) joined) c.in-Ok-append.more.kept;
    }

-- memory is refused after the segment was read
pub returns-in-Err-append-clause-reads : goal.returns-in-Err-append-clause-reads
returns-in-Err-append-clause-reads g c = let reads = c.in-Ok.ensures.reads in record { same = reads.same; moments = reads.moments; count = reads.count }

pub returns-in-Err-clause-unread : goal.returns-in-Err-clause-unread
returns-in-Err-clause-unread g c = let so_far = table_so_far c.args.gathered in c.in-Err.ensures.unread so_far.schema so_far.rows c.requires.limits c.requires.message c.args.gathered.weighs
