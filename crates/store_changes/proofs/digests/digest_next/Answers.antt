use Rattle.std.proofs.Common.{◌≡◌, ◌++◌, ℕ, Result, Err, refl, ap, ◌∙◌, subst, arith}
use Rattle.std.proofs.lemmas.List.Sums.{sum_by-append}
use Rattle.sha2.specs.Sha256.{sha256}
use Rattle.sector_dev.specs.Disk.{now, shown_image}
use Rattle.arrow_schema.specs.Column.{PlainSchema}
use Rattle.cells.specs.Weight.{row_weight, table_weight}
use Rattle.values.specs.Table.{IsTable}
use Rattle.values.specs.TableView.{table_of}
use Rattle.tables.specs.declared.refusal.Refusal.{Refusal}
use Rattle.store_runs.specs.Changes.{rows_under}
use Rattle.store_runs.specs.Reading.{HasRead}
use Rattle.store_changes.specs.laws.Digests.{lacks_rows}
use Rattle.store_changes.specs.laws.ReadTables.{reads_ended}
use Rattle.store_changes.proofs.SegmentBytes.{lacks_unread}
use Rattle.store_changes.proofs.digests.digest_next.Goals as goal

-- ---- the segment is read, and its digest is that of the bytes of its rows

pub returns-in-Ok-next_in_bytes-clause-digested : goal.returns-in-Ok-next_in_bytes-clause-digested
returns-in-Ok-next_in_bytes-clause-digested g c = λ s rows message standing weighs.
    let D = g.D.SectorDevice in
    let next = c.in-Ok-next_in_bytes.next in
    let found = c.in-Ok-next_in_bytes.ensures in
    let own = (table_of next.table).rows in
    let schema = found.schema s standing.schema message in
    let more : next.weight ≡ table_weight s own = next.weighs ∙ ap (λ (x : PlainSchema). table_weight x own) schema in
    let split = sum_by-append (row_weight s) rows own in
    let kept = subst (λ (x : PlainSchema). IsTable (rows_under x own)) schema c.schema.ensures.kept in
    let read : HasRead D.tells (shown_image (now (D.story c.args.device.now))) s c.args.segment own = record {
      bytes = c.in-Ok.bytes.items;
      copy = c.in-Ok.ensures.copy;
      means = found.rows s message;
    } in (
      rows ++ own,
      record {
        own = own;
        read = read;
        count = found.count;
        is = refl;
        kept = c.table_laws.ensures.joined s rows own standing kept (omega (arith, split, more, weighs, found.light));
      },
      omega (arith, split, more, weighs),
      c.digest_of-digest.ensures ∙ ap sha256 c.deref.ensures.value,
    )

-- ---- its bytes mean no rows that go after those before it

pub returns-in-Err-next_in_bytes-clause-reads : goal.returns-in-Err-next_in_bytes-clause-reads
returns-in-Err-next_in_bytes-clause-reads g c =
    let D = g.D.SectorDevice in
    let r : Result ℕ Refusal = Err c.in-Err-next_in_bytes.refusal in
    reads_ended D.size D.story D.failed D.tells r c.args.device.now c.read_bytes.new.device c.in-Err-next_in_bytes.ensures.quiet c.in-Ok.ensures.reads

pub returns-in-Err-next_in_bytes-clause-unread : goal.returns-in-Err-next_in_bytes-clause-unread
returns-in-Err-next_in_bytes-clause-unread g c = λ s rows within message weighs.
    let D = g.D.SectorDevice in
    let image = shown_image (now (D.story c.args.device.now)) in
    c.in-Err-next_in_bytes.ensures.unread D.tells image s rows c.in-Ok.ensures.copy within message weighs

-- ---- its bytes are not given

pub returns-in-Err-clause-unread : goal.returns-in-Err-clause-unread
returns-in-Err-clause-unread g c = λ s rows within message weighs.
    let D = g.D.SectorDevice in
    let image = shown_image (now (D.story c.args.device.now)) in
    let segment = c.args.segment in
    let place = c.args.place in
    let refusal = c.in-Err.refusal in
    lacks_unread D.tells image s rows segment place refusal (lacks_rows D.tells image s segment place refusal c.in-Err.ensures.told)
