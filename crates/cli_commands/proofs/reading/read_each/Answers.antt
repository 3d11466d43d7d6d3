use Rattle.std.specs.Prelude.{string_bytes}
use Rattle.std.proofs.Common.{refl}
use Rattle.sector_dev.specs.Disk.{now, shown_image}
use Rattle.store_runs.specs.Calls.{done}
use Rattle.store.specs.Fits.{device_of, is_halted, listed_in}
use Rattle.cli_commands.specs.Reading.{IsReadable}
use Rattle.cli_commands.proofs.ReadingLemmas.{all_next, found_at, as_read, read_again, read_nothing, IsAsRead, readable_here, refused_here, hints_unread}
use Rattle.cli_commands.proofs.reading.read_each.Goals as goal

pub returns-in-Err-clause-told : goal.returns-in-Err-clause-told
returns-in-Err-clause-told g c = λ told.
    let D = g.D.SectorDevice in
    let old = c.args.store.now in
    let new = c.loop-table.store in
    let kept = c.loop-table.invariant in
    let same : IsAsRead D.story old new = as_read D.story D.size D.failed D.tells old new told kept.reads in
    let t = c.table-item.result in
    record {
      place = c.loop-table.table-index;
      table = (string_bytes t.0, t.1);
      at = found_at (λ x. (string_bytes x.0, x.1)) c.args.tables.now c.loop-table.table-index t c.loop-table-test.true c.table-item.is;
      before = kept.read told;
      refuses = refused_here D.story D.tells old new c.as_str-name.result.now (string_bytes t.0, t.1) c.in-Err.refusal told same c.as_str-name.ensures.value c.in-Err.ensures.told;
    }

pub returns-in-Err-clause-hint : goal.returns-in-Err-clause-hint
unfolding returns-in-Err-clause-told
returns-in-Err-clause-hint g c =
    let t = c.table-item.result in
    hints_unread _ _ _ _ _ _ _ c.loop-table.table-index (string_bytes t.0, t.1) c.as_str-name.result.now c.hint_at.ensures c.as_str-name.ensures.value
    (found_at (λ x. (string_bytes x.0, x.1)) c.args.tables.now c.loop-table.table-index t c.loop-table-test.true c.table-item.is)
    (λ told. (returns-in-Err-clause-told g c told, refl))

pub loop-table-preserved : goal.loop-table-preserved
loop-table-preserved g c =
    let D = g.D.SectorDevice in
    let old = c.args.store.now in
    let new = c.loop-table.store in
    let kept = c.loop-table.invariant in
    let t = c.table-item.result in
    record {
      read = λ told.
          let same : IsAsRead D.story old new = as_read D.story D.size D.failed D.tells old new told kept.reads in
          all_next (IsReadable (is_halted old) (shown_image (now (D.story (device_of old)))) (listed_in old)) (λ x. (string_bytes x.0, x.1)) c.args.tables.now c.loop-table.table-index t c.loop-table-test.true
          c.table-item.is (kept.read told) (readable_here D.story D.tells old new c.as_str-name.result.now (string_bytes t.0, t.1) c.in-Ok.ensures.found.0 told same c.as_str-name.ensures.value c.in-Ok.ensures.found.1);
      reads = read_again D.story D.size D.failed D.tells done old new c.weigh.new.self kept.reads c.in-Ok.ensures.reads;
      hint = kept.hint;
    }

pub loop-table-init : goal.loop-table-init
loop-table-init g c = let D = g.D.SectorDevice in record { read = λ told. tt; reads = read_nothing D.story D.size D.failed D.tells c.args.store.now; hint = refl }

pub returns-in-Err-clause-reads : goal.returns-in-Err-clause-reads
returns-in-Err-clause-reads g c = let D = g.D.SectorDevice in read_again D.story D.size D.failed D.tells _ c.args.store.now c.loop-table.store c.weigh.new.self c.loop-table.invariant.reads c.in-Err.ensures.reads
