use Rattle.std.specs.Prelude.{string_bytes}
use Rattle.std.proofs.Common.{inl, inr, refl, ap}
use Rattle.std.proofs.lemmas.Result.{err_from_is_err_and}
use Rattle.tables.specs.Commands.{import_stream}
use Rattle.store_runs.specs.Calls.{done, refused}
use Rattle.cli_commands.proofs.CopyingLemmas.{copies_table, imports_table, imports_where_done, refuses_where_not}
use Rattle.cli_commands.proofs.ReadingLemmas.{read_nothing, where_done}
use Rattle.cli_commands.proofs.copying.copy_table.Goals as goal

pub returns-clause-copied : goal.returns-clause-copied
returns-clause-copied g c =
    copies_table c.args.name.now c.in_ok-bytes.bytes.items (import_stream (string_bytes c.in_ok-owned.owned) c.in_ok-bytes.bytes.items) c.args.from.now c.export_bytes.new.self c.args.to.now c.apply.new.self
    c.apply.result (ap (λ q. import_stream q c.in_ok-bytes.bytes.items) c.in_ok-owned.ensures.ok) c.in_ok-bytes.ensures.goes c.apply.ensures.goes

pub returns-clause-reads : goal.returns-clause-reads
returns-clause-reads g c = (done, c.in_ok-bytes.ensures.reads)

pub returns-clause-only : goal.returns-clause-only
returns-clause-only g c = where_done c.apply.result _ c.in_ok-bytes.ensures.reads

pub returns-in_err-owned-clause-reads : goal.returns-in_err-owned-clause-reads
returns-in_err-owned-clause-reads g c = let D = g.D.SectorDevice in (done, read_nothing D.story D.size D.failed D.tells c.args.from.now)

pub returns-in_err-bytes-clause-reads : goal.returns-in_err-bytes-clause-reads
returns-in_err-bytes-clause-reads g c = (refused c.in_err-bytes.field-0.0, c.in_err-bytes.ensures.reads)

pub returns-clause-imports : goal.returns-clause-imports
returns-clause-imports g c =
    let D = g.D.SectorDevice in
    let e = c.apply.ensures in
    let t = c.in_ok-bytes.ensures.found in
    imports_where_done c.args.from.now c.args.name.now c.args.to.now c.apply.new.self c.apply.result
    (imports_table c.args.from.now c.args.name.now c.args.to.now c.apply.new.self c.in_ok-bytes.bytes.items (import_stream (string_bytes c.in_ok-owned.owned) c.in_ok-bytes.bytes.items) t.0 c.apply.result
    (ap (λ q. import_stream q c.in_ok-bytes.bytes.items) c.in_ok-owned.ensures.ok) t.2 t.1 (read_nothing D.story D.size D.failed D.tells c.args.from.now)
    (record { applied = e.applied; kept = e.refused; quiet = e.quiet; reads = e.reads; halted = e.halted; still = e.still; halts = e.halts; writes = e.writes; written = e.written; size_kept = e.size; count = e.count; book = e.book }))

pub returns-clause-told : goal.returns-clause-told
returns-clause-told g c =
    let D = g.D.SectorDevice in
    let e = c.apply.ensures in
    let t = c.in_ok-bytes.ensures.found in
    refuses_where_not c.args.from.now c.args.name.now c.args.to.now c.apply.new.self c.apply.result
    (imports_table c.args.from.now c.args.name.now c.args.to.now c.apply.new.self c.in_ok-bytes.bytes.items (import_stream (string_bytes c.in_ok-owned.owned) c.in_ok-bytes.bytes.items) t.0 c.apply.result
    (ap (λ q. import_stream q c.in_ok-bytes.bytes.items) c.in_ok-owned.ensures.ok) t.2 t.1 (read_nothing D.story D.size D.failed D.tells c.args.from.now)
    (record { applied = e.applied; kept = e.refused; quiet = e.quiet; reads = e.reads; halted = e.halted; still = e.still; halts = e.halts; writes = e.writes; written = e.written; size_kept = e.size; count = e.count; book = e.book }))

pub returns-in_err-owned-clause-told : goal.returns-in_err-owned-clause-told
returns-in_err-owned-clause-told g c =
    let p = err_from_is_err_and c.from_residual.result c.from_residual.ensures.1 in
    rw p.1 (inl (inl p.2, refl))

pub returns-in_err-bytes-clause-told : goal.returns-in_err-bytes-clause-told
returns-in_err-bytes-clause-told g c =
    let D = g.D.SectorDevice in
    let p = err_from_is_err_and c.from_residual-in_err-bytes.result c.from_residual-in_err-bytes.ensures.1 in
    rw (p.1, p.2) (inl (inr (record { source = c.args.from.now; reads = read_nothing D.story D.size D.failed D.tells c.args.from.now; refuses = c.in_err-bytes.ensures.told }), refl))
