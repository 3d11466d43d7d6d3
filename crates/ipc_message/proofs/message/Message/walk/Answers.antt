use Rattle.std.proofs.Common.{◌∙◌, ◌-◌, ap}
use Rattle.std.proofs.lemmas.Result.{err_from_is_err_and}
use Rattle.flatbuf.specs.Seen.{bytes_of, tables_in, levels_of, place_of}
use Rattle.ipc_message.proofs.HeaderLemmas.{header_absent, header_there, needed_there, behind_there}
use Rattle.ipc_message.proofs.HeaderTable.{kind_stands}
use Rattle.ipc_message.proofs.message.Message.walk.Goals as goal

pub header_table-requires : goal.header_table-requires
header_table-requires c =
    let m = c.args.self.now in
    kind_stands (bytes_of m.table) (place_of m.table) m.kind m.root m.type_is

pub returns-in_err-table : goal.returns-in_err-table
returns-in_err-table c =
    let p = err_from_is_err_and c.from_residual.result c.from_residual.ensures.1 in
    let m = c.args.self.now in
    let bytes = bytes_of m.table in
    rw (p.1, p.2) (header_absent bytes _ (needed_there bytes (levels_of m.table) (tables_in m.budget) (place_of m.table) _ m.levels m.entered m.root c.in_err-table.ensures.walked))

pub returns : goal.returns
returns c =
    let m = c.args.self.now in
    let bytes = bytes_of m.table in
    let table = c.in_ok-table.ensures in
    header_there bytes (bytes_of c.in_ok-table.table) (tables_in c.header_table.new.budget) (tables_in c.header_by_type.new.budget) (levels_of c.in_ok-table.table) (place_of c.in_ok-table.table) m.kind c.header_by_type.result
    (needed_there bytes (levels_of m.table) (tables_in m.budget) (place_of m.table) _ m.levels m.entered m.root table.walked)
    table.same (table.levels ∙ ap (λ l. l - 1) m.levels) (behind_there bytes (place_of m.table) _ m.root table.here) m.type_is
    c.header_by_type.ensures.walked c.header_by_type.ensures.value
