use Rattle.std.proofs.Common.{ap, ◌∙◌}
use Rattle.std.specs.Prelude.{option_map}
use Rattle.std.proofs.lemmas.Result.{err_from_is_err_and}
use Rattle.flatbuf.specs.Seen.{bytes_of, place_of, levels_of, tables_in}
use Rattle.ipc_message.proofs.HeaderTable.{union_fails, union_runs, union_lacks, union_is}
use Rattle.ipc_message.proofs.read_header.header_table.Goals as goal

pub returns-in_err-header-clause-walked : goal.returns-in_err-header-clause-walked
returns-in_err-header-clause-walked c =
    let p = err_from_is_err_and c.from_residual.result c.from_residual.ensures.1 in
    let t = c.args.table.now in
    rw (p.1, p.2) (union_fails (levels_of t) (bytes_of t) (place_of t) (tables_in c.args.budget.now) _ c.requires c.in_err-header.ensures.walked)

pub returns-in-None-clause-walked : goal.returns-in-None-clause-walked
returns-in-None-clause-walked c =
    let t = c.args.table.now in
    union_lacks (levels_of t) (bytes_of t) (place_of t) (tables_in c.args.budget.now)
    (union_is (bytes_of t) (place_of t) _ c.requires c.in_ok-header.ensures.here ∙ ap (option_map place_of) c.in-None.is)

pub returns-in-Some-clause-walked : goal.returns-in-Some-clause-walked
returns-in-Some-clause-walked c =
    let t = c.args.table.now in
    union_runs (levels_of t) (bytes_of t) (place_of t) (tables_in c.args.budget.now) _ (place_of c.in-Some.found) c.requires
    (union_is (bytes_of t) (place_of t) _ c.requires c.in_ok-header.ensures.here ∙ ap (option_map place_of) c.in-Some.is) c.in_ok-header.ensures.walked

pub returns-in-Some-clause-here : goal.returns-in-Some-clause-here
returns-in-Some-clause-here c =
    let t = c.args.table.now in
    union_is (bytes_of t) (place_of t) _ c.requires c.in_ok-header.ensures.here ∙ ap (option_map place_of) c.in-Some.is
