use Rattle.segments.proofs.Placed.{ascending}
use Rattle.segments.proofs.LetGo.{kept_ordered, kept_ends, kept_usages}
use Rattle.segments.proofs.entries.let_go_each.Goals as goal

pub let_go_among-requires : goal.let_go_among-requires
let_go_among-requires c = ascending 2 c.args.entries.now c.requires

pub returns : goal.returns
returns c =
    let holder = c.args.holder in
    let old = c.args.entries.now in
    let mid = c.let_go_among.new.entries in
    let new = c.keep_used.new.self in
    let runs = c.args.runs.now in
    record {
      ordered = kept_ordered holder old mid new runs c.let_go_among.ensures c.keep_used.ensures;
      within = kept_ends holder old mid new runs c.let_go_among.ensures c.keep_used.ensures;
      usages = kept_usages holder old mid new runs c.let_go_among.ensures c.keep_used.ensures;
    }
