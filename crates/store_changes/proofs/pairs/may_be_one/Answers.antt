use Rattle.std.specs.List.{list_all}
use Rattle.std.proofs.Common.{◌≤◌, ◌+◌, ◌∙◌, List, None, length, get_or, ap, arith}
use Rattle.catalogue.specs.declared.entry.Segment.{Segment}
use Rattle.catalogue.specs.Entries.{is_segment, plain_entry}
use Rattle.catalogue.specs.laws.Kept.{entry_is}
use Rattle.store_changes.proofs.StepFound.{few_at}
use Rattle.store_changes.proofs.pairs.may_be_one.Goals as goal

-- what a place past the end is read as
abbrev none : Segment
none = record { place = record { run = record { start = 0; count = 0 }; bytes = 0 }; rows = 0; digest = None }

pub overflow_add-result : goal.overflow_add-result
overflow_add-result c =
    let gs = c.segments-segments.result.now in
    let place = c.args.place in
    let sound = ap (list_all is_segment) c.segments-segments.ensures ∙ (entry_is (plain_entry c.args.entry.now) c.requires.sound).segments in
    let count = ap (λ (ss : List Segment). length ss) c.segments-segments.ensures in
    let within = c.requires.within in
    let first : (get_or gs place none).rows ≤ 4096 = few_at gs place none sound (omega (arith, within, count)) in
    let second : (get_or gs (place + 1) none).rows ≤ 4096 = few_at gs (place + 1) none sound (omega (arith, within, count)) in
    omega (arith, first, second)
