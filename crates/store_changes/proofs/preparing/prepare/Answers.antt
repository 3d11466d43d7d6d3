use Rattle.std.proofs.Common.{◌≤◌, ◌≢◌, sym, subst, arith}
use Rattle.std.specs.Prelude.{Err}
use Rattle.segments.specs.Usages.{IsUsedIn}
use Rattle.catalogue.specs.declared.limits.TheConstants.{MAX_SEGMENTS}
use Rattle.catalogue.specs.Entries.{segment_count}
use Rattle.catalogue.specs.View.{catalogue_of}
use Rattle.tables.specs.declared.refusal.Refusal.{Refusal}
use Rattle.tables.specs.declared.refusal.Refusal.TheVariants as refusals
use Rattle.store_runs.specs.Changes.{PlainChange}
use Rattle.store_changes.specs.Change.{change_of}
use Rattle.store_runs.specs.Carrying.{HasNext, IsCarried, outline, unplaced}
use Rattle.store_changes.specs.laws.Prepared.{taking_other, taking_carried, unplaced_count, streams_count}
use Rattle.store_changes.proofs.preparing.prepare.Goals as goal

pub returns-then-segments_after-gt-MAX_SEGMENTS-clause-why : goal.returns-then-segments_after-gt-MAX_SEGMENTS-clause-why
returns-then-segments_after-gt-MAX_SEGMENTS-clause-why c =
    let change : PlainChange = change_of c.args.change.now in
    let many = unplaced_count c.args.commit.version c.args.pieces.now change c.len-count.result c.len-count.ensures c.requires.streams c.requires.sound.each in
    let after = c.segments_after.ensures (unplaced c.args.commit.version change.streams change.counts) many in
    let above = c.if-segments_after-gt-MAX_SEGMENTS.true in
    (omega arith, omega (arith, after, above))

pub plan_change-requires-clause-few : goal.plan_change-requires-clause-few
plan_change-requires-clause-few c =
    let change : PlainChange = change_of c.args.change.now in
    let many = unplaced_count c.args.commit.version c.args.pieces.now change c.len-count.result c.len-count.ensures c.requires.streams c.requires.sound.each in
    let after = c.segments_after.ensures (unplaced c.args.commit.version change.streams change.counts) many in
    let within = c.if-segments_after-gt-MAX_SEGMENTS.false in
    omega (arith, after, within)

pub returns-in-Ok-clause-ok : goal.returns-in-Ok-clause-ok
returns-in-Ok-clause-ok c = c.in-Ok.ensures.ok

pub returns-in-Ok-clause-why : goal.returns-in-Ok-clause-why
returns-in-Ok-clause-why c = tt

pub returns-in-Ok-clause-device : goal.returns-in-Ok-clause-device
returns-in-Ok-clause-device c = tt

pub returns-in-Ok-clause-not_halted : goal.returns-in-Ok-clause-not_halted
returns-in-Ok-clause-not_halted c = tt

pub returns-in-Ok-clause-err : goal.returns-in-Ok-clause-err
returns-in-Ok-clause-err c = tt

pub returns-in-Err-clause-why : goal.returns-in-Err-clause-why
returns-in-Err-clause-why c =
    let listed = catalogue_of c.args.stored.now.list in
    let change : PlainChange = change_of c.args.change.now in
    let many = unplaced_count c.args.commit.version c.args.pieces.now change c.len-count.result c.len-count.ensures c.requires.streams c.requires.sound.each in
    let after = c.segments_after.ensures (unplaced c.args.commit.version change.streams change.counts) many in
    let within = c.if-segments_after-gt-MAX_SEGMENTS.false in
    let next : HasNext c.args.commit = omega arith in
    let few : segment_count (outline c.args.commit.version listed change) ≤ MAX_SEGMENTS = omega (arith, after, within) in
    subst (λ (r : Refusal). IsCarried c.args.map.now.size (IsUsedIn c.args.map.now.entries) c.args.commit listed change (Err r) c.args.commit listed) (sym c.taking_refusal.ensures)
    (taking_carried c.args.map.now.size (IsUsedIn c.args.map.now.entries) c.args.commit listed change c.in-Err.error next few c.in-Err.ensures.no_room)

pub returns-in-Err-clause-err : goal.returns-in-Err-clause-err
returns-in-Err-clause-err c = c.in-Err.ensures.err

pub segments_after-requires-clause-edit : goal.segments_after-requires-clause-edit
segments_after-requires-clause-edit c = let change : PlainChange = change_of c.args.change.now in (change.streams, c.requires.sound.edit, streams_count c.args.pieces.now change c.len-count.result c.len-count.ensures c.requires.streams)

pub returns-in-Err-clause-device : goal.returns-in-Err-clause-device
returns-in-Err-clause-device c = subst (λ (r : Refusal). r ≢ refusals.Device) (sym c.taking_refusal.ensures) (taking_other c.in-Err.error).0

pub returns-in-Err-clause-not_halted : goal.returns-in-Err-clause-not_halted
returns-in-Err-clause-not_halted c = subst (λ (r : Refusal). r ≢ refusals.Halted) (sym c.taking_refusal.ensures) (taking_other c.in-Err.error).1
