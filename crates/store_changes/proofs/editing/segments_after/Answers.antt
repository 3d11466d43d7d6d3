use Rattle.std.proofs.Common.{ap, ◌∙◌, arith}
use Rattle.catalogue.specs.View.{catalogue_of}
use Rattle.store_changes.specs.laws.Edited.{segments_at, segments_within}
use Rattle.store_changes.proofs.EditedCounts.{after_put, after_extend, after_move, after_remove, exchange_fits, after_exchange, after_digest, after_rebuild}
use Rattle.store_changes.proofs.editing.segments_after.Goals as goal

pub overflow_sub-result : goal.overflow_sub-result
overflow_sub-result c = omega (arith, c.segment_count-count.ensures, c.segments_at.ensures.number, segments_within (catalogue_of c.args.catalogue.now) c.deref.result.now)

pub overflow_sub-result-in-Remove : goal.overflow_sub-result-in-Remove
overflow_sub-result-in-Remove c = omega (arith, c.segment_count-count.ensures, c.segments_at-in-Remove.ensures.number, segments_within (catalogue_of c.args.catalogue.now) c.deref-in-Remove.result.now)

pub returns-in-Put : goal.returns-in-Put
returns-in-Put c segments len =
    let listed = catalogue_of c.args.catalogue.now in
    let at = c.segments_at.ensures.number ∙ ap (segments_at listed) c.deref.ensures in
    omega (arith, c.segment_count-count.ensures, at, after_put listed c.args.edit.now c.in-Put.name c.in-Put.schema c.args.new c.in-Put.is c.segments_at.ensures.kept segments len)

pub returns-in-Extend : goal.returns-in-Extend
returns-in-Extend c segments len =
    let listed = catalogue_of c.args.catalogue.now in
    omega (arith, c.segment_count-count.ensures, after_extend listed c.args.edit.now c.in-Extend.name c.args.new c.in-Extend.is (c.requires.edit.0, c.requires.edit.1) segments len)

pub returns-in-Move : goal.returns-in-Move
returns-in-Move c segments len =
    let listed = catalogue_of c.args.catalogue.now in
    c.segment_count-count.ensures ∙ after_move listed c.args.edit.now c.in-Move.from c.in-Move.to c.in-Move.is (c.requires.edit.0, c.requires.edit.1) segments

pub returns-in-Remove : goal.returns-in-Remove
returns-in-Remove c segments len =
    let listed = catalogue_of c.args.catalogue.now in
    let at = c.segments_at-in-Remove.ensures.number ∙ ap (segments_at listed) c.deref-in-Remove.ensures in
    omega (arith, c.segment_count-count.ensures, at, after_remove listed c.args.edit.now c.in-Remove.name c.in-Remove.is (c.requires.edit.0, c.requires.edit.1) segments)

pub overflow_sub-result-in-Exchange : goal.overflow_sub-result-in-Exchange
overflow_sub-result-in-Exchange c =
    let listed = catalogue_of c.args.catalogue.now in
    omega (arith, c.segment_count-count.ensures, exchange_fits listed c.args.edit.now c.in-Exchange._name c.in-Exchange._place c.in-Exchange.exchanged c.in-Exchange.is (c.requires.edit.0, c.requires.edit.1))

pub returns-in-Exchange : goal.returns-in-Exchange
returns-in-Exchange c segments len =
    let listed = catalogue_of c.args.catalogue.now in
    omega (arith, c.segment_count-count.ensures, after_exchange listed c.args.edit.now c.in-Exchange._name c.in-Exchange._place c.in-Exchange.exchanged c.args.new c.in-Exchange.is (c.requires.edit.0, c.requires.edit.1) segments len)

pub returns-in-Digest : goal.returns-in-Digest
returns-in-Digest c segments len =
    let listed = catalogue_of c.args.catalogue.now in
    c.segment_count-count.ensures ∙ after_digest listed c.args.edit.now c.in-Digest.digests c.in-Digest.is segments

pub returns-in-Rebuild : goal.returns-in-Rebuild
returns-in-Rebuild c segments len =
    let listed = catalogue_of c.args.catalogue.now in
    c.segment_count.ensures ∙ after_rebuild listed c.args.edit.now c.in-Rebuild._old c.in-Rebuild.made c.in-Rebuild._from c.args.new c.in-Rebuild._gone c.in-Rebuild.is c.requires.edit segments len
