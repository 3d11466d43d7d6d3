use Rattle.std.proofs.Common.{◌≡◌, refl, subst, ap, true, List}
use Rattle.std.proofs.lemmas.Result.{on_ok_weaker}
use Rattle.sector_dev.specs.Disk.{now}
use Rattle.sector_dev.specs.laws.Time.{weaken}
use Rattle.segments.specs.Pieces.{PlainPiece, plain_pieces}
use Rattle.commit.specs.Publishing.{Publishes, EndsPublished}
use Rattle.commit.specs.Replacing.{change_of, EndsReplaced}
use Rattle.commit.specs.laws.Frame.{stands_as_either, stands_rests, replaces, replaced}
use Rattle.commit.proofs.Moments.{left_old_or_new, out_of_commits}
use Rattle.commit.proofs.Agreed.{stays_agreed}
use Rattle.commit.proofs.publishing.publish.Goals as goal

pub returns-clause-moments : goal.returns-clause-moments
returns-clause-moments g c = λ told can.
    let D = g.D.SectorDevice in
    let R = g.C.ReadCatalogue in
    let change = change_of R.plain_of c.args.old.now c.args.plan.now in
    let rests = stands_rests R.reading (D.size c.args.device.now) _ change.old change.was can.stands in
    let told_of = subst (λ (ps : List PlainPiece). Publishes change.old change.new ps (D.story c.args.device.now) (D.story c.write_and_commit.new.device)) (ap plain_pieces c.deref.ensures.value) (c.write_and_commit.ensures.moments told) in
    weaken (replaces R.reading (D.size c.args.device.now) g.met.C.ReadCatalogue.local (now (D.story c.args.device.now)) change can) (told_of rests)

pub returns-clause-left : goal.returns-clause-left
returns-clause-left g c = λ told can image left.
    let D = g.D.SectorDevice in
    let R = g.C.ReadCatalogue in
    let change = change_of R.plain_of c.args.old.now c.args.plan.now in
    let rests = stands_rests R.reading (D.size c.args.device.now) _ change.old change.was can.stands in
    let told_of = subst (λ (ps : List PlainPiece). Publishes change.old change.new ps (D.story c.args.device.now) (D.story c.write_and_commit.new.device)) (ap plain_pieces c.deref.ensures.value) (c.write_and_commit.ensures.moments told) in
    stands_as_either R.reading (D.size c.args.device.now) g.met.C.ReadCatalogue.local (now (D.story c.args.device.now)) change can image
    (left_old_or_new change.old change.new change.pieces (now (D.story c.args.device.now)) c.requires.above c.requires.next rests _ _ refl (told_of rests) image left)

pub returns-clause-agree : goal.returns-clause-agree
returns-clause-agree g c = λ told can agreed image left.
    let D = g.D.SectorDevice in
    let R = g.C.ReadCatalogue in
    let change = change_of R.plain_of c.args.old.now c.args.plan.now in
    let rests = stands_rests R.reading (D.size c.args.device.now) _ change.old change.was can.stands in
    let told_of = subst (λ (ps : List PlainPiece). Publishes change.old change.new ps (D.story c.args.device.now) (D.story c.write_and_commit.new.device)) (ap plain_pieces c.deref.ensures.value) (c.write_and_commit.ensures.moments told) in
    let is = left_old_or_new change.old change.new change.pieces (now (D.story c.args.device.now)) c.requires.above c.requires.next rests _ _ refl (told_of rests) image left in
    stays_agreed (now (D.story c.args.device.now)) change.old change.new image rests.rules c.requires.writable c.requires.next
    (λ n low other. is.outside n (out_of_commits change.pieces n low c.requires.above, other)) is.commit agreed

pub returns-clause-published : goal.returns-clause-published
returns-clause-published g c =
    let D = g.D.SectorDevice in
    let R = g.C.ReadCatalogue in
    let change = change_of R.plain_of c.args.old.now c.args.plan.now in
    on_ok_weaker
    {P = D.tells ≡ true → EndsPublished change.old change.new (plain_pieces c.deref.result.now) (D.story c.args.device.now) (D.story c.write_and_commit.new.device)}
    {Q = D.tells ≡ true → EndsReplaced R.reading (D.size c.args.device.now) change (D.story c.args.device.now) (D.story c.write_and_commit.new.device)}
    c.write_and_commit.result
    (λ ends told can.
    let rests = stands_rests R.reading (D.size c.args.device.now) _ change.old change.was can.stands in
    let told_of = subst (λ (ps : List PlainPiece). EndsPublished change.old change.new ps (D.story c.args.device.now) (D.story c.write_and_commit.new.device)) (ap plain_pieces c.deref.ensures.value) (ends told) in
    replaced R.reading (D.size c.args.device.now) (now (D.story c.args.device.now)) change can _ (told_of rests))
    c.write_and_commit.ensures.published
