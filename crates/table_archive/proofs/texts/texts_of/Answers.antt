use Rattle.std.proofs.Common.{sym}
use Rattle.table_archive.proofs.TextLemmas.{no_text, next_text}
use Rattle.table_archive.proofs.texts.texts_of.Goals as goal

pub returns-in_default : goal.returns-in_default
returns-in_default c =
    no_text c.args.fields.now c.loop-place.place c.index-fields-place.result c.loop-place-test.true (sym c.index-fields-place.is)
    (rw c.in_default.is at c.in_ok-text.ensures)

pub loop-place-preserved : goal.loop-place-preserved
loop-place-preserved c =
    next_text c.args.fields.now c.loop-place.place c.index-fields-place.result c.loop-place.texts.items _ c.in-Some.text c.loop-place-test.true
    (sym c.index-fields-place.is) (rw c.in-Some.is at c.in_ok-text.ensures) c.in_ok-push.ensures.items c.loop-place.invariant
