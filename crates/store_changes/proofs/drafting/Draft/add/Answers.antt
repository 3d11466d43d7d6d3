use Rattle.std.specs.Prelude.{◌⊎◌, IfErr}
use Rattle.std.proofs.Common.{◌≡◌, ◌∙◌, inl, inr, refl, sym, subst, arith, length, List}
use Rattle.std.proofs.lemmas.Result.{err_from_is_err_and}
use Rattle.catalogue.specs.View.{catalogue_of}
use Rattle.commit.specs.Placing.{AreShort}
use Rattle.store_runs.specs.Changes.{PlainChange, IsChange}
use Rattle.store_runs.specs.Deciding.{new_behind}
use Rattle.store_changes.specs.Change.{change_of}
use Rattle.store_changes.specs.laws.Prepared.{streams_count}
use Rattle.store_changes.proofs.Drafts.{behind_count}
use Rattle.store_changes.proofs.drafting.Draft.add.Goals as goal

pub returns-in_err-pieces-clause-told : goal.returns-in_err-pieces-clause-told
returns-in_err-pieces-clause-told c = let p = err_from_is_err_and c.from_residual.result c.from_residual.ensures.1 in rw (p.1, p.2) (inl refl)

pub segments_after-requires-clause-edit : goal.segments_after-requires-clause-edit
segments_after-requires-clause-edit c =
    let change : PlainChange = change_of c.args.change.now in
    let sound : IsChange (catalogue_of c.args.self.made) change = c.requires.can (subst AreShort c.in_ok-pieces.ensures.streams c.in_ok-pieces.ensures.short) in
    (change.streams, sound.edit, streams_count c.in_ok-pieces.pieces change c.len-count.result c.len-count.ensures c.in_ok-pieces.ensures.streams)

pub returns-then-segments_after-gt-MAX_SEGMENTS-clause-told : goal.returns-then-segments_after-gt-MAX_SEGMENTS-clause-told
returns-then-segments_after-gt-MAX_SEGMENTS-clause-told c =
    let change : PlainChange = change_of c.args.change.now in
    let sound : IsChange (catalogue_of c.args.self.made) change = c.requires.can (subst AreShort c.in_ok-pieces.ensures.streams c.in_ok-pieces.ensures.short) in
    let many = streams_count c.in_ok-pieces.pieces change c.len-count.result c.len-count.ensures c.in_ok-pieces.ensures.streams in
    let after = c.segments_after.ensures (new_behind c.args.self.next change.streams change.counts) (behind_count c.args.self.next change.streams change.counts sound.each ∙ many) in
    let above = c.if-segments_after-gt-MAX_SEGMENTS.true in
    inr (refl, omega (arith, after, above))

pub with_pieces-requires-clause-sound : goal.with_pieces-requires-clause-sound
with_pieces-requires-clause-sound c = c.requires.can (subst AreShort c.in_ok-pieces.ensures.streams c.in_ok-pieces.ensures.short)

pub with_pieces-requires-clause-few : goal.with_pieces-requires-clause-few
with_pieces-requires-clause-few c = λ segments count.
    let change : PlainChange = change_of c.args.change.now in
    let many = streams_count c.in_ok-pieces.pieces change c.len-count.result c.len-count.ensures c.in_ok-pieces.ensures.streams in
    let after = c.segments_after.ensures segments (count ∙ many) in
    let within = c.if-segments_after-gt-MAX_SEGMENTS.false in
    omega (arith, after, within)

pub returns-in_err-with_pieces-clause-told : goal.returns-in_err-with_pieces-clause-told
returns-in_err-with_pieces-clause-told c = let p = err_from_is_err_and c.from_residual-in_err-with_pieces.result c.from_residual-in_err-with_pieces.ensures.1 in rw (p.1, p.2) (inl refl)

-- the message is no part of what is drafted
pub with_pieces-requires-clause-draft : goal.with_pieces-requires-clause-draft
with_pieces-requires-clause-draft c = record {
  drafted = c.requires.draft.drafted;
  starts = c.requires.draft.starts;
  next = c.requires.draft.next;
}
