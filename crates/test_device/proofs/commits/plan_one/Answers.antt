use Rattle.std.proofs.Common.{◌∙◌, ◌++◌, List, ℕ, sym, ap, arith}
use Rattle.segments.specs.Pieces.{plain_pieces}
use Rattle.commit.specs.Placing.{contents_of, plain_contents}
use Rattle.commit.specs.laws.Placed.{placed_alone, one_text, plan_follows}
use Rattle.test_device.proofs.commits.plan_one.Goals as goal

pub plan_next-requires-clause-room : goal.plan_next-requires-clause-room
plan_next-requires-clause-room c = (0, one_text c.in-Ok-text_of.texts c.in-Ok-text_of.ensures.0 c.in-Ok-text_of.ensures.1, c.in-Ok-place.ensures.room)

pub returns-clause-plan : goal.returns-clause-plan
returns-clause-plan c =
    let store = c.args.store.now in
    let places = c.in-Ok-place.places in
    let text = c.in-Ok-text_of.ensures.0 in
    let written = c.plan_next.ensures.contents ∙ ap (λ (vs : List (List ℕ)). contents_of (plain_pieces places.pieces.items) ++ vs) c.in-Ok-text_of.ensures.1 in
    plan_follows store.map c.place.new.map (plain_contents c.in-Ok.contents.items) 6 (plain_pieces places.pieces.items) (plain_pieces c.plan_next.result.pieces.items) places.runs.items places.text text store.commit c.plan_next.result.commit store.commit.version store.commit.kind
    c.requires.limits c.requires.device (omega arith) c.in-Ok-place.ensures.taken (placed_alone places c.in-Ok-place.ensures.room) c.in-Ok-place.ensures.contents (sym c.in-Ok-text_of.ensures.2) c.plan_next.ensures.commit c.plan_next.ensures.placed written
