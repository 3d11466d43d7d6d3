use Rattle.std.specs.Prelude.{get_or}
use Rattle.std.proofs.Common.{◌≡◌, ◌<◌, ◌+◌, ◌++◌, ◌∷◌, ◌∙◌, [], ℕ, length, take, vec_len, append-nil, is_ok, true, sym, ap, arith}
use Rattle.std.proofs.lemmas.Bool.{cond-true}
use Rattle.std.proofs.lemmas.Iterator.Adapters.{YieldsList-from_vec}
use Rattle.std.proofs.lemmas.Iterator.Consumers.{YieldsList-turn}
use Rattle.std.proofs.lemmas.List.{length_push, get_or_default}
use Rattle.segments.specs.declared.piece.Piece.{Piece}
use Rattle.segments.specs.declared.run.Run.{Run}
use Rattle.segments.specs.Pieces.{plain_pieces}
use Rattle.segments.specs.Writing.{runs_of}
use Rattle.commit.specs.Placing.{contents_of}
use Rattle.commit.proofs.Counted.{piece_contents, piece_run}
use Rattle.commit.proofs.placing.pieces_of.Goals as goal

abbrev no_run : Run
no_run = record { start = 0; count = 0 }

pub loop-parts-init : goal.loop-parts-init
loop-parts-init c = record {
  next = tt;
  ends = tt;
  room = omega arith;
  count = omega arith;
  contents = sym (append-nil (contents_of (plain_pieces c.args.pieces.items)));
  runs = c.requires.front;
}

pub loop-parts-preserved : goal.loop-parts-preserved
loop-parts-preserved c =
    let n = vec_len c.loop-parts.pieces in
    let runs = c.args.runs.now in
    let gives = c.into_iter-parts-iterator.ensures.into_iter_gives in
    let turn = YieldsList-turn (YieldsList-from_vec c.args.contents.items gives.0 (gives.1 ∙ c.args.contents.ok.0)) c.loop-parts.yielded _ c.loop-parts.yielded_by c.next.result c.next.new.self c.in-Some.parts c.in-Some.is c.next.ensures.steps in
    let inside : n < length runs = omega (arith, turn.0, c.requires.runs, c.args.contents.ok.0, c.loop-parts.invariant.count) in
    let place : c.len.result ≡ n = c.len.ensures in
    let here : get_or runs c.len.result no_run ≡ get_or runs n (get_or runs c.len.result no_run) = ap (λ (k : ℕ). get_or runs k no_run) place ∙ get_or_default runs n no_run (get_or runs c.len.result no_run) inside in
    let pushed : is_ok c.push.result ≡ true = ap is_ok c.unwrap.ensures in
    let piece : Piece = record { run = get_or runs c.len.result no_run; parts = c.in-Some.parts } in
    let items : c.push.new.self.items ≡ c.loop-parts.pieces.items ++ piece ∷ [] = c.push.ensures.items ∙ cond-true (is_ok c.push.result) _ _ pushed in
    let longer : vec_len c.push.new.self ≡ n + 1 = c.push.ensures.len ∙ cond-true (is_ok c.push.result) _ _ pushed in
    let more = length_push c.loop-parts.yielded c.in-Some.parts in
    record {
      next = tt;
      ends = tt;
      room = omega (arith, c.loop-parts.invariant.room, c.push.ensures.capacity);
      count = omega (arith, longer, c.loop-parts.invariant.count, more);
      contents = ap (λ ps. contents_of (plain_pieces ps)) items ∙ piece_contents c.loop-parts.pieces.items piece (contents_of (plain_pieces c.args.pieces.items)) c.loop-parts.yielded c.loop-parts.invariant.contents;
      runs = ap (λ ps. runs_of (plain_pieces ps)) items ∙ piece_run c.loop-parts.pieces.items piece runs n c.loop-parts.invariant.runs inside here ∙ ap (λ (k : ℕ). take k runs) (sym longer);
    }
