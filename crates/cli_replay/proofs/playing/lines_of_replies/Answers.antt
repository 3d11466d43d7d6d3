use Rattle.std.proofs.Common.{◌+◌, ◌++◌, ◌∙◌, String, drop, string_bytes, ap, arith}
use Rattle.std.specs.Global.{Global}
use Rattle.store.specs.Places.{replies_of}
use Rattle.cli_replay.specs.Playing.{replies_text}
use Rattle.cli_replay.proofs.Results.{reply_more, no_number, all_replies}
use Rattle.cli_replay.proofs.playing.lines_of_replies.Goals.{in-Some+in_ok-push_reply-in-Some, in-None}
use Rattle.cli_replay.proofs.playing.lines_of_replies.Goals as goal

pub loop-place-preserved : goal.loop-place-preserved
loop-place-preserved c =
    let i = c.loop-place.place in
    let numbers = c.args.numbers.now in
    let replies = c.args.replies.now in
    let r = c.index-replies-place in
    elim c.match-get.branch [
      | in-Some+in_ok-push_reply-in-Some w ↦ reply_more numbers i w.in-Some.number.now replies r.result _ _ _ w.in-Some.ensures.lookup.3.0 (w.in-Some.ensures.lookup.3.1 _) c.loop-place-test.true r.is
          (ap string_bytes w.text-is ∙ w.in_ok-push_reply-in-Some.ensures) c.loop-place.invariant
      | in-None w ↦ ap (λ (text : String Global). string_bytes text ++ replies_text (drop (i + 1) numbers) (replies_of (drop (i + 1) replies))) w.text-is
          ∙ no_number numbers i replies _ _ w.in-None.ensures.lookup.3 c.loop-place.invariant
    ]

pub returns : goal.returns
returns c = all_replies c.args.numbers.now c.loop-place.place c.args.replies.now _ _ (omega (arith, c.loop-place-test.false)) c.loop-place.invariant
