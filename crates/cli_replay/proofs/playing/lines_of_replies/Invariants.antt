-- The lines so far, and those of the replies that are left, are the lines of all.
use Rattle.std.proofs.Common.{◌≡◌, ◌++◌, drop, string_bytes}
use Rattle.store.specs.Places.{replies_of}
use Rattle.cli_replay.specs.Playing.{replies_text}
use Rattle.cli_replay.proofs.playing.lines_of_replies.Given as goal

abbrev pub invariant-loop-place : goal.invariant-loop-place
invariant-loop-place l = string_bytes l.text ++ replies_text (drop l.place l.numbers) (replies_of (drop l.place l.replies)) ≡ replies_text l.numbers (replies_of l.replies)
