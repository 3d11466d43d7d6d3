-- A stream as messages are added to it: all of a message but its body, and then the body.
use Rattle.std.proofs.Common.{◌≡◌, ℕ, List, ◌++◌, append_assoc, ap, sym, ◌∙◌}
use Rattle.batch_build.specs.declared.batch.Buffer.{Buffer}
use Rattle.ipc_encode.specs.declared.stream.Stream.{Stream}
use Rattle.ipc_encode.specs.View.{joined_parts}
use Rattle.ipc_encode.specs.inner.Stream.{stream_in}

pub front_then_body : (old new : Stream) (rest message : List ℕ) → new.parts.items ≡ old.parts.items → new.last.items ++ rest ≡ old.last.items ++ message → stream_in new ++ rest ≡ stream_in old ++ message
unfolding stream_in
front_then_body old new rest message same is =
    append_assoc (joined_parts new.parts.items) new.last.items rest
    ∙ ap (λ (parts : List Buffer). joined_parts parts ++ (new.last.items ++ rest)) same
    ∙ ap (λ (x : List ℕ). joined_parts old.parts.items ++ x) is
    ∙ sym (append_assoc (joined_parts old.parts.items) old.last.items message)
