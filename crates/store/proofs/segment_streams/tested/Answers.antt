use Rattle.std.proofs.Common.{◌∙◌, ℕ, List, Some, ap, sym}
use Rattle.std.specs.Prelude.{is_some}
use Rattle.sha2.specs.Sha256.{sha256}
use Rattle.store_runs.specs.Held.{rows_in_bytes}
use Rattle.store.proofs.Streamed.{streams, not_streams}
use Rattle.store.proofs.segment_streams.tested.Goals as goal

pub returns-in-Ok-true-clause-stream : goal.returns-in-Ok-true-clause-stream
returns-in-Ok-true-clause-stream c = λ tells image s message has.
    let bytes = c.args.bytes.items in
    let g = c.args.segment in
    let digest = c.digest_of-digest.ensures ∙ ap sha256 (c.deref.ensures.value) in
    let same = c.in_ok-copy.ensures.copy ∙ c.deref-2.ensures.value in
    streams tells image s g bytes c.digest_of-digest.result has (sym (c.has_digest.ensures bytes digest) ∙ c.if-not-has_digest.false) digest
    (sym c.in-Ok-true.field-0-test ∙ c.in-Ok-true.ensures.means s message ∙ ap (λ (b : List ℕ). is_some (rows_in_bytes s g.rows (Some b))) same)

pub returns-in-Ok-false-clause-told : goal.returns-in-Ok-false-clause-told
returns-in-Ok-false-clause-told c = λ tells image s message has.
    let bytes = c.args.bytes.items in
    let g = c.args.segment in
    let digest = c.digest_of-digest.ensures ∙ ap sha256 (c.deref.ensures.value) in
    let same = c.in_ok-copy.ensures.copy ∙ c.deref-2.ensures.value in
    not_streams tells image s g bytes c.args.place has (sym (c.has_digest.ensures bytes digest) ∙ c.if-not-has_digest.false)
    (sym c.in-Ok-false.field-0-test ∙ c.in-Ok-false.ensures.means s message ∙ ap (λ (b : List ℕ). is_some (rows_in_bytes s g.rows (Some b))) same)
