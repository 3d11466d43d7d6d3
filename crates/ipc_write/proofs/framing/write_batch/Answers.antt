use Rattle.std.proofs.Common.{◌≡◌, List, ℕ, length, map, sym, ◌∙◌}
use Rattle.std.proofs.lemmas.Result.{on_ok_weaker}
use Rattle.ipc_write.specs.Contents.{buffers_in}
use Rattle.ipc_write.proofs.framing.write_batch.Goals as goal

pub write_batch_front-requires : goal.write_batch_front-requires
write_batch_front-requires c = (buffers_in c.args.contents, (sym (c.deref.ensures.value ∙ c.in_ok-lengths.ensures), c.requires))

pub returns-clause-appended : goal.returns-clause-appended
returns-clause-appended c =
    let buffers : List (List ℕ) = buffers_in c.args.contents in
    let same : map length buffers ≡ c.deref.result.now = sym (c.deref.ensures.value ∙ c.in_ok-lengths.ensures) in
    on_ok_weaker c.put_body_or_cut.result (λ done. done ∙ c.in_ok-write_batch_front.ensures.appended buffers same) c.put_body_or_cut.ensures.appended
