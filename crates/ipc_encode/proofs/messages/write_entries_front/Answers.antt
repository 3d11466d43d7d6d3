use Rattle.std.proofs.Common.{◌≡◌, ◌++◌, List, ℕ, map, length, ap, sym, ◌∙◌}
use Rattle.std.proofs.lemmas.Result.{on_ok_weaker}
use Rattle.batch_build.specs.Batch.{buffers_in}
use Rattle.ipc_encode.proofs.Steps.{code_room, entries_are}
use Rattle.ipc_encode.proofs.messages.write_entries_front.Goals as goal

pub write_dictionary_front-requires : goal.write_dictionary_front-requires
write_dictionary_front-requires c =
    (buffers_in c.args.buffers.now, (sym (c.deref.ensures.value ∙ c.in_ok-lengths.ensures), code_room c.args.nodes.items (buffers_in c.args.buffers.now) c.requires))

pub returns : goal.returns
returns c =
    let buffers : List (List ℕ) = buffers_in c.args.buffers.now in
    let same : map length buffers ≡ c.deref.result.now = sym (c.deref.ensures.value ∙ c.in_ok-lengths.ensures) in
    on_ok_weaker c.write_dictionary_front.result
    (λ e. e buffers same ∙ ap (λ (x : List ℕ). c.args.out.now.items ++ x) (entries_are c.args.id c.args.slots c.args.nodes.items buffers))
    c.write_dictionary_front.ensures.appended
