use Rattle.std.proofs.Common.{◌++◌, ℕ, List, [], length, ap, ◌∙◌, arith}
use Rattle.std.proofs.lemmas.Result.{on_ok_weaker}
use Rattle.flatbuf.specs.Laid.{metadata}
use Rattle.flatbuf.specs.View.{node_of}
use Rattle.ipc_write.specs.Written.{framed}
use Rattle.ipc_write.proofs.Room.{root_small}
use Rattle.ipc_write.proofs.framing.write_front.Goals as goal

pub write-requires-clause-fits : goal.write-requires-clause-fits
write-requires-clause-fits c = rw c.in_ok-root.ensures c.requires.fits

pub write-requires-clause-small : goal.write-requires-clause-small
write-requires-clause-small c = root_small (node_of c.in_ok-root.root) _ c.in_ok-root.ensures c.requires.small

pub put_front-requires : goal.put_front-requires
put_front-requires c =
    let small = root_small (node_of c.in_ok-root.root) _ c.in_ok-root.ensures c.requires.small in
    omega (arith, small, ap length (c.deref.ensures.value ∙ c.in_ok-metadata.ensures))

pub returns-clause-appended : goal.returns-clause-appended
returns-clause-appended c =
    on_ok_weaker c.put_front.result
    (λ done. done ∙ ap (λ (bytes : List ℕ). c.args.out.now.items ++ framed bytes []) (c.deref.ensures.value ∙ c.in_ok-metadata.ensures ∙ ap metadata c.in_ok-root.ensures))
    c.put_front.ensures.appended
