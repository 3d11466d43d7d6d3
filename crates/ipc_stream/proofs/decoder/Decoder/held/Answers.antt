use Rattle.std.proofs.Common.{◌∙◌}
use Rattle.ipc_stream.proofs.Decoding.{held_decoding}
use Rattle.ipc_stream.proofs.decoder.Decoder.held.Goals as goal

pub returns : goal.returns
returns c = λ bytes e. held_decoding bytes c.self.inside.bytes.items c.self.inside.fault c.self.inside.reading c.self.invariant (c.self.view_is ∙ e)
