use Rattle.std.proofs.Common.{◌∙◌, ap, sym}
use Rattle.ipc_message.specs.Header.{supported_codes}
use Rattle.ipc_stream.specs.Fed.{settled_fault, held_of}
use Rattle.ipc_stream.proofs.Decoding.{none_held}
use Rattle.ipc_stream.proofs.Settled.{none_settled}
use Rattle.ipc_stream.proofs.decoder.Decoder.new.Goals as goal

pub decoder_of-requires-clause-settled : goal.decoder_of-requires-clause-settled
decoder_of-requires-clause-settled c = ap (settled_fault supported_codes) c.new.ensures.items ∙ none_settled

pub decoder_of-requires-clause-held : goal.decoder_of-requires-clause-held
decoder_of-requires-clause-held c = sym (ap (held_of supported_codes) c.new.ensures.items ∙ none_held)
