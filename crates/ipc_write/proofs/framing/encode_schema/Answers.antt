use Rattle.std.proofs.Common.{◌<◌, ◌^◌, ◌++◌, ◌∙◌, ℕ, List, length, subst, sym, ap}
use Rattle.arrow_schema.specs.View.{schema_of}
use Rattle.ipc_write.specs.Written.{schema_message}
use Rattle.ipc_write.proofs.WrittenMessages.{schema_short}
use Rattle.ipc_write.proofs.framing.encode_schema.Goals as goal

pub returns-clause-short : goal.returns-clause-short
returns-clause-short c =
    let s = schema_of c.args.schema.now in
    let is = c.in_ok-write_schema.ensures.appended ∙ ap (λ (front : List ℕ). front ++ schema_message s) c.new-message.ensures.items in
    subst (λ (bytes : List ℕ). length bytes < 2 ^ 32) (sym is) (schema_short s (c.metadata_is_within_its_limit.ensures.schema s c.requires))
