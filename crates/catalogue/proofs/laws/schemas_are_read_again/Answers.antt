use Rattle.std.proofs.Common.{refl}
use Rattle.ipc_message.specs.Header.{supported_codes}
use Rattle.catalogue.proofs.Messages.{message_again}
use Rattle.catalogue.proofs.laws.schemas_are_read_again.Goals as goal

pub returns : goal.returns
returns c = λ s within.
    let again = c.schema_message_is_read_again.ensures in
    message_again s (λ rest. again.next_message s rest within) (again.header supported_codes s (refl, refl) within) (again.checked s within) (c.metadata_is_within_its_limit.ensures.schema s within)
