use Rattle.ipc_stream.proofs.OlderStreams.{NamedCodes, StaySupported, meaning_alike, older_meaning, later_fault, table_kept}
use Rattle.ipc_stream.proofs.laws.older_streams_keep_their_meaning.Goals as goal

pub returns : goal.returns
returns c =
    let is = c.only_named_codes_matter.ensures in
    let matter : NamedCodes = record { named = is.named; schemas = is.schemas; header = is.header; checks = is.checks } in
    let stay : StaySupported = record { older = c.named_codes_stay_supported.ensures.older; checked = c.named_codes_stay_supported.ensures.checked } in
    record { named = meaning_alike matter; older = older_meaning matter stay; later = later_fault matter stay; tables = table_kept matter stay }
