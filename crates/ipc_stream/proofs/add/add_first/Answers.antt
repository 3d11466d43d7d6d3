use Rattle.std.proofs.Common.{sym, ◌∙◌, ap, subst, Ok}
use Rattle.std.proofs.lemmas.Result.{err_from_is_err_and}
use Rattle.ipc_message.specs.declared.header_type.HeaderType.TheVariants.{Schema}
use Rattle.ipc_message.specs.Header.{supported_codes}
use Rattle.ipc_message.specs.Messages.{envelope_of}
use Rattle.ipc_message.specs.Raw.{schema_header}
use Rattle.ipc_message.specs.View.{raw_header_of, raw_schema_of}
use Rattle.ipc_stream.specs.Progress.{GivesFront}
use Rattle.ipc_stream.proofs.Messages.{no_schema_first, first_unread, first_header, seen_schema, header_typed}
use Rattle.ipc_stream.proofs.add.add_first.Goals as goal

pub returns-in_default : goal.returns-in_default
returns-in_default c = λ bytes. no_schema_first (envelope_of c.args.message.now) c.header_type.result c.in_default.not-Schema c.header_type.ensures

pub returns-in_err-raw : goal.returns-in_err-raw
returns-in_err-raw c = λ bytes.
    let p = err_from_is_err_and c.from_residual.result c.from_residual.ensures.1 in
    rw (p.1, p.2) (first_unread (envelope_of c.args.message.now) _ (rw c.in-Schema.is at c.header_type.ensures) c.in_err-raw.ensures.exact)

pub unreachable-requires : goal.unreachable-requires
unreachable-requires c =
    seen_schema c.in_ok-raw.field-0 c.in_default-2.not-Schema
    (header_typed supported_codes (envelope_of c.args.message.now).metadata Schema (raw_header_of c.in_ok-raw.field-0) (rw c.in-Schema.is at c.header_type.ensures) c.in_ok-raw.ensures.exact)

pub returns : goal.returns
returns c = λ bytes.
    subst (GivesFront bytes c.begin.result)
    (sym (first_header (envelope_of c.args.message.now) (schema_header (raw_schema_of c.in-Schema-2.raw)) (rw c.in-Schema.is at c.header_type.ensures)
    (c.in_ok-raw.ensures.exact ∙ ap (λ h. Ok (raw_header_of h)) c.in-Schema-2.is)))
    (c.begin.ensures bytes (envelope_of c.args.message.now).body)
