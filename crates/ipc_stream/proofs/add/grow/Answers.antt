use Rattle.std.proofs.Common.{sym, ◌∙◌, ap, subst, Ok, List, ℕ}
use Rattle.std.proofs.lemmas.Result.{err_from_is_err_and}
use Rattle.ipc_message.specs.Header.{supported_codes}
use Rattle.ipc_message.specs.Messages.{envelope_of}
use Rattle.ipc_message.specs.Raw.{dictionary_header, batch_header}
use Rattle.ipc_message.specs.View.{raw_header_of, raw_batch_of, raw_dictionary_of}
use Rattle.ipc_stream.specs.Meaning.{read_after}
use Rattle.ipc_stream.specs.Progress.{GivesGrown}
use Rattle.ipc_stream.proofs.Messages.{second_schema, next_unread, next_header, type_of_header, header_typed}
use Rattle.ipc_stream.proofs.add.grow.Goals as goal

pub returns-in-Schema : goal.returns-in-Schema
returns-in-Schema c = λ k is. second_schema k (envelope_of c.args.message.now) (rw c.in-Schema.is at c.header_type.ensures)

pub returns-in_err-raw : goal.returns-in_err-raw
returns-in_err-raw c = λ k is.
    let p = err_from_is_err_and c.from_residual.result c.from_residual.ensures.1 in
    rw (p.1, p.2) (next_unread k (envelope_of c.args.message.now) c.header_type.result _ c.in_default.not-Schema c.header_type.ensures c.in_err-raw.ensures.exact)

pub unreachable-requires : goal.unreachable-requires
unreachable-requires c =
    c.in_default.not-Schema
    (sym (header_typed supported_codes (envelope_of c.args.message.now).metadata c.header_type.result (raw_header_of c.in_ok-raw.field-0) c.header_type.ensures c.in_ok-raw.ensures.exact)
    ∙ ap (λ h. type_of_header (raw_header_of h)) c.in-Schema-2.is)

pub returns-in-RecordBatch : goal.returns-in-RecordBatch
returns-in-RecordBatch c = λ k is.
    let b = raw_batch_of c.in-RecordBatch.raw in
    subst (GivesGrown c.args.bytes.now c.add_batch.new.front c.add_batch.result)
    (ap (λ (body : List ℕ). read_after k body (batch_header b)) c.requires.body
    ∙ sym (next_header k (envelope_of c.args.message.now) c.header_type.result (batch_header b) c.in_default.not-Schema c.header_type.ensures
    (c.in_ok-raw.ensures.exact ∙ ap (λ h. Ok (raw_header_of h)) c.in-RecordBatch.is)))
    (c.add_batch.ensures k is)

pub returns-in-DictionaryBatch : goal.returns-in-DictionaryBatch
returns-in-DictionaryBatch c = λ k is.
    let d = raw_dictionary_of c.in-DictionaryBatch.raw in
    subst (GivesGrown c.args.bytes.now c.add_dictionary.new.front c.add_dictionary.result)
    (ap (λ (body : List ℕ). read_after k body (dictionary_header d)) c.requires.body
    ∙ sym (next_header k (envelope_of c.args.message.now) c.header_type.result (dictionary_header d) c.in_default.not-Schema c.header_type.ensures
    (c.in_ok-raw.ensures.exact ∙ ap (λ h. Ok (raw_header_of h)) c.in-DictionaryBatch.is)))
    (c.add_dictionary.ensures k is)
