use Rattle.std.proofs.Common.{refl, length}
use Rattle.std.proofs.lemmas.Result.{err_from_is_err_and}
use Rattle.ipc_message.specs.View.{raw_schema_of}
use Rattle.ipc_stream.proofs.Firsts.{is_accepted, first_refused, first_given}
use Rattle.ipc_stream.proofs.add.begin.Goals as goal

pub returns-in_err-schema : goal.returns-in_err-schema
returns-in_err-schema c = λ bytes body.
    let p = err_from_is_err_and c.from_residual.result c.from_residual.ensures.1 in
    rw (p.1, p.2) (first_refused (raw_schema_of c.args.raw.now) body _ c.in_err-schema.ensures.exact)

pub read_dictionary_columns-requires-clause-decoded :
    goal.read_dictionary_columns-requires-clause-decoded
read_dictionary_columns-requires-clause-decoded c = (is_accepted (raw_schema_of c.args.raw.now) _ c.in_ok-schema.ensures.exact).decoded

pub read_dictionary_columns-requires-clause-utf8 :
    goal.read_dictionary_columns-requires-clause-utf8
read_dictionary_columns-requires-clause-utf8 c = (is_accepted (raw_schema_of c.args.raw.now) _ c.in_ok-schema.ensures.exact).utf8

pub returns : goal.returns
returns c = λ bytes body.
    first_given (record { values = c.schemas_give_dictionary_columns.ensures.values; one_type = c.schemas_give_dictionary_columns.ensures.one_type }) bytes body (raw_schema_of c.args.raw.now)
    (record { schema = c.in_ok-schema.schema; columns = c.in_ok-columns.columns; dictionaries = c.new.result; batches = c.new-2.result; weight = 0 }) c.in_ok-schema.ensures.exact c.in_ok-schema.ensures.within c.in_ok-columns.ensures (c.new.ensures.effect bytes)
    (c.new.ensures.within (length bytes)) c.new-2.ensures.items refl
