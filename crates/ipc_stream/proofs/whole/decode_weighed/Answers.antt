use Rattle.std.proofs.Common.{ℕ, suc, List, length, subst, Ok, sym, ap, ◌∙◌}
use Rattle.cells.specs.Cell.{PlainTable}
use Rattle.cells.specs.Weight.{table_weight}
use Rattle.std.specs.Prelude.{None}
use Rattle.std.proofs.lemmas.Result.{err_from_is_err_and}
use Rattle.ipc_message.specs.Header.{supported_codes}
use Rattle.ipc_message.specs.Outcome.{Fails}
use Rattle.ipc_stream.specs.Meaning.{read_from}
use Rattle.ipc_stream.specs.Progress.{GivesFront}
use Rattle.ipc_stream.proofs.OnePart.{meaning_given, meaning_refused}
use Rattle.ipc_stream.proofs.whole.decode_weighed.Goals as goal

pub returns-in_err-front : goal.returns-in_err-front
returns-in_err-front c =
    let p = err_from_is_err_and c.from_residual.result c.from_residual.ensures.1 in
    let failed = subst (λ (bytes : List ℕ). Fails c.in_err-front.field-0.0 (read_from supported_codes (suc (length bytes)) None bytes)) c.deref.ensures.value c.in_err-front.ensures in
    record { exact = rw (p.1, p.2) (meaning_refused c.args.bytes.items _ failed); weight = rw (p.1) tt; in_parts = rw (p.1) tt }

pub returns-in-Ok : goal.returns-in-Ok
returns-in-Ok c =
    let given = subst (λ (bytes : List ℕ). GivesFront bytes (Ok c.in_ok-front.front) (read_from supported_codes (suc (length bytes)) None bytes)) c.deref.ensures.value c.in_ok-front.ensures in
    let same = c.in-Ok.ensures.table given.0 given.2 in
    record {
      exact = meaning_given c.args.bytes.items given.0 _ given.1 same;
      weight = given.2.weight ∙ ap (λ (t : PlainTable). table_weight t.schema t.rows) (sym same);
      in_parts = c.in-Ok.ensures.in_parts;
    }
