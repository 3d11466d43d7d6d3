use Rattle.std.proofs.Common.{◌≡◌, ◌∙◌, sym, ap, false, eqb, Ok}
use Rattle.std.proofs.lemmas.Bool.{ne_eqb}
use Rattle.std.proofs.lemmas.Result.{err_from_is_err_and}
use Rattle.ipc_message.specs.Framing.{metadata_size}
use Rattle.ipc_message.proofs.NextMessageLemmas.{size_bad, message_bad, message_good, metadata_cut, following_cut}
use Rattle.ipc_message.proofs.next_message.read_message.Goals as goal

pub returns-in_err-test_size-clause-exact : goal.returns-in_err-test_size-clause-exact
returns-in_err-test_size-clause-exact c =
    let p = err_from_is_err_and c.from_residual-in_err-test_size.result c.from_residual-in_err-test_size.ensures.1 in
    let bytes = c.args.bytes.now in
    let size : c.in_ok-size.size ≡ metadata_size bytes = c.in_ok-size.ensures.value in
    let some : eqb (metadata_size bytes) 0 ≡ false = ne_eqb _ _ (rw size at c.if-size-eq0.false) in
    rw (p.1, p.2) (sym (size_bad bytes _ c.in_ok-size.ensures.faults some c.in_err-test_size.ensures.faults))

pub returns-in_err-message-clause-exact : goal.returns-in_err-message-clause-exact
returns-in_err-message-clause-exact c =
    let p = err_from_is_err_and c.from_residual-in_err-message.result c.from_residual-in_err-message.ensures.1 in
    let bytes = c.args.bytes.now in
    let size : c.in_ok-size.size ≡ metadata_size bytes = c.in_ok-size.ensures.value in
    let some : eqb (metadata_size bytes) 0 ≡ false = ne_eqb _ _ (rw size at c.if-size-eq0.false) in
    rw (p.1, p.2) (sym (message_bad bytes _ _ _ c.in_ok-size.ensures.faults some c.in_ok-test_size.ensures.faults (metadata_cut bytes _ size) (following_cut bytes _ size) c.in_err-message.ensures.faults))

pub returns-clause-exact : goal.returns-clause-exact
returns-clause-exact c =
    let bytes = c.args.bytes.now in
    let size : c.in_ok-size.size ≡ metadata_size bytes = c.in_ok-size.ensures.value in
    let some : eqb (metadata_size bytes) 0 ≡ false = ne_eqb _ _ (rw size at c.if-size-eq0.false) in
    ap Ok c.in_ok-message.ensures.value
    ∙ sym (message_good bytes _ _ c.in_ok-size.ensures.faults some c.in_ok-test_size.ensures.faults (metadata_cut bytes _ size) (following_cut bytes _ size) c.in_ok-message.ensures.faults)
