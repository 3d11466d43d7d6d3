use Rattle.std.specs.Prelude.{Option, Some}
use Rattle.std.proofs.Common.{◌≡◌, ◌∙◌, ◌++◌, ℕ, List, ap, sym, subst}
use Rattle.ipc_message.specs.declared.fault.Fault.{Fault}
use Rattle.ipc_message.specs.Header.{supported_codes}
use Rattle.ipc_stream.specs.Fed.{fed_with, reading, refused, settled_fault}
use Rattle.ipc_stream.proofs.Decoding.{tells_again, fed_fault, still_reading}
use Rattle.ipc_stream.proofs.decoder.Decoder.feed.Goals as goal

pub returns-in-Some-clause-told : goal.returns-in-Some-clause-told
returns-in-Some-clause-told c = λ bytes e.
    let is : refused c.in-Some.fault ≡ c.args.self.now = sym (ap (λ (o : Option Fault). fed_with o c.self.inside.bytes.items) c.in-Some.is) ∙ c.self.view_is in
    tells_again bytes c.args.piece.now c.in-Some.fault (is ∙ e)

pub returns-in-Some-clause-fed : goal.returns-in-Some-clause-fed
returns-in-Some-clause-fed c = λ bytes e.
    let is : refused c.in-Some.fault ≡ c.args.self.now = sym (ap (λ (o : Option Fault). fed_with o c.self.inside.bytes.items) c.in-Some.is) ∙ c.self.view_is in
    sym is ∙ fed_fault (bytes ++ c.args.piece.now) c.in-Some.fault (tells_again bytes c.args.piece.now c.in-Some.fault (is ∙ e))

pub returns-in-Err-Fault-clause-told : goal.returns-in-Err-Fault-clause-told
returns-in-Err-Fault-clause-told c = λ bytes e.
    let items : List ℕ = c.self.inside.bytes.items in
    let is : reading items ≡ c.args.self.now = sym (ap (λ (o : Option Fault). fed_with o items) c.in_default.is) ∙ c.self.view_is in
    subst (λ (read : List ℕ). settled_fault supported_codes (read ++ c.args.piece.now) ≡ Some c.in-Err-Fault.fault) (still_reading bytes items (is ∙ e))
    (rw c.in-Err-Fault.field-0-is at c.in-Err-Fault.ensures)

pub returns-in-Err-Fault-clause-fed : goal.returns-in-Err-Fault-clause-fed
returns-in-Err-Fault-clause-fed c = λ bytes e. fed_fault (bytes ++ c.args.piece.now) c.in-Err-Fault.fault (returns-in-Err-Fault-clause-told c bytes e)
