use Rattle.std.specs.Prelude.{Option, None, Ok, Err}
use Rattle.std.proofs.Common.{◌≡◌, ◌∙◌, ℕ, List, ap, sym, subst}
use Rattle.ipc_message.specs.declared.fault.Fault.{Fault}
use Rattle.ipc_message.specs.Header.{supported_codes}
use Rattle.ipc_message.specs.Outcome.{Fails}
use Rattle.ipc_stream.specs.Fed.{fed_with, reading, refused}
use Rattle.ipc_stream.specs.Feeding.{Finishes}
use Rattle.ipc_stream.specs.Meaning.{meaning}
use Rattle.ipc_stream.specs.Progress.{GivesFront}
use Rattle.ipc_stream.specs.inner.Reached.{known_from}
use Rattle.ipc_stream.proofs.Decoding.{was_refused, still_reading, finish_failed}
use Rattle.ipc_stream.proofs.OnePart.{meaning_given}
use Rattle.ipc_stream.proofs.Settled.{settled_meant}
use Rattle.ipc_stream.proofs.decoder.Decoder.finish.Goals as goal

pub returns-in-Some-clause-exact : goal.returns-in-Some-clause-exact
returns-in-Some-clause-exact c = λ bytes e.
    let is : refused c.in-Some.fault ≡ c.args.self = sym (ap (λ (o : Option Fault). fed_with o c.self.inside.bytes.items) c.in-Some.is) ∙ c.self.view_is in
    settled_meant bytes c.in-Some.fault (was_refused bytes c.in-Some.fault (is ∙ e))

pub returns-in-Err-clause-exact : goal.returns-in-Err-clause-exact
returns-in-Err-clause-exact c = λ bytes e.
    let items : List ℕ = c.self.inside.bytes.items in
    let is : reading items ≡ c.args.self = sym (ap (λ (o : Option Fault). fed_with o items) c.in_default.is) ∙ c.self.view_is in
    let fails = subst (λ (x : List ℕ). Fails c.in-Err.error (known_from None x)) c.deref.ensures.value c.in-Err.ensures in
    subst (λ (x : List ℕ). Finishes (Err c.failed.result) (meaning supported_codes x)) (still_reading bytes items (is ∙ e))
    (finish_failed c.in-Err.error c.failed.result items c.failed.ensures fails)

pub returns-in-Ok-table_of_front-clause-exact : goal.returns-in-Ok-table_of_front-clause-exact
returns-in-Ok-table_of_front-clause-exact c = λ bytes e.
    let items : List ℕ = c.self.inside.bytes.items in
    let is : reading items ≡ c.args.self = sym (ap (λ (o : Option Fault). fed_with o items) c.in_default.is) ∙ c.self.view_is in
    let given = subst (λ (x : List ℕ). GivesFront x (Ok c.in-Ok.front) (known_from None x)) c.deref.ensures.value c.in-Ok.ensures in
    ap (meaning supported_codes) (sym (still_reading bytes items (is ∙ e)))
    ∙ meaning_given items given.0 _ given.1 (c.in-Ok-table_of_front.ensures.table given.0 given.2)
