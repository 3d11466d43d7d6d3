use Rattle.std.proofs.Common.{◌∙◌, ◌+◌, ◌++◌, ℕ, List, ap, drop, append_assoc}
use Rattle.std.specs.Prelude.{flat_map}
use Rattle.facts.specs.Texts.{text_list}
use Rattle.facts.specs.laws.Lists.{drop-item}
use Rattle.ipc_message.specs.Checks.{texts_of_field}
use Rattle.ipc_message.specs.View.{raw_field_of}
use Rattle.ipc_message.specs.inner.Listed.{listed}
use Rattle.ipc_message.proofs.texts.list_texts.Goals as goal

pub loop-place-preserved : goal.loop-place-preserved
loop-place-preserved c =
    let fields = c.args.fields.now in
    let i = c.loop-place.place-index in
    let f = c.place-item.result in
    let rest = flat_map texts_of_field (listed (drop (i + 1) fields)) in
    ap (λ (ts : List (List ℕ)). ts ++ rest) c.in_ok-list_field.ensures
    ∙ append_assoc (text_list c.loop-place.texts.items) (texts_of_field (raw_field_of f.field.now)) rest
    ∙ (rw (drop-item fields i f c.loop-place-test.true c.place-item.is) at c.loop-place.invariant)
