use Rattle.std.proofs.Common.{◌≡◌, ◌∙◌, ◌∷◌, ◌++◌, ℕ, List, Bor, map, sym, ap, subst}
use Rattle.std.specs.Prelude.{OnOk}
use Rattle.std.proofs.lemmas.List.{map_push}
use Rattle.facts.specs.Texts.{text_list}
use Rattle.ipc_message.specs.declared.raw_header.RawField.{out-RawField}
use Rattle.ipc_message.specs.declared.raw_header.RawField.TheFolds.{fold_out-RawField}
use Rattle.ipc_message.specs.Checks.{texts_of_pairs, texts_of_field}
use Rattle.ipc_message.specs.Raw as raw
use Rattle.ipc_message.specs.View.{key_value, raw_field_step}
use Rattle.ipc_message.proofs.Opened.{two_listed}
use Rattle.ipc_message.proofs.texts.list_field.Goals as goal

pub returns : goal.returns
returns c =
    let f = c.args.field.now in
    let old = text_list c.args.texts.now.items in
    let name = (out-RawField f).name.now in
    let rest = texts_of_pairs (map key_value (out-RawField f).pairs.items) in
    let texts = two_listed old (text_list c.push.new.self.items) (text_list c.push-2.new.self.items) name c.timezone.result.now rest
    (ap text_list c.in_ok-push.ensures.items ∙ map_push (λ (t : Bor (List ℕ)). t.now) c.args.texts.now.items _)
    (ap text_list c.in_ok-push-2.ensures.items ∙ map_push (λ (t : Bor (List ℕ)). t.now) c.push.new.self.items _)
    ∙ ap (λ (t : List ℕ). old ++ (name ∷ t ∷ rest)) c.timezone.ensures
    ∙ ap (λ (ts : List (List ℕ)). old ++ ts) (sym (ap texts_of_field (fold_out-RawField raw.RawField raw_field_step f))) in
    subst (λ (ts : List (List ℕ)). OnOk c.list_pairs.result (text_list c.list_pairs.new.texts.items ≡ ts)) texts (rw c.deref.ensures.value at c.list_pairs.ensures)
