use Rattle.std.proofs.Common.{◌≡◌, ◌∙◌, ap, sym, map, true, false}
use Rattle.std.specs.Prelude.{string_bytes}
use Rattle.facts.specs.Texts.{text_list}
use Rattle.text_import.specs.Objects.{has_unknown, has_name}
use Rattle.text_import.proofs.ObjectLemmas.{keys_listed, among_texts}
use Rattle.text_import.proofs.objects.has_unknown.Goals as goal

pub loop-key-init : goal.loop-key-init
loop-key-init c =
    let gives = c.into_iter-key-iterator.ensures.into_iter_gives in
    ap (has_unknown (text_list c.args.names.now.keys)) (ap (map string_bytes) (gives ∙ c.keys-key-items.ensures.rest) ∙ keys_listed c.args.members.now.entries)

pub returns-then-not-contains : goal.returns-then-not-contains
returns-then-not-contains c =
    let among : has_name (text_list c.args.names.now.keys) (string_bytes c.in-Some.key.now) ≡ false =
    rw c.as_str.ensures.value at (sym (c.contains.ensures ∙ among_texts c.as_str.result c.args.names.now.keys) ∙ c.if-not-contains.true) in
    rw among at (rw c.in-Some.ensures.steps at c.loop-key.invariant)

pub loop-key-preserved : goal.loop-key-preserved
loop-key-preserved c =
    let among : has_name (text_list c.args.names.now.keys) (string_bytes c.in-Some.key.now) ≡ true =
    rw c.as_str.ensures.value at (sym (c.contains.ensures ∙ among_texts c.as_str.result c.args.names.now.keys) ∙ c.if-not-contains.false) in
    rw among at (rw c.in-Some.ensures.steps at c.loop-key.invariant)
