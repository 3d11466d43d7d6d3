use Rattle.std.proofs.Common.{◌≡◌, ◌∙◌, ap, map, sym, true, false}
use Rattle.std.specs.Prelude.{Some, string_bytes}
use Rattle.arrow_schema.specs.Column.{columns_of}
use Rattle.arrow_schema.specs.View.{column_of}
use Rattle.text_import.specs.Objects.{has_name, names_of}
use Rattle.text_import.specs.ValuePart.{first_unknown}
use Rattle.text_import.proofs.ObjectLemmas.{keys_listed}
use Rattle.text_import.proofs.objects.first_unknown.Goals as goal

pub loop-key-init : goal.loop-key-init
loop-key-init c =
    let gives = c.into_iter-key-iterator.ensures.into_iter_gives in
    ap (first_unknown (names_of (columns_of (map column_of c.args.fields.now)))) (ap (map string_bytes) (gives ∙ c.keys-key-items.ensures.rest) ∙ keys_listed c.args.members.now.entries)

pub returns-then-not-has_name : goal.returns-then-not-has_name
returns-then-not-has_name c =
    let among : has_name (names_of (columns_of (map column_of c.args.fields.now))) (string_bytes c.in-Some.key.now) ≡ false =
    rw c.as_str-name.ensures.value at (sym c.has_name.ensures ∙ c.if-not-has_name.true) in
    ap Some c.as_str-name.ensures.value ∙ rw among at (rw c.in-Some.ensures.steps at c.loop-key.invariant)

pub loop-key-preserved : goal.loop-key-preserved
loop-key-preserved c =
    let among : has_name (names_of (columns_of (map column_of c.args.fields.now))) (string_bytes c.in-Some.key.now) ≡ true =
    rw c.as_str-name.ensures.value at (sym c.has_name.ensures ∙ c.if-not-has_name.false) in
    rw among at (rw c.in-Some.ensures.steps at c.loop-key.invariant)
