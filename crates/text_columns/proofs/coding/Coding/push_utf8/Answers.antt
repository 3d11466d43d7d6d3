use Rattle.std.proofs.Common.{◌≡◌, true, refl, rules, tests}
use Rattle.text_columns.specs.inner.Kept.{has_texts}
use Rattle.text_columns.specs.declared.coding.Coding.{Coding}
use Rattle.text_columns.proofs.Coded.{utf8_coded}
use Rattle.text_columns.proofs.coding.Coding.push_utf8.Goals as goal

pub returns-then-branch : goal.returns-then-branch
returns-then-branch c = λ date_form.
    let old = c.args.self.now in
    let new : Coding = record { index = old.index; indices = c.push_place.new.indices; keys = c.push_place.new.keys; one = old.one } in
    let strings : has_texts c.args.entries.now ≡ true = search (rules, tests) in
    utf8_coded date_form c.args.text.now old new c.args.entries.now c.push_place.new.entries strings c.requires (c.in_ok-push_place.ensures c.if-branch.true) refl refl
