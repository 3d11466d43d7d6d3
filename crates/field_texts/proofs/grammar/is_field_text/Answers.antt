use Rattle.std.proofs.Common.{◌∙◌, sym, rules}
use Rattle.std.specs.Prelude.{reverse}
use Rattle.field_texts.proofs.Testing.{not_text, start, stuck, moved, smaller, ended}
use Rattle.field_texts.proofs.grammar.is_field_text.Goals as goal

pub returns-in_default : goal.returns-in_default
returns-in_default c = not_text c.args.limited c.args.text.now c.in_default.ensures

pub steps-init : goal.steps-init
steps-init c = record {
  same = rw c.new-around.ensures.items (start c.args.limited c.args.text.now _ c.in-Some.ensures);
  text = search rules;
}

pub returns-in_default-2 : goal.returns-in_default-2
returns-in_default-2 c =
    let over = rw c.deref.ensures.value at c.is_over.ensures in
    let none = rw c.in_default-2.is at c.in_ok-next.ensures in
    stuck c.args.limited c.steps.place c.steps.around.items c.steps.rest.now _ (sym over ∙ c.steps-test.true) none c.steps.invariant.same

pub steps-smaller : goal.steps-smaller
steps-smaller c =
    let one = rw c.in-Some-2.is at c.in_ok-next.ensures in
    smaller c.args.limited c.steps.place (reverse c.steps.around.items) c.steps.rest.now (c.in-Some-2.next, reverse c.take_step.new.around.items, c.in-Some-2.after.now) one

pub steps-preserved : goal.steps-preserved
steps-preserved c = record {
  same =
      let one = rw c.in-Some-2.is at c.in_ok-next.ensures in
      moved c.args.limited c.steps.place (reverse c.steps.around.items) c.steps.rest.now (c.in-Some-2.next, reverse c.take_step.new.around.items, c.in-Some-2.after.now) _ one c.steps.invariant.same;
  text = search rules;
}

pub returns : goal.returns
returns c =
    let over = rw c.deref.ensures.value at c.is_over.ensures in
    rw c.is_empty.ensures (ended c.args.limited c.steps.place c.steps.around.items c.steps.rest.now _ (sym over ∙ c.steps-test.false) c.steps.invariant.same)
