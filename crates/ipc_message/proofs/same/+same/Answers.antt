use Rattle.std.proofs.Common.{map}
use Rattle.std.proofs.lemmas.List.{length-map}
use Rattle.ipc_message.specs.View.{raw_field_of}
use Rattle.ipc_message.proofs.Compared.{same_fields_short, same_field_parts}
use Rattle.ipc_message.proofs.Opened.{children_opened}
use Rattle.ipc_message.proofs.same.+same.Goals as goal

pub are_same-returns-then-one-other : goal.are_same-returns-then-one-other
are_same-returns-then-one-other t c =
    same_fields_short (map raw_field_of c.args.one.now) (map raw_field_of c.args.other.now) (λ e. c.if-one-other.true (simp length-map at e))

pub is_same-returns-then-have_same_parts : goal.is_same-returns-then-have_same_parts
is_same-returns-then-have_same_parts t c =
    let one = c.args.one.now in
    let other = c.args.other.now in
    rw (same_field_parts (raw_field_of one) (raw_field_of other), children_opened one, children_opened other, ← c.if-have_same_parts.ensures, ← c.deref.ensures.value, ← c.deref-then-have_same_parts.ensures.value) c.are_same.ensures
