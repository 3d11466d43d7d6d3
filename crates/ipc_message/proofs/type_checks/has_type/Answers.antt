use Rattle.std.proofs.Common.{◌∙◌, sym, rules}
use Rattle.ipc_message.proofs.Children.{child_columns, count_of_children, has_type_opened}
use Rattle.ipc_message.proofs.type_checks.has_type.Goals as goal

pub returns : goal.returns
returns c =
    let field = c.args.field.now in
    let typed = rw c.type_name.ensures at (c.is_type.ensures (child_columns field) (count_of_children field ∙ sym (search rules))) in
    typed ∙ sym (has_type_opened field)
