use Rattle.std.specs.Prelude.{nat_lt}
use Rattle.std.specs.List.{list_any}
use Rattle.std.proofs.Common.{sym, ◌∙◌}
use Rattle.columns.specs.Array.{array_list, slots_in}
use Rattle.columns.proofs.Children.{any_shorter}
use Rattle.columns.proofs.array_checks.has_shorter.Goals as goal

pub returns : goal.returns
returns c =
    c.any_fewer.ensures ∙ sym (any_shorter c.args.view.bytes.now c.args.view.dictionaries.now c.slots.result c.children.result.now)
    ∙ λ j. list_any (λ child. nat_lt (slots_in child) (c.slots.ensures j)) (array_list (c.children.ensures j))
