-- What takes rows, before the first of them.
use Rattle.std.proofs.Common.{◌≡◌, ◌++◌, ℕ, List, [], sym, ap, ◌∙◌}
use Rattle.std.proofs.lemmas.List.{append-nil}
use Rattle.selection.specs.LinePrinter.{printer_in}
use Rattle.selection.specs.SelectionBuilder.{builder_in}
use Rattle.selection.specs.declared.selection_builder.SelectionBuilder.{SelectionBuilder}
use Rattle.selection.specs.laws.Parts.{lines_of_none, after_none, built_none}
use Rattle.store.specs.declared.selecting.LinesSoFar.{LinesSoFar}
use Rattle.store.specs.inner.Saving.{HasSelected}
use Rattle.store.specs.inner.Selecting.{HasLines}

pub no_lines : (start : LinesSoFar) → HasLines start [] start
no_lines start = record {
  text = sym (ap (λ (lines : List ℕ). start.text.items ++ lines) (lines_of_none (printer_in start.printer)) ∙ append-nil start.text.items);
  printer = sym (after_none (printer_in start.printer));
}

pub none_selected : (start : SelectionBuilder) → HasSelected start [] start
none_selected start = sym (built_none (builder_in start))
