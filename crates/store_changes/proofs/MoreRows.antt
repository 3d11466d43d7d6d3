-- Rows of one segment more.
use Rattle.std.proofs.Common.{◌≡◌, ◌+◌, ◌++◌, ℕ, true, List, sym, ap, ◌∙◌, subst}
use Rattle.std.specs.List.{list_all}
use Rattle.std.proofs.lemmas.Bool.{and_from}
use Rattle.std.proofs.lemmas.Grind.{flat_map-append}
use Rattle.std.proofs.lemmas.List.Folds.{list_all-append}
use Rattle.std.proofs.lemmas.List.Sums.{sum_by-append}
use Rattle.arrow_schema.specs.Column.{PlainSchema, columns_of}
use Rattle.cells.specs.Cell.{Cell, PlainTable}
use Rattle.cells.specs.Weight.{row_weight, table_weight}
use Rattle.values.specs.Parts.{part_rows, parts_rows, parts_table, is_batch_sound, are_parts_sound}
use Rattle.values.specs.Table.{IsTable}
use Rattle.values.specs.declared.table_part.TablePart.{TablePart}

module _ (s : PlainSchema) (a b all : List TablePart) (t : PlainTable) (same : t.schema ≡ s) (is : t ≡ parts_table t.schema b) (joined : all ≡ a ++ b) where
  pub more_rows : (parts_table s all).rows ≡ (parts_table s a).rows ++ t.rows
  more_rows =
      ap (parts_rows (columns_of s.columns)) joined
      ∙ flat_map-append (part_rows (columns_of s.columns)) a b
      ∙ ap (λ (rows : List (List Cell)). parts_rows (columns_of s.columns) a ++ rows) (sym (ap (λ (x : PlainTable). x.rows) is ∙ ap (λ (x : PlainSchema). parts_rows (columns_of x.columns) b) same))

  pub more_weight : (weight more : ℕ) → weight ≡ table_weight s (parts_table s a).rows → more ≡ table_weight t.schema t.rows → weight + more ≡ table_weight s ((parts_table s a).rows ++ t.rows)
  more_weight weight more own other = (λ i. own i + (other ∙ ap (λ (x : PlainSchema). table_weight x t.rows) same) i) ∙ sym (sum_by-append (row_weight s) (parts_table s a).rows t.rows)

  pub more_sound : are_parts_sound (columns_of s.columns) a ≡ true → are_parts_sound (columns_of t.schema.columns) b ≡ true → are_parts_sound (columns_of s.columns) all ≡ true
  more_sound own other =
      ap (are_parts_sound (columns_of s.columns)) joined
      ∙ list_all-append (λ (p : TablePart). list_all (is_batch_sound (columns_of s.columns) p) p.batches.items) a b
      ∙ and_from _ _ own (subst (λ (x : PlainSchema). are_parts_sound (columns_of x.columns) b ≡ true) same other)

  pub more_table : IsTable t → IsTable (record { schema = s; rows = t.rows })
  more_table kept = subst (λ (x : PlainSchema). IsTable (record { schema = x; rows = t.rows })) same kept
