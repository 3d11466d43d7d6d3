-- Rows that are accepted are a table, and the rows of a table are accepted; tables are cut and joined.
use Rattle.std.proofs.Common.{◌≡◌, ℕ, ◌≤◌, Bool, true, false, List, ◌++◌, refl, sym, subst, ◌∙◌, arith}
use Rattle.std.specs.Prelude.{Option, Some, None, Ok, Err, nat_le, if◌then◌else◌}
use Rattle.std.proofs.lemmas.Bool.{and_from, and_parts, leb-true}
use Rattle.std.proofs.lemmas.List.Folds.{list_all-append}
use Rattle.std.proofs.lemmas.List.Sums.{AllPass-from_list_all, list_all-from_AllPass, sum_by-append}
use Rattle.arrow_schema.specs.Column.{PlainSchema}
use Rattle.arrow_schema.specs.Limits.{IsWithinLimits}
use Rattle.cells.specs.Cell.{Cell, PlainTable}
use Rattle.cells.specs.Row.{is_row}
use Rattle.cells.specs.Weight.{row_weight, table_weight, capped_weight}
use Rattle.values.specs.Table.{IsTable, first_unfit, weighed, table_from, too_heavy}
use Rattle.values.proofs.AcceptLemmas.{all_rows, none_unfit, is_light}
use Rattle.values.specs.PlainTables.{plain_table}

pub accepted : (t : PlainTable) → IsTable t → table_from t.schema t.rows ≡ Ok t
accepted t is =
    let none = none_unfit t.schema t.rows (list_all-from_AllPass (is_row t.schema) t.rows is.rows) in
    is_light t.schema (capped_weight (table_weight t.schema t.rows)) t.rows none refl (omega (arith, is.weight))

made : (s : PlainSchema) (rows : List (List Cell)) (t : PlainTable) (b : Bool) → IsWithinLimits s → first_unfit s rows ≡ None → nat_le (table_weight s rows) 268435456 ≡ b
    → (if b then Ok (plain_table s rows) else Err too_heavy) ≡ Ok t → (t ≡ plain_table s rows) × IsTable t
made s rows t true limits none light h =
    let same : plain_table s rows ≡ t = cc in
    let is : IsTable (plain_table s rows) = record {
      schema = limits;
      rows = AllPass-from_list_all (is_row s) rows (all_rows s rows none);
      weight = leb-true _ _ light;
    } in
    (sym same, subst (λ (x : PlainTable). IsTable x) same is)
made s rows t false limits none light h = cc

from : (s : PlainSchema) (rows : List (List Cell)) (t : PlainTable) (o : Option ℕ) → IsWithinLimits s → first_unfit s rows ≡ o → weighed s rows o ≡ Ok t → (t ≡ plain_table s rows) × IsTable t
from s rows t (Some i) limits e h = cc
from s rows t None limits e h = made s rows t (nat_le (table_weight s rows) 268435456) limits e refl h

pub kept : (s : PlainSchema) (rows : List (List Cell)) (t : PlainTable) → IsWithinLimits s → table_from s rows ≡ Ok t → (t ≡ plain_table s rows) × IsTable t
unfolding table_from
kept s rows t limits h = from s rows t (first_unfit s rows) limits refl h

pub joined : (s : PlainSchema) (a b : List (List Cell)) → IsTable (plain_table s a) → IsTable (plain_table s b) → table_weight s (a ++ b) ≤ 268435456 → IsTable (plain_table s (a ++ b))
joined s a b x y light = record {
  schema = x.schema;
  rows = AllPass-from_list_all (is_row s) (a ++ b)
      (list_all-append (is_row s) a b ∙ and_from _ _ (list_all-from_AllPass (is_row s) a x.rows) (list_all-from_AllPass (is_row s) b y.rows));
  weight = light;
}

pub parted : (s : PlainSchema) (a b : List (List Cell)) → IsTable (plain_table s (a ++ b)) → IsTable (plain_table s a) × IsTable (plain_table s b)
parted s a b x =
    let both = and_parts _ _ (sym (list_all-append (is_row s) a b) ∙ list_all-from_AllPass (is_row s) (a ++ b) x.rows) in
    let weight = sum_by-append (row_weight s) a b in (
      record { schema = x.schema; rows = AllPass-from_list_all (is_row s) a both.0; weight = omega (arith, x.weight, weight) },
      record { schema = x.schema; rows = AllPass-from_list_all (is_row s) b both.1; weight = omega (arith, x.weight, weight) },
    )
