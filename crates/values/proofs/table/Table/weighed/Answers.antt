use Rattle.std.proofs.Common.{◌≡◌, map, length, arith, rules}
use Rattle.std.proofs.lemmas.Bool.{eq-eqb}
use Rattle.arrow_schema.specs.View.{schema_of}
use Rattle.cells.specs.Row.{row_of}
use Rattle.values.proofs.AcceptLemmas.{is_heavy, is_light, is_table}
use Rattle.values.proofs.table.Table.weighed.Goals as goal

pub returns-then-weight-gt-MAX_TABLE_WEIGHT-clause-refused : goal.returns-then-weight-gt-MAX_TABLE_WEIGHT-clause-refused
returns-then-weight-gt-MAX_TABLE_WEIGHT-clause-refused c =
    let none = rw c.deref.ensures.value at c.in_ok-weight.ensures.taken in
    let weight = rw c.deref.ensures.value at c.in_ok-weight.ensures.weight in
    is_heavy (schema_of c.args.schema) c.in_ok-weight.weight (map row_of c.args.rows.items) none weight c.if-weight-gt-MAX_TABLE_WEIGHT.true

pub invariant_of-table : goal.invariant_of-table
invariant_of-table c =
    let none = rw c.deref.ensures.value at c.in_ok-weight.ensures.taken in
    let weight = rw c.deref.ensures.value at c.in_ok-weight.ensures.weight in
    let count : length c.args.rows.items ≡ c.len-count.result = search rules in
    record {
      filled = eq-eqb _ _ count;
      kept = is_table (schema_of c.args.schema) c.in_ok-weight.weight (map row_of c.args.rows.items) c.requires none weight c.if-weight-gt-MAX_TABLE_WEIGHT.false;
    }

pub returns-clause-weight : goal.returns-clause-weight
returns-clause-weight c =
    let weight = rw c.deref.ensures.value at c.in_ok-weight.ensures.weight in
    omega (arith, weight, c.if-weight-gt-MAX_TABLE_WEIGHT.false)

pub returns-clause-taken : goal.returns-clause-taken
returns-clause-taken c =
    let none = rw c.deref.ensures.value at c.in_ok-weight.ensures.taken in
    let weight = rw c.deref.ensures.value at c.in_ok-weight.ensures.weight in
    is_light (schema_of c.args.schema) c.in_ok-weight.weight (map row_of c.args.rows.items) none weight c.if-weight-gt-MAX_TABLE_WEIGHT.false
