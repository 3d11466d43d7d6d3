-- All the fields of a written schema: its columns in preorder, with the ids that their dictionaries get.
use Rattle.std.specs.Prelude.{sum_by}
use Rattle.std.proofs.Common.{◌≡◌, ℕ, ◌+◌, ◌≤◌, List, [], ◌∷◌, ◌++◌, refl, arith, sym, ap, ◌∙◌}
use Rattle.std.proofs.lemmas.List.{append-nil}
use Rattle.std.proofs.lemmas.List.Sums.{sum_by-cons, sum_by-append}
use Rattle.arrow_schema.specs.Column.{Kind, Column, Columns, nulls, booleans, integers, dates, timestamps, texts, large_texts, binaries, large_binaries, fixed_binaries, lists, large_lists, fixed_lists, structs, column, no_column, and_column}
use Rattle.arrow_schema.specs.Preorder.{depth, depth_below, depth_all, preorder, preorder_below, preorder_all}
use Rattle.ipc_message.specs.Raw.{RawField}
use Rattle.ipc_message.specs.Fields.{preorder as raw_preorder, preorder_all as raw_preorder_all, depth as raw_depth, depth_all as raw_depth_all}
use Rattle.ipc_write.specs.Trees.{ids_for, ids_of, ids_below, ids_of_all}
use Rattle.ipc_write.specs.Decoded.{raw_of, raw_below, raw_of_all}

-- one id for the dictionary of a column, its children left out
abbrev pub own_ids : Column → ℕ
own_ids (column name nullable kind dictionary pairs) = ids_for dictionary

-- columns with their ids, from this one on
abbrev pub numbered : ℕ → List Column → List RawField
numbered id [] = []
numbered id (c ∷ cs) = raw_of id c ∷ numbered (id + own_ids c) cs

numbered-append : (id : ℕ) (xs ys : List Column) → numbered id (xs ++ ys) ≡ numbered id xs ++ numbered (id + sum_by own_ids xs) ys
numbered-append id [] ys = ap (λ (n : ℕ). numbered n ys) (omega arith)
numbered-append id (x ∷ xs) ys =
    let e : id + own_ids x + sum_by own_ids xs ≡ id + sum_by own_ids (x ∷ xs) = omega (arith, sum_by-cons own_ids x xs) in
    ap (λ (fs : List RawField). raw_of id x ∷ fs) (numbered-append (id + own_ids x) xs ys ∙ ap (λ (n : ℕ). numbered (id + own_ids x) xs ++ numbered n ys) e)

mutual
  unfolding preorder preorder_below preorder_all

  ids_counted : (c : Column) → ids_of c ≡ sum_by own_ids (preorder c)
  ids_counted (column name nullable kind dictionary pairs) = omega (arith, sum_by-cons own_ids (column name nullable kind dictionary pairs) (preorder_below kind), ids_counted_below kind)

  ids_counted_below : (kind : Kind) → ids_below kind ≡ sum_by own_ids (preorder_below kind)
  ids_counted_below nulls = refl
  ids_counted_below booleans = refl
  ids_counted_below (integers bits signed) = refl
  ids_counted_below (dates unit) = refl
  ids_counted_below (timestamps unit timezone) = refl
  ids_counted_below texts = refl
  ids_counted_below large_texts = refl
  ids_counted_below binaries = refl
  ids_counted_below large_binaries = refl
  ids_counted_below (fixed_binaries width) = refl
  ids_counted_below (lists item) = ids_counted item
  ids_counted_below (large_lists item) = ids_counted item
  ids_counted_below (fixed_lists size item) = ids_counted item
  ids_counted_below (structs parts) = ids_counted_all parts

  ids_counted_all : (cs : Columns) → ids_of_all cs ≡ sum_by own_ids (preorder_all cs)
  ids_counted_all no_column = refl
  ids_counted_all (and_column c cs) = omega (arith, ids_counted c, ids_counted_all cs, sum_by-append own_ids (preorder c) (preorder_all cs))

mutual
  unfolding raw_of raw_below raw_of_all raw_preorder raw_preorder_all preorder preorder_below preorder_all

  field_numbered : (id : ℕ) (c : Column) → raw_preorder (raw_of id c) ≡ numbered id (preorder c)
  field_numbered id (column name nullable kind dictionary pairs) =
      ap (λ (fs : List RawField). raw_of id (column name nullable kind dictionary pairs) ∷ fs) (below_numbered (id + ids_for dictionary) kind)

  below_numbered : (id : ℕ) (kind : Kind) → raw_preorder_all (raw_below id kind) ≡ numbered id (preorder_below kind)
  below_numbered id nulls = refl
  below_numbered id booleans = refl
  below_numbered id (integers bits signed) = refl
  below_numbered id (dates unit) = refl
  below_numbered id (timestamps unit timezone) = refl
  below_numbered id texts = refl
  below_numbered id large_texts = refl
  below_numbered id binaries = refl
  below_numbered id large_binaries = refl
  below_numbered id (fixed_binaries width) = refl
  below_numbered id (lists item) = append-nil (raw_preorder (raw_of id item)) ∙ field_numbered id item
  below_numbered id (large_lists item) = append-nil (raw_preorder (raw_of id item)) ∙ field_numbered id item
  below_numbered id (fixed_lists size item) = append-nil (raw_preorder (raw_of id item)) ∙ field_numbered id item
  below_numbered id (structs parts) = fields_numbered id parts

  pub fields_numbered : (id : ℕ) (cs : Columns) → raw_preorder_all (raw_of_all id cs) ≡ numbered id (preorder_all cs)
  fields_numbered id no_column = refl
  fields_numbered id (and_column c cs) =
      ap (λ (fs : List RawField). fs ++ raw_preorder_all (raw_of_all (id + ids_of c) cs)) (field_numbered id c)
      ∙ ap (λ (fs : List RawField). numbered id (preorder c) ++ fs) (fields_numbered (id + ids_of c) cs ∙ ap (λ (n : ℕ). numbered (id + n) (preorder_all cs)) (ids_counted c))
      ∙ sym (numbered-append id (preorder c) (preorder_all cs))

mutual
  unfolding raw_of raw_below raw_of_all raw_depth raw_depth_all depth depth_below depth_all

  field_depth : (id : ℕ) (c : Column) → raw_depth (raw_of id c) ≤ depth c
  field_depth id (column name nullable kind dictionary pairs) = omega (arith, below_depth (id + ids_for dictionary) kind)

  below_depth : (id : ℕ) (kind : Kind) → raw_depth_all (raw_below id kind) ≤ depth_below kind
  below_depth id nulls = omega arith
  below_depth id booleans = omega arith
  below_depth id (integers bits signed) = omega arith
  below_depth id (dates unit) = omega arith
  below_depth id (timestamps unit timezone) = omega arith
  below_depth id texts = omega arith
  below_depth id large_texts = omega arith
  below_depth id binaries = omega arith
  below_depth id large_binaries = omega arith
  below_depth id (fixed_binaries width) = omega arith
  below_depth id (lists item) = omega (arith, field_depth id item)
  below_depth id (large_lists item) = omega (arith, field_depth id item)
  below_depth id (fixed_lists size item) = omega (arith, field_depth id item)
  below_depth id (structs parts) = fields_depth id parts

  pub fields_depth : (id : ℕ) (cs : Columns) → raw_depth_all (raw_of_all id cs) ≤ depth_all cs
  fields_depth id no_column = omega arith
  fields_depth id (and_column c cs) = omega (arith, field_depth id c, fields_depth (id + ids_of c) cs)
