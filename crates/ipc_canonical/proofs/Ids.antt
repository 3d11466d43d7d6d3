-- A written schema counts its dictionaries in preorder.
use Rattle.std.specs.Prelude.{◌==◌, None, Some, flat_map, find}
use Rattle.std.specs.List.{range_with_len, AllByRecursion}
use Rattle.std.proofs.Common.{◌≡◌, ◌≤◌, ℕ, suc, ◌+◌, false, List, [], ◌∷◌, ◌++◌, length, map, append-nil, refl, ap, sym, arith, ◌∙◌}
use Rattle.std.proofs.lemmas.Bool.Decides.{Decides-eqb, nat_tests}
use Rattle.std.proofs.lemmas.List.{map-append}
use Rattle.std.proofs.lemmas.List.Concat.{flat_map-append}
use Rattle.facts.specs.laws.Lists.{range-append}
use Rattle.arrow_schema.specs.Column.{Kind, Column, Columns, lists, large_lists, fixed_lists, structs, column, no_column, and_column, columns_of, PlainSchema}
use Rattle.ipc_message.specs.Raw.{RawField, RawFields}
use Rattle.ipc_message.specs.Fields.{preorder, preorder_all, dictionary_of}
use Rattle.ipc_message.specs.laws.FieldLists.{fields_listed}
use Rattle.ipc_write.specs.Trees.{ids_of, ids_below, ids_of_all}
use Rattle.ipc_write.specs.Decoded.{raw_of, raw_below, raw_of_all, raw_schema}
use Rattle.arrays.specs.Dictionaries.{DictionaryColumn, own_dictionary_column, dictionary_columns, column_of_id, is_column_of}

abbrev ids_in : List RawField → List ℕ
ids_in fields = map (λ c. c.id) (flat_map (λ f. own_dictionary_column (dictionary_of f) f) fields)

ids-append : (fs gs : List RawField) → ids_in (fs ++ gs) ≡ ids_in fs ++ ids_in gs
ids-append fs gs =
    ap (map (λ (c : DictionaryColumn). c.id)) (flat_map-append (λ f. own_dictionary_column (dictionary_of f) f) fs gs)
    ∙ map-append (λ (c : DictionaryColumn). c.id) (flat_map (λ f. own_dictionary_column (dictionary_of f) f) fs) (flat_map (λ f. own_dictionary_column (dictionary_of f) f) gs)

mutual
  unfolding preorder preorder_all raw_of raw_below raw_of_all

  ids_at : (id : ℕ) (c : Column) → ids_in (preorder (raw_of id c)) ≡ range_with_len id (ids_of c)
  ids_at id (column name nullable kind None pairs) =
      let from : id + 0 ≡ id = omega arith in
      let count : ids_below kind ≡ 0 + ids_below kind = omega arith in
      ap (λ (n : ℕ). ids_in (preorder_all (raw_below n kind))) from ∙ ids_kind id kind ∙ ap (range_with_len id) count
  ids_at id (column name nullable kind (Some index) pairs) =
      let count : suc (ids_below kind) ≡ 1 + ids_below kind = omega arith in
      ap (λ (ns : List ℕ). id ∷ ns) (ids_kind (id + 1) kind) ∙ ap (range_with_len id) count

  ids_kind : (id : ℕ) (k : Kind) → ids_in (preorder_all (raw_below id k)) ≡ range_with_len id (ids_below k)
  ids_kind id (lists item) = ids-append (preorder (raw_of id item)) [] ∙ append-nil (ids_in (preorder (raw_of id item))) ∙ ids_at id item
  ids_kind id (large_lists item) = ids-append (preorder (raw_of id item)) [] ∙ append-nil (ids_in (preorder (raw_of id item))) ∙ ids_at id item
  ids_kind id (fixed_lists size item) = ids-append (preorder (raw_of id item)) [] ∙ append-nil (ids_in (preorder (raw_of id item))) ∙ ids_at id item
  ids_kind id (structs parts) = ids_all id parts
  ids_kind id _ = refl

  ids_all : (id : ℕ) (cs : Columns) → ids_in (preorder_all (raw_of_all id cs)) ≡ range_with_len id (ids_of_all cs)
  ids_all id no_column = refl
  ids_all id (and_column c cs) =
      ids-append (preorder (raw_of id c)) (preorder_all (raw_of_all (id + ids_of c) cs))
      ∙ (λ j. ids_at id c j ++ ids_all (id + ids_of c) cs j)
      ∙ sym (range-append id (ids_of c) (ids_of_all cs))

pub ids_of_schema : (s : PlainSchema) → map (λ c. c.id) (dictionary_columns (raw_schema s)) ≡ range_with_len 0 (ids_of_all (columns_of s.columns))
ids_of_schema s = ap (λ (fs : RawFields). ids_in (preorder_all fs)) (fields_listed (raw_of_all 0 (columns_of s.columns))) ∙ ids_all 0 (columns_of s.columns)

-- ---- each id leads to its own column

other : (m n : ℕ) → m + 1 ≤ n → (m == n) ≡ false
other m n h = grind (arith, nat_tests)

pub other_way : (m n : ℕ) → m + 1 ≤ n → (n == m) ≡ false
other_way m n h = grind (arith, nat_tests)

head_same : (m n : ℕ) (ms ns : List ℕ) → m ∷ ms ≡ n ∷ ns → (m ≡ n) × (ms ≡ ns)
head_same m n ms ns h = (cc, cc)

own_from : (all : List DictionaryColumn) (n : ℕ) (cs : List DictionaryColumn) → map (λ c. c.id) cs ≡ range_with_len n (length cs)
    → ((id : ℕ) → n ≤ id → find (is_column_of id) all ≡ find (is_column_of id) cs) → AllByRecursion (λ (c : DictionaryColumn). column_of_id c.id all ≡ Some c) cs
own_from all n [] ids same = tt
own_from all n (c ∷ cs) ids same =
    let parts = head_same c.id n (map (λ d. d.id) cs) (range_with_len (n + 1) (length cs)) ids in
    let here : find (is_column_of c.id) (c ∷ cs) ≡ Some c = rw ((Decides-eqb c.id c.id).1 refl) refl in
    let later : (id : ℕ) → n + 1 ≤ id → find (is_column_of id) (c ∷ cs) ≡ find (is_column_of id) cs = λ id h. rw (ap (λ (m : ℕ). m == id) parts.0 ∙ other n id h) refl in
    (same c.id (omega (arith, parts.0)) ∙ here, own_from all (n + 1) cs parts.1 (λ id h. same id (omega (arith, h)) ∙ later id h))

pub own : (columns : List DictionaryColumn) → map (λ c. c.id) columns ≡ range_with_len 0 (length columns)
    → AllByRecursion (λ (c : DictionaryColumn). column_of_id c.id columns ≡ Some c) columns
own columns ids = own_from columns 0 columns ids (λ id h. refl)
