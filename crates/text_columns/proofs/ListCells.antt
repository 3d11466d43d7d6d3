-- Lists that come after the cells of a column, by the items that a reader is at.
use Rattle.text_columns.specs.declared.builder.Names.{Names}
use Rattle.std.specs.Prelude.{Option, Some, None, Ok, Err, Result, IfOk, IfSome}
use Rattle.std.specs.Global.{Vec}
use Rattle.std.specs.List.{flat_map}
use Rattle.std.proofs.Common.{◌≡◌, ℕ, ◌+◌, ◌-◌, ◌≤◌, ◌<◌, ◌==◌, Bool, true, List, [], ◌∷◌, ◌++◌, length, refl, arith, ap, sym, subst, ◌∙◌, append_assoc, append-nil, length-append, map}
use Rattle.std.proofs.lemmas.Bool.{eq-eqb}
use Rattle.arrow_schema.specs.laws.Columns.{columns_list}
use Rattle.facts.specs.laws.Lists.{flat_map-push}
use Rattle.json.specs.Token.{Token}
use Rattle.json.specs.Token as tokens
use Rattle.json.specs.Json.{after_end_array, items as token_items, members, parse_map, value}
use Rattle.json.proofs.Grammar.{items_end, value-begin_array, value-begin_object}
use Rattle.serde_json.specs.Data.{Data, Items, array, object, no_items}
use Rattle.serde_json.specs.Data as json
use Rattle.serde_json.specs.Read.{converted, of_items, of_json}
use Rattle.arrow_schema.specs.Column.{Column, Columns, columns_of, Index, Kind, lists, large_lists, fixed_lists, structs, column, list_of}
use Rattle.cells.specs.Cell.{Cell, items, cells_of, parts}
use Rattle.cells.specs.Dictionary.{item_list, part_list}
use Rattle.cells.specs.Nulls.{is_there}
use Rattle.cells.specs.Weight.{kind_weight, parts_weight, sum_of, weight as cell_weight}
use Rattle.cells.specs.laws.Cells.{cells_listed}
use Rattle.columns.specs.Built.{fixed_items}
use Rattle.columns.specs.declared.numbers.OffsetWidth.{OffsetWidth}
use Rattle.text_import.specs.Objects.{cell_in, cells_in, each_item, item_count, kind_in, names_of, null_or_in, repeats}
use Rattle.text_import.specs.declared.refusal.Refusal.{Refusal}
use Rattle.text_import.specs.Refusals.{given}
use Rattle.text_import.proofs.RowLemmas.{cells_behind, cells_behind_end, cells_behind_more}
use Rattle.text_columns.specs.declared.builder.ColumnBuilder.{ColumnBuilder, List', FixedList', Struct}
use Rattle.text_columns.specs.declared.builder.ListOffsets.{ListOffsets}
use Rattle.text_columns.specs.declared.builder.Slots.{Slots}
use Rattle.text_columns.specs.declared.next.ItemsTaken.{ItemsTaken}
use Rattle.text_columns.specs.inner.Kept.{HoldsLists, KeepAll, Keeps, KeepsAt, KeepsBelow, key_list, KeepsSlots, PushesEnd, PushesThere}
use Rattle.text_columns.specs.inner.Lines.{EndsFixedList, EndsList, EndsStruct, HasItems, KeepsArray, KeepsFields, KeepsItems, KeepsListItems, KeepsObject, KeepsRow, KeepsNext, KeepsNull, KeepsToken, KeepsValue}
use Rattle.text_columns.proofs.ItemRows.{array_read, item_read, items_row, prepend, prepend_count, prepend_more, prepended_more, prepended_none}
use Rattle.text_columns.proofs.LineRows.{none_behind, token_read}
use Rattle.text_columns.proofs.MemberGrammar.{object_read, value_shorter, value_there}
use Rattle.text_columns.proofs.Nulls.{offsets_pushed}
use Rattle.text_columns.proofs.StructFields.{fields_hold, fields_kept, held_by, holds_so, no_struct_fixed_list, no_struct_list, parts_more}
use Rattle.text_columns.proofs.Taken.{one_mapped}
use Rattle.text_columns.proofs.TokenCells.{null_token}
use Rattle.civil_days.specs.declared.date_form.DateForm.{DateForm}

-- ---- the items of an array, one after another

-- some items have come after the cells of a column; the weight is that of their list
pub record ItemsHalf (date_form : DateForm) (c : Column) (found : List Data) (so : List Cell) (weight : ℕ) (b : ColumnBuilder) : Type 0 where
  pub kept : List Cell
  pub len : length kept ≡ length found
  pub read : (more : Items) → cells_behind kept (each_item (cell_in date_form c) more) ≡ each_item (cell_in date_form c) (prepend found more)
  pub weighs : 1 + sum_of (cell_weight c) (cells_of kept) ≡ weight
  pub keeps : Keeps c (so ++ kept) b

sum_more : (f : Cell → ℕ) (cells : List Cell) (x : Cell) → sum_of f (cells_of (cells ++ x ∷ [])) ≡ sum_of f (cells_of cells) + f x
sum_more f [] x = omega arith
sum_more f (c ∷ cells) x = let e = sum_more f cells x in omega (arith, e)

item_behind : (f : Data → _) (so : List Cell) (d : Data) (ds : Items) (x : Cell) → f d ≡ Ok x → cells_behind so (each_item f (json.item d ds)) ≡ cells_behind (so ++ x ∷ []) (each_item f ds)
item_behind f so d ds x e = rw e (cells_behind_more so x (each_item f ds))

items_half_none : (date_form : DateForm) (c : Column) (so : List Cell) (b : ColumnBuilder) → Keeps c so b → ItemsHalf date_form c [] so 1 b
items_half_none date_form c so b k = record { kept = []; len = refl; read = λ more. none_behind (each_item (cell_in date_form c) more); weighs = refl; keeps = subst (λ (xs : List Cell). Keeps c xs b) (sym (append-nil so)) k }

items_half_more : (date_form : DateForm) (c : Column) (found : List Data) (so : List Cell) (weight more : ℕ) (d : Data) (b b2 : ColumnBuilder) → KeepsValue date_form d more b b2 → ItemsHalf date_form c found so weight b
    → ItemsHalf date_form c (found ++ d ∷ []) so (weight + more) b2
items_half_more date_form c found so weight more d b b2 keeps h =
    let v = keeps c (so ++ h.kept) h.keeps in
    let weighed = sum_more (cell_weight c) h.kept v.kept in
    record {
      kept = h.kept ++ v.kept ∷ [];
      len = length-append h.kept (v.kept ∷ []) ∙ ap (λ (n : ℕ). n + 1) h.len ∙ sym (length-append found (d ∷ []));
      read = λ ds. sym (item_behind (cell_in date_form c) h.kept d ds v.kept v.read) ∙ h.read (json.item d ds) ∙ ap (each_item (cell_in date_form c)) (prepend_more found d ds);
      weighs = omega (arith, weighed, h.weighs, v.weighs);
      keeps = subst (λ (xs : List Cell). Keeps c xs b2) (append_assoc so h.kept (v.kept ∷ [])) v.keeps;
    }

-- some items were read, and the others follow
pub record ListRead (date_form : DateForm) (depth : ℕ) (all left : List Token) (count weight : ℕ) (b0 b : ColumnBuilder) : Type 0 where
  pub found : List Data
  pub turns : ℕ
  pub enough : length left ≤ turns
  pub many : length found ≡ count
  pub read : converted of_items (token_items (value depth) (length all) all) ≡ parse_map (prepend found) (converted of_items (token_items (value depth) turns left))
  pub each : (c : Column) (so : List Cell) → Keeps c so b0 → ItemsHalf date_form c found so weight b

pub list_none : (date_form : DateForm) (depth : ℕ) (all : List Token) (b : ColumnBuilder) → ListRead date_form depth all all 0 1 b b
list_none date_form depth all b = record {
  found = [];
  turns = length all;
  enough = omega arith;
  many = refl;
  read = prepended_none (converted of_items (token_items (value depth) (length all) all));
  each = λ c so k. items_half_none date_form c so b k;
}

pub list_pushed : (date_form : DateForm) (depth : ℕ) (all left new : List Token) (count weight more : ℕ) (b0 b b2 : ColumnBuilder) → KeepsNext date_form depth left new more b b2 → ListRead date_form depth all left count weight b0 b
    → ListRead date_form depth all new (count + 1) (weight + more) b0 b2
list_pushed date_form depth all left new count weight more b0 b b2 keeps m =
    let d = keeps.data_is in
    let longer = value_shorter depth left new d keeps.read in
    let some : 0 < m.turns = omega (arith, longer, m.enough) in
    let none : after_end_array left ≡ None = value_there depth left new d keeps.read in
    record {
      found = m.found ++ d ∷ [];
      turns = m.turns - 1;
      enough = omega (arith, longer, m.enough);
      many = length-append m.found (d ∷ []) ∙ ap (λ (n : ℕ). n + 1) m.many;
      read = m.read ∙ ap (parse_map (prepend m.found)) (item_read (value depth) m.turns left new d some none keeps.read) ∙ prepended_more m.found d (converted of_items (token_items (value depth) (m.turns - 1) new));
      each = λ c so k. items_half_more date_form c m.found so weight more d b b2 keeps.keeps (m.each c so k);
    }

items_half_all : (date_form : DateForm) (c : Column) (found : List Data) (so : List Cell) (weight : ℕ) (b : ColumnBuilder) → ItemsHalf date_form c found so weight b → HasItems date_form c (prepend found no_items) weight so b
items_half_all date_form c found so weight b h = record {
  kept = h.kept;
  many = h.len ∙ sym (prepend_count found);
  read = sym (h.read no_items) ∙ cells_behind_end h.kept;
  weighs = h.weighs;
  keeps = h.keeps;
}

pub list_all_read : (date_form : DateForm) (depth : ℕ) (all left new : List Token) (taken : ItemsTaken) (b0 b : ColumnBuilder) → after_end_array left ≡ Some new → ListRead date_form depth all left taken.count taken.weight b0 b
    → KeepsListItems date_form depth all new taken b0 b
list_all_read date_form depth all left new taken b0 b ends m =
    let over : converted of_items (token_items (value depth) m.turns left) ≡ Some (no_items, new) = ap (converted of_items) (items_end (value depth) m.turns left new m.enough ends) in
    record {
      found = prepend m.found no_items;
      read = m.read ∙ ap (parse_map (prepend m.found)) over;
      count = prepend_count m.found ∙ m.many;
      keeps = λ c so k. items_half_all date_form c m.found so taken.weight b (m.each c so k);
    }

-- ---- the list of such items

slots_behind : (nullable : Bool) (dictionary : Option Index) (kind : Kind) (so : List Cell) (x : Cell) (old new : Slots) → is_there x ≡ true → PushesThere old new
    → KeepsSlots nullable dictionary kind so old → KeepsSlots nullable dictionary kind (so ++ x ∷ []) new
slots_behind nullable dictionary kind so x old new there slot k = record {
  same = slot.nullable ∙ k.same;
  valid = one_mapped is_there so x old.valid.items new.valid.items k.valid (slot.valid ∙ ap (λ (b : Bool). old.valid.items ++ b ∷ []) (sym there));
  null_weighs = k.null_weighs ∙ sym slot.null_weight;
  plain = k.plain;
}

-- the list of a type that such an array is, and the buffers below it
record HasList (date_form : DateForm) (kind : Kind) (found : Items) (weight : ℕ) (so : List Cell) (new : ColumnBuilder) : Type 0 where
  pub kept : List Cell
  pub read : kind_in date_form kind (array found) ≡ Ok (items (cells_of kept))
  pub weighs : kind_weight kind (items (cells_of kept)) ≡ weight
  pub parts : KeepsBelow kind (so ++ items (cells_of kept) ∷ []) new

listed_more : (so kept : List Cell) → flat_map item_list so ++ kept ≡ flat_map item_list (so ++ items (cells_of kept) ∷ [])
listed_more so kept = ap (λ (xs : List Cell). flat_map item_list so ++ xs) (sym (cells_listed kept)) ∙ sym (flat_map-push item_list so (items (cells_of kept)))

fixed_listed_more : (size : ℕ) (so kept : List Cell) → flat_map (fixed_items size) so ++ kept ≡ flat_map (fixed_items size) (so ++ items (cells_of kept) ∷ [])
fixed_listed_more size so kept = ap (λ (xs : List Cell). flat_map (fixed_items size) so ++ xs) (sym (cells_listed kept)) ∙ sym (flat_map-push (fixed_items size) so (items (cells_of kept)))

lists_more : (date_form : DateForm) (width : OffsetWidth) (item : Column) (so : List Cell) (offsets offsets2 : ListOffsets) (old new : ColumnBuilder) (found : Items) (n weight : ℕ) (h : HasItems date_form item found weight (flat_map item_list so) new)
    → item_count found ≡ n → PushesEnd n offsets offsets2 → HoldsLists width item (Keeps item) so offsets old
    → HoldsLists width item (Keeps item) (so ++ items (cells_of h.kept) ∷ []) offsets2 new
lists_more date_form width item so offsets offsets2 old new found n weight h count p k = record {
  ends = offsets_pushed width so (items (cells_of h.kept)) n offsets offsets2 (ap length (cells_listed h.kept) ∙ h.many ∙ count) p k.ends;
  unlimited = k.unlimited;
  below = subst (λ (xs : List Cell). Keeps item xs new) (listed_more so h.kept) h.keeps;
}

list_kept : (date_form : DateForm) (kind : Kind) (depth : ℕ) (inside rest : List Token) (taken : ItemsTaken) (so : List Cell) (slots slots2 : Slots) (offsets offsets2 : ListOffsets) (p p2 : _) (old new : ColumnBuilder)
    → (list : KeepsListItems date_form depth inside rest taken old new) → PushesEnd taken.count offsets offsets2 → KeepsBelow kind so (List' slots offsets p old)
    → HasList date_form kind list.found taken.weight so (List' slots2 offsets2 p2 new)
unfolding kind_in kind_weight
list_kept date_form (lists item) depth inside rest taken so slots slots2 offsets offsets2 p p2 old new list pushed k =
    let h = list.keeps item (flat_map item_list so) k.below in
    record { kept = h.kept; read = ap (given items) h.read; weighs = h.weighs; parts = lists_more date_form _ item so offsets offsets2 old new list.found taken.count taken.weight h list.count pushed k }
list_kept date_form (large_lists item) depth inside rest taken so slots slots2 offsets offsets2 p p2 old new list pushed k =
    let h = list.keeps item (flat_map item_list so) k.below in
    record { kept = h.kept; read = ap (given items) h.read; weighs = h.weighs; parts = lists_more date_form _ item so offsets offsets2 old new list.found taken.count taken.weight h list.count pushed k }
list_kept date_form (structs columns) depth inside rest taken so slots slots2 offsets offsets2 p p2 old new list pushed k = absurd (no_struct_list columns (KeepsAt columns) so slots offsets p old k)
list_kept date_form _ depth inside rest taken so slots slots2 offsets offsets2 p p2 old new list pushed k = absurd k

fixed_list_kept : (date_form : DateForm) (kind : Kind) (depth : ℕ) (inside rest : List Token) (taken : ItemsTaken) (so : List Cell) (slots slots2 : Slots) (size : ℕ) (p p2 : _) (old new : ColumnBuilder)
    → (list : KeepsListItems date_form depth inside rest taken old new) → taken.count ≡ size → KeepsBelow kind so (FixedList' slots size p old) → HasList date_form kind list.found taken.weight so (FixedList' slots2 size p2 new)
unfolding kind_in kind_weight
fixed_list_kept date_form (fixed_lists width item) depth inside rest taken so slots slots2 size p p2 old new list many k =
    let h = list.keeps item (flat_map (fixed_items width) so) k.below in
    let count : (item_count list.found == width) ≡ true = eq-eqb _ _ (list.count ∙ many ∙ k.size_is) in
    record {
      kept = h.kept;
      read = rw count (ap (given items) h.read);
      weighs = h.weighs;
      parts = record {
        size_is = k.size_is;
        unlimited = k.unlimited;
        below = subst (λ (xs : List Cell). Keeps item xs new) (fixed_listed_more width so h.kept) h.keeps;
      };
    }
fixed_list_kept date_form (structs columns) depth inside rest taken so slots slots2 size p p2 old new list many k = absurd (no_struct_fixed_list columns (KeepsAt columns) so slots size p old k)
fixed_list_kept date_form _ depth inside rest taken so slots slots2 size p p2 old new list many k = absurd k

list_pushed_behind : (date_form : DateForm) (depth : ℕ) (inside rest : List Token) (taken : ItemsTaken) (slots slots2 : Slots) (offsets offsets2 : ListOffsets) (p p2 : _) (old new : ColumnBuilder)
    → KeepsListItems date_form depth inside rest taken old new → PushesEnd taken.count offsets offsets2 → PushesThere slots slots2 → KeepsArray date_form depth inside rest taken.weight (List' slots offsets p old) (List' slots2 offsets2 p2 new)
unfolding cell_in cell_weight
list_pushed_behind date_form depth inside rest taken slots slots2 offsets offsets2 p p2 old new list pushed slot = record {
  found = list.found;
  read = list.read;
  keeps = by;
}
  where
    by : KeepsValue date_form (array list.found) taken.weight (List' slots offsets p old) (List' slots2 offsets2 p2 new)
    by (column name nullable kind dictionary pairs) so k =
        let h = list_kept date_form kind depth inside rest taken so slots slots2 offsets offsets2 p p2 old new list pushed k.parts in
        record {
          kept = items (cells_of h.kept);
          read = h.read;
          weighs = h.weighs;
          keeps = record { slots = slots_behind nullable dictionary kind so (items (cells_of h.kept)) slots slots2 refl slot k.slots; parts = h.parts };
        }

fixed_list_pushed_behind : (date_form : DateForm) (depth : ℕ) (inside rest : List Token) (taken : ItemsTaken) (slots slots2 : Slots) (size : ℕ) (p p2 : _) (old new : ColumnBuilder)
    → KeepsListItems date_form depth inside rest taken old new → taken.count ≡ size → PushesThere slots slots2 → KeepsArray date_form depth inside rest taken.weight (FixedList' slots size p old) (FixedList' slots2 size p2 new)
unfolding cell_in cell_weight
fixed_list_pushed_behind date_form depth inside rest taken slots slots2 size p p2 old new list many slot = record {
  found = list.found;
  read = list.read;
  keeps = by;
}
  where
    by : KeepsValue date_form (array list.found) taken.weight (FixedList' slots size p old) (FixedList' slots2 size p2 new)
    by (column name nullable kind dictionary pairs) so k =
        let h = fixed_list_kept date_form kind depth inside rest taken so slots slots2 size p p2 old new list many k.parts in
        record {
          kept = items (cells_of h.kept);
          read = h.read;
          weighs = h.weighs;
          keeps = record { slots = slots_behind nullable dictionary kind so (items (cells_of h.kept)) slots slots2 refl slot k.slots; parts = h.parts };
        }

list_ended : (date_form : DateForm) (depth : ℕ) (inside rest : List Token) (taken : Option ItemsTaken) (weight : ℕ) (slots slots2 : Slots) (offsets offsets2 : ListOffsets) (p p2 : _) (old new : ColumnBuilder)
    → IfSome taken (λ t. KeepsListItems date_form depth inside rest t old new) → EndsList taken weight slots slots2 offsets offsets2
    → KeepsArray date_form depth inside rest weight (List' slots offsets p old) (List' slots2 offsets2 p2 new)
list_ended date_form depth inside rest taken weight slots slots2 offsets offsets2 p p2 old new h e =
    let list : KeepsListItems date_form depth inside rest e.own old new = rw e.is at h in
    rw (← e.weighs) (list_pushed_behind date_form depth inside rest e.own slots slots2 offsets offsets2 p p2 old new list e.ends e.slot)

pub list_step : {E : Type 0} (date_form : DateForm) (depth : ℕ) (inside rest : List Token) (taken : Option ItemsTaken) (slots slots2 : Slots) (offsets offsets2 : ListOffsets) (p p2 : _) (old new : ColumnBuilder) (r : Result (Option ℕ) E)
    → IfSome taken (λ t. KeepsListItems date_form depth inside rest t old new) → IfOk r (λ ended. IfSome ended (λ weight. EndsList taken weight slots slots2 offsets offsets2))
    → IfOk r (λ ended. IfSome ended (λ weight. KeepsArray date_form depth inside rest weight (List' slots offsets p old) (List' slots2 offsets2 p2 new)))
list_step date_form depth inside rest taken slots slots2 offsets offsets2 p p2 old new (Err e) h ends = tt
list_step date_form depth inside rest taken slots slots2 offsets offsets2 p p2 old new (Ok None) h ends = tt
list_step date_form depth inside rest taken slots slots2 offsets offsets2 p p2 old new (Ok (Some weight)) h ends = list_ended date_form depth inside rest taken weight slots slots2 offsets offsets2 p p2 old new h ends

fixed_list_ended : (date_form : DateForm) (depth : ℕ) (inside rest : List Token) (taken : Option ItemsTaken) (weight : ℕ) (slots slots2 : Slots) (size : ℕ) (p p2 : _) (old new : ColumnBuilder)
    → IfSome taken (λ t. KeepsListItems date_form depth inside rest t old new) → EndsFixedList taken size weight slots slots2
    → KeepsArray date_form depth inside rest weight (FixedList' slots size p old) (FixedList' slots2 size p2 new)
fixed_list_ended date_form depth inside rest taken weight slots slots2 size p p2 old new h e =
    let list : KeepsListItems date_form depth inside rest e.own old new = rw e.is at h in
    rw (← e.weighs) (fixed_list_pushed_behind date_form depth inside rest e.own slots slots2 size p p2 old new list e.many e.slot)

pub fixed_list_step : {E : Type 0} (date_form : DateForm) (depth : ℕ) (inside rest : List Token) (taken : Option ItemsTaken) (slots slots2 : Slots) (size : ℕ) (p p2 : _) (old new : ColumnBuilder) (r : Result (Option ℕ) E)
    → IfSome taken (λ t. KeepsListItems date_form depth inside rest t old new) → IfOk r (λ ended. IfSome ended (λ weight. EndsFixedList taken size weight slots slots2))
    → IfOk r (λ ended. IfSome ended (λ weight. KeepsArray date_form depth inside rest weight (FixedList' slots size p old) (FixedList' slots2 size p2 new)))
fixed_list_step date_form depth inside rest taken slots slots2 size p p2 old new (Err e) h ends = tt
fixed_list_step date_form depth inside rest taken slots slots2 size p p2 old new (Ok None) h ends = tt
fixed_list_step date_form depth inside rest taken slots slots2 size p p2 old new (Ok (Some weight)) h ends = fixed_list_ended date_form depth inside rest taken weight slots slots2 size p p2 old new h ends

-- ---- the struct of such cells

-- the struct of a type that a value is, and the buffers below it
record HasStruct (date_form : DateForm) (kind : Kind) (d : Data) (weight : ℕ) (so : List Cell) (new : ColumnBuilder) : Type 0 where
  pub kept : List Cell
  pub read : kind_in date_form kind d ≡ Ok (parts (cells_of kept))
  pub weighs : kind_weight kind (parts (cells_of kept)) ≡ weight
  pub below : KeepsBelow kind (so ++ parts (cells_of kept) ∷ []) new

-- an object or an array
record IsOpened (d : Data) : Type 0 where
  pub none : (nullable : Bool) (f : Data → Result Cell Refusal) → null_or_in nullable f d ≡ f d

struct_kept : (date_form : DateForm) (kind : Kind) (d : Data) (weight : ℕ) (so : List Cell) (slots slots2 : Slots) (names names2 : Names) (old new : Vec ColumnBuilder) → names2.names ≡ names.names
    → KeepsRow date_form (key_list names.names.keys) d weight old.items new.items → KeepsBelow kind so (Struct slots names old) → HasStruct date_form kind d weight so (Struct slots2 names2 new)
unfolding kind_in kind_weight
struct_kept date_form (structs columns) d weight so slots slots2 names names2 old new same row below =
    let k = held_by columns so slots names old below in
    let all : columns_of (list_of columns) ≡ columns = columns_list columns in
    let named : names_of (columns_of (list_of columns)) ≡ key_list names.names.keys = ap names_of all ∙ sym k.names_are in
    let h = row (list_of columns) (map part_list so) named (ap repeats k.names_are ∙ k.distinct) (fields_kept columns so (key_list names.names.keys) old.items k) in
    record {
      kept = h.row;
      read = ap (given parts) (subst (λ (cs : Columns). cells_in date_form cs d ≡ Ok (cells_of h.row)) all h.read);
      weighs = subst (λ (cs : Columns). 1 + parts_weight cs (cells_of h.row) ≡ weight) all h.weighs;
      below = holds_so columns (so ++ parts (cells_of h.row) ∷ []) slots2 names2 new
          (fields_hold columns (so ++ parts (cells_of h.row) ∷ []) (key_list names2.names.keys) new.items (ap (λ s. key_list s.keys) same ∙ k.names_are) k.distinct k.unlimited
          (subst (λ (rows : List (List Cell)). KeepAll (list_of columns) rows new.items) (parts_more so h.row) h.keeps));
    }
struct_kept date_form _ d weight so slots slots2 names names2 old new same row below = absurd below

struct_value : (date_form : DateForm) (d : Data) (weight : ℕ) (slots slots2 : Slots) (names names2 : Names) (old new : Vec ColumnBuilder) → IsOpened d → names2.names ≡ names.names → PushesThere slots slots2
    → KeepsRow date_form (key_list names.names.keys) d weight old.items new.items → KeepsValue date_form d weight (Struct slots names old) (Struct slots2 names2 new)
unfolding cell_in cell_weight
struct_value date_form d weight slots slots2 names names2 old new opened same slot row (column name nullable kind dictionary pairs) so k =
    let h = struct_kept date_form kind d weight so slots slots2 names names2 old new same row k.parts in
    record {
      kept = parts (cells_of h.kept);
      read = opened.none nullable (kind_in date_form kind) ∙ h.read;
      weighs = h.weighs;
      keeps = record { slots = slots_behind nullable dictionary kind so (parts (cells_of h.kept)) slots slots2 refl slot k.slots; parts = h.below };
    }

struct_items : (date_form : DateForm) (depth : ℕ) (inside rest : List Token) (taken : Option ℕ) (weight : ℕ) (slots slots2 : Slots) (names names2 : Names) (old new : Vec ColumnBuilder) → names2.names ≡ names.names
    → IfSome taken (λ w. KeepsItems date_form depth inside rest w old.items new.items) → EndsStruct taken weight slots slots2
    → KeepsArray date_form depth inside rest weight (Struct slots names old) (Struct slots2 names2 new)
struct_items date_form depth inside rest taken weight slots slots2 names names2 old new same h e =
    let k : KeepsItems date_form depth inside rest weight old.items new.items = rw e.is at h in
    record {
      found = k.found;
      read = k.read;
      keeps = struct_value date_form (array k.found) weight slots slots2 names names2 old new (record { none = λ nullable f. refl }) same e.slot
          (items_row date_form depth (key_list names.names.keys) inside rest weight old.items new.items k);
    }

pub struct_items_step : {E : Type 0} (date_form : DateForm) (depth : ℕ) (inside rest : List Token) (taken : Option ℕ) (slots slots2 : Slots) (names names2 : Names) (old new : Vec ColumnBuilder) (bs : List ColumnBuilder) (r : Result (Option ℕ) E)
    → names2.names ≡ names.names → new.items ≡ bs → IfSome taken (λ w. KeepsItems date_form depth inside rest w old.items bs) → IfOk r (λ ended. IfSome ended (λ weight. EndsStruct taken weight slots slots2))
    → IfOk r (λ ended. IfSome ended (λ weight. KeepsArray date_form depth inside rest weight (Struct slots names old) (Struct slots2 names2 new)))
struct_items_step date_form depth inside rest taken slots slots2 names names2 old new bs (Err e) same written h ends = tt
struct_items_step date_form depth inside rest taken slots slots2 names names2 old new bs (Ok None) same written h ends = tt
struct_items_step date_form depth inside rest taken slots slots2 names names2 old new bs (Ok (Some weight)) same written h ends =
    struct_items date_form depth inside rest taken weight slots slots2 names names2 old new same (rw written h) ends

struct_fields : (date_form : DateForm) (depth : ℕ) (inside rest : List Token) (taken : Option ℕ) (weight : ℕ) (slots slots2 : Slots) (names names2 : Names) (old new : Vec ColumnBuilder) → names2.names ≡ names.names
    → IfSome taken (λ w. KeepsFields date_form depth (key_list names.names.keys) inside rest w old.items new.items) → EndsStruct taken weight slots slots2
    → KeepsObject date_form depth inside rest weight (Struct slots names old) (Struct slots2 names2 new)
struct_fields date_form depth inside rest taken weight slots slots2 names names2 old new same h e =
    let k : KeepsFields date_form depth (key_list names.names.keys) inside rest weight old.items new.items = rw e.is at h in
    record {
      found = k.found;
      read = k.read;
      keeps = struct_value date_form (object k.found) weight slots slots2 names names2 old new (record { none = λ nullable f. refl }) same e.slot k.keeps;
    }

pub struct_fields_step : {E : Type 0} (date_form : DateForm) (depth : ℕ) (inside rest : List Token) (taken : Option ℕ) (slots slots2 : Slots) (names names2 : Names) (old new : Vec ColumnBuilder) (bs : List ColumnBuilder) (r : Result (Option ℕ) E)
    → names2.names ≡ names.names → new.items ≡ bs → IfSome taken (λ w. KeepsFields date_form depth (key_list names.names.keys) inside rest w old.items bs)
    → IfOk r (λ ended. IfSome ended (λ weight. EndsStruct taken weight slots slots2))
    → IfOk r (λ ended. IfSome ended (λ weight. KeepsObject date_form depth inside rest weight (Struct slots names old) (Struct slots2 names2 new)))
struct_fields_step date_form depth inside rest taken slots slots2 names names2 old new bs (Err e) same written h ends = tt
struct_fields_step date_form depth inside rest taken slots slots2 names names2 old new bs (Ok None) same written h ends = tt
struct_fields_step date_form depth inside rest taken slots slots2 names names2 old new bs (Ok (Some weight)) same written h ends =
    struct_fields date_form depth inside rest taken weight slots slots2 names names2 old new same (rw written h) ends

-- ---- the value that a reader stands at

token_next : (date_form : DateForm) (depth : ℕ) (t : Token) (old new : List Token) (weight : ℕ) (b b2 : ColumnBuilder) → old ≡ t ∷ new → KeepsToken date_form t weight b b2 → KeepsNext date_form depth old new weight b b2
token_next date_form depth t old new weight b b2 is k = record {
  data_is = k.data_is;
  read = ap (λ (ts : List Token). converted of_json (value depth ts)) is ∙ token_read depth t new k.data_is k.read;
  keeps = k.keeps;
}

pub token_next_step : {E : Type 0} (date_form : DateForm) (depth : ℕ) (t : Token) (old new : List Token) (b b2 : ColumnBuilder) (r : Result (Option ℕ) E) → old ≡ t ∷ new → IfOk r (λ taken. IfSome taken (λ weight. KeepsToken date_form t weight b b2))
    → IfOk r (λ taken. IfSome taken (λ weight. KeepsNext date_form depth old new weight b b2))
token_next_step date_form depth t old new b b2 (Err e) is h = tt
token_next_step date_form depth t old new b b2 (Ok None) is h = tt
token_next_step date_form depth t old new b b2 (Ok (Some weight)) is h = token_next date_form depth t old new weight b b2 is h

pub null_next_step : {E : Type 0} (date_form : DateForm) (depth : ℕ) (old new : List Token) (b b2 : ColumnBuilder) (r : Result (Option ℕ) E) → old ≡ tokens.null ∷ new → IfOk r (λ taken. IfSome taken (λ weight. KeepsNull weight b b2))
    → IfOk r (λ taken. IfSome taken (λ weight. KeepsNext date_form depth old new weight b b2))
null_next_step date_form depth old new b b2 (Err e) is h = tt
null_next_step date_form depth old new b b2 (Ok None) is h = tt
null_next_step date_form depth old new b b2 (Ok (Some weight)) is h = token_next date_form depth tokens.null old new weight b b2 is (null_token date_form weight b b2 h)

array_next : (date_form : DateForm) (depth : ℕ) (old inside new : List Token) (weight : ℕ) (b b2 : ColumnBuilder) → 0 < depth → old ≡ tokens.begin_array ∷ inside → KeepsArray date_form (depth - 1) inside new weight b b2
    → KeepsNext date_form depth old new weight b b2
array_next date_form depth old inside new weight b b2 some is k = record {
  data_is = array k.found;
  read = ap (λ (ts : List Token). converted of_json (value depth ts)) is
      ∙ ap (converted of_json) (value-begin_array depth inside some)
      ∙ array_read (token_items (value (depth - 1)) (length inside) inside)
      ∙ ap (parse_map array) k.read;
  keeps = k.keeps;
}

pub array_next_step : {E : Type 0} (date_form : DateForm) (depth below : ℕ) (old inside new : List Token) (b b2 : ColumnBuilder) (r : Result (Option ℕ) E) → 0 < depth → below ≡ depth - 1 → old ≡ tokens.begin_array ∷ inside
    → IfOk r (λ taken. IfSome taken (λ weight. KeepsArray date_form below inside new weight b b2)) → IfOk r (λ taken. IfSome taken (λ weight. KeepsNext date_form depth old new weight b b2))
array_next_step date_form depth below old inside new b b2 (Err e) some less is h = tt
array_next_step date_form depth below old inside new b b2 (Ok None) some less is h = tt
array_next_step date_form depth below old inside new b b2 (Ok (Some weight)) some less is h = array_next date_form depth old inside new weight b b2 some is (rw less at h)

object_next : (date_form : DateForm) (depth : ℕ) (old inside new : List Token) (weight : ℕ) (b b2 : ColumnBuilder) → 0 < depth → old ≡ tokens.begin_object ∷ inside → KeepsObject date_form (depth - 1) inside new weight b b2
    → KeepsNext date_form depth old new weight b b2
object_next date_form depth old inside new weight b b2 some is k = record {
  data_is = object k.found;
  read = ap (λ (ts : List Token). converted of_json (value depth ts)) is
      ∙ ap (converted of_json) (value-begin_object depth inside some)
      ∙ object_read (members (value (depth - 1)) (length inside) inside)
      ∙ ap (parse_map object) k.read;
  keeps = k.keeps;
}

pub object_next_step : {E : Type 0} (date_form : DateForm) (depth below : ℕ) (old inside new : List Token) (b b2 : ColumnBuilder) (r : Result (Option ℕ) E) → 0 < depth → below ≡ depth - 1 → old ≡ tokens.begin_object ∷ inside
    → IfOk r (λ taken. IfSome taken (λ weight. KeepsObject date_form below inside new weight b b2)) → IfOk r (λ taken. IfSome taken (λ weight. KeepsNext date_form depth old new weight b b2))
object_next_step date_form depth below old inside new b b2 (Err e) some less is h = tt
object_next_step date_form depth below old inside new b b2 (Ok None) some less is h = tt
object_next_step date_form depth below old inside new b b2 (Ok (Some weight)) some less is h = object_next date_form depth old inside new weight b b2 some is (rw less at h)
