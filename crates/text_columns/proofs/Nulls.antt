-- Nulls that come after the cells of a column, and what is below them.
use Rattle.std.specs.Prelude.{get_or, slice_get, Option, Result, OnOk, replicate, Some}
use Rattle.std.specs.Global.{Vec}
use Rattle.std.specs.List.{flat_map}
use Rattle.std.proofs.Common.{Bool, List, [], ap, append-nil, append_assoc, arith, false, inl, inr, length, length-append, map, refl, set, subst, suc, sym, true, zero, ℕ, ◌*◌, ◌++◌, ◌+◌, ◌<◌, ◌∙◌, ◌∷◌, ◌≡◌, ◌≤◌}
use Rattle.std.proofs.lemmas.List.{map-append, replicate-append-replicate, replicate_more, length-set}
use Rattle.std.proofs.lemmas.List.Concat.{flat_map-append}
use Rattle.facts.specs.laws.Lists.{flat_map-push}
use Rattle.arrow_schema.specs.Column.{Column, Index, Kind, lists, large_lists, fixed_lists, structs, column, list_of}
use Rattle.arrow_schema.specs.Parts.{is_nullable_column}
use Rattle.cells.specs.Cell.{Cell, null}
use Rattle.cells.specs.Dictionary.{item_list, part_list}
use Rattle.cells.specs.Nulls.{is_there}
use Rattle.cells.specs.Weight.{weight}
use Rattle.columns.specs.Built.{fixed_items}
use Rattle.columns.specs.Offsets.{width_of}
use Rattle.columns.specs.declared.numbers.OffsetWidth.{OffsetWidth}
use Rattle.text_columns.specs.declared.builder.ColumnBuilder.{ColumnBuilder, Flat, List', FixedList', Struct, Struct'}
use Rattle.text_columns.specs.declared.builder.Names.{Names}
use Rattle.text_columns.specs.declared.builder.ListOffsets.{ListOffsets}
use Rattle.text_columns.specs.declared.builder.Slots.{Slots}
use Rattle.text_columns.specs.declared.flat.FlatBuilder.{FlatBuilder}
use Rattle.text_columns.specs.inner.Kept.{AllAppendNulls, AppendsNulls, HoldsLists, Keeps, KeepsAt, column_at, key_list, KeepsBelow, KeepsOffsets, KeepsSlots, PushesEmpty, PushesEnd, TakesNullCell, is_nullable, null_weight_of}
use Rattle.text_columns.specs.inner.Lines.{KeepsNull}
use Rattle.text_columns.proofs.Coded.{own_kind}
use Rattle.std.proofs.lemmas.Bool.{cases_lt}
use Rattle.std.proofs.lemmas.Option.{slice_get_within, same_Some}
use Rattle.std.proofs.lemmas.Result.{on_ok_weaker}
use Rattle.text_columns.proofs.Rows.{at_other, at_set}
use Rattle.text_columns.proofs.StructFields.{at_list, held_by, holds_so, list_at, no_struct_fixed_list, no_struct_list, nulls_at, there_too}
use Rattle.text_columns.proofs.Taken.{null_weighs, offset_more}
use Rattle.text_columns.proofs.TokenCells.{null_behind}

-- ---- lists of nulls

-- one more after some
nulls_more : (so : List Cell) (n : ℕ) → (so ++ replicate n null) ++ null ∷ [] ≡ so ++ replicate (n + 1) null
nulls_more so n = append_assoc so (replicate n null) (null ∷ []) ∙ ap (λ (xs : List Cell). so ++ xs) (replicate_more n null)

no_nulls : (so : List Cell) → so ++ replicate 0 null ≡ so
no_nulls so = append-nil so

-- none of them is there
none_there : (n : ℕ) → map is_there (replicate n null) ≡ replicate n false
none_there zero = refl
none_there (suc n) = ap (λ (bs : List Bool). false ∷ bs) (none_there n)

-- they have no items
no_items : (n : ℕ) → flat_map item_list (replicate n null) ≡ []
no_items zero = refl
no_items (suc n) = no_items n

pub items_stay : (so : List Cell) (n : ℕ) → flat_map item_list (so ++ replicate n null) ≡ flat_map item_list so
items_stay so n = flat_map-append item_list so (replicate n null) ∙ ap (λ (xs : List Cell). flat_map item_list so ++ xs) (no_items n) ∙ append-nil (flat_map item_list so)

-- but if lists have a size, so many nulls
null_items : (size n : ℕ) → flat_map (fixed_items size) (replicate n null) ≡ replicate (n * size) null
null_items size zero = (let e : 0 ≡ 0 * size = omega arith in ap (λ (m : ℕ). replicate m null) e)
null_items size (suc n) =
    let e : size + n * size ≡ suc n * size = omega arith in
    ap (λ (xs : List Cell). replicate size null ++ xs) (null_items size n) ∙ replicate-append-replicate size (n * size) null ∙ ap (λ (m : ℕ). replicate m null) e

fixed_more : (size n : ℕ) (so : List Cell) → flat_map (fixed_items size) so ++ replicate (n * size) null ≡ flat_map (fixed_items size) (so ++ replicate n null)
fixed_more size n so = sym (flat_map-append (fixed_items size) so (replicate n null) ∙ ap (λ (xs : List Cell). flat_map (fixed_items size) so ++ xs) (null_items size n))

-- ---- slots and offsets

slots_behind : (nullable : Bool) (dictionary : Option Index) (kind : Kind) (so : List Cell) (n : ℕ) (old new : Slots) → new.nullable ≡ old.nullable → new.null_weight ≡ old.null_weight
    → new.valid.items ≡ old.valid.items ++ replicate n false → KeepsSlots nullable dictionary kind so old → KeepsSlots nullable dictionary kind (so ++ replicate n null) new
slots_behind nullable dictionary kind so n old new same weighs valid k = record {
  same = same ∙ k.same;
  valid = valid ∙ ap (λ (bs : List Bool). bs ++ replicate n false) k.valid ∙ ap (λ (bs : List Bool). map is_there so ++ bs) (sym (none_there n)) ∙ sym (map-append is_there so (replicate n null));
  null_weighs = k.null_weighs ∙ sym weighs;
  plain = k.plain;
}

pub offsets_pushed : (width : OffsetWidth) (so : List Cell) (c : Cell) (n : ℕ) (old new : ListOffsets) → length (item_list c) ≡ n → PushesEnd n old new → KeepsOffsets width so old
    → KeepsOffsets width (so ++ c ∷ []) new
offsets_pushed width so c n old new size p k =
    let many : old.count + n ≡ length (flat_map item_list so) + length (item_list c) = (λ j. k.count j + sym size j) in
    record {
      width_is = p.width ∙ k.width_is;
      ends = rw (k.ends, k.width_is, many) at p.offsets ∙ sym (offset_more item_list (width_of width) so c);
      count = p.count ∙ many ∙ sym (length-append (flat_map item_list so) (item_list c)) ∙ ap length (sym (flat_map-push item_list so c));
    }

pub empty_none : (o : ListOffsets) → PushesEmpty 0 o o
empty_none o width so k = subst (λ (xs : List Cell). KeepsOffsets width xs o) (sym (no_nulls so)) k

pub empty_more : (n : ℕ) (old mid new : ListOffsets) → PushesEmpty n old mid → PushesEnd 0 mid new → PushesEmpty (n + 1) old new
empty_more n old mid new before p width so k =
    subst (λ (xs : List Cell). KeepsOffsets width xs new) (nulls_more so n) (offsets_pushed width (so ++ replicate n null) null 0 mid new refl p (before width so k))

-- ---- columns

pub nulls_none : (b : ColumnBuilder) → AppendsNulls 0 b b
nulls_none b c so k = subst (λ (xs : List Cell). Keeps c xs b) (sym (no_nulls so)) k

pub flat_more : (n : ℕ) (b : ColumnBuilder) (old new : FlatBuilder) → AppendsNulls n b (Flat old) → new.nullable ≡ old.nullable → new.valid.items ≡ old.valid.items ++ false ∷ []
    → TakesNullCell old.values old.coding new.values new.coding → AppendsNulls (n + 1) b (Flat new)
flat_more n b old new before same valid takes c so k =
    subst (λ (xs : List Cell). Keeps c xs (Flat new)) (nulls_more so n) (null_behind old new same valid takes c (so ++ replicate n null) (before c so k))

lists_behind : (width : OffsetWidth) (item : Column) (so : List Cell) (n : ℕ) (offsets offsets2 : ListOffsets) (items : ColumnBuilder) → PushesEmpty n offsets offsets2
    → HoldsLists width item (Keeps item) so offsets items → HoldsLists width item (Keeps item) (so ++ replicate n null) offsets2 items
lists_behind width item so n offsets offsets2 items e k = record {
  ends = e width so k.ends;
  unlimited = k.unlimited;
  below = subst (λ (xs : List Cell). Keeps item xs items) (sym (items_stay so n)) k.below;
}

lists_below : (kind : Kind) (so : List Cell) (n : ℕ) (slots slots2 : Slots) (offsets offsets2 : ListOffsets) (p p2 : _) (items : ColumnBuilder) → PushesEmpty n offsets offsets2
    → KeepsBelow kind so (List' slots offsets p items) → KeepsBelow kind (so ++ replicate n null) (List' slots2 offsets2 p2 items)
lists_below (lists item) so n slots slots2 offsets offsets2 p p2 items e k = lists_behind _ item so n offsets offsets2 items e k
lists_below (large_lists item) so n slots slots2 offsets offsets2 p p2 items e k = lists_behind _ item so n offsets offsets2 items e k
lists_below (structs columns) so n slots slots2 offsets offsets2 p p2 items e k = absurd (no_struct_list columns (KeepsAt columns) so slots offsets p items k)
lists_below _ so n slots slots2 offsets offsets2 p p2 items e k = absurd k

pub list_nulls : (n : ℕ) (slots slots2 : Slots) (offsets offsets2 : ListOffsets) (p p2 : _) (items : ColumnBuilder) → slots2.nullable ≡ slots.nullable → slots2.null_weight ≡ slots.null_weight
    → slots2.valid.items ≡ slots.valid.items ++ replicate n false → PushesEmpty n offsets offsets2 → AppendsNulls n (List' slots offsets p items) (List' slots2 offsets2 p2 items)
list_nulls n slots slots2 offsets offsets2 p p2 items same weighs valid e (column name nullable kind dictionary pairs) so k = record {
  slots = slots_behind nullable dictionary kind so n slots slots2 same weighs valid k.slots;
  parts = lists_below kind so n slots slots2 offsets offsets2 p p2 items e k.parts;
}

fixed_below : (kind : Kind) (so : List Cell) (n below : ℕ) (slots slots2 : Slots) (size : ℕ) (p p2 : _) (items items2 : ColumnBuilder) → below ≡ n * size → AppendsNulls below items items2
    → KeepsBelow kind so (FixedList' slots size p items) → KeepsBelow kind (so ++ replicate n null) (FixedList' slots2 size p2 items2)
fixed_below (fixed_lists width item) so n below slots slots2 size p p2 items items2 many a k =
    let all : below ≡ n * width = many ∙ ap (λ (m : ℕ). n * m) k.size_is in
    record {
      size_is = k.size_is;
      unlimited = k.unlimited;
      below = subst (λ (xs : List Cell). Keeps item xs items2) (ap (λ (m : ℕ). flat_map (fixed_items width) so ++ replicate m null) all ∙ fixed_more width n so)
          (a item (flat_map (fixed_items width) so) k.below);
    }
fixed_below (structs columns) so n below slots slots2 size p p2 items items2 many a k = absurd (no_struct_fixed_list columns (KeepsAt columns) so slots size p items k)
fixed_below _ so n below slots slots2 size p p2 items items2 many a k = absurd k

pub fixed_list_nulls : (n below : ℕ) (slots slots2 : Slots) (size : ℕ) (p p2 : _) (items items2 : ColumnBuilder) → slots2.nullable ≡ slots.nullable → slots2.null_weight ≡ slots.null_weight
    → slots2.valid.items ≡ slots.valid.items ++ replicate n false → below ≡ n * size → AppendsNulls below items items2 → AppendsNulls n (FixedList' slots size p items) (FixedList' slots2 size p2 items2)
fixed_list_nulls n below slots slots2 size p p2 items items2 same weighs valid many a (column name nullable kind dictionary pairs) so k = record {
  slots = slots_behind nullable dictionary kind so n slots slots2 same weighs valid k.slots;
  parts = fixed_below kind so n below slots slots2 size p p2 items items2 many a k.parts;
}

structs_below : (kind : Kind) (so : List Cell) (n : ℕ) (slots slots2 : Slots) (names names2 : Names) (fields fields2 : Vec ColumnBuilder) → names2.names ≡ names.names
    → AllAppendNulls n fields.items fields2.items → KeepsBelow kind so (Struct slots names fields) → KeepsBelow kind (so ++ replicate n null) (Struct slots2 names2 fields2)
structs_below (structs columns) so n slots slots2 names names2 fields fields2 same a h =
    let k = held_by columns so slots names fields h in
    holds_so columns (so ++ replicate n null) slots2 names2 fields2 (record {
      names_are = ap (λ s. key_list s.keys) same ∙ k.names_are;
      distinct = k.distinct;
      unlimited = k.unlimited;
      count = a.same ∙ k.count;
      each = λ j b2 db2.
          let (b, db) = there_too fields2.items fields.items j b2 (sym a.same) db2 in
          let (c, dc) = there_too fields.items (list_of columns) j b (sym k.count) db in
          let own = a.each j b b2 db db2 c (column_at j (map part_list so)) (at_list columns j c (column_at j (map part_list so)) b dc (k.each j b db)) in
          list_at columns j c (column_at j (map part_list (so ++ replicate n null))) b2 dc (subst (λ (xs : List Cell). Keeps c xs b2) (nulls_at j n so) own);
    })
structs_below _ so n slots slots2 names names2 fields fields2 same a h = absurd h

pub struct_nulls : (n : ℕ) (slots slots2 : Slots) (names names2 : Names) (fields fields2 : Vec ColumnBuilder) → slots2.nullable ≡ slots.nullable → slots2.null_weight ≡ slots.null_weight
    → slots2.valid.items ≡ slots.valid.items ++ replicate n false → names2.names ≡ names.names → AllAppendNulls n fields.items fields2.items
    → AppendsNulls n (Struct slots names fields) (Struct slots2 names2 fields2)
struct_nulls n slots slots2 names names2 fields fields2 same weighs valid named a (column name nullable kind dictionary pairs) so k = record {
  slots = slots_behind nullable dictionary kind so n slots slots2 same weighs valid k.slots;
  parts = structs_below kind so n slots slots2 names names2 fields fields2 named a k.parts;
}

-- ---- one null, if nulls are allowed

is_nullable_of : (c : Column) (so : List Cell) (b : ColumnBuilder) → Keeps c so b → is_nullable_column c ≡ is_nullable b
is_nullable_of (column name nullable kind dictionary pairs) so (Flat b) k = sym k.0
is_nullable_of (column name nullable kind dictionary pairs) so (List' slots offsets p items) k = sym k.slots.same
is_nullable_of (column name nullable kind dictionary pairs) so (FixedList' slots size p items) k = sym k.slots.same
is_nullable_of (column name nullable kind dictionary pairs) so (Struct' slots names v row) k = sym k.slots.same

pub null_weight_is : (c : Column) (so : List Cell) (b : ColumnBuilder) → Keeps c so b → weight c null ≡ null_weight_of b
unfolding weight
null_weight_is (column name nullable kind dictionary pairs) so (Flat b) k = null_weighs kind b.values (own_kind dictionary kind so b.values b.coding k.2)
null_weight_is (column name nullable kind dictionary pairs) so (List' slots offsets p items) k = k.slots.null_weighs
null_weight_is (column name nullable kind dictionary pairs) so (FixedList' slots size p items) k = k.slots.null_weighs
null_weight_is (column name nullable kind dictionary pairs) so (Struct' slots names v row) k = k.slots.null_weighs

pub null_pushed : (old new : ColumnBuilder) → is_nullable old ≡ true → AppendsNulls 1 old new → KeepsNull (null_weight_of old) old new
null_pushed old new is a c so k = (is_nullable_of c so old k ∙ is, null_weight_is c so old k, a c so k)

-- ---- what a call tells, if it appended them

pub list_nulls_step : {A E : Type 0} (r : Result A E) (n : ℕ) (slots slots2 : Slots) (offsets offsets2 : ListOffsets) (p p2 : _) (items : ColumnBuilder) → slots2.nullable ≡ slots.nullable
    → slots2.null_weight ≡ slots.null_weight → slots2.valid.items ≡ slots.valid.items ++ replicate n false → OnOk r (PushesEmpty n offsets offsets2)
    → OnOk r (AppendsNulls n (List' slots offsets p items) (List' slots2 offsets2 p2 items))
list_nulls_step r n slots slots2 offsets offsets2 p p2 items same weighs valid h = on_ok_weaker r (λ e. list_nulls n slots slots2 offsets offsets2 p p2 items same weighs valid e) h

pub fixed_list_nulls_step : {A E : Type 0} (r : Result A E) (n below : ℕ) (slots slots2 : Slots) (size : ℕ) (p p2 : _) (items items2 : ColumnBuilder) → slots2.nullable ≡ slots.nullable
    → slots2.null_weight ≡ slots.null_weight → slots2.valid.items ≡ slots.valid.items ++ replicate n false → below ≡ n * size → OnOk r (AppendsNulls below items items2)
    → OnOk r (AppendsNulls n (FixedList' slots size p items) (FixedList' slots2 size p2 items2))
fixed_list_nulls_step r n below slots slots2 size p p2 items items2 same weighs valid many h = on_ok_weaker r (λ a. fixed_list_nulls n below slots slots2 size p p2 items items2 same weighs valid many a) h

pub struct_nulls_step : {A E : Type 0} (r : Result A E) (n : ℕ) (slots slots2 : Slots) (names names2 : Names) (fields fields2 : Vec ColumnBuilder) (new : List ColumnBuilder) → slots2.nullable ≡ slots.nullable
    → slots2.null_weight ≡ slots.null_weight → slots2.valid.items ≡ slots.valid.items ++ replicate n false → names2.names ≡ names.names → fields2.items ≡ new → OnOk r (AllAppendNulls n fields.items new)
    → OnOk r (AppendsNulls n (Struct slots names fields) (Struct slots2 names2 fields2))
struct_nulls_step r n slots slots2 names names2 fields fields2 new same weighs valid named written h =
    on_ok_weaker r (λ a. struct_nulls n slots slots2 names names2 fields fields2 same weighs valid named (subst (λ (bs : List ColumnBuilder). AllAppendNulls n fields.items bs) (sym written) a)) h

-- ---- nulls of each column, one after another

-- the first columns have them, and the others are as they were
pub record NullsHalf (count i : ℕ) (old bs : List ColumnBuilder) : Type 0 where
  pub same : length bs ≡ length old
  pub done : (j : ℕ) (b b2 : ColumnBuilder) → j < i → slice_get old j ≡ Some b → slice_get bs j ≡ Some b2 → AppendsNulls count b b2
  pub rest : (j : ℕ) (b b2 : ColumnBuilder) → i ≤ j → slice_get old j ≡ Some b → slice_get bs j ≡ Some b2 → b ≡ b2

pub nulls_half_none : (count : ℕ) (bs : List ColumnBuilder) → NullsHalf count 0 bs bs
nulls_half_none count bs = record { same = refl; done = λ j b b2 lt. absurd (omega arith); rest = λ j b b2 le db db2. same_Some _ _ (sym db ∙ db2) }

pub nulls_half_more : (count i : ℕ) (old bs : List ColumnBuilder) (b new : ColumnBuilder) → slice_get bs i ≡ Some b → AppendsNulls count b new → NullsHalf count i old bs → NullsHalf count (i + 1) old (set bs i new)
nulls_half_more count i old bs b new here a h =
    let within : i < length bs = slice_get_within bs i b here in
    record {
      same = length-set bs i new ∙ h.same;
      done = λ j x y lt dx dy. elim (cases_lt j i) [
        | inl before ↦ h.done j x y before dx (sym (at_other bs i j new (λ e. omega arith)) ∙ dy)
        | inr after ↦
            let at : j ≡ i = omega arith in
            let is_new : new ≡ y = same_Some _ _ (sym (at_set bs i new within) ∙ subst (λ (n : ℕ). slice_get (set bs i new) n ≡ Some y) at dy) in
            let is_old : x ≡ b = h.rest i x b (omega arith) (subst (λ (n : ℕ). slice_get old n ≡ Some x) at dx) here in
            rw (is_old, ← is_new) a
      ];
      rest = λ j x y le dx dy. h.rest j x y (omega (arith, le)) dx (sym (at_other bs i j new (λ e. omega arith)) ∙ dy);
    }

pub nulls_half_all : (count i : ℕ) (old bs : List ColumnBuilder) → length old ≤ i → NullsHalf count i old bs → AllAppendNulls count old bs
nulls_half_all count i old bs le h = record {
  same = h.same;
  each = λ j b b2 db db2. (let lt = slice_get_within old j b db in h.done j b b2 (omega (arith, lt, le)) db db2);
}

get_other : (bs : List ColumnBuilder) (i k : ℕ) (new d : ColumnBuilder) → i < k → get_or (set bs i new) k d ≡ get_or bs k d
get_other [] i k new d lt = refl
get_other (b ∷ bs) zero zero new d lt = absurd (omega arith)
get_other (b ∷ bs) zero (suc k) new d lt = refl
get_other (b ∷ bs) (suc i) zero new d lt = absurd (omega arith)
get_other (b ∷ bs) (suc i) (suc k) new d lt = get_other bs i k new d (omega arith)

-- columns that were not visited yet stay
pub unvisited_set : (old bs : List ColumnBuilder) (i : ℕ) (new : ColumnBuilder) → (length bs ≡ length old) × ((k : ℕ) (d : ColumnBuilder) → i ≤ k → get_or bs k d ≡ get_or old k d)
    → (length (set bs i new) ≡ length old) × ((k : ℕ) (d : ColumnBuilder) → i + 1 ≤ k → get_or (set bs i new) k d ≡ get_or old k d)
unvisited_set old bs i new h = (length-set bs i new ∙ h.0, λ k d le. get_other bs i k new d (omega (arith, le)) ∙ h.1 k d (omega (arith, le)))
