-- Buffers that come after other bytes, and the arrays that they are.
use Rattle.std.specs.Prelude.{◌&&◌, ◌⊎◌, Err, IfOk, Ok, Result, Some, nat_le, take}
use Rattle.std.specs.Global.{Box, Vec}
use Rattle.std.specs.List.{list_all}
use Rattle.std.proofs.Common.{◌≡◌, ℕ, zero, suc, ◌+◌, ◌≤◌, Bool, true, List, [], ◌∷◌, ◌++◌, length, map, refl, arith, ap, sym, subst, ◌∙◌, inl, inr, append_assoc, append-nil, length-append}
use Rattle.std.proofs.lemmas.Bool.{and_from, and_parts, le-leb, leb-true}
use Rattle.std.proofs.lemmas.List.{map-append}
use Rattle.std.proofs.lemmas.List.Folds.{list_all-append}
use Rattle.std.proofs.lemmas.Option.{slice_get_within}
use Rattle.bitmap.specs.Bits.{packed}
use Rattle.columns.specs.Array.{Array, Layout, array, arrays_of, null_layout, bit_layout, fixed_layout, binary_layout, list_layout, fixed_list_layout, struct_layout, dictionary_layout}
use Rattle.columns.specs.Places.{within}
use Rattle.columns.specs.View.{array_in, array_step, arrays_in, arrays_numbered, layout_step, no_dictionary}
use Rattle.columns.specs.Within.{array_within, ends_within, is_placed_within, is_within_by, layout_within, stands_within}
use Rattle.columns.specs.declared.array.Dictionary.{Dictionary}
use Rattle.columns.specs.declared.array.DictionaryPart.{DictionaryPart}
use Rattle.columns.specs.declared.array.PlacedArray.{PlacedArray, roll-PlacedArray}
use Rattle.columns.specs.declared.array.PlacedLayout.{PlacedLayout}
use Rattle.columns.specs.declared.array.PlacedLayout.TheFolds.{fold-roll-PlacedLayout, fold-roll-PlacedArray}
use Rattle.columns.specs.declared.array.PlacedLayout.TheOpen as placed
use Rattle.columns.specs.declared.array.PlacedLayout.TheVariants as layouts
use Rattle.columns.specs.declared.span.Span.{Span}
use Rattle.columns.specs.laws.Grown.{array_grown}
use Rattle.columns.specs.laws.Longer.{within_more}
use Rattle.text_columns.specs.declared.coding.Coding.{Coding}
use Rattle.text_columns.specs.declared.column_values.ColumnValues.{ColumnValues}
use Rattle.text_columns.specs.declared.column_values.ColumnValues.TheVariants.{Nulls, Booleans, Integers, Texts, Binaries, FixedBinaries}
use Rattle.text_columns.specs.declared.builder.ColumnBuilder.{ColumnBuilder, Flat, List', FixedList', Struct}
use Rattle.text_columns.specs.declared.builder.Names.{Names}
use Rattle.text_columns.specs.declared.builder.ListOffsets.{ListOffsets}
use Rattle.text_columns.specs.declared.builder.Slots.{Slots}
use Rattle.text_columns.specs.declared.flat.FlatBuilder.{FlatBuilder}
use Rattle.text_columns.proofs.BuiltArrays.{all_built, fixed_list_column, flat_built, list_column, struct_column}
use Rattle.text_columns.proofs.Rows.{last_or_before}
use Rattle.text_columns.specs.inner.Placed.{AreBuilt, AreEntriesPlaced, ArePlaced, ArePlacedBehind, IsAppended, IsBuilt, IsLaid, IsPlaced, IsPlacedAs, column_layout, entries_array, has_validity, is_layout_within, layout_by, layout_of, validity_in, validity_of_bits}

-- ---- buffers

-- if nothing comes after it
stands_last : (old buffer new : List ℕ) (span : Span) → IsAppended old buffer new span → within new span ≡ buffer
stands_last old buffer new span a = ap (λ (xs : List ℕ). within xs span) (sym (append-nil new)) ∙ a.stands []

ends_last : (old buffer new : List ℕ) (span : Span) → IsAppended old buffer new span → ends_within (length new) span ≡ true
ends_last old buffer new span a = ap (λ (xs : List ℕ). ends_within (length xs) span) (sym (append-nil new)) ∙ a.ends []

-- layouts without arrays below them, as places in bytes
bits_are : (bytes : List ℕ) (known : DictionaryPart → List Array) (span : Span) → layout_by bytes known (layouts.Bits span) ≡ bit_layout (within bytes span)
bits_are bytes known span = ap (layout_by bytes known) (sym (layouts.rolls-Bits span)) ∙ fold-roll-PlacedLayout Layout Array (layout_step bytes known) (array_step bytes) (placed.Bits span)

nulls_are : (bytes : List ℕ) (known : DictionaryPart → List Array) → layout_by bytes known layouts.Null ≡ null_layout
nulls_are bytes known = ap (layout_by bytes known) (sym layouts.rolls-Null) ∙ fold-roll-PlacedLayout Layout Array (layout_step bytes known) (array_step bytes) placed.Null

nulls_within : (size : ℕ) (stands : DictionaryPart → Bool) → is_layout_within size stands layouts.Null ≡ true
nulls_within size stands = ap (is_layout_within size stands) (sym layouts.rolls-Null) ∙ fold-roll-PlacedLayout Bool Bool (layout_within size stands) (array_within size) placed.Null

bits_within : (size : ℕ) (stands : DictionaryPart → Bool) (span : Span) → is_layout_within size stands (layouts.Bits span) ≡ ends_within size span
bits_within size stands span = ap (is_layout_within size stands) (sym (layouts.rolls-Bits span)) ∙ fold-roll-PlacedLayout Bool Bool (layout_within size stands) (array_within size) (placed.Bits span)

values_are : (bytes : List ℕ) (known : DictionaryPart → List Array) (span : Span) → layout_by bytes known (layouts.Fixed span) ≡ fixed_layout (within bytes span)
values_are bytes known span = ap (layout_by bytes known) (sym (layouts.rolls-Fixed span)) ∙ fold-roll-PlacedLayout Layout Array (layout_step bytes known) (array_step bytes) (placed.Fixed span)

values_within : (size : ℕ) (stands : DictionaryPart → Bool) (span : Span) → is_layout_within size stands (layouts.Fixed span) ≡ ends_within size span
values_within size stands span = ap (is_layout_within size stands) (sym (layouts.rolls-Fixed span)) ∙ fold-roll-PlacedLayout Bool Bool (layout_within size stands) (array_within size) (placed.Fixed span)

texts_are : (bytes : List ℕ) (known : DictionaryPart → List Array) (first second : Span) → layout_by bytes known (layouts.Binary first second) ≡ binary_layout (within bytes first) (within bytes second)
texts_are bytes known first second =
    ap (layout_by bytes known) (sym (layouts.rolls-Binary first second)) ∙ fold-roll-PlacedLayout Layout Array (layout_step bytes known) (array_step bytes) (placed.Binary first second)

texts_within : (size : ℕ) (stands : DictionaryPart → Bool) (first second : Span) → is_layout_within size stands (layouts.Binary first second) ≡ (ends_within size first && ends_within size second)
texts_within size stands first second =
    ap (is_layout_within size stands) (sym (layouts.rolls-Binary first second)) ∙ fold-roll-PlacedLayout Bool Bool (layout_within size stands) (array_within size) (placed.Binary first second)

codes_are : (bytes : List ℕ) (known : DictionaryPart → List Array) (span : Span) (part : DictionaryPart)
    → layout_by bytes known (layouts.Dictionary span part) ≡ dictionary_layout (within bytes span) (arrays_of (known part))
codes_are bytes known span part =
    ap (layout_by bytes known) (sym (layouts.rolls-Dictionary span part)) ∙ fold-roll-PlacedLayout Layout Array (layout_step bytes known) (array_step bytes) (placed.Dictionary span part)

codes_within : (size : ℕ) (stands : DictionaryPart → Bool) (span : Span) (part : DictionaryPart) → is_layout_within size stands (layouts.Dictionary span part) ≡ (ends_within size span && stands part)
codes_within size stands span part =
    ap (is_layout_within size stands) (sym (layouts.rolls-Dictionary span part)) ∙ fold-roll-PlacedLayout Bool Bool (layout_within size stands) (array_within size) (placed.Dictionary span part)

pub nulls_laid : (old : List ℕ) → IsLaid Nulls old old layouts.Null
nulls_laid old = record { more = []; whole = sym (append-nil old); laid = nulls_are old; ends = nulls_within (length old) }

pub bits_laid : (bits : Vec Bool) (old new : List ℕ) (span : Span) → IsAppended old (packed bits.items) new span → IsLaid (Booleans bits) old new (layouts.Bits span)
bits_laid bits old new span a = record { more = packed bits.items; whole = a.whole; laid = λ known. bits_are new known span ∙ ap bit_layout (stands_last old _ new span a); ends = λ stands. bits_within (length new) stands span ∙ ends_last old _ new span a }

pub values_laid : (i : _) (counted : _) (values : Vec ℕ) (old new : List ℕ) (span : Span) → IsAppended old values.items new span → IsLaid (Integers i counted values) old new (layouts.Fixed span)
values_laid i counted values old new span a = record { more = values.items; whole = a.whole; laid = λ known. values_are new known span ∙ ap fixed_layout (stands_last old _ new span a); ends = λ stands. values_within (length new) stands span ∙ ends_last old _ new span a }

pub fixed_laid : (width : ℕ) (values : Vec ℕ) (old new : List ℕ) (span : Span) → IsAppended old values.items new span → IsLaid (FixedBinaries width values) old new (layouts.Fixed span)
fixed_laid width values old new span a = record { more = values.items; whole = a.whole; laid = λ known. values_are new known span ∙ ap fixed_layout (stands_last old _ new span a); ends = λ stands. values_within (length new) stands span ∙ ends_last old _ new span a }

pub texts_laid : (width : _) (offsets contents : Vec ℕ) (old mid new : List ℕ) (first second : Span) → IsAppended old offsets.items mid first → IsAppended mid contents.items new second
    → IsLaid (Texts width offsets contents) old new (layouts.Binary first second)
texts_laid width offsets contents old mid new first second a b =
    let front : within new first ≡ offsets.items = ap (λ (xs : List ℕ). within xs first) b.whole ∙ a.stands contents.items in
    let inner : ends_within (length new) first ≡ true = ap (λ (xs : List ℕ). ends_within (length xs) first) b.whole ∙ a.ends contents.items in
    record {
      more = offsets.items ++ contents.items;
      whole = b.whole ∙ ap (λ (xs : List ℕ). xs ++ contents.items) a.whole ∙ append_assoc old offsets.items contents.items;
      laid = λ known. texts_are new known first second ∙ (λ j. binary_layout (front j) (stands_last mid _ new second b j));
      ends = λ stands. texts_within (length new) stands first second ∙ and_from _ _ inner (ends_last mid _ new second b);
    }

pub binaries_laid : (width : _) (offsets contents : Vec ℕ) (old mid new : List ℕ) (first second : Span) → IsAppended old offsets.items mid first → IsAppended mid contents.items new second
    → IsLaid (Binaries width offsets contents) old new (layouts.Binary first second)
binaries_laid width offsets contents old mid new first second a b =
    let t = texts_laid width offsets contents old mid new first second a b in
    record { more = t.more; whole = t.whole; laid = t.laid; ends = t.ends }

-- ---- dictionaries

numbered_last : (before : List Dictionary) (d : Dictionary) → arrays_numbered (before ++ d ∷ []) (length before) ≡ d.arrays.items
numbered_last [] d = refl
numbered_last (x ∷ before) d = numbered_last before d

known_last : (bytes : List ℕ) (before : List Dictionary) (d : Dictionary) (part : DictionaryPart) → arrays_in bytes (before ++ d ∷ []) part
    ≡ map (array_in bytes no_dictionary) (take part.count (arrays_numbered (before ++ d ∷ []) part.number))
known_last bytes [] d part = refl
known_last bytes (x ∷ before) d part = refl

-- the arrays of other dictionaries stay, or there is none
numbered_more : (before own : List Dictionary) (n : ℕ) → (arrays_numbered (before ++ own) n ≡ arrays_numbered before n) ⊎ (arrays_numbered before n ≡ [])
numbered_more [] own zero = inr refl
numbered_more [] own (suc n) = inr refl
numbered_more (x ∷ before) own zero = inl refl
numbered_more (x ∷ before) own (suc n) = numbered_more before own n

nothing_taken : (n : ℕ) (xs : List PlacedArray) → n ≤ 0 → take n xs ≡ []
nothing_taken zero xs le = refl
nothing_taken (suc n) xs le = absurd (omega arith)

part_stays : (before own : List Dictionary) (part : DictionaryPart) → part.count ≤ length (arrays_numbered before part.number)
    → take part.count (arrays_numbered (before ++ own) part.number) ≡ take part.count (arrays_numbered before part.number)
part_stays before own part le = elim (numbered_more before own part.number) [
  | inl same ↦ ap (take part.count) same
  | inr none ↦
      let few : part.count ≤ 0 = rw none at le in
      nothing_taken part.count (arrays_numbered (before ++ own) part.number) few ∙ sym (nothing_taken part.count (arrays_numbered before part.number) few)
]

stay_within : (size more : ℕ) (arrays : List PlacedArray) → size ≤ more → list_all (is_within_by size (λ part. true)) arrays ≡ true → list_all (is_within_by more (λ part. true)) arrays ≡ true
stay_within size more [] le h = refl
stay_within size more (a ∷ arrays) le h =
    let parts = and_parts (is_within_by size (λ part. true) a) (list_all (is_within_by size (λ part. true)) arrays) h in
    and_from _ _ (within_more size more le (λ part. true) (λ part. true) (λ part e. e) a parts.0) (stay_within size more arrays le parts.1)

part_stands : (size more : ℕ) (before own : List Dictionary) → size ≤ more → (part : DictionaryPart) → stands_within size before part ≡ true → stands_within more (before ++ own) part ≡ true
part_stands size more before own le part h =
    let p = and_parts (nat_le part.count (length (arrays_numbered before part.number))) _ h in
    let there : part.count ≤ length (arrays_numbered before part.number) = leb-true _ _ p.0 in
    let same = part_stays before own part there in
    let many : part.count ≤ length (arrays_numbered (before ++ own) part.number) = elim (numbered_more before own part.number) [
      | inl kept ↦ (let e = ap length kept in omega (arith, there, e))
      | inr none ↦ (let e = ap length none in omega (arith, there, e))
    ] in
    and_from _ _ (le-leb part.count (length (arrays_numbered (before ++ own) part.number)) many)
    (ap (list_all (is_within_by more (λ part. true))) same ∙ stay_within size more (take part.count (arrays_numbered before part.number)) le p.1)

-- the array of entries in a dictionary of its own
pub entries_placed : (values : ColumnValues) (count : ℕ) (old new : List ℕ) (before behind : List Dictionary) (layout : PlacedLayout) (d : Dictionary) (part : DictionaryPart) → IsLaid values old new layout
    → d.arrays.items ≡ roll-PlacedArray (record { slots = count; validity = record { start = 0; len = 0 }; layout = layout }) ∷ [] → behind ≡ before ++ d ∷ [] → part.number ≡ length before
    → part.count ≡ 1 → AreEntriesPlaced values count old new before behind part
entries_placed values count old new before behind layout d part l one longer number size =
    let a : PlacedArray = roll-PlacedArray (record { slots = count; validity = record { start = 0; len = 0 }; layout = layout }) in
    let numbered : arrays_numbered (before ++ d ∷ []) part.number ≡ a ∷ [] = ap (arrays_numbered (before ++ d ∷ [])) number ∙ numbered_last before d ∙ one in
    let all : take part.count (arrays_numbered (before ++ d ∷ []) part.number) ≡ a ∷ [] = (λ j. take (size j) (numbered j)) in
    let is : array_in new no_dictionary a ≡ entries_array values count =
    fold-roll-PlacedArray Layout Array (layout_step new no_dictionary) (array_step new) (record { slots = count; validity = record { start = 0; len = 0 }; layout = layout })
    ∙ ap (array count []) (l.laid no_dictionary) in
    let ends : is_within_by (length new) (λ p. true) a ≡ true =
    fold-roll-PlacedArray Bool Bool (layout_within (length new) (λ p. true)) (array_within (length new)) (record { slots = count; validity = record { start = 0; len = 0 }; layout = layout })
    ∙ and_from _ _ (le-leb 0 (length new) (omega arith)) (l.ends (λ p. true)) in
    let stands : stands_within (length new) (before ++ d ∷ []) part ≡ true =
    (λ j. nat_le (size j) (length (numbered j)) && list_all (is_within_by (length new) (λ p. true)) (all j)) ∙ and_from _ _ ends refl in
    record {
      more = l.more;
      whole = l.whole;
      own = d ∷ [];
      longer = longer;
      known = ap (λ (ds : List Dictionary). arrays_in new ds part) longer ∙ known_last new before d part ∙ ap (map (array_in new no_dictionary)) all ∙ ap (λ (x : Array). x ∷ []) is;
      stands = ap (λ (ds : List Dictionary). stands_within (length new) ds part) longer ∙ stands;
    }

-- indices, and the entries that they name
pub coded_laid : (values : ColumnValues) (d : Coding) (old mid new : List ℕ) (before behind : List Dictionary) (span : Span) (part : DictionaryPart) → IsAppended old d.indices.items mid span
    → AreEntriesPlaced values (length d.keys.keys) mid new before behind part → IsPlacedAs (column_layout (Some d) values) old new before behind (layouts.Dictionary span part)
coded_laid values d old mid new before behind span part a e =
    let front : within new span ≡ d.indices.items = ap (λ (xs : List ℕ). within xs span) e.whole ∙ a.stands e.more in
    let inner : ends_within (length new) span ≡ true = ap (λ (xs : List ℕ). ends_within (length xs) span) e.whole ∙ a.ends e.more in
    record {
      more = d.indices.items ++ e.more;
      whole = e.whole ∙ ap (λ (xs : List ℕ). xs ++ e.more) a.whole ∙ append_assoc old d.indices.items e.more;
      own = e.own;
      longer = e.longer;
      laid = codes_are new (arrays_in new behind) span part ∙ (λ j. dictionary_layout (front j) (arrays_of (e.known j)));
      ends = codes_within (length new) (stands_within (length new) behind) span part ∙ and_from _ _ inner e.stands;
    }

pub plain_laid : (values : ColumnValues) (old new : List ℕ) (before : List Dictionary) (layout : PlacedLayout) → IsLaid values old new layout → IsPlacedAs (layout_of values) old new before before layout
plain_laid values old new before layout l = record {
  more = l.more;
  whole = l.whole;
  own = [];
  longer = sym (append-nil before);
  laid = l.laid (arrays_in new before);
  ends = l.ends (stands_within (length new) before);
}

pub plain_step : {E : Type 0} (values : ColumnValues) (old new : List ℕ) (before : List Dictionary) (r : Result PlacedLayout E) → IfOk r (λ layout. IsLaid values old new layout)
    → IfOk r (λ layout. IsPlacedAs (layout_of values) old new before before layout)
plain_step values old new before (Err e) h = tt
plain_step values old new before (Ok layout) h = plain_laid values old new before layout h

-- an array after its validity bitmap
array_placed : (valid : List ℕ) (stated : Layout) (slots count : ℕ) (old mid new : List ℕ) (before behind : List Dictionary) (span : Span) (layout : PlacedLayout) → slots ≡ count
    → IsAppended old valid mid span → IsPlacedAs stated mid new before behind layout → (b : ColumnBuilder) → IsBuilt b (array count valid stated)
    → IsPlaced b old new before behind (roll-PlacedArray (record { slots = slots; validity = span; layout = layout }))
array_placed valid stated slots count old mid new before behind span layout same a l b is =
    let front : within new span ≡ valid = ap (λ (xs : List ℕ). within xs span) l.whole ∙ a.stands l.more in
    let inner : ends_within (length new) span ≡ true = ap (λ (xs : List ℕ). ends_within (length xs) span) l.whole ∙ a.ends l.more in
    let own : array_in new (arrays_in new behind) (roll-PlacedArray (record { slots = slots; validity = span; layout = layout })) ≡ array count valid stated =
    fold-roll-PlacedArray Layout Array (layout_step new (arrays_in new behind)) (array_step new) (record { slots = slots; validity = span; layout = layout })
    ∙ (λ j. array (same j) (front j) (l.laid j)) in
    record {
      more = valid ++ l.more;
      whole = l.whole ∙ ap (λ (xs : List ℕ). xs ++ l.more) a.whole ∙ append_assoc old valid l.more;
      own = l.own;
      longer = l.longer;
      placed = λ c cells k. own ∙ is c cells k;
      ends = fold-roll-PlacedArray Bool Bool (layout_within (length new) (stands_within (length new) behind)) (array_within (length new)) (record { slots = slots; validity = span; layout = layout })
          ∙ and_from _ _ inner l.ends;
    }

-- the buffers of a column without parts
pub flat_placed : (b : FlatBuilder) (slots : ℕ) (old mid new : List ℕ) (before behind : List Dictionary) (span : Span) (layout : PlacedLayout) → slots ≡ length b.valid.items
    → IsAppended old (validity_in (has_validity b.coding b.values) b.valid.items) mid span → IsPlacedAs (column_layout b.coding b.values) mid new before behind layout
    → IsPlaced (Flat b) old new before behind (roll-PlacedArray (record { slots = slots; validity = span; layout = layout }))
flat_placed b slots old mid new before behind span layout count a l =
    array_placed (validity_in (has_validity b.coding b.values) b.valid.items) (column_layout b.coding b.values) slots (length b.valid.items) old mid new before behind span layout count a l (Flat b) (flat_built b)

-- ---- columns with parts

-- offsets, and the array of items after them
lists_are : (bytes : List ℕ) (known : DictionaryPart → List Array) (span : Span) (below : Box PlacedArray) → layout_by bytes known (layouts.List span below)
    ≡ list_layout (within bytes span) (array_in bytes known below.value)
lists_are bytes known span below =
    ap (layout_by bytes known) (sym (layouts.rolls-List span below)) ∙ fold-roll-PlacedLayout Layout Array (layout_step bytes known) (array_step bytes) (placed.List span below)

lists_within : (size : ℕ) (stands : DictionaryPart → Bool) (span : Span) (below : Box PlacedArray) → is_layout_within size stands (layouts.List span below) ≡ (ends_within size span && is_within_by size stands below.value)
lists_within size stands span below =
    ap (is_layout_within size stands) (sym (layouts.rolls-List span below)) ∙ fold-roll-PlacedLayout Bool Bool (layout_within size stands) (array_within size) (placed.List span below)

fixed_lists_are : (bytes : List ℕ) (known : DictionaryPart → List Array) (below : Box PlacedArray) → layout_by bytes known (layouts.FixedList below) ≡ fixed_list_layout (array_in bytes known below.value)
fixed_lists_are bytes known below =
    ap (layout_by bytes known) (sym (layouts.rolls-FixedList below)) ∙ fold-roll-PlacedLayout Layout Array (layout_step bytes known) (array_step bytes) (placed.FixedList below)

fixed_lists_within : (size : ℕ) (stands : DictionaryPart → Bool) (below : Box PlacedArray) → is_layout_within size stands (layouts.FixedList below) ≡ is_within_by size stands below.value
fixed_lists_within size stands below =
    ap (is_layout_within size stands) (sym (layouts.rolls-FixedList below)) ∙ fold-roll-PlacedLayout Bool Bool (layout_within size stands) (array_within size) (placed.FixedList below)

pub list_placed : (slots : Slots) (offsets : ListOffsets) (p : _) (items : ColumnBuilder) (count : ℕ) (old mid mid2 new : List ℕ) (before behind : List Dictionary) (validity ends : Span) (below : Box PlacedArray)
    → count ≡ length slots.valid.items → IsAppended old (validity_of_bits slots.valid.items) mid validity → IsAppended mid offsets.offsets.items mid2 ends → IsPlaced items mid2 new before behind below.value
    → IsPlaced (List' slots offsets p items) old new before behind (roll-PlacedArray (record { slots = count; validity = validity; layout = layouts.List ends below }))
list_placed slots offsets p items count old mid mid2 new before behind validity ends below same a o i =
    let front : within new ends ≡ offsets.offsets.items = ap (λ (xs : List ℕ). within xs ends) i.whole ∙ o.stands i.more in
    let inner : ends_within (length new) ends ≡ true = ap (λ (xs : List ℕ). ends_within (length xs) ends) i.whole ∙ o.ends i.more in
    let own : Array = array_in new (arrays_in new behind) below.value in
    let laid : IsPlacedAs (list_layout offsets.offsets.items own) mid new before behind (layouts.List ends below) = record {
      more = offsets.offsets.items ++ i.more;
      whole = i.whole ∙ ap (λ (xs : List ℕ). xs ++ i.more) o.whole ∙ append_assoc mid offsets.offsets.items i.more;
      own = i.own;
      longer = i.longer;
      laid = lists_are new (arrays_in new behind) ends below ∙ ap (λ (xs : List ℕ). list_layout xs own) front;
      ends = lists_within (length new) (stands_within (length new) behind) ends below ∙ and_from _ _ inner i.ends;
    } in
    array_placed (validity_of_bits slots.valid.items) (list_layout offsets.offsets.items own) count (length slots.valid.items) old mid new before behind validity (layouts.List ends below) same a laid
    (List' slots offsets p items) (list_column slots offsets p items own i.placed)

pub fixed_list_placed : (slots : Slots) (size : ℕ) (p : _) (items : ColumnBuilder) (count : ℕ) (old mid new : List ℕ) (before behind : List Dictionary) (validity : Span) (below : Box PlacedArray)
    → count ≡ length slots.valid.items → IsAppended old (validity_of_bits slots.valid.items) mid validity → IsPlaced items mid new before behind below.value
    → IsPlaced (FixedList' slots size p items) old new before behind (roll-PlacedArray (record { slots = count; validity = validity; layout = layouts.FixedList below }))
fixed_list_placed slots size p items count old mid new before behind validity below same a i =
    let own : Array = array_in new (arrays_in new behind) below.value in
    let laid : IsPlacedAs (fixed_list_layout own) mid new before behind (layouts.FixedList below) = record {
      more = i.more;
      whole = i.whole;
      own = i.own;
      longer = i.longer;
      laid = fixed_lists_are new (arrays_in new behind) below;
      ends = fixed_lists_within (length new) (stands_within (length new) behind) below ∙ i.ends;
    } in
    array_placed (validity_of_bits slots.valid.items) (fixed_list_layout own) count (length slots.valid.items) old mid new before behind validity (layouts.FixedList below) same a laid
    (FixedList' slots size p items) (fixed_list_column slots size p items own i.placed)

-- ---- arrays, one after another

built_more : (bs : List ColumnBuilder) (arrays : List Array) (b : ColumnBuilder) (a : Array) → AreBuilt bs arrays → IsBuilt b a → AreBuilt (bs ++ b ∷ []) (arrays ++ a ∷ [])
built_more bs arrays b a so is = record {
  count = length-append arrays (a ∷ []) ∙ ap (λ (n : ℕ). n + 1) so.count ∙ sym (length-append bs (b ∷ []));
  each = λ j d x db da. elim (last_or_before bs b d j db) [
    | inl own ↦ elim (last_or_before arrays a x j da) [
      | inl there ↦ so.each j d x own there
      | inr last ↦ (let lt = slice_get_within bs j d own in absurd (omega (arith, lt, last.0, so.count)))
    ]
    | inr own ↦ elim (last_or_before arrays a x j da) [
      | inl there ↦ (let lt = slice_get_within arrays j x there in absurd (omega (arith, lt, own.0, so.count)))
      | inr last ↦ rw (← own.1, ← last.1) is
    ]
  ];
}

pub record SoFar (bs : List ColumnBuilder) (bytes : List ℕ) (dictionaries : List Dictionary) (arrays : List PlacedArray) : Type 0 where
  pub placed : AreBuilt bs (map (array_in bytes (arrays_in bytes dictionaries)) arrays)
  pub ends : list_all (is_placed_within (length bytes) dictionaries) arrays ≡ true

all_stay : (old more : List ℕ) (before own : List Dictionary) (arrays : List PlacedArray) → list_all (is_placed_within (length old) before) arrays ≡ true
    → map (array_in (old ++ more) (arrays_in (old ++ more) (before ++ own))) arrays ≡ map (array_in old (arrays_in old before)) arrays
all_stay old more before own [] h = refl
all_stay old more before own (a ∷ arrays) h =
    let p = and_parts (is_placed_within (length old) before a) (list_all (is_placed_within (length old) before) arrays) h in
    let here = array_grown old more before (before ++ own) a (part_stays before own) p.0 in
    let rest = all_stay old more before own arrays p.1 in
    λ j. here j ∷ rest j

all_within : (size more : ℕ) (before own : List Dictionary) (arrays : List PlacedArray) → size ≤ more → list_all (is_placed_within size before) arrays ≡ true
    → list_all (is_placed_within more (before ++ own)) arrays ≡ true
all_within size more before own [] le h = refl
all_within size more before own (a ∷ arrays) le h =
    let p = and_parts (is_placed_within size before a) (list_all (is_placed_within size before) arrays) h in
    and_from _ _ (within_more size more le (stands_within size before) (stands_within more (before ++ own)) (part_stands size more before own le) a p.0) (all_within size more before own arrays le p.1)

placed_more : (bs : List ColumnBuilder) (b : ColumnBuilder) (old new : List ℕ) (before behind : List Dictionary) (arrays : List PlacedArray) (a : PlacedArray) → SoFar bs old before arrays
    → IsPlaced b old new before behind a → SoFar (bs ++ b ∷ []) new behind (arrays ++ a ∷ [])
placed_more bs b old new before behind arrays a so p =
    let longer : length new ≡ length old + length p.more = ap length p.whole ∙ length-append old p.more in
    let front : map (array_in new (arrays_in new behind)) arrays ≡ map (array_in old (arrays_in old before)) arrays =
    (λ j. map (array_in (p.whole j) (arrays_in (p.whole j) (p.longer j))) arrays) ∙ all_stay old p.more before p.own arrays so.ends in
    let within : list_all (is_placed_within (length new) behind) arrays ≡ true =
    ap (λ (ds : List Dictionary). list_all (is_placed_within (length new) ds) arrays) p.longer ∙ all_within (length old) (length new) before p.own arrays (omega (arith, longer)) so.ends in
    let own : Array = array_in new (arrays_in new behind) a in
    record {
      placed = subst (λ (xs : List Array). AreBuilt (bs ++ b ∷ []) xs) (sym (map-append (array_in new (arrays_in new behind)) arrays (a ∷ []) ∙ ap (λ (xs : List Array). xs ++ own ∷ []) front))
          (built_more bs (map (array_in old (arrays_in old before)) arrays) b own so.placed p.placed);
      ends = list_all-append (is_placed_within (length new) behind) arrays (a ∷ []) ∙ and_from _ _ within (and_from _ _ p.ends refl);
    }

pub none_placed : (bytes : List ℕ) (dictionaries : List Dictionary) → SoFar [] bytes dictionaries []
none_placed bytes dictionaries = record { placed = record { count = refl; each = λ j b a db da. absurd cc }; ends = refl }

pub placed_pushed : (bs : List ColumnBuilder) (b : ColumnBuilder) (old new : List ℕ) (before behind : List Dictionary) (arrays longer : List PlacedArray) (a : PlacedArray) → SoFar bs old before arrays
    → IsPlaced b old new before behind a → longer ≡ arrays ++ a ∷ [] → SoFar (bs ++ b ∷ []) new behind longer
placed_pushed bs b old new before behind arrays longer a so p pushed =
    subst (λ (xs : List PlacedArray). SoFar (bs ++ b ∷ []) new behind xs) (sym pushed) (placed_more bs b old new before behind arrays a so p)

pub all_placed : (bs : List ColumnBuilder) (bytes : List ℕ) (dictionaries : List Dictionary) (arrays : List PlacedArray) → SoFar bs bytes dictionaries arrays → ArePlaced bs bytes dictionaries arrays
all_placed bs bytes dictionaries arrays so cs rows k =
    all_built cs rows bs (map (array_in bytes (arrays_in bytes dictionaries)) arrays) k.count so.placed.count k.each so.placed.each

-- ---- fields of structs

pub none_behind_it : (bytes : List ℕ) (dictionaries : List Dictionary) (arrays : List PlacedArray) → arrays ≡ [] → ArePlacedBehind [] bytes bytes dictionaries dictionaries arrays
none_behind_it bytes dictionaries arrays is = rw is (record {
  more = [];
  whole = sym (append-nil bytes);
  own = [];
  longer = sym (append-nil dictionaries);
  placed = record { count = refl; each = λ j b a db da. absurd cc };
  ends = refl;
})

pub one_behind_it : (bs : List ColumnBuilder) (b : ColumnBuilder) (old mid new : List ℕ) (before between behind : List Dictionary) (arrays longer : List PlacedArray) (a : PlacedArray)
    → ArePlacedBehind bs old mid before between arrays → IsPlaced b mid new between behind a → longer ≡ arrays ++ a ∷ [] → ArePlacedBehind (bs ++ b ∷ []) old new before behind longer
one_behind_it bs b old mid new before between behind arrays longer a h p pushed =
    let so = placed_more bs b mid new between behind arrays a (record { placed = h.placed; ends = h.ends }) p in
    rw pushed (record {
      more = h.more ++ p.more;
      whole = p.whole ∙ ap (λ (xs : List ℕ). xs ++ p.more) h.whole ∙ append_assoc old h.more p.more;
      own = h.own ++ p.own;
      longer = p.longer ∙ ap (λ (xs : List Dictionary). xs ++ p.own) h.longer ∙ append_assoc before h.own p.own;
      placed = so.placed;
      ends = so.ends;
    })

structs_are : (bytes : List ℕ) (known : DictionaryPart → List Array) (children : Vec PlacedArray) → layout_by bytes known (layouts.Struct children) ≡ struct_layout (arrays_of (map (array_in bytes known) children.items))
structs_are bytes known children =
    ap (layout_by bytes known) (sym (layouts.rolls-Struct children)) ∙ fold-roll-PlacedLayout Layout Array (layout_step bytes known) (array_step bytes) (placed.Struct children)

structs_within : (size : ℕ) (stands : DictionaryPart → Bool) (children : Vec PlacedArray) → is_layout_within size stands (layouts.Struct children) ≡ list_all (λ b. b) (map (is_within_by size stands) children.items)
structs_within size stands children =
    ap (is_layout_within size stands) (sym (layouts.rolls-Struct children)) ∙ fold-roll-PlacedLayout Bool Bool (layout_within size stands) (array_within size) (placed.Struct children)

all_mapped : {X : Type 0} (f : X → Bool) (xs : List X) → list_all (λ b. b) (map f xs) ≡ list_all f xs
all_mapped f [] = refl
all_mapped f (x ∷ xs) = ap (λ (b : Bool). f x && b) (all_mapped f xs)

pub struct_placed : (slots : Slots) (names : Names) (fields : Vec ColumnBuilder) (count : ℕ) (old mid new : List ℕ) (before behind : List Dictionary) (validity : Span) (children : Vec PlacedArray)
    → count ≡ length slots.valid.items → IsAppended old (validity_of_bits slots.valid.items) mid validity → ArePlacedBehind fields.items mid new before behind children.items
    → IsPlaced (Struct slots names fields) old new before behind (roll-PlacedArray (record { slots = count; validity = validity; layout = layouts.Struct children }))
struct_placed slots names fields count old mid new before behind validity children same a h =
    let own : List Array = map (array_in new (arrays_in new behind)) children.items in
    let laid : IsPlacedAs (struct_layout (arrays_of own)) mid new before behind (layouts.Struct children) = record {
      more = h.more;
      whole = h.whole;
      own = h.own;
      longer = h.longer;
      laid = structs_are new (arrays_in new behind) children;
      ends = structs_within (length new) (stands_within (length new) behind) children ∙ all_mapped (is_placed_within (length new) behind) children.items ∙ h.ends;
    } in
    array_placed (validity_of_bits slots.valid.items) (struct_layout (arrays_of own)) count (length slots.valid.items) old mid new before behind validity (layouts.Struct children) same a laid
    (Struct slots names fields) (struct_column slots names fields own h.placed)
