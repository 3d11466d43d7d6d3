-- Columns with a dictionary: the entries, their bytes, and the indices that name them.
use Rattle.std.specs.Prelude.{ℤ, if◌then◌else◌, Option, Some, None, Ok, Err, Result, IfOk, IfSome, OnOk, bytes_eq, is_some, ◌||◌, position, not}
use Rattle.std.specs.List.{flat_map, list_all, list_any, position_from}
use Rattle.std.specs.Ordering.{int_eq}
use Rattle.std.specs.Str.{is_utf8}
use Rattle.std.specs.Global.{Vec}
use Rattle.std.proofs.Common.{◌≡◌, ℕ, ◌+◌, ◌*◌, ◌/◌, ◌≤◌, Bool, true, false, List, [], ◌∷◌, ◌++◌, length, map, refl, arith, ap, sym, subst, ◌∙◌, inl, inr, append-nil, length-append}
use Rattle.std.proofs.lemmas.Bool.{and_from, and_parts, le-leb}
use Rattle.std.proofs.lemmas.Bool.Decides.{Decides-int_eq, same_from_decides}
use Rattle.std.proofs.lemmas.Iterator.Adapters.{position_from-zero}
use Rattle.std.proofs.lemmas.List.{length-map, map-append}
use Rattle.std.proofs.lemmas.List.Folds.{list_all-append}
use Rattle.std.proofs.lemmas.Slice.Eq.{bytes_eq-Decides}
use Rattle.facts.specs.laws.Lists.{nowhere_from}
use Rattle.arrow_schema.specs.laws.Widths.{is_bit_width-bits_of}
use Rattle.byteorder.specs.Endian.{little_bytes, little_number}
use Rattle.byteorder.specs.Numbers.{little_number-reads_back}
use Rattle.hex.specs.Hex.{decode_of}
use Rattle.hex.specs.declared.error.FromHexError.{FromHexError}
use Rattle.arrow_schema.specs.Column.{DateKind, days, date_milliseconds, Index, Kind, is_bit_width, booleans, integers, dates, timestamps, nulls, texts, large_texts, binaries, large_binaries, fixed_binaries}
use Rattle.arrow_schema.specs.Limits.{is_nested}
use Rattle.arrow_schema.specs.View.{bits_of}
use Rattle.arrow_schema.specs.declared.types.BitWidth.{BitWidth}
use Rattle.arrow_schema.specs.declared.types.IntegerType.{IntegerType}
use Rattle.cells.specs.Cell.{Cell, null, boolean, number, text, bytes, items, parts}
use Rattle.cells.specs.Dictionary.{entries_of, entry_in, entry_limit, is_entry, is_within, with_entries, with_entry, with_option}
use Rattle.cells.specs.Fit.{date_bits, fits_kind, in_range}
use Rattle.cells.specs.Integers.{integer_of, number_of}
use Rattle.cells.specs.Typed.{typed_boolean, typed_integer}
use Rattle.cells.specs.Nulls.{is_there}
use Rattle.cells.specs.Weight.{kind_weight}
use Rattle.cells.specs.laws.Entries.{entries_append}
use Rattle.columns.specs.Built.{entry_index, fixed_bytes, index_bytes, integer_bytes, place_or_zero}
use Rattle.columns.specs.laws.Integers.{number_back, number_fits, width_cases}
use Rattle.text_import.specs.Objects.{has_name}
use Rattle.text_import.specs.Flat.{cell_of_text, boolean_cell, bytes_cell, dated_cell, fitting, number_cell, spelled_cell}
use Rattle.text_import.specs.declared.refusal.Refusal.{Refusal}
use Rattle.text_import.specs.declared.refusal.Refusal.TheVariants.{FixedWidth, NotUtf8, OutOfRange}
use Rattle.text_columns.specs.declared.coding.Coding.{Coding}
use Rattle.text_columns.specs.declared.column_values.ColumnValues.{ColumnValues}
use Rattle.text_columns.specs.declared.column_values.ColumnValues.TheVariants.{Nulls, Booleans, Integers, Texts, Binaries, FixedBinaries}
use Rattle.text_columns.specs.inner.Kept.{Clears, Codes, ComesLast, Holds, HoldsCells, IsCoded, IsOf, PushesPlace, Takes, TakesCodedText, TakesField, TakesNull, TakesNullCell, TakesText, bit_key, first_key, has_texts, index_type, key_list, key_of, value_bytes}
use Rattle.text_columns.proofs.Taken.{one_joined}
use Rattle.civil_days.specs.Typed.{spelled}
use Rattle.civil_days.specs.declared.date_column.DateFault.{DateFault}
use Rattle.civil_days.specs.declared.date_column.DateFault.TheVariants.{NotADate, WrongOffset}
use Rattle.civil_days.specs.declared.date_form.DateForm.{DateForm}
use Rattle.civil_days.specs.declared.date_form.DateForm.TheVariants.{Numbers, Iso}

-- ---- types without parts

pub own_flat : (kind : Kind) (v : ColumnValues) → IsOf kind v → is_nested kind ≡ false
own_flat nulls v h = refl
own_flat booleans v h = refl
own_flat (integers bits signed) v h = refl
own_flat (dates unit) v h = refl
own_flat (timestamps unit timezone) v h = refl
own_flat texts v h = refl
own_flat large_texts v h = refl
own_flat binaries v h = refl
own_flat large_binaries v h = refl
own_flat (fixed_binaries size) v h = refl
own_flat _ Nulls h = absurd h
own_flat _ (Booleans bits) h = absurd h
own_flat _ (Integers i counted own) h = absurd h
own_flat _ (Texts width offsets contents) h = absurd h
own_flat _ (Binaries width offsets contents) h = absurd h
own_flat _ (FixedBinaries width own) h = absurd h

-- the integers of a type have a width of the code
abbrev HasWidth : Kind → Type 0
HasWidth (integers bits signed) = is_bit_width bits ≡ true
HasWidth _ = Unit {0}

own_width : (kind : Kind) (v : ColumnValues) → IsOf kind v → HasWidth kind
own_width (integers bits signed) (Integers i counted own) h = rw (← h.0) (is_bit_width-bits_of i.width)
own_width (integers bits signed) Nulls h = absurd h
own_width (integers bits signed) (Booleans own) h = absurd h
own_width (integers bits signed) (Texts width offsets contents) h = absurd h
own_width (integers bits signed) (Binaries width offsets contents) h = absurd h
own_width (integers bits signed) (FixedBinaries width own) h = absurd h
own_width _ v h = tt

-- ---- what fits is an entry

pub record IsValue (c : Cell) : Type 0 where
  pub there : is_there c ≡ true
  pub own : entry_in c ≡ Some c
  pub same : is_entry c c ≡ true

bytes_same : (t : List ℕ) → bytes_eq t t ≡ true
bytes_same t = (bytes_eq-Decides t t).1 refl

numbers_same : (n : ℤ) → int_eq n n ≡ true
numbers_same n = (Decides-int_eq n n).1 refl

booleans_same : (b : Bool) → (if b then b else not b) ≡ true
booleans_same true = refl
booleans_same false = refl

one_value : (c : Cell) → entry_in c ≡ Some c → is_there c ≡ true → IsValue c
one_value (boolean b) own there = record { there = there; own = own; same = booleans_same b }
one_value (number n) own there = record { there = there; own = own; same = numbers_same n }
one_value (text t) own there = record { there = there; own = own; same = bytes_same t }
one_value (bytes t) own there = record { there = there; own = own; same = bytes_same t }
one_value _ own there = absurd cc

pub fitting_value : (kind : Kind) (c : Cell) → is_nested kind ≡ false → fits_kind kind c ≡ true → IsValue c
unfolding fits_kind
fitting_value booleans (boolean b) flat h = one_value (boolean b) refl refl
fitting_value (integers bits signed) (number n) flat h = one_value (number n) refl refl
fitting_value (dates unit) (number n) flat h = one_value (number n) refl refl
fitting_value (timestamps unit timezone) (number n) flat h = one_value (number n) refl refl
fitting_value texts (text t) flat h = one_value (text t) refl refl
fitting_value large_texts (text t) flat h = one_value (text t) refl refl
fitting_value binaries (bytes t) flat h = one_value (bytes t) refl refl
fitting_value large_binaries (bytes t) flat h = one_value (bytes t) refl refl
fitting_value (fixed_binaries size) (bytes t) flat h = one_value (bytes t) refl refl
fitting_value _ _ flat h = absurd cc

pub all_there : (kind : Kind) (es : List Cell) → is_nested kind ≡ false → list_all (fits_kind kind) es ≡ true → list_all is_there es ≡ true
all_there kind [] flat h = refl
all_there kind (e ∷ es) flat h =
    let p = and_parts (fits_kind kind e) (list_all (fits_kind kind) es) h in
    and_from _ _ (fitting_value kind e flat p.0).there (all_there kind es flat p.1)

-- ---- the bytes of a value are those of no other

read_again : (w : ℕ) (signed : Bool) (n : ℤ) → 1 ≤ w → in_range (8 * w) signed n ≡ true → integer_of w signed (little_number w (little_bytes w (number_of w n))) ≡ n
read_again w signed n one h =
    let small = number_fits w signed n one h in
    let back : little_number w (little_bytes w (number_of w n)) ≡ number_of w n =
    ap (little_number w) (sym (append-nil (little_bytes w (number_of w n)))) ∙ little_number-reads_back w (number_of w n) [] small in
    ap (integer_of w signed) back ∙ number_back w signed n one h

numbers_differ : (w : ℕ) (signed : Bool) (m n : ℤ) → 1 ≤ w → in_range (8 * w) signed m ≡ true → in_range (8 * w) signed n ≡ true
    → int_eq m n ≡ bytes_eq (little_bytes w (number_of w m)) (little_bytes w (number_of w n))
numbers_differ w signed m n one hm hn =
    let x = little_bytes w (number_of w m) in
    let y = little_bytes w (number_of w n) in
    same_from_decides (int_eq m n) (bytes_eq x y) (Decides-int_eq m n) (
      λ e. sym (read_again w signed m one hm) ∙ ap (λ (xs : List ℕ). integer_of w signed (little_number w xs)) ((bytes_eq-Decides x y).0 e) ∙ read_again w signed n one hn,
      λ e. (bytes_eq-Decides x y).1 (ap (λ (z : ℤ). little_bytes w (number_of w z)) e),
    )

booleans_differ : (a b : Bool) → (if a then b else not b) ≡ bytes_eq (bit_key a) (bit_key b)
booleans_differ true true = refl
booleans_differ true false = refl
booleans_differ false true = refl
booleans_differ false false = refl

of_width : (bits : ℕ) (signed : Bool) (n : ℤ) → is_bit_width bits ≡ true → in_range bits signed n ≡ true → in_range (8 * (bits / 8)) signed n ≡ true
of_width bits signed n w h = rw (width_cases bits w).0 h

date_width : (unit : DateKind) → 8 * (date_bits unit / 8) ≡ date_bits unit
date_width days = refl
date_width date_milliseconds = refl

date_wide : (unit : DateKind) → 1 ≤ date_bits unit / 8
date_wide days = omega arith
date_wide date_milliseconds = omega arith

pub same_entry : (kind : Kind) (a b : Cell) → is_nested kind ≡ false → HasWidth kind → fits_kind kind a ≡ true → fits_kind kind b ≡ true → is_entry a b ≡ bytes_eq (key_of kind a) (key_of kind b)
unfolding fits_kind
same_entry booleans (boolean a) (boolean b) flat w h k = booleans_differ a b
same_entry (integers bits signed) (number m) (number n) flat w h k =
    numbers_differ (bits / 8) signed m n (width_cases bits w).1 (of_width bits signed m w h) (of_width bits signed n w k)
same_entry (dates unit) (number m) (number n) flat w h k =
    numbers_differ (date_bits unit / 8) true m n (date_wide unit) (rw (date_width unit) h) (rw (date_width unit) k)
same_entry (timestamps unit timezone) (number m) (number n) flat w h k = numbers_differ 8 true m n (omega arith) h k
same_entry texts (text a) (text b) flat w h k = refl
same_entry large_texts (text a) (text b) flat w h k = refl
same_entry binaries (bytes a) (bytes b) flat w h k = refl
same_entry large_binaries (bytes a) (bytes b) flat w h k = refl
same_entry (fixed_binaries size) (bytes a) (bytes b) flat w h k = refl
same_entry _ _ _ flat w h k = absurd cc

-- the one cell that values are has their bytes
pub value_key : (kind : Kind) (c : Cell) (v : ColumnValues) → Takes kind (c ∷ []) v → fits_kind kind c ≡ true → value_bytes v ≡ key_of kind c
unfolding fits_kind
value_key kind c v t fits = by kind v t.kind_is t.holds fits
  where
    by : (kind : Kind) (v : ColumnValues) → IsOf kind v → Holds v (c ∷ []) → fits_kind kind c ≡ true → value_bytes v ≡ key_of kind c
    by booleans (Booleans bits) is holds f = ap first_key holds
    by (integers bits signed) (Integers i counted own) is holds f = holds ∙ append-nil _ ∙ ap (λ (n : ℕ). integer_bytes (n / 8) c) is.0
    by (dates unit) (Integers i counted own) is holds f = holds ∙ append-nil _ ∙ ap (λ (n : ℕ). integer_bytes (n / 8) c) is.0
    by (timestamps unit timezone) (Integers i counted own) is holds f = holds ∙ append-nil _ ∙ ap (λ (n : ℕ). integer_bytes (n / 8) c) is.0
    by texts (Texts width offsets contents) is holds f = holds.1 ∙ append-nil _
    by large_texts (Texts width offsets contents) is holds f = holds.1 ∙ append-nil _
    by binaries (Binaries width offsets contents) is holds f = holds.1 ∙ append-nil _
    by large_binaries (Binaries width offsets contents) is holds f = holds.1 ∙ append-nil _
    by (fixed_binaries size) (FixedBinaries width own) is holds f = holds ∙ append-nil _ ∙ ap (λ (n : ℕ). fixed_bytes n c) is
    by nulls v is holds f = absurd cc
    by _ Nulls is holds f = absurd is
    by _ (Booleans bits) is holds f = absurd is
    by _ (Integers i counted own) is holds f = absurd is
    by _ (Texts width offsets contents) is holds f = absurd is
    by _ (Binaries width offsets contents) is holds f = absurd is
    by _ (FixedBinaries width own) is holds f = absurd is

-- ---- places in lists

any_from : {X : Type 0} (p : X → Bool) (xs : List X) (i : ℕ) → list_any p xs ≡ is_some (position_from p i xs)
any_from p [] i = refl
any_from {X = X} p (x ∷ xs) i = by (p x) (any_from p xs (i + 1))
  where
    by : (b : Bool) → list_any p xs ≡ is_some (position_from p (i + 1) xs) → (b || list_any p xs) ≡ is_some (if b then Some i else position_from p (i + 1) xs)
    by true rest = refl
    by false rest = rest

any_at : {X : Type 0} (p : X → Bool) (xs : List X) → list_any p xs ≡ is_some (position p xs)
any_at p xs = any_from p xs 0 ∙ ap is_some (sym (position_from-zero p xs))

kept_from : {X : Type 0} (p : X → Bool) (xs more : List X) (i : ℕ) → list_any p xs ≡ true → position_from p i (xs ++ more) ≡ position_from p i xs
kept_from p [] more i h = absurd cc
kept_from {X = X} p (x ∷ xs) more i h = by (p x) h (λ k. kept_from p xs more (i + 1) k)
  where
    by : (b : Bool) → (b || list_any p xs) ≡ true → (list_any p xs ≡ true → position_from p (i + 1) (xs ++ more) ≡ position_from p (i + 1) xs)
        → (if b then Some i else position_from p (i + 1) (xs ++ more)) ≡ (if b then Some i else position_from p (i + 1) xs)
    by true h rest = refl
    by false h rest = rest h

kept_at : {X : Type 0} (p : X → Bool) (xs more : List X) → list_any p xs ≡ true → position p (xs ++ more) ≡ position p xs
kept_at p xs more h = position_from-zero p (xs ++ more) ∙ kept_from p xs more 0 h ∙ sym (position_from-zero p xs)

last_from : {X : Type 0} (p : X → Bool) (xs : List X) (x : X) (i : ℕ) → list_any p xs ≡ false → p x ≡ true → position_from p i (xs ++ x ∷ []) ≡ Some (i + length xs)
last_from p [] x i h k = let same : i ≡ i + 0 = omega arith in rw k (ap Some same)
last_from {X = X} p (y ∷ xs) x i h k = by (p y) h (λ l. last_from p xs x (i + 1) l k)
  where
    by : (b : Bool) → (b || list_any p xs) ≡ false → (list_any p xs ≡ false → position_from p (i + 1) (xs ++ x ∷ []) ≡ Some (i + 1 + length xs))
        → (if b then Some i else position_from p (i + 1) (xs ++ x ∷ [])) ≡ Some (i + length (y ∷ xs))
    by true h rest = absurd cc
    by false h rest = let same : i + 1 + length xs ≡ i + length (y ∷ xs) = omega arith in rest h ∙ ap Some same

last_at : {X : Type 0} (p : X → Bool) (xs : List X) (x : X) → list_any p xs ≡ false → p x ≡ true → position p (xs ++ x ∷ []) ≡ Some (length xs)
last_at p xs x h k = let same : 0 + length xs ≡ length xs = omega arith in position_from-zero p (xs ++ x ∷ []) ∙ last_from p xs x 0 h k ∙ ap Some same

never_at : {X : Type 0} (p : X → Bool) (xs : List X) → ((x : X) → p x ≡ false) → position p xs ≡ None
never_at p xs h = position_from-zero p xs ∙ nowhere_from p xs 0 h

keys_from : (kind : Kind) (c : Cell) (es : List Cell) (i : ℕ) → is_nested kind ≡ false → HasWidth kind → fits_kind kind c ≡ true → list_all (fits_kind kind) es ≡ true
    → position_from (is_entry c) i es ≡ position_from (bytes_eq (key_of kind c)) i (map (key_of kind) es)
keys_from kind c [] i flat w h all = refl
keys_from kind c (e ∷ es) i flat w h all =
    let p = and_parts (fits_kind kind e) (list_all (fits_kind kind) es) all in
    let test = same_entry kind c e flat w h p.0 in
    let rest = keys_from kind c es (i + 1) flat w h p.1 in
    λ j. if test j then Some i else rest j

keys_at : (kind : Kind) (c : Cell) (es : List Cell) → is_nested kind ≡ false → HasWidth kind → fits_kind kind c ≡ true → list_all (fits_kind kind) es ≡ true
    → position (is_entry c) es ≡ position (bytes_eq (key_of kind c)) (map (key_of kind) es)
keys_at kind c es flat w h all = position_from-zero (is_entry c) es ∙ keys_from kind c es 0 flat w h all ∙ sym (position_from-zero (bytes_eq (key_of kind c)) (map (key_of kind) es))

-- ---- entries

pub entries_more : (cells : List Cell) (c : Cell) → entries_of (cells ++ c ∷ []) ≡ with_entry (entries_of cells) c
unfolding with_entries
entries_more cells c = entries_append [] cells (c ∷ [])

with_seen : (es : List Cell) (c : Cell) → entry_in c ≡ Some c → list_any (is_entry c) es ≡ true → with_entry es c ≡ es
with_seen es c own h = ap (with_option es) own ∙ ap (λ (b : Bool). if b then es else es ++ c ∷ []) h

with_unseen : (es : List Cell) (c : Cell) → entry_in c ≡ Some c → list_any (is_entry c) es ≡ false → with_entry es c ≡ es ++ c ∷ []
with_unseen es c own h = ap (with_option es) own ∙ ap (λ (b : Bool). if b then es else es ++ c ∷ []) h

-- an entry stays among the entries
seen_then : (p : Cell → Bool) (es : List Cell) (c : Cell) → list_any p es ≡ true → list_any p (with_entry es c) ≡ true
seen_then p es c h = by (entry_in c)
  where
    front : (xs ys : List Cell) → list_any p xs ≡ true → list_any p (xs ++ ys) ≡ true
    front xs ys k = any_at p (xs ++ ys) ∙ ap is_some (kept_at p xs ys k) ∙ sym (any_at p xs) ∙ k

    new : (d : Cell) (b : Bool) → list_any p (if b then es else es ++ d ∷ []) ≡ true
    new d true = h
    new d false = front es (d ∷ []) h

    by : (o : Option Cell) → list_any p (with_option es o) ≡ true
    by None = h
    by (Some d) = new d (list_any (is_entry d) es)

seen_on : (p : Cell → Bool) (es cells : List Cell) → list_any p es ≡ true → list_any p (with_entries es cells) ≡ true
unfolding with_entries
seen_on p es [] h = h
seen_on p es (c ∷ cells) h = seen_on p (with_entry es c) cells (seen_then p es c h)

seen_now : (es : List Cell) (c : Cell) → entry_in c ≡ Some c → is_entry c c ≡ true → list_any (is_entry c) (with_entry es c) ≡ true
seen_now es c own same = by (list_any (is_entry c) es) refl
  where
    by : (b : Bool) → list_any (is_entry c) es ≡ b → list_any (is_entry c) (with_entry es c) ≡ true
    by true h = rw (with_seen es c own h) h
    by false h = rw (with_unseen es c own h) (any_at (is_entry c) (es ++ c ∷ []) ∙ ap is_some (last_at (is_entry c) es c h same))

-- the index of a cell stays if entries come after those that have it, or if it has none
stays_at : (es more : List Cell) (cells : List Cell) (c : Cell) → entry_index (with_entries (with_entry es c) cells ++ more) c ≡ entry_index (with_entries (with_entry es c) cells) c
stays_at es more cells null = ap place_or_zero (never_at (is_entry null) _ (λ x. refl) ∙ sym (never_at (is_entry null) _ (λ x. refl)))
stays_at es more cells (boolean b) =
    ap place_or_zero (kept_at (is_entry (boolean b)) _ more (seen_on (is_entry (boolean b)) _ cells (seen_now es (boolean b) refl (booleans_same b))))
stays_at es more cells (number n) =
    ap place_or_zero (kept_at (is_entry (number n)) _ more (seen_on (is_entry (number n)) _ cells (seen_now es (number n) refl (numbers_same n))))
stays_at es more cells (text t) =
    ap place_or_zero (kept_at (is_entry (text t)) _ more (seen_on (is_entry (text t)) _ cells (seen_now es (text t) refl (bytes_same t))))
stays_at es more cells (bytes t) =
    ap place_or_zero (kept_at (is_entry (bytes t)) _ more (seen_on (is_entry (bytes t)) _ cells (seen_now es (bytes t) refl (bytes_same t))))
stays_at es more cells (items cs) = ap place_or_zero (never_at (is_entry (items cs)) _ (λ x. refl) ∙ sym (never_at (is_entry (items cs)) _ (λ x. refl)))
stays_at es more cells (parts cs) = ap place_or_zero (never_at (is_entry (parts cs)) _ (λ x. refl) ∙ sym (never_at (is_entry (parts cs)) _ (λ x. refl)))

all_stay : (index : Index) (es more cells : List Cell) → flat_map (index_bytes index (with_entries es cells ++ more)) cells ≡ flat_map (index_bytes index (with_entries es cells)) cells
unfolding with_entries
all_stay index es more [] = refl
all_stay index es more (c ∷ cells) =
    let here = stays_at es more cells c in
    let rest = all_stay index (with_entry es c) more cells in
    λ j. little_bytes (index.bits / 8) (here j) ++ rest j

-- ---- columns

coded_as : (index : Index) (kind : Kind) (cells es : List Cell) (values : ColumnValues) (d : Coding) → entries_of cells ≡ es → bits_of d.index.width ≡ index.bits → d.index.signed ≡ index.signed
    → d.indices.items ≡ flat_map (index_bytes index es) cells → Takes kind es values → list_all (fits_kind kind) es ≡ true → key_list d.keys.keys ≡ map (key_of kind) es
    → is_within (entry_limit index) (length es) ≡ true → IsOf kind d.one → IsCoded index kind cells values d
coded_as index kind cells es values d e bits signed indices entries fit keys few one = record {
  bits = bits;
  signed = signed;
  indices = indices ∙ ap (λ (xs : List Cell). flat_map (index_bytes index xs) cells) (sym e);
  entries = subst (λ (xs : List Cell). Takes kind xs values) (sym e) entries;
  fit = ap (list_all (fits_kind kind)) e ∙ fit;
  keys = keys ∙ ap (map (key_of kind)) (sym e);
  few = ap (λ (xs : List Cell). is_within (entry_limit index) (length xs)) e ∙ few;
  one = one;
}

within_none : (o : Option ℕ) → is_within o 0 ≡ true
within_none None = refl
within_none (Some m) = le-leb 0 m (omega arith)

pub none_coded : (index : Index) (kind : Kind) (values : ColumnValues) (d : Coding) → bits_of d.index.width ≡ index.bits → d.index.signed ≡ index.signed → d.indices.items ≡ [] → Takes kind [] values
    → d.keys.keys ≡ [] → Takes kind [] d.one → IsCoded index kind [] values d
unfolding with_entries
none_coded index kind values d bits signed indices entries keys one =
    coded_as index kind [] [] values d refl bits signed indices entries refl (ap key_list keys) (within_none (entry_limit index)) one.kind_is

-- the buffers of the one value have another
pub with_one : (index : Index) (kind : Kind) (cells : List Cell) (values : ColumnValues) (d : Coding) (one : ColumnValues) → IsCoded index kind cells values d → IsOf kind one
    → IsCoded index kind cells values (record { index = d.index; indices = d.indices; keys = d.keys; one = one })
with_one index kind cells values d one h is = record {
  bits = h.bits;
  signed = h.signed;
  indices = h.indices;
  entries = h.entries;
  fit = h.fit;
  keys = h.keys;
  few = h.few;
  one = is;
}

index_more : (index : Index) (width : BitWidth) (es cells : List Cell) (c : Cell) (place : ℕ) (old new : List ℕ) → bits_of width ≡ index.bits → old ≡ flat_map (index_bytes index es) cells
    → entry_index es c ≡ place → new ≡ old ++ little_bytes (bits_of width / 8) place → new ≡ flat_map (index_bytes index es) (cells ++ c ∷ [])
index_more index width es cells c place old new bits is at pushed =
    one_joined (index_bytes index es) cells c old new is (pushed ∙ (λ j. old ++ little_bytes (bits j / 8) (sym at j)))

pub plain_null : (old new : ColumnValues) → TakesNull old new → TakesNullCell old None new None
plain_null old new takes None kind cells h = takes kind cells h
plain_null old new takes (Some index) kind cells h = absurd h

null_coded : (index : Index) (kind : Kind) (cells : List Cell) (values : ColumnValues) (d : Coding) (indices : Vec ℕ) → indices.items ≡ d.indices.items ++ little_bytes (bits_of d.index.width / 8) 0
    → IsCoded index kind cells values d → IsCoded index kind (cells ++ null ∷ []) values (record { index = d.index; indices = indices; keys = d.keys; one = d.one })
null_coded index kind cells values d indices pushed h =
    let es = entries_of cells in
    let at : entry_index es null ≡ 0 = ap place_or_zero (never_at (is_entry null) es (λ x. refl)) in
    coded_as index kind (cells ++ null ∷ []) es values (record { index = d.index; indices = indices; keys = d.keys; one = d.one }) (entries_more cells null) h.bits h.signed
    (index_more index d.index.width es cells null 0 d.indices.items indices.items h.bits h.indices at pushed) h.entries h.fit h.keys h.few h.one

pub coded_null : (values : ColumnValues) (d : Coding) (indices : Vec ℕ) → indices.items ≡ d.indices.items ++ little_bytes (bits_of d.index.width / 8) 0
    → TakesNullCell values (Some d) values (Some (record { index = d.index; indices = indices; keys = d.keys; one = d.one }))
coded_null values d indices pushed None kind cells h = absurd h
coded_null values d indices pushed (Some index) kind cells h = null_coded index kind cells values d indices pushed h

-- ---- one more value

found_at : (index : Index) (kind : Kind) (cells : List Cell) (c : Cell) (values : ColumnValues) (d : Coding) → IsCoded index kind cells values d → fits_kind kind c ≡ true
    → position (is_entry c) (entries_of cells) ≡ position (bytes_eq (key_of kind c)) (key_list d.keys.keys)
found_at index kind cells c values d h fits =
    keys_at kind c (entries_of cells) (own_flat kind d.one h.one) (own_width kind d.one h.one) fits h.fit ∙ ap (position (bytes_eq (key_of kind c))) (sym h.keys)

stood_coded : (index : Index) (kind : Kind) (cells : List Cell) (c : Cell) (values : ColumnValues) (d : Coding) (indices : Vec ℕ) (place : ℕ) → IsCoded index kind cells values d
    → fits_kind kind c ≡ true → position (bytes_eq (key_of kind c)) (key_list d.keys.keys) ≡ Some place → indices.items ≡ d.indices.items ++ little_bytes (bits_of d.index.width / 8) place
    → IsCoded index kind (cells ++ c ∷ []) values (record { index = d.index; indices = indices; keys = d.keys; one = d.one })
stood_coded index kind cells c values d indices place h fits found pushed =
    let es = entries_of cells in
    let here : position (is_entry c) es ≡ Some place = found_at index kind cells c values d h fits ∙ found in
    let among : list_any (is_entry c) es ≡ true = any_at (is_entry c) es ∙ ap is_some here in
    let value = fitting_value kind c (own_flat kind d.one h.one) fits in
    coded_as index kind (cells ++ c ∷ []) es values (record { index = d.index; indices = indices; keys = d.keys; one = d.one }) (entries_more cells c ∙ with_seen es c value.own among) h.bits h.signed
    (index_more index d.index.width es cells c place d.indices.items indices.items h.bits h.indices (ap place_or_zero here) pushed) h.entries h.fit h.keys h.few h.one

last_coded : (index : Index) (kind : Kind) (cells : List Cell) (c : Cell) (values values2 : ColumnValues) (d new : Coding) (place : ℕ) → IsCoded index kind cells values d → fits_kind kind c ≡ true
    → ComesLast d.index (key_of kind c) place d.keys.keys new.keys.keys values values2 → new.index ≡ d.index → new.one ≡ d.one
    → new.indices.items ≡ d.indices.items ++ little_bytes (bits_of d.index.width / 8) place → IsCoded index kind (cells ++ c ∷ []) values2 new
last_coded index kind cells c values values2 d new place h fits last same one pushed =
    let es = entries_of cells in
    let here : position (is_entry c) es ≡ None = found_at index kind cells c values d h fits ∙ last.missing in
    let among : list_any (is_entry c) es ≡ false = any_at (is_entry c) es ∙ ap is_some here in
    let value = fitting_value kind c (own_flat kind d.one h.one) fits in
    let count : length d.keys.keys ≡ length es = sym (length-map d.keys.keys (λ k. k.items)) ∙ ap length h.keys ∙ length-map es (key_of kind) in
    let longer : length (es ++ c ∷ []) ≡ length es + 1 = length-append es (c ∷ []) in
    let size : place + 1 ≡ length (es ++ c ∷ []) = omega (arith, last.last, count, longer) in
    let type : index_type d.index ≡ index = (λ j. record { bits = h.bits j; signed = h.signed j }) in
    let at : entry_index (es ++ c ∷ []) c ≡ place = ap place_or_zero (last_at (is_entry c) es c among value.same) ∙ sym count ∙ sym last.last in
    let before : d.indices.items ≡ flat_map (index_bytes index (es ++ c ∷ [])) cells = h.indices ∙ sym (all_stay index [] (c ∷ []) cells) in
    coded_as index kind (cells ++ c ∷ []) (es ++ c ∷ []) values2 new (entries_more cells c ∙ with_unseen es c value.own among)
    (ap (λ (i : IntegerType). bits_of i.width) same ∙ h.bits)
    (ap (λ (i : IntegerType). i.signed) same ∙ h.signed)
    (index_more index d.index.width (es ++ c ∷ []) cells c place d.indices.items new.indices.items h.bits before at pushed)
    (last.takes kind es c h.entries refl)
    (list_all-append (fits_kind kind) es (c ∷ []) ∙ and_from _ _ h.fit (and_from _ _ fits refl))
    (last.more ∙ ap (λ (xs : List (List ℕ)). xs ++ key_of kind c ∷ []) h.keys ∙ sym (map-append (key_of kind) es (c ∷ [])))
    ((λ j. is_within (entry_limit (sym type j)) (sym size j)) ∙ last.room)
    (subst (λ (v : ColumnValues). IsOf kind v) (sym one) h.one)

key_coded : (key : List ℕ) (old new : Coding) (values values2 : ColumnValues) → PushesPlace old.index key old.indices.items new.indices.items old.keys.keys new.keys.keys values values2
    → new.index ≡ old.index → new.one ≡ old.one → (index : Index) (kind : Kind) (cells : List Cell) (c : Cell) → IsCoded index kind cells values old → key ≡ key_of kind c → fits_kind kind c ≡ true
    → IsCoded index kind (cells ++ c ∷ []) values2 new
key_coded key old new values values2 p same one index kind cells c h is fits = elim p.placed [
  | inl stood ↦
      let found = rw is at stood.found in
      let made = stood_coded index kind cells c values old new.indices p.place h fits found p.more in
      coded_as index kind (cells ++ c ∷ []) (entries_of (cells ++ c ∷ [])) values2 new refl (ap (λ (i : IntegerType). bits_of i.width) same ∙ h.bits) (ap (λ (i : IntegerType). i.signed) same ∙ h.signed)
      made.indices
      (subst (λ (v : ColumnValues). Takes kind (entries_of (cells ++ c ∷ [])) v) (sym stood.still) made.entries)
      made.fit
      (ap key_list stood.same ∙ made.keys)
      made.few
      (subst (λ (v : ColumnValues). IsOf kind v) (sym one) h.one)
  | inr last ↦
      last_coded index kind cells c values values2 old new p.place h fits (subst (λ (k : List ℕ). ComesLast old.index k p.place old.keys.keys new.keys.keys values values2) is last) same one p.more
]

pub value_coded : (old new : Coding) (values values2 : ColumnValues) → PushesPlace old.index (value_bytes old.one) old.indices.items new.indices.items old.keys.keys new.keys.keys values values2
    → new.index ≡ old.index → new.one ≡ old.one → Codes old values new values2
value_coded old new values values2 p same one index kind cells c h t fits =
    key_coded (value_bytes old.one) old new values values2 p same one index kind cells c h (value_key kind c old.one t fits) fits

-- a string of a type of strings
record IsString (date_form : DateForm) (kind : Kind) (t : List ℕ) : Type 0 where
  read : cell_of_text date_form kind t ≡ Ok (text t)
  weighs : kind_weight kind (text t) ≡ 1 + length t
  key : t ≡ key_of kind (text t)
  fits : fits_kind kind (text t) ≡ true

string_is : (date_form : DateForm) (kind : Kind) (values : ColumnValues) (t : List ℕ) → has_texts values ≡ true → IsOf kind values → is_utf8 t ≡ true → IsString date_form kind t
unfolding cell_of_text kind_weight fits_kind
string_is date_form texts (Texts width offsets contents) t strings is utf8 = record { read = rw utf8 refl; weighs = refl; key = refl; fits = utf8 }
string_is date_form large_texts (Texts width offsets contents) t strings is utf8 = record { read = rw utf8 refl; weighs = refl; key = refl; fits = utf8 }
string_is date_form _ (Texts width offsets contents) t strings is utf8 = absurd is
string_is date_form _ _ t strings is utf8 = absurd cc

pub utf8_coded : (date_form : DateForm) (t : List ℕ) (old new : Coding) (values values2 : ColumnValues) → has_texts values ≡ true → is_utf8 t ≡ true
    → PushesPlace old.index t old.indices.items new.indices.items old.keys.keys new.keys.keys values values2 → new.index ≡ old.index → new.one ≡ old.one
    → TakesCodedText date_form t (1 + length t) old values new values2
utf8_coded date_form t old new values values2 strings utf8 p same one index kind cells h =
    let own = string_is date_form kind values t strings h.entries.kind_is utf8 in
    record { taken = text t; read = own.read; there = refl; weighs = own.weighs; holds = key_coded t old new values values2 p same one index kind cells (text t) h own.key own.fits }

-- ---- texts

pub fitting_fits : (kind : Kind) (e : Refusal) (c x : Cell) → fitting kind e c ≡ Ok x → fits_kind kind x ≡ true
fitting_fits kind e c x h = by (fits_kind kind c) refl h
  where
    by : (b : Bool) → fits_kind kind c ≡ b → (if b then Ok c else Err e) ≡ Ok x → fits_kind kind x ≡ true
    by true is k = (let same : c ≡ x = cc in rw (← same) is)
    by false is k = absurd cc

pub number_fits_kind : (kind : Kind) (o : Option ℤ) (x : Cell) → number_cell kind o ≡ Ok x → fits_kind kind x ≡ true
number_fits_kind kind None x h = absurd cc
number_fits_kind kind (Some n) x h = fitting_fits kind OutOfRange (number n) x h

pub stated_fits_kind : (kind : Kind) (r : Result ℤ DateFault) (x : Cell) → spelled_cell kind r ≡ Ok x → fits_kind kind x ≡ true
stated_fits_kind kind (Err NotADate) x h = absurd cc
stated_fits_kind kind (Err WrongOffset) x h = absurd cc
stated_fits_kind kind (Ok n) x h = fitting_fits kind OutOfRange (number n) x h

dated_fits : (date_form : DateForm) (kind : Kind) (t : List ℕ) (x : Cell) → dated_cell date_form kind t ≡ Ok x → fits_kind kind x ≡ true
dated_fits Numbers kind t x h = number_fits_kind kind (typed_integer t) x h
dated_fits Iso kind t x h = stated_fits_kind kind (spelled kind t) x h

pub bytes_fit_kind : (kind : Kind) (r : Result (List ℕ) FromHexError) (x : Cell) → bytes_cell kind r ≡ Ok x → fits_kind kind x ≡ true
bytes_fit_kind kind (Err e) x h = absurd cc
bytes_fit_kind kind (Ok t) x h = fitting_fits kind FixedWidth (bytes t) x h

boolean_fits : (o : Option Bool) (x : Cell) → boolean_cell o ≡ Ok x → fits_kind booleans x ≡ true
unfolding fits_kind
boolean_fits None x h = absurd cc
boolean_fits (Some b) x h = (let same : boolean b ≡ x = cc in rw (← same) refl)

pub text_fits : (date_form : DateForm) (kind : Kind) (t : List ℕ) (x : Cell) → is_nested kind ≡ false → cell_of_text date_form kind t ≡ Ok x → fits_kind kind x ≡ true
unfolding cell_of_text
text_fits date_form booleans t x flat h = boolean_fits (typed_boolean t) x h
text_fits date_form (integers bits signed) t x flat h = number_fits_kind (integers bits signed) (typed_integer t) x h
text_fits date_form (dates unit) t x flat h = dated_fits date_form (dates unit) t x h
text_fits date_form (timestamps unit timezone) t x flat h = dated_fits date_form (timestamps unit timezone) t x h
text_fits date_form texts t x flat h = fitting_fits texts NotUtf8 (text t) x h
text_fits date_form large_texts t x flat h = fitting_fits large_texts NotUtf8 (text t) x h
text_fits date_form binaries t x flat h = bytes_fit_kind binaries (decode_of t) x h
text_fits date_form large_binaries t x flat h = bytes_fit_kind large_binaries (decode_of t) x h
text_fits date_form (fixed_binaries size) t x flat h = bytes_fit_kind (fixed_binaries size) (decode_of t) x h
text_fits date_form _ t x flat h = absurd cc

-- the buffers of the one value were cleared and then have the value that is coded
pub text_coded : (date_form : DateForm) (t : List ℕ) (weight : ℕ) (old new : Coding) (values values2 : ColumnValues) (cleared one : ColumnValues) → Clears old.one cleared → TakesText date_form t weight cleared one
    → Codes (record { index = old.index; indices = old.indices; keys = old.keys; one = one }) values new values2 → TakesCodedText date_form t weight old values new values2
text_coded date_form t weight old new values values2 cleared one clears takes codes index kind cells h =
    let own = takes kind [] (clears kind h.one) in
    let fits = text_fits date_form kind t own.taken (own_flat kind old.one h.one) own.read in
    record {
      taken = own.taken;
      read = own.read;
      there = own.there;
      weighs = own.weighs;
      holds = codes index kind cells own.taken (with_one index kind cells values old one h own.takes.kind_is) own.takes fits;
    }

pub plain_text : (date_form : DateForm) (t : List ℕ) (weight : ℕ) (old new : ColumnValues) → TakesText date_form t weight old new → TakesField date_form t weight old None new None
plain_text date_form t weight old new takes None kind cells h = (let own = takes kind cells h in record { taken = own.taken; read = own.read; there = own.there; weighs = own.weighs; holds = own.takes })
plain_text date_form t weight old new takes (Some index) kind cells h = absurd h

pub coded_text : (date_form : DateForm) (t : List ℕ) (weight : ℕ) (old new : Coding) (values values2 : ColumnValues) → TakesCodedText date_form t weight old values new values2 → TakesField date_form t weight values (Some old) values2 (Some new)
coded_text date_form t weight old new values values2 takes None kind cells h = absurd h
coded_text date_form t weight old new values values2 takes (Some index) kind cells h = takes index kind cells h

-- ---- what columns hold is of their type

pub own_kind : (dictionary : Option Index) (kind : Kind) (cells : List Cell) (values : ColumnValues) (o : Option Coding) → HoldsCells dictionary kind cells values o → IsOf kind values
own_kind None kind cells values None h = h.kind_is
own_kind (Some index) kind cells values (Some d) h = h.entries.kind_is
own_kind None kind cells values (Some d) h = absurd h
own_kind (Some index) kind cells values None h = absurd h

-- ---- what a call tells, if it appended the cell

pub plain_null_step : {E : Type 0} (old new : ColumnValues) (r : Result (Unit {0}) E) → OnOk r (TakesNull old new) → OnOk r (TakesNullCell old None new None)
plain_null_step old new (Err e) h = tt
plain_null_step old new (Ok u) h = plain_null old new h

pub coded_null_step : {E : Type 0} (values : ColumnValues) (d : Coding) (indices : Vec ℕ) (r : Result (Unit {0}) E) → OnOk r (indices.items ≡ d.indices.items ++ little_bytes (bits_of d.index.width / 8) 0)
    → OnOk r (TakesNullCell values (Some d) values (Some (record { index = d.index; indices = indices; keys = d.keys; one = d.one })))
coded_null_step values d indices (Err e) h = tt
coded_null_step values d indices (Ok u) h = coded_null values d indices h

pub plain_text_step : {E : Type 0} (date_form : DateForm) (t : List ℕ) (old new : ColumnValues) (r : Result (Option ℕ) E) → IfOk r (λ taken. IfSome taken (λ weight. TakesText date_form t weight old new))
    → IfOk r (λ taken. IfSome taken (λ weight. TakesField date_form t weight old None new None))
plain_text_step date_form t old new (Err e) h = tt
plain_text_step date_form t old new (Ok None) h = tt
plain_text_step date_form t old new (Ok (Some weight)) h = plain_text date_form t weight old new h

pub coded_text_step : {E : Type 0} (date_form : DateForm) (t : List ℕ) (old new : Coding) (values values2 : ColumnValues) (r : Result (Option ℕ) E)
    → IfOk r (λ taken. IfSome taken (λ weight. TakesCodedText date_form t weight old values new values2)) → IfOk r (λ taken. IfSome taken (λ weight. TakesField date_form t weight values (Some old) values2 (Some new)))
coded_text_step date_form t old new values values2 (Err e) h = tt
coded_text_step date_form t old new values values2 (Ok None) h = tt
coded_text_step date_form t old new values values2 (Ok (Some weight)) h = coded_text date_form t weight old new values values2 h

-- ---- keys as the code has them

mapped_from : {X Y : Type 0} (f : X → Y) (p : Y → Bool) (xs : List X) (i : ℕ) → position_from (λ x. p (f x)) i xs ≡ position_from p i (map f xs)
mapped_from f p [] i = refl
mapped_from f p (x ∷ xs) i = ap (λ (r : Option ℕ). if p (f x) then Some i else r) (mapped_from f p xs (i + 1))

pub key_place : (key : List ℕ) (keys : List (Vec ℕ)) → position (λ k. bytes_eq key k.items) keys ≡ position (bytes_eq key) (key_list keys)
key_place key keys =
    position_from-zero (λ k. bytes_eq key k.items) keys ∙ mapped_from (λ (k : Vec ℕ). k.items) (bytes_eq key) keys 0 ∙ sym (position_from-zero (bytes_eq key) (key_list keys))

pub key_named : (key : List ℕ) (keys : List (Vec ℕ)) → list_any (λ k. bytes_eq key k.items) keys ≡ has_name (key_list keys) key
key_named key [] = refl
key_named key (k ∷ keys) = ap (λ b. bytes_eq key k.items || b) (key_named key keys)
