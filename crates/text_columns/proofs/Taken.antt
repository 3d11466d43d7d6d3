-- Cells that come after others, by the buffers of their column.
use Rattle.std.specs.Prelude.{ℤ, if◌then◌else◌, replicate, Option, Some, None, Ok, Err, Result, IfOk, IfSome, bytes_eq, ◌&&◌}
use Rattle.std.specs.List.{flat_map}
use Rattle.std.specs.Str.{is_utf8}
use Rattle.std.specs.Global.{Vec}
use Rattle.std.proofs.Common.{◌≡◌, ℕ, ◌+◌, ◌/◌, Bool, true, false, List, [], ◌∷◌, ◌++◌, length, map, refl, arith, ap, sym, subst, ◌∙◌, append-nil, length-append}
use Rattle.std.proofs.lemmas.Bool.{eq-eqb}
use Rattle.std.proofs.lemmas.List.{map-append}
use Rattle.std.proofs.lemmas.List.Concat.{flat_map-append}
use Rattle.byteorder.specs.Endian.{little_bytes}
use Rattle.arrow_schema.specs.Column.{Kind, days, date_milliseconds, booleans, integers, dates, timestamps, nulls, texts, large_texts, binaries, large_binaries, fixed_binaries, column}
use Rattle.arrow_schema.specs.View.{bits_of}
use Rattle.arrow_schema.specs.declared.types.IntegerType.{IntegerType}
use Rattle.cells.specs.Cell.{Cell, null, boolean, number, text, bytes}
use Rattle.cells.specs.Fit.{date_bits, fits_kind, in_range}
use Rattle.cells.specs.Nulls.{is_there}
use Rattle.cells.specs.Typed.{typed_integer}
use Rattle.cells.specs.Weight.{kind_weight, weight}
use Rattle.columns.specs.Built.{contents_of, fixed_bytes, integer_bytes, is_set, offsets_of, sums_from}
use Rattle.columns.specs.Offsets.{width_of}
use Rattle.columns.specs.declared.numbers.OffsetWidth.{OffsetWidth}
use Rattle.text_import.specs.Flat.{bytes_cell, cell_of_text, field_cell, number_cell, spelled_cell}
use Rattle.text_columns.specs.declared.column_values.ColumnValues.{ColumnValues}
use Rattle.text_columns.specs.declared.column_values.ColumnValues.TheVariants.{Nulls, Booleans, Integers, Texts, Binaries, FixedBinaries}
use Rattle.text_columns.specs.declared.builder.ColumnBuilder.{Flat}
use Rattle.text_columns.specs.declared.flat.FlatBuilder.{FlatBuilder}
use Rattle.text_columns.specs.inner.Kept.{AppendsBoolean, AppendsBytes, AppendsFixed, AppendsRead, AppendsSpelled, AppendsStated, HasTaken, HoldContents, Holds, IsOf, KeepsField, Takes, TakesField, TakesNull, TakesText, dates_in, null_weight}
use Rattle.text_columns.specs.inner.Lines.{KeepsNull}
use Rattle.text_import.specs.FieldForm.{PlainFieldForm}
use Rattle.text_import.specs.declared.refusal.Refusal.TheVariants.{FixedWidth, OutOfRange}
use Rattle.civil_days.specs.Typed.{spelled_in, unit_of, zone_of_column}
use Rattle.civil_days.specs.declared.date_column.DateColumn.{DateColumn}
use Rattle.civil_days.specs.declared.date_column.DateColumn.TheVariants.{Days, Milliseconds, Times}
use Rattle.civil_days.specs.declared.date_column.DateFault.{DateFault}
use Rattle.civil_days.specs.declared.date_form.DateForm.{DateForm}
use Rattle.civil_days.specs.declared.date_form.DateForm.TheVariants.{Numbers, Iso}

-- one more cell of a list that is mapped
pub one_mapped : {A : Type 0} (f : Cell → A) (cells : List Cell) (c : Cell) (old new : List A) → old ≡ map f cells → new ≡ old ++ f c ∷ [] → new ≡ map f (cells ++ c ∷ [])
one_mapped f cells c old new is e = e ∙ rw is (sym (map-append f cells (c ∷ [])))

pub one_joined : (f : Cell → List ℕ) (cells : List Cell) (c : Cell) (old new : List ℕ) → old ≡ flat_map f cells → new ≡ old ++ f c → new ≡ flat_map f (cells ++ c ∷ [])
one_joined f cells c old new is e = e ∙ rw (is, flat_map-append, append-nil) refl

-- one more offset
module _ {A : Type 0} (f : Cell → List A) where
  sums_more : (start : ℕ) (cells : List Cell) (c : Cell)
      → sums_from start (map (λ d. length (f d)) (cells ++ c ∷ [])) ≡ sums_from start (map (λ d. length (f d)) cells) ++ (start + length (flat_map f cells) + length (f c)) ∷ []
  sums_more start [] c = let e : start + length (f c) ≡ start + 0 + length (f c) = omega arith in rw e refl
  sums_more start (d ∷ cells) c =
      let size = length-append (f d) (flat_map f cells) in
      let e : start + length (f d) + length (flat_map f cells) + length (f c) ≡ start + length (f d ++ flat_map f cells) + length (f c) = omega arith in
      ap (λ (xs : List ℕ). start ∷ xs) (sums_more (start + length (f d)) cells c ∙ ap (λ (n : ℕ). sums_from (start + length (f d)) (map (λ d. length (f d)) cells) ++ n ∷ []) e)

  pub offset_more : (width : ℕ) (cells : List Cell) (c : Cell)
      → offsets_of width (map (λ d. length (f d)) (cells ++ c ∷ [])) ≡ offsets_of width (map (λ d. length (f d)) cells) ++ little_bytes width (length (flat_map f cells) + length (f c))
  offset_more width cells c =
      let zero_plus : 0 + length (flat_map f cells) + length (f c) ≡ length (flat_map f cells) + length (f c) = omega arith in
      ap (flat_map (little_bytes width)) (sums_more 0 cells c)
      ∙ flat_map-append (little_bytes width) (sums_from 0 (map (λ d. length (f d)) cells)) ((0 + length (flat_map f cells) + length (f c)) ∷ [])
      ∙ ap (λ (xs : List ℕ). offsets_of width (map (λ d. length (f d)) cells) ++ xs) (append-nil (little_bytes width (0 + length (flat_map f cells) + length (f c))) ∙ ap (little_bytes width) zero_plus)

-- a text or a binary comes after others, or a null, which has no bytes
pub contents_hold : (width : OffsetWidth) (cells : List Cell) (c : Cell) (offsets contents newer longer : List ℕ) → HoldContents width cells offsets contents → longer ≡ contents ++ contents_of c
    → newer ≡ offsets ++ little_bytes (width_of width) (length contents + length (contents_of c)) → HoldContents width (cells ++ c ∷ []) newer longer
contents_hold width cells c offsets contents newer longer holds more end =
    (rw (holds.0, holds.1) at end ∙ sym (offset_more contents_of (width_of width) cells c), one_joined contents_of cells c contents longer holds.1 more)

-- the type of values is theirs whatever they hold
texts_of : (kind : Kind) (width : OffsetWidth) (offsets contents newer longer : Vec ℕ) → IsOf kind (Texts width offsets contents) → IsOf kind (Texts width newer longer)
texts_of texts width offsets contents newer longer h = h
texts_of _ width offsets contents newer longer h = h

binaries_of : (kind : Kind) (width : OffsetWidth) (offsets contents newer longer : Vec ℕ) → IsOf kind (Binaries width offsets contents) → IsOf kind (Binaries width newer longer)
binaries_of binaries width offsets contents newer longer h = h
binaries_of _ width offsets contents newer longer h = h

fixed_of : (kind : Kind) (width : ℕ) (old new : Vec ℕ) → IsOf kind (FixedBinaries width old) → IsOf kind (FixedBinaries width new)
fixed_of (fixed_binaries size) width old new h = h
fixed_of _ width old new h = h

-- ---- nulls

no_contents : (width : OffsetWidth) (cells : List Cell) (old contents new : List ℕ) → new ≡ old ++ little_bytes (width_of width) (length contents) → HoldContents width cells old contents
    → HoldContents width (cells ++ null ∷ []) new contents
no_contents width cells old contents new e h =
    let same : length contents ≡ length contents + 0 = omega arith in
    contents_hold width cells null old contents new contents h (sym (append-nil contents)) (e ∙ ap (λ (n : ℕ). old ++ little_bytes (width_of width) n) same)

pub texts_null : (width : OffsetWidth) (old contents new : Vec ℕ) → new.items ≡ old.items ++ little_bytes (width_of width) (length contents.items) → TakesNull (Texts width old contents) (Texts width new contents)
texts_null width old contents new e = λ kind cells t. record {
  kind_is = texts_of kind width old contents new contents t.kind_is;
  holds = no_contents width cells old.items contents.items new.items e t.holds;
}

pub binaries_null : (width : OffsetWidth) (old contents new : Vec ℕ) → new.items ≡ old.items ++ little_bytes (width_of width) (length contents.items) → TakesNull (Binaries width old contents) (Binaries width new contents)
binaries_null width old contents new e = λ kind cells t. record {
  kind_is = binaries_of kind width old contents new contents t.kind_is;
  holds = no_contents width cells old.items contents.items new.items e t.holds;
}

pub fixed_null : (width : ℕ) (old new : Vec ℕ) → new.items ≡ old.items ++ replicate width 0 → TakesNull (FixedBinaries width old) (FixedBinaries width new)
fixed_null width old new e = λ kind cells t. record {
  kind_is = fixed_of kind width old new t.kind_is;
  holds = one_joined (fixed_bytes width) cells null old.items new.items t.holds e;
}

pub null_weighs : (kind : Kind) (values : ColumnValues) → IsOf kind values → kind_weight kind null ≡ null_weight values
unfolding kind_weight
null_weighs nulls Nulls h = refl
null_weighs (fixed_binaries size) (FixedBinaries width own) h = ap (λ (n : ℕ). 1 + n) (sym h)
null_weighs binaries (Binaries width offsets contents) h = refl
null_weighs large_binaries (Binaries width offsets contents) h = refl
null_weighs booleans (Booleans bits) h = refl
null_weighs (integers bits signed) (Integers i counted own) h = refl
null_weighs (dates unit) (Integers i counted own) h = refl
null_weighs (timestamps unit timezone) (Integers i counted own) h = refl
null_weighs texts (Texts width offsets contents) h = refl
null_weighs large_texts (Texts width offsets contents) h = refl
null_weighs _ Nulls h = absurd h
null_weighs _ (Booleans bits) h = absurd h
null_weighs _ (Integers i counted own) h = absurd h
null_weighs _ (Texts width offsets contents) h = absurd h
null_weighs _ (Binaries width offsets contents) h = absurd h
null_weighs _ (FixedBinaries width own) h = absurd h

-- ---- texts

pub boolean_taken : (date_form : DateForm) (t : List ℕ) (old new : Vec Bool) → AppendsBoolean t old.items new.items → TakesText date_form t 1 (Booleans old) (Booleans new)
unfolding cell_of_text kind_weight
boolean_taken date_form t old new a booleans cells k = record {
  taken = boolean a.spelled;
  read = rw a.read refl;
  there = refl;
  weighs = refl;
  takes = record { kind_is = tt; holds = one_mapped is_set cells (boolean a.spelled) old.items new.items k.holds a.bits };
}
boolean_taken date_form t old new a _ cells k = absurd k.kind_is

pub dates_read : (unit : _) (o : Option ℤ) (x : Cell) → number_cell (integers (date_bits unit) true) o ≡ Ok x → number_cell (dates unit) o ≡ Ok x
unfolding fits_kind
dates_read unit None x h = absurd cc
dates_read unit (Some n) x h = h

pub times_read : (unit : _) (timezone : List ℕ) (o : Option ℤ) (x : Cell) → number_cell (integers 64 true) o ≡ Ok x → number_cell (timestamps unit timezone) o ≡ Ok x
unfolding fits_kind
times_read unit timezone None x h = absurd cc
times_read unit timezone (Some n) x h = h

-- integers that come after others are held whatever they count
pub integer_holds : (i : IntegerType) (counted : Option DateColumn) (n : ℤ) (old new : Vec ℕ) (cells : List Cell) → new.items ≡ old.items ++ integer_bytes (bits_of i.width / 8) (number n)
    → Holds (Integers i counted old) cells → Holds (Integers i counted new) (cells ++ number n ∷ [])
integer_holds i counted n old new cells more h = one_joined (integer_bytes (bits_of i.width / 8)) cells (number n) old.items new.items h more

-- integers that count no dates are numbers in either form
pub undated : (date_form : DateForm) (counted : Option DateColumn) → counted ≡ None → dates_in date_form counted ≡ None
undated Numbers counted is = refl
undated Iso counted is = is

-- the number that a text states is a cell of a type that holds it
pub stated_cell : (kind : Kind) (r : Result ℤ DateFault) (n : ℤ) → r ≡ Ok n → fits_kind kind (number n) ≡ true → spelled_cell kind r ≡ Ok (number n)
stated_cell kind r n is fits = ap (spelled_cell kind) is ∙ ap (λ (b : Bool). if b then Ok (number n) else Err OutOfRange) fits

pub in_range_as : (bits own : ℕ) (signed : Bool) (n : ℤ) → bits ≡ own → signed ≡ true → in_range bits signed n ≡ true → in_range own true n ≡ true
in_range_as bits own signed n wide with_sign h = rw (wide, with_sign) at h

stated_holds : (dated : DateColumn) (i : IntegerType) (counted : Option DateColumn) (t : List ℕ) (old new : Vec ℕ) (cells : List Cell) (a : AppendsStated dated (bits_of i.width) i.signed t old.items new.items)
    → Holds (Integers i counted old) cells → Holds (Integers i counted new) (cells ++ number a.stated ∷ [])
stated_holds dated i counted t old new cells a h = integer_holds i counted a.stated old new cells a.appended.1 h

-- a column of integers takes numbers in either form
spelled_taken : (date_form : DateForm) (i : IntegerType) (counted : Option DateColumn) (t : List ℕ) (old new : Vec ℕ) (bits : ℕ) (signed : Bool) (cells : List Cell)
    → AppendsSpelled (bits_of i.width) i.signed t old.items new.items → Takes (integers bits signed) cells (Integers i counted old) → HasTaken date_form (integers bits signed) t 1 cells (Integers i counted new)
unfolding cell_of_text kind_weight
spelled_taken date_form i counted t old new bits signed cells a k = record {
  taken = number a.spelled;
  read = rw (k.kind_is.0, k.kind_is.1) at a.read;
  there = refl;
  weighs = refl;
  takes = record { kind_is = k.kind_is; holds = integer_holds i counted a.spelled old new cells a.bytes k.holds };
}

pub integer_taken : (date_form : DateForm) (i : IntegerType) (counted : Option DateColumn) (t : List ℕ) (old new : Vec ℕ)
    → AppendsRead (dates_in date_form counted) (bits_of i.width) i.signed t old.items new.items → TakesText date_form t 1 (Integers i counted old) (Integers i counted new)
unfolding cell_of_text kind_weight fits_kind
integer_taken date_form i counted t old new read (integers bits signed) cells k =
    spelled_taken date_form i counted t old new bits signed cells (subst (λ (o : Option DateColumn). AppendsRead o (bits_of i.width) i.signed t old.items new.items) (undated date_form counted k.kind_is.2) read) k
integer_taken Numbers i counted t old new a (dates unit) cells k = record {
  taken = number a.spelled;
  read = dates_read unit (typed_integer t) (number a.spelled) (rw (k.kind_is.0, k.kind_is.1) at a.read);
  there = refl;
  weighs = refl;
  takes = record { kind_is = k.kind_is; holds = integer_holds i counted a.spelled old new cells a.bytes k.holds };
}
integer_taken Iso i counted t old new read (dates days) cells k =
    let a : AppendsStated Days (bits_of i.width) i.signed t old.items new.items =
    subst (λ (o : Option DateColumn). AppendsRead o (bits_of i.width) i.signed t old.items new.items) k.kind_is.2 read in
    record {
      taken = number a.stated;
      read = stated_cell (dates days) (spelled_in Days t) a.stated a.read (in_range_as (bits_of i.width) _ i.signed a.stated k.kind_is.0 k.kind_is.1 a.appended.0);
      there = refl;
      weighs = refl;
      takes = record { kind_is = k.kind_is; holds = stated_holds Days i counted t old new cells a k.holds };
    }
integer_taken Iso i counted t old new read (dates date_milliseconds) cells k =
    let a : AppendsStated Milliseconds (bits_of i.width) i.signed t old.items new.items =
    subst (λ (o : Option DateColumn). AppendsRead o (bits_of i.width) i.signed t old.items new.items) k.kind_is.2 read in
    record {
      taken = number a.stated;
      read = stated_cell (dates date_milliseconds) (spelled_in Milliseconds t) a.stated a.read (in_range_as (bits_of i.width) _ i.signed a.stated k.kind_is.0 k.kind_is.1 a.appended.0);
      there = refl;
      weighs = refl;
      takes = record { kind_is = k.kind_is; holds = stated_holds Milliseconds i counted t old new cells a k.holds };
    }
integer_taken Numbers i counted t old new a (timestamps unit timezone) cells k = record {
  taken = number a.spelled;
  read = times_read unit timezone (typed_integer t) (number a.spelled) (rw (k.kind_is.0, k.kind_is.1) at a.read);
  there = refl;
  weighs = refl;
  takes = record { kind_is = k.kind_is; holds = integer_holds i counted a.spelled old new cells a.bytes k.holds };
}
integer_taken Iso i counted t old new read (timestamps unit timezone) cells k =
    let dated : DateColumn = Times (unit_of unit) (zone_of_column timezone) in
    let a : AppendsStated dated (bits_of i.width) i.signed t old.items new.items =
    subst (λ (o : Option DateColumn). AppendsRead o (bits_of i.width) i.signed t old.items new.items) k.kind_is.2 read in
    record {
      taken = number a.stated;
      read = stated_cell (timestamps unit timezone) (spelled_in dated t) a.stated a.read (in_range_as (bits_of i.width) _ i.signed a.stated k.kind_is.0 k.kind_is.1 a.appended.0);
      there = refl;
      weighs = refl;
      takes = record { kind_is = k.kind_is; holds = stated_holds dated i counted t old new cells a k.holds };
    }
integer_taken _ i counted t old new a _ cells k = absurd k.kind_is

pub text_taken : (date_form : DateForm) (width : OffsetWidth) (t : List ℕ) (offsets contents newer longer : Vec ℕ) → is_utf8 t ≡ true → longer.items ≡ contents.items ++ t
    → newer.items ≡ offsets.items ++ little_bytes (width_of width) (length contents.items + length t) → TakesText date_form t (1 + length t) (Texts width offsets contents) (Texts width newer longer)
unfolding cell_of_text kind_weight fits_kind
text_taken date_form width t offsets contents newer longer utf8 more end texts cells k = record {
  taken = text t;
  read = rw utf8 refl;
  there = refl;
  weighs = refl;
  takes = record { kind_is = k.kind_is; holds = contents_hold width cells (text t) offsets.items contents.items newer.items longer.items k.holds more end };
}
text_taken date_form width t offsets contents newer longer utf8 more end large_texts cells k = record {
  taken = text t;
  read = rw utf8 refl;
  there = refl;
  weighs = refl;
  takes = record { kind_is = k.kind_is; holds = contents_hold width cells (text t) offsets.items contents.items newer.items longer.items k.holds more end };
}
text_taken date_form width t offsets contents newer longer utf8 more end _ cells k = absurd k.kind_is

pub bytes_taken : (date_form : DateForm) (width : OffsetWidth) (t : List ℕ) (weight : ℕ) (offsets contents newer longer : Vec ℕ) → AppendsBytes width t weight offsets.items contents.items newer.items longer.items
    → TakesText date_form t weight (Binaries width offsets contents) (Binaries width newer longer)
unfolding cell_of_text kind_weight fits_kind
bytes_taken date_form width t weight offsets contents newer longer a binaries cells k = record {
  taken = bytes a.spelled;
  read = ap (bytes_cell binaries) a.read;
  there = refl;
  weighs = sym a.weighs;
  takes = record { kind_is = k.kind_is; holds = contents_hold width cells (bytes a.spelled) offsets.items contents.items newer.items longer.items k.holds a.more a.end };
}
bytes_taken date_form width t weight offsets contents newer longer a large_binaries cells k = record {
  taken = bytes a.spelled;
  read = ap (bytes_cell large_binaries) a.read;
  there = refl;
  weighs = sym a.weighs;
  takes = record { kind_is = k.kind_is; holds = contents_hold width cells (bytes a.spelled) offsets.items contents.items newer.items longer.items k.holds a.more a.end };
}
bytes_taken date_form width t weight offsets contents newer longer a _ cells k = absurd k.kind_is

-- bytes of the width that a type has
pub width_fits : (size : ℕ) (b : List ℕ) → length b ≡ size → bytes_cell (fixed_binaries size) (Ok b) ≡ Ok (bytes b)
unfolding fits_kind
width_fits size b e = ap (λ (fits : Bool). if fits then Ok (bytes b) else Err FixedWidth) (eq-eqb _ _ e)

pub fixed_taken : (date_form : DateForm) (width : ℕ) (t : List ℕ) (weight : ℕ) (old new : Vec ℕ) → AppendsFixed width t weight old.items new.items → TakesText date_form t weight (FixedBinaries width old) (FixedBinaries width new)
unfolding cell_of_text kind_weight
fixed_taken date_form width t weight old new a (fixed_binaries size) cells k = record {
  taken = bytes a.spelled;
  read = ap (bytes_cell (fixed_binaries size)) a.read ∙ width_fits size a.spelled (a.size ∙ k.kind_is);
  there = refl;
  weighs = ap (λ (n : ℕ). 1 + n) (sym k.kind_is) ∙ sym a.weighs;
  takes = record { kind_is = k.kind_is; holds = one_joined (fixed_bytes width) cells (bytes a.spelled) old.items new.items k.holds a.more };
}
fixed_taken date_form width t weight old new a _ cells k = absurd k.kind_is

-- ---- fields

-- a null of a column that has nulls is the cell of the null text
null_kept : (form : PlainFieldForm) (t : List ℕ) (weight : ℕ) (old new : FlatBuilder) → (old.nullable && bytes_eq t form.null_text) ≡ true → KeepsNull weight (Flat old) (Flat new)
    → KeepsField form t weight (Flat old) (Flat new)
unfolding field_cell
null_kept form t weight old new is keeps (column name nullable kind dictionary pairs) cells k =
    let test : (nullable && bytes_eq t form.null_text) ≡ true = rw k.0 at is in
    let h = keeps (column name nullable kind dictionary pairs) cells k in
    record { kept = null; read = rw test refl; weighs = h.1; keeps = h.2 }

pub null_field : {E : Type 0} (form : PlainFieldForm) (t : List ℕ) (old new : FlatBuilder) (r : Result (Option ℕ) E) → (old.nullable && bytes_eq t form.null_text) ≡ true
    → IfOk r (λ taken. IfSome taken (λ weight. KeepsNull weight (Flat old) (Flat new))) → IfOk r (λ taken. IfSome taken (λ weight. KeepsField form t weight (Flat old) (Flat new)))
null_field form t old new (Err e) is h = tt
null_field form t old new (Ok None) is h = tt
null_field form t old new (Ok (Some weight)) is h = null_kept form t weight old new is h

pub field_kept : (form : PlainFieldForm) (t : List ℕ) (weight : ℕ) (old new : FlatBuilder) → (old.nullable && bytes_eq t form.null_text) ≡ false → new.nullable ≡ old.nullable → new.valid.items ≡ old.valid.items ++ true ∷ []
    → TakesField form.dates t weight old.values old.coding new.values new.coding → KeepsField form t weight (Flat old) (Flat new)
unfolding field_cell weight
field_kept form t weight old new is same valid takes (column name nullable kind dictionary pairs) cells k =
    let test : (nullable && bytes_eq t form.null_text) ≡ false = rw k.0 at is in
    let h = takes dictionary kind cells k.2 in
    let there : old.valid.items ++ true ∷ [] ≡ old.valid.items ++ is_there h.taken ∷ [] = ap (λ (b : Bool). old.valid.items ++ b ∷ []) (sym h.there) in
    record {
      kept = h.taken;
      read = rw test h.read;
      weighs = h.weighs;
      keeps = (same ∙ k.0, one_mapped is_there cells h.taken old.valid.items new.valid.items k.1 (valid ∙ there), h.holds);
    }

-- ---- what a call tells, if it appended the cell

pub boolean_step : {E : Type 0} (date_form : DateForm) (t : List ℕ) (old new : Vec Bool) (r : Result (Option ℕ) E) → IfOk r (λ taken. IfSome taken (λ weight. (weight ≡ 1) × AppendsBoolean t old.items new.items))
    → IfOk r (λ taken. IfSome taken (λ weight. TakesText date_form t weight (Booleans old) (Booleans new)))
boolean_step date_form t old new (Err e) h = tt
boolean_step date_form t old new (Ok None) h = tt
boolean_step date_form t old new (Ok (Some weight)) h = rw h.0 (boolean_taken date_form t old new h.1)

pub integer_step : {E : Type 0} (date_form : DateForm) (i : IntegerType) (counted : Option DateColumn) (t : List ℕ) (old new : Vec ℕ) (r : Result (Option ℕ) E)
    → IfOk r (λ taken. IfSome taken (λ weight. (weight ≡ 1) × AppendsRead (dates_in date_form counted) (bits_of i.width) i.signed t old.items new.items))
    → IfOk r (λ taken. IfSome taken (λ weight. TakesText date_form t weight (Integers i counted old) (Integers i counted new)))
integer_step date_form i counted t old new (Err e) h = tt
integer_step date_form i counted t old new (Ok None) h = tt
integer_step date_form i counted t old new (Ok (Some weight)) h = rw h.0 (integer_taken date_form i counted t old new h.1)

pub text_step : {E : Type 0} (date_form : DateForm) (width : OffsetWidth) (t : List ℕ) (offsets contents newer longer : Vec ℕ) (r : Result (Option ℕ) E)
    → IfOk r (λ taken. IfSome taken (λ weight. (weight ≡ 1 + length t) × (is_utf8 t ≡ true) × (longer.items ≡ contents.items ++ t)
    × (newer.items ≡ offsets.items ++ little_bytes (width_of width) (length contents.items + length t))))
    → IfOk r (λ taken. IfSome taken (λ weight. TakesText date_form t weight (Texts width offsets contents) (Texts width newer longer)))
text_step date_form width t offsets contents newer longer (Err e) h = tt
text_step date_form width t offsets contents newer longer (Ok None) h = tt
text_step date_form width t offsets contents newer longer (Ok (Some weight)) h = rw h.0 (text_taken date_form width t offsets contents newer longer h.1 h.2 h.3)

pub bytes_step : {E : Type 0} (date_form : DateForm) (width : OffsetWidth) (t : List ℕ) (offsets contents newer longer : Vec ℕ) (r : Result (Option ℕ) E)
    → IfOk r (λ taken. IfSome taken (λ weight. AppendsBytes width t weight offsets.items contents.items newer.items longer.items))
    → IfOk r (λ taken. IfSome taken (λ weight. TakesText date_form t weight (Binaries width offsets contents) (Binaries width newer longer)))
bytes_step date_form width t offsets contents newer longer (Err e) h = tt
bytes_step date_form width t offsets contents newer longer (Ok None) h = tt
bytes_step date_form width t offsets contents newer longer (Ok (Some weight)) h = bytes_taken date_form width t weight offsets contents newer longer h

pub fixed_step : {E : Type 0} (date_form : DateForm) (width : ℕ) (t : List ℕ) (old new : Vec ℕ) (r : Result (Option ℕ) E) → IfOk r (λ taken. IfSome taken (λ weight. AppendsFixed width t weight old.items new.items))
    → IfOk r (λ taken. IfSome taken (λ weight. TakesText date_form t weight (FixedBinaries width old) (FixedBinaries width new)))
fixed_step date_form width t old new (Err e) h = tt
fixed_step date_form width t old new (Ok None) h = tt
fixed_step date_form width t old new (Ok (Some weight)) h = fixed_taken date_form width t weight old new h
