-- Cells of JSON tokens that come after others, by the buffers of their column.
use Rattle.std.specs.Prelude.{ℤ, Option, Some, None, Ok, Err, Result, IfOk, IfSome, option_map, option_and_then}
use Rattle.std.specs.Global.{Vec}
use Rattle.std.specs.Str.{is_utf8}
use Rattle.byteorder.specs.Endian.{little_bytes}
use Rattle.columns.specs.Offsets.{width_of}
use Rattle.std.proofs.Common.{◌≡◌, ℕ, ◌+◌, ◌/◌, Bool, true, false, List, [], ◌∷◌, ◌++◌, length, refl, ap, sym, subst, ◌∙◌}
use Rattle.hex.specs.Hex.{decode_of}
use Rattle.json.specs.Token.{Token}
use Rattle.json.specs.Token as tokens
use Rattle.serde_json.specs.Data.{Data, Num}
use Rattle.serde_json.specs.Data as json
use Rattle.serde_json.specs.Find.{as_integer}
use Rattle.serde_json.specs.Read.{number_of}
use Rattle.arrow_schema.specs.Column.{Column, Index, Kind, days, date_milliseconds, booleans, integers, dates, timestamps, texts, large_texts, binaries, large_binaries, fixed_binaries, column}
use Rattle.arrow_schema.specs.Limits.{is_nested}
use Rattle.arrow_schema.specs.Parts.{is_nullable_column}
use Rattle.arrow_schema.specs.View.{bits_of}
use Rattle.arrow_schema.specs.declared.types.IntegerType.{IntegerType}
use Rattle.cells.specs.Cell.{Cell, null, boolean, number, text, bytes}
use Rattle.cells.specs.Fit.{fits_kind}
use Rattle.cells.specs.Nulls.{is_there}
use Rattle.cells.specs.Weight.{kind_weight, weight}
use Rattle.columns.specs.Built.{fixed_bytes, integer_bytes, is_set}
use Rattle.columns.specs.declared.numbers.OffsetWidth.{OffsetWidth}
use Rattle.text_import.specs.Flat.{bytes_cell, cell_of_text}
use Rattle.text_import.specs.Objects.{boolean_in, bytes_in, cell_in, dated_in, kind_in, null_or_in, number_in, text_in}
use Rattle.text_import.specs.declared.refusal.Refusal.{Refusal}
use Rattle.text_import.specs.declared.refusal.Refusal.TheVariants.{NotUtf8}
use Rattle.text_columns.specs.declared.coding.Coding.{Coding}
use Rattle.text_columns.specs.declared.column_values.ColumnValues.{ColumnValues}
use Rattle.text_columns.specs.declared.column_values.ColumnValues.TheVariants.{Booleans, Integers, Texts, Binaries, FixedBinaries}
use Rattle.text_columns.specs.declared.builder.ColumnBuilder.{ColumnBuilder, Flat}
use Rattle.text_columns.specs.declared.flat.FlatBuilder.{FlatBuilder}
use Rattle.text_columns.specs.inner.Kept.{AppendsInteger, AppendsRead, AppendsStated, Clears, Codes, HasCell, Holds, HoldsCells, IsCoded, IsOf, Keeps, TakesCodedText, TakesNullCell, dates_in, has_texts, null_weight}
use Rattle.text_columns.specs.inner.Lines.{AppendsBinary, AppendsBit, AppendsCounted, AppendsFixedBinary, AppendsNumber, AppendsString, Completes, HasTakenValue, KeepsNull, KeepsToken, KeepsValue, TakesCellToken, TakesCodedToken, TakesNumber, TakesToken, TakesValue, integer_in, token_data}
use Rattle.text_columns.proofs.Coded.{bytes_fit_kind, number_fits_kind, fitting_fits, own_flat, own_kind, stated_fits_kind, with_one}
use Rattle.text_columns.proofs.Taken.{contents_hold, dates_read, in_range_as, integer_holds, null_weighs, one_joined, one_mapped, stated_cell, times_read, undated, width_fits}
use Rattle.civil_days.specs.declared.date_column.DateColumn.{DateColumn}
use Rattle.civil_days.specs.Typed.{spelled, spelled_in, unit_of, zone_of_column}
use Rattle.civil_days.specs.declared.date_column.DateColumn.TheVariants.{Days, Milliseconds, Times}
use Rattle.civil_days.specs.declared.date_form.DateForm.{DateForm}
use Rattle.civil_days.specs.declared.date_form.DateForm.TheVariants.{Numbers, Iso}

-- ---- values of a type

bit_taken : (date_form : DateForm) (b : Bool) (old new : Vec Bool) → new.items ≡ old.items ++ b ∷ [] → TakesValue date_form (json.boolean b) 1 (Booleans old) (Booleans new)
unfolding kind_in kind_weight
bit_taken date_form b old new e booleans so k = record {
  taken = boolean b;
  read = refl;
  there = refl;
  weighs = refl;
  takes = record { kind_is = tt; holds = one_mapped is_set so (boolean b) old.items new.items k.holds e };
}
bit_taken date_form b old new e _ so k = absurd k.kind_is

number_holds : (i : IntegerType) (counted : Option DateColumn) (t : List ℕ) (old new : Vec ℕ) (so : List Cell) (a : TakesNumber i t old.items new.items) → Holds (Integers i counted old) so
    → Holds (Integers i counted new) (so ++ number a.spelled ∷ [])
number_holds i counted t old new so a h = integer_holds i counted a.spelled old new so a.bytes h

-- integers that count dates are no numbers where texts are dates
number_taken : (date_form : DateForm) (i : IntegerType) (counted : Option DateColumn) (t : List ℕ) (old new : Vec ℕ) → dates_in date_form counted ≡ None → (a : TakesNumber i t old.items new.items) (n : Num)
    → as_integer n ≡ Some a.spelled → TakesValue date_form (json.number n) 1 (Integers i counted old) (Integers i counted new)
unfolding kind_in kind_weight
number_taken date_form i counted t old new none a n e (integers bits signed) so k = record {
  taken = number a.spelled;
  read = rw e (rw (k.kind_is.0, k.kind_is.1) at a.fits);
  there = refl;
  weighs = refl;
  takes = record { kind_is = k.kind_is; holds = number_holds i counted t old new so a k.holds };
}
number_taken Numbers i counted t old new none a n e (dates unit) so k = record {
  taken = number a.spelled;
  read = rw e (dates_read unit (Some a.spelled) (number a.spelled) (rw (k.kind_is.0, k.kind_is.1) at a.fits));
  there = refl;
  weighs = refl;
  takes = record { kind_is = k.kind_is; holds = number_holds i counted t old new so a k.holds };
}
number_taken Iso i counted t old new none a n e (dates days) so k = (let no : None ≡ Some Days = sym none ∙ k.kind_is.2 in absurd cc)
number_taken Iso i counted t old new none a n e (dates date_milliseconds) so k = (let no : None ≡ Some Milliseconds = sym none ∙ k.kind_is.2 in absurd cc)
number_taken Numbers i counted t old new none a n e (timestamps unit timezone) so k = record {
  taken = number a.spelled;
  read = rw e (times_read unit timezone (Some a.spelled) (number a.spelled) (rw (k.kind_is.0, k.kind_is.1) at a.fits));
  there = refl;
  weighs = refl;
  takes = record { kind_is = k.kind_is; holds = number_holds i counted t old new so a k.holds };
}
number_taken Iso i counted t old new none a n e (timestamps unit timezone) so k =
    (let no : None ≡ Some (Times (unit_of unit) (zone_of_column timezone)) = sym none ∙ k.kind_is.2 in absurd cc)
number_taken date_form i counted t old new none a n e _ so k = absurd k.kind_is

-- the text of a date or a time, in a column that counts them
module _ (i : IntegerType) (counted : Option DateColumn) (dated : DateColumn) (t : List ℕ) (old new : Vec ℕ) where
  stated_as : (own : DateColumn) → counted ≡ Some dated → counted ≡ Some own → AppendsStated dated (bits_of i.width) i.signed t old.items new.items → AppendsStated own (bits_of i.width) i.signed t old.items new.items
  stated_as own is counts a = subst (λ (o : Option DateColumn). AppendsRead o (bits_of i.width) i.signed t old.items new.items) (sym is ∙ counts) a

  stated_there : (date_form : DateForm) (kind : Kind) (own : DateColumn) (so : List Cell) (a : AppendsStated own (bits_of i.width) i.signed t old.items new.items)
      → kind_in date_form kind (json.string t) ≡ Ok (number a.stated) → kind_weight kind (number a.stated) ≡ 1 → IsOf kind (Integers i counted new) → Holds (Integers i counted old) so
      → HasTakenValue date_form kind (json.string t) 1 so (Integers i counted new)
  stated_there date_form kind own so a read weighs is holds = record {
    taken = number a.stated;
    read = read;
    there = refl;
    weighs = weighs;
    takes = record { kind_is = is; holds = integer_holds i counted a.stated old new so a.appended.1 holds };
  }

  date_taken : (date_form : DateForm) → dates_in date_form counted ≡ Some dated → AppendsStated dated (bits_of i.width) i.signed t old.items new.items
      → TakesValue date_form (json.string t) 1 (Integers i counted old) (Integers i counted new)
  unfolding kind_in kind_weight fits_kind
  date_taken date_form is a (integers bits signed) so k = (let no : None ≡ Some dated = sym (undated date_form counted k.kind_is.2) ∙ is in absurd cc)
  date_taken Numbers is a _ so k = absurd cc
  date_taken Iso is a (dates days) so k =
      let own = stated_as Days is k.kind_is.2 a in
      stated_there Iso (dates days) Days so own (stated_cell (dates days) (spelled_in Days t) own.stated own.read (in_range_as (bits_of i.width) _ i.signed own.stated k.kind_is.0 k.kind_is.1 own.appended.0)) refl k.kind_is k.holds
  date_taken Iso is a (dates date_milliseconds) so k =
      let own = stated_as Milliseconds is k.kind_is.2 a in
      stated_there Iso (dates date_milliseconds) Milliseconds so own (stated_cell (dates date_milliseconds) (spelled_in Milliseconds t) own.stated own.read (in_range_as (bits_of i.width) _ i.signed own.stated k.kind_is.0 k.kind_is.1 own.appended.0)) refl k.kind_is k.holds
  date_taken Iso is a (timestamps unit timezone) so k =
      let timed : DateColumn = Times (unit_of unit) (zone_of_column timezone) in
      let own = stated_as timed is k.kind_is.2 a in
      stated_there Iso (timestamps unit timezone) timed so own (stated_cell (timestamps unit timezone) (spelled_in timed t) own.stated own.read (in_range_as (bits_of i.width) _ i.signed own.stated k.kind_is.0 k.kind_is.1 own.appended.0)) refl k.kind_is k.holds
  date_taken Iso is a _ so k = absurd k.kind_is

string_taken : (date_form : DateForm) (width : OffsetWidth) (token : Token) (weight : ℕ) (offsets contents newer longer : Vec ℕ) (a : AppendsString width token weight offsets.items contents.items newer.items longer.items)
    → TakesValue date_form (json.string a.text) weight (Texts width offsets contents) (Texts width newer longer)
unfolding kind_in kind_weight fits_kind
string_taken date_form width token weight offsets contents newer longer a texts so k = record {
  taken = text a.text;
  read = rw a.utf8 refl;
  there = refl;
  weighs = sym a.weighs;
  takes = record { kind_is = k.kind_is; holds = contents_hold width so (text a.text) offsets.items contents.items newer.items longer.items k.holds a.more a.end };
}
string_taken date_form width token weight offsets contents newer longer a large_texts so k = record {
  taken = text a.text;
  read = rw a.utf8 refl;
  there = refl;
  weighs = sym a.weighs;
  takes = record { kind_is = k.kind_is; holds = contents_hold width so (text a.text) offsets.items contents.items newer.items longer.items k.holds a.more a.end };
}
string_taken date_form width token weight offsets contents newer longer a _ so k = absurd k.kind_is

binary_taken : (date_form : DateForm) (width : OffsetWidth) (token : Token) (weight : ℕ) (offsets contents newer longer : Vec ℕ) (a : AppendsBinary width token weight offsets.items contents.items newer.items longer.items)
    → TakesValue date_form (json.string a.digits) weight (Binaries width offsets contents) (Binaries width newer longer)
unfolding kind_in kind_weight fits_kind
binary_taken date_form width token weight offsets contents newer longer a binaries so k = record {
  taken = bytes a.takes.spelled;
  read = ap (bytes_cell binaries) a.takes.read;
  there = refl;
  weighs = sym a.takes.weighs;
  takes = record { kind_is = k.kind_is; holds = contents_hold width so (bytes a.takes.spelled) offsets.items contents.items newer.items longer.items k.holds a.takes.more a.takes.end };
}
binary_taken date_form width token weight offsets contents newer longer a large_binaries so k = record {
  taken = bytes a.takes.spelled;
  read = ap (bytes_cell large_binaries) a.takes.read;
  there = refl;
  weighs = sym a.takes.weighs;
  takes = record { kind_is = k.kind_is; holds = contents_hold width so (bytes a.takes.spelled) offsets.items contents.items newer.items longer.items k.holds a.takes.more a.takes.end };
}
binary_taken date_form width token weight offsets contents newer longer a _ so k = absurd k.kind_is

fixed_binary_taken : (date_form : DateForm) (width : ℕ) (token : Token) (weight : ℕ) (old new : Vec ℕ) (a : AppendsFixedBinary width token weight old.items new.items)
    → TakesValue date_form (json.string a.digits) weight (FixedBinaries width old) (FixedBinaries width new)
unfolding kind_in kind_weight
fixed_binary_taken date_form width token weight old new a (fixed_binaries size) so k = record {
  taken = bytes a.takes.spelled;
  read = ap (bytes_cell (fixed_binaries size)) a.takes.read ∙ width_fits size a.takes.spelled (a.takes.size ∙ k.kind_is);
  there = refl;
  weighs = ap (λ (n : ℕ). 1 + n) (sym k.kind_is) ∙ sym a.takes.weighs;
  takes = record { kind_is = k.kind_is; holds = one_joined (fixed_bytes width) so (bytes a.takes.spelled) old.items new.items k.holds a.takes.more };
}
fixed_binary_taken date_form width token weight old new a _ so k = absurd k.kind_is

-- ---- what a call tells, if it appended the cell

pub bit_step : {E : Type 0} (date_form : DateForm) (t : Token) (old new : Vec Bool) (r : Result (Option ℕ) E) → IfOk r (λ taken. IfSome taken (λ weight. (weight ≡ 1) × AppendsBit t old.items new.items))
    → IfOk r (λ taken. IfSome taken (λ weight. TakesToken date_form t weight (Booleans old) (Booleans new)))
bit_step date_form t old new (Err e) h = tt
bit_step date_form t old new (Ok None) h = tt
bit_step date_form t old new (Ok (Some weight)) h =
    let a = h.1 in
    rw h.0 (record { data_is = json.boolean a.bit; read = rw a.is refl; there = λ e. cc; takes = bit_taken date_form a.bit old new a.bits })

read_number : (o : Option Num) (z : ℤ) → option_and_then as_integer o ≡ Some z → (n : Num) × (o ≡ Some n) × (as_integer n ≡ Some z)
read_number None z e = absurd cc
read_number (Some n) z e = (n, refl, e)

counted_token : (date_form : DateForm) (i : IntegerType) (counted : Option DateColumn) (t : Token) (old new : Vec ℕ) (o : Option DateColumn) → dates_in date_form counted ≡ o
    → AppendsCounted o i t old.items new.items → TakesToken date_form t 1 (Integers i counted old) (Integers i counted new)
counted_token date_form i counted t old new None is a =
    let (n, there, whole) = read_number (number_of a.text) a.takes.spelled a.takes.read in
    record { data_is = json.number n; read = ap token_data a.is ∙ ap (option_map json.number) there; there = λ e. cc; takes = number_taken date_form i counted a.text old new is a.takes n whole }
counted_token date_form i counted t old new (Some dated) is a =
    record { data_is = json.string a.text; read = rw a.is refl; there = λ e. cc; takes = date_taken i counted dated a.text old new date_form is a.takes }

pub number_step : {E : Type 0} (date_form : DateForm) (i : IntegerType) (counted : Option DateColumn) (t : Token) (old new : Vec ℕ) (r : Result (Option ℕ) E)
    → IfOk r (λ taken. IfSome taken (λ weight. (weight ≡ 1) × AppendsCounted (dates_in date_form counted) i t old.items new.items))
    → IfOk r (λ taken. IfSome taken (λ weight. TakesToken date_form t weight (Integers i counted old) (Integers i counted new)))
number_step date_form i counted t old new (Err e) h = tt
number_step date_form i counted t old new (Ok None) h = tt
number_step date_form i counted t old new (Ok (Some weight)) h = rw h.0 (counted_token date_form i counted t old new (dates_in date_form counted) refl h.1)

pub string_appended : {E : Type 0} (width : OffsetWidth) (t : Token) (s offsets contents newer longer : List ℕ) (r : Result (Option ℕ) E) → t ≡ tokens.string s
    → IfOk r (λ taken. IfSome taken (λ weight. (weight ≡ 1 + length s) × (is_utf8 s ≡ true) × (longer ≡ contents ++ s) × (newer ≡ offsets ++ little_bytes (width_of width) (length contents + length s))))
    → IfOk r (λ taken. IfSome taken (λ weight. AppendsString width t weight offsets contents newer longer))
string_appended width t s offsets contents newer longer (Err e) is h = tt
string_appended width t s offsets contents newer longer (Ok None) is h = tt
string_appended width t s offsets contents newer longer (Ok (Some weight)) is h = record { text = s; is = is; weighs = h.0; utf8 = h.1; more = h.2; end = h.3 }

pub number_appended : {E : Type 0} (i : IntegerType) (t : List ℕ) (n m : ℤ) (old new : List ℕ) (r : Result Bool E) → integer_in t ≡ Some n → m ≡ n
    → IfOk r (λ pushed. pushed ≡ true → AppendsInteger (bits_of i.width) i.signed m old new) → IfOk r (λ pushed. pushed ≡ true → TakesNumber i t old new)
unfolding fits_kind
number_appended i t n m old new (Err e) is again h = tt
number_appended i t n m old new (Ok pushed) is again h = λ yes. record { spelled = n; read = is; fits = rw (rw again at (h yes).0) refl; bytes = rw again at (h yes).1 }

pub string_step : {E : Type 0} (date_form : DateForm) (width : OffsetWidth) (t : Token) (offsets contents newer longer : Vec ℕ) (r : Result (Option ℕ) E)
    → IfOk r (λ taken. IfSome taken (λ weight. AppendsString width t weight offsets.items contents.items newer.items longer.items))
    → IfOk r (λ taken. IfSome taken (λ weight. TakesToken date_form t weight (Texts width offsets contents) (Texts width newer longer)))
string_step date_form width t offsets contents newer longer (Err e) h = tt
string_step date_form width t offsets contents newer longer (Ok None) h = tt
string_step date_form width t offsets contents newer longer (Ok (Some weight)) h =
    record { data_is = json.string h.text; read = rw h.is refl; there = λ e. cc; takes = string_taken date_form width t weight offsets contents newer longer h }

pub binary_step : {E : Type 0} (date_form : DateForm) (width : OffsetWidth) (t : Token) (offsets contents newer longer : Vec ℕ) (r : Result (Option ℕ) E)
    → IfOk r (λ taken. IfSome taken (λ weight. AppendsBinary width t weight offsets.items contents.items newer.items longer.items))
    → IfOk r (λ taken. IfSome taken (λ weight. TakesToken date_form t weight (Binaries width offsets contents) (Binaries width newer longer)))
binary_step date_form width t offsets contents newer longer (Err e) h = tt
binary_step date_form width t offsets contents newer longer (Ok None) h = tt
binary_step date_form width t offsets contents newer longer (Ok (Some weight)) h =
    record { data_is = json.string h.digits; read = rw h.is refl; there = λ e. cc; takes = binary_taken date_form width t weight offsets contents newer longer h }

pub fixed_binary_step : {E : Type 0} (date_form : DateForm) (width : ℕ) (t : Token) (old new : Vec ℕ) (r : Result (Option ℕ) E) → IfOk r (λ taken. IfSome taken (λ weight. AppendsFixedBinary width t weight old.items new.items))
    → IfOk r (λ taken. IfSome taken (λ weight. TakesToken date_form t weight (FixedBinaries width old) (FixedBinaries width new)))
fixed_binary_step date_form width t old new (Err e) h = tt
fixed_binary_step date_form width t old new (Ok None) h = tt
fixed_binary_step date_form width t old new (Ok (Some weight)) h = record { data_is = json.string h.digits; read = rw h.is refl; there = λ e. cc; takes = fixed_binary_taken date_form width t weight old new h }

-- ---- cells of a column

-- a null comes after them
pub null_behind : (old new : FlatBuilder) → new.nullable ≡ old.nullable → new.valid.items ≡ old.valid.items ++ false ∷ [] → TakesNullCell old.values old.coding new.values new.coding
    → (c : Column) (so : List Cell) → Keeps c so (Flat old) → Keeps c (so ++ null ∷ []) (Flat new)
null_behind old new same valid takes (column name nullable kind dictionary pairs) so k =
    (same ∙ k.0, one_mapped is_there so null old.valid.items new.valid.items k.1 valid, takes dictionary kind so k.2)

pub null_kept : (old new : FlatBuilder) → old.nullable ≡ true → new.nullable ≡ old.nullable → new.valid.items ≡ old.valid.items ++ false ∷ []
    → TakesNullCell old.values old.coding new.values new.coding → KeepsNull (null_weight old.values) (Flat old) (Flat new)
unfolding weight
null_kept old new is same valid takes (column name nullable kind dictionary pairs) so k = (
  sym k.0 ∙ is,
  null_weighs kind old.values (own_kind dictionary kind so old.values old.coding k.2),
  null_behind old new same valid takes (column name nullable kind dictionary pairs) so k,
)

-- a value that is no null has the cell of its type
not_null : (nullable : Bool) (f : Data → Result Cell Refusal) (d : Data) → (d ≡ json.null → ⊥) → null_or_in nullable f d ≡ f d
not_null nullable f json.null other = absurd (other refl)
not_null nullable f _ other = refl

value_behind : (date_form : DateForm) (d : Data) (weight : ℕ) (old new : FlatBuilder) → (d ≡ json.null → ⊥) → new.nullable ≡ old.nullable → new.valid.items ≡ old.valid.items ++ true ∷ []
    → ((dictionary : Option Index) (kind : Kind) (so : List Cell) → HoldsCells dictionary kind so old.values old.coding → HasCell dictionary kind (kind_in date_form kind d) weight so new.values new.coding)
    → KeepsValue date_form d weight (Flat old) (Flat new)
unfolding cell_in weight
value_behind date_form d weight old new other same valid takes (column name nullable kind dictionary pairs) so k =
    let h = takes dictionary kind so k.2 in
    let there : old.valid.items ++ true ∷ [] ≡ old.valid.items ++ is_there h.taken ∷ [] = ap (λ (b : Bool). old.valid.items ++ b ∷ []) (sym h.there) in
    record {
      kept = h.taken;
      read = not_null nullable (kind_in date_form kind) d other ∙ h.read;
      weighs = h.weighs;
      keeps = (same ∙ k.0, one_mapped is_there so h.taken old.valid.items new.valid.items k.1 (valid ∙ there), h.holds);
    }

pub there_behind : (date_form : DateForm) (t : Token) (weight : ℕ) (old new : FlatBuilder) → new.nullable ≡ old.nullable → new.valid.items ≡ old.valid.items ++ true ∷ []
    → TakesCellToken date_form t weight old.values old.coding new.values new.coding → KeepsToken date_form t weight (Flat old) (Flat new)
there_behind date_form t weight old new same valid takes = record { data_is = takes.data_is; read = takes.read; keeps = value_behind date_form takes.data_is weight old new takes.there same valid takes.takes }

-- ---- values of a dictionary

boolean_fits_in : (d : Data) (x : Cell) → boolean_in d ≡ Ok x → fits_kind booleans x ≡ true
unfolding fits_kind
boolean_fits_in (json.boolean b) x h = (let same : boolean b ≡ x = cc in rw (← same) refl)
boolean_fits_in _ x h = absurd cc

number_fits_in : (kind : Kind) (d : Data) (x : Cell) → number_in kind d ≡ Ok x → fits_kind kind x ≡ true
number_fits_in kind (json.number n) x h = number_fits_kind kind (as_integer n) x h
number_fits_in kind _ x h = absurd cc

dated_fits_in : (date_form : DateForm) (kind : Kind) (d : Data) (x : Cell) → dated_in date_form kind d ≡ Ok x → fits_kind kind x ≡ true
dated_fits_in Numbers kind d x h = number_fits_in kind d x h
dated_fits_in Iso kind (json.string t) x h = stated_fits_kind kind (spelled kind t) x h
dated_fits_in Iso kind _ x h = absurd cc

bytes_fit_in : (kind : Kind) (d : Data) (x : Cell) → bytes_in kind d ≡ Ok x → fits_kind kind x ≡ true
bytes_fit_in kind (json.string t) x h = bytes_fit_kind kind (decode_of t) x h
bytes_fit_in kind _ x h = absurd cc

text_fits_in : (d : Data) (x : Cell) → text_in d ≡ Ok x → fits_kind texts x ≡ true
text_fits_in (json.string t) x h = fitting_fits texts NotUtf8 (text t) x h
text_fits_in _ x h = absurd cc

large_fits : (x : Cell) → fits_kind texts x ≡ true → fits_kind large_texts x ≡ true
unfolding fits_kind
large_fits x h = h

value_fits : (date_form : DateForm) (kind : Kind) (d : Data) (x : Cell) → is_nested kind ≡ false → kind_in date_form kind d ≡ Ok x → fits_kind kind x ≡ true
unfolding kind_in
value_fits date_form booleans d x flat h = boolean_fits_in d x h
value_fits date_form (integers bits signed) d x flat h = number_fits_in (integers bits signed) d x h
value_fits date_form (dates unit) d x flat h = dated_fits_in date_form (dates unit) d x h
value_fits date_form (timestamps unit timezone) d x flat h = dated_fits_in date_form (timestamps unit timezone) d x h
value_fits date_form texts d x flat h = text_fits_in d x h
value_fits date_form large_texts d x flat h = large_fits x (text_fits_in d x h)
value_fits date_form binaries d x flat h = bytes_fit_in binaries d x h
value_fits date_form large_binaries d x flat h = bytes_fit_in large_binaries d x h
value_fits date_form (fixed_binaries size) d x flat h = bytes_fit_in (fixed_binaries size) d x h
value_fits date_form _ d x flat h = absurd cc

-- the buffers of the one value were cleared and then have the value that is coded
pub token_coded : (date_form : DateForm) (t : Token) (weight : ℕ) (old new : Coding) (values values2 : ColumnValues) (cleared one : ColumnValues) → Clears old.one cleared → TakesToken date_form t weight cleared one
    → Codes (record { index = old.index; indices = old.indices; keys = old.keys; one = one }) values new values2 → TakesCodedToken date_form t weight old values new values2
token_coded date_form t weight old new values values2 cleared one clears taken codes = record {
  data_is = taken.data_is;
  read = taken.read;
  there = taken.there;
  takes = λ index kind so h.
      let own = taken.takes kind [] (clears kind h.one) in
      let fits = value_fits date_form kind taken.data_is own.taken (own_flat kind old.one h.one) own.read in
      record {
        taken = own.taken;
        read = own.read;
        there = own.there;
        weighs = own.weighs;
        holds = codes index kind so own.taken (with_one index kind so values old one h own.takes.kind_is) own.takes fits;
      };
}

-- the cell of a string is that of its text
string_read : (date_form : DateForm) (kind : Kind) (values : ColumnValues) (s : List ℕ) → has_texts values ≡ true → IsOf kind values → kind_in date_form kind (json.string s) ≡ cell_of_text date_form kind s
unfolding kind_in cell_of_text fits_kind
string_read date_form texts (Texts width offsets contents) s strings is = refl
string_read date_form large_texts (Texts width offsets contents) s strings is = refl
string_read date_form _ (Texts width offsets contents) s strings is = absurd is
string_read date_form _ _ s strings is = absurd cc

pub coded_string_step : {E : Type 0} (date_form : DateForm) (t : Token) (s : List ℕ) (old new : Coding) (values values2 : ColumnValues) (r : Result (Option ℕ) E) → t ≡ tokens.string s → has_texts values ≡ true
    → IfOk r (λ taken. IfSome taken (λ weight. TakesCodedText date_form s weight old values new values2)) → IfOk r (λ taken. IfSome taken (λ weight. TakesCodedToken date_form t weight old values new values2))
coded_string_step date_form t s old new values values2 (Err e) is strings h = tt
coded_string_step date_form t s old new values values2 (Ok None) is strings h = tt
coded_string_step date_form t s old new values values2 (Ok (Some weight)) is strings h = record {
  data_is = json.string s;
  read = ap token_data is;
  there = λ e. cc;
  takes = λ index kind so k.
      subst (λ (o : Result Cell Refusal). HasCell (Some index) kind o weight so values2 (Some new)) (sym (string_read date_form kind values s strings k.entries.kind_is)) (h index kind so k);
}

plain_taken : (date_form : DateForm) (d : Data) (weight : ℕ) (old new : ColumnValues) → TakesValue date_form d weight old new → (dictionary : Option Index) (kind : Kind) (so : List Cell) → HoldsCells dictionary kind so old None
    → HasCell dictionary kind (kind_in date_form kind d) weight so new None
plain_taken date_form d weight old new takes None kind so h = (let own = takes kind so h in record { taken = own.taken; read = own.read; there = own.there; weighs = own.weighs; holds = own.takes })
plain_taken date_form d weight old new takes (Some index) kind so h = absurd h

pub plain_token : (date_form : DateForm) (t : Token) (weight : ℕ) (old new : ColumnValues) → TakesToken date_form t weight old new → TakesCellToken date_form t weight old None new None
plain_token date_form t weight old new taken = record { data_is = taken.data_is; read = taken.read; there = taken.there; takes = plain_taken date_form taken.data_is weight old new taken.takes }

coded_taken : (date_form : DateForm) (d : Data) (weight : ℕ) (old new : Coding) (values values2 : ColumnValues)
    → ((index : Index) (kind : Kind) (so : List Cell) → IsCoded index kind so values old → HasCell (Some index) kind (kind_in date_form kind d) weight so values2 (Some new))
    → (dictionary : Option Index) (kind : Kind) (so : List Cell) → HoldsCells dictionary kind so values (Some old) → HasCell dictionary kind (kind_in date_form kind d) weight so values2 (Some new)
coded_taken date_form d weight old new values values2 takes None kind so h = absurd h
coded_taken date_form d weight old new values values2 takes (Some index) kind so h = takes index kind so h

pub coded_token : (date_form : DateForm) (t : Token) (weight : ℕ) (old new : Coding) (values values2 : ColumnValues) → TakesCodedToken date_form t weight old values new values2 → TakesCellToken date_form t weight values (Some old) values2 (Some new)
coded_token date_form t weight old new values values2 taken =
    record { data_is = taken.data_is; read = taken.read; there = taken.there; takes = coded_taken date_form taken.data_is weight old new values values2 taken.takes }

pub plain_token_step : {E : Type 0} (date_form : DateForm) (t : Token) (old new : ColumnValues) (r : Result (Option ℕ) E) → IfOk r (λ taken. IfSome taken (λ weight. TakesToken date_form t weight old new))
    → IfOk r (λ taken. IfSome taken (λ weight. TakesCellToken date_form t weight old None new None))
plain_token_step date_form t old new (Err e) h = tt
plain_token_step date_form t old new (Ok None) h = tt
plain_token_step date_form t old new (Ok (Some weight)) h = plain_token date_form t weight old new h

pub coded_token_step : {E : Type 0} (date_form : DateForm) (t : Token) (old new : Coding) (values values2 : ColumnValues) (r : Result (Option ℕ) E)
    → IfOk r (λ taken. IfSome taken (λ weight. TakesCodedToken date_form t weight old values new values2)) → IfOk r (λ taken. IfSome taken (λ weight. TakesCellToken date_form t weight values (Some old) values2 (Some new)))
coded_token_step date_form t old new values values2 (Err e) h = tt
coded_token_step date_form t old new values values2 (Ok None) h = tt
coded_token_step date_form t old new values values2 (Ok (Some weight)) h = coded_token date_form t weight old new values values2 h

null_read : (date_form : DateForm) (c : Column) → is_nullable_column c ≡ true → cell_in date_form c json.null ≡ Ok null
unfolding cell_in
null_read date_form (column name nullable kind dictionary pairs) e = rw e refl

null_value : (date_form : DateForm) (weight : ℕ) (old new : ColumnBuilder) → KeepsNull weight old new → KeepsValue date_form json.null weight old new
null_value date_form weight old new keeps c so k = (let h = keeps c so k in record { kept = null; read = null_read date_form c h.0; weighs = h.1; keeps = h.2 })

pub null_token : (date_form : DateForm) (weight : ℕ) (old new : ColumnBuilder) → KeepsNull weight old new → KeepsToken date_form tokens.null weight old new
null_token date_form weight old new keeps = record { data_is = json.null; read = refl; keeps = null_value date_form weight old new keeps }

pub null_step : {E : Type 0} (date_form : DateForm) (t : Token) (old new : ColumnBuilder) (r : Result (Option ℕ) E) → t ≡ tokens.null → IfOk r (λ taken. IfSome taken (λ weight. KeepsNull weight old new))
    → IfOk r (λ taken. IfSome taken (λ weight. KeepsToken date_form t weight old new))
null_step date_form t old new (Err e) is h = tt
null_step date_form t old new (Ok None) is h = tt
null_step date_form t old new (Ok (Some weight)) is h = rw is (null_token date_form weight old new h)

-- ---- members

pub member_kept : (date_form : DateForm) (weight : ℕ) (b : ColumnBuilder) → Completes date_form (Some weight) weight b b
member_kept date_form weight b c so None h = absurd h
member_kept date_form weight b c so (Some d) h = record { kept = h.kept; read = h.read; weighs = h.weighs; keeps = h.keeps }

member_absent : (date_form : DateForm) (weight : ℕ) (old new : ColumnBuilder) → KeepsNull weight old new → Completes date_form None weight old new
member_absent date_form weight old new keeps c so None h = (let k = keeps c so h in record { kept = null; read = rw k.0 refl; weighs = k.1; keeps = k.2 })
member_absent date_form weight old new keeps c so (Some d) h = absurd h

pub absent_step : {E : Type 0} (date_form : DateForm) (old new : ColumnBuilder) (r : Result (Option ℕ) E) → IfOk r (λ taken. IfSome taken (λ weight. KeepsNull weight old new))
    → IfOk r (λ taken. IfSome taken (λ weight. Completes date_form None weight old new))
absent_step date_form old new (Err e) h = tt
absent_step date_form old new (Ok None) h = tt
absent_step date_form old new (Ok (Some weight)) h = member_absent date_form weight old new h
