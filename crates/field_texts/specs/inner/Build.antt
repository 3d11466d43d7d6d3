-- Columns built from the start of a text, up to n levels deep.
use Rattle.std.specs.Prelude.{◌≡◌, ℕ, suc, true, Result, Ok, Err, zero, List, [], ◌∷◌, ◌++◌, length, codes, Option, None, Some, option_map}
use Rattle.field_texts.specs.declared.build.BuildError.{BuildError}
use Rattle.field_texts.specs.declared.build.BuildError.TheVariants.{Unread, Memory}
use Rattle.field_texts.specs.declared.build.Listing.{Listing}
use Rattle.field_texts.specs.declared.build.Listing.TheVariants as listings
use Rattle.std.specs.Option.{option_and_then, option_or}
use Rattle.arrow_schema.specs.Column.{Index, Kind, Column, lists, large_lists, fixed_lists, structs, column, columns_of}
use Rattle.field_texts.specs.inner.Scan.{stripped, Opening, flat, list, large_list, fixed_list, struct, opening_at, name_at, has_nullable_suffix, after_nullable_suffix}

-- the result of the code is the result of reading the bytes, unless memory was refused
abbrev pub Builds : {X Y : Type 0} → (X → Y) → Result X BuildError → Option Y → Type 0
Builds view (Ok x) read = read ≡ Some (view x)
Builds view (Err Unread) read = read ≡ None
Builds view (Err Memory) read = Unit {0}

-- from a name and the text after it, the column and the rest of the text
abbrev pub Reader : Type 0
Reader = List ℕ → List ℕ → Option (Column × List ℕ)

unfoldable pub item_from : Reader → List ℕ → List ℕ → Option (Column × List ℕ)
item_from read close text = option_and_then (λ p. option_map (λ rest. (p.0, rest)) (stripped close p.1)) (read (codes "item") text)

unfoldable pub field_from : Reader → List ℕ → Option (Column × List ℕ)
field_from read text = option_and_then (λ p. read p.0 p.1) (name_at text)

-- no more fields, after the bracket that closes a struct
abbrev pub closed : List ℕ → Option (List Column × List ℕ)
closed text = option_map (λ rest. ([], rest)) (stripped (codes ">") text)

-- further fields and the bracket after them, in at most this many steps
unfoldable pub more_from : Reader → ℕ → List ℕ → Option (List Column × List ℕ)
more_from read zero text = None
more_from read (suc turns) text = option_or (closed text) (option_and_then (λ next. option_and_then (λ p. option_map (λ q. (p.0 ∷ q.0, q.1)) (more_from read turns p.1)) (field_from read next)) (stripped (codes ",") text))

abbrev pub with_first : List Column → Option (List Column × List ℕ) → Option (List Column × List ℕ)
with_first earlier read = option_map (λ q. (earlier ++ q.0, q.1)) read

unfoldable pub fields_from : Reader → List ℕ → Option (List Column × List ℕ)
fields_from read text = option_or (closed text) (option_and_then (λ p. option_map (λ q. (p.0 ∷ q.0, q.1)) (more_from read (length text) p.1)) (field_from read text))

-- the bracket after the item of a list
abbrev pub close_of : Listing → List ℕ
close_of listings.List = codes ">"
close_of listings.LargeList = codes ">"
close_of (listings.FixedList size) = codes ")"

abbrev pub list_kind : Listing → Column → Kind
list_kind listings.List item = lists item
list_kind listings.LargeList item = large_lists item
list_kind (listings.FixedList size) item = fixed_lists size item

-- a list, after its opening
abbrev pub list_from : Reader → Listing → List ℕ → Option ((Kind × Option Index) × List ℕ)
list_from read listing text = option_map (λ p. ((list_kind listing p.0, None), p.1)) (item_from read (close_of listing) text)

-- the parts of a type, after its opening
unfoldable pub parts_from : Reader → Opening → List ℕ → Option ((Kind × Option Index) × List ℕ)
parts_from read (flat kind index) text = Some ((kind, index), text)
parts_from read list text = option_map (λ p. ((lists p.0, None), p.1)) (item_from read (codes ">") text)
parts_from read large_list text = option_map (λ p. ((large_lists p.0, None), p.1)) (item_from read (codes ">") text)
parts_from read (fixed_list size) text = option_map (λ p. ((fixed_lists size p.0, None), p.1)) (item_from read (codes ")") text)
parts_from read struct text = option_map (λ p. ((structs (columns_of p.0), None), p.1)) (fields_from read text)

unfoldable pub column_from : Reader → Reader
column_from read name text = option_and_then (λ p. option_map (λ q. (column name (has_nullable_suffix q.1) q.0.0 q.0.1 [], after_nullable_suffix q.1)) (parts_from read p.0 p.1)) (opening_at true text)

-- a column of at most n levels
unfoldable pub column_at : ℕ → Reader
column_at zero name text = None
column_at (suc levels) name text = column_from (column_at levels) name text

-- the columns of texts, each of at most n levels
unfoldable pub columns_at : ℕ → List (List ℕ) → Option (List Column)
columns_at levels [] = Some []
columns_at levels (text ∷ texts) = option_and_then (λ p. option_map (λ cs. p.0 ∷ cs) (columns_at levels texts)) (field_from (column_at levels) text)

abbrev pub before_columns : List Column → Option (List Column) → Option (List Column)
before_columns earlier read = option_map (λ cs. earlier ++ cs) read
