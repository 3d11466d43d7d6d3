-- The comparison of two columns as a test, by recursion on the first.
use Rattle.std.specs.Prelude.{ℕ, Bool, true, false, ◌==◌, ◌&&◌, List, bytes_eq, Option, Some, None}
use Rattle.std.specs.Cmp.Lexicographic.{pointwise}
use Rattle.std.specs.Bool.{beq}
use Rattle.arrow_schema.specs.declared.compare.Detail.{Detail}
use Rattle.arrow_schema.specs.Column.{Index, Pair, DateKind, date_unit_of, TimeKind, time_unit_of, Kind, Column, Columns, nulls, booleans, integers, dates, timestamps, texts, large_texts, binaries, large_binaries, fixed_binaries, lists, large_lists, fixed_lists, structs, column, no_column, and_column}
use Rattle.arrow_schema.specs.Shape.{seen_dictionary, seen_pairs}
use Rattle.arrow_schema.specs.Parts.{is_nulls}

abbrev pub index_eq : Index → Index → Bool
index_eq a b = a.bits == b.bits && beq a.signed b.signed

abbrev pub dictionary_eq : Option Index → Option Index → Bool
dictionary_eq None None = true
dictionary_eq None (Some b) = false
dictionary_eq (Some a) None = false
dictionary_eq (Some a) (Some b) = index_eq a b

abbrev pub pair_eq : Pair → Pair → Bool
pair_eq a b = bytes_eq a.0 b.0 && bytes_eq a.1 b.1

abbrev pub pairs_eq : List Pair → List Pair → Bool
pairs_eq = pointwise pair_eq

abbrev pub is_booleans : Kind → Bool
is_booleans booleans = true
is_booleans _ = false

abbrev pub is_texts : Kind → Bool
is_texts texts = true
is_texts _ = false

abbrev pub is_large_texts : Kind → Bool
is_large_texts large_texts = true
is_large_texts _ = false

abbrev pub is_binaries : Kind → Bool
is_binaries binaries = true
is_binaries _ = false

abbrev pub is_large_binaries : Kind → Bool
is_large_binaries large_binaries = true
is_large_binaries _ = false

abbrev pub integers_where : (ℕ → Bool → Bool) → Kind → Bool
integers_where p (integers bits signed) = p bits signed
integers_where p _ = false

abbrev pub dates_where : (DateKind → Bool) → Kind → Bool
dates_where p (dates unit) = p unit
dates_where p _ = false

abbrev pub timestamps_where : (TimeKind → List ℕ → Bool) → Kind → Bool
timestamps_where p (timestamps unit timezone) = p unit timezone
timestamps_where p _ = false

abbrev pub fixed_binaries_where : (ℕ → Bool) → Kind → Bool
fixed_binaries_where p (fixed_binaries width) = p width
fixed_binaries_where p _ = false

abbrev pub lists_where : (Column → Bool) → Kind → Bool
lists_where p (lists item) = p item
lists_where p _ = false

abbrev pub large_lists_where : (Column → Bool) → Kind → Bool
large_lists_where p (large_lists item) = p item
large_lists_where p _ = false

abbrev pub fixed_lists_where : (ℕ → Column → Bool) → Kind → Bool
fixed_lists_where p (fixed_lists size item) = p size item
fixed_lists_where p _ = false

abbrev pub structs_where : (Columns → Bool) → Kind → Bool
structs_where p (structs parts) = p parts
structs_where p _ = false

abbrev pub column_where : (List ℕ → Bool → Kind → Option Index → List Pair → Bool) → Column → Bool
column_where p (column name nullable kind dictionary pairs) = p name nullable kind dictionary pairs

abbrev pub one_and : (Column → Bool) → (Columns → Bool) → Columns → Bool
one_and p q no_column = false
one_and p q (and_column c cs) = p c && q cs

abbrev pub is_no_column : Columns → Bool
is_no_column no_column = true
is_no_column (and_column c cs) = false

-- types without parameters; no type with parameters is alike
abbrev pub alike_plain : Kind → Kind → Bool
alike_plain nulls = is_nulls
alike_plain booleans = is_booleans
alike_plain texts = is_texts
alike_plain large_texts = is_large_texts
alike_plain binaries = is_binaries
alike_plain large_binaries = is_large_binaries
alike_plain _ = λ _. false

-- types without children; no type with children is alike
abbrev pub alike_flat : Kind → Kind → Bool
alike_flat (integers bits signed) = integers_where (λ b s. bits == b && beq signed s)
alike_flat (dates unit) = dates_where (λ u. date_unit_of unit == date_unit_of u)
alike_flat (timestamps unit timezone) = timestamps_where (λ u z. time_unit_of unit == time_unit_of u && bytes_eq timezone z)
alike_flat (fixed_binaries width) = fixed_binaries_where (λ w. width == w)
alike_flat kind = alike_plain kind

unfoldable mutual
  pub alike : Detail → Column → Column → Bool
  alike detail (column name nullable kind dictionary pairs) =
      column_where (λ n b k d p. bytes_eq name n && (beq nullable b && (dictionary_eq (seen_dictionary detail dictionary) (seen_dictionary detail d) && (pairs_eq (seen_pairs detail pairs) (seen_pairs detail p) && alike_kind detail kind k))))

  pub alike_kind : Detail → Kind → Kind → Bool
  alike_kind detail nulls = is_nulls
  alike_kind detail booleans = is_booleans
  alike_kind detail (integers bits signed) = integers_where (λ b s. bits == b && beq signed s)
  alike_kind detail (dates unit) = dates_where (λ u. date_unit_of unit == date_unit_of u)
  alike_kind detail (timestamps unit timezone) = timestamps_where (λ u z. time_unit_of unit == time_unit_of u && bytes_eq timezone z)
  alike_kind detail texts = is_texts
  alike_kind detail large_texts = is_large_texts
  alike_kind detail binaries = is_binaries
  alike_kind detail large_binaries = is_large_binaries
  alike_kind detail (fixed_binaries width) = fixed_binaries_where (λ w. width == w)
  alike_kind detail (lists item) = lists_where (alike detail item)
  alike_kind detail (large_lists item) = large_lists_where (alike detail item)
  alike_kind detail (fixed_lists size item) = fixed_lists_where (λ n i. size == n && alike detail item i)
  alike_kind detail (structs parts) = structs_where (alike_all detail parts)

  pub alike_all : Detail → Columns → Columns → Bool
  alike_all detail no_column = is_no_column
  alike_all detail (and_column c cs) = one_and (alike detail c) (alike_all detail cs)
