-- The tests of two columns decide whether they are seen alike.
use Rattle.std.proofs.Common.{◌≡◌, ◌&&◌, ℕ, Bool, true, List, refl, ap, sym, ◌∙◌, ◌↔◌}
use Rattle.std.specs.Prelude.{Option, Some, None, ◌==◌}
use Rattle.std.specs.Bool.{Decides}
use Rattle.std.proofs.lemmas.Bool.{false≢true}
use Rattle.std.proofs.lemmas.Bool.Decides.{Decides-and, Decides-like, Decides-eqb, Decides-at}
use Rattle.std.proofs.lemmas.Slice.Eq.{bytes_eq-Decides, slice_eq-Decides}
use Rattle.std.specs.Cmp.{booleans_Decides}
use Rattle.arrow_schema.specs.declared.compare.Detail.{Detail}
use Rattle.arrow_schema.specs.declared.compare.Detail.TheVariants.{Shape, Whole}
use Rattle.arrow_schema.specs.Column.{Index, Pair, DateKind, days, date_milliseconds, date_unit_of, TimeKind, seconds, milliseconds, microseconds, nanoseconds, time_unit_of, Kind, Column, Columns, nulls, booleans, integers, dates, timestamps, texts, large_texts, binaries, large_binaries, fixed_binaries, lists, large_lists, fixed_lists, structs, column, no_column, and_column, columns_of, list_of, PlainSchema}
use Rattle.arrow_schema.specs.Shape.{seen, seen_kind, seen_all, seen_dictionary, seen_pairs, shape_of, HaveOneShape}
use Rattle.arrow_schema.specs.Parts.{is_nulls}
use Rattle.arrow_schema.specs.inner.Alike.{index_eq, dictionary_eq, pair_eq, pairs_eq, is_booleans, is_texts, is_large_texts, is_binaries, is_large_binaries, integers_where, dates_where, timestamps_where, fixed_binaries_where, lists_where, large_lists_where, fixed_lists_where, structs_where, alike, alike_kind, alike_all}
use Rattle.arrow_schema.specs.laws.Columns.{columns_listed, pair_from_parts}

index_from_parts : (a b : Index) → a.bits ≡ b.bits → a.signed ≡ b.signed → a ≡ b
index_from_parts a b p q =
    ap (λ (n : ℕ). let i : Index = record { bits = n; signed = a.signed } in i) p ∙ ap (λ (s : Bool). let i : Index = record { bits = b.bits; signed = s } in i) q

index_decides : (a b : Index) → Decides (index_eq a b) (a ≡ b)
index_decides a b =
    Decides-like (index_eq a b) (λ h. index_from_parts a b h.0 h.1) (λ e. (ap (λ (i : Index). i.bits) e, ap (λ (i : Index). i.signed) e)) (Decides-and _ _ (Decides-eqb a.bits b.bits) (booleans_Decides a.signed b.signed))

dictionary_decides : (a b : Option Index) → Decides (dictionary_eq a b) (a ≡ b)
dictionary_decides None None = (λ h. refl, λ e. refl)
dictionary_decides None (Some b) = (λ h. absurd (false≢true h), λ e. absurd (cc))
dictionary_decides (Some a) None = (λ h. absurd (false≢true h), λ e. absurd (cc))
dictionary_decides (Some a) (Some b) = Decides-like (index_eq a b) (λ e. ap (λ (i : Index). Some i) e) (λ e. cc) (index_decides a b)

pair_decides : (a b : Pair) → Decides (pair_eq a b) (a ≡ b)
pair_decides a b =
    Decides-like (pair_eq a b) (λ h. pair_from_parts a b h.0 h.1) (λ e. (ap (λ (p : Pair). p.0) e, ap (λ (p : Pair). p.1) e)) (Decides-and _ _ (bytes_eq-Decides a.0 b.0) (bytes_eq-Decides a.1 b.1))

pairs_decides : (xs ys : List Pair) → Decides (pairs_eq xs ys) (xs ≡ ys)
pairs_decides xs ys = slice_eq-Decides pair_decides xs ys (pairs_eq xs ys) refl

date_decides : (a b : DateKind) → Decides (date_unit_of a == date_unit_of b) (a ≡ b)
date_decides days days = (λ h. refl, λ e. refl)
date_decides date_milliseconds date_milliseconds = (λ h. refl, λ e. refl)
date_decides days date_milliseconds = (λ h. absurd (false≢true h), λ e. absurd (cc))
date_decides date_milliseconds days = (λ h. absurd (false≢true h), λ e. absurd (cc))

time_decides : (a b : TimeKind) → Decides (time_unit_of a == time_unit_of b) (a ≡ b)
time_decides seconds seconds = (λ h. refl, λ e. refl)
time_decides milliseconds milliseconds = (λ h. refl, λ e. refl)
time_decides microseconds microseconds = (λ h. refl, λ e. refl)
time_decides nanoseconds nanoseconds = (λ h. refl, λ e. refl)
time_decides seconds _ = (λ h. absurd (false≢true h), λ e. absurd (cc))
time_decides milliseconds _ = (λ h. absurd (false≢true h), λ e. absurd (cc))
time_decides microseconds _ = (λ h. absurd (false≢true h), λ e. absurd (cc))
time_decides nanoseconds _ = (λ h. absurd (false≢true h), λ e. absurd (cc))

mutual
  unfolding alike seen alike_kind seen_kind alike_all seen_all

  pub alike_decides : (detail : Detail) (a b : Column) → Decides (alike detail a b) (seen detail a ≡ seen detail b)
  alike_decides detail (column n b k d p) (column n' b' k' d' p') =
      Decides-like _ (λ h. cc) (λ e. (cc, (cc, (cc, (cc, cc)))))
      (Decides-and _ _ (bytes_eq-Decides n n')
      (Decides-and _ _ (booleans_Decides b b')
      (Decides-and _ _ (dictionary_decides (seen_dictionary detail d) (seen_dictionary detail d'))
      (Decides-and _ _ (pairs_decides (seen_pairs detail p) (seen_pairs detail p')) (alike_kind_decides detail k k')))))

  pub alike_kind_decides : (detail : Detail) (a b : Kind) → Decides (alike_kind detail a b) (seen_kind detail a ≡ seen_kind detail b)
  alike_kind_decides detail nulls nulls = (λ h. refl, λ e. refl)
  alike_kind_decides detail nulls _ = (λ h. absurd (false≢true h), λ e. absurd (false≢true (sym (ap is_nulls e))))
  alike_kind_decides detail booleans booleans = (λ h. refl, λ e. refl)
  alike_kind_decides detail booleans _ = (λ h. absurd (false≢true h), λ e. absurd (false≢true (sym (ap is_booleans e))))
  alike_kind_decides detail texts texts = (λ h. refl, λ e. refl)
  alike_kind_decides detail texts _ = (λ h. absurd (false≢true h), λ e. absurd (false≢true (sym (ap is_texts e))))
  alike_kind_decides detail large_texts large_texts = (λ h. refl, λ e. refl)
  alike_kind_decides detail large_texts _ = (λ h. absurd (false≢true h), λ e. absurd (false≢true (sym (ap is_large_texts e))))
  alike_kind_decides detail binaries binaries = (λ h. refl, λ e. refl)
  alike_kind_decides detail binaries _ = (λ h. absurd (false≢true h), λ e. absurd (false≢true (sym (ap is_binaries e))))
  alike_kind_decides detail large_binaries large_binaries = (λ h. refl, λ e. refl)
  alike_kind_decides detail large_binaries _ = (λ h. absurd (false≢true h), λ e. absurd (false≢true (sym (ap is_large_binaries e))))
  alike_kind_decides detail (integers bits signed) (integers b s) = Decides-like _ (λ h. cc) (λ e. (cc, cc)) (Decides-and _ _ (Decides-eqb bits b) (booleans_Decides signed s))
  alike_kind_decides detail (integers bits signed) _ = (λ h. absurd (false≢true h), λ e. absurd (false≢true (sym (ap (integers_where (λ _ _. true)) e))))
  alike_kind_decides detail (dates unit) (dates u) = Decides-like _ (λ h. cc) (λ e. cc) (date_decides unit u)
  alike_kind_decides detail (dates unit) _ = (λ h. absurd (false≢true h), λ e. absurd (false≢true (sym (ap (dates_where (λ _. true)) e))))
  alike_kind_decides detail (timestamps unit timezone) (timestamps u z) = Decides-like _ (λ h. cc) (λ e. (cc, cc)) (Decides-and _ _ (time_decides unit u) (bytes_eq-Decides timezone z))
  alike_kind_decides detail (timestamps unit timezone) _ = (λ h. absurd (false≢true h), λ e. absurd (false≢true (sym (ap (timestamps_where (λ _ _. true)) e))))
  alike_kind_decides detail (fixed_binaries width) (fixed_binaries w) = Decides-like _ (λ h. cc) (λ e. cc) (Decides-eqb width w)
  alike_kind_decides detail (fixed_binaries width) _ = (λ h. absurd (false≢true h), λ e. absurd (false≢true (sym (ap (fixed_binaries_where (λ _. true)) e))))
  alike_kind_decides detail (lists x) (lists y) = Decides-like _ (λ h. cc) (λ e. cc) (alike_decides detail x y)
  alike_kind_decides detail (lists x) _ = (λ h. absurd (false≢true h), λ e. absurd (false≢true (sym (ap (lists_where (λ _. true)) e))))
  alike_kind_decides detail (large_lists x) (large_lists y) = Decides-like _ (λ h. cc) (λ e. cc) (alike_decides detail x y)
  alike_kind_decides detail (large_lists x) _ = (λ h. absurd (false≢true h), λ e. absurd (false≢true (sym (ap (large_lists_where (λ _. true)) e))))
  alike_kind_decides detail (fixed_lists size x) (fixed_lists n y) = Decides-like _ (λ h. cc) (λ e. (cc, cc)) (Decides-and _ _ (Decides-eqb size n) (alike_decides detail x y))
  alike_kind_decides detail (fixed_lists size x) _ = (λ h. absurd (false≢true h), λ e. absurd (false≢true (sym (ap (fixed_lists_where (λ _ _. true)) e))))
  alike_kind_decides detail (structs xs) (structs ys) = Decides-like _ (λ h. cc) (λ e. cc) (alike_all_decides detail xs ys)
  alike_kind_decides detail (structs xs) _ = (λ h. absurd (false≢true h), λ e. absurd (false≢true (sym (ap (structs_where (λ _. true)) e))))

  pub alike_all_decides : (detail : Detail) (xs ys : Columns) → Decides (alike_all detail xs ys) (seen_all detail xs ≡ seen_all detail ys)
  alike_all_decides detail no_column no_column = (λ h. refl, λ e. refl)
  alike_all_decides detail no_column (and_column y ys) = (λ h. absurd (false≢true h), λ e. absurd (cc))
  alike_all_decides detail (and_column x xs) no_column = (λ h. absurd (false≢true h), λ e. absurd (cc))
  alike_all_decides detail (and_column x xs) (and_column y ys) = Decides-like _ (λ h. cc) (λ e. (cc, cc)) (Decides-and _ _ (alike_decides detail x y) (alike_all_decides detail xs ys))

-- all of a column is the column
mutual
  unfolding seen seen_kind seen_all

  pub seen_whole : (c : Column) → seen Whole c ≡ c
  seen_whole (column n b k d p) = ap (λ (x : Kind). column n b x d p) (seen_whole_kind k)

  pub seen_whole_kind : (k : Kind) → seen_kind Whole k ≡ k
  seen_whole_kind (lists item) = ap lists (seen_whole item)
  seen_whole_kind (large_lists item) = ap large_lists (seen_whole item)
  seen_whole_kind (fixed_lists size item) = ap (λ (c : Column). fixed_lists size c) (seen_whole item)
  seen_whole_kind (structs parts) = ap structs (seen_whole_all parts)
  seen_whole_kind _ = refl

  pub seen_whole_all : (cs : Columns) → seen_all Whole cs ≡ cs
  seen_whole_all no_column = refl
  seen_whole_all (and_column c cs) = ap (λ (x : Column). and_column x (seen_all Whole cs)) (seen_whole c) ∙ ap (λ (xs : Columns). and_column c xs) (seen_whole_all cs)

pub shape_decided : (r : Bool) (a b : PlainSchema) → r ≡ alike_all Shape (columns_of a.columns) (columns_of b.columns) → (r ≡ true) ↔ HaveOneShape a b
unfolding shape_of
shape_decided r a b e = Decides-at r _ e (alike_all_decides Shape (columns_of a.columns) (columns_of b.columns))

pub equal_decided : (r : Bool) (a b : Column) → r ≡ alike Whole a b → (r ≡ true) ↔ (a ≡ b)
equal_decided r a b e =
    Decides-like r (λ h. sym (seen_whole a) ∙ h ∙ seen_whole b) (λ h. seen_whole a ∙ h ∙ sym (seen_whole b)) (Decides-at r _ e (alike_decides Whole a b))

pub equal_kind_decided : (r : Bool) (a b : Kind) → r ≡ alike_kind Whole a b → (r ≡ true) ↔ (a ≡ b)
equal_kind_decided r a b e =
    Decides-like r (λ h. sym (seen_whole_kind a) ∙ h ∙ seen_whole_kind b) (λ h. seen_whole_kind a ∙ h ∙ sym (seen_whole_kind b)) (Decides-at r _ e (alike_kind_decides Whole a b))

columns_decide : (a b : List Column) → Decides (alike_all Whole (columns_of a) (columns_of b)) (a ≡ b)
columns_decide a b =
    Decides-like _ (λ h. sym (columns_listed a) ∙ ap list_of (sym (seen_whole_all (columns_of a)) ∙ h ∙ seen_whole_all (columns_of b)) ∙ columns_listed b)
    (λ h. ap (λ (cs : List Column). seen_all Whole (columns_of cs)) h) (alike_all_decides Whole (columns_of a) (columns_of b))

schema_from_parts : (a b : PlainSchema) → a.columns ≡ b.columns → a.pairs ≡ b.pairs → a ≡ b
schema_from_parts a b p q =
    ap (λ (cs : List Column). let s : PlainSchema = record { columns = cs; pairs = a.pairs } in s) p ∙ ap (λ (ps : List Pair). let s : PlainSchema = record { columns = b.columns; pairs = ps } in s) q

pub schema_decides : (a b : PlainSchema) (columns pairs : Bool) → columns ≡ alike_all Whole (columns_of a.columns) (columns_of b.columns) → pairs ≡ pairs_eq a.pairs b.pairs → Decides (columns && pairs) (a ≡ b)
schema_decides a b columns pairs e f =
    Decides-like _ (λ h. schema_from_parts a b h.0 h.1) (λ h. (ap (λ (s : PlainSchema). s.columns) h, ap (λ (s : PlainSchema). s.pairs) h))
    (Decides-and _ _ (Decides-at columns _ e (columns_decide a.columns b.columns)) (Decides-at pairs _ f (pairs_decides a.pairs b.pairs)))
