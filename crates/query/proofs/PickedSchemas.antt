-- A schema of some columns of another is within the limits.
use Rattle.std.proofs.Common.{◌≡◌, ℕ, ◌+◌, ◌≤◌, Bool, true, List, [], ◌∷◌, length, refl, sym, ap, ◌∙◌, arith, length-append}
use Rattle.std.specs.Prelude.{◌&&◌, sum_by, nat_le}
use Rattle.std.specs.List.{list_all, AllPass}
use Rattle.std.proofs.lemmas.Bool.{leb-true, le-leb}
use Rattle.std.proofs.lemmas.List.Sums.{sum_by-cons, sum_by-append, AllPass-from_list_all, list_all-from_AllPass}
use Rattle.std.proofs.lemmas.List.Folds.{list_all-append}
use Rattle.facts.specs.laws.Levels.{nat_le_max}
use Rattle.arrow_schema.specs.Column.{Column, columns_of, PlainSchema}
use Rattle.arrow_schema.specs.Preorder.{preorder, preorder_all, depth, depth_all, every_column}
use Rattle.arrow_schema.specs.Limits.{IsWithinLimits, pairs_in, bytes_in, has_number_in_range, has_flat_dictionary, has_bit_widths, has_utf8_texts}
use Rattle.query.specs.Selection.{pick, is_distinct}
use Rattle.query.specs.laws.Picks.{sum_by-pick, list_all-pick}

-- sums and tests over all columns, column by column
sum_all : (f : Column → ℕ) (cs : List Column) → sum_by f (preorder_all (columns_of cs)) ≡ sum_by (λ c. sum_by f (preorder c)) cs
unfolding preorder_all
sum_all f [] = refl
sum_all f (c ∷ cs) =
    sum_by-append f (preorder c) (preorder_all (columns_of cs)) ∙ (ap (λ n. sum_by f (preorder c) + n) (sum_all f cs) ∙ sym (sum_by-cons (λ c. sum_by f (preorder c)) c cs))

count_all : (cs : List Column) → length (preorder_all (columns_of cs)) ≡ sum_by (λ c. length (preorder c)) cs
unfolding preorder_all
count_all [] = refl
count_all (c ∷ cs) =
    length-append (preorder c) (preorder_all (columns_of cs)) ∙ (ap (λ n. length (preorder c) + n) (count_all cs) ∙ sym (sum_by-cons (λ c. length (preorder c)) c cs))

test_all : (p : Column → Bool) (cs : List Column) → list_all p (preorder_all (columns_of cs)) ≡ list_all (λ c. list_all p (preorder c)) cs
unfolding preorder_all
test_all p [] = refl
test_all p (c ∷ cs) = list_all-append p (preorder c) (preorder_all (columns_of cs)) ∙ ap (λ b. list_all p (preorder c) && b) (test_all p cs)

depth_within : (n : ℕ) (cs : List Column) → nat_le (depth_all (columns_of cs)) n ≡ list_all (λ c. nat_le (depth c) n) cs
unfolding depth_all
depth_within n [] = le-leb 0 n (omega arith)
depth_within n (c ∷ cs) = nat_le_max (depth c) (depth_all (columns_of cs)) n ∙ ap (λ b. nat_le (depth c) n && b) (depth_within n cs)

sum_picked : (f : Column → ℕ) (ps : List ℕ) (cs : List Column) → is_distinct ps ≡ true
    → sum_by f (preorder_all (columns_of (pick ps cs))) ≤ sum_by f (preorder_all (columns_of cs))
sum_picked f ps cs d = omega (arith, sum_all f cs, sum_all f (pick ps cs), sum_by-pick (λ c. sum_by f (preorder c)) ps cs d)

count_picked : (ps : List ℕ) (cs : List Column) → is_distinct ps ≡ true → length (preorder_all (columns_of (pick ps cs))) ≤ length (preorder_all (columns_of cs))
count_picked ps cs d = omega (arith, count_all cs, count_all (pick ps cs), sum_by-pick (λ c. length (preorder c)) ps cs d)

all_picked : (p : Column → Bool) (ps : List ℕ) (cs : List Column) → list_all p (preorder_all (columns_of cs)) ≡ true
    → list_all p (preorder_all (columns_of (pick ps cs))) ≡ true
all_picked p ps cs h = test_all p (pick ps cs) ∙ list_all-pick (λ c. list_all p (preorder c)) ps cs (sym (test_all p cs) ∙ h)

depth_picked : (n : ℕ) (ps : List ℕ) (cs : List Column) → depth_all (columns_of cs) ≤ n → depth_all (columns_of (pick ps cs)) ≤ n
depth_picked n ps cs h =
    leb-true _ _ (depth_within n (pick ps cs) ∙ list_all-pick (λ c. nat_le (depth c) n) ps cs (sym (depth_within n cs) ∙ le-leb _ n h))

abbrev pub picked_schema : List ℕ → PlainSchema → PlainSchema
picked_schema ps s = record { columns = pick ps s.columns; pairs = s.pairs }

pub limits_picked : (ps : List ℕ) (s : PlainSchema) → is_distinct ps ≡ true → IsWithinLimits s → IsWithinLimits (picked_schema ps s)
limits_picked ps s d h = record {
  levels = depth_picked _ ps s.columns h.levels;
  fields = omega (arith, h.fields, count_picked ps s.columns d);
  pairs = omega (arith, h.pairs, sum_picked pairs_in ps s.columns d);
  bytes = omega (arith, h.bytes, sum_picked bytes_in ps s.columns d);
  numbers = all has_number_in_range h.numbers;
  dictionaries = all has_flat_dictionary h.dictionaries;
  widths = all has_bit_widths h.widths;
  texts = all has_utf8_texts h.texts;
  own_texts = h.own_texts;
}
  where
    all : (p : Column → Bool) → AllPass p (every_column s) → AllPass p (every_column (picked_schema ps s))
    all p passed = AllPass-from_list_all p _ (all_picked p ps s.columns (list_all-from_AllPass p _ passed))
