-- What is known of the entries of dictionaries, for the columns of a run.
use Rattle.std.specs.Prelude.{Option, Some, None, IfSome, get_or, slice_get}
use Rattle.std.proofs.Common.{◌≡◌, ◌⊎◌, inl, inr, ◌+◌, ◌<◌, ℕ, zero, suc, List, [], ◌∷◌, ◌++◌, length, set, refl, sym, ap, subst, ◌∙◌, arith}
use Rattle.std.proofs.lemmas.Option.{slice_get_read}
use Rattle.columns.specs.Array.{Arrays, dictionary_in, first_array, other_arrays}
use Rattle.table_cut.specs.Rows.{arrays_of_run}
use Rattle.table_cut.specs.declared.entry_sizes.EntrySize.{EntrySize}
use Rattle.table_cut.specs.declared.row_run.RowRun.{RowRun}
use Rattle.table_cut.specs.inner.Columns.{array_at, arrays_from_place}
use Rattle.table_cut.specs.inner.EntrySizes.{AreSizesAt, AreSizesOf, IsSizeOf}
use Rattle.table_cut.proofs.ColumnLemmas.{arrays_next}

-- an item of a list with one item more
one_more : {X : Type 0} (xs : List X) (x y : X) (j : ℕ) → slice_get (xs ++ x ∷ []) j ≡ Some y → (slice_get xs j ≡ Some y) ⊎ ((j ≡ length xs) × (Some x ≡ Some y))
one_more [] x y zero is = inr (refl, is)
one_more [] x y (suc j) is = cc
one_more (z ∷ xs) x y zero is = inl is
one_more (z ∷ xs) x y (suc j) is = elim (one_more xs x y j is) [
  | inl own ↦ inl own
  | inr last ↦ inr (ap suc last.0, last.1)
]

if_some : {X : Type 0} (P : X → Type 0) (o : Option X) (x : X) → Some o ≡ Some (Some x) → IfSome o P → P x
if_some P None x is holds = cc
if_some P (Some y) x is holds = (let same : y ≡ x = cc in subst P same holds)

pub none_known : (r : RowRun) (sizes : List (Option EntrySize)) → sizes ≡ [] → AreSizesOf r sizes
none_known r sizes none = λ j known is. (let gone : None ≡ Some (Some known) = ap (λ (xs : List (Option EntrySize)). slice_get xs j) (sym none) ∙ is in cc)

pub one_known : (r : RowRun) (sizes : List (Option EntrySize)) (o : Option EntrySize) (place : ℕ) → place ≡ length sizes → AreSizesOf r sizes
    → IfSome o (λ known. IsSizeOf (dictionary_in (array_at place r)) known) → AreSizesOf r (sizes ++ o ∷ [])
one_known r sizes o place count known more = λ j own is. elim (one_more sizes o (Some own) j is) [
  | inl before ↦ known j own before
  | inr last ↦ (
      let here : j ≡ place = last.0 ∙ sym count in
      subst (λ (k : ℕ). IsSizeOf (dictionary_in (array_at k r)) own) (sym here) (if_some (IsSizeOf (dictionary_in (array_at place r))) o own last.1 more)
      )
]

-- of a run, where it is
pub sizes_here : (items : List RowRun) (next : ℕ) (r : RowRun) (sizes : List (Option EntrySize)) → next < length items → r ≡ get_or items next r → AreSizesOf r sizes
    → AreSizesAt next items sizes
sizes_here items next r sizes lt at known = λ other is.
    let there : Some r ≡ Some other = sym (slice_get_read items (length items) next r refl lt at) ∙ is in
    let same : r ≡ other = cc in
    subst (λ (run : RowRun). AreSizesOf run sizes) same known

-- ---- a run of the same arrays

same_arrays : (j : ℕ) (r s : RowRun) → arrays_of_run s ≡ arrays_of_run r → arrays_from_place j s ≡ arrays_from_place j r
same_arrays zero r s same = same
same_arrays (suc j) r s same =
    let one : j + 1 ≡ suc j = omega arith in
    subst (λ (k : ℕ). arrays_from_place k s ≡ arrays_from_place k r) one (sym (arrays_next j s) ∙ ap other_arrays (same_arrays j r s same) ∙ arrays_next j r)

pub same_sizes : (r s : RowRun) (sizes : List (Option EntrySize)) → arrays_of_run s ≡ arrays_of_run r → AreSizesOf r sizes → AreSizesOf s sizes
same_sizes r s sizes same known = λ j own is.
    subst (λ (arrays : Arrays). IsSizeOf (dictionary_in (first_array arrays)) own) (sym (same_arrays j r s same)) (known j own is)

item_set : {X : Type 0} (xs : List X) (i : ℕ) (x y : X) → i < length xs → slice_get (set xs i x) i ≡ Some y → Some x ≡ Some y
item_set [] i x y lt is = absurd (omega arith)
item_set (z ∷ xs) zero x y lt is = is
item_set (z ∷ xs) (suc i) x y lt is = item_set xs i x y (omega arith) is

-- if a run is in the place of another one, whose rows after some it has
pub sizes_of_rest : (items : List RowRun) (next : ℕ) (r s : RowRun) (sizes : List (Option EntrySize)) → next < length items → arrays_of_run s ≡ arrays_of_run r → AreSizesOf r sizes
    → AreSizesAt next (set items next s) sizes
sizes_of_rest items next r s sizes lt same known = λ other is.
    let set_there : Some s ≡ Some other = item_set items next s other lt is in
    let own : s ≡ other = cc in
    subst (λ (run : RowRun). AreSizesOf run sizes) own (same_sizes r s sizes same known)
