-- How the text of a commit sector is written and read.
use Rattle.std.proofs.Common.{◌≡◌, ℕ, ◌+◌, ◌-◌, ◌%◌, ◌<◌, ◌≤◌, ◌==◌, ◌&&◌, nat_lt, Bool, true, false, if◌then◌else◌, List, ◌++◌, length, take, drop, replicate, Some, None, refl, sym, ap, ◌∙◌, arith, append_assoc, length-append, take_at}
use lib.Seq.{drop-append-add}
use Rattle.std.specs.Prelude.{nat_eq}
use Rattle.std.specs.Cmp.Lexicographic.{pointwise}
use Rattle.std.proofs.lemmas.List.{drop-replicate}
use Rattle.std.proofs.lemmas.Bool.Decides.{nat_tests}
use Rattle.segments.specs.Sectors.{filled}
use Rattle.commit.specs.declared.sector.Commit.{Commit}
use Rattle.commit.specs.Sector.{commit_text, fields_of, is_placed, commit_at, IsCommit}
use Rattle.commit.specs.laws.Sectors.{found_again}

-- a field that is written over the zeros after those before it
pub filled_more : (front bytes : List ℕ) (at : ℕ) → length front ≡ at
    → take at (filled front) ++ (bytes ++ drop (at + length bytes) (filled front)) ≡ filled (front ++ bytes)
filled_more front bytes at long =
    let zeros : List ℕ = replicate (512 - length front) 0 in
    let left : 512 - length front - length bytes ≡ 512 - length (front ++ bytes) = omega (arith, length-append front bytes) in
    let rest : drop (at + length bytes) (front ++ zeros) ≡ replicate (512 - length (front ++ bytes)) 0 =
    ap (λ (n : ℕ). drop (n + length bytes) (front ++ zeros)) (sym long) ∙ drop-append-add front zeros (length bytes)
    ∙ drop-replicate (length bytes) (512 - length front) 0 ∙ ap (λ n. replicate n 0) left in
    (λ i. take_at front zeros at long i ++ (bytes ++ rest i)) ∙ sym (append_assoc front bytes _)

-- the field has these bytes
pub with_field : (front found bytes new : List ℕ) → new ≡ filled (front ++ found) → found ≡ bytes → new ≡ filled (front ++ bytes)
with_field front found bytes new is same = is ∙ ap (λ (b : List ℕ). filled (front ++ b)) same

-- all tests passed
pub found : (n : ℕ) (bytes text : List ℕ) (c : Commit) → c ≡ fields_of bytes → text ≡ commit_text c → 0 < c.epoch → c.epoch % 2 ≡ n → pointwise nat_eq bytes text ≡ true → Some c ≡ commit_at n (Some bytes)
unfolding commit_at
found n bytes text c is spelled some place equal =
    let low : nat_lt 0 c.epoch ≡ true = grind (arith, nat_tests) in
    let even : (c.epoch % 2 == n) ≡ true = grind (arith, nat_tests) in
    let same : pointwise nat_eq bytes (commit_text c) ≡ true = ap (pointwise nat_eq bytes) (sym spelled) ∙ equal in
    sym ((λ i. if is_placed n (sym is i) && pointwise nat_eq bytes (commit_text (sym is i)) then Some (sym is i) else None)
    ∙ (λ i. if (low i && even i) && same i then Some c else None))

-- its place is another one
pub misplaced : (n : ℕ) (bytes : List ℕ) (c : Commit) → c ≡ fields_of bytes → is_placed n c ≡ false → None ≡ commit_at n (Some bytes)
unfolding commit_at
misplaced n bytes c is other =
    sym ((λ i. if is_placed n (sym is i) && pointwise nat_eq bytes (commit_text (sym is i)) then Some (sym is i) else None)
    ∙ (λ i. if other i && pointwise nat_eq bytes (commit_text c) then Some c else None))

-- its text is another one
pub misspelled : (n : ℕ) (bytes text : List ℕ) (c : Commit) → c ≡ fields_of bytes → text ≡ commit_text c → pointwise nat_eq bytes text ≡ false → None ≡ commit_at n (Some bytes)
unfolding commit_at
misspelled n bytes text c is spelled other =
    sym ((λ i. if is_placed n (sym is i) && pointwise nat_eq bytes (commit_text (sym is i)) then Some (sym is i) else None)
    ∙ (λ i. if is_placed n c && (ap (pointwise nat_eq bytes) (sym spelled) ∙ other) i then Some c else None)
    ∙ by_place (is_placed n c))
  where
    by_place : (t : Bool) → (if t && false then Some c else None) ≡ None
    by_place true = refl
    by_place false = refl

pub another_sector : (n : ℕ) (c : Commit) → (c.epoch % 2 ≡ n → ⊥) → is_placed n c ≡ false
another_sector n c other = let odd : (c.epoch % 2 == n) ≡ false = grind (arith, nat_tests) in ap (λ t. nat_lt 0 c.epoch && t) odd ∙ by_epoch (nat_lt 0 c.epoch)
  where
    by_epoch : (t : Bool) → (t && false) ≡ false
    by_epoch true = refl
    by_epoch false = refl

pub no_epoch : (n : ℕ) (c : Commit) → c.epoch ≤ 0 → is_placed n c ≡ false
no_epoch n c none = let zero : nat_lt 0 c.epoch ≡ false = grind (arith, nat_tests) in ap (λ t. t && (c.epoch % 2 == n)) zero

-- a sector with the text of a commit holds it
pub found_in : (c : Commit) (sector : List ℕ) → IsCommit c → sector ≡ commit_text c → commit_at (c.epoch % 2) (Some sector) ≡ Some c
found_in c sector is text = ap (λ (s : List ℕ). commit_at (c.epoch % 2) (Some s)) text ∙ found_again c is
