-- Which commit rules an image.
use Rattle.std.proofs.Common.{◌≡◌, ◌≢◌, ◌⊎◌, inl, inr, ⊎_elim, ◌≤◌, ◌<◌, ◌+◌, ◌%◌, if◌then◌else◌, nat_lt, ℕ, Bool, true, false, Option, Some, None, refl, sym, ap, ◌∙◌, subst, arith}
use Rattle.std.proofs.lemmas.Bool.{cases_eq}
use Rattle.std.proofs.lemmas.Bool.Decides.{nat_tests}
use Rattle.sector_dev.specs.Disk.{Image}
use Rattle.commit.specs.declared.sector.Commit.{Commit}
use Rattle.commit.specs.Sector.{commit_at}
use Rattle.commit.specs.Ruling.{newer, ruling}
use Rattle.commit.specs.laws.Sectors.{found_is}

-- with the same commit sectors the same commit rules
pub same_rules : (i j : Image) → j 0 ≡ i 0 → j 1 ≡ i 1 → ruling j ≡ ruling i
unfolding ruling
same_rules i j zeroth first = λ k. newer (commit_at 0 (zeroth k)) (commit_at 1 (first k))

-- the one that rules has the greatest epoch
chosen_by : (v : Bool) (a b old : Commit) → nat_lt a.epoch b.epoch ≡ v → (if v then Some b else Some a) ≡ Some old → (a.epoch ≤ old.epoch) × (b.epoch ≤ old.epoch)
chosen_by true a b old test is = let same : b ≡ old = cc in let e = ap (λ (c : Commit). c.epoch) same in let lt : a.epoch < b.epoch = grind (arith, nat_tests) in (omega arith, omega arith)
chosen_by false a b old test is = let same : a ≡ old = cc in let e = ap (λ (c : Commit). c.epoch) same in let le : b.epoch ≤ a.epoch = grind (arith, nat_tests) in (omega arith, omega arith)

pub greatest : (a b old : Commit) → newer (Some a) (Some b) ≡ Some old → (a.epoch ≤ old.epoch) × (b.epoch ≤ old.epoch)
unfolding newer
greatest a b old is = chosen_by (nat_lt a.epoch b.epoch) a b old refl is

-- a commit with a greater epoch rules, in the place of either
newest_left : (a b : Option Commit) (old new : Commit) → newer a b ≡ Some old → old.epoch < new.epoch → newer (Some new) b ≡ Some new
unfolding newer
newest_left a None old new is lt = refl
newest_left None (Some b) old new is lt = let no : nat_lt new.epoch b.epoch ≡ false = let same : b ≡ old = cc in let e = ap (λ (c : Commit). c.epoch) same in grind (arith, nat_tests) in ap (λ (v : Bool). if v then Some b else Some new) no
newest_left (Some a) (Some b) old new is lt =
    let low : b.epoch ≤ old.epoch = (greatest a b old is).1 in
    let no : nat_lt new.epoch b.epoch ≡ false = grind (arith, nat_tests) in ap (λ (v : Bool). if v then Some b else Some new) no

newest_right : (a b : Option Commit) (old new : Commit) → newer a b ≡ Some old → old.epoch < new.epoch → newer a (Some new) ≡ Some new
unfolding newer
newest_right None b old new is lt = refl
newest_right (Some a) None old new is lt =
    let same : a ≡ old = cc in let e = ap (λ (c : Commit). c.epoch) same in
    let more : nat_lt a.epoch new.epoch ≡ true = grind (arith, nat_tests) in ap (λ (v : Bool). if v then Some new else Some a) more
newest_right (Some a) (Some b) old new is lt =
    let low : a.epoch ≤ old.epoch = (greatest a b old is).0 in
    let more : nat_lt a.epoch new.epoch ≡ true = grind (arith, nat_tests) in ap (λ (v : Bool). if v then Some new else Some a) more

-- the sector of a new epoch: it rules
pub new_rules : (i j : Image) (epoch : ℕ) (old new : Commit) → ruling i ≡ Some old → old.epoch < new.epoch → ((n : ℕ) → n ≢ epoch % 2 → j n ≡ i n) → commit_at (epoch % 2) (j (epoch % 2)) ≡ Some new → ruling j ≡ Some new
unfolding ruling
new_rules i j epoch old new rules lt same here =
    ⊎_elim (λ (even : epoch % 2 ≡ 0).
    let other : j 1 ≡ i 1 = same 1 (λ e. omega arith) in
    let at : commit_at 0 (j 0) ≡ Some new = subst (λ k. commit_at k (j k) ≡ Some new) even here in
    (λ k. newer (at k) (commit_at 1 (other k))) ∙ newest_left (commit_at 0 (i 0)) (commit_at 1 (i 1)) old new rules lt)
    (λ (odd : epoch % 2 ≡ 1).
    let other : j 0 ≡ i 0 = same 0 (λ e. omega arith) in
    let at : commit_at 1 (j 1) ≡ Some new = subst (λ k. commit_at k (j k) ≡ Some new) odd here in
    (λ k. newer (commit_at 0 (other k)) (at k)) ∙ newest_right (commit_at 0 (i 0)) (commit_at 1 (i 1)) old new rules lt)
    (parity epoch)
  where
    parity : (n : ℕ) → (n % 2 ≡ 0) ⊎ (n % 2 ≡ 1)
    parity n = ⊎_elim (λ (z : n % 2 ≡ 0). inl z) (λ (nz : n % 2 ≢ 0). inr (omega arith)) (cases_eq (n % 2) 0)

-- one of the two rules
one_of : (a b : Option Commit) (old : Commit) → newer a b ≡ Some old → (a ≡ Some old) ⊎ (b ≡ Some old)
unfolding newer
one_of None b old is = inr is
one_of (Some a) None old is = inl is
one_of (Some a) (Some b) old is = by_test (nat_lt a.epoch b.epoch) is
  where
    by_test : (v : Bool) → (if v then Some b else Some a) ≡ Some old → (Some a ≡ Some old) ⊎ (Some b ≡ Some old)
    by_test true is = inr is
    by_test false is = inl is

newer_left : (b : Option Commit) → newer (commit_at 0 None) b ≡ b
unfolding newer commit_at
newer_left b = refl

newer_right : (a : Option Commit) → newer a (commit_at 1 None) ≡ a
unfolding newer commit_at
newer_right None = refl
newer_right (Some a) = refl

-- where the sector of the next epoch can't be read, the other one rules
pub old_rules : (i j : Image) (epoch : ℕ) (old : Commit) → ruling i ≡ Some old → epoch ≡ old.epoch + 1 → ((n : ℕ) → n ≢ epoch % 2 → j n ≡ i n) → j (epoch % 2) ≡ None → ruling j ≡ Some old
unfolding ruling
old_rules i j epoch old rules next same here =
    ⊎_elim (λ (even : epoch % 2 ≡ 0).
    let other : j 1 ≡ i 1 = same 1 (λ e. omega arith) in
    let gone : j 0 ≡ None = subst (λ k. j k ≡ None) even here in
    let at : commit_at 1 (i 1) ≡ Some old = ⊎_elim (λ (l : commit_at 0 (i 0) ≡ Some old). let e = (found_is 0 (i 0) old l).placed in absurd (omega arith)) (λ (r : commit_at 1 (i 1) ≡ Some old). r) (one_of (commit_at 0 (i 0)) (commit_at 1 (i 1)) old rules) in
    (λ k. newer (commit_at 0 (gone k)) (commit_at 1 (other k))) ∙ newer_left (commit_at 1 (i 1)) ∙ at)
    (λ (odd : epoch % 2 ≢ 0).
    let is : epoch % 2 ≡ 1 = omega arith in
    let other : j 0 ≡ i 0 = same 0 (λ e. omega arith) in
    let gone : j 1 ≡ None = subst (λ k. j k ≡ None) is here in
    let at : commit_at 0 (i 0) ≡ Some old = ⊎_elim (λ (l : commit_at 0 (i 0) ≡ Some old). l) (λ (r : commit_at 1 (i 1) ≡ Some old). let e = (found_is 1 (i 1) old r).placed in absurd (omega arith)) (one_of (commit_at 0 (i 0)) (commit_at 1 (i 1)) old rules) in
    (λ k. newer (commit_at 0 (other k)) (commit_at 1 (gone k))) ∙ newer_right (commit_at 0 (i 0)) ∙ at)
    (cases_eq (epoch % 2) 0)

-- the commit that rules stands in the sector of its epoch
pub rules_in : (i : Image) (old : Commit) → ruling i ≡ Some old → commit_at (old.epoch % 2) (i (old.epoch % 2)) ≡ Some old
unfolding ruling
rules_in i old rules =
    ⊎_elim (λ (l : commit_at 0 (i 0) ≡ Some old). subst (λ k. commit_at k (i k) ≡ Some old) (sym (found_is 0 (i 0) old l).placed) l)
    (λ (r : commit_at 1 (i 1) ≡ Some old). subst (λ k. commit_at k (i k) ≡ Some old) (sym (found_is 1 (i 1) old r).placed) r)
    (one_of (commit_at 0 (i 0)) (commit_at 1 (i 1)) old rules)
