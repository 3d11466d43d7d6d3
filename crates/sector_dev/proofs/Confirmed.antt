-- A sector that is written again before a sync.
use Rattle.std.proofs.Common.{◌≡◌, ◌≢◌, ◌⊎◌, ℕ, true, List, [], ◌∷◌, Option, Some, None, length, ap, ◌∙◌, arith, inl, inr, subst, sym, zero, suc}
use Rattle.std.specs.Prelude.{Result, Ok, Err, OnOk}
use Rattle.std.proofs.lemmas.Option.{none-some}
use Rattle.sector_dev.specs.Disk.{Sector, Story, now, IsSafe}
use Rattle.sector_dev.specs.Rows.{row_from, grown, Marks}
use Rattle.sector_dev.specs.Confirming.{HasWritten, seen_in, noted_in}
use Rattle.sector_dev.specs.laws.Crash.{put_same, put_other}
use Rattle.sector_dev.specs.declared.confirmed_file.ruling.RulingSectors.{RulingSectors}
use Rattle.sector_dev.specs.declared.sector_file.SectorFile.{Ghosts as FileGhosts}

row_shown : (s t : Story) (n : ℕ) (c : List ℕ) (row : List (List ℕ)) → row ≡ c ∷ [] → t ≡ grown (row_from n row) s → ((now t).at n).shown ≡ Some c
row_shown s t n c row one is =
    ap (λ (u : Story). ((now u).at n).shown) is
    ∙ ap (λ (cs : List (List ℕ)). ((now (grown (row_from n cs) s)).at n).shown) one
    ∙ ap (λ (sector : Sector). sector.shown) (put_same (now s) n c (Some c))

row_beside : (s t : Story) (n k : ℕ) (c : List ℕ) (row : List (List ℕ)) → k ≢ n → row ≡ c ∷ [] → t ≡ grown (row_from n row) s → ((now t).at k).shown ≡ ((now s).at k).shown
row_beside s t n k c row other one is =
    ap (λ (u : Story). ((now u).at k).shown) is
    ∙ ap (λ (cs : List (List ℕ)). ((now (grown (row_from n cs) s)).at k).shown) one
    ∙ ap (λ (sector : Sector). sector.shown) (put_other (now s) n c (Some c) k other)

-- a sector that was written has this content
pub written_here : {F : Type 0} (f : FileGhosts F) (old new : F) (n : ℕ) (x c : List ℕ) (row : List (List ℕ)) → row ≡ x ∷ [] → Some x ≡ Some c
    → f.story new ≡ grown (row_from n row) (f.story old) → Marks n (length row) (f.changed old) (f.changed new) → HasWritten f new n (Some c)
written_here f old new n x c row one same grows marks =
    let count : length row ≡ 1 = ap length one in
    (marks n (inl (omega arith, omega (arith, count))), row_shown (f.story old) (f.story new) n x row one grows ∙ same)

-- and the others what they had
pub written_beside : {F : Type 0} (f : FileGhosts F) (old new : F) (n k : ℕ) (x : List ℕ) (c : Option (List ℕ)) (row : List (List ℕ)) → row ≡ x ∷ [] → (k ≢ n) ⊎ (Some x ≡ None)
    → f.story new ≡ grown (row_from n row) (f.story old) → Marks n (length row) (f.changed old) (f.changed new) → HasWritten f old k c → HasWritten f new k c
written_beside f old new n k x c row one (inl other) grows marks had =
    (marks k (inr had.0), row_beside (f.story old) (f.story new) n k x row other one grows ∙ had.1)
written_beside f old new n k x c row one (inr none) grows marks had = absurd (cc none)

-- what has this content once it is synced
pub safe_as : {F : Type 0} (f : FileGhosts F) (old new : F) (n : ℕ) (c : Option (List ℕ)) → HasWritten f old n c
    → ((k : ℕ) → f.changed old k ≡ true → IsSafe (now (f.story new)) k ((now (f.story old)).at k).shown) → IsSafe (now (f.story new)) n c
safe_as f old new n c had safe = subst (λ (x : Option (List ℕ)). IsSafe (now (f.story new)) n x) had.1 (safe n had.0)

-- ---- after a success

abbrev pub Written : {F T E : Type 0} → FileGhosts F → Result T E → ℕ → List (List ℕ) → F → F → Type 0
Written f r n row old new = OnOk r ((f.sound new ≡ f.sound old) × (f.tells ≡ true → f.story new ≡ grown (row_from n row) (f.story old)))

abbrev pub Marked : {F T E : Type 0} → FileGhosts F → Result T E → ℕ → List (List ℕ) → F → F → Type 0
Marked f r n row old new = OnOk r (f.tells ≡ true → Marks n (length row) (f.changed old) (f.changed new))

-- one sector that reads have shown
module _ {F T E : Type 0} (f : FileGhosts F) (old new : F) (n : ℕ) (x : List ℕ) (shown : Option (List ℕ)) (row : List (List ℕ)) (some : shown ≡ Some x) (one : row ≡ x ∷ []) where
  pub again_after : (r : Result T E) → Written f r n row old new → Marked f r n row old new
      → OnOk r (f.tells ≡ true → (c : List ℕ) → shown ≡ Some c → HasWritten f new n (Some c))
  again_after (Ok v) written marked = λ told c is. written_here f old new n x c row one (sym some ∙ is) (written.1 told) (marked told)
  again_after (Err e) written marked = tt

  pub others_after : (r : Result T E) → Written f r n row old new → Marked f r n row old new
      → OnOk r (f.tells ≡ true → (k : ℕ) (c : Option (List ℕ)) → (k ≢ n) ⊎ (shown ≡ None) → HasWritten f old k c → HasWritten f new k c)
  others_after (Ok v) written marked = λ told k c out had.
      written_beside f old new n k x c row one (subst (λ (o : Option (List ℕ)). (k ≢ n) ⊎ (o ≡ None)) some out) (written.1 told) (marked told) had
  others_after (Err e) written marked = tt

-- both sectors, one after the other
module _ {F T E : Type 0} (f : FileGhosts F) (old mid new : F) (rs : RulingSectors)
    (first : f.tells ≡ true → (c : List ℕ) → rs.first ≡ Some c → HasWritten f mid 0 (Some c))
    (first_others : f.tells ≡ true → (k : ℕ) (c : Option (List ℕ)) → (k ≢ 0) ⊎ (rs.first ≡ None) → HasWritten f old k c → HasWritten f mid k c) where
  pub both_again : (r : Result T E) → OnOk r (f.tells ≡ true → (c : List ℕ) → rs.second ≡ Some c → HasWritten f new 1 (Some c))
      → OnOk r (f.tells ≡ true → (k : ℕ) (c : Option (List ℕ)) → (k ≢ 1) ⊎ (rs.second ≡ None) → HasWritten f mid k c → HasWritten f new k c)
      → OnOk r (f.tells ≡ true → (n : ℕ) (c : List ℕ) → seen_in rs n ≡ Some c → HasWritten f new n (Some c))
  both_again (Ok v) second others = λ told. by_sector told
    where
      by_sector : f.tells ≡ true → (n : ℕ) (c : List ℕ) → seen_in rs n ≡ Some c → HasWritten f new n (Some c)
      by_sector told zero c is = others told 0 (Some c) (inl (λ e. omega (arith, e))) (first told c is)
      by_sector told (suc zero) c is = second told c is
      by_sector told (suc (suc n)) c is = absurd (none-some c is)
  both_again (Err e) second others = tt

  pub both_others : (r : Result T E) → OnOk r (f.tells ≡ true → (k : ℕ) (c : Option (List ℕ)) → (k ≢ 1) ⊎ (rs.second ≡ None) → HasWritten f mid k c → HasWritten f new k c)
      → OnOk r (f.tells ≡ true → (n : ℕ) (c : Option (List ℕ)) → seen_in rs n ≡ None → HasWritten f old n c → HasWritten f new n c)
  both_others (Ok v) others = λ told. by_sector told
    where
      by_sector : f.tells ≡ true → (n : ℕ) (c : Option (List ℕ)) → seen_in rs n ≡ None → HasWritten f old n c → HasWritten f new n c
      by_sector told zero c none had = others told 0 c (inl (λ e. omega (arith, e))) (first_others told 0 c (inr none) had)
      by_sector told (suc zero) c none had = others told 1 c (inr none) (first_others told 1 c (inl (λ e. omega (arith, e))) had)
      by_sector told (suc (suc n)) c none had =
          others told (suc (suc n)) c (inl (λ e. omega (arith, e))) (first_others told (suc (suc n)) c (inl (λ e. omega (arith, e))) had)
  both_others (Err e) others = tt

pub noted_others : {F T E : Type 0} (f : FileGhosts F) (old new : F) (ruling : Option RulingSectors) (rs : RulingSectors) (r : Result T E) → ruling ≡ Some rs
    → OnOk r (f.tells ≡ true → (n : ℕ) (c : Option (List ℕ)) → seen_in rs n ≡ None → HasWritten f old n c → HasWritten f new n c)
    → OnOk r (f.tells ≡ true → (n : ℕ) (c : Option (List ℕ)) → noted_in ruling n ≡ None → HasWritten f old n c → HasWritten f new n c)
noted_others f old new ruling rs (Ok v) is others = λ told n c none had. others told n c (subst (λ (o : Option RulingSectors). noted_in o n ≡ None) is none) had
noted_others f old new ruling rs (Err e) is others = tt
