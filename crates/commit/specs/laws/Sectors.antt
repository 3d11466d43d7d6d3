-- Each commit has one text, and each text has one commit.
use Rattle.std.specs.Prelude.{◌≡◌, ◌≤◌, ◌<◌, ◌^◌, ◌%◌, ◌==◌, ◌&&◌, ℕ, Bool, true, false, nat_eq, nat_lt, if◌then◌else◌, List, ◌∷◌, ◌++◌, drop, replicate, Option, Some, None, refl}
use Rattle.std.proofs.Common.{ap, ◌∙◌, subst, arith}
use Rattle.std.proofs.lemmas.Bool.Decides.{nat_tests}
use Rattle.std.specs.Cmp.Lexicographic.{pointwise, bytes_decides}
use Rattle.byteorder.specs.Endian.{little_bytes}
use Rattle.byteorder.specs.Numbers.{little_number-reads_back}
use Rattle.commit.specs.declared.sector.CatalogueKind.{CatalogueKind}
use Rattle.commit.specs.declared.sector.CatalogueKind.TheVariants.{Whole, Pages}
use Rattle.commit.specs.declared.sector.FormatVersion.{FormatVersion}
use Rattle.commit.specs.declared.sector.FormatVersion.TheVariants.{One, Two}
use Rattle.commit.specs.declared.sector.Commit.{Commit}
use Rattle.commit.specs.Sector.{version_number, kind_number, commit_text, u64_at, u32_at, version_in, kind_in, fields_of, is_placed, commit_at, IsCommit}

own_kind : (k : CatalogueKind) → (if kind_number k == 1 then Pages else Whole) ≡ k
own_kind Whole = refl
own_kind Pages = refl

kind_small : (k : CatalogueKind) → kind_number k < 2 ^ 32
kind_small Whole = omega arith
kind_small Pages = omega arith

own_version : (v : FormatVersion) → (if version_number v == 2 then Two else One) ≡ v
own_version One = refl
own_version Two = refl

version_small : (v : FormatVersion) → version_number v < 2 ^ 32
version_small One = omega arith
version_small Two = omega arith

-- the fields of a text are those it was written from
fields_again : (c : Commit) → IsCommit c → fields_of (commit_text c) ≡ c
unfolding commit_text
fields_again c is =
    let zeros : List ℕ = replicate 456 0 in
    let rest5 : List ℕ = little_bytes 4 (kind_number c.kind) ++ zeros in
    let rest4 : List ℕ = little_bytes 4 (version_number c.version) ++ rest5 in
    let rest3 : List ℕ = little_bytes 8 c.device_sectors ++ rest4 in
    let rest2 : List ℕ = little_bytes 8 c.catalogue.bytes ++ rest3 in
    let rest1 : List ℕ = little_bytes 8 c.catalogue.run.count ++ rest2 in
    let rest0 : List ℕ = little_bytes 8 c.catalogue.run.start ++ rest1 in
    let e : u64_at 8 (commit_text c) ≡ c.epoch = little_number-reads_back 8 c.epoch rest0 is.epoch_fits in
    let s : u64_at 16 (commit_text c) ≡ c.catalogue.run.start = little_number-reads_back 8 c.catalogue.run.start rest1 is.start_fits in
    let n : u64_at 24 (commit_text c) ≡ c.catalogue.run.count = little_number-reads_back 8 c.catalogue.run.count rest2 is.count_fits in
    let b : u64_at 32 (commit_text c) ≡ c.catalogue.bytes = little_number-reads_back 8 c.catalogue.bytes rest3 is.bytes_fit in
    let d : u64_at 40 (commit_text c) ≡ c.device_sectors = little_number-reads_back 8 c.device_sectors rest4 is.sectors_fit in
    let v : u32_at 48 (commit_text c) ≡ version_number c.version = little_number-reads_back 4 (version_number c.version) rest5 (version_small c.version) in
    let version : version_in (commit_text c) ≡ c.version = ap (λ (x : ℕ). if x == 2 then Two else One) v ∙ own_version c.version in
    let k : u32_at 52 (commit_text c) ≡ kind_number c.kind = little_number-reads_back 4 (kind_number c.kind) zeros (kind_small c.kind) in
    let kind : kind_in (commit_text c) ≡ c.kind = ap (λ (x : ℕ). if x == 1 then Pages else Whole) k ∙ own_kind c.kind in
    λ i. record {
      epoch = e i;
      catalogue = record { run = record { start = s i; count = n i }; bytes = b i };
      device_sectors = d i;
      version = version i;
      kind = kind i;
    }

-- a commit that is written into its sector is found there
pub found_again : (c : Commit) → IsCommit c → commit_at (c.epoch % 2) (Some (commit_text c)) ≡ Some c
unfolding commit_at
found_again c is =
    let again = fields_again c is in
    let low : nat_lt 0 c.epoch ≡ true = let lt : 1 ≤ c.epoch = is.epoch in grind (arith, nat_tests) in
    let same : (c.epoch % 2 == c.epoch % 2) ≡ true = grind (arith, nat_tests) in
    let equal : pointwise nat_eq (commit_text c) (commit_text c) ≡ true = (bytes_decides (commit_text c) (commit_text c)).1 refl in
    (λ i. if is_placed (c.epoch % 2) (again i) && pointwise nat_eq (commit_text c) (commit_text (again i)) then Some (again i) else None)
    ∙ (λ i. if low i && same i && equal i then Some c else None)

-- the properties of a commit that is found in a sector
pub record IsFoundAt (n : ℕ) (x : Option (List ℕ)) (c : Commit) : Type 0 where
  pub text : x ≡ Some (commit_text c)
  pub epoch : 1 ≤ c.epoch
  pub placed : c.epoch % 2 ≡ n

-- a commit is found only in its own text, and in the sector of its epoch
pub found_is : (n : ℕ) (x : Option (List ℕ)) (c : Commit) → commit_at n x ≡ Some c → IsFoundAt n x c
unfolding commit_at
found_is n None c is = absurd (cc is)
found_is n (Some bytes) c is = test (nat_lt 0 (fields_of bytes).epoch) ((fields_of bytes).epoch % 2 == n) (pointwise nat_eq bytes (commit_text (fields_of bytes))) refl refl refl is
  where
    test : (x y z : Bool) → nat_lt 0 (fields_of bytes).epoch ≡ x → ((fields_of bytes).epoch % 2 == n) ≡ y → pointwise nat_eq bytes (commit_text (fields_of bytes)) ≡ z
        → (if (x && y) && z then Some (fields_of bytes) else None) ≡ Some c → IsFoundAt n (Some bytes) c
    test true true true p q r is =
        let same : fields_of bytes ≡ c = cc is in
        let low : 1 ≤ (fields_of bytes).epoch = grind (arith, nat_tests) in
        let place : (fields_of bytes).epoch % 2 ≡ n = grind (arith, nat_tests) in
        subst (IsFoundAt n (Some bytes)) same (record { text = ap Some ((bytes_decides bytes (commit_text (fields_of bytes))).0 r); epoch = low; placed = place })
    test true true false p q r is = absurd (cc is)
    test true false z p q r is = absurd (cc is)
    test false y z p q r is = absurd (cc is)

-- no commit is found in a sector that can't be read
pub none_unreadable : (n : ℕ) (x : Option (List ℕ)) → x ≡ None → commit_at n x ≡ None
unfolding commit_at
none_unreadable n x is = ap (commit_at n) is

-- nor in one whose first byte is not that of a commit's text
pub none_begins : (n : ℕ) (b : ℕ) (rest : List ℕ) → (b == 65) ≡ false → commit_at n (Some (b ∷ rest)) ≡ None
unfolding commit_at commit_text
none_begins n b rest other = by_placed (is_placed n (fields_of (b ∷ rest)))
  where
    by_placed : (t : Bool) → (if t && ((b == 65) && pointwise nat_eq rest (drop 1 (commit_text (fields_of (b ∷ rest))))) then Some (fields_of (b ∷ rest)) else None) ≡ None
    by_placed true = λ i. if other i && pointwise nat_eq rest (drop 1 (commit_text (fields_of (b ∷ rest)))) then Some (fields_of (b ∷ rest)) else None
    by_placed false = refl
