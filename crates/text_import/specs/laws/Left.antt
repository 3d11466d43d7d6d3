-- The remaining records of a CSV text.
use Rattle.std.proofs.Common.{◌≡◌, ℕ, ◌+◌, ◌-◌, ◌≤◌, ◌<◌, zero, suc, Bool, true, false, List, [], ◌∷◌, ◌++◌, length, refl, sym, ap, ◌∙◌, arith}
use Rattle.std.specs.Prelude.{Option, Some, None, if◌then◌else◌}
use Rattle.csv.specs.Machine.{Read, next_record, step, is_end, fields_after, field_after, ends_at_end}
use Rattle.csv.specs.Reading.{default_config, records_from, strip_bom}
use Rattle.csv.specs.declared.parser.Config.{Config}
use Rattle.csv.specs.declared.parser.State.{State}
use Rattle.csv.specs.declared.parser.State.TheVariants as st
use Rattle.text_import.specs.Records.{records_of}
use Rattle.text_import.specs.Stands.{Left}

-- reading a record leaves less of a text, if there was some
shorter : (cfg : Config) (s : State) (fields : List (List ℕ)) (field xs : List ℕ) (p : Read) → next_record cfg s fields field xs ≡ Some p → length p.2 ≤ length xs - 1
unfolding next_record
shorter cfg s fields field [] p e = by (ends_at_end s) e
  where
    by : (b : Bool) → (if b then Some (fields ++ (field ∷ []), st.StartRecord, []) else None) ≡ Some p → length p.2 ≤ 0
    by true is = (let same : (fields ++ (field ∷ []), st.StartRecord, []) ≡ p = cc in rw (← same) (omega arith))
    by false is = absurd cc
shorter cfg s fields field (c ∷ rest) p e =
    by (is_end (step cfg s c).1) e (shorter cfg (step cfg s c).0 (fields_after (step cfg s c).1 fields field) (field_after (step cfg s c).1 c field) rest p)
  where
    by : (b : Bool)
        → (if b then Some (fields_after (step cfg s c).1 fields field, (step cfg s c).0, rest)
        else next_record cfg (step cfg s c).0 (fields_after (step cfg s c).1 fields field) (field_after (step cfg s c).1 c field) rest)
        ≡ Some p
        → (next_record cfg (step cfg s c).0 (fields_after (step cfg s c).1 fields field) (field_after (step cfg s c).1 c field) rest ≡ Some p → length p.2 ≤ length rest - 1)
        → length p.2 ≤ length (c ∷ rest) - 1
    by true is more = (let same : (fields_after (step cfg s c).1 fields field, (step cfg s c).0, rest) ≡ p = cc in rw (← same) (omega arith))
    by false is more = (let less = more is in omega arith)

-- after the end of a text there is no record
none_left : (n : ℕ) → records_from default_config n st.StartRecord [] ≡ []
unfolding records_from next_record
none_left zero = refl
none_left (suc n) = refl

pub few_none : (s : State) (xs : List ℕ) → length (records_from default_config 0 s xs) ≤ 0
unfolding records_from
few_none s xs = omega arith

pub record_none : (n : ℕ) (s : State) (xs : List ℕ) → next_record default_config s [] [] xs ≡ None → records_from default_config n s xs ≡ []
unfolding records_from
record_none zero s xs e = refl
record_none (suc n) s xs e = rw e refl

pub record_some : (n : ℕ) (s : State) (xs : List ℕ) (p : Read) → next_record default_config s [] [] xs ≡ Some p
    → records_from default_config (suc n) s xs ≡ p.0 ∷ records_from default_config n p.1 p.2
unfolding records_from
record_some n s xs p e = rw e refl

-- the end of a text leaves nothing of it
ended : (s : State) (p : Read) → next_record default_config s [] [] [] ≡ Some p → (p.1 ≡ st.StartRecord) × (p.2 ≡ [])
unfolding next_record
ended s p e = by (ends_at_end s) e
  where
    by : (b : Bool) → (if b then Some (([] ++ ([] ∷ [])), st.StartRecord, []) else None) ≡ Some p → (p.1 ≡ st.StartRecord) × (p.2 ≡ [])
    by true is = (let same : (([] ++ ([] ∷ [])), st.StartRecord, []) ≡ p = cc in (ap (λ (q : Read). q.1) (sym same), ap (λ (q : Read). q.2) (sym same)))
    by false is = absurd cc

-- more steps than bytes return no more records
pub enough : (n m : ℕ) (s : State) (xs : List ℕ) → length xs < n → length xs < m → records_from default_config n s xs ≡ records_from default_config m s xs
enough zero m s xs l k = absurd (omega arith)
enough (suc n) zero s xs l k = absurd (omega arith)
enough (suc n) (suc m) s xs l k = by (next_record default_config s [] [] xs) refl (λ s2 ys a b. enough n m s2 ys a b)
  where
    same : (ys : List ℕ) → ys ≡ xs → (p : Read) → next_record default_config s [] [] ys ≡ Some p
        → ((s2 : State) (zs : List ℕ) → length zs < n → length zs < m → records_from default_config n s2 zs ≡ records_from default_config m s2 zs)
        → records_from default_config n p.1 p.2 ≡ records_from default_config m p.1 p.2
    same [] is p e more = (let end = ended s p e in rw (end.0, end.1) (none_left n ∙ sym (none_left m)))
    same (c ∷ rest) is p e more =
        let less = shorter default_config s [] [] (c ∷ rest) p e in
        let size = ap length is in
        more p.1 p.2 (omega arith) (omega arith)

    by : (o : Option Read) → next_record default_config s [] [] xs ≡ o
        → ((s2 : State) (zs : List ℕ) → length zs < n → length zs < m → records_from default_config n s2 zs ≡ records_from default_config m s2 zs)
        → records_from default_config (suc n) s xs ≡ records_from default_config (suc m) s xs
    by None e more = record_none (suc n) s xs e ∙ sym (record_none (suc m) s xs e)
    by (Some p) e more = record_some n s xs p e ∙ ap (λ rs. p.0 ∷ rs) (same xs refl p e more) ∙ sym (record_some m s xs p e)

-- the remaining records of a text
pub left_none : (rest : List (List (List ℕ))) (s : State) (xs : List ℕ) → Left rest s xs → next_record default_config s [] [] xs ≡ None → rest ≡ []
left_none rest s xs left e = left (length xs + 1) (omega arith) ∙ record_none (length xs + 1) s xs e

pub left_some : (rest : List (List (List ℕ))) (s : State) (xs : List ℕ) (p : Read) → Left rest s xs → next_record default_config s [] [] xs ≡ Some p
    → (more : List (List (List ℕ))) × (rest ≡ p.0 ∷ more) × Left more p.1 p.2
left_some rest s xs p left e =
    let k : ℕ = length xs + length p.2 + 1 in (
      records_from default_config k p.1 p.2,
      left (suc k) (omega arith) ∙ record_some k s xs p e,
      λ n lt. enough k n p.1 p.2 (omega arith) lt,
    )

-- the remaining records at the start of a text
pub left_first : (t : List ℕ) → Left (records_of t) st.StartRecord (strip_bom t)
left_first t n lt = enough (length (strip_bom t) + 1) n st.StartRecord (strip_bom t) (omega arith) lt
