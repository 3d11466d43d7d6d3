-- How records without quotes are read.
use Rattle.std.specs.Prelude.{not, ◌||◌, ◌==◌, Some, if◌then◌else◌}
use Rattle.std.specs.List.{list_all}
use Rattle.std.proofs.Common.{◌≡◌, ℕ, zero, suc, Bool, true, false, List, [], ◌∷◌, ◌++◌, refl, arith, ap, sym, subst, ◌∙◌, append_assoc, append-nil}
use Rattle.std.proofs.lemmas.Bool.{and_parts, eqb-true, false≢true, or_parts, not-true}
use Rattle.csv.specs.Machine.{after_end, next_record}
use Rattle.csv.specs.Reading.{default_config, records_from}
use Rattle.csv.specs.declared.parser.State.{State}
use Rattle.csv.specs.declared.parser.State.TheVariants as st
use Rattle.csv.specs.declared.parser.Terminator.TheVariants as term
use Rattle.text_import.specs.Stands.{Left}
use Rattle.text_import.specs.laws.Left.{enough, left_some}
use Rattle.text_columns.specs.inner.Plain.{IsFresh, begins_quoted, ends_field, ends_line}

-- ---- fields

module _ (fs : List (List ℕ)) where
  -- a byte that ends no field joins it
  joins : (c : ℕ) (field rest : List ℕ) → ends_field c ≡ false → next_record default_config st.InField fs field (c ∷ rest) ≡ next_record default_config st.InField fs (field ++ c ∷ []) rest
  unfolding next_record
  joins c field rest h = let parts = or_parts (c == 44) (ends_line c) h in rw (parts.0, parts.1) refl

  run_in : (f field rest : List ℕ) → list_all (λ b. not (ends_field b)) f ≡ true → next_record default_config st.InField fs field (f ++ rest) ≡ next_record default_config st.InField fs (field ++ f) rest
  run_in [] field rest h = ap (λ (xs : List ℕ). next_record default_config st.InField fs xs rest) (sym (append-nil field))
  run_in (c ∷ f) field rest h =
      let parts = and_parts (not (ends_field c)) (list_all (λ b. not (ends_field b)) f) h in
      joins c field (f ++ rest) (not-true _ parts.0) ∙ run_in f (field ++ c ∷ []) rest parts.1 ∙ ap (λ (xs : List ℕ). next_record default_config st.InField fs xs rest) (append_assoc field (c ∷ []) f)

  -- its first byte, if that is no quote
  begins : (c : ℕ) (rest : List ℕ) → ends_field c ≡ false → (c == 34) ≡ false → next_record default_config st.StartField fs [] (c ∷ rest) ≡ next_record default_config st.InField fs (c ∷ []) rest
  unfolding next_record
  begins c rest h q = let parts = or_parts (c == 44) (ends_line c) h in rw (q, parts.0, parts.1) refl

  -- what ends a field in which the machine stands, and one that is empty
  line_in : (e : ℕ) (field rest : List ℕ) → ends_line e ≡ true → next_record default_config st.InField fs field (e ∷ rest) ≡ Some (fs ++ field ∷ [], after_end term.CRLF e, rest)
  unfolding next_record
  line_in e field rest h = by (e == 44) refl
    where
      by : (b : Bool) → (e == 44) ≡ b → next_record default_config st.InField fs field (e ∷ rest) ≡ Some (fs ++ field ∷ [], after_end term.CRLF e, rest)
      by false is = rw (is, h) refl
      by true is = (let same : e ≡ 44 = eqb-true _ _ is in absurd (false≢true (rw same at h)))

  line_at_once : (e : ℕ) (rest : List ℕ) → ends_line e ≡ true → next_record default_config st.StartField fs [] (e ∷ rest) ≡ Some (fs ++ [] ∷ [], after_end term.CRLF e, rest)
  unfolding next_record
  line_at_once e rest h = by (e == 34) refl (e == 44) refl
    where
      by : (a : Bool) → (e == 34) ≡ a → (b : Bool) → (e == 44) ≡ b → next_record default_config st.StartField fs [] (e ∷ rest) ≡ Some (fs ++ [] ∷ [], after_end term.CRLF e, rest)
      by true is b is2 = (let same : e ≡ 34 = eqb-true _ _ is in absurd (false≢true (rw same at h)))
      by false is true is2 = (let same : e ≡ 44 = eqb-true _ _ is2 in absurd (false≢true (rw same at h)))
      by false is false is2 = rw (is, is2, h) refl

field_in : (fs : List (List ℕ)) (c : ℕ) (f rest : List ℕ) → list_all (λ b. not (ends_field b)) (c ∷ f) ≡ true → (c == 34) ≡ false
    → next_record default_config st.StartField fs [] ((c ∷ f) ++ rest) ≡ next_record default_config st.InField fs (c ∷ f) rest
field_in fs c f rest h q =
    let parts = and_parts (not (ends_field c)) (list_all (λ b. not (ends_field b)) f) h in
    begins fs c (f ++ rest) (not-true _ parts.0) q ∙ run_in fs f (c ∷ []) rest parts.1

pub before_comma : (fs : List (List ℕ)) (f rest : List ℕ) → list_all (λ b. not (ends_field b)) f ≡ true → begins_quoted f ≡ false
    → next_record default_config st.StartField fs [] (f ++ 44 ∷ rest) ≡ next_record default_config st.StartField (fs ++ f ∷ []) [] rest
unfolding next_record
before_comma fs [] rest h q = refl
before_comma fs (c ∷ f) rest h q = field_in fs c f (44 ∷ rest) h q ∙ refl

pub before_line : (fs : List (List ℕ)) (f rest : List ℕ) (e : ℕ) → list_all (λ b. not (ends_field b)) f ≡ true → begins_quoted f ≡ false → ends_line e ≡ true
    → next_record default_config st.StartField fs [] (f ++ e ∷ rest) ≡ Some (fs ++ f ∷ [], after_end term.CRLF e, rest)
before_line fs [] rest e h q is = line_at_once fs e rest is
before_line fs (c ∷ f) rest e h q is = field_in fs c f (e ∷ rest) h q ∙ line_in fs e (c ∷ f) rest is

pub before_end : (fs : List (List ℕ)) (f : List ℕ) → list_all (λ b. not (ends_field b)) f ≡ true → begins_quoted f ≡ false
    → next_record default_config st.StartField fs [] (f ++ []) ≡ Some (fs ++ f ∷ [], st.StartRecord, [])
unfolding next_record
before_end fs [] h q = refl
before_end fs (c ∷ f) h q = field_in fs c f [] h q ∙ refl

-- ---- between records

pub after_carriage : IsFresh st.AfterCr
unfolding next_record
after_carriage [] = refl
after_carriage (c ∷ xs) = by (c == 10) refl
  where
    by : (b : Bool) → (c == 10) ≡ b → next_record default_config st.AfterCr [] [] (c ∷ xs) ≡ next_record default_config st.StartRecord [] [] (c ∷ xs)
    by false is = rw is refl
    by true is = (let same : c ≡ 10 = eqb-true _ _ is in rw same refl)

pub after_line : (e : ℕ) → IsFresh (after_end term.CRLF e)
after_line e = by (e == 13)
  where
    by : (b : Bool) → IsFresh (if b then st.AfterCr else st.StartRecord)
    by true = after_carriage
    by false = λ xs. refl

skipped : (e : ℕ) (rest : List ℕ) → ends_line e ≡ true → next_record default_config st.StartRecord [] [] (e ∷ rest) ≡ next_record default_config st.StartRecord [] [] rest
unfolding next_record
skipped e rest h = rw h refl

pub starts_record : (c : ℕ) (rest : List ℕ) → ends_line c ≡ false → next_record default_config st.StartRecord [] [] (c ∷ rest) ≡ next_record default_config st.StartField [] [] (c ∷ rest)
unfolding next_record
starts_record c rest h = rw h refl

same_records : (n : ℕ) (s t : State) (xs ys : List ℕ) → next_record default_config s [] [] xs ≡ next_record default_config t [] [] ys → records_from default_config n s xs ≡ records_from default_config n t ys
unfolding records_from
same_records zero s t xs ys e = refl
same_records (suc n) s t xs ys e = rw e refl

-- a state that reads on as the start of a text does
pub left_fresh : (records : List (List (List ℕ))) (s : State) (xs : List ℕ) → IsFresh s → Left records s xs → Left records st.StartRecord xs
left_fresh records s xs fresh left n lt = left n lt ∙ same_records n s st.StartRecord xs xs (fresh xs)

pub left_skipped : (records : List (List (List ℕ))) (run rest : List ℕ) → list_all ends_line run ≡ true → Left records st.StartRecord (run ++ rest) → Left records st.StartRecord rest
left_skipped records [] rest h left = left
left_skipped records (e ∷ run) rest h left =
    let parts = and_parts (ends_line e) (list_all ends_line run) h in
    left_skipped records run rest parts.1 (one left)
  where
    one : Left records st.StartRecord ((e ∷ run) ++ rest) → Left records st.StartRecord (run ++ rest)
    one left n lt =
        left (suc n) (omega arith)
        ∙ same_records (suc n) st.StartRecord st.StartRecord ((e ∷ run) ++ rest) (run ++ rest) (skipped e (run ++ rest) (and_parts (ends_line e) (list_all ends_line run) h).0)
        ∙ enough (suc n) n st.StartRecord (run ++ rest) (omega arith) lt

-- ---- a record that is passed over

abbrev pub begins_line : List ℕ → Bool
begins_line [] = false
begins_line (c ∷ xs) = ends_line c

-- a record that ends there, whatever its fields
record Ends (s : State) (fs : List (List ℕ)) (field run rest : List ℕ) (e : ℕ) : Type 0 where
  fields : List (List ℕ)
  is : next_record default_config s fs field (run ++ e ∷ rest) ≡ Some (fields, after_end term.CRLF e, rest)

quiet_parts : (c : ℕ) → not (ends_line c || (c == 34)) ≡ true → (ends_line c ≡ false) × ((c == 34) ≡ false)
quiet_parts c h = let parts = or_parts (ends_line c) (c == 34) (not-true _ h) in (parts.0, parts.1)

comma_at_once : (fs : List (List ℕ)) (rest : List ℕ) → next_record default_config st.StartField fs [] (44 ∷ rest) ≡ next_record default_config st.StartField (fs ++ [] ∷ []) [] rest
unfolding next_record
comma_at_once fs rest = refl

comma_in : (fs : List (List ℕ)) (field rest : List ℕ) → next_record default_config st.InField fs field (44 ∷ rest) ≡ next_record default_config st.StartField (fs ++ field ∷ []) [] rest
unfolding next_record
comma_in fs field rest = refl

passed : (run rest : List ℕ) (e : ℕ) → list_all (λ b. not (ends_line b || (b == 34))) run ≡ true → ends_line e ≡ true
    → ((fs : List (List ℕ)) → Ends st.StartField fs [] run rest e) × ((fs : List (List ℕ)) (field : List ℕ) → Ends st.InField fs field run rest e)
passed [] rest e h is = (λ fs. record { fields = fs ++ [] ∷ []; is = line_at_once fs e rest is }, λ fs field. record { fields = fs ++ field ∷ []; is = line_in fs e field rest is })
passed (c ∷ run) rest e h is = by (c == 44) refl (passed run rest e parts.1 is)
  where
    parts : (not (ends_line c || (c == 34)) ≡ true) × (list_all (λ b. not (ends_line b || (b == 34))) run ≡ true)
    parts = and_parts (not (ends_line c || (c == 34))) (list_all (λ b. not (ends_line b || (b == 34))) run) h

    by : (b : Bool) → (c == 44) ≡ b → ((fs : List (List ℕ)) → Ends st.StartField fs [] run rest e) × ((fs : List (List ℕ)) (field : List ℕ) → Ends st.InField fs field run rest e)
        → ((fs : List (List ℕ)) → Ends st.StartField fs [] (c ∷ run) rest e) × ((fs : List (List ℕ)) (field : List ℕ) → Ends st.InField fs field (c ∷ run) rest e)
    by true comma more =
        let same : c ≡ 44 = eqb-true _ _ comma in (
          λ fs. (let next = more.0 (fs ++ [] ∷ []) in record { fields = next.fields; is = rw same (comma_at_once fs (run ++ e ∷ rest) ∙ next.is) }),
          λ fs field. (let next = more.0 (fs ++ field ∷ []) in record { fields = next.fields; is = rw same (comma_in fs field (run ++ e ∷ rest) ∙ next.is) }),
        )
    by false comma more =
        let quiet = quiet_parts c parts.0 in
        let ends : ends_field c ≡ false = rw (comma, quiet.0) refl in (
          λ fs. (let next = more.1 fs (c ∷ []) in record { fields = next.fields; is = begins fs c (run ++ e ∷ rest) ends quiet.1 ∙ next.is }),
          λ fs field. (let next = more.1 fs (field ++ c ∷ []) in record { fields = next.fields; is = joins fs c field (run ++ e ∷ rest) ends ∙ next.is }),
        )

first_quiet : (run rest : List ℕ) (e : ℕ) → begins_line (run ++ e ∷ rest) ≡ false → next_record default_config st.StartRecord [] [] (run ++ e ∷ rest) ≡ next_record default_config st.StartField [] [] (run ++ e ∷ rest)
first_quiet [] rest e h = starts_record e rest h
first_quiet (c ∷ run) rest e h = starts_record c (run ++ e ∷ rest) h

pub left_passed : (header : List (List ℕ)) (records : List (List (List ℕ))) (run rest : List ℕ) (e : ℕ) → list_all (λ b. not (ends_line b || (b == 34))) run ≡ true → ends_line e ≡ true
    → begins_line (run ++ e ∷ rest) ≡ false → Left (header ∷ records) st.StartRecord (run ++ e ∷ rest) → Left records st.StartRecord rest
left_passed header records run rest e h is first left =
    let ended = (passed run rest e h is).0 [] in
    let read = first_quiet run rest e first ∙ ended.is in
    let (others, whole, more) = left_some (header ∷ records) st.StartRecord (run ++ e ∷ rest) (ended.fields, after_end term.CRLF e, rest) left read in
    let same : others ≡ records = cc in
    subst (λ (rs : List (List (List ℕ))). Left rs st.StartRecord rest) same (left_fresh others (after_end term.CRLF e) rest (after_line e) more)
