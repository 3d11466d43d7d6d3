-- The walk over a field, as the code takes its steps, and what it reads.
use Rattle.std.proofs.Common.{◌≡◌, ℕ, zero, suc, ◌-◌, ◌<◌, List, ◌++◌, map, Result, Ok, Err, refl, ap, subst, ◌∙◌, arith}
use Rattle.std.specs.List.{flat_map}
use Rattle.std.proofs.Math.Dec.{eqb-suc-zero}
use Rattle.flatbuf.specs.declared.FlatError.{FlatError}
use Rattle.flatbuf.specs.Lookup.{Place, table_at, slot, elements}
use Rattle.flatbuf.specs.Walk.{Thing, run, head_things, table_things}
use Rattle.flatbuf.specs.laws.Walk.{run_ok, run_err}
use Rattle.ipc_message.specs.declared.walk_error.WalkError.{WalkError}
use Rattle.ipc_message.specs.declared.walk_error.WalkError.TheVariants as errors
use Rattle.ipc_message.specs.Raw.{RawField}
use Rattle.ipc_message.specs.Header.{supported_codes, field_things, field_slots, field_at, field_with}
use Rattle.ipc_message.specs.inner.Walked.{WalkFails}

fails_same : (e : WalkError) (r s : Result ℕ FlatError) → r ≡ s → WalkFails e s → WalkFails e r
fails_same errors.Memory r s h f = tt
fails_same (errors.Flat d) r s h f = h ∙ f

-- of two lists of things the first is bad
pub fails_first : (e : WalkError) (bytes : List ℕ) (xs ys : List Thing) (n : ℕ) → WalkFails e (run bytes xs n) → WalkFails e (run bytes (xs ++ ys) n)
fails_first errors.Memory bytes xs ys n f = tt
fails_first (errors.Flat d) bytes xs ys n f = run_err bytes xs ys n d f

-- the first is fine, and the second is bad
pub fails_then : (e : WalkError) (bytes : List ℕ) (xs ys : List Thing) (n m : ℕ) → run bytes xs n ≡ Ok m → WalkFails e (run bytes ys m) → WalkFails e (run bytes (xs ++ ys) n)
fails_then e bytes xs ys n m fine f = fails_same e _ _ (run_ok bytes xs ys n m fine) f

-- both are fine
pub ok_then : (bytes : List ℕ) (xs ys : List Thing) (n m k : ℕ) → run bytes xs n ≡ Ok m → run bytes ys m ≡ Ok k → run bytes (xs ++ ys) n ≡ Ok k
ok_then bytes xs ys n m k fine also = run_ok bytes xs ys n m fine ∙ also

-- ---- a field begins with its table

-- with a level left, a table is entered
goes_in : (bytes : List ℕ) (left at : ℕ) → table_things (suc left) bytes at ≡ head_things bytes at
unfolding table_things
goes_in bytes left at = rw (eqb-suc-zero left) refl

enters : (bytes : List ℕ) (left at : ℕ) → 0 < left → field_things supported_codes left bytes at ≡ table_things left bytes at ++ field_slots supported_codes (left - 1) bytes (table_at bytes at)
unfolding field_things
enters bytes zero at lt = absurd (omega arith)
enters bytes (suc left) at lt =
    let k : suc left - 1 ≡ left = omega arith in
    rw (k, goes_in bytes left at) refl

pub table_bad : (bytes : List ℕ) (left at n : ℕ) (e : FlatError) → run bytes (table_things left bytes at) n ≡ Err e → run bytes (field_things supported_codes left bytes at) n ≡ Err e
unfolding field_things table_things
table_bad bytes zero at n e bad = bad
table_bad bytes (suc left) at n e bad = run_err bytes (head_things bytes at) _ n e (rw (eqb-suc-zero left) at bad)

pub field_fails : (e : WalkError) (bytes : List ℕ) (left at n m : ℕ) → 0 < left → run bytes (table_things left bytes at) n ≡ Ok m
    → WalkFails e (run bytes (field_slots supported_codes (left - 1) bytes (table_at bytes at)) m) → WalkFails e (run bytes (field_things supported_codes left bytes at) n)
field_fails e bytes left at n m lt fine f = fails_same e _ _ (ap (λ ts. run bytes ts n) (enters bytes left at lt) ∙ run_ok bytes _ _ n m fine) f

pub field_ok : (bytes : List ℕ) (left at n m k : ℕ) → 0 < left → run bytes (table_things left bytes at) n ≡ Ok m
    → run bytes (field_slots supported_codes (left - 1) bytes (table_at bytes at)) m ≡ Ok k → run bytes (field_things supported_codes left bytes at) n ≡ Ok k
field_ok bytes left at n m k lt fine also = ap (λ ts. run bytes ts n) (enters bytes left at lt) ∙ run_ok bytes _ _ n m fine ∙ also

-- what a field's table decodes to, where n levels are below it
abbrev pub field_below : ℕ → List ℕ → Place → RawField
field_below left bytes t = field_with supported_codes bytes t (map (field_at supported_codes left bytes) (elements bytes (slot bytes t 5)))

pub field_read : (bytes : List ℕ) (left at : ℕ) → 0 < left → field_below (left - 1) bytes (table_at bytes at) ≡ field_at supported_codes left bytes at
unfolding field_at
field_read bytes zero at lt = absurd (omega arith)
field_read bytes (suc left) at lt =
    let k : suc left - 1 ≡ left = omega arith in
    rw k refl

-- ---- the same, said of a table of the code

pub fails_there : (e : WalkError) (bytes there : List ℕ) (left below m : ℕ) (t u : Place) → there ≡ bytes → below ≡ left → t ≡ u
    → WalkFails e (run there (field_slots supported_codes below there t) m) → WalkFails e (run bytes (field_slots supported_codes left bytes u) m)
fails_there e bytes there left below m t u same lower here f =
    subst (λ p. WalkFails e (run bytes (field_slots supported_codes left bytes p) m)) here
    (subst (λ l. WalkFails e (run bytes (field_slots supported_codes l bytes t) m)) lower
    (subst (λ b. WalkFails e (run b (field_slots supported_codes below b t) m)) same f))

pub runs_there : (bytes there : List ℕ) (left below m : ℕ) (t u : Place) → there ≡ bytes → below ≡ left → t ≡ u
    → run there (field_slots supported_codes below there t) m ≡ run bytes (field_slots supported_codes left bytes u) m
runs_there bytes there left below m t u same lower here =
    ap (λ b. run b (field_slots supported_codes below b t) m) same
    ∙ ap (λ l. run bytes (field_slots supported_codes l bytes t) m) lower
    ∙ ap (λ p. run bytes (field_slots supported_codes left bytes p) m) here

pub read_there : (bytes there : List ℕ) (left below : ℕ) (t u : Place) → there ≡ bytes → below ≡ left → t ≡ u → field_below below there t ≡ field_below left bytes u
read_there bytes there left below t u same lower here =
    ap (λ b. field_below below b t) same ∙ ap (λ l. field_below l bytes t) lower ∙ ap (field_below left bytes) here

-- ---- the children, said of the references of the code

pub children_fail : (e : WalkError) (bytes there : List ℕ) (left below m : ℕ) (places children : List ℕ) → there ≡ bytes → below ≡ left → places ≡ children
    → WalkFails e (run there (flat_map (field_things supported_codes below there) places) m) → WalkFails e (run bytes (flat_map (field_things supported_codes left bytes) children) m)
children_fail e bytes there left below m places children same lower here f =
    subst (λ (ps : List ℕ). WalkFails e (run bytes (flat_map (field_things supported_codes left bytes) ps) m)) here
    (subst (λ l. WalkFails e (run bytes (flat_map (field_things supported_codes l bytes) places) m)) lower
    (subst (λ b. WalkFails e (run b (flat_map (field_things supported_codes below b) places) m)) same f))

pub children_run : (bytes there : List ℕ) (left below m : ℕ) (places children : List ℕ) → there ≡ bytes → below ≡ left → places ≡ children
    → run there (flat_map (field_things supported_codes below there) places) m ≡ run bytes (flat_map (field_things supported_codes left bytes) children) m
children_run bytes there left below m places children same lower here =
    ap (λ b. run b (flat_map (field_things supported_codes below b) places) m) same
    ∙ ap (λ l. run bytes (flat_map (field_things supported_codes l bytes) places) m) lower
    ∙ ap (λ (ps : List ℕ). run bytes (flat_map (field_things supported_codes left bytes) ps) m) here

pub children_read : (bytes there : List ℕ) (left below : ℕ) (places children : List ℕ) → there ≡ bytes → below ≡ left → places ≡ children
    → map (field_at supported_codes below there) places ≡ map (field_at supported_codes left bytes) children
children_read bytes there left below places children same lower here =
    ap (λ b. map (field_at supported_codes below b) places) same
    ∙ ap (λ l. map (field_at supported_codes l bytes) places) lower
    ∙ ap (λ (ps : List ℕ). map (field_at supported_codes left bytes) ps) here
