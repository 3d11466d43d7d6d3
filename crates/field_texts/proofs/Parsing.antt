-- What parsing field texts reports.
use Rattle.std.proofs.Common.{◌≡◌, ◌⊎◌, ◌<◌, ◌≤◌, ◌+◌, ℕ, suc, Bool, true, false, ◌&&◌, List, [], ◌∷◌, ◌++◌, length, get_or, map, drop, drop-cons, add-one, Bor, refl, sym, ap, ◌∙◌, subst, arith, cond, inr, ⊎_elim}
use Rattle.std.specs.Prelude.{Option, None, Some, option_map, nat_le, Ok, Err}
use Rattle.std.specs.Prelude.{String}
use Rattle.std.specs.Global.{Global}
use Rattle.std.specs.Option.{option_and_then}
use Rattle.std.proofs.lemmas.Bool.{le-leb}
use Rattle.std.proofs.lemmas.List.{append-nil, append_assoc, drop_all, get_or-map}
use Rattle.std.proofs.lemmas.Option.{same_Some, none-some}
use Rattle.facts.specs.laws.Levels.{nat_le_max}
use Rattle.arrow_schema.specs.declared.limits.TheConstants.{MAX_DEPTH}
use Rattle.field_texts.specs.declared.build.BuildError.{BuildError}
use Rattle.field_texts.specs.declared.build.BuildError.TheVariants.{Unread, Memory}
use Rattle.field_texts.specs.declared.parse.ParseError.TheVariants.{Limit}
use Rattle.arrow_schema.specs.Column.{Pair, Column, columns_of, PlainSchema}
use Rattle.arrow_schema.specs.View.{pair_of}
use Rattle.arrow_schema.specs.Preorder.{depth, depth_all}
use Rattle.arrow_schema.specs.Limits.{IsWithinLimits}
use Rattle.field_texts.specs.Typed.{IsTextOf, IsFieldText}
use Rattle.field_texts.specs.inner.Build.{field_from, column_at, Builds, columns_at, before_columns}
use Rattle.field_texts.specs.Reported.{AreTextsOf, schema_with, IsReported}
use Rattle.field_texts.specs.inner.Tested.{Tests}
use Rattle.field_texts.proofs.Again.{always, field_again}

both_by : (a b : Bool) (c : Column) (cs : List Column) (o : Option (List Column)) → o ≡ cond b (Some cs) None
    → option_and_then (λ (p : Column × List ℕ). option_map (λ (cs : List Column). p.0 ∷ cs) o) (cond a (Some (c, [])) None) ≡ cond (a && b) (Some (c ∷ cs)) None
both_by true true c cs o e = rw e refl
both_by true false c cs o e = rw e refl
both_by false b c cs o e = refl

-- columns are built from their texts, where they are of no more levels
columns_again : (texts : List (List ℕ)) (columns : List Column) (l : ℕ) → AreTextsOf texts columns → columns_at l texts ≡ cond (nat_le (depth_all (columns_of columns)) l) (Some columns) None
unfolding columns_at depth_all
columns_again [] [] l h = rw (always l) refl
columns_again [] (c ∷ cs) l h = absurd h
columns_again (t ∷ ts) [] l h = absurd h
columns_again (t ∷ ts) (c ∷ cs) l h =
    rw (field_again c l t h.0.0 h.0.1, nat_le_max (depth c) (depth_all (columns_of cs)) l)
    (both_by (nat_le (depth c) l) (nat_le (depth_all (columns_of cs)) l) c cs (columns_at l ts) (columns_again ts cs l h.1))

pub record Columns (texts : List (List ℕ)) : Type 0 where
  pub columns : List Column
  pub texts_of : AreTextsOf texts columns

all_columns : (texts : List (List ℕ)) → ((k : ℕ) → k < length texts → IsFieldText true (get_or texts k [])) → Columns texts
all_columns [] h = record { columns = []; texts_of = tt }
all_columns (t ∷ ts) h =
    let first : IsFieldText true t = h 0 (omega arith) in
    let others : Columns ts = all_columns ts (λ k below. h (suc k) (omega (arith, below))) in
    record { columns = first.0 ∷ others.columns; texts_of = (first.1, others.texts_of) }

built_same : (b : Bool) (cs columns : List Column) → Some cs ≡ cond b (Some columns) None → cs ≡ columns
built_same true cs columns e = cc
built_same false cs columns e = cc

texts_of_built : (texts : List (List ℕ)) (cs : List Column) → ((k : ℕ) → k < length texts → IsFieldText true (get_or texts k [])) → columns_at MAX_DEPTH texts ≡ Some cs → AreTextsOf texts cs
texts_of_built texts cs good e =
    let all : Columns texts = all_columns texts good in
    subst (AreTextsOf texts) (sym (built_same (nat_le (depth_all (columns_of all.columns)) MAX_DEPTH) cs all.columns (sym e ∙ columns_again texts all.columns MAX_DEPTH all.texts_of))) all.texts_of

pub reported_ok : (texts : List (List ℕ)) (cs : List Column) (s : PlainSchema) → Tests texts (Ok tt) → columns_at MAX_DEPTH texts ≡ Some cs → s ≡ schema_with cs → IsWithinLimits s → IsReported texts (Ok cs)
reported_ok texts cs s good e is within = (texts_of_built texts cs good e, subst IsWithinLimits is within)

pub reported_past : (texts : List (List ℕ)) (cs : List Column) (s : PlainSchema) → Tests texts (Ok tt) → columns_at MAX_DEPTH texts ≡ Some cs → s ≡ schema_with cs → (IsWithinLimits s → ⊥) → IsReported texts (Err Limit)
reported_past texts cs s good e is past = inr (record { columns = cs; texts_of = texts_of_built texts cs good e; past = λ within. past (subst IsWithinLimits (sym is) within) })

pub reported_deep : (texts : List (List ℕ)) → Tests texts (Ok tt) → columns_at MAX_DEPTH texts ≡ None → IsReported texts (Err Limit)
reported_deep texts good e =
    let all : Columns texts = all_columns texts good in
    inr (record {
      columns = all.columns;
      texts_of = all.texts_of;
      past = λ within.
          let shallow : nat_le (depth_all (columns_of all.columns)) MAX_DEPTH ≡ true = le-leb _ _ within.levels in
          none-some _ (sym e ∙ columns_again texts all.columns MAX_DEPTH all.texts_of ∙ ap (λ (b : Bool). cond b (Some all.columns) None) shallow);
    })

-- the test of each text in turn
pub next_good : (texts : List (List ℕ)) (i : ℕ) → ((k : ℕ) → k < i → IsFieldText true (get_or texts k [])) → IsFieldText true (get_or texts i []) → (k : ℕ) → k < i + 1 → IsFieldText true (get_or texts k [])
next_good texts i before here k h =
    ⊎_elim {C = IsFieldText true (get_or texts k [])} (λ less. before k less) (λ same. subst (λ j. IsFieldText true (get_or texts j [])) (sym same) here) (split k i h)
  where
    split : (k i : ℕ) → k < i + 1 → (k < i) ⊎ (k ≡ i)
    split k i h = grind (arith, h)

-- the columns of each text in turn
pub next_column : (earlier cs : List Column) (c : Column) (l : ℕ) (text : List ℕ) (texts : List (List ℕ)) (rest : List ℕ) → field_from (column_at l) text ≡ Some (c, rest)
    → before_columns (earlier ++ c ∷ []) (columns_at l texts) ≡ before_columns earlier (columns_at l (text ∷ texts))
unfolding columns_at
next_column earlier cs c l text texts rest e = rw e (shift (columns_at l texts))
  where
    shift : (o : Option (List Column)) → before_columns (earlier ++ c ∷ []) o ≡ before_columns earlier (option_map (λ cs. c ∷ cs) o)
    shift None = refl
    shift (Some cs) = ap Some (append_assoc earlier (c ∷ []) cs)

pub no_column : (earlier : List Column) (l : ℕ) (text : List ℕ) (texts : List (List ℕ)) → field_from (column_at l) text ≡ None → before_columns earlier (columns_at l (text ∷ texts)) ≡ None
unfolding columns_at
no_column earlier l text texts e = rw e refl

pub all_built : (earlier : List Column) (l : ℕ) → before_columns earlier (columns_at l []) ≡ Some earlier
unfolding columns_at
all_built earlier l = ap Some (append-nil earlier)

-- one text is that of one column
pub one_column : (text : List ℕ) (c d : Column) → IsTextOf true text c → IsTextOf true text d → c ≡ d
one_column text c d h k =
    let l : ℕ = depth c + depth d in
    let first : field_from (column_at l) text ≡ Some (c, []) = field_again c l text h.0 h.1 ∙ ap (λ (b : Bool). cond b (Some (c, [])) None) (le-leb (depth c) l (omega arith)) in
    let second : field_from (column_at l) text ≡ Some (d, []) = field_again d l text k.0 k.1 ∙ ap (λ (b : Bool). cond b (Some (d, [])) None) (le-leb (depth d) l (omega arith)) in
    ap (λ (p : Column × List ℕ). p.0) (same_Some {A = Column × List ℕ} (c, []) (d, []) (sym first ∙ second))

-- over the texts as the code keeps them
pub next_text : (xs : List (Bor (List ℕ))) (i : ℕ) (d : Bor (List ℕ)) (earlier : List Column) (c : Column) (rest : List ℕ) → i < length xs → field_from (column_at MAX_DEPTH) (get_or xs i d).now ≡ Some (c, rest)
    → before_columns (earlier ++ c ∷ []) (columns_at MAX_DEPTH (map (λ t. t.now) (drop (i + 1) xs))) ≡ before_columns earlier (columns_at MAX_DEPTH (map (λ t. t.now) (drop i xs)))
next_text xs i d earlier c rest h e =
    let next : drop i xs ≡ get_or xs i d ∷ drop (i + 1) xs = rw (add-one i) (drop-cons xs i d h) in
    rw next (next_column earlier [] c MAX_DEPTH (get_or xs i d).now (map (λ t. t.now) (drop (i + 1) xs)) rest e)

no_text : (xs : List (Bor (List ℕ))) (i : ℕ) (d : Bor (List ℕ)) (earlier : List Column) → i < length xs → field_from (column_at MAX_DEPTH) (get_or xs i d).now ≡ None → before_columns earlier (columns_at MAX_DEPTH (map (λ t. t.now) (drop i xs))) ≡ None
no_text xs i d earlier h e =
    let next : drop i xs ≡ get_or xs i d ∷ drop (i + 1) xs = rw (add-one i) (drop-cons xs i d h) in
    rw next (no_column earlier MAX_DEPTH (get_or xs i d).now (map (λ t. t.now) (drop (i + 1) xs)) e)

pub text_fails : {X Y : Type 0} (view : X → Column × List ℕ) (views : Y → List Column) (err : BuildError) (xs : List (Bor (List ℕ))) (i : ℕ) (d : Bor (List ℕ)) (earlier : List Column) (all : Option (List Column))
    → i < length xs → Builds view (Err err) (field_from (column_at MAX_DEPTH) (get_or xs i d).now) → before_columns earlier (columns_at MAX_DEPTH (map (λ t. t.now) (drop i xs))) ≡ all → Builds views (Err err) all
text_fails view views Unread xs i d earlier all h e was = sym was ∙ no_text xs i d earlier h e
text_fails view views Memory xs i d earlier all h e was = tt

pub texts_done : (xs : List (Bor (List ℕ))) (i : ℕ) (earlier : List Column) (all : Option (List Column)) → length xs ≤ i → before_columns earlier (columns_at MAX_DEPTH (map (λ t. t.now) (drop i xs))) ≡ all → all ≡ Some earlier
texts_done xs i earlier all h was =
    let none : drop i xs ≡ [] = drop_all i xs h in
    sym was ∙ rw none (all_built earlier MAX_DEPTH)

pub good_at : (xs : List (Bor (List ℕ))) (i : ℕ) (d : Bor (List ℕ)) → i < length xs → IsFieldText true (get_or xs i d).now → IsFieldText true (get_or (map (λ t. t.now) xs) i [])
good_at xs i d h good = subst (IsFieldText true) (sym (get_or-map (λ t. t.now) xs i d [] h)) good

abbrev pub paired : List Column → List Pair → PlainSchema
paired cs ps = record { columns = cs; pairs = ps }

pub plain_schema : (cs : List Column) (ps : List (String Global × String Global)) → ps ≡ [] → paired cs (map pair_of ps) ≡ schema_with cs
plain_schema cs ps e = rw e refl
