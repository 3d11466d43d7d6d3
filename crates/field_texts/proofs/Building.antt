-- How columns are built, level by level, and the fields of a struct, one by one.
use Rattle.std.proofs.Common.{◌≡◌, ◌≢◌, ◌<◌, ◌≤◌, ℕ, zero, suc, ◌+◌, ◌-◌, List, [], ◌∷◌, ◌++◌, refl, sym, ap, ◌∙◌, arith}
use Rattle.std.specs.Prelude.{Option, None, Some, option_map, codes, Err}
use Rattle.std.proofs.lemmas.List.{append-nil, append_assoc}
use Rattle.field_texts.specs.declared.build.BuildError.{BuildError}
use Rattle.field_texts.specs.declared.build.BuildError.TheVariants.{Unread, Memory}
use Rattle.arrow_schema.specs.Column.{Column}
use Rattle.field_texts.specs.inner.Scan.{stripped}
use Rattle.field_texts.specs.inner.Build.{Builds, Reader, field_from, more_from, with_first, column_from, column_at}

pub column_none : (levels : ℕ) (name text : List ℕ) → levels ≡ 0 → column_at levels name text ≡ None
unfolding column_at
column_none levels name text e = rw e refl

pub column_step : (levels : ℕ) (name text : List ℕ) → levels ≢ 0 → column_at levels name text ≡ column_from (column_at (levels - 1)) name text
unfolding column_at
column_step zero name text some = absurd (some refl)
column_step (suc n) name text some = let down : suc n - 1 ≡ n = omega arith in rw down refl

step_of : (turns i : ℕ) → i < turns → turns - i ≡ suc (turns - (i + 1))
step_of turns i h = omega (arith, h)

pub more_closed : (read : Reader) (earlier : List Column) (turns i : ℕ) (text rest : List ℕ) → i < turns → stripped (codes ">") text ≡ Some rest
    → with_first earlier (more_from read (turns - i) text) ≡ Some (earlier, rest)
unfolding more_from
more_closed read earlier turns i text rest h e = rw (step_of turns i h, e) (ap (λ (cs : List Column). Some (cs, rest)) (append-nil earlier))

pub more_ended : (read : Reader) (earlier : List Column) (turns i : ℕ) (text : List ℕ) → turns ≤ i → with_first earlier (more_from read (turns - i) text) ≡ None
unfolding more_from
more_ended read earlier turns i text h = let none : turns - i ≡ 0 = omega (arith, h) in rw none refl

pub more_lacks : (read : Reader) (earlier : List Column) (turns i : ℕ) (text : List ℕ) → i < turns → stripped (codes ">") text ≡ None → stripped (codes ",") text ≡ None
    → with_first earlier (more_from read (turns - i) text) ≡ None
unfolding more_from
more_lacks read earlier turns i text h e f = rw (step_of turns i h, e, f) refl

unread : (read : Reader) (earlier : List Column) (turns i : ℕ) (text next : List ℕ) → i < turns → stripped (codes ">") text ≡ None → stripped (codes ",") text ≡ Some next
    → field_from read next ≡ None → with_first earlier (more_from read (turns - i) text) ≡ None
unfolding more_from
unread read earlier turns i text next h e f g = rw (step_of turns i h, e, f, g) refl

pub more_fails : {X Y : Type 0} (view : X → Column × List ℕ) (views : Y → List Column × List ℕ) (err : BuildError) (read : Reader) (earlier : List Column) (turns i : ℕ) (text next : List ℕ) (all : Option (List Column × List ℕ))
    → i < turns → stripped (codes ">") text ≡ None → stripped (codes ",") text ≡ Some next → Builds view (Err err) (field_from read next)
    → with_first earlier (more_from read (turns - i) text) ≡ all → Builds views (Err err) all
more_fails view views Unread read earlier turns i text next all h e f g was = sym was ∙ unread read earlier turns i text next h e f g
more_fails view views Memory read earlier turns i text next all h e f g was = tt

fused : (earlier : List Column) (c : Column) (o : Option (List Column × List ℕ)) → with_first earlier (option_map (λ q. (c ∷ q.0, q.1)) o) ≡ with_first (earlier ++ c ∷ []) o
fused earlier c None = refl
fused earlier c (Some q) = ap (λ (cs : List Column). Some (cs, q.1)) (sym (append_assoc earlier (c ∷ []) q.0))

pub more_field : (read : Reader) (earlier : List Column) (turns i : ℕ) (text next after : List ℕ) (c : Column) → i < turns → stripped (codes ">") text ≡ None → stripped (codes ",") text ≡ Some next
    → field_from read next ≡ Some (c, after) → with_first (earlier ++ c ∷ []) (more_from read (turns - (i + 1)) after) ≡ with_first earlier (more_from read (turns - i) text)
unfolding more_from
more_field read earlier turns i text next after c h e f g = sym (rw (step_of turns i h, e, f, g) (fused earlier c (more_from read (turns - (i + 1)) after)))
