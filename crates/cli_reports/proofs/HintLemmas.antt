-- What a terminal may be shown, test by test.
use Rattle.std.proofs.Common.{◌≡◌, ℕ, ◌≤◌, ◌<◌, Bool, true, false, ◌&&◌, List, length, refl, ap}
use Rattle.std.specs.Prelude.{not, nat_le, Some, None, IsUtf8, if◌then◌else◌}
use Rattle.std.specs.List.{list_any}
use Rattle.std.specs.Str.{is_utf8, chars}
use Rattle.std.proofs.lemmas.Bool.{lt-leb, le-leb, false_from_ne_true}
use Rattle.std.proofs.lemmas.Str.{IsUtf8-from_is_utf8, is_utf8-from_IsUtf8}
use Rattle.cli_reports.specs.Shown.{is_unshown, shown}
use Rattle.cli_reports.specs.declared.shown.TheConstants.{MOST_SHOWN}

-- where one of the three tests fails, and where all pass
by_tests : (t : List ℕ) (short utf8 unshown : Bool) → nat_le (length t) MOST_SHOWN ≡ short → is_utf8 t ≡ utf8 → list_any is_unshown (chars t) ≡ unshown
    → shown t ≡ (if short && utf8 && not unshown then Some t else None)
by_tests t short utf8 unshown a b c = rw (a, b, c) refl

pub too_long : (t : List ℕ) → MOST_SHOWN < length t → None ≡ shown t
too_long t h = rw (by_tests t false (is_utf8 t) (list_any is_unshown (chars t)) (lt-leb (length t) MOST_SHOWN h) refl refl) refl

pub no_text : (t : List ℕ) → (IsUtf8 t → ⊥) → None ≡ shown t
no_text t h = rw (by_tests t (nat_le (length t) MOST_SHOWN) false (list_any is_unshown (chars t)) refl (false_from_ne_true (is_utf8 t) (λ e. h (IsUtf8-from_is_utf8 t e))) refl) (by (nat_le (length t) MOST_SHOWN))
  where
    by : (b : Bool) → None ≡ (if b && false && not (list_any is_unshown (chars t)) then Some t else None)
    by true = refl
    by false = refl

pub not_shown : (t s : List ℕ) → s ≡ t → list_any is_unshown (chars s) ≡ true → None ≡ shown t
not_shown t s same h = rw (by_tests t (nat_le (length t) MOST_SHOWN) (is_utf8 t) true refl refl (rw same at h)) (by (nat_le (length t) MOST_SHOWN) (is_utf8 t))
  where
    by : (a b : Bool) → None ≡ (if a && b && not true then Some t else None)
    by true true = refl
    by true false = refl
    by false b = refl

pub plain_text : (t s : List ℕ) → s ≡ t → length t ≤ MOST_SHOWN → IsUtf8 t → list_any is_unshown (chars s) ≡ false → Some s ≡ shown t
plain_text t s same lt utf8 h =
    rw (by_tests t true true false (le-leb (length t) MOST_SHOWN lt) (is_utf8-from_IsUtf8 t utf8) (rw same at h)) (ap Some same)

pub ruleset shown_rules = (too_long, no_text, not_shown, plain_text)
