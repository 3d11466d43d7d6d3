-- The step from year to year, the period of 400 years, the order of dates, and that the kit's calendar is this one.
use Rattle.std.proofs.Common.{◌≡◌, ℕ, zero, suc, ◌+◌, ◌-◌, ◌*◌, ◌<◌, ◌≤◌, inl, inr, refl, sym, ap, ◌∙◌, arith, ℤ, pos, negsuc, neg_ℤ, ◌+ℤ◌, ◌-ℤ◌, ◌*ℤ◌, ◌<ℤ◌, ◌≤ℤ◌}
use Rattle.std.proofs.lemmas.Bool.{cases_order}
use Rattle.std.proofs.lemmas.Int.{by_lt_z}
use Rattle.jiff_core.specs.Calendar.{is_leap_year, days_in_year, days_in_month, days_of_months, day_count, days_from_civil}
use Rattle.jiff_core.proofs.SignedLemmas.{signed_arith}
use Rattle.jiff_core.proofs.CalendarLemmas.{day_count-epoch, days_from_civil-day_count, day_count-next_year, day_count-day_of_year, days_of_months_all, day_of_year_before, days_of_months_more}
use Rattle.civil_days.specs.Calendar.{days_after, days_before, year_start, day_number, IsCivil}
use Rattle.civil_days.specs.inner.Spans.{days_of_span}
use Rattle.std.proofs.lemmas.Bool.Decides.{nat_tests}
use borrow.Author.Differences.{up, down}

-- a year later
pub days_after-suc : (n : ℕ) → days_after (suc n) ≡ days_after n + days_in_year (pos 1970 +ℤ pos n)
unfolding days_after
days_after-suc n = refl

pub days_before-suc : (n : ℕ) → days_before (suc n) ≡ days_before n + days_in_year (pos 1970 -ℤ pos (suc n))
unfolding days_before
days_before-suc n = refl

days_before-zero : days_before 0 ≡ 0
unfolding days_before
days_before-zero = refl

pub days_after-zero : days_after 0 ≡ 0
unfolding days_after
days_after-zero = refl

pub year_start-after : (y : ℤ) (n : ℕ) → y ≡ pos 1970 +ℤ pos n → year_start y ≡ pos (days_after n)
unfolding year_start
year_start-after y n e = let z : y -ℤ pos 1970 ≡ pos n = omega (arith, signed_arith) in rw z

pub year_start-before : (y : ℤ) (n : ℕ) → y ≡ pos 1970 -ℤ pos n → year_start y ≡ neg_ℤ (pos (days_before n))
unfolding year_start
year_start-before y zero e =
    let z : y -ℤ pos 1970 ≡ pos 0 = omega (arith, signed_arith) in
    rw z (omega (arith, signed_arith, days_before-zero, days_after-zero))
year_start-before y (suc n) e = let z : y -ℤ pos 1970 ≡ negsuc n = omega (arith, signed_arith) in rw z

-- each year begins after the days of the year before it
pub year_start-next : (y : ℤ) → year_start (y +ℤ pos 1) ≡ year_start y +ℤ pos (days_in_year y)
year_start-next y = by_lt_z y (pos 1970)
    (λ lt. let n = 1969 + down y - up y in
    let here : y ≡ pos 1970 -ℤ pos (suc n) = omega (arith, signed_arith) in
    let next : y +ℤ pos 1 ≡ pos 1970 -ℤ pos n = omega (arith, signed_arith) in
    rw (year_start-before (y +ℤ pos 1) n next, year_start-before y (suc n) here) (
    let days : days_in_year (pos 1970 -ℤ pos (suc n)) ≡ days_in_year y = ap days_in_year (sym here) in
    omega (arith, signed_arith, days_before-suc n)))
    (λ ge. let n = up y - (1970 + down y) in
    let here : y ≡ pos 1970 +ℤ pos n = omega (arith, signed_arith) in
    let next : y +ℤ pos 1 ≡ pos 1970 +ℤ pos (suc n) = omega (arith, signed_arith) in
    rw (year_start-after (y +ℤ pos 1) (suc n) next, year_start-after y n here) (
    let days : days_in_year (pos 1970 +ℤ pos n) ≡ days_in_year y = ap days_in_year (sym here) in
    omega (arith, signed_arith, days_after-suc n)))

-- the days of a span of years
span-zero : (y : ℤ) → days_of_span y 0 ≡ 0
unfolding days_of_span
span-zero y = refl

span-suc : (y : ℤ) (n : ℕ) → days_of_span y (suc n) ≡ days_of_span y n + days_in_year (y +ℤ pos n)
unfolding days_of_span
span-suc y n = refl

pub year_start-span : (y : ℤ) (n : ℕ) → year_start (y +ℤ pos n) ≡ year_start y +ℤ pos (days_of_span y n)
year_start-span y zero =
    let same : y +ℤ pos 0 ≡ y = omega (arith, signed_arith) in
    rw same (omega (arith, signed_arith, span-zero y))
year_start-span y (suc n) =
    let same : y +ℤ pos (suc n) ≡ y +ℤ pos n +ℤ pos 1 = omega (arith, signed_arith) in
    rw same (omega (arith, signed_arith, span-suc y n, year_start-next (y +ℤ pos n), year_start-span y n))

-- the next span of as many years has one year less at its beginning and one more at its end
span-next : (y : ℤ) (n : ℕ) → days_of_span (y +ℤ pos 1) n + days_in_year y ≡ days_of_span y n + days_in_year (y +ℤ pos n)
span-next y zero =
    let same : y +ℤ pos 0 ≡ y = omega (arith, signed_arith) in
    rw same (omega (arith, span-zero y, span-zero (y +ℤ pos 1)))
span-next y (suc n) =
    let same : y +ℤ pos 1 +ℤ pos n ≡ y +ℤ pos (suc n) = omega (arith, signed_arith) in
    let days : days_in_year (y +ℤ pos 1 +ℤ pos n) ≡ days_in_year (y +ℤ pos (suc n)) = ap days_in_year same in
    omega (arith, span-suc y n, span-suc (y +ℤ pos 1) n, span-next y n)

is_leap_year-later : (y z : ℤ) → z ≡ y +ℤ pos 400 → is_leap_year z ≡ is_leap_year y
is_leap_year-later (pos a) (pos n) e = let h : a + 400 ≡ n = omega (arith, signed_arith) in grind (arith, nat_tests)
is_leap_year-later (negsuc a) (pos n) e = let h : n + suc a ≡ 400 = omega (arith, signed_arith) in grind (arith, nat_tests)
is_leap_year-later (negsuc a) (negsuc n) e = let h : n + 400 ≡ a = omega (arith, signed_arith) in grind (arith, nat_tests)
is_leap_year-later (pos a) (negsuc n) e = absurd (omega (arith, signed_arith))

-- after 400 years the leap years come again
pub is_leap_year-period : (y : ℤ) → is_leap_year (y +ℤ pos 400) ≡ is_leap_year y
is_leap_year-period y = is_leap_year-later y (y +ℤ pos 400) refl

days_in_year-period : (y : ℤ) → days_in_year (y +ℤ pos 400) ≡ days_in_year y
days_in_year-period y = rw (is_leap_year-period y) refl

-- so each 400 years have as many days as the first
span-same : (y : ℤ) → days_of_span (y +ℤ pos 1) 400 ≡ days_of_span y 400
span-same y = omega (arith, span-next y 400, days_in_year-period y)

span-first : days_of_span (pos 0) 400 ≡ 146_097
unfolding days_of_span
span-first = refl

pub span-cycle : (y : ℤ) → days_of_span y 400 ≡ 146_097
span-cycle (pos zero) = span-first
span-cycle (pos (suc n)) =
    let same : pos (suc n) ≡ pos n +ℤ pos 1 = omega (arith, signed_arith) in
    rw same (span-same (pos n) ∙ span-cycle (pos n))
span-cycle (negsuc zero) = sym (span-same (negsuc zero)) ∙ span-first
span-cycle (negsuc (suc n)) =
    let same : negsuc (suc n) +ℤ pos 1 ≡ negsuc n = omega (arith, signed_arith) in
    sym (span-same (negsuc (suc n))) ∙ ap (λ z. days_of_span z 400) same ∙ span-cycle (negsuc n)

-- after k times 400 years the calendar repeats
cycles-later : (y : ℤ) (k : ℕ) → (year_start (y +ℤ pos (400 * k)) ≡ year_start y +ℤ pos (146_097 * k)) × (is_leap_year (y +ℤ pos (400 * k)) ≡ is_leap_year y)
cycles-later y zero =
    let same : y +ℤ pos (400 * 0) ≡ y = omega (arith, signed_arith) in
    rw same (omega (arith, signed_arith), refl)
cycles-later y (suc k) =
    let same : y +ℤ pos (400 * suc k) ≡ y +ℤ pos (400 * k) +ℤ pos 400 = omega (arith, signed_arith) in
    let before = cycles-later y k in
    rw same (omega (arith, signed_arith, year_start-span (y +ℤ pos (400 * k)) 400, span-cycle (y +ℤ pos (400 * k)), before.0), is_leap_year-period (y +ℤ pos (400 * k)) ∙ before.1)

pub year_start-cycles : (y k z : ℤ) → z ≡ y +ℤ k *ℤ pos 400 → (year_start z ≡ year_start y +ℤ k *ℤ pos 146_097) × (is_leap_year z ≡ is_leap_year y)
year_start-cycles y (pos k) z e =
    let same : z ≡ y +ℤ pos (400 * k) = omega (arith, signed_arith) in
    let later = cycles-later y k in
    rw same (omega (arith, signed_arith, later.0), later.1)
year_start-cycles y (negsuc k) z e =
    let same : y ≡ z +ℤ pos (400 * suc k) = omega (arith, signed_arith) in
    let later = cycles-later z (suc k) in
    rw same (omega (arith, signed_arith, later.0), sym later.1)

pub days_of_months-zero : (y : ℤ) → days_of_months y 0 ≡ 0
unfolding days_of_months
days_of_months-zero y = refl

-- the months of two years are as long if both are leap years or none is
days_in_month-same : (y z : ℤ) (m : ℕ) → is_leap_year z ≡ is_leap_year y → days_in_month z m ≡ days_in_month y m
days_in_month-same y z m e = rw e refl

days_of_months-same : (y z : ℤ) (n : ℕ) → is_leap_year z ≡ is_leap_year y → days_of_months z n ≡ days_of_months y n
days_of_months-same y z zero e = days_of_months-zero z ∙ sym (days_of_months-zero y)
days_of_months-same y z (suc n) e =
    let back : suc n - 1 ≡ n = omega arith in
    omega (arith, rw back at (days_of_months_more z (suc n) (omega arith)), rw back at (days_of_months_more y (suc n) (omega arith)), days_in_month-same y z (suc n) e, days_of_months-same y z n e)

pub day_number-cycles : (y k z : ℤ) (m d : ℕ) → z ≡ y +ℤ k *ℤ pos 400 → (day_number z m d ≡ day_number y m d +ℤ k *ℤ pos 146_097) × (days_in_month z m ≡ days_in_month y m)
unfolding day_number
day_number-cycles y k z m d e =
    let moved = year_start-cycles y k z e in
    (omega (arith, signed_arith, moved.0, days_of_months-same y z (m - 1) moved.1), days_in_month-same y z m moved.1)

-- the kit's calendar, which counts from the year -10000, is this one
count-after : (n : ℕ) → day_count (pos 1970 +ℤ pos n) 1 1 ≡ 4_371_953 + days_after n
count-after zero = omega (arith, day_count-epoch, days_after-zero)
count-after (suc n) =
    let next : pos 1970 +ℤ pos (suc n) ≡ pos 1970 +ℤ pos n +ℤ pos 1 = omega (arith, signed_arith) in
    omega (arith, count-after n, days_after-suc n, day_count-next_year (pos 1970 +ℤ pos n) (pos 1970 +ℤ pos (suc n)) (omega (arith, signed_arith)) next)

count-before : (n : ℕ) → n ≤ 11_970 → day_count (pos 1970 -ℤ pos n) 1 1 + days_before n ≡ 4_371_953
count-before zero h =
    let same : pos 1970 -ℤ pos 0 ≡ pos 1970 = omega (arith, signed_arith) in
    rw same (omega (arith, day_count-epoch, days_before-zero))
count-before (suc n) h =
    let next : pos 1970 -ℤ pos n ≡ pos 1970 -ℤ pos (suc n) +ℤ pos 1 = omega (arith, signed_arith) in
    omega (arith, count-before n (omega arith), days_before-suc n, day_count-next_year (pos 1970 -ℤ pos (suc n)) (pos 1970 -ℤ pos n) (omega (arith, signed_arith)) next)

count-before_is : (y : ℤ) (n : ℕ) → y ≡ pos 1970 -ℤ pos n → n ≤ 11_970 → day_count y 1 1 + days_before n ≡ 4_371_953
count-before_is y n e h = rw e (count-before n h)

count-after_is : (y : ℤ) (n : ℕ) → y ≡ pos 1970 +ℤ pos n → day_count y 1 1 ≡ 4_371_953 + days_after n
count-after_is y n e = rw e (count-after n)

year_start-count : (y : ℤ) → neg_ℤ (pos 10000) ≤ℤ y → year_start y +ℤ pos 4_371_953 ≡ pos (day_count y 1 1)
year_start-count y low = by_lt_z y (pos 1970)
    (λ lt. let n = 1970 + down y - up y in
    let here : y ≡ pos 1970 -ℤ pos n = omega (arith, signed_arith) in
    let few : n ≤ 11_970 = omega (arith, signed_arith) in
    let count = count-before_is y n here few in
    omega (arith, signed_arith, year_start-before y n here, count))
    (λ ge. let n = up y - (1970 + down y) in
    let here : y ≡ pos 1970 +ℤ pos n = omega (arith, signed_arith) in
    let count = count-after_is y n here in
    omega (arith, signed_arith, year_start-after y n here, count))

pub days_from_civil-is : (y : ℤ) (m d : ℕ) → neg_ℤ (pos 10000) ≤ℤ y → 1 ≤ d → days_from_civil y m d ≡ day_number y m d
unfolding day_number
days_from_civil-is y m d low first =
    omega (arith, signed_arith, year_start-count y low, days_from_civil-day_count y m d, day_count-day_of_year y m d first)

-- dates in order have day numbers in order
pub day_in_year : (y : ℤ) (m d : ℕ) → IsCivil y m d → days_of_months y (m - 1) + d ≤ days_in_year y
day_in_year y m d h = omega (arith, day_of_year_before y m d 12 h.0.0 h.1.1 h.0.1, days_of_months_all y)

year_start-later : (y z : ℤ) → y <ℤ z → (year_start y +ℤ pos (days_in_year y)) ≤ℤ year_start z
year_start-later y z h =
    let n = up z + down y - (down z + up y + 1) in
    let same : y +ℤ pos 1 +ℤ pos n ≡ z = omega (arith, signed_arith) in
    let span = ap year_start (sym same) ∙ year_start-span (y +ℤ pos 1) n in
    omega (arith, signed_arith, year_start-next y, span)

later_year : (y : ℤ) (m d : ℕ) (z : ℤ) (k e : ℕ) → IsCivil y m d → IsCivil z k e → y <ℤ z → day_number y m d <ℤ day_number z k e
unfolding day_number
later_year y m d z k e here there lt =
    omega (arith, signed_arith, day_in_year y m d here, year_start-later y z lt, here.1.0)

later_month : (y : ℤ) (m d k e : ℕ) → IsCivil y m d → IsCivil y k e → m < k → day_number y m d <ℤ day_number y k e
unfolding day_number
later_month y m d k e here there lt =
    omega (arith, signed_arith, day_of_year_before y m d (k - 1) here.0.0 here.1.1 (omega arith), here.1.0)

later_day : (y : ℤ) (m d e : ℕ) → IsCivil y m d → IsCivil y m e → d < e → day_number y m d <ℤ day_number y m e
unfolding day_number
later_day y m d e here there lt = omega (arith, signed_arith, here.1.0, there.1.0)

same_month : (y : ℤ) (m d e : ℕ) → IsCivil y m d → IsCivil y m e → day_number y m d ≡ day_number y m e → d ≡ e
same_month y m d e here there same =
    elim (cases_order d e) [
      | inl is ↦ is
      | inr (inl lt) ↦ absurd (omega (arith, signed_arith, later_day y m d e here there lt))
      | inr (inr gt) ↦ absurd (omega (arith, signed_arith, later_day y m e d there here gt))
    ]

same_year : (y : ℤ) (m d k e : ℕ) → IsCivil y m d → IsCivil y k e → day_number y m d ≡ day_number y k e → (m ≡ k) × (d ≡ e)
same_year y m d k e here there same =
    elim (cases_order m k) [
      | inl is ↦ (is, same_month y m d e here (rw is there) (same ∙ ap (λ x. day_number y x e) (sym is)))
      | inr (inl lt) ↦ absurd (omega (arith, signed_arith, later_month y m d k e here there lt))
      | inr (inr gt) ↦ absurd (omega (arith, signed_arith, later_month y k e m d there here gt))
    ]

-- no two dates have one day number
pub day_number-once : (y : ℤ) (m d : ℕ) (z : ℤ) (k e : ℕ) → IsCivil y m d → IsCivil z k e → day_number y m d ≡ day_number z k e → (y ≡ z) × (m ≡ k) × (d ≡ e)
day_number-once y m d z k e here there same =
    by_lt_z y z (λ lt. absurd (omega (arith, signed_arith, later_year y m d z k e here there lt)))
    (λ ge. by_lt_z z y (λ gt. absurd (omega (arith, signed_arith, later_year z k e y m d there here gt)))
    (λ le. let is : y ≡ z = omega (arith, signed_arith) in
    let rest = same_year z m d k e (rw is at here) there (rw is at same) in
    (is, rest.0, rest.1)))
