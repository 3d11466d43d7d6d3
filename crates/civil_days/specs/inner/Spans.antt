-- The days of several years.
use Rattle.std.specs.Prelude.{ℕ, zero, suc, ◌+◌, ℤ, pos, ◌+ℤ◌}
use Rattle.jiff_core.specs.Calendar.{days_in_year}

-- the days of n years, of which the first is given
unfoldable pub days_of_span : ℤ → ℕ → ℕ
days_of_span y zero = 0
days_of_span y (suc n) = days_of_span y n + days_in_year (y +ℤ pos n)
