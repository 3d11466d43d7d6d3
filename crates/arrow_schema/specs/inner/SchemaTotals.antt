-- The totals that the test of a schema counts over the columns. Numbers saturate at 2^64 - 1.
use Rattle.std.specs.Prelude.{ℕ, ◌+◌, ◌-◌, ◌^◌, min, ◌&&◌, List, [], ◌∷◌}
use Rattle.arrow_schema.specs.declared.limits.SchemaTotals.{SchemaTotals}
use Rattle.arrow_schema.specs.Column.{Column}
use Rattle.arrow_schema.specs.Limits.{pairs_in, bytes_in, has_number_in_range, has_flat_dictionary}

abbrev pub saturated : ℕ → ℕ
saturated n = min n (2 ^ 64 - 1)

-- the totals with one more column
unfoldable pub tallied_one : SchemaTotals → Column → SchemaTotals
tallied_one t c = record {
  fields = saturated (t.fields + 1);
  pairs = saturated (t.pairs + pairs_in c);
  bytes = saturated (t.bytes + bytes_in c);
  numbers_fit = t.numbers_fit && has_number_in_range c;
  dictionaries_fit = t.dictionaries_fit && has_flat_dictionary c;
}

unfoldable pub tallied : SchemaTotals → List Column → SchemaTotals
tallied t [] = t
tallied t (c ∷ cs) = tallied (tallied_one t c) cs
