-- Runs that can be looked up.
use Rattle.std.specs.Prelude.{not, nat_le, Some, None}
use Rattle.std.specs.List.{list_all}
use Rattle.std.proofs.Common.{◌≡◌, ◌+◌, true, List, [], ◌∷◌, refl}
use Rattle.std.proofs.lemmas.Bool.{and_parts}
use Rattle.arrow_schema.specs.Column.{Column, column}
use Rattle.columns.specs.Runs.{are_runs_sound, has_validity, is_run_sound}
use Rattle.columns.specs.declared.slot_runs.SlotRun.{SlotRun}
use Rattle.columns.specs.declared.slot_runs.SlotRun.TheVariants.{Slots, Nulls}
use Rattle.columns.specs.Array.{Array, slots_in}
use Rattle.columns.specs.Sound.{is_sound}
use Rattle.columns.specs.Tests.{has_short_validity}
use Rattle.columns.specs.View.{view_array}

long : (c : Column) (a : Array) → is_sound c a ≡ true → not (has_short_validity a) ≡ true
unfolding is_sound
long (column name nullable kind None pairs) a h = (and_parts (not (has_short_validity a)) _ h).0
long (column name nullable kind (Some index) pairs) a h = (and_parts (not (has_short_validity a)) _ h).0

has : (c : Column) (run : SlotRun) → is_run_sound c run ≡ true → has_validity run ≡ true
has c (Slots view from len) h =
    let parts = and_parts (is_sound c (view_array view)) (nat_le (from + len) (slots_in (view_array view))) h in
    rw (long c (view_array view) parts.0, parts.1) refl
has c (Nulls n) h = refl

-- sound runs have validity bitmaps that are long enough
pub sound_have_validity : (c : Column) (runs : List SlotRun) → are_runs_sound c runs ≡ true → list_all has_validity runs ≡ true
sound_have_validity c [] h = refl
sound_have_validity c (run ∷ runs) h =
    let parts = and_parts (is_run_sound c run) (are_runs_sound c runs) h in
    rw (has c run parts.0, sound_have_validity c runs parts.1) refl
