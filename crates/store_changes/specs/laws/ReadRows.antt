-- Rows of one segment more, and of all segments of an entry.
use Rattle.std.proofs.Common.{◌≡◌, ◌<◌, ◌+◌, [], ℕ, Bool, true, List, Some, length, length-append, refl, sym, ap, ◌∙◌, subst, take, arith}
use Rattle.std.specs.Prelude.{get_or}
use Rattle.std.proofs.lemmas.List.Sums.{AllPass-from_list_all}
use Rattle.sector_dev.specs.Disk.{Image}
use Rattle.arrow_schema.specs.Column.{PlainSchema}
use Rattle.arrow_schema.specs.Limits.{IsWithinLimits}
use Rattle.cells.specs.Cell.{Cell, PlainTable}
use Rattle.cells.specs.Row.{is_row}
use Rattle.values.specs.Table.{IsTable}
use Rattle.catalogue.specs.declared.entry.Segment.{Segment}
use Rattle.catalogue.specs.Entries.{PlainEntry}
use Rattle.store_runs.specs.Changes.{rows_under}
use Rattle.store_runs.specs.Held.{joined_rows}
use Rattle.store_runs.specs.Reading.{IsRead}
use Rattle.store_changes.specs.LawsBelow.{TableLaws}
use Rattle.store_changes.specs.inner.ReadRows.{ReadsRows, ReadsNext}
use Rattle.store_changes.specs.laws.Digests.{read_rows}
use Rattle.store_changes.specs.laws.ReadTables.{rows_of_none, rows_step, have_step, count_step, read_is_held}

-- no rows are a table
pub no_rows : (s : PlainSchema) → IsWithinLimits s → IsTable (rows_under s [])
no_rows s within = record { schema = within; rows = AllPass-from_list_all (is_row s) [] refl; weight = omega arith }

pub reads_none_of : (tells : Bool) (image : Image) (s : PlainSchema) → IsTable (rows_under s []) → ReadsRows tells image s [] []
reads_none_of tells image s none = record { kept = none; count = refl; read = refl; held = λ told. rows_of_none s image }

-- a segment after those before it, whatever image it was read from later
module _ (tells : Bool) (image other : Image) (same : tells ≡ true → other ≡ image) (s : PlainSchema) (segments : List Segment) (place : ℕ) (segment : Segment) (inside : place < length segments) (at : segment ≡ get_or segments place segment) where
  pub reads_step : (rows all : List (List Cell)) → ReadsRows tells image s (take place segments) rows → ReadsNext tells other s rows segment all → ReadsRows tells image s (take (place + 1) segments) all
  reads_step rows all so_far next = record {
    kept = next.kept;
    count = count_step segments place segment (length rows) (length all) inside at so_far.count (ap length next.is ∙ length-append rows next.own ∙ ap (λ (n : ℕ). length rows + n) next.count);
    read = have_step tells s s segments place segment image other rows next.own all refl same inside at so_far.read next.read next.is;
    held = λ told.
        rows_step s s segments place segment image other rows (Some all) refl (same told) inside at (so_far.held told)
        (ap Some next.is ∙ ap (joined_rows (Some rows)) (sym (read_rows tells other s segment next.own next.read told)));
  }

-- the rows of all segments are the table that was read
pub rows_are_read : TableLaws → (tells : Bool) (image : Image) (e : PlainEntry) (t : PlainTable) → t.schema ≡ e.schema → ReadsRows tells image e.schema e.segments t.rows → IsRead tells image e t
rows_are_read laws tells image e t same read =
    let kept : IsTable t = subst (λ (x : PlainSchema). IsTable (rows_under x t.rows)) (sym same) read.kept in
    record { kept = kept; schema = same; count = read.count; read = read.read; held = λ told. read_is_held laws image e t kept same (read.held told) }
