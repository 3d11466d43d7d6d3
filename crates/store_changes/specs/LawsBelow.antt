-- The laws below the store.
use Rattle.std.specs.Prelude.{◌≡◌, ◌≤◌, ◌++◌, ℕ, true, List, Some, Ok, Err}
use Rattle.facts.specs.Bytes.{AreBytes}
use Rattle.sector_dev.specs.Disk.{Image}
use Rattle.arrow_schema.specs.Column.{PlainSchema}
use Rattle.arrow_schema.specs.Limits.{IsWithinLimits}
use Rattle.cells.specs.Cell.{Cell, PlainTable}
use Rattle.cells.specs.Weight.{table_weight}
use Rattle.cells.specs.declared.limits.TheConstants.{MAX_TABLE_WEIGHT}
use Rattle.values.specs.Table.{IsTable, table_from}
use Rattle.ipc_message.specs.Header.{supported_codes}
use Rattle.ipc_stream.specs.Meaning.{meaning}
use Rattle.query.specs.Bound.{SelectionRefusal}
use Rattle.query.specs.Query.{PlainQuery}
use Rattle.query.specs.Selection.{selection}
use Rattle.ipc_canonical.specs.PieceStreams.{piece_streams, piece_counts}
use Rattle.catalogue.specs.Entries.{PlainCatalogue, IsCatalogue}
use Rattle.commit.specs.declared.sector.Commit.{Commit}
use Rattle.commit.specs.Standing.{is_size}
use Rattle.pages.specs.Stored.{stored_reading}
use Rattle.store_runs.specs.Changes.{rows_under, stream_rows}

-- laws of tables and their rows
pub record TableLaws : Type 0 where
  pub accepts : (s : PlainSchema) (rows : List (List Cell)) (t : PlainTable) → IsWithinLimits s → table_from s rows ≡ Ok t → (t ≡ rows_under s rows) × IsTable t
  pub accepted : (t : PlainTable) → IsTable t → table_from t.schema t.rows ≡ Ok t
  pub joined : (s : PlainSchema) (a b : List (List Cell)) → IsTable (rows_under s a) → IsTable (rows_under s b)
      → table_weight s (a ++ b) ≤ MAX_TABLE_WEIGHT → IsTable (rows_under s (a ++ b))
  pub cut : (s : PlainSchema) (a b : List (List Cell)) → IsTable (rows_under s (a ++ b)) → IsTable (rows_under s a) × IsTable (rows_under s b)

-- laws of tables, pieces, queries, the meaning of streams, and catalogues that are read
pub record LawsBelow : Type 0 where
  pub tables : TableLaws
  pub held : (t : PlainTable) → IsTable t → stream_rows t.schema (piece_streams t) (piece_counts t) ≡ Some t.rows
  pub selects : (t : PlainTable) (q : PlainQuery) (s : PlainTable) → IsTable t → selection t q ≡ Ok s → IsTable s
  pub alike : (t u : PlainTable) (q : PlainQuery) (r : SelectionRefusal) → t.schema ≡ u.schema → selection t q ≡ Err r → selection u q ≡ Err r
  pub means : (bytes : List ℕ) (table : PlainTable) → AreBytes bytes → meaning supported_codes bytes ≡ Ok table → IsTable table
  pub catalogues : (size : ℕ) (image : Image) (k : Commit) (text : List ℕ) (c : PlainCatalogue) → is_size size ≡ true → stored_reading.at size image k text ≡ Ok c → IsCatalogue c
