-- Digests of segments, for the rows that calls return.
use Rattle.std.specs.Prelude.{◌≡◌, ℕ, List, Option, Some}
use Rattle.sha2.specs.Sha256.{sha256}
use Rattle.arrow_schema.specs.Column.{PlainSchema}
use Rattle.cells.specs.Cell.{Cell}
use Rattle.catalogue.specs.declared.entry.Segment.{Segment}
use Rattle.store_runs.specs.Held.{rows_in_bytes}

-- there are bytes, and they have this digest
pub record HaveDigest (bytes : Option (List ℕ)) (d : List ℕ) : Type 0 where
  pub found : List ℕ
  pub read : bytes ≡ Some found
  pub digest : sha256 found ≡ d

-- bytes with this digest mean the rows of a segment
pub record MeanRows (schema : PlainSchema) (g : Segment) (d : List ℕ) (rows : List (List Cell)) : Type 0 where
  pub bytes : List ℕ
  pub digest : sha256 bytes ≡ d
  pub means : rows_in_bytes schema g.rows (Some bytes) ≡ Some rows
