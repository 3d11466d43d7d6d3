-- The list of what an archive has: lines of JSON (RFC 8259).
use Rattle.std.specs.Prelude.{ℕ, List, [], ◌∷◌, ◌++◌, codes, decimal, length, map, flat_map, string_bytes, option_map, Option, Some, None}
use Rattle.std.specs.List.{AllByRecursion}
use Rattle.json.specs.Token.{Token, begin_object, end_object, begin_array, end_array, key, string, number, null}
use Rattle.json.specs.Print.{print}
use Rattle.hex.specs.Hex.{encode_lower}
use Rattle.arrow_schema.specs.Column.{PlainSchema}
use Rattle.arrow_schema.specs.Limits.{IsWithinLimits}
use Rattle.arrow_schema.specs.View.{schema_of}
use Rattle.ipc_write.specs.Written.{schema_message, end_of_stream}
use Rattle.table_archive.specs.declared.manifest.ArchiveVersion.{ArchiveVersion}
use Rattle.table_archive.specs.declared.manifest.ArchiveVersion.TheVariants.{One, Two}
use Rattle.table_archive.specs.declared.manifest.ListedSegment.{ListedSegment}
use Rattle.table_archive.specs.declared.manifest.ListedTable.{ListedTable}

-- a table as it is listed: its name, its schema, the texts by which its fields are typed in, if there are such texts, and its segments in order
pub record PlainListed : Type 0 where
  pub name : List ℕ
  pub schema : PlainSchema
  pub fields : Option (List (List ℕ))
  pub segments : List ListedSegment

-- the plain value of a table of the code
abbrev pub plain_listed : ListedTable → PlainListed
plain_listed t =
    record {
      name = string_bytes t.name;
      schema = schema_of t.schema;
      fields = option_map (λ texts. map string_bytes texts.items) t.fields;
      segments = t.segments.items;
    }

abbrev pub listed_names : List PlainListed → List (List ℕ)
listed_names tables = map (λ t. t.name) tables

-- the stream of a table of this schema without rows
abbrev pub empty_stream : PlainSchema → List ℕ
empty_stream schema = schema_message schema ++ end_of_stream

abbrev pub number_member : (name : List ℕ) → ℕ → List Token
number_member name n = key name ∷ number (decimal n) ∷ []

abbrev pub number_of : ArchiveVersion → ℕ
number_of One = 1
number_of Two = 2

-- the version of the form of an archive, the epoch of the commit that it was made of, and the number of tables
abbrev pub first_tokens : ArchiveVersion → (epoch tables : ℕ) → List Token
first_tokens version epoch tables =
    begin_object ∷ []
    ++ (number_member (codes "archive") (number_of version) ++ (number_member (codes "epoch") epoch ++ (number_member (codes "tables") tables ++ end_object ∷ [])))

abbrev pub segment_tokens : ListedSegment → List Token
segment_tokens s =
    begin_object ∷ key (codes "sha256") ∷ string (encode_lower s.digest) ∷ []
    ++ (number_member (codes "bytes") s.bytes ++ (number_member (codes "rows") s.rows ++ end_object ∷ []))

-- the texts of the fields, or null
abbrev pub fields_member : Option (List (List ℕ)) → List Token
fields_member None = key (codes "fields") ∷ null ∷ []
fields_member (Some texts) = key (codes "fields") ∷ begin_array ∷ [] ++ (map string texts ++ end_array ∷ [])

abbrev pub segments_member : List ListedSegment → List Token
segments_member segments = key (codes "segments") ∷ begin_array ∷ [] ++ (flat_map segment_tokens segments ++ end_array ∷ [])

abbrev pub table_tokens : PlainListed → List Token
table_tokens t =
    begin_object ∷ key (codes "table") ∷ string t.name ∷ key (codes "schema") ∷ string (encode_lower (empty_stream t.schema)) ∷ []
    ++ (fields_member t.fields ++ (segments_member t.segments ++ end_object ∷ []))

-- a line of JSON without spaces
abbrev pub line : List Token → List ℕ
line tokens = print tokens ++ 10 ∷ []

abbrev pub table_lines : List PlainListed → List ℕ
table_lines tables = flat_map (λ t. line (table_tokens t)) tables

unfoldable pub manifest : ArchiveVersion → (epoch : ℕ) → List PlainListed → List ℕ
manifest version epoch tables = line (first_tokens version epoch (length tables)) ++ table_lines tables

-- the schema of each table is within its limits
abbrev pub AreWithin : List ListedTable → Type 0
AreWithin tables = AllByRecursion (λ (t : ListedTable). IsWithinLimits (schema_of t.schema)) tables
