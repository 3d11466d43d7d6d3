-- The one record batch that the buffers of columns are.
use Rattle.std.specs.Prelude.{◌==◌, not, nat_le, nat_lt, Result, Ok}
use Rattle.std.specs.List.{AllByRecursion, AllPass, flat_map, list_all, list_any}
use Rattle.std.proofs.Common.{◌≡◌, ℕ, true, false, List, [], ◌∷◌, length, map, refl, arith, ap, sym, subst, ◌∙◌, append-nil}
use Rattle.std.proofs.lemmas.Bool.{and_from, and_parts}
use Rattle.arrow_schema.specs.Column.{Columns, columns_of, PlainSchema}
use Rattle.arrow_schema.specs.Limits.{IsWithinLimits}
use Rattle.cells.specs.Cell.{Cell, PlainTable}
use Rattle.cells.specs.Row.{is_row}
use Rattle.cells.specs.Weight.{table_weight}
use Rattle.text_import.specs.declared.refusal.Refused.{Refused}
use Rattle.columns.specs.Alone.{IsBuiltAlone, own_array, own_column}
use Rattle.columns.specs.Array.{Arrays, array_list, slots_in}
use Rattle.columns.specs.Buildable.{can_build_rows}
use Rattle.columns.specs.Buffers.{buffers_of, dictionaries_of, nodes_of}
use Rattle.columns.specs.Built.{built_parts}
use Rattle.columns.specs.CellAt.{rows_in}
use Rattle.columns.specs.FromBuffers.{arrays_from}
use Rattle.columns.specs.Layouts.{dictionary_arrays}
use Rattle.columns.specs.Sound.{are_sound, is_sound}
use Rattle.columns.specs.Tests.{Typed, every_array, has_short_child, is_short, is_unordered}
use Rattle.columns.specs.View.{placed_arrays}
use Rattle.columns.specs.laws.Sounds.{AreClean, all_sound, is_typed_sound}
use Rattle.columns.specs.laws.Rows.{none_shorter}
use Rattle.values.specs.Parts.{are_parts_sound, parts_table}
use Rattle.values.specs.Table.{IsTable}
use Rattle.values.specs.declared.table_part.Batch.{Batch}
use Rattle.values.specs.declared.table_part.TablePart.{TablePart}
use Rattle.text_columns.specs.declared.builder.ColumnBuilder.{ColumnBuilder}
use Rattle.text_columns.specs.declared.batches.Batches.{Batches}
use Rattle.text_columns.specs.inner.Batches.{HasRows}
use Rattle.text_columns.specs.inner.Kept.{KeepAll}
use Rattle.text_columns.specs.inner.Tables.{HasTable, MakesRows}
use Rattle.text_columns.specs.inner.Placed.{ArePlaced}

-- ---- the batch

-- what is known of the arrays that rows are written as
pub record AreBuilt (cs : Columns) (rows : List (List Cell)) : Type 0 where
  pub back : rows_in cs (built_parts cs rows) (length rows) ≡ rows
  pub again : arrays_from cs (nodes_of cs (built_parts cs rows)) (buffers_of cs (built_parts cs rows)) (dictionary_arrays cs (built_parts cs rows)) ≡ built_parts cs rows
  pub long : list_any (λ t. is_short t.column t.array) (every_array cs (built_parts cs rows)) ≡ false
  pub ordered : list_any (λ t. is_unordered t.column t.array) (every_array cs (built_parts cs rows)) ≡ false
  pub children : list_any (λ t. has_short_child t.column t.array) (every_array cs (built_parts cs rows)) ≡ false
  pub slots : list_any (λ a. not (slots_in a == length rows)) (array_list (built_parts cs rows)) ≡ false

built_sound : (cs : Columns) (rows : List (List Cell)) → AreBuilt cs rows → list_all is_typed_sound (dictionaries_of cs (built_parts cs rows)) ≡ true
    → are_sound cs (length rows) (built_parts cs rows) ≡ true
built_sound cs rows h entries =
    let a : Arrays = built_parts cs rows in
    let clean : AreClean (every_array cs a) = record { long = h.long; ordered = h.ordered; children = h.children; dictionaries = entries } in
    subst (λ (x : Arrays). are_sound cs (length rows) x ≡ true) h.again
    (all_sound cs (length rows) (nodes_of cs a) (buffers_of cs a) (dictionary_arrays cs a)
    (subst (λ (x : Arrays). AreClean (every_array cs x)) (sym h.again) clean)
    (subst (λ (x : Arrays). list_any (λ child. nat_lt (slots_in child) (length rows)) (array_list x) ≡ false) (sym h.again) (none_shorter (length rows) (array_list a) h.slots)))

-- what is known of the dictionaries of arrays that rows are written as
pub record AreDictionaries (cs : Columns) (rows : List (List Cell)) : Type 0 where
  pub alone : AllByRecursion (IsBuiltAlone 268435456) (dictionaries_of cs (built_parts cs rows))
  pub flat : AllByRecursion (λ t. dictionary_arrays (own_column t) (own_array t) ≡ []) (dictionaries_of cs (built_parts cs rows))

abbrev BuiltLaw : Type 0
BuiltLaw = (cs : Columns) (rows : List (List Cell)) → can_build_rows cs rows ≡ true → AreBuilt cs rows

abbrev KnownLaw : Type 0
KnownLaw = (cs : Columns) (rows : List (List Cell)) → can_build_rows cs rows ≡ true
    → dictionary_arrays cs (built_parts cs rows) ≡ map (λ t. t.array ∷ []) (dictionaries_of cs (built_parts cs rows))

none_listed : (ts : List Typed) → map (λ (t : Typed). t.array ∷ []) ts ≡ [] → ts ≡ []
none_listed [] h = refl
none_listed (t ∷ ts) h = absurd cc

-- a dictionary by itself
entry_sound : BuiltLaw → KnownLaw → (t : Typed) → IsBuiltAlone 268435456 t → dictionary_arrays (own_column t) (own_array t) ≡ [] → is_typed_sound t ≡ true
unfolding are_sound
entry_sound law lists t h flat =
    let cs : Columns = own_column t in
    let none : dictionaries_of cs (built_parts cs h.rows) ≡ [] =
    none_listed _ (sym (lists cs h.rows h.can) ∙ ap (dictionary_arrays cs) (sym h.array) ∙ flat) in
    let sound : are_sound cs (length h.rows) (built_parts cs h.rows) ≡ true = built_sound cs h.rows (law cs h.rows h.can) (ap (list_all is_typed_sound) none) in
    let own : are_sound cs (length h.rows) (own_array t) ≡ true = ap (are_sound cs (length h.rows)) h.array ∙ sound in
    (and_parts (is_sound t.column t.array) true (and_parts (nat_le (length h.rows) (slots_in t.array)) _ own).1).0

entries_sound : BuiltLaw → KnownLaw → (ts : List Typed) → AllByRecursion (IsBuiltAlone 268435456) ts → AllByRecursion (λ t. dictionary_arrays (own_column t) (own_array t) ≡ []) ts
    → list_all is_typed_sound ts ≡ true
entries_sound law lists [] alone flat = refl
entries_sound law lists (t ∷ ts) alone flat = and_from _ _ (entry_sound law lists t alone.0 flat.0) (entries_sound law lists ts alone.1 flat.1)

-- its rows are those that the columns hold, and its slots can be looked up
pub part_made : (s : PlainSchema) (rows : List (List Cell)) (bs : List ColumnBuilder) (n : ℕ) (part : TablePart) (batch : Batch) → KeepAll s.columns rows bs → length rows ≡ n
    → BuiltLaw → KnownLaw → can_build_rows (columns_of s.columns) rows ≡ true → AreDictionaries (columns_of s.columns) rows → part.batches.items ≡ batch ∷ [] → batch.rows ≡ n
    → ArePlaced bs part.bytes.items part.dictionaries.items batch.arrays.items
    → (parts_table s (part ∷ []) ≡ record { schema = s; rows = rows }) × (are_parts_sound (columns_of s.columns) (part ∷ []) ≡ true)
part_made s rows bs n part batch k count law lists can entries one size placed =
    let cs : Columns = columns_of s.columns in
    let built : AreBuilt cs rows = law cs rows can in
    let arrays : placed_arrays part.bytes.items part.dictionaries.items batch.arrays.items ≡ built_parts cs rows = placed s.columns rows k in
    let many : batch.rows ≡ length rows = size ∙ sym count in
    let back : rows_in cs (placed_arrays part.bytes.items part.dictionaries.items batch.arrays.items) batch.rows ≡ rows = (λ j. rows_in cs (arrays j) (many j)) ∙ built.back in
    let sound : are_sound cs batch.rows (placed_arrays part.bytes.items part.dictionaries.items batch.arrays.items) ≡ true =
    (λ j. are_sound cs (many j) (arrays j)) ∙ built_sound cs rows built (entries_sound law lists (dictionaries_of cs (built_parts cs rows)) entries.alone entries.flat) in (
      ap (λ (r : List (List Cell)). record { schema = s; rows = r }) (append-nil _ ∙ ap (flat_map _) one ∙ append-nil _ ∙ back),
      and_from _ _ (ap (list_all _) one ∙ and_from _ _ sound refl) refl,
    )

-- ---- the table

rows_are_table : (s : PlainSchema) (stated : Result (List (List Cell)) Refused) (weight : ℕ) (b : Batches) → IsWithinLimits s
    → ((rows : List (List Cell)) → stated ≡ Ok rows → AllPass (is_row s) rows) → (h : HasRows s stated weight b) → IsTable (record { schema = s; rows = h.rows })
rows_are_table s stated weight b limits pass h = record { schema = limits; rows = pass h.rows h.are_read; weight = omega (arith, h.weighs, h.few) }

pub makes_rows : (s : PlainSchema) (stated : Result (List (List Cell)) Refused) (weight : ℕ) (b : Batches) → IsWithinLimits s
    → ((rows : List (List Cell)) → stated ≡ Ok rows → AllPass (is_row s) rows) → HasRows s stated weight b → MakesRows s b
makes_rows s stated weight b limits pass h = record { rows = h.rows; holds = h.holds; table = rows_are_table s stated weight b limits pass h }

-- what a call tells of the table that it made
pub record IsTold (s : PlainSchema) (stated : Result (List (List Cell)) Refused) (weight : ℕ) (t : PlainTable) : Type 0 where
  pub read : stated ≡ Ok t.rows
  pub schema : t.schema ≡ s
  pub weighs : weight ≡ table_weight s t.rows

pub table_told : (s : PlainSchema) (stated : Result (List (List Cell)) Refused) (weight : ℕ) (b : Batches) (t : PlainTable) → IsWithinLimits s
    → ((rows : List (List Cell)) → stated ≡ Ok rows → AllPass (is_row s) rows) → HasRows s stated weight b → HasTable s b t → IsTold s stated weight t
table_told s stated weight b t limits pass h has =
    let same : t ≡ record { schema = s; rows = h.rows } = has h.rows h.holds (rows_are_table s stated weight b limits pass h) in
    let rows : t.rows ≡ h.rows = ap (λ (u : PlainTable). u.rows) same in
    record { read = h.are_read ∙ ap Ok (sym rows); schema = ap (λ (u : PlainTable). u.schema) same; weighs = sym h.weighs ∙ ap (table_weight s) (sym rows) }
