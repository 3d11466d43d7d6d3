-- What an image holds of a catalogue that was edited: the tables that the change makes.
use Rattle.std.specs.Prelude.{◌≡◌, ◌≢◌, ◌+◌, ℕ, suc, Bool, true, false, cond, List, [], ◌∷◌, ◌++◌, Option, Some, None, is_some, Ok, if◌then◌else◌, refl}
use Rattle.std.proofs.Common.{sym, ap, ◌∙◌, arith, append_assoc, append-nil}
use Rattle.std.proofs.lemmas.Bool.{and_parts}
use Rattle.std.proofs.lemmas.Cmp.{nat_list_cmp_total}
use Rattle.std.proofs.lemmas.Slice.Eq.{bytes_eq-Decides}
use Rattle.std.specs.declared.cmp.Ordering.TheVariants.{Less, Equal}
use Rattle.std.specs.Str.{bytes_eq}
use Rattle.std.specs.Ordering.{match_ordering}
use Rattle.std.specs.Cmp.{tied_itself}
use Rattle.std.specs.FinMap as maps
use Rattle.std.proofs.lemmas.Option.{same_Some}
use Rattle.sector_dev.specs.Disk.{Image}
use Rattle.arrow_schema.specs.Column.{PlainSchema}
use Rattle.cells.specs.Cell.{Cell, PlainTable}
use Rattle.values.specs.Table.{table_from}
use Rattle.segments.specs.declared.run.Run.{Run}
use Rattle.segments.specs.declared.extent.Extent.{Extent}
use Rattle.commit.specs.declared.sector.FormatVersion.{FormatVersion}
use Rattle.catalogue.specs.declared.entry.Segment.{Segment}
use Rattle.catalogue.specs.Entries.{PlainEntry, PlainCatalogue, names_of, comes_before, ascends, IsCatalogue}
use Rattle.catalogue.specs.Edits.{entry_of, with_entry, without, named, renamed, with_segments, with_more}
use Rattle.catalogue.specs.laws.Changed.{more_is}
use Rattle.catalogue.specs.laws.Order.{order, by_order}
use Rattle.tables.specs.Tables.{Tables, no_tables, table_at, with_table, without_table, table_count}
use Rattle.tables.specs.Verdict.{joined}
use Rattle.tables.specs.laws.Maps.{put_apart, put_over, put_and_taken, put_not_taken, none_taken}
use Rattle.store_runs.specs.Held.{rows_in_bytes, rows_in_segment, segment_rows, joined_rows, rows_held, table_where, table_of_rows, table_held, with_held, tables_held, held_entry, each_held}
use Rattle.store_runs.specs.Changes.{PlainEdit, put, extend, move, remove, exchange, digest, rebuild, PlainChange, new_entry, page_instead, edited, placed_segments, HasEntry, stream_rows, rows_under, Makes, IsOfCatalogue, MakesOf, HoldsStreams}
use Rattle.store_runs.specs.Carrying.{placed}
use Rattle.store_changes.specs.laws.Digests.{rows_undamaged}
use Rattle.store_changes.specs.laws.Named.{entry_has, entry_lacks, held_has}
use Rattle.store_changes.specs.laws.Frame.{named_table, tables_by_table}
use Rattle.store_changes.specs.laws.Mapped.{placed_mapped}
use Rattle.store_changes.specs.laws.Listed.{count_held}

-- with segments of the same rows for a table
pub same_with : (image : Image) (c : PlainCatalogue) (name : List ℕ) (e : PlainEntry) (segments : List Segment) → entry_of c name ≡ Some e → rows_held e.schema segments image ≡ rows_held e.schema e.segments image
    → tables_held image (with_segments c name segments) ≡ tables_held image c
unfolding tables_held
same_with image [] name e segments found same = refl
same_with image (x ∷ xs) name e segments found same = by_name (bytes_eq x.name name) found (λ h. same_with image xs name e segments h same)
  where
    by_name : (b : Bool) → (if b then Some x else entry_of xs name) ≡ Some e → (entry_of xs name ≡ Some e → tables_held image (with_segments xs name segments) ≡ tables_held image xs)
        → tables_held image (if b then record { name = x.name; schema = x.schema; segments = segments; page = None } ∷ xs else x ∷ with_segments xs name segments) ≡ tables_held image (x ∷ xs)
    by_name true h later =
        let is : x ≡ e = cc h in
        let rows : rows_held x.schema segments image ≡ rows_held x.schema x.segments image =
        ap (λ (y : PlainEntry). rows_held y.schema segments image) is ∙ same ∙ ap (λ (y : PlainEntry). rows_held y.schema y.segments image) (sym is) in
        ap (λ (o : Option (List (List Cell))). with_held x.name (table_of_rows x.schema o) (tables_held image xs)) rows
    by_name false h later = ap (with_held x.name (table_held image x)) (later h)

-- ---- the rows of new segments

-- the rows that new segments hold are those of their streams
pub streams_held : (image : Image) (schema : PlainSchema) (segments : List Segment) (streams : List (List ℕ)) (counts : List ℕ) → HoldsStreams image segments streams counts
    → rows_held schema segments image ≡ stream_rows schema streams counts
unfolding rows_held segment_rows stream_rows
streams_held image schema [] streams counts holds = ap (λ (xs : List (List ℕ)). stream_rows schema xs counts) (sym holds)
streams_held image schema (g ∷ gs) [] counts holds = absurd holds
streams_held image schema (g ∷ gs) (stream ∷ streams) [] holds = absurd holds
streams_held image schema (g ∷ gs) (stream ∷ streams) (count ∷ counts) holds =
    let first = ap (rows_in_segment schema g) holds.0 ∙ rows_undamaged schema g (Some stream) holds.2 ∙ ap (λ (n : ℕ). rows_in_bytes schema n (Some stream)) holds.1 in
    let others = streams_held image schema gs streams counts holds.3 in
    λ i. joined_rows (first i) (others i)

joined_after : (a b c : Option (List (List Cell))) → joined_rows (joined_rows a b) c ≡ joined_rows a (joined_rows b c)
joined_after None b c = refl
joined_after (Some xs) None c = refl
joined_after (Some xs) (Some ys) None = refl
joined_after (Some xs) (Some ys) (Some zs) = ap Some (append_assoc xs ys zs)

-- segments after others
pub rows_behind : (schema : PlainSchema) (a b : List Segment) (image : Image) → rows_held schema (a ++ b) image ≡ joined_rows (rows_held schema a image) (rows_held schema b image)
unfolding rows_held
rows_behind schema [] b image = by_rows (rows_held schema b image)
  where
    by_rows : (o : Option (List (List Cell))) → o ≡ joined_rows (Some []) o
    by_rows None = refl
    by_rows (Some rows) = refl
rows_behind schema (g ∷ gs) b image =
    ap (joined_rows (segment_rows schema g image)) (rows_behind schema gs b image) ∙ sym (joined_after (segment_rows schema g image) (rows_held schema gs image) (rows_held schema b image))

-- ---- an entry in its place

less_apart : (a b : List ℕ) → order a b ≡ Less → a ≢ b
less_apart a b less same = let tie : order a a ≡ Equal = tied_itself nat_list_cmp_total a in let here : order a a ≡ Less = ap (order a) same ∙ less in absurd (cc (tie, here))

tied_same : (a b : List ℕ) → order a b ≡ Equal → a ≡ b
tied_same a b = maps.slice_cmp-IsAntisymmetric maps.nat_cmp-IsAntisymmetric a b

pub bytes_same : (a b : List ℕ) → bytes_eq a b ≡ true → a ≡ b
bytes_same a b = (bytes_eq-Decides a b).0

bytes_differ : (a b : List ℕ) → bytes_eq a b ≡ false → a ≢ b
bytes_differ a b other same = let is : bytes_eq a b ≡ true = (bytes_eq-Decides a b).1 same in cc (other, is)

module _ (image : Image) where
  -- the tables of an entry and of the others
  parted : {G : Type 0} (x : PlainEntry) (xs : PlainCatalogue) (t : Tables) → tables_held image (x ∷ xs) ≡ Some t
      → ((table : PlainTable) (u : Tables) → table_held image x ≡ Some table → tables_held image xs ≡ Some u → t ≡ with_table u x.name table → G) → G
  unfolding tables_held
  parted {G = G} x xs t is give = by_parts (table_held image x) (tables_held image xs) refl refl is
    where
      by_parts : (o : Option PlainTable) (rest : Option Tables) → table_held image x ≡ o → tables_held image xs ≡ rest → with_held x.name o rest ≡ Some t → G
      by_parts None rest o r h = absurd (cc h)
      by_parts (Some table) None o r h = absurd (cc h)
      by_parts (Some table) (Some u) o r h = give table u o r (cc h)

  -- the tables of an entry before others
  in_front : (x : PlainEntry) (xs : PlainCatalogue) (table : PlainTable) (u : Tables) → table_held image x ≡ Some table → tables_held image xs ≡ Some u
      → tables_held image (x ∷ xs) ≡ Some (with_table u x.name table)
  unfolding tables_held
  in_front x xs table u own others = λ i. with_held x.name (own i) (others i)

  held_with : (c : PlainCatalogue) (t : Tables) (e : PlainEntry) (table : PlainTable) → tables_held image c ≡ Some t → table_held image e ≡ Some table
      → tables_held image (with_entry c e) ≡ Some (with_table t e.name table)
  held_with [] t e table is own = in_front e [] table t own is
  held_with (x ∷ xs) t e table is own = parted x xs t is (λ was u first others same.
      by_order (order x.name e.name)
      (λ less.
      ap (λ o. tables_held image (match_ordering o (x ∷ with_entry xs e) (e ∷ xs) (e ∷ (x ∷ xs)))) less
      ∙ in_front x (with_entry xs e) was (with_table u e.name table) first (held_with xs u e table others own)
      ∙ ap Some (put_apart u e.name x.name table was (λ alike. less_apart x.name e.name less (sym alike)) ∙ ap (λ (v : Tables). with_table v e.name table) (sym same)))
      (λ tie.
      ap (λ o. tables_held image (match_ordering o (x ∷ with_entry xs e) (e ∷ xs) (e ∷ (x ∷ xs)))) tie
      ∙ in_front e xs table u own others
      ∙ ap Some (sym (put_over u e.name was table) ∙ ap (λ (name : List ℕ). with_table (with_table u name was) e.name table) (sym (tied_same x.name e.name tie)) ∙ ap (λ (v : Tables). with_table v e.name table) (sym same)))
      (λ greater.
      ap (λ o. tables_held image (match_ordering o (x ∷ with_entry xs e) (e ∷ xs) (e ∷ (x ∷ xs)))) greater
      ∙ in_front e (x ∷ xs) table t own is))

  -- ---- without an entry

  -- the others have no table of its name
  name_alone : (x : PlainEntry) (xs : PlainCatalogue) (t u : Tables) (table : PlainTable) → ascends (names_of (x ∷ xs)) ≡ true → tables_held image (x ∷ xs) ≡ Some t → tables_held image xs ≡ Some u
      → t ≡ with_table u x.name table → table_at u x.name ≡ None
  name_alone x xs t u table rises is others same = by_table (table_at u x.name) refl
    where
      parts : (comes_before x.name (names_of xs) ≡ true) × (ascends (names_of xs) ≡ true)
      parts = and_parts (comes_before x.name (names_of xs)) (ascends (names_of xs)) rises

      more : table_count t ≡ suc (table_count u)
      more = count_held image (x ∷ xs) t rises is ∙ ap suc (sym (count_held image xs u parts.1 others))

      grown : table_count t ≡ cond (is_some (table_at u x.name)) (table_count u) (table_count u + 1)
      grown = ap table_count same ∙ maps.len-insert nat_list_cmp_total u x.name table

      by_table : (o : Option PlainTable) → table_at u x.name ≡ o → table_at u x.name ≡ None
      by_table None here = here
      by_table (Some old) here =
          let kept : table_count t ≡ table_count u = grown ∙ ap (λ (o : Option PlainTable). cond (is_some o) (table_count u) (table_count u + 1)) here in
          absurd (omega (arith, more, kept))

  held_without : (c : PlainCatalogue) (t : Tables) (name : List ℕ) → ascends (names_of c) ≡ true → tables_held image c ≡ Some t → tables_held image (without c name) ≡ Some (without_table t name)
  unfolding tables_held
  held_without [] t name rises is = let empty : no_tables ≡ t = cc is in ap Some (sym (none_taken name) ∙ ap (λ (v : Tables). without_table v name) empty)
  held_without (x ∷ xs) t name rises is = parted x xs t is (λ was u first others same. by_name was u first others same (bytes_eq x.name name) refl (held_without xs u name parts.1 others))
    where
      parts : (comes_before x.name (names_of xs) ≡ true) × (ascends (names_of xs) ≡ true)
      parts = and_parts (comes_before x.name (names_of xs)) (ascends (names_of xs)) rises

      by_name : (was : PlainTable) (u : Tables) → table_held image x ≡ Some was → tables_held image xs ≡ Some u → t ≡ with_table u x.name was → (b : Bool) → bytes_eq x.name name ≡ b
          → tables_held image (without xs name) ≡ Some (without_table u name) → tables_held image (if b then xs else x ∷ without xs name) ≡ Some (without_table t name)
      by_name was u first others same true here later =
          let named : x.name ≡ name = bytes_same x.name name here in
          others ∙ ap Some (sym (put_and_taken u x.name was (name_alone x xs t u was rises is others same)) ∙ ap (λ (v : Tables). without_table v x.name) (sym same) ∙ ap (without_table t) named)
      by_name was u first others same false other later =
          in_front x (without xs name) was (without_table u name) first later
          ∙ ap Some (sym (put_not_taken u x.name name was (bytes_differ x.name name other)) ∙ ap (λ (v : Tables). without_table v name) (sym same))

  -- ---- with other segments

  held_changed : (c : PlainCatalogue) (t : Tables) (name : List ℕ) (segments : List Segment) (e : PlainEntry) (table : PlainTable) → tables_held image c ≡ Some t → entry_of c name ≡ Some e
      → table_held image (new_entry name e.schema segments None) ≡ Some table → tables_held image (with_segments c name segments) ≡ Some (with_table t name table)
  held_changed [] t name segments e table is found own = absurd (cc found)
  held_changed (x ∷ xs) t name segments e table is found own = parted x xs t is (λ was u first others same. by_name was u first others same (bytes_eq x.name name) refl found (λ h. held_changed xs u name segments e table others h own))
    where
      by_name : (was : PlainTable) (u : Tables) → table_held image x ≡ Some was → tables_held image xs ≡ Some u → t ≡ with_table u x.name was → (b : Bool) → bytes_eq x.name name ≡ b
          → (if b then Some x else entry_of xs name) ≡ Some e → (entry_of xs name ≡ Some e → tables_held image (with_segments xs name segments) ≡ Some (with_table u name table))
          → tables_held image (if b then record { name = x.name; schema = x.schema; segments = segments; page = None } ∷ xs else x ∷ with_segments xs name segments) ≡ Some (with_table t name table)
      by_name was u first others same true here h later =
          let named : x.name ≡ name = bytes_same x.name name here in
          let stood : x ≡ e = cc h in
          in_front (new_entry x.name x.schema segments None) xs table u (ap (λ (y : PlainEntry). table_held image (new_entry x.name y.schema segments None)) stood ∙ own) others
          ∙ ap Some (sym (put_over u x.name was table) ∙ ap (λ (v : Tables). with_table v x.name table) (sym same) ∙ ap (λ (n : List ℕ). with_table t n table) named)
      by_name was u first others same false other h later =
          in_front x (with_segments xs name segments) was (with_table u name table) first (later h)
          ∙ ap Some (put_apart u name x.name table was (λ alike. bytes_differ x.name name other (sym alike)) ∙ ap (λ (v : Tables). with_table v name table) (sym same))

  -- ---- a change

  -- the table of a new entry
  held_new : (name : List ℕ) (schema : PlainSchema) (segments : List Segment) (page : Option Extent) (rows : List (List Cell)) (table : PlainTable) → rows_held schema segments image ≡ Some rows → table_from schema rows ≡ Ok table
      → table_held image (new_entry name schema segments page) ≡ Some table
  held_new name schema segments page rows table read made = ap (table_of_rows schema) read ∙ ap table_where made

  held_put : (c : PlainCatalogue) (t new : Tables) (name : List ℕ) (schema : PlainSchema) (segments : List Segment) (streams : List (List ℕ)) (counts : List ℕ) → tables_held image c ≡ Some t
      → Makes t (put name schema) streams counts new → HoldsStreams image segments streams counts → tables_held image (with_entry c (new_entry name schema segments (page_instead (entry_of c name) schema segments))) ≡ Some new
  held_put c t new name schema segments streams counts is makes holds =
      let read = streams_held image schema segments streams counts holds ∙ makes.1 in
      let page = page_instead (entry_of c name) schema segments in
      held_with c t (new_entry name schema segments page) (rows_under schema makes.0) is (held_new name schema segments page makes.0 (rows_under schema makes.0) read makes.2) ∙ ap Some (sym makes.3)

  -- segments after those of a table, also where there are none
  more_held : (c : PlainCatalogue) (name : List ℕ) (e : PlainEntry) (more : List Segment) → entry_of c name ≡ Some e → tables_held image (with_more c name more) ≡ tables_held image (with_segments c name (e.segments ++ more))
  more_held c name e [] found = sym (same_with image c name e (e.segments ++ []) found (ap (λ (ss : List Segment). rows_held e.schema ss image) (append-nil e.segments)))
  more_held c name e (s ∷ ss) found = ap (tables_held image) (more_is c name e s ss found)

  held_extended : (c : PlainCatalogue) (t new : Tables) (name : List ℕ) (segments : List Segment) (streams : List (List ℕ)) (counts : List ℕ) → tables_held image c ≡ Some t → HasEntry c name
      → Makes t (extend name) streams counts new → HoldsStreams image segments streams counts → tables_held image (with_more c name segments) ≡ Some new
  held_extended c t new name segments streams counts is (e, found) (table, at, (rows, read, made, becomes)) holds =
      let own = entry_has image c t is name e found in
      let stood : own.0 ≡ table = same_Some own.0 table (sym own.2 ∙ at) in
      let has = held_has image e own.0 own.1 in
      let schema : table.schema ≡ e.schema = ap (λ (x : PlainTable). x.schema) (sym stood ∙ has.2) in
      let old : rows_held e.schema e.segments image ≡ Some table.rows = has.1 ∙ ap (λ (x : PlainTable). Some x.rows) (sym has.2 ∙ stood) in
      let more : rows_held e.schema segments image ≡ Some rows = streams_held image e.schema segments streams counts holds ∙ ap (λ (s : PlainSchema). stream_rows s streams counts) (sym schema) ∙ read in
      let both : rows_held e.schema (e.segments ++ segments) image ≡ Some (table.rows ++ rows) = rows_behind e.schema e.segments segments image ∙ (λ i. joined_rows (old i) (more i)) in
      let from : table_from e.schema (table.rows ++ rows) ≡ Ok (joined table rows) = ap (λ (s : PlainSchema). table_from s (table.rows ++ rows)) (sym schema) ∙ made in
      more_held c name e segments found
      ∙ held_changed c t name (e.segments ++ segments) e (joined table rows) is found (held_new name e.schema (e.segments ++ segments) None (table.rows ++ rows) (joined table rows) both from)
      ∙ ap Some (sym becomes)

  held_moved : (c : PlainCatalogue) (t new : Tables) (from to : List ℕ) → ascends (names_of c) ≡ true → tables_held image c ≡ Some t → HasEntry c from → Makes t (move from to) [] [] new
      → tables_held image (renamed c from to) ≡ Some new
  held_moved c t new from to rises is (e, found) (table, at, becomes) =
      let own = entry_has image c t is from e found in
      let stood : own.0 ≡ table = same_Some own.0 table (sym own.2 ∙ at) in
      ap (λ (o : Option PlainEntry). tables_held image (elim o [ None ↦ c | Some x ↦ with_entry (without c from) (named to x) ])) found
      ∙ held_with (without c from) (without_table t from) (named to e) table (held_without c t from rises is) (own.1 ∙ ap Some stood)
      ∙ ap Some (sym becomes)

  -- an image that holds the tables of a catalogue and the streams of a change holds the tables that the change makes
  pub edited_held : (c : PlainCatalogue) (change : PlainChange) (t new : Tables) (segments : List Segment) → IsCatalogue c → IsOfCatalogue c change.edit → tables_held image c ≡ Some t → MakesOf t change new
      → HoldsStreams image segments change.streams change.counts → tables_held image (edited c change.edit segments) ≡ Some new
  edited_held c change t new segments catalogue own is makes holds = by_edit change.edit own makes
    where
      -- a table that is there has an entry
      has_entry : (name : List ℕ) (table : PlainTable) (o : Option PlainEntry) → entry_of c name ≡ o → table_at t name ≡ Some table → HasEntry c name
      has_entry name table None none at = let both : None ≡ Some table = sym (entry_lacks image c t is name none) ∙ at in absurd (cc both)
      has_entry name table (Some e) found at = (e, found)

      by_edit : (edit : PlainEdit) → IsOfCatalogue c edit → Makes t edit change.streams change.counts new → tables_held image (edited c edit segments) ≡ Some new
      by_edit (put name schema) of made = held_put c t new name schema segments change.streams change.counts is made holds
      by_edit (extend name) of made = held_extended c t new name segments change.streams change.counts is (has_entry name made.0 (entry_of c name) refl made.1) made holds
      by_edit (move from to) of made = held_moved c t new from to catalogue.order is (has_entry from made.0 (entry_of c from) refl made.1) made
      by_edit (remove name) of made = held_without c t name catalogue.order is ∙ ap Some (sym made)
      by_edit (exchange name place count) of made = absurd made
      by_edit (digest ds) of made = absurd made
      by_edit (rebuild old from others gone) of made = made image segments (ap (tables_held image) of ∙ is) holds

-- ---- pages make no difference to what a table is

pub placed_each : (image : Image) (v : FormatVersion) (c : PlainCatalogue) (change : PlainChange) (places : List Run)
    → each_held image (placed v c change places) ≡ each_held image (edited c change.edit (placed_segments v places change.streams change.counts))
placed_each image = placed_mapped (held_entry image) (λ e o. refl)

pub placed_held : (image : Image) (v : FormatVersion) (c : PlainCatalogue) (change : PlainChange) (places : List Run)
    → tables_held image (placed v c change places) ≡ tables_held image (edited c change.edit (placed_segments v places change.streams change.counts))
placed_held image v c change places =
    tables_by_table image image (placed v c change places) (edited c change.edit (placed_segments v places change.streams change.counts)) (placed_mapped (named_table image) (λ e o. refl) v c change places)
