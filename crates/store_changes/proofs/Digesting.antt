-- The digests of the segments of a table, and of all tables, one after another.
use Rattle.std.specs.Prelude.{◌≡◌, ◌<◌, ◌+◌, ◌++◌, ℕ, zero, suc, Bool, true, List, [], ◌∷◌, length, take, get_or, slice_get, map, Some, refl}
use Rattle.std.proofs.Common.{⊎_elim, sym, ap, ◌∙◌, subst, arith, append-nil, append_assoc}
use Rattle.std.proofs.lemmas.List.{take_more, map-append}
use Rattle.facts.specs.laws.Lists.{take-item}
use Rattle.sha2.specs.Sha256.{sha256}
use Rattle.sector_dev.specs.Disk.{Image}
use Rattle.arrow_schema.specs.Column.{PlainSchema}
use Rattle.cells.specs.Cell.{Cell, PlainTable}
use Rattle.catalogue.specs.declared.entry.Segment.{Segment}
use Rattle.catalogue.specs.declared.entry.TableEntry.{TableEntry}
use Rattle.catalogue.specs.Entries.{PlainEntry, PlainCatalogue, plain_entry}
use Rattle.tables.specs.declared.refusal.Refusal.{Refusal}
use Rattle.tables.specs.declared.refusal.Refusal.TheVariants as refusals
use Rattle.store_runs.specs.Reading.{HasRead, IsUnread, IsDamaged, IsRead, Unreads}
use Rattle.store_runs.specs.Digesting.{AreDigested, IsDigested, AllDigested, AreRead}
use Rattle.store_changes.specs.inner.ReadRows.{ReadsNext}
use Rattle.store_changes.specs.laws.Digests.{copy_then}
use Rattle.store_changes.proofs.StepFound.{below_or_at, read_then}

-- ---- one segment more

push_digest : (tells : Bool) (image : Image) (schema : PlainSchema) (gs : List Segment) (g : Segment) (rows own : List (List Cell)) (ds : List (List ℕ)) (d : List ℕ)
    → AreDigested tells image schema gs rows ds → (read : HasRead tells image schema g own) → d ≡ sha256 read.bytes
    → AreDigested tells image schema (gs ++ g ∷ []) (rows ++ own) (ds ++ d ∷ [])
push_digest tells image schema [] g rows own ds d none read is =
    subst (λ (xs : List (List ℕ)). AreDigested tells image schema (g ∷ []) (rows ++ own) (xs ++ d ∷ [])) (sym none.1)
    (own, [], read, is, (refl, refl), ap (λ (xs : List (List Cell)). xs ++ own) none.0 ∙ sym (append-nil own))
push_digest tells image schema (x ∷ xs) g rows own [] d are read is = absurd are
push_digest tells image schema (x ∷ xs) g rows own (y ∷ ys) d (first, others, first_read, first_is, later, all) read is = (
  first,
  others ++ own,
  first_read,
  first_is,
  push_digest tells image schema xs g others own ys d later read is,
  ap (λ (zs : List (List Cell)). zs ++ own) all ∙ append_assoc first others own,
)

-- what was read of a segment, as it was shown before: the same bytes
abbrev earlier : (tells : Bool) (a b : Image) → (tells ≡ true → b ≡ a) → (schema : PlainSchema) (g : Segment) (rows : List (List Cell)) → HasRead tells b schema g rows
    → HasRead tells a schema g rows
earlier tells a b same schema g rows r = record { bytes = r.bytes; copy = copy_then tells a b same g r.bytes r.copy; means = r.means }

-- a segment after those before it, whatever image it was read from later
module _ (tells : Bool) (image other : Image) (same : tells ≡ true → other ≡ image) (s : PlainSchema) (segments : List Segment) (place : ℕ) (segment : Segment) (inside : place < length segments) (at : segment ≡ get_or segments place segment) where
  pub digested_step : (rows all : List (List Cell)) (ds new : List (List ℕ)) (d : List ℕ) → AreDigested tells image s (take place segments) rows ds
      → (next : ReadsNext tells other s rows segment all) → d ≡ sha256 next.read.bytes → new ≡ ds ++ d ∷ []
      → AreDigested tells image s (take (place + 1) segments) all new
  digested_step rows all ds new d so_far next is pushed =
      let own = next.own in
      let read : HasRead tells image s segment own = earlier tells image other same s segment own next.read in
      subst (AreDigested tells image s (take (place + 1) segments) all) (sym pushed)
      (subst (λ (gs : List Segment). AreDigested tells image s gs all (ds ++ d ∷ [])) (sym (take-item segments place segment inside at))
      (subst (λ (rs : List (List Cell)). AreDigested tells image s (take place segments ++ segment ∷ []) rs (ds ++ d ∷ [])) (sym next.is)
      (push_digest tells image s (take place segments) segment rows own ds d so_far read is)))

-- ---- one table more

push_table : (tells : Bool) (image : Image) (c : PlainCatalogue) (e : PlainEntry) (ds own : List (List ℕ)) → AllDigested tells image c ds
    → IsDigested tells image e own → AllDigested tells image (c ++ e ∷ []) (ds ++ own)
push_table tells image [] e ds own none one = (own, [], one, refl, ap (λ (xs : List (List ℕ)). xs ++ own) none ∙ sym (append-nil own))
push_table tells image (x ∷ xs) e ds own (first, others, first_is, later, all) one = (
  first,
  others ++ own,
  first_is,
  push_table tells image xs e others own later one,
  ap (λ (ys : List (List ℕ)). ys ++ own) all ∙ append_assoc first others own,
)

-- the tables so far, and the next one
entries_more : (es : List TableEntry) (i : ℕ) (e : TableEntry) → i < length es → e ≡ get_or es i e
    → map plain_entry (take (i + 1) es) ≡ map plain_entry (take i es) ++ plain_entry e ∷ []
entries_more es i e lt is =
    ap (map plain_entry) (take_more es i e lt ∙ ap (λ (x : TableEntry). take i es ++ x ∷ []) (sym is)) ∙ map-append plain_entry (take i es) (e ∷ [])

pub all_digested_more : (tells : Bool) (image : Image) (es : List TableEntry) (i : ℕ) (e : TableEntry) (ds new own : List (List ℕ)) → i < length es
    → e ≡ get_or es i e → AllDigested tells image (map plain_entry (take i es)) ds → IsDigested tells image (plain_entry e) own → new ≡ ds ++ own
    → AllDigested tells image (map plain_entry (take (i + 1) es)) new
all_digested_more tells image es i e ds new own lt is so_far one pushed =
    subst (AllDigested tells image (map plain_entry (take (i + 1) es))) (sym pushed)
    (subst (λ (c : PlainCatalogue). AllDigested tells image c (ds ++ own)) (sym (entries_more es i e lt is))
    (push_table tells image (map plain_entry (take i es)) (plain_entry e) ds own so_far one))

-- ---- what reads show stays

module _ (tells : Bool) (a b : Image) (same : tells ≡ true → b ≡ a) where
  digested_then : (schema : PlainSchema) (gs : List Segment) (rows : List (List Cell)) (ds : List (List ℕ)) → AreDigested tells b schema gs rows ds
      → AreDigested tells a schema gs rows ds
  digested_then schema [] rows ds none = none
  digested_then schema (g ∷ gs) rows [] are = absurd are
  digested_then schema (g ∷ gs) rows (d ∷ ds) (own, others, read, is, later, all) =
      (own, others, earlier tells a b same schema g own read, is, digested_then schema gs others ds later, all)

  pub is_digested_then : (e : PlainEntry) (ds : List (List ℕ)) → IsDigested tells b e ds → IsDigested tells a e ds
  is_digested_then e ds one = record {
    table = one.table;
    read = read_then tells a b same e one.table one.read;
    own = digested_then e.schema e.segments one.table.rows ds one.own;
  }

  pub unreads_then : (e : PlainEntry) (r : Refusal) → Unreads tells b e r → Unreads tells a e r
  unreads_then e refusals.Device u = tt
  unreads_then e refusals.OutOfMemory u = tt
  unreads_then e (refusals.SegmentUnread place) u = (u.0, λ told. subst (λ (i : Image). IsUnread i e place) (same told) (u.1 told))
  unreads_then e (refusals.SegmentDamaged place) u = (u.0, λ told. subst (λ (i : Image). IsDamaged i e place) (same told) (u.1 told))
  unreads_then e _ u = absurd u

-- ---- the first n tables

pub tables_more : (tells : Bool) (image : Image) (c : PlainCatalogue) (count : ℕ) (x : PlainEntry) → slice_get c count ≡ Some x → AreRead tells image c count → ((table : PlainTable) × IsRead tells image x table) → AreRead tells image c (count + 1)
tables_more tells image c count x at read next number e lt found =
    ⊎_elim (λ (less : number < count). read number e less found)
    (λ (is : number ≡ count).
    let both : Some x ≡ Some e = sym at ∙ ap (slice_get c) (sym is) ∙ found in
    let same : x ≡ e = cc both in
    subst (λ (y : PlainEntry). (table : PlainTable) × IsRead tells image y table) same next)
    (below_or_at number count lt)
