-- What is written of a catalogue has its sizes, and is read again.
use Rattle.std.proofs.Common.{◌≡◌, ◌≤◌, ℕ, Bool, true, false, List, [], ◌∷◌, length, map, Some, Ok, refl, subst, ◌∙◌, arith}
use Rattle.std.specs.Prelude.{if◌then◌else◌}
use Rattle.std.specs.List.{list_all, AllByRecursion}
use Rattle.std.proofs.lemmas.Bool.{and_parts}
use Rattle.std.proofs.lemmas.List.Sums.{sum_by-cons}
use Rattle.sector_dev.specs.Disk.{Image}
use Rattle.segments.specs.declared.run.Run.{Run}
use Rattle.segments.specs.Pieces.{PlainPiece}
use Rattle.segments.specs.Runs.{OutOf}
use Rattle.segments.specs.Writing.{runs_of, HoldsEach}
use Rattle.catalogue.specs.declared.entry.SegmentForm.{SegmentForm}
use Rattle.catalogue.specs.declared.limits.TheConstants.{MAX_SEGMENTS}
use Rattle.catalogue.specs.Entries.{PlainEntry, PlainCatalogue, PlainRoot, bare, is_entry, segment_count, IsCatalogue, IsTable, IsRoot, has_digests, has_form}
use Rattle.catalogue.specs.Text.{table_text, table_size, list_text, list_size, root_text, root_size}
use Rattle.catalogue.specs.Reading.{catalogue_at, root_at, page_at}
use Rattle.catalogue.specs.laws.Kept.{entry_is, passes_limits, passes_catalogue}
use Rattle.pages.specs.Stored.{by_kind, HoldsPages}
use Rattle.pages.specs.Paging.{is_whole, kind_of, pageless, page_sizes, root_bytes, text_size, with_pages, AreRunsOf, ArePageRuns, settled, page_texts, root_of, settled_text}
use Rattle.pages.specs.laws.Stands.{root_stands, root_length}
use Rattle.pages.specs.laws.Written.{IsRead, IsFree}
use Rattle.pages.specs.laws.Made.{GoesTo, settled_is_read}

module _ (size : (e : PlainEntry) → length (table_text e) ≡ table_size e) where
  lengths : (es : List PlainEntry) → map (λ (text : List ℕ). length text) (map table_text es) ≡ map table_size es
  lengths [] = refl
  lengths (e ∷ es) = λ i. size e i ∷ lengths es i

  pub texts_sized : (c : PlainCatalogue) → map (λ (text : List ℕ). length text) (page_texts c) ≡ page_sizes c
  texts_sized c = by_whole (is_whole c)
    where
      by_whole : (t : Bool) → map (λ (text : List ℕ). length text) (if t then [] else map table_text (pageless c)) ≡ (if t then [] else map table_size (pageless c))
      by_whole true = refl
      by_whole false = lengths (pageless c)

pub text_sized : ((c : PlainCatalogue) → length (list_text c) ≡ list_size c) → ((rs : List PlainRoot) → length (root_text rs) ≡ root_size rs) → (c : PlainCatalogue) (runs : List Run) → ArePageRuns c runs → length (settled_text c runs) ≡ text_size c
text_sized lists roots c runs are = by_whole (is_whole c) are
  where
    by_whole : (t : Bool) → AreRunsOf t c runs → length (if t then list_text c else root_text (root_of (with_pages c runs))) ≡ (if t then list_size c else root_bytes c)
    by_whole true none = lists c
    by_whole false filled = roots (root_of (with_pages c runs)) ∙ root_length c runs filled

-- each table is read again from its page
tables_are : (form : SegmentForm) (again : (most : ℕ) (e : PlainEntry) → IsTable e → has_digests form e.segments ≡ true → length e.segments ≤ most → page_at form most (table_text e) ≡ Some (e.schema, e.segments)) → ((e : PlainEntry) → length (table_text e) ≡ table_size e)
    → (c : PlainCatalogue) → list_all is_entry c ≡ true → has_form form c ≡ true → segment_count c ≤ MAX_SEGMENTS → AllByRecursion (IsRead form) c
tables_are form again size [] all has few = tt
tables_are form again size (e ∷ es) all has few =
    let parts = and_parts (is_entry e) (list_all is_entry es) all in
    let own = and_parts (has_digests form e.segments) (has_form form es) has in
    let s = entry_is e parts.0 in
    let count = sum_by-cons (λ (x : PlainEntry). length x.segments) e es in (
      record {
        again = again (length e.segments) e (record { schema = passes_limits e.schema s.schema; segments = s.segments; few = omega (arith, few, count) }) own.0 (omega arith);
        size = size e;
      },
      tables_are form again size es parts.1 own.1 (omega (arith, few, count)),
    )

pub kept_is_read : ((form : SegmentForm) (c : PlainCatalogue) → IsCatalogue c → has_form form c ≡ true → catalogue_at form (list_text c) ≡ Some (map bare c)) → ((rs : List PlainRoot) → IsRoot rs → root_at (root_text rs) ≡ Some rs)
    → ((form : SegmentForm) (most : ℕ) (e : PlainEntry) → IsTable e → has_digests form e.segments ≡ true → length e.segments ≤ most → page_at form most (table_text e) ≡ Some (e.schema, e.segments)) → ((e : PlainEntry) → length (table_text e) ≡ table_size e)
    → (form : SegmentForm) (size : ℕ) (before image : Image) (pieces : List PlainPiece) → HoldsEach image pieces → ((n : ℕ) → 2 ≤ n → OutOf (runs_of pieces) n → image n ≡ before n)
    → (c : PlainCatalogue) (runs : List Run) → IsCatalogue c → has_form form c ≡ true → ArePageRuns c runs → GoesTo size pieces c runs → HoldsPages form size before c → AllByRecursion (IsFree pieces) c
    → by_kind (kind_of c) form size image (settled_text c runs) ≡ Ok (settled c runs)
kept_is_read lists roots pages sizes form size before image pieces holds same c runs k has are goes held free =
    settled_is_read form size before image pieces holds same c runs
    (record {
      list = lists form c k has;
      root = λ long. roots (root_of (with_pages c runs)) (root_stands c runs (subst (λ (t : Bool). AreRunsOf t c runs) long are) (passes_catalogue c k));
      each = tables_are form (pages form) sizes c k.entries has k.segments;
      few = k.segments;
    })
    goes held free
