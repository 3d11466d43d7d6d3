-- How many segments there are after each edit, and what the catalogue's own calls ask for.
use Rattle.std.proofs.Common.{◌≡◌, ◌≤◌, ◌+◌, ◌-◌, ℕ, true, List, length, Some, refl, sym, ap, ◌∙◌, subst, arith}
use Rattle.std.specs.Prelude.{String, string_bytes}
use Rattle.std.specs.Global.{Global, Vec}
use Rattle.std.specs.List.{list_all}
use Rattle.arrow_schema.specs.declared.types.Schema.{Schema}
use Rattle.arrow_schema.specs.View.{schema_of}
use Rattle.catalogue.specs.declared.limits.TheConstants.{MAX_SEGMENTS}
use Rattle.catalogue.specs.declared.entry.Segment.{Segment}
use Rattle.catalogue.specs.Entries.{PlainEntry, PlainCatalogue, is_segment, is_entry, segment_count, IsCatalogue}
use Rattle.catalogue.specs.Edits.{entry_of}
use Rattle.catalogue.specs.View.{catalogue_of}
use Rattle.catalogue.specs.declared.catalogue.Catalogue.{Catalogue}
use Rattle.segments.specs.declared.run.Run.{Run}
use Rattle.store_changes.specs.laws.Filled.{filled_count}
use Rattle.catalogue.specs.laws.Digests.{digested_count}
use Rattle.catalogue.specs.laws.Kept.{entry_stands}
use Rattle.store_changes.specs.declared.change.Edit.{Edit}
use Rattle.store_changes.specs.declared.change.Edit.TheVariants as edits
use Rattle.store_runs.specs.Changes.{PlainEdit, put, exchange, new_entry, page_instead, edited, name_edited, IsEdit}
use Rattle.store_changes.specs.Change.{edit_of}
use Rattle.store_changes.specs.Prepared.{CanGive}
use Rattle.store_changes.specs.laws.Edited.{segments_at, instead_sound, put_count, more_count, moved_count, removed_count, exchange_count, at_found, segments_within}

abbrev pub CanEdit : PlainCatalogue → Edit → Type 0
CanEdit c edit = (streams : List (List ℕ)) × IsEdit c (edit_of edit) streams

abbrev pub count_after : PlainCatalogue → Edit → List Segment → ℕ
count_after c edit segments = segment_count (edited c (edit_of edit) segments)

pub after_put : (c : PlainCatalogue) (edit : Edit) (name : String Global) (schema : Schema) (new : ℕ) → edit ≡ edits.Put name schema → IsCatalogue c → (segments : List Segment) → length segments ≡ new
    → segment_count c - segments_at c (string_bytes name) + new ≡ count_after c edit segments
after_put c edit name schema new is k segments len =
    let after = ap (λ (x : Edit). count_after c x segments) is in
    omega (arith, after, len, put_count c (new_entry (string_bytes name) (schema_of schema) segments (page_instead (entry_of c (string_bytes name)) (schema_of schema) segments)) k, segments_within c (string_bytes name))

pub after_extend : (c : PlainCatalogue) (edit : Edit) (name : String Global) (new : ℕ) → edit ≡ edits.Extend name → CanEdit c edit → (segments : List Segment) → length segments ≡ new → segment_count c + new ≡ count_after c edit segments
after_extend c edit name new is can segments len =
    let after = ap (λ (x : Edit). count_after c x segments) is in
    let has = (subst (λ (x : Edit). CanEdit c x) is can).1 in
    omega (arith, after, len, more_count c (string_bytes name) has.0 segments has.1)

pub after_move : (c : PlainCatalogue) (edit : Edit) (from to : String Global) → edit ≡ edits.Move from to → CanEdit c edit → (segments : List Segment) → segment_count c ≡ count_after c edit segments
after_move c edit from to is can segments =
    let after = ap (λ (x : Edit). count_after c x segments) is in
    let has = (subst (λ (x : Edit). CanEdit c x) is can).1 in
    omega (arith, after, moved_count c (string_bytes from) (string_bytes to) has.2.0 has.2.1 has.1)

pub after_remove : (c : PlainCatalogue) (edit : Edit) (name : String Global) → edit ≡ edits.Remove name → CanEdit c edit → (segments : List Segment) → segment_count c - segments_at c (string_bytes name) ≡ count_after c edit segments
after_remove c edit name is can segments =
    let after = ap (λ (x : Edit). count_after c x segments) is in
    let has = (subst (λ (x : Edit). CanEdit c x) is can).1.0 in
    omega (arith, after, removed_count c (string_bytes name) has.0 has.1)

-- of the table there are as many segments as are exchanged
pub exchange_fits : (c : PlainCatalogue) (edit : Edit) (name : String Global) (place count : ℕ) → edit ≡ edits.Exchange name place count → CanEdit c edit → count ≤ segment_count c
exchange_fits c edit name place count is can =
    let has = (subst (λ (x : Edit). CanEdit c x) is can).1 in
    let within = has.2 in
    omega (arith, within, at_found c (string_bytes name) has.0 has.1, segments_within c (string_bytes name))

pub after_exchange : (c : PlainCatalogue) (edit : Edit) (name : String Global) (place count new : ℕ) → edit ≡ edits.Exchange name place count → CanEdit c edit → (segments : List Segment) → length segments ≡ new
    → segment_count c - count + new ≡ count_after c edit segments
after_exchange c edit name place count new is can segments len =
    let after = ap (λ (x : Edit). count_after c x segments) is in
    let has = (subst (λ (x : Edit). CanEdit c x) is can).1 in
    omega (arith, after, len, exchange_count c (string_bytes name) place count has.0 segments has.1 has.2, exchange_fits c edit name place count is can)

pub after_digest : (c : PlainCatalogue) (edit : Edit) (digests : Vec (List ℕ)) → edit ≡ edits.Digest digests → (segments : List Segment) → segment_count c ≡ count_after c edit segments
after_digest c edit digests is segments = let after = ap (λ (x : Edit). count_after c x segments) is in omega (arith, after, digested_count c digests.items)

pub after_rebuild : (c : PlainCatalogue) (edit : Edit) (old made : Catalogue) (from new : ℕ) (gone : Vec Run) → edit ≡ edits.Rebuild old from made gone
    → ((streams : List (List ℕ)) × IsEdit c (edit_of edit) streams × (length streams ≡ new)) → (segments : List Segment) → length segments ≡ new
    → segment_count (catalogue_of made) ≡ count_after c edit segments
after_rebuild c edit old made from new gone is can segments len =
    let after = ap (λ (x : Edit). count_after c x segments) is in
    let own = subst (λ (x : Edit). (streams : List (List ℕ)) × IsEdit c (edit_of x) streams × (length streams ≡ new)) is can in
    let many = own.1.new in
    let given = own.2 in
    omega (arith, after, filled_count from (catalogue_of made) segments (omega (arith, len, many, given)))

-- ---- what the catalogue's own calls ask for

pub put_is_entry : (c : PlainCatalogue) (edit : Edit) (name : String Global) (schema : Schema) (segments : List Segment) → edit ≡ edits.Put name schema → CanEdit c edit → IsCatalogue c → list_all is_segment segments ≡ true
    → is_entry (new_entry (string_bytes name) (schema_of schema) segments (page_instead (entry_of c (string_bytes name)) (schema_of schema) segments)) ≡ true
put_is_entry c edit name schema segments is can k each =
    let may = (subst (λ (x : Edit). CanEdit c x) is can).1 in
    let page = page_instead (entry_of c (string_bytes name)) (schema_of schema) segments in
    entry_stands (new_entry (string_bytes name) (schema_of schema) segments page) may.0 may.1 each (instead_sound c (string_bytes name) (schema_of schema) segments k)

pub extend_is_few : (c : PlainCatalogue) (edit : Edit) (name : String Global) (segments : List Segment) → edit ≡ edits.Extend name → CanEdit c edit → IsCatalogue (edited c (edit_of edit) segments) → segment_count c + length segments ≤ MAX_SEGMENTS
extend_is_few c edit name segments is can stands =
    let most = stands.segments in
    let count = after_extend c edit name (length segments) is can segments refl in
    omega (arith, most, count)

-- what is taken out of the entry that is found
pub can_give : (c : PlainCatalogue) (edit : PlainEdit) (streams : List (List ℕ)) (name : List ℕ) (e : PlainEntry) → IsEdit c edit streams → name_edited edit ≡ Some name → entry_of c name ≡ Some e → CanGive edit e
can_give c (put name schema) streams other e can named found = can.1
can_give c (exchange name place count) streams other e can named found =
    let own : name ≡ other = cc named in
    let both : Some can.0 ≡ Some e = sym can.1 ∙ ap (entry_of c) own ∙ found in
    let same : can.0 ≡ e = cc both in
    subst (λ (x : PlainEntry). place + count ≤ length x.segments) same can.2
can_give c _ streams other e can named found = tt
