use Rattle.std.specs.Prelude.{◌≢◌}
use Rattle.std.proofs.Common.{◌≡◌, ◌∷◌, [], ℕ, List, None, Ok, Err, inl, inr, sym, ap, ◌∙◌, subst, string_bytes}
use Rattle.tables.specs.declared.refusal.Refusal.TheVariants.{Halted, OutOfMemory}
use Rattle.facts.specs.Checks.{first_some}
use Rattle.sector_dev.specs.Disk.{now, shown_image}
use Rattle.arrow_schema.specs.View.{schema_of}
use Rattle.catalogue.specs.Entries.{PlainCatalogue, PlainEntry, plain_entry}
use Rattle.catalogue.specs.View.{catalogue_of}
use Rattle.commit.specs.Placing.{AreShort}
use Rattle.ipc_message.specs.laws.Accepted.{first_none}
use Rattle.query.specs.View.{query_in}
use Rattle.selection.specs.SelectionBuilder.{SelectsOf, builder_in, table_built}
use Rattle.store_runs.specs.Changes.{PlainChange, IsChange}
use Rattle.store_changes.specs.Change.{change_of}
use Rattle.tables.specs.declared.refusal.Refusal.{Refusal}
use Rattle.store_runs.specs.Deciding.{create_tests, unselected}
use Rattle.store_runs.specs.Reading.{Unreads}
use Rattle.store_changes.specs.laws.ReadTables.{reads_quiet}
use Rattle.store.proofs.Selected.{tested_on, refused_first, not_read, selected, built_selected, decided_built}
use Rattle.store_changes.specs.laws.Tested.{Counts, create_names, table_is_change}
use Rattle.store.proofs.saving.save_from_entry.Goals as goal

memory_on : OutOfMemory ≢ Halted
memory_on is = cc is

pub take_entry-requires-clause-takes : goal.take_entry-requires-clause-takes
take_entry-requires-clause-takes g c = subst (SelectsOf (builder_in c.in-Ok.builder)) c.schema.ensures c.in-Ok.ensures.selects.tables

pub put_selection-requires : goal.put_selection-requires
put_selection-requires g c =
    let found = c.in-Ok-take_entry.ensures.taken in
    let query = query_in c.args.query.now in
    let selected = builder_in c.in-Ok-take_entry.selected in
    c.selection_is_a_table.ensures found.0 query (table_built selected) found.1.kept
    (built_selected (builder_in c.in-Ok.builder) selected (schema_of c.schema.result.now) query found.0 c.in-Ok.ensures.selects (c.schema.ensures ∙ sym found.1.schema) found.2)

pub returns-in-Err-clause-reads : goal.returns-in-Err-clause-reads
returns-in-Err-clause-reads g c =
    let D = g.D.SegmentSource in reads_quiet D.size D.story D.failed D.tells _ c.args.device.now c.in-Err.ensures.no_device

pub returns-in-Ok-put_selection-clause-ok : goal.returns-in-Ok-put_selection-clause-ok
returns-in-Ok-put_selection-clause-ok g c =
    let listed : PlainCatalogue = catalogue_of c.args.catalogue.now in
    let to : List ℕ = string_bytes c.args.to in
    let counts : Counts listed = record { more = c.counts_after_changes.ensures.put listed; same = c.counts_after_changes.ensures.replaced listed } in
    let schema = (plain_entry c.args.entry.now).schema in
    let query = query_in c.args.query.now in
    let tested : first_some (unselected schema query ∷ create_tests listed to ∷ []) ≡ None = sym (λ i. first_some (unselected (c.schema.ensures i) query ∷ create_tests listed (c.deref.ensures i) ∷ [])) ∙ c.in-Ok.ensures.ok in
    let one = first_none (unselected schema query) (create_tests listed to ∷ []) tested in
    let names = create_names listed to (first_none (create_tests listed to) [] one.1).0 in
    let found = c.in-Ok-take_entry.ensures.taken in
    let selected = builder_in c.in-Ok-take_entry.selected in
    let table = table_built selected in
    let kept = c.selection_is_a_table.ensures found.0 query table found.1.kept
    (built_selected (builder_in c.in-Ok.builder) selected (schema_of c.schema.result.now) query found.0 c.in-Ok.ensures.selects (c.schema.ensures ∙ sym found.1.schema) found.2) in
    let put = c.in-Ok-put_selection.ensures in
    λ short.
    subst (IsChange listed) (sym put)
    (table_is_change listed to table counts c.in-Ok.ensures.kept names.named names.room kept.schema (c.pieces_are_tables.ensures.each table kept)
    (subst (λ (x : PlainChange). AreShort x.streams) put short))

pub returns-in-Ok-put_selection-clause-answers : goal.returns-in-Ok-put_selection-clause-answers
returns-in-Ok-put_selection-clause-answers g c =
    let D = g.D.SegmentSource in
    let listed : PlainCatalogue = catalogue_of c.args.catalogue.now in
    let to : List ℕ = string_bytes c.args.to in
    let e : PlainEntry = plain_entry c.args.entry.now in
    let query = query_in c.args.query.now in
    let tested : first_some (unselected e.schema query ∷ create_tests listed to ∷ []) ≡ None = sym (λ i. first_some (unselected (c.schema.ensures i) query ∷ create_tests listed (c.deref.ensures i) ∷ [])) ∙ c.in-Ok.ensures.ok in
    let found = c.in-Ok-take_entry.ensures.taken in
    let built = builder_in c.in-Ok-take_entry.selected in
    let made = built_selected (builder_in c.in-Ok.builder) built (schema_of c.schema.result.now) query found.0 c.in-Ok.ensures.selects (c.schema.ensures ∙ sym found.1.schema) found.2 in
    selected listed to query e D.tells (shown_image (now (D.story c.args.device.now))) found.0 (Ok (change_of c.in-Ok-put_selection.change)) tested found.1
    (decided_built to query found.0 (table_built built) (change_of c.in-Ok-put_selection.change) made c.in-Ok-put_selection.ensures)

pub returns-in-Err-take_entry-clause-reads : goal.returns-in-Err-take_entry-clause-reads
returns-in-Err-take_entry-clause-reads g c = c.in-Err-take_entry.ensures.reads

pub returns-in-Err-take_entry-clause-answers : goal.returns-in-Err-take_entry-clause-answers
returns-in-Err-take_entry-clause-answers g c =
    let D = g.D.SegmentSource in
    let listed : PlainCatalogue = catalogue_of c.args.catalogue.now in
    let to : List ℕ = string_bytes c.args.to in
    let e : PlainEntry = plain_entry c.args.entry.now in
    let query = query_in c.args.query.now in
    let tested : first_some (unselected e.schema query ∷ create_tests listed to ∷ []) ≡ None = sym (λ i. first_some (unselected (c.schema.ensures i) query ∷ create_tests listed (c.deref.ensures i) ∷ [])) ∙ c.in-Ok.ensures.ok in
    not_read listed to query e D.tells (shown_image (now (D.story c.args.device.now))) c.in-Err-take_entry.refusal tested c.in-Err-take_entry.ensures.unread

pub returns-in-Err-take_entry-clause-not_halted : goal.returns-in-Err-take_entry-clause-not_halted
returns-in-Err-take_entry-clause-not_halted g c = λ is.
    let D = g.D.SegmentSource in
    subst (λ (r : Refusal). Unreads D.tells (shown_image (now (D.story c.args.device.now))) (plain_entry c.args.entry.now) r) is c.in-Err-take_entry.ensures.unread

pub returns-in-Err-clause-answers : goal.returns-in-Err-clause-answers
returns-in-Err-clause-answers g c =
    let D = g.D.SegmentSource in
    let listed : PlainCatalogue = catalogue_of c.args.catalogue.now in
    let to : List ℕ = string_bytes c.args.to in
    let e : PlainEntry = plain_entry c.args.entry.now in
    let query = query_in c.args.query.now in
    let same : first_some (unselected e.schema query ∷ create_tests listed to ∷ []) ≡ first_some (unselected (schema_of c.schema.result.now) query ∷ create_tests listed c.deref.result.now ∷ []) = sym (λ i. first_some (unselected (c.schema.ensures i) query ∷ create_tests listed (c.deref.ensures i) ∷ [])) in
    elim c.in-Err.ensures.err [ inl memory ↦ inl (ap Err memory) | inr told ↦ refused_first listed to query e D.tells (shown_image (now (D.story c.args.device.now))) c.in-Err.refusal (same ∙ told) ]

pub returns-in-Err-clause-not_halted : goal.returns-in-Err-clause-not_halted
returns-in-Err-clause-not_halted g c = λ is.
    let listed : PlainCatalogue = catalogue_of c.args.catalogue.now in
    let to : List ℕ = string_bytes c.args.to in
    let e : PlainEntry = plain_entry c.args.entry.now in
    let query = query_in c.args.query.now in
    let same : first_some (unselected e.schema query ∷ create_tests listed to ∷ []) ≡ first_some (unselected (schema_of c.schema.result.now) query ∷ create_tests listed c.deref.result.now ∷ []) = sym (λ i. first_some (unselected (c.schema.ensures i) query ∷ create_tests listed (c.deref.ensures i) ∷ [])) in
    elim c.in-Err.ensures.err as (λ _. ⊥) [ inl memory ↦ memory_on (sym memory ∙ is) | inr told ↦ tested_on listed to query e c.in-Err.refusal (same ∙ told) is ]
