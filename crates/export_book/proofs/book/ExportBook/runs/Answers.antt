use Rattle.std.proofs.Common.{◌≡◌, ◌++◌, ◌∙◌, ◌<◌, ◌+◌, ℕ, List, [], ◌∷◌, map, take, length, get_or, append-nil, sym, ap, subst}
use Rattle.std.proofs.lemmas.Grind.{flat_map-append}
use Rattle.std.proofs.lemmas.List.{map-append, take_more}
use Rattle.segments.specs.declared.run.Run.{Run}
use Rattle.catalogue.specs.Entries.{plain_entry, runs_in_segments}
use Rattle.export_book.specs.declared.export.OpenExport.{OpenExport}
use Rattle.export_book.specs.Book.{runs_kept}
use Rattle.export_book.specs.Plain.{plain_export}
use Rattle.export_book.proofs.book.ExportBook.runs.Goals as goal

-- the runs of one more export
more_kept : (es : List OpenExport) (i : ℕ) (e : OpenExport) → i < length es → e ≡ get_or es i e
    → runs_kept (map plain_export (take (i + 1) es)) ≡ runs_kept (map plain_export (take i es)) ++ runs_in_segments (plain_entry e.entry).segments
more_kept es i e lt is =
    ap (λ (xs : List OpenExport). runs_kept (map plain_export xs)) (take_more es i e lt ∙ ap (λ (x : OpenExport). take i es ++ x ∷ []) (sym is))
    ∙ ap runs_kept (map-append plain_export (take i es) (e ∷ []))
    ∙ flat_map-append (λ (x : _). runs_in_segments x.segments) (map plain_export (take i es)) (plain_export e ∷ [])
    ∙ ap (λ (rs : List Run). runs_kept (map plain_export (take i es)) ++ rs) (append-nil (runs_in_segments (plain_entry e.entry).segments))

pub loop-export-preserved : goal.loop-export-preserved
loop-export-preserved c =
    let e = c.export-item.result in
    let lt = subst (λ (xs : List OpenExport). c.loop-export.export-index < length xs) c.deref-export-items.ensures.value c.loop-export-test.true in
    let is = subst (λ (xs : List OpenExport). e ≡ get_or xs c.loop-export.export-index e) c.deref-export-items.ensures.value c.export-item.is in
    c.in_ok-extend_from_slice.ensures.items ∙ ap (λ (rs : List Run). c.loop-export.runs.items ++ rs) (c.deref.ensures.value ∙ e.listed)
    ∙ ap (λ (rs : List Run). rs ++ runs_in_segments (plain_entry e.entry).segments) c.loop-export.invariant
    ∙ sym (more_kept c.args.self.now.exports.items c.loop-export.export-index e lt is)
