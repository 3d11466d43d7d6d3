-- The node and the validity bitmap of entries, none of which is null.
use Rattle.std.specs.List.{list_all}
use Rattle.std.proofs.Common.{◌≡◌, ℕ, true, List, [], ◌∷◌, map, length, refl, ap, sym, ◌∙◌}
use Rattle.std.proofs.lemmas.List.{length-map}
use Rattle.batch_build.specs.Batch.{PlainBatch}
use Rattle.batch_build.specs.Nodes.{with_slots, with_validity}
use Rattle.cells.specs.Entry.{entry_cell}
use Rattle.cells.specs.Nulls.{is_there}
use Rattle.cells.specs.declared.entry.Entry.{Entry}
use Rattle.cells.specs.declared.entry.Entry.TheVariants as entries
use Rattle.columns.specs.Built.{validity_of}

is_entry_there : (e : Entry) → is_there (entry_cell e) ≡ true
is_entry_there (entries.Bool b) = refl
is_entry_there (entries.Int n) = refl
is_entry_there (entries.Text t) = refl
is_entry_there (entries.Bytes t) = refl

all_there : (es : List Entry) → list_all is_there (map entry_cell es) ≡ true
all_there [] = refl
all_there (e ∷ es) = rw (is_entry_there e) (all_there es)

no_byte : (es : List Entry) → validity_of (map entry_cell es) ≡ []
no_byte es = rw (all_there es) refl

pub entry_slots : (p : PlainBatch) (es : List Entry) → with_validity p (length es) [] ≡ with_slots p (map entry_cell es)
entry_slots p es =
    ap (λ (n : ℕ). with_validity p n []) (sym (length-map es entry_cell))
    ∙ ap (with_validity p (length (map entry_cell es))) (sym (no_byte es))
