use Rattle.std.proofs.Common.{Ok, refl, sym, ap, ◌∙◌}
use Rattle.arrow_schema.specs.Column.{columns_of}
use Rattle.columns.specs.Array.{Arrays}
use Rattle.columns.specs.CellAt.{rows_in}
use Rattle.columns.specs.Visible.{names_no_entry, is_no_text, is_forbidden}
use Rattle.arrays.specs.Checks.{are_too_heavy, batch_weight}
use Rattle.arrays.specs.inner.Read.{placed_in}
use Rattle.arrays.proofs.BatchRead.{same_columns}
use Rattle.arrays.proofs.RowWeights.{found_some, found_none}
use Rattle.arrays.proofs.batch.check_slots.Goals as goal

pub returns-then-names_no_entry_in : goal.returns-then-names_no_entry_in
returns-then-names_no_entry_in c = λ s same.
    let arrays : Arrays = placed_in c.args.placed in
    let index = c.if-names_no_entry_in.ensures ∙ same_columns names_no_entry s arrays c.args.rows _ same in
    rw (sym index) refl

pub returns-then-has_bad_text : goal.returns-then-has_bad_text
returns-then-has_bad_text c = λ s same.
    let arrays : Arrays = placed_in c.args.placed in
    let index = c.if-names_no_entry_in.ensures ∙ same_columns names_no_entry s arrays c.args.rows _ same in
    let text = c.if-has_bad_text.ensures ∙ same_columns is_no_text s arrays c.args.rows _ same in
    rw (sym index, sym text) refl

pub returns-then-has_forbidden_null : goal.returns-then-has_forbidden_null
returns-then-has_forbidden_null c = λ s same.
    let arrays : Arrays = placed_in c.args.placed in
    let index = c.if-names_no_entry_in.ensures ∙ same_columns names_no_entry s arrays c.args.rows _ same in
    let text = c.if-has_bad_text.ensures ∙ same_columns is_no_text s arrays c.args.rows _ same in
    let null = c.if-has_forbidden_null.ensures ∙ same_columns is_forbidden s arrays c.args.rows _ same in
    rw (sym index, sym text, sym null) refl

pub returns-in-Some : goal.returns-in-Some
returns-in-Some c = λ s same.
    let arrays : Arrays = placed_in c.args.placed in
    let index = c.if-names_no_entry_in.ensures ∙ same_columns names_no_entry s arrays c.args.rows _ same in
    let text = c.if-has_bad_text.ensures ∙ same_columns is_no_text s arrays c.args.rows _ same in
    let null = c.if-has_forbidden_null.ensures ∙ same_columns is_forbidden s arrays c.args.rows _ same in
    let light = found_some (are_too_heavy s c.args.before (rows_in (columns_of s.columns) arrays c.args.rows)) (batch_weight s c.args.rows arrays) c.in-Some.weight (c.in-Some.ensures s same) in
    rw (sym index, sym text, sym null, light.0) (ap Ok light.1)

pub returns-in-None : goal.returns-in-None
returns-in-None c = λ s same.
    let arrays : Arrays = placed_in c.args.placed in
    let index = c.if-names_no_entry_in.ensures ∙ same_columns names_no_entry s arrays c.args.rows _ same in
    let text = c.if-has_bad_text.ensures ∙ same_columns is_no_text s arrays c.args.rows _ same in
    let null = c.if-has_forbidden_null.ensures ∙ same_columns is_forbidden s arrays c.args.rows _ same in
    let heavy = found_none (are_too_heavy s c.args.before (rows_in (columns_of s.columns) arrays c.args.rows)) (batch_weight s c.args.rows arrays) (c.in-None.ensures s same) in
    rw (sym index, sym text, sym null, heavy) refl
