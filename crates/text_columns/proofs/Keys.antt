-- Cells that come after others by their bytes.
use Rattle.std.specs.Global.{Vec}
use Rattle.std.proofs.Common.{◌≡◌, ℕ, ◌+◌, List, [], ◌∷◌, ◌++◌, length, ap, ◌∙◌}
use Rattle.byteorder.specs.Endian.{little_bytes}
use Rattle.arrow_schema.specs.Column.{texts, large_texts, binaries, large_binaries}
use Rattle.cells.specs.Cell.{Cell}
use Rattle.columns.specs.Built.{contents_of}
use Rattle.columns.specs.Offsets.{width_of}
use Rattle.columns.specs.declared.numbers.OffsetWidth.{OffsetWidth}
use Rattle.text_columns.specs.declared.column_values.ColumnValues.TheVariants.{Texts, Binaries}
use Rattle.text_columns.specs.inner.Kept.{HoldContents, TakesKey}
use Rattle.text_columns.proofs.Taken.{contents_hold}

extended : (width : OffsetWidth) (key : List ℕ) (cells : List Cell) (c : Cell) (offsets contents newer longer : List ℕ) → HoldContents width cells offsets contents → key ≡ contents_of c
    → longer ≡ contents ++ key → newer ≡ offsets ++ little_bytes (width_of width) (length contents + length key) → HoldContents width (cells ++ c ∷ []) newer longer
extended width key cells c offsets contents newer longer h e more end =
    contents_hold width cells c offsets contents newer longer h (more ∙ ap (λ (xs : List ℕ). contents ++ xs) e)
    (end ∙ ap (λ (xs : List ℕ). offsets ++ little_bytes (width_of width) (length contents + length xs)) e)

pub texts_key : (width : OffsetWidth) (key : List ℕ) (offsets contents newer longer : Vec ℕ) → longer.items ≡ contents.items ++ key
    → newer.items ≡ offsets.items ++ little_bytes (width_of width) (length contents.items + length key) → TakesKey key (Texts width offsets contents) (Texts width newer longer)
texts_key width key offsets contents newer longer more end texts cells c t e =
    record { kind_is = t.kind_is; holds = extended width key cells c offsets.items contents.items newer.items longer.items t.holds e more end }
texts_key width key offsets contents newer longer more end large_texts cells c t e =
    record { kind_is = t.kind_is; holds = extended width key cells c offsets.items contents.items newer.items longer.items t.holds e more end }
texts_key width key offsets contents newer longer more end _ cells c t e = absurd t.kind_is

pub binaries_key : (width : OffsetWidth) (key : List ℕ) (offsets contents newer longer : Vec ℕ) → longer.items ≡ contents.items ++ key
    → newer.items ≡ offsets.items ++ little_bytes (width_of width) (length contents.items + length key) → TakesKey key (Binaries width offsets contents) (Binaries width newer longer)
binaries_key width key offsets contents newer longer more end binaries cells c t e =
    record { kind_is = t.kind_is; holds = extended width key cells c offsets.items contents.items newer.items longer.items t.holds e more end }
binaries_key width key offsets contents newer longer more end large_binaries cells c t e =
    record { kind_is = t.kind_is; holds = extended width key cells c offsets.items contents.items newer.items longer.items t.holds e more end }
binaries_key width key offsets contents newer longer more end _ cells c t e = absurd t.kind_is
