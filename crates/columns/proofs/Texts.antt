-- Texts of cells.
use Rattle.std.specs.Prelude.{IsUtf8}
use Rattle.std.specs.Str.{is_utf8}
use Rattle.std.proofs.Common.{◌≡◌, ℕ, zero, suc, ◌+◌, ◌<◌, true, List, arith}
use Rattle.std.proofs.lemmas.Bool.{and_parts}
use Rattle.std.proofs.lemmas.Str.{IsUtf8-from_is_utf8}
use Rattle.cells.specs.Cell.{Cell, cells_of}
use Rattle.columns.specs.CellAt.{cells_from}
use Rattle.columns.specs.Texts.{has_utf8_texts, have_utf8_texts}

pub is_text : (bs : List ℕ) → is_utf8 bs ≡ true → IsUtf8 bs
is_text bs h = IsUtf8-from_is_utf8 bs h

-- of each of some cells
pub text_at : (f : ℕ → Cell) (start n i : ℕ) → have_utf8_texts (cells_of (cells_from f start n)) ≡ true → i < n → has_utf8_texts (f (start + i)) ≡ true
unfolding have_utf8_texts
text_at f start zero i h lt = absurd (omega arith)
text_at f start (suc n) zero h lt =
    let e : start + 0 ≡ start = omega arith in
    rw e (and_parts (has_utf8_texts (f start)) (have_utf8_texts (cells_of (cells_from f (start + 1) n))) h).0
text_at f start (suc n) (suc i) h lt =
    let e : start + suc i ≡ start + 1 + i = omega arith in
    rw e (text_at f (start + 1) n i (and_parts (has_utf8_texts (f start)) (have_utf8_texts (cells_of (cells_from f (start + 1) n))) h).1 (omega arith))
