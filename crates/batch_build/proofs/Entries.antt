-- The place of an entry of the code is that of its cell.
use Rattle.std.proofs.Common.{◌≡◌, ◌+◌, Bool, false, List, [], ◌∷◌, map, refl, ap, sym, ◌∙◌}
use Rattle.std.specs.Prelude.{ℕ, Option, Some, None, position}
use Rattle.std.specs.List.{position_from}
use Rattle.std.proofs.lemmas.Iterator.Adapters.{position_from-zero}
use Rattle.facts.specs.laws.Lists.{nowhere_from}
use Rattle.cells.specs.declared.entry.Entry.{Entry}
use Rattle.cells.specs.Cell.{Cell, null, boolean, number, text, bytes, items, parts}
use Rattle.cells.specs.Entry.{entry_cell}
use Rattle.cells.specs.laws.EntryEquality.{entry_eq, entry_eq_is}
use Rattle.cells.specs.Dictionary.{is_entry, entry_in}
use Rattle.columns.specs.Built.{entry_index, place_or_zero}

place_from : (e : Entry) (es : List Entry) (i : ℕ) → position_from (is_entry (entry_cell e)) i (map entry_cell es) ≡ position_from (entry_eq e) i es
place_from e [] i = refl
place_from e (x ∷ xs) i = rw (entry_eq_is e x, place_from e xs (i + 1)) refl

-- the place of an entry is that of its cell
pub place_is : (e : Entry) (es : List Entry) → position (entry_eq e) es ≡ position (is_entry (entry_cell e)) (map entry_cell es)
place_is e es = position_from-zero (entry_eq e) es ∙ sym (place_from e es 0) ∙ sym (position_from-zero (is_entry (entry_cell e)) (map entry_cell es))

nowhere : (test : Cell → Bool) (cells : List Cell) → ((c : Cell) → test c ≡ false) → 0 ≡ place_or_zero (position test cells)
nowhere test cells never = sym (ap place_or_zero (position_from-zero test cells ∙ nowhere_from test cells 0 never))

-- the index of what an entry would be: 0 where there is none
abbrev pub place_among : List Cell → Option Cell → ℕ
place_among entries None = 0
place_among entries (Some e) = place_or_zero (position (is_entry e) entries)

pub index_is : (entries : List Cell) (c : Cell) → place_among entries (entry_in c) ≡ entry_index entries c
index_is entries null = nowhere (is_entry null) entries (λ c. refl)
index_is entries (boolean b) = refl
index_is entries (number n) = refl
index_is entries (text t) = refl
index_is entries (bytes b) = refl
index_is entries (items cs) = nowhere (is_entry (items cs)) entries (λ c. refl)
index_is entries (parts cs) = nowhere (is_entry (parts cs)) entries (λ c. refl)
