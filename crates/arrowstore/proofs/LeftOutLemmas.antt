-- What is reported of the segments that a salvage leaves out.
use Rattle.std.proofs.Common.{◌<◌, ◌≤◌, ◌+◌, ℕ, List, drop, length, get_or, sym, subst}
use Rattle.std.specs.Prelude.{Option}
use Rattle.std.specs.Io.KnownBytes.{Appends}
use Rattle.std.proofs.KnownBytes.{Appends-nil, Appends-trans}
use Rattle.std.proofs.lemmas.List.{drop_all, drop_more}
use Rattle.cli_reports.specs.LeftOut.{left_out_line, left_out_lines}
use Rattle.store.specs.Salvaging.{plain_left}
use Rattle.store.specs.declared.salvaging.LeftOut.{LeftOut}

-- where the lines of the rest follow, those of all have been written
abbrev pub ComesToAll : (start now : Option (List ℕ)) → (rest all : List LeftOut) → Type 0
ComesToAll start now rest all =
    (last : Option (List ℕ)) → Appends now last (left_out_lines (plain_left rest)) → Appends start last (left_out_lines (plain_left all))

pub one_more : (start now next : Option (List ℕ)) (xs : List LeftOut) (i : ℕ) (none : LeftOut) → i < length xs
    → Appends now next (left_out_line (get_or xs i none).place (get_or xs i none).rows) → ComesToAll start now (drop i xs) xs → ComesToAll start next (drop (i + 1) xs) xs
one_more start now next xs i none inside line so_far = λ last rest.
    let x = get_or xs i none in
    so_far last (subst (λ (ys : List LeftOut). Appends now last (left_out_lines (plain_left ys))) (sym (drop_more xs i none inside))
    (Appends-trans now next last (left_out_line x.place x.rows) (left_out_lines (plain_left (drop (i + 1) xs))) line rest))

pub none_left : (start now : Option (List ℕ)) (xs : List LeftOut) (i : ℕ) → length xs ≤ i → ComesToAll start now (drop i xs) xs → Appends start now (left_out_lines (plain_left xs))
none_left start now xs i all so_far =
    so_far now (subst (λ (ys : List LeftOut). Appends now now (left_out_lines (plain_left ys))) (sym (drop_all i xs all)) (Appends-nil now))
