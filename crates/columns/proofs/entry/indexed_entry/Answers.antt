use Rattle.std.proofs.Common.{◌≡◌, true, List, map, ap, sym, ◌∙◌}
use Rattle.std.specs.Prelude.{ℤ, pos, not}
use Rattle.std.specs.List.{list_all}
use Rattle.arrow_schema.specs.View.{index_of}
use Rattle.columns.specs.Array.{Array, Arrays, array_list, dictionary_in}
use Rattle.columns.specs.CellAt.{entries_of_kind, entry_at, index_at}
use Rattle.columns.specs.Visible.{is_past}
use Rattle.columns.proofs.Entries.{named, unnamed_is_null, unnamed_is_past}
use Rattle.columns.specs.Sound.{is_kind_sound}
use Rattle.columns.specs.View.{array_in, no_dictionary, view_array}
use Rattle.columns.specs.laws.Places.{listed}
use Rattle.columns.proofs.entry.indexed_entry.Goals as goal

pub returns-in-None-clause-cell : goal.returns-in-None-clause-cell
returns-in-None-clause-cell c = λ kind.
    let z : ℤ = index_at (index_of c.args.spec) (view_array c.args.view) c.args.i in
    unnamed_is_null z (entries_of_kind kind (dictionary_in (view_array c.args.view))) (sym c.in-None.is ∙ c.index_number.ensures)

pub returns-in-None-clause-present : goal.returns-in-None-clause-present
returns-in-None-clause-present c = λ kind.
    let z : ℤ = index_at (index_of c.args.spec) (view_array c.args.view) c.args.i in
    unnamed_is_past z (entries_of_kind kind (dictionary_in (view_array c.args.view))) (sym c.in-None.is ∙ c.index_number.ensures)

pub returns-in-Some-clause-cell : goal.returns-in-Some-clause-cell
returns-in-Some-clause-cell c = λ kind.
    let z : ℤ = index_at (index_of c.args.spec) (view_array c.args.view) c.args.i in
    let number : z ≡ pos c.in-Some.number = named c.in-Some.number z (sym c.in-Some.is ∙ c.index_number.ensures) in
    c.entry_place.ensures.cell kind ∙ (λ j. entry_at (entries_of_kind kind (c.dictionary.ensures j)) (sym number j))

pub returns-in-Some-clause-present : goal.returns-in-Some-clause-present
returns-in-Some-clause-present c = λ kind.
    let z : ℤ = index_at (index_of c.args.spec) (view_array c.args.view) c.args.i in
    let number : z ≡ pos c.in-Some.number = named c.in-Some.number z (sym c.in-Some.is ∙ c.index_number.ensures) in
    c.entry_place.ensures.present kind ∙ (λ j. not (is_past (sym number j) (entries_of_kind kind (c.dictionary.ensures j))))

pub returns-in-Some-clause-sound : goal.returns-in-Some-clause-sound
returns-in-Some-clause-sound c = λ kind h.
    let arrays : List Array = map (array_in c.args.view.bytes.now no_dictionary) c.dictionary.result.arrays.now in
    let same : list_all (is_kind_sound kind) arrays ≡ true =
    ap (list_all (is_kind_sound kind)) (sym (listed arrays)) ∙ ap (λ (a : Arrays). list_all (is_kind_sound kind) (array_list a)) c.dictionary.ensures ∙ h in
    c.entry_place.ensures.sound kind same
