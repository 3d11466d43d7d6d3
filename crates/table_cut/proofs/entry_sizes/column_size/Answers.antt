use Rattle.std.specs.Prelude.{Some, not, option_map}
use Rattle.std.specs.List.{list_all}
use Rattle.std.proofs.Common.{◌≡◌, ℕ, true, ap, sym, subst, ◌∙◌}
use Rattle.std.proofs.lemmas.Option.{IfSome_then}
use Rattle.arrow_schema.specs.View.{kind_of}
use Rattle.columns.specs.Array.{Array, array_list, dictionary_in}
use Rattle.columns.specs.Offsets.{contents_width, width_of}
use Rattle.columns.specs.Tests.{are_few_offsets}
use Rattle.table_cut.specs.inner.Columns.{array_at}
use Rattle.table_cut.specs.inner.EntrySizes.{IsSizeOf}
use Rattle.table_cut.proofs.Bounds.{enough_offsets}
use Rattle.table_cut.proofs.entry_sizes.column_size.Goals as goal

pub dictionary_size-requires : goal.dictionary_size-requires
dictionary_size-requires c =
    let width : ℕ = width_of c.in-Some-Some.width in
    let wide : contents_width (kind_of c.args.field.now.data_type) ≡ Some width = sym c.contents_width.ensures ∙ ap (option_map width_of) c.in-Some-Some.is-1 in
    subst (λ (a : Array). list_all (λ x. not (are_few_offsets width x)) (array_list (dictionary_in a)) ≡ true) (sym (c.array_or.ensures c.args.run.bytes.now c.args.run.dictionaries.now))
    (enough_offsets c.args.field.now c.in-Some-Some.field-0-0 width (array_at c.args.place c.args.run) c.in-Some-Some.is-0 wide c.requires.sound)

pub returns-in-Some-Some : goal.returns-in-Some-Some
returns-in-Some-Some c =
    IfSome_then c.dictionary_size.result c.dictionary_size.ensures (λ known few.
    subst (λ (a : Array). IsSizeOf (dictionary_in a) known) (c.array_or.ensures c.args.run.bytes.now c.args.run.dictionaries.now) few)
