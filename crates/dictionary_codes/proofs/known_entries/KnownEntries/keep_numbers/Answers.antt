use Rattle.std.proofs.Common.{List, subst, sym}
use Rattle.arrow_schema.specs.View.{kind_of}
use Rattle.dictionary_codes.proofs.Known.{all_pushed}
use Rattle.dictionary_codes.proofs.known_entries.KnownEntries.keep_numbers.Goals as goal
use Rattle.dictionary_codes.specs.declared.known_dictionary.KnownDictionary.{KnownDictionary}
use Rattle.dictionary_codes.specs.inner.Codes.{AreKnown, own_entries}
use Rattle.dictionary_codes.specs.inner.Known.{dictionary_entries}
use Rattle.dictionary_codes.specs.Named.{seen_cells}
use Rattle.cells.specs.Cell.{Cell}
use Rattle.columns.specs.Array.{Arrays}
use Rattle.columns.specs.CellAt.{entries_of_kind}

pub invariant_of-self-clause-known : goal.invariant_of-self-clause-known
invariant_of-self-clause-known c =
    let seen : List Cell = seen_cells c.make_room.new.self in
    let given : AreKnown seen (own_entries c.args.field.now c.args.array) c.args.numbers =
    subst (λ (xs : List Cell). AreKnown xs (own_entries c.args.field.now c.args.array) c.args.numbers) (sym c.make_room.ensures.seen) c.requires in
    all_pushed (λ (d : KnownDictionary). AreKnown seen (dictionary_entries d) d.numbers) _ _ _ _ c.push.ensures.items c.make_room.new.self.known
    (subst (λ (entries : Arrays). AreKnown seen (entries_of_kind (kind_of c.args.field.now.data_type) entries) c.args.numbers) (sym c.dictionary.ensures) given)
