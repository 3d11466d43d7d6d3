use Rattle.std.proofs.Common.{ℕ, List, length, refl, sym, ap, ◌∙◌}
use Rattle.columns.specs.Places.{within}
use Rattle.arrays.specs.Dictionaries.{DictionaryColumn, dictionary_read}
use Rattle.ipc_message.specs.View.{raw_dictionary_of}
use Rattle.ipc_stream.proofs.Added.{dictionary_added}
use Rattle.ipc_stream.proofs.Batches.{within_small}
use Rattle.ipc_stream.proofs.add.add_dictionary.Goals as goal

pub returns : goal.returns
returns c = λ k is.
    let bytes : List ℕ = c.args.bytes.now in
    let d = raw_dictionary_of c.args.raw.now in
    let body : List ℕ = within bytes c.args.body in
    let read = ap (λ (columns : List DictionaryColumn). dictionary_read columns k.dictionaries d body) (sym is.columns) ∙ c.in_ok-array.ensures.batch k.dictionaries is.effect in
    let kept = c.in_ok-keep_array.ensures.within (length bytes) is.kept (c.in_ok-array.ensures.placed (length bytes) c.requires.fits) in
    dictionary_added (record { readable = c.read_dictionaries_are_readable.ensures.batch; bytes = c.read_dictionaries_have_bytes.ensures.batch }) bytes c.args.front.now _ k d body _
    c.lists_are_kept.ensures.0 is
    (within_small bytes c.args.body (λ i. (c.type_inv.bytes i).fits)) read c.lists_are_kept.ensures.1
    (record { schema = refl; columns = refl; batches = refl; weight = refl; effect = c.in_ok-keep_array.ensures.effect bytes k.dictionaries is.effect; keeps = c.in_ok-keep_array.ensures.parts; kept = kept })
