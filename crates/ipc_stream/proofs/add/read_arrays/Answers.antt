use Rattle.std.proofs.Common.{ℕ, List, length, map, ◌∙◌, ap}
use Rattle.std.specs.List.{list_all}
use Rattle.std.proofs.lemmas.Result.{err_from_is_err_and, IfOk-weaker}
use Rattle.arrow_schema.specs.Column.{columns_of}
use Rattle.arrow_schema.specs.View.{schema_of}
use Rattle.columns.specs.Places.{within}
use Rattle.columns.specs.View.{arrays_in}
use Rattle.columns.specs.Within.{stands_within}
use Rattle.columns.specs.declared.array.Dictionary.{Dictionary}
use Rattle.columns.specs.declared.array.DictionaryPart.{DictionaryPart}
use Rattle.arrays.specs.Dictionaries.{dictionaries_after}
use Rattle.arrays.specs.Known.{are_readable, dictionary_values}
use Rattle.ipc_message.specs.View.{raw_batch_of}
use Rattle.ipc_stream.proofs.Batches.{arrays_given}
use Rattle.ipc_stream.proofs.Dictionaries.{taken_readable}
use Rattle.ipc_stream.proofs.add.read_arrays.Goals as goal

pub returns-in_err-parts : goal.returns-in_err-parts
returns-in_err-parts c = λ k is.
    let p = err_from_is_err_and c.from_residual.result c.from_residual.ensures.1 in
    (c.lists-lists.result.now, c.lists-lists.ensures, (rw (p.1, p.2) tt))

pub read-requires-clause-known : goal.read-requires-clause-known
read-requires-clause-known c =
    let k = c.requires.front.0 in
    let is = c.requires.front.1 in
    let lists : List Dictionary = c.lists-lists.result.now in
    let known =
    ap (map (arrays_in c.args.bytes.now lists)) c.deref.ensures.value ∙ c.in_ok-parts.ensures.effect c.args.bytes.now k.dictionaries lists is.effect c.lists-lists.ensures
    ∙ ap (dictionaries_after k.dictionaries) is.columns in
    (λ j. are_readable (dictionary_values (columns_of (is.schema j).columns)) (known j)) ∙ taken_readable c.read_dictionaries_are_readable.ensures.known k is.dictionaries

pub returns : goal.returns
returns c = λ k is.
    let bytes : List ℕ = c.args.bytes.now in
    let lists : List Dictionary = c.lists-lists.result.now in
    let parts : List DictionaryPart = c.deref.result.now in
    let stand = ap (list_all (stands_within (length bytes) lists)) c.deref.ensures.value ∙ c.in_ok-parts.ensures.within (length bytes) lists c.lists-lists.ensures is.kept in (
      lists,
      c.lists-lists.ensures,
      arrays_given bytes lists (schema_of c.args.front.now.schema) c.args.front.now.weight (map (arrays_in bytes lists) parts) k (raw_batch_of c.args.raw.now) (within bytes c.args.body) c.read.result is.schema is.weight
          (ap (map (arrays_in bytes lists)) c.deref.ensures.value ∙ c.in_ok-parts.ensures.effect bytes k.dictionaries lists is.effect c.lists-lists.ensures ∙ ap (dictionaries_after k.dictionaries) is.columns)
          c.read.ensures.arrays c.read.ensures.weight (IfOk-weaker c.read.result _ _ (λ v end. end (length bytes) c.requires.fits stand) c.read.ensures.placed) c.read.ensures.sound,
    )
