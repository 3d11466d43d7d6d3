use Rattle.std.specs.Prelude.{option_map}
use Rattle.std.proofs.Common.{[], ◌∷◌, Option, map, get_or, ap, sym, ◌∙◌, eq-eqb}
use Rattle.std.proofs.lemmas.Bool.{ne_eqb}
use Rattle.arrow_schema.specs.View.{column_of}
use Rattle.arrays.specs.Dictionaries.{DictionaryColumn}
use Rattle.arrays.proofs.DictionaryFound.{found_here, found_later}
use Rattle.arrays.proofs.dictionary_batch.find_values.Goals as goal

pub returns-then-other-id : goal.returns-then-other-id
returns-then-other-id c =
    c.one_at.ensures
    ∙ sym (found_here c.args.id c.args.ids.now (map column_of c.args.values.now) c.loop-i.i c.loop-i-test.true (eq-eqb (get_or c.args.ids.now c.loop-i.i 0) c.args.id c.if-other-id.true))
    ∙ ap (λ (found : Option DictionaryColumn). option_map (λ d. d.values ∷ []) found) (sym c.loop-i.invariant)

pub loop-i-preserved : goal.loop-i-preserved
loop-i-preserved c =
    c.loop-i.invariant
    ∙ found_later c.args.id c.args.ids.now (map column_of c.args.values.now) c.loop-i.i c.loop-i-test.true (ne_eqb (get_or c.args.ids.now c.loop-i.i 0) c.args.id c.if-other-id.false)
