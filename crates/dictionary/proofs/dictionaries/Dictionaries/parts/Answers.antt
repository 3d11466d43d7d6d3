use Rattle.std.specs.List.{AllByRecursion, list_all}
use Rattle.std.proofs.Common.{ℕ, List, map, ap, sym, ◌∙◌, subst}
use Rattle.std.proofs.lemmas.List.{take_all}
use Rattle.columns.specs.declared.array.DictionaryPart.{DictionaryPart}
use Rattle.columns.specs.View.{arrays_in}
use Rattle.dictionary.specs.InEffect.{in_effect}
use Rattle.dictionary.specs.Kept.{IsPart}
use Rattle.columns.specs.Within.{stands_within}
use Rattle.dictionary.proofs.Parts.{map_next}
use Rattle.facts.specs.laws.Lists.{all_more, all_pushed}
use Rattle.dictionary.proofs.Within.{part_within}
use Rattle.dictionary.proofs.dictionaries.Dictionaries.parts.Goals as goal

pub loop-id-preserved : goal.loop-id-preserved
loop-id-preserved c = record {
  stand =
      subst (λ (xs : List DictionaryPart). AllByRecursion (IsPart c.args.self.now.lists) xs) (sym c.in_ok-push.ensures.items)
      (all_more (IsPart c.args.self.now.lists) c.loop-id.parts.items c.part.result c.loop-id.invariant.stand c.part.ensures.stands);
  effect = λ bytes before lists h e.
      ap (λ (xs : List DictionaryPart). map (arrays_in bytes lists) xs) c.in_ok-push.ensures.items
      ∙ map_next (arrays_in bytes lists) (λ (id : ℕ). in_effect id before) c.loop-id.parts.items c.part.result c.args.ids.now c.loop-id.id-index
      (c.loop-id.invariant.effect bytes before lists h e) (c.part.ensures.effect bytes before lists h e) c.loop-id-test.true;
  within = λ size lists e all.
      ap (list_all (stands_within size lists)) c.in_ok-push.ensures.items
      ∙ all_pushed (stands_within size lists) c.loop-id.parts.items c.part.result (c.loop-id.invariant.within size lists e all)
      (part_within c.args.self.now c.part.result size lists c.part.ensures.stands e all);
}

pub returns-clause-effect : goal.returns-clause-effect
returns-clause-effect c = λ bytes before lists h e.
    c.loop-id.invariant.effect bytes before lists h e
    ∙ ap (λ (ids : List ℕ). map (λ (id : ℕ). in_effect id before) ids) (take_all c.loop-id.id-index c.args.ids.now c.loop-id-test.false)
