use Rattle.std.specs.List.{AllByRecursion}
use Rattle.std.proofs.Common.{◌≡◌, ℕ, List, map, take}
use Rattle.columns.specs.declared.array.Dictionary.{Dictionary}
use Rattle.columns.specs.View.{arrays_in}
use Rattle.dictionary.specs.InEffect.{DictionaryBatch, in_effect}
use Rattle.dictionary.specs.Kept.{HasInEffect, IsPart, AreWithin, lists_of}
use Rattle.dictionary.proofs.dictionaries.Dictionaries.parts.Given as goal

abbrev pub invariant-loop-id : goal.invariant-loop-id
invariant-loop-id l = record {
  stand : AllByRecursion (IsPart l.self.lists) l.parts.items;
  effect : (bytes : List ℕ) (before : List DictionaryBatch) (lists : List Dictionary) → HasInEffect bytes l.self before → lists_of lists ≡ l.self.lists
      → map (arrays_in bytes lists) l.parts.items ≡ map (λ id. in_effect id before) (take l.id-index l.ids);
  within : AreWithin l.self l.parts.items;
}
