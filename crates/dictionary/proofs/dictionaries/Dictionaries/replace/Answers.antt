use Rattle.std.proofs.Common.{◌≡◌, true, false, [], ◌∷◌}
use Rattle.dictionary.proofs.Steps.{began_apart, began_effect}
use Rattle.dictionary.proofs.dictionaries.Dictionaries.replace.Goals as goal

pub invariant_of-self : goal.invariant_of-self
invariant_of-self c =
    began_apart c.begin.result c.self.inside.lists.items c.begin.new.lists.items c.self.inside.numbers.items c.begin.new.numbers.items c.args.id (c.args.array ∷ [])
    c.begin.ensures.longer c.begin.ensures.numbers c.begin.ensures.same_lists c.begin.ensures.same_numbers c.self.invariant

pub returns-clause-effect : goal.returns-clause-effect
returns-clause-effect c =
    began_effect c.begin.result c.args.self.now c.self.inside.lists.items c.begin.new.lists.items c.self.inside.numbers.items c.begin.new.numbers.items c.args.id false c.args.array
    c.self.view_is c.begin.ensures.longer c.begin.ensures.numbers c.self.invariant (λ (h : false ≡ true). absurd cc)
