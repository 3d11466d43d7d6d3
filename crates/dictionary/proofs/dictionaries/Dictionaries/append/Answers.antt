use Rattle.std.proofs.Common.{◌≡◌, ◌<◌, true, Some, None, [], ◌∷◌, length, ap}
use Rattle.dictionary.specs.Kept.{Kept, number_in, list_at, lists_of}
use Rattle.dictionary.proofs.Steps.{began_apart, began_effect, grew_effect, grew_keeps}
use Rattle.dictionary.proofs.Within.{grew_within}
use Rattle.dictionary.proofs.dictionaries.Dictionaries.append.Goals as goal

pub invariant_of-self-in-None : goal.invariant_of-self-in-None
invariant_of-self-in-None c =
    began_apart c.begin.result c.self.inside.lists.items c.begin.new.lists.items c.self.inside.numbers.items c.begin.new.numbers.items c.args.id (c.args.array ∷ [])
    c.begin.ensures.longer c.begin.ensures.numbers c.begin.ensures.same_lists c.begin.ensures.same_numbers c.self.invariant

pub returns-in-None-clause-effect : goal.returns-in-None-clause-effect
returns-in-None-clause-effect c =
    let found : number_in c.args.id c.self.inside.numbers.items ≡ None = cc (c.in-None.ensures, c.deref.ensures.value) in
    began_effect c.begin.result c.args.self.now c.self.inside.lists.items c.begin.new.lists.items c.self.inside.numbers.items c.begin.new.numbers.items c.args.id true c.args.array
    c.self.view_is c.begin.ensures.longer c.begin.ensures.numbers c.self.invariant (λ _. ap (list_at (lists_of c.self.inside.lists.items)) found)

pub returns-in-Some-clause-effect : goal.returns-in-Some-clause-effect
returns-in-Some-clause-effect c =
    let found : number_in c.args.id c.self.inside.numbers.items ≡ Some c.in-Some.number = cc (c.in-Some.ensures, c.deref.ensures.value) in
    grew_effect c.append_at.result c.args.self.now c.self.inside.lists.items c.append_at.new.lists.items c.self.inside.numbers.items c.args.id c.in-Some.number c.args.array
    c.self.view_is c.append_at.ensures.longer c.self.invariant found

pub returns-in-Some-clause-parts : goal.returns-in-Some-clause-parts
returns-in-Some-clause-parts c =
    let found : number_in c.args.id c.self.inside.numbers.items ≡ Some c.in-Some.number = cc (c.in-Some.ensures, c.deref.ensures.value) in
    let within : c.in-Some.number < length (lists_of c.self.inside.lists.items) = c.self.invariant.within c.args.id c.in-Some.number found in
    grew_keeps c.append_at.result c.args.self.now c.self.inside.lists.items c.append_at.new.lists.items c.self.inside.numbers.items c.in-Some.number c.args.array
    c.self.view_is c.append_at.ensures.longer within

pub returns-in-Some-clause-within : goal.returns-in-Some-clause-within
returns-in-Some-clause-within c =
    grew_within c.append_at.result c.args.self.now (record { lists = lists_of c.append_at.new.lists.items; numbers = c.self.inside.numbers.items }) (lists_of c.self.inside.lists.items) c.in-Some.number c.args.array (ap (λ (k : Kept). k.lists) c.self.view_is) c.append_at.ensures.longer
