use Rattle.std.proofs.Common.{◌≡◌, ◌<◌, Some, length, ap, sym, ◌∙◌, arith}
use Rattle.std.proofs.lemmas.List.{length-map}
use Rattle.columns.specs.declared.array.Dictionary.{Dictionary}
use Rattle.dictionary.specs.Kept.{number_in}
use Rattle.dictionary.proofs.Parts.{effect_known, whole_known, whole_stands}
use Rattle.dictionary.proofs.dictionaries.Dictionaries.part.Goals as goal

pub returns-in-Some-clause-known : goal.returns-in-Some-clause-known
returns-in-Some-clause-known c =
    let found : number_in c.args.id c.self.inside.numbers.items ≡ Some c.in-Some.number = sym (c.in-Some.ensures ∙ ap (number_in c.args.id) c.deref.ensures.value) in
    let within : c.in-Some.number < length c.self.inside.lists.items =
    omega (arith, c.self.invariant.within c.args.id c.in-Some.number found, length-map c.self.inside.lists.items (λ (d : Dictionary). d.arrays.items)) in
    whole_known c.args.self.now c.self.inside.lists.items c.self.inside.numbers.items c.args.id c.in-Some.number c.len.result c.index.result.now c.self.view_is found within c.index.ensures c.len.ensures

pub returns-in-Some-clause-stands : goal.returns-in-Some-clause-stands
returns-in-Some-clause-stands c =
    let found : number_in c.args.id c.self.inside.numbers.items ≡ Some c.in-Some.number = sym (c.in-Some.ensures ∙ ap (number_in c.args.id) c.deref.ensures.value) in
    let within : c.in-Some.number < length c.self.inside.lists.items =
    omega (arith, c.self.invariant.within c.args.id c.in-Some.number found, length-map c.self.inside.lists.items (λ (d : Dictionary). d.arrays.items)) in
    whole_stands c.args.self.now c.self.inside.lists.items c.self.inside.numbers.items c.args.id c.in-Some.number c.len.result c.index.result.now c.self.view_is found within c.index.ensures c.len.ensures

pub returns-in-Some-clause-effect : goal.returns-in-Some-clause-effect
returns-in-Some-clause-effect c = λ bytes before lists h same.
    effect_known bytes before c.args.self.now c.args.id (record { number = c.in-Some.number; count = c.len.result }) lists h same (returns-in-Some-clause-known c)
