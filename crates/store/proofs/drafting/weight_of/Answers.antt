use Rattle.std.proofs.Common.{◌≡◌, ◌∙◌, List, ℕ, sym, subst, string_bytes}
use Rattle.catalogue.specs.View.{catalogue_of}
use Rattle.store_changes.specs.Draft.{laid, streams_of}
use Rattle.store_changes.specs.Weights.{TellsWeight}
use Rattle.store_changes.specs.laws.Changed.{bytes_same}
use Rattle.store.proofs.drafting.weight_of.Goals as goal

pub returns-then-eq : goal.returns-then-eq
returns-then-eq c = λ tells image draft knows.
    let text : c.as_str.result.now ≡ c.args.name.now = bytes_same _ _ (sym c.eq.ensures ∙ c.if-eq.true) in
    let same : string_bytes c.in-Some.known.name ≡ c.args.name.now = sym c.as_str.ensures.value ∙ text in
    let own = rw c.in-Some.is at knows in
    subst (λ (n : List ℕ). TellsWeight tells (laid draft.from (streams_of draft) image) (catalogue_of draft.made) n c.in-Some.known.weight) same own
