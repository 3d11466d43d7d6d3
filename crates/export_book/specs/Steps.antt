-- A book after one call and another.
use Rattle.std.specs.Prelude.{◌≡◌, ◌⊎◌, ℕ, List, [], ◌∷◌}
use Rattle.arrow_schema.specs.Column.{PlainSchema}
use Rattle.catalogue.specs.declared.entry.Segment.{Segment}
use Rattle.export_book.specs.Book.{PlainBook, with_open, with_given, without}

-- an export is opened, one more piece of one is given, or one is closed
abbrev pub IsStep : PlainBook → PlainBook → Type 0
IsStep b c =
    ((schema : PlainSchema) × ((segments : List Segment) × (c ≡ with_open schema segments b)))
    ⊎ ((id : ℕ) × (c ≡ with_given id b))
    ⊎ ((id : ℕ) × (c ≡ without id b))

-- each book is one step after the one before it
abbrev pub AreSteps : PlainBook → List PlainBook → Type 0
AreSteps b [] = Unit {0}
AreSteps b (c ∷ cs) = IsStep b c × AreSteps c cs
