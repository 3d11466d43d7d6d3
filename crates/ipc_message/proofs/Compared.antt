-- Lists of different lengths are not the same.
use Rattle.std.proofs.Common.{◌≡◌, ◌≢◌, suc, Bool, true, false, ◌&&◌, List, [], ◌∷◌, length, refl, ap}
use Rattle.arrow_schema.specs.Column.{Pair}
use Rattle.ipc_message.specs.Raw.{RawField, raw_field, raw_fields_of}
use Rattle.ipc_message.specs.Fields.{children_of}
use Rattle.ipc_message.specs.Same.{same_pairs, same_parts, same_field, same_fields}

and_false : (a : Bool) → false ≡ (a && false)
and_false true = refl
and_false false = refl

pub same_pairs_short : (ps qs : List Pair) → length ps ≢ length qs → false ≡ same_pairs ps qs
same_pairs_short [] [] h = absurd (h refl)
same_pairs_short [] (q ∷ qs) h = refl
same_pairs_short (p ∷ ps) [] h = refl
same_pairs_short (p ∷ ps) (q ∷ qs) h = rw (← same_pairs_short ps qs (λ e. h (ap suc e))) (and_false _)

pub same_fields_short : (fs gs : List RawField) → length fs ≢ length gs → false ≡ same_fields (raw_fields_of fs) (raw_fields_of gs)
unfolding same_fields
same_fields_short [] [] h = absurd (h refl)
same_fields_short [] (g ∷ gs) h = refl
same_fields_short (f ∷ fs) [] h = refl
same_fields_short (f ∷ fs) (g ∷ gs) h = rw (← same_fields_short fs gs (λ e. h (ap suc e))) (and_false _)

pub same_field_parts : (f g : RawField) → same_field f g ≡ (same_parts f g && same_fields (children_of f) (children_of g))
unfolding same_field
same_field_parts (raw_field name nullable code table dictionary children pairs) g = refl
