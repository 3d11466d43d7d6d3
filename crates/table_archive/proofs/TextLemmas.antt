-- Texts of columns, one after another.
use Rattle.std.proofs.Common.{◌≡◌, ◌∙◌, ◌+◌, ◌<◌, ◌++◌, ℕ, zero, suc, List, [], ◌∷◌, arith, get_or, length, map, take, refl, sym, ap, subst, string_bytes}
use Rattle.std.specs.Prelude.{Some, None, String, slice_get}
use Rattle.std.specs.Global.{Global}
use Rattle.std.proofs.lemmas.List.{length-map, map-append, get_or-map, take_more}
use Rattle.arrow_schema.specs.Column.{Column}
use Rattle.arrow_schema.specs.View.{column_of}
use Rattle.arrow_schema.specs.declared.types.Field.{Field}
use Rattle.field_texts.specs.Reported.{AreTextsOf, IsTakenFor, IsTypedAs}
use Rattle.table_archive.specs.Texts.{IsWithoutText}

at_place : (fields : List Field) (i : ℕ) (d : Field) → i < length fields → slice_get (map column_of fields) i ≡ Some (column_of (get_or fields i d))
at_place [] i d h = absurd (omega (arith, h))
at_place (x ∷ xs) zero d h = refl
at_place (x ∷ xs) (suc i) d h = at_place xs i d (omega (arith, h))

pub no_text : (fields : List Field) (i : ℕ) (f : Field) → i < length fields → get_or fields i f ≡ f → IsTypedAs (column_of f) None → IsWithoutText (map column_of fields)
no_text fields i f h at none = record {
  place = i;
  column = column_of f;
  at = at_place fields i f h ∙ ap (λ (g : Field). Some (column_of g)) at;
  none = none;
}

texts_more : (texts : List (List ℕ)) (columns : List Column) (text : List ℕ) (c : Column) → AreTextsOf texts columns → IsTakenFor text c → AreTextsOf (texts ++ text ∷ []) (columns ++ c ∷ [])
texts_more [] [] text c all taken = (taken.0.0, tt)
texts_more [] (d ∷ ds) text c all taken = absurd all
texts_more (t ∷ ts) [] text c all taken = absurd all
texts_more (t ∷ ts) (d ∷ ds) text c all taken = (all.0, texts_more ts ds text c all.1 taken)

pub next_text : (fields : List Field) (i : ℕ) (f : Field) (texts longer : List (String Global)) (text : String Global) → i < length fields → get_or fields i f ≡ f
    → IsTypedAs (column_of f) (Some text) → longer ≡ texts ++ text ∷ [] → AreTextsOf (map string_bytes texts) (take i (map column_of fields))
    → AreTextsOf (map string_bytes longer) (take (i + 1) (map column_of fields))
next_text fields i f texts longer text h at taken more all =
    let among : i < length (map column_of fields) = omega (arith, h, length-map fields column_of) in
    let is : get_or (map column_of fields) i (column_of f) ≡ column_of f = get_or-map column_of fields i f (column_of f) h ∙ ap column_of at in
    subst (λ (ts : List (String Global)). AreTextsOf (map string_bytes ts) (take (i + 1) (map column_of fields))) (sym more)
    (subst (λ (ts : List (List ℕ)). AreTextsOf ts (take (i + 1) (map column_of fields))) (sym (map-append string_bytes texts (text ∷ [])))
    (subst (λ (cs : List Column). AreTextsOf (map string_bytes texts ++ string_bytes text ∷ []) cs) (sym (take_more (map column_of fields) i (column_of f) among))
    (subst (λ (c : Column). AreTextsOf (map string_bytes texts ++ string_bytes text ∷ []) (take i (map column_of fields) ++ c ∷ [])) (sym is)
    (texts_more (map string_bytes texts) (take i (map column_of fields)) (string_bytes text) (column_of f) all taken))))
