-- The test of two fields' types decides whether they are seen alike, where an encoding is seen without its id. So two fields that
-- agree with a third agree.
use Rattle.std.proofs.Common.{◌≡◌, ℕ, Bool, true, false, List, [], ◌∷◌, refl, ap, sym, ◌∙◌}
use Rattle.std.specs.Prelude.{Option, Some, None}
use Rattle.std.specs.Bool.{Decides}
use Rattle.std.specs.Cmp.{booleans_Decides}
use Rattle.std.proofs.lemmas.Bool.{false≢true}
use Rattle.std.proofs.lemmas.Bool.Decides.{Decides-and, Decides-like, Decides-eqb}
use Rattle.std.proofs.lemmas.Slice.Eq.{bytes_eq-Decides}
use Rattle.arrow_schema.specs.Column.{Pair}
use Rattle.arrow_schema.specs.laws.Columns.{pair_from_parts}
use Rattle.ipc_message.specs.Raw.{RawParameters, no_parameters, integer_parameters, byte_width, list_size, date_unit, timestamp_parameters, RawEncoding, RawField, RawFields, raw_field, no_raw_field, and_raw_field}
use Rattle.ipc_message.specs.Fields.{code_of, parameters_of, children_of}
use Rattle.ipc_message.specs.Same.{same_parameters, same_index, same_pairs, same_parts, same_field, same_fields, same_value_type}

parameters_decide : (a b : RawParameters) → Decides (same_parameters a b) (a ≡ b)
parameters_decide no_parameters no_parameters = (λ h. refl, λ e. refl)
parameters_decide no_parameters _ = (λ h. absurd (false≢true h), λ e. absurd (cc))
parameters_decide (integer_parameters m a) (integer_parameters n b) = Decides-like _ (λ h. cc) (λ e. (cc, cc)) (Decides-and _ _ (Decides-eqb m n) (booleans_Decides a b))
parameters_decide (integer_parameters m a) _ = (λ h. absurd (false≢true h), λ e. absurd (cc))
parameters_decide (byte_width m) (byte_width n) = Decides-like _ (λ h. cc) (λ e. cc) (Decides-eqb m n)
parameters_decide (byte_width m) _ = (λ h. absurd (false≢true h), λ e. absurd (cc))
parameters_decide (list_size m) (list_size n) = Decides-like _ (λ h. cc) (λ e. cc) (Decides-eqb m n)
parameters_decide (list_size m) _ = (λ h. absurd (false≢true h), λ e. absurd (cc))
parameters_decide (date_unit m) (date_unit n) = Decides-like _ (λ h. cc) (λ e. cc) (Decides-eqb m n)
parameters_decide (date_unit m) _ = (λ h. absurd (false≢true h), λ e. absurd (cc))
parameters_decide (timestamp_parameters m y) (timestamp_parameters n z) = Decides-like _ (λ h. cc) (λ e. (cc, cc)) (Decides-and _ _ (Decides-eqb m n) (bytes_eq-Decides y z))
parameters_decide (timestamp_parameters m y) _ = (λ h. absurd (false≢true h), λ e. absurd (cc))

pairs_decide : (ps qs : List Pair) → Decides (same_pairs ps qs) (ps ≡ qs)
pairs_decide [] [] = (λ h. refl, λ e. refl)
pairs_decide [] (q ∷ qs) = (λ h. absurd (false≢true h), λ e. absurd (cc))
pairs_decide (p ∷ ps) [] = (λ h. absurd (false≢true h), λ e. absurd (cc))
pairs_decide (p ∷ ps) (q ∷ qs) =
    Decides-like _ (λ h. let first : p ≡ q = pair_from_parts p q h.0.0 h.0.1 in let others : ps ≡ qs = h.1 in cc) (λ e. let first : p ≡ q = cc in ((ap (λ (x : Pair). x.0) first, ap (λ (x : Pair). x.1) first), cc))
    (Decides-and _ _ (Decides-and _ _ (bytes_eq-Decides p.0 q.0) (bytes_eq-Decides p.1 q.1)) (pairs_decide ps qs))

-- an index type as the test sees it: neither its dictionary's id nor its kind
abbrev pub seen_index : Option RawEncoding → Option RawEncoding
seen_index None = None
seen_index (Some e) = Some (record { id = 0; width = e.width; signed = e.signed; kind = 0 })

encoding_from_parts : (a b : RawEncoding) → a.width ≡ b.width → a.signed ≡ b.signed → seen_index (Some a) ≡ seen_index (Some b)
encoding_from_parts a b w s =
    ap (λ (n : ℕ). let e : RawEncoding = record { id = 0; width = n; signed = a.signed; kind = 0 } in Some e) w
    ∙ ap (λ (t : Bool). let e : RawEncoding = record { id = 0; width = b.width; signed = t; kind = 0 } in Some e) s

abbrev width_in : Option RawEncoding → ℕ
width_in None = 0
width_in (Some e) = e.width

abbrev signed_in : Option RawEncoding → Bool
signed_in None = false
signed_in (Some e) = e.signed

index_decides : (a b : Option RawEncoding) → Decides (same_index a b) (seen_index a ≡ seen_index b)
index_decides None None = (λ h. refl, λ e. refl)
index_decides None (Some b) = (λ h. absurd (false≢true h), λ e. absurd (cc))
index_decides (Some a) None = (λ h. absurd (false≢true h), λ e. absurd (cc))
index_decides (Some a) (Some b) =
    Decides-like _ (λ h. encoding_from_parts a b h.0 h.1) (λ e. (ap width_in e, ap signed_in e)) (Decides-and _ _ (Decides-eqb a.width b.width) (booleans_Decides a.signed b.signed))

unfoldable mutual
  pub seen : RawField → RawField
  seen (raw_field name nullable code table dictionary children pairs) = raw_field name nullable code table (seen_index dictionary) (seen_all children) pairs

  pub seen_all : RawFields → RawFields
  seen_all no_raw_field = no_raw_field
  seen_all (and_raw_field f fs) = and_raw_field (seen f) (seen_all fs)

mutual
  unfolding same_parts same_field same_fields seen seen_all

  pub field_decides : (f g : RawField) → Decides (same_field f g) (seen f ≡ seen g)
  field_decides (raw_field n b c t d cs ps) (raw_field n' b' c' t' d' cs' ps') =
      Decides-like _ (λ h. cc) (λ e. ((((((cc, cc), cc), cc), cc), cc), cc))
      (Decides-and _ _
      (Decides-and _ _
      (Decides-and _ _
      (Decides-and _ _
      (Decides-and _ _
      (Decides-and _ _ (bytes_eq-Decides n n') (booleans_Decides b b'))
      (Decides-eqb c c'))
      (parameters_decide t t'))
      (index_decides d d'))
      (pairs_decide ps ps'))
      (fields_decide cs cs'))

  pub fields_decide : (fs gs : RawFields) → Decides (same_fields fs gs) (seen_all fs ≡ seen_all gs)
  fields_decide no_raw_field no_raw_field = (λ h. refl, λ e. refl)
  fields_decide no_raw_field (and_raw_field g gs) = (λ h. absurd (false≢true h), λ e. absurd (cc))
  fields_decide (and_raw_field f fs) no_raw_field = (λ h. absurd (false≢true h), λ e. absurd (cc))
  fields_decide (and_raw_field f fs) (and_raw_field g gs) = Decides-like _ (λ h. cc) (λ e. (cc, cc)) (Decides-and _ _ (field_decides f g) (fields_decide fs gs))

value_type_decides : (f g : RawField) → Decides (same_value_type f g) (((code_of f ≡ code_of g) × (parameters_of f ≡ parameters_of g)) × (seen_all (children_of f) ≡ seen_all (children_of g)))
value_type_decides f g =
    Decides-and _ _ (Decides-and _ _ (Decides-eqb (code_of f) (code_of g)) (parameters_decide (parameters_of f) (parameters_of g))) (fields_decide (children_of f) (children_of g))

-- two fields whose values have a third's type have one type
pub same_by_third : (h f g : RawField) → same_value_type h f ≡ true → same_value_type h g ≡ true → same_value_type f g ≡ true
same_by_third h f g p q =
    let a = (value_type_decides h f).0 p in
    let b = (value_type_decides h g).0 q in
    (value_type_decides f g).1 ((sym a.0.0 ∙ b.0.0, sym a.0.1 ∙ b.0.1), sym a.1 ∙ b.1)
