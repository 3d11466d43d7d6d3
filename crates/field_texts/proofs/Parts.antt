-- What may follow after a type, where it stands in a list or a struct.
use Rattle.std.proofs.Common.{◌≡◌, ◌⊎◌, ◌↔◌, ℕ, Bool, true, false, List, [], ◌∷◌, ◌++◌, refl, sym, ap, ◌∙◌, subst, inl, inr, ⊎_elim}
use Rattle.std.specs.Prelude.{Option, None, Some, MatchOption, IfSome, option_map, codes}
use Rattle.std.specs.Option.{option_and_then, option_or}
use Rattle.std.proofs.lemmas.List.{append-nil}
use Rattle.std.proofs.lemmas.Option.{same_Some, none-some}
use Rattle.field_texts.specs.declared.grammar.Enclosure.{Enclosure}
use Rattle.field_texts.specs.declared.grammar.Enclosure.TheVariants as enclosures
use Rattle.field_texts.specs.declared.grammar.Place.TheVariants.{AfterType}
use Rattle.arrow_schema.specs.Column.{Columns, no_column, and_column}
use Rattle.field_texts.specs.FieldText.{plain, nullable_suffix, item_text, field_text, more_text}
use Rattle.field_texts.specs.Typed.{is_name, AreTyped, IsFieldText}
use Rattle.field_texts.specs.inner.Scan.{stripped, name_at, has_nullable_suffix, after_nullable_suffix}
use Rattle.field_texts.specs.inner.Standing.{close_of, IsInside, Closing, Closes, Goes, next_in, continued, after_part, step}
use Rattle.field_texts.proofs.KeywordLemmas.{bracket, parenthesis, stripped_read}
use Rattle.field_texts.proofs.Openings.{name_read}
use Rattle.field_texts.proofs.Steps.{four, suffix_split, closes_stop, renamed, item_from_field, field_from_item, name_of, renamed_is}
use Rattle.field_texts.proofs.Moves.{match_map, match_iff, snd_eq, named, FieldThen, field_moves, StandsAt, suffix_again}

no_more : [] ≡ more_text plain no_column
unfolding more_text
no_more = refl

no_fields : (limited : Bool) → AreTyped limited no_column
unfolding AreTyped
no_fields limited = tt

-- no field more stands before the bracket
closed_list : (limited : Bool) (one : Enclosure) (others : List Enclosure) (text t : List ℕ) (b : ℕ) → close_of one ≡ b ∷ [] → stripped (b ∷ []) text ≡ Some t
    → (cl : Closing limited one (Closes limited others) text) → cl.inside ≡ [] → stripped (b ∷ []) (b ∷ (nullable_suffix cl.nullable ++ cl.rest)) ≡ Some (nullable_suffix cl.nullable ++ cl.rest) → Closes limited others (after_nullable_suffix t)
closed_list limited one others text t b close e cl none back =
    let is : text ≡ b ∷ (nullable_suffix cl.nullable ++ cl.rest) = cl.text_is ∙ (λ k. none k ++ close k ++ nullable_suffix cl.nullable ++ cl.rest) in
    let here : t ≡ nullable_suffix cl.nullable ++ cl.rest = same_Some t (nullable_suffix cl.nullable ++ cl.rest) (sym e ∙ ap (stripped (b ∷ [])) is ∙ back) in
    subst (Closes limited others) (sym (suffix_again cl.nullable cl.rest t (closes_stop limited others cl.rest cl.after) here)) cl.after

closed_back : (limited : Bool) (one : Enclosure) (others : List Enclosure) (text t : List ℕ) (b : ℕ) → IsInside limited one [] → close_of one ≡ b ∷ [] → text ≡ b ∷ t → Closes limited others (after_nullable_suffix t) → Closing limited one (Closes limited others) text
closed_back limited one others text t b none close e cl = record {
  inside = [];
  nullable = has_nullable_suffix t;
  rest = after_nullable_suffix t;
  is_inside = none;
  text_is = e ∙ ap (λ (ys : List ℕ). b ∷ ys) (suffix_split t) ∙ ap (λ (c : List ℕ). c ++ nullable_suffix (has_nullable_suffix t) ++ after_nullable_suffix t) (sym close);
  after = cl;
}

open_list : (limited : Bool) (one : Enclosure) (others : List Enclosure) (text : List ℕ) (b : ℕ) → close_of one ≡ b ∷ [] → stripped (b ∷ []) text ≡ None
    → (cl : Closing limited one (Closes limited others) text) → cl.inside ≡ [] → stripped (b ∷ []) (b ∷ (nullable_suffix cl.nullable ++ cl.rest)) ≡ Some (nullable_suffix cl.nullable ++ cl.rest) → ⊥
open_list limited one others text b close e cl none back =
    let is : text ≡ b ∷ (nullable_suffix cl.nullable ++ cl.rest) = cl.text_is ∙ (λ k. none k ++ close k ++ nullable_suffix cl.nullable ++ cl.rest) in
    none-some _ (sym e ∙ ap (stripped (b ∷ [])) is ∙ back)

comma : (rest : List ℕ) → (stripped (44 ∷ []) (44 ∷ rest) ≡ Some rest) × (stripped (62 ∷ []) (44 ∷ rest) ≡ None) × (stripped (44 ∷ []) (62 ∷ rest) ≡ None)
unfolding stripped
comma rest = (refl, refl, refl)

-- what is left of a struct, by whether a field comes
inside_of : (limited : Bool) (others : List Enclosure) (text inside rest : List ℕ) (m : Bool) (cs : Columns) → AreTyped limited cs → inside ≡ more_text plain cs → text ≡ inside ++ codes ">" ++ nullable_suffix m ++ rest → Closes limited others rest
    → ((inside ≡ []) ⊎ ((next : List ℕ) × (text ≡ 44 ∷ next) × FieldThen limited others next))
unfolding more_text AreTyped
inside_of limited others text inside rest m no_column typed e is cl = inl e
inside_of limited others text inside rest m (and_column c cs) typed e is cl = inr (
  field_text plain c ++ more_text plain cs ++ codes ">" ++ nullable_suffix m ++ rest,
  is ∙ ap (λ (i : List ℕ). i ++ codes ">" ++ nullable_suffix m ++ rest) e,
  record { first = c; others = cs; nullable = m; rest = rest; typed = typed.0; all_typed = typed.1; text_is = four (field_text plain c) (more_text plain cs) (62 ∷ []) (nullable_suffix m) rest; closes = cl },
)

abbrev StructRest : Bool → List Enclosure → List ℕ → Type 0
StructRest limited others text = Closing limited enclosures.Struct (Closes limited others) text

struct_closed : (limited : Bool) (others : List Enclosure) (text t : List ℕ) → stripped (codes ">") text ≡ Some t → StructRest limited others text → Closes limited others (after_nullable_suffix t)
struct_closed limited others text t e cl =
    ⊎_elim {C = Closes limited others (after_nullable_suffix t)}
    (λ none. closed_list limited enclosures.Struct others text t 62 refl e cl none (bracket (nullable_suffix cl.nullable ++ cl.rest)))
    (λ f. absurd (none-some _ (sym (sym e ∙ ap (stripped (codes ">")) f.1 ∙ (comma f.0).1))))
    (inside_of limited others text cl.inside cl.rest cl.nullable cl.is_inside.0 cl.is_inside.1 cl.is_inside.2 cl.text_is cl.after)

struct_goes : (limited : Bool) (others : List Enclosure) (text : List ℕ) → stripped (codes ">") text ≡ None → StructRest limited others text → (next : List ℕ) × (text ≡ 44 ∷ next) × FieldThen limited others next
struct_goes limited others text e cl =
    ⊎_elim {C = (next : List ℕ) × (text ≡ 44 ∷ next) × FieldThen limited others next}
    (λ none. absurd (open_list limited enclosures.Struct others text 62 refl e cl none (bracket (nullable_suffix cl.nullable ++ cl.rest))))
    (λ f. f)
    (inside_of limited others text cl.inside cl.rest cl.nullable cl.is_inside.0 cl.is_inside.1 cl.is_inside.2 cl.text_is cl.after)

struct_again : (limited : Bool) (others : List Enclosure) (text next : List ℕ) → text ≡ 44 ∷ next → FieldThen limited others next → StructRest limited others text
unfolding more_text AreTyped
struct_again limited others text next e f = record {
  inside = more_text plain (and_column f.first f.others);
  nullable = f.nullable;
  rest = f.rest;
  is_inside = (and_column f.first f.others, (f.typed, f.all_typed), refl);
  text_is = e ∙ ap (λ (ys : List ℕ). 44 ∷ ys) (f.text_is ∙ sym (four (field_text plain f.first) (more_text plain f.others) (62 ∷ []) (nullable_suffix f.nullable) f.rest));
  after = f.closes;
}

next_of : (limited : Bool) (others : List Enclosure) (text next : List ℕ) → stripped (codes ",") text ≡ Some next → (f : (next : List ℕ) × (text ≡ 44 ∷ next) × FieldThen limited others next) → FieldThen limited others next
next_of limited others text next e f =
    let same : f.0 ≡ next = same_Some f.0 next (sym ((comma f.0).0) ∙ ap (stripped (codes ",")) (sym f.1) ∙ e) in subst (FieldThen limited others) same f.2

comma_by : (limited : Bool) (others : List Enclosure) (text : List ℕ) → stripped (codes ">") text ≡ None → (o : Option (List ℕ)) → stripped (codes ",") text ≡ o → IfSome o (λ next. text ≡ 44 ∷ next)
    → MatchOption (option_and_then (λ next. option_map (λ p. (false, p.1)) (name_at next)) o) (StructRest limited others text → ⊥) (λ p. StructRest limited others text ↔ StandsAt limited (after_part enclosures.Struct others p))
comma_by limited others text e None f known = λ cl. let g = struct_goes limited others text e cl in none-some _ (sym f ∙ ap (stripped (codes ",")) g.1 ∙ (comma g.0).0)
comma_by limited others text e (Some next) f known =
    match_map (λ p. (false, p.1)) (name_at next) (StructRest limited others text → ⊥) (λ p. StructRest limited others text ↔ StandsAt limited (after_part enclosures.Struct others p))
    (match_iff (name_at next) (StructRest limited others text) (FieldThen limited others next) (λ p. Goes limited (enclosures.Struct ∷ others) p.1)
    (λ cl. next_of limited others text next f (struct_goes limited others text e cl), struct_again limited others text next known) (field_moves limited others next))

abbrev Continues : Bool → Enclosure → List Enclosure → List ℕ → Option (Bool × List ℕ) → Type 0
Continues limited one others text o = MatchOption o (Closing limited one (Closes limited others) text → ⊥) (λ p. Closing limited one (Closes limited others) text ↔ StandsAt limited (after_part one others p))

part_by : (limited : Bool) (one : Enclosure) (others : List Enclosure) (text : List ℕ) (o : Option (List ℕ)) → stripped (close_of one) text ≡ o → IfSome o (λ rest. text ≡ close_of one ++ rest)
    → Continues limited one others text (option_or (option_map (λ rest. (true, after_nullable_suffix rest)) o) (next_in one text))
part_by limited enclosures.List others text (Some t) e known =
    (λ cl. closed_list limited enclosures.List others text t 62 refl e cl cl.is_inside (bracket (nullable_suffix cl.nullable ++ cl.rest)), closed_back limited enclosures.List others text t 62 refl refl known)
part_by limited enclosures.FixedList others text (Some t) e known =
    (λ cl. closed_list limited enclosures.FixedList others text t 41 refl e cl cl.is_inside (parenthesis (nullable_suffix cl.nullable ++ cl.rest)), closed_back limited enclosures.FixedList others text t 41 refl refl known)
part_by limited enclosures.Struct others text (Some t) e known =
    (struct_closed limited others text t e, closed_back limited enclosures.Struct others text t 62 (no_column, no_fields limited, no_more) refl known)
part_by limited enclosures.List others text None e known = λ cl. open_list limited enclosures.List others text 62 refl e cl cl.is_inside (bracket (nullable_suffix cl.nullable ++ cl.rest))
part_by limited enclosures.FixedList others text None e known = λ cl. open_list limited enclosures.FixedList others text 41 refl e cl cl.is_inside (parenthesis (nullable_suffix cl.nullable ++ cl.rest))
part_by limited enclosures.Struct others text None e known = comma_by limited others text e (stripped (codes ",") text) refl (stripped_read (codes ",") text)

pub after_moves : (limited : Bool) (one : Enclosure) (others : List Enclosure) (text : List ℕ)
    → MatchOption (step limited AfterType (one ∷ others) text) (Closes limited (one ∷ others) text → ⊥) (λ p. Closes limited (one ∷ others) text ↔ StandsAt limited p)
unfolding step continued Closes
after_moves limited one others text =
    match_map (after_part one others) (continued one text) (Closing limited one (Closes limited others) text → ⊥) (λ p. Closing limited one (Closes limited others) text ↔ StandsAt limited p)
    (part_by limited one others text (stripped (close_of one) text) refl (stripped_read (close_of one) text))

-- at the start of a text, and at its end
text_starts : (limited : Bool) (text : List ℕ) (o : Option (List ℕ × List ℕ)) → name_at text ≡ o → IfSome o (λ p. (is_name p.0 ≡ true) × (text ≡ p.0 ++ 58 ∷ p.1))
    → MatchOption o (IsFieldText limited text → ⊥) (λ p. IsFieldText limited text ↔ Goes limited [] p.1)
unfolding Closes
text_starts limited text None e known = λ f. none-some _ (sym e ∙ named limited f.0 text [] f.1.0 (f.1.1 ∙ sym (append-nil (field_text plain f.0))))
text_starts limited text (Some p) e known = (
  λ f. record {
    item = renamed (codes "item") f.0;
    rest = [];
    typed = item_from_field limited f.0 f.1.0;
    text_is = snd_eq p (name_of f.0) (item_text plain (renamed (codes "item") f.0) ++ []) (sym e ∙ named limited f.0 text [] f.1.0 (f.1.1 ∙ sym (append-nil (field_text plain f.0))));
    closes = refl;
  },
  λ g.
      let none : g.rest ≡ [] = g.closes in
      (renamed p.0 g.item, (field_from_item limited p.0 g.item known.0 g.typed, known.1 ∙ ap (λ (ys : List ℕ). p.0 ++ 58 ∷ ys) (g.text_is ∙ ap (λ (ys : List ℕ). item_text plain g.item ++ ys) none) ∙ sym (renamed_is p.0 g.item []) ∙ append-nil (field_text plain (renamed p.0 g.item)))),
)

pub text_moves : (limited : Bool) (text : List ℕ) → MatchOption (name_at text) (IsFieldText limited text → ⊥) (λ p. IsFieldText limited text ↔ Goes limited [] p.1)
text_moves limited text = text_starts limited text (name_at text) refl (name_read text)
