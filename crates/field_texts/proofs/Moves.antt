-- What may follow before a step of the test of a field text, and after it.
use Rattle.std.proofs.Common.{◌≡◌, ◌↔◌, ℕ, ◌==◌, Bool, true, false, List, [], ◌∷◌, ◌++◌, refl, sym, ap, ◌∙◌, subst, arith}
use Rattle.std.specs.Prelude.{Option, None, Some, MatchOption, IfSome, option_map, codes}
use Rattle.std.specs.Option.{option_and_then, option_or}
use Rattle.std.proofs.lemmas.List.{append_assoc}
use Rattle.std.proofs.lemmas.Bool.{ne_eqb, and_parts}
use Rattle.std.proofs.lemmas.Option.{same_Some, none-some}
use Rattle.field_texts.specs.declared.grammar.Enclosure.{Enclosure}
use Rattle.field_texts.specs.declared.grammar.Enclosure.TheVariants as enclosures
use Rattle.field_texts.specs.declared.grammar.Place.{Place}
use Rattle.field_texts.specs.declared.grammar.Place.TheVariants.{BeforeType}
use Rattle.arrow_schema.specs.Column.{Column, Columns, no_column, and_column}
use Rattle.field_texts.specs.FieldText.{plain, nullable_suffix, item_text, field_text, fields_text, more_text}
use Rattle.field_texts.specs.Typed.{is_name_byte, is_name, IsTypedItem, IsTypedField, AreTyped}
use Rattle.field_texts.specs.inner.Scan.{stripped, name_at, Opening, flat, list, large_list, fixed_list, struct, opening_at, has_nullable_suffix, after_nullable_suffix}
use Rattle.field_texts.specs.inner.Standing.{close_of, IsInside, Closing, Closes, Goes, Stands, begun, after_opening, step}
use Rattle.field_texts.proofs.KeywordLemmas.{stripped_read}
use Rattle.field_texts.proofs.Openings.{lacks, name_again, name_read}
use Rattle.field_texts.proofs.Flats.{three, IsOpening, opening_read}
use Rattle.field_texts.proofs.Steps.{Stops, without_suffix, suffix_split, closes_stop, renamed, item_from_field, field_from_item, name_of, field_name, field_is, renamed_is, Inside, Item, joined, Starts, item_starts}

pub match_map : {X Y : Type 0} (f : X → Y) (o : Option X) (P : Type 0) (Q : Y → Type 0) → MatchOption o P (λ x. Q (f x)) → MatchOption (option_map f o) P Q
match_map f None P Q h = h
match_map f (Some x) P Q h = h

pub match_iff : {X : Type 0} (o : Option X) (A B : Type 0) (Q : X → Type 0) → A ↔ B → MatchOption o (B → ⊥) (λ x. B ↔ Q x) → MatchOption o (A → ⊥) (λ x. A ↔ Q x)
match_iff None A B Q e h = λ a. h (e.0 a)
match_iff (Some x) A B Q e h = (λ a. h.0 (e.0 a), λ q. e.1 (h.1 q))

pub snd_eq : (p : List ℕ × List ℕ) (a b : List ℕ) → Some p ≡ Some (a, b) → p.1 ≡ b
snd_eq p a b e = ap (λ (q : List ℕ × List ℕ). q.1) (same_Some p (a, b) e)

-- a field, more of them, the bracket of the struct, and the rest
pub record FieldThen (limited : Bool) (around : List Enclosure) (text : List ℕ) : Type 0 where
  pub first : Column
  pub others : Columns
  pub nullable : Bool
  pub rest : List ℕ
  pub typed : IsTypedField limited first
  pub all_typed : AreTyped limited others
  pub text_is : text ≡ field_text plain first ++ (more_text plain others ++ 62 ∷ (nullable_suffix nullable ++ rest))
  pub closes : Closes limited around rest

pub named : (limited : Bool) (c : Column) (text rest : List ℕ) → IsTypedField limited c → text ≡ field_text plain c ++ rest → name_at text ≡ Some (name_of c, item_text plain (renamed (codes "item") c) ++ rest)
named limited c text rest typed e = ap name_at (e ∙ field_is c rest) ∙ name_again (name_of c) (item_text plain (renamed (codes "item") c) ++ rest) (field_name limited c typed)

into_field : (limited : Bool) (around : List Enclosure) (text : List ℕ) (p : List ℕ × List ℕ) → name_at text ≡ Some p → FieldThen limited around text → Goes limited (enclosures.Struct ∷ around) p.1
unfolding Closes
into_field limited around text p e f =
    let rest : List ℕ = more_text plain f.others ++ 62 ∷ (nullable_suffix f.nullable ++ f.rest) in
    record {
      item = renamed (codes "item") f.first;
      rest = rest;
      typed = item_from_field limited f.first f.typed;
      text_is = snd_eq p (name_of f.first) (item_text plain (renamed (codes "item") f.first) ++ rest) (sym e ∙ named limited f.first text rest f.typed f.text_is);
      closes = record {
        inside = more_text plain f.others;
        nullable = f.nullable;
        rest = f.rest;
        is_inside = (f.others, f.all_typed, refl);
        text_is = sym (three (more_text plain f.others) (62 ∷ []) (nullable_suffix f.nullable) f.rest);
        after = f.closes;
      };
    }

out_of_field : (limited : Bool) (around : List Enclosure) (text : List ℕ) (p : List ℕ × List ℕ) → is_name p.0 ≡ true → text ≡ p.0 ++ 58 ∷ p.1 → Goes limited (enclosures.Struct ∷ around) p.1 → FieldThen limited around text
unfolding Closes
out_of_field limited around text p name e g =
    let cl : Closing limited enclosures.Struct (Closes limited around) g.rest = g.closes in
    let rest : List ℕ = more_text plain cl.is_inside.0 ++ 62 ∷ (nullable_suffix cl.nullable ++ cl.rest) in
    let rest_is : g.rest ≡ rest = cl.text_is ∙ ap (λ (i : List ℕ). i ++ codes ">" ++ nullable_suffix cl.nullable ++ cl.rest) cl.is_inside.2 ∙ three (more_text plain cl.is_inside.0) (62 ∷ []) (nullable_suffix cl.nullable) cl.rest in
    record {
      first = renamed p.0 g.item;
      others = cl.is_inside.0;
      nullable = cl.nullable;
      rest = cl.rest;
      typed = field_from_item limited p.0 g.item name g.typed;
      all_typed = cl.is_inside.1;
      text_is = e ∙ ap (λ (ys : List ℕ). p.0 ++ 58 ∷ ys) (g.text_is ∙ ap (λ (ys : List ℕ). item_text plain g.item ++ ys) rest_is) ∙ sym (renamed_is p.0 g.item rest);
      closes = cl.after;
    }

field_by : (limited : Bool) (around : List Enclosure) (text : List ℕ) (o : Option (List ℕ × List ℕ)) → name_at text ≡ o → IfSome o (λ p. (is_name p.0 ≡ true) × (text ≡ p.0 ++ 58 ∷ p.1))
    → MatchOption o (FieldThen limited around text → ⊥) (λ p. FieldThen limited around text ↔ Goes limited (enclosures.Struct ∷ around) p.1)
field_by limited around text None e known = λ f. none-some _ (sym e ∙ named limited f.first text (more_text plain f.others ++ 62 ∷ (nullable_suffix f.nullable ++ f.rest)) f.typed f.text_is)
field_by limited around text (Some p) e known = (into_field limited around text p e, out_of_field limited around text p known.0 known.1)

pub field_moves : (limited : Bool) (around : List Enclosure) (text : List ℕ) → MatchOption (name_at text) (FieldThen limited around text → ⊥) (λ p. FieldThen limited around text ↔ Goes limited (enclosures.Struct ∷ around) p.1)
field_moves limited around text = field_by limited around text (name_at text) refl (name_read text)

-- after the opening of a type
pub record Within (limited : Bool) (around : List Enclosure) (f : Opening) (after : List ℕ) : Type 0 where
  pub rest : List ℕ
  pub inside : Inside limited f after rest
  pub closes : Closes limited around rest

abbrev pub StandsAt : Bool → Place × List Enclosure × List ℕ → Type 0
StandsAt limited p = Stands limited p.0 p.1 p.2

-- no name begins with the bracket
pub not_closed : (name rest : List ℕ) → is_name name ≡ true → stripped (codes ">") (name ++ rest) ≡ None
unfolding stripped
not_closed [] rest e = cc
not_closed (b ∷ bs) rest e =
    let all = (and_parts _ _ e).0 in
    let other : (62 == b) ≡ false = ne_eqb 62 b (λ same. lacks is_name_byte 62 (b ∷ bs) refl all 0 (omega arith) (sym same)) in
    rw other refl

pub suffix_again : (m : Bool) (rest text : List ℕ) → Stops rest → text ≡ nullable_suffix m ++ rest → after_nullable_suffix text ≡ rest
suffix_again m rest text s e = ap after_nullable_suffix e ∙ without_suffix m rest s

closed_struct : (limited : Bool) (around : List Enclosure) (after t rest : List ℕ) (m : Bool) (parts : Columns) → AreTyped limited parts → stripped (codes ">") after ≡ Some t
    → after ≡ fields_text plain parts ++ 62 ∷ (nullable_suffix m ++ rest) → Closes limited around rest → Closes limited around (after_nullable_suffix t)
unfolding fields_text AreTyped stripped
closed_struct limited around after t rest m no_column typed e is cl =
    let here : t ≡ nullable_suffix m ++ rest = same_Some t (nullable_suffix m ++ rest) (sym e ∙ ap (stripped (codes ">")) is) in
    subst (Closes limited around) (sym (suffix_again m rest t (closes_stop limited around rest cl) here)) cl
closed_struct limited around after t rest m (and_column c cs) typed e is cl =
    let other : stripped (codes ">") after ≡ None = ap (stripped (codes ">")) (is ∙ append_assoc (field_text plain c) (more_text plain cs) (62 ∷ (nullable_suffix m ++ rest)) ∙ field_is c (more_text plain cs ++ 62 ∷ (nullable_suffix m ++ rest))) ∙ not_closed (name_of c) _ (field_name limited c typed.0) in
    let never : None ≡ Some t = sym other ∙ e in cc

struct_field : (limited : Bool) (around : List Enclosure) (after rest : List ℕ) (m : Bool) (parts : Columns) → AreTyped limited parts → stripped (codes ">") after ≡ None
    → after ≡ fields_text plain parts ++ 62 ∷ (nullable_suffix m ++ rest) → Closes limited around rest → FieldThen limited around after
unfolding fields_text AreTyped stripped
struct_field limited around after rest m no_column typed e is cl = let never : None ≡ Some (nullable_suffix m ++ rest) = sym e ∙ ap (stripped (codes ">")) is in cc
struct_field limited around after rest m (and_column c cs) typed e is cl = record {
  first = c;
  others = cs;
  nullable = m;
  rest = rest;
  typed = typed.0;
  all_typed = typed.1;
  text_is = is ∙ append_assoc (field_text plain c) (more_text plain cs) (62 ∷ (nullable_suffix m ++ rest));
  closes = cl;
}

struct_back : (limited : Bool) (around : List Enclosure) (after : List ℕ) → FieldThen limited around after → Within limited around struct after
unfolding fields_text AreTyped
struct_back limited around after f = record {
  rest = f.rest;
  inside = (and_column f.first f.others, f.nullable, (f.typed, f.all_typed), f.text_is ∙ sym (append_assoc (field_text plain f.first) (more_text plain f.others) (62 ∷ (nullable_suffix f.nullable ++ f.rest))));
  closes = f.closes;
}

empty_back : (limited : Bool) (around : List Enclosure) (after t : List ℕ) → after ≡ 62 ∷ t → Closes limited around (after_nullable_suffix t) → Within limited around struct after
unfolding fields_text AreTyped
empty_back limited around after t e cl = record {
  rest = after_nullable_suffix t;
  inside = (no_column, has_nullable_suffix t, tt, e ∙ ap (λ (ys : List ℕ). 62 ∷ ys) (suffix_split t));
  closes = cl;
}

struct_by : (limited : Bool) (around : List Enclosure) (after : List ℕ) (o : Option (List ℕ)) → stripped (codes ">") after ≡ o → IfSome o (λ rest. after ≡ 62 ∷ rest)
    → MatchOption (option_or (option_map (λ rest. (None, after_nullable_suffix rest)) o) (option_map (λ p. (Some enclosures.Struct, p.1)) (name_at after)))
    (Within limited around struct after → ⊥) (λ p. Within limited around struct after ↔ StandsAt limited (after_opening around p))
struct_by limited around after (Some t) e known =
    (λ w. closed_struct limited around after t w.rest w.inside.1 w.inside.0 w.inside.2 e w.inside.3 w.closes, empty_back limited around after t known)
struct_by limited around after None e known =
    match_map (λ p. (Some enclosures.Struct, p.1)) (name_at after) (Within limited around struct after → ⊥) (λ p. Within limited around struct after ↔ StandsAt limited (after_opening around p))
    (match_iff (name_at after) (Within limited around struct after) (FieldThen limited around after) (λ p. Goes limited (enclosures.Struct ∷ around) p.1)
    (λ w. struct_field limited around after w.rest w.inside.1 w.inside.0 w.inside.2 e w.inside.3 w.closes, struct_back limited around after) (field_moves limited around after))

-- a list, whose item comes next
into_item : (limited : Bool) (one : Enclosure) (b : ℕ) (around : List Enclosure) (after rest : List ℕ) (item : Column) (m : Bool) → IsInside limited one [] → close_of one ≡ b ∷ [] → IsTypedItem limited item
    → after ≡ item_text plain item ++ b ∷ (nullable_suffix m ++ rest) → Closes limited around rest → Goes limited (one ∷ around) after
unfolding Closes
into_item limited one b around after rest item m none close typed is cl = record {
  item = item;
  rest = b ∷ (nullable_suffix m ++ rest);
  typed = typed;
  text_is = is;
  closes = record { inside = []; nullable = m; rest = rest; is_inside = none; text_is = ap (λ (c : List ℕ). c ++ nullable_suffix m ++ rest) (sym close); after = cl };
}

begun_moves : (limited : Bool) (around : List Enclosure) (f : Opening) (after : List ℕ)
    → MatchOption (begun f after) (Within limited around f after → ⊥) (λ p. Within limited around f after ↔ StandsAt limited (after_opening around p))
unfolding begun Closes
begun_moves limited around (flat kind index) after = (
  λ w. subst (Closes limited around) (sym (suffix_again w.inside.0 w.rest after (closes_stop limited around w.rest w.closes) w.inside.1)) w.closes,
  λ cl. record { rest = after_nullable_suffix after; inside = (has_nullable_suffix after, suffix_split after); closes = cl },
)
begun_moves limited around list after = (
  λ w. into_item limited enclosures.List 62 around after w.rest w.inside.0 w.inside.1 refl refl w.inside.2 w.inside.3 w.closes,
  λ g. record {
    rest = g.closes.rest;
    inside = (g.item, g.closes.nullable, g.typed, g.text_is ∙ ap (λ (ys : List ℕ). item_text plain g.item ++ ys) (g.closes.text_is ∙ ap (λ (i : List ℕ). i ++ codes ">" ++ nullable_suffix g.closes.nullable ++ g.closes.rest) g.closes.is_inside));
    closes = g.closes.after;
  },
)
begun_moves limited around large_list after = (
  λ w. into_item limited enclosures.List 62 around after w.rest w.inside.0 w.inside.1 refl refl w.inside.2 w.inside.3 w.closes,
  λ g. record {
    rest = g.closes.rest;
    inside = (g.item, g.closes.nullable, g.typed, g.text_is ∙ ap (λ (ys : List ℕ). item_text plain g.item ++ ys) (g.closes.text_is ∙ ap (λ (i : List ℕ). i ++ codes ">" ++ nullable_suffix g.closes.nullable ++ g.closes.rest) g.closes.is_inside));
    closes = g.closes.after;
  },
)
begun_moves limited around (fixed_list size) after = (
  λ w. into_item limited enclosures.FixedList 41 around after w.rest w.inside.0 w.inside.1 refl refl w.inside.2 w.inside.3 w.closes,
  λ g. record {
    rest = g.closes.rest;
    inside = (g.item, g.closes.nullable, g.typed, g.text_is ∙ ap (λ (ys : List ℕ). item_text plain g.item ++ ys) (g.closes.text_is ∙ ap (λ (i : List ℕ). i ++ codes ")" ++ nullable_suffix g.closes.nullable ++ g.closes.rest) g.closes.is_inside));
    closes = g.closes.after;
  },
)
begun_moves limited around struct after = struct_by limited around after (stripped (codes ">") after) refl (stripped_read (codes ">") after)

-- an item and the rest, after its opening
item_within : (limited : Bool) (around : List Enclosure) (text : List ℕ) (p : Opening × List ℕ) → opening_at limited text ≡ Some p → Goes limited around text → Within limited around p.0 p.1
item_within limited around text p e g =
    let s : Starts limited (item_text plain g.item ++ g.rest) g.rest = item_starts limited g.item g.rest g.typed (closes_stop limited around g.rest g.closes) in
    let one : (s.opening, s.after) ≡ p = same_Some (s.opening, s.after) p (sym s.read ∙ ap (opening_at limited) (sym g.text_is) ∙ e) in
    record { rest = g.rest; inside = subst (λ (q : Opening × List ℕ). Inside limited q.0 q.1 g.rest) one s.inside; closes = g.closes }

item_back : (limited : Bool) (around : List Enclosure) (text : List ℕ) (p : Opening × List ℕ) → IsOpening limited text p → Within limited around p.0 p.1 → Goes limited around text
item_back limited around text p h w =
    let i : Item limited text w.rest = joined limited p.0 text p.1 w.rest h w.inside in
    record { item = i.item; rest = w.rest; typed = i.typed; text_is = i.text_is; closes = w.closes }

before_by : (limited : Bool) (around : List Enclosure) (text : List ℕ) (o : Option (Opening × List ℕ)) → opening_at limited text ≡ o → IfSome o (IsOpening limited text)
    → MatchOption (option_map (after_opening around) (option_and_then (λ p. begun p.0 p.1) o)) (Goes limited around text → ⊥) (λ p. Goes limited around text ↔ StandsAt limited p)
before_by limited around text None e known = λ g.
    let s : Starts limited (item_text plain g.item ++ g.rest) g.rest = item_starts limited g.item g.rest g.typed (closes_stop limited around g.rest g.closes) in
    none-some _ (sym e ∙ ap (opening_at limited) g.text_is ∙ s.read)
before_by limited around text (Some p) e known =
    match_map (after_opening around) (begun p.0 p.1) (Goes limited around text → ⊥) (λ q. Goes limited around text ↔ StandsAt limited q)
    (match_iff (begun p.0 p.1) (Goes limited around text) (Within limited around p.0 p.1) (λ q. StandsAt limited (after_opening around q))
    (item_within limited around text p e, item_back limited around text p known) (begun_moves limited around p.0 p.1))

pub before_moves : (limited : Bool) (around : List Enclosure) (text : List ℕ) → MatchOption (step limited BeforeType around text) (Goes limited around text → ⊥) (λ p. Goes limited around text ↔ StandsAt limited p)
unfolding step
before_moves limited around text = before_by limited around text (opening_at limited text) refl (opening_read limited text)
