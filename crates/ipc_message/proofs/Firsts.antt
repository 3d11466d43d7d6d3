-- The first field of each dictionary id: where each field has the type of its first, no two of one id differ.
use Rattle.std.proofs.Common.{◌≡◌, ◌<◌, ⊎_elim, ℕ, suc, ◌+◌, ◌==◌, ◌||◌, ◌&&◌, not, Bool, true, false, List, [], ◌∷◌, length, slice_get, refl, ap, sym, ◌∙◌, arith}
use Rattle.std.specs.Prelude.{Option, Some, None, option_map, get_or}
use Rattle.std.specs.List.{list_any}
use Rattle.std.proofs.lemmas.Option.{slice_get_within, slice_get-map, slice_get-get_or}
use Rattle.std.proofs.lemmas.Bool.{false≢true, eqb-true, eq-eqb, cases_lt}
use Rattle.std.proofs.lemmas.Map.Keys.{any_passes_from_place}
use Rattle.ipc_message.specs.declared.fields.FieldRef.{FieldRef}
use Rattle.ipc_message.specs.Raw.{RawEncoding, RawField}
use Rattle.ipc_message.specs.View.{raw_field_of}
use Rattle.ipc_message.specs.inner.Listed.{listed}
use Rattle.ipc_message.specs.Fields.{dictionary_of}
use Rattle.ipc_message.specs.Same.{has_id, one_id, same_value_type}
use Rattle.ipc_message.specs.Checks.{are_at_odds, has_other_type, has_two_types}
use Rattle.ipc_message.specs.inner.Firsts.{Adds}
use Rattle.ipc_message.proofs.Deciding.{same_by_third}

-- the first field of an id has that id
abbrev pub HaveIds : List RawField → (ℕ → Option ℕ) → Type 0
HaveIds fields first = (id k : ℕ) → first id ≡ Some k → (g : RawField) × (slice_get fields k ≡ Some g) × (has_id id (dictionary_of g) ≡ true)

-- a field with a dictionary has the type of the first field of its id
abbrev pub HasFirst : List RawField → (ℕ → Option ℕ) → RawField → ℕ → Type 0
HasFirst fields first f id = (k : ℕ) × (g : RawField) × (first id ≡ Some k) × (slice_get fields k ≡ Some g) × (same_value_type g f ≡ true)

-- each of the fields before one has
abbrev pub HaveFirsts : List RawField → (ℕ → Option ℕ) → ℕ → Type 0
HaveFirsts fields first count = (j : ℕ) (f : RawField) (e : RawEncoding) → j < count → slice_get fields j ≡ Some f → dictionary_of f ≡ Some e → HasFirst fields first f e.id

none_any : {X : Type 0} (p : X → Bool) (xs : List X) → ((i : ℕ) (x : X) → slice_get xs i ≡ Some x → p x ≡ false) → list_any p xs ≡ false
none_any p [] h = refl
none_any p (x ∷ xs) h = ap (λ (b : Bool). b || list_any p xs) (h 0 x refl) ∙ none_any p xs (λ i. h (suc i))

-- two fields that have the type of the first of their ids are not at odds
agree_by_ids : (fields : List RawField) (first : ℕ → Option ℕ) (f g : RawField) (d e : RawEncoding) → HasFirst fields first f d.id → HasFirst fields first g e.id
    → (b : Bool) → (d.id == e.id) ≡ b → (b && not (same_value_type f g)) ≡ false
agree_by_ids fields first f g d e p q false h = refl
agree_by_ids fields first f g d e p q true h =
    let one : d.id ≡ e.id = eqb-true d.id e.id h in
    let places : Some p.0 ≡ Some q.0 = sym p.2 ∙ ap first one ∙ q.2 in
    let place : p.0 ≡ q.0 = cc in
    let thirds : Some p.1 ≡ Some q.1 = sym p.3 ∙ ap (λ (k : ℕ). slice_get fields k) place ∙ q.3 in
    let third : p.1 ≡ q.1 = cc in
    ap not (same_by_third p.1 f g p.4 (ap (λ (h : RawField). same_value_type h g) third ∙ q.4))

agree_by_dictionaries : (fields : List RawField) (first : ℕ → Option ℕ) (f g : RawField) (x y : Option RawEncoding)
    → ((e : RawEncoding) → x ≡ Some e → HasFirst fields first f e.id) → ((e : RawEncoding) → y ≡ Some e → HasFirst fields first g e.id)
    → (one_id x y && not (same_value_type f g)) ≡ false
agree_by_dictionaries fields first f g None y p q = refl
agree_by_dictionaries fields first f g (Some d) None p q = refl
agree_by_dictionaries fields first f g (Some d) (Some e) p q = agree_by_ids fields first f g d e (p d refl) (q e refl) (d.id == e.id) refl

pub no_two_types : (fields : List RawField) (first : ℕ → Option ℕ) (count : ℕ) → count ≡ length fields → HaveFirsts fields first count → has_two_types fields ≡ false
unfolding has_other_type
no_two_types fields first count all firsts =
    none_any (has_other_type fields) fields
    (λ i f at. none_any (are_at_odds f) fields
    (λ j g there. agree_by_dictionaries fields first f g (dictionary_of f) (dictionary_of g) (λ e is. firsts i f e (before i f at) at is) (λ e is. firsts j g e (before j g there) there is)))
  where
    before : (i : ℕ) (f : RawField) → slice_get fields i ≡ Some f → i < count
    before i f at = omega (arith, all, slice_get_within fields i f at)

with_id : (o : Option RawEncoding) (e : RawEncoding) → has_id e.id o ≡ true → one_id o (Some e) ≡ true
with_id None e h = absurd (false≢true h)
with_id (Some d) e h = eq-eqb d.id e.id (sym (eqb-true e.id d.id h))

-- a field that differs from the first of its id
pub two_types : (fields : List RawField) (i k : ℕ) (f g : RawField) (e : RawEncoding) → slice_get fields i ≡ Some f → dictionary_of f ≡ Some e → slice_get fields k ≡ Some g → has_id e.id (dictionary_of g) ≡ true
    → same_value_type g f ≡ false → has_two_types fields ≡ true
unfolding has_other_type
two_types fields i k f g e at is there id differs =
    any_passes_from_place (has_other_type fields) fields k g there
    (any_passes_from_place (are_at_odds g) fields i f at (ap (λ (o : Option RawEncoding). one_id (dictionary_of g) o && not (same_value_type g f)) is ∙ ap (λ (b : Bool). b && not (same_value_type g f)) (with_id (dictionary_of g) e id) ∙ ap not differs))

pub ids_stay : (fields : List RawField) (old new : ℕ → Option ℕ) (i found : ℕ) (f : RawField) (e : RawEncoding) → slice_get fields i ≡ Some f → dictionary_of f ≡ Some e
    → Adds old new e.id i found → HaveIds fields old → HaveIds fields new
ids_stay fields old new i found f e at is adds have id k named =
    ⊎_elim (have id k)
    (λ now. (f, ap (λ (n : ℕ). slice_get fields n) now.1 ∙ at, ap (λ (o : Option RawEncoding). has_id id o) is ∙ ap (λ (n : ℕ). n == e.id) now.0 ∙ eq-eqb e.id e.id refl))
    (adds.added id k named)

-- one field more has the type of the first of its id
pub firsts_stay : (fields : List RawField) (old new : ℕ → Option ℕ) (i found : ℕ) (f g : RawField) (e : RawEncoding) → slice_get fields i ≡ Some f → dictionary_of f ≡ Some e → Adds old new e.id i found
    → slice_get fields found ≡ Some g → same_value_type g f ≡ true → HaveFirsts fields old i → HaveFirsts fields new (i + 1)
firsts_stay fields old new i found f g e at is adds there same firsts j h d below stands named =
    ⊎_elim
    (λ less. let was : HasFirst fields old h d.id = firsts j h d less stands named in (was.0, was.1, adds.kept d.id was.0 was.2, was.3, was.4))
    (λ more.
    let last : j ≡ i = omega (arith, below, more) in
    let fields_one : Some h ≡ Some f = sym stands ∙ ap (λ (n : ℕ). slice_get fields n) last ∙ at in
    let field : h ≡ f = cc in
    let encodings : Some d ≡ Some e = sym named ∙ ap dictionary_of field ∙ is in
    let encoding : d ≡ e = cc in
    (found, g, ap (λ (x : RawEncoding). new x.id) encoding ∙ adds.first, there, ap (λ (x : RawField). same_value_type g x) field ∙ same))
    (cases_lt j i)

-- one field more has no dictionary
pub firsts_skip : (fields : List RawField) (first : ℕ → Option ℕ) (i : ℕ) (f : RawField) → slice_get fields i ≡ Some f → dictionary_of f ≡ None → HaveFirsts fields first i → HaveFirsts fields first (i + 1)
firsts_skip fields first i f at none firsts j h d below stands named =
    ⊎_elim
    (λ less. firsts j h d less stands named)
    (λ more.
    let last : j ≡ i = omega (arith, below, more) in
    let fields_one : Some h ≡ Some f = sym stands ∙ ap (λ (n : ℕ). slice_get fields n) last ∙ at in
    let field : h ≡ f = cc in
    let encodings : Some d ≡ None = sym named ∙ ap dictionary_of field ∙ none in
    absurd (cc))
    (cases_lt j i)

-- a field of the code, at its place
pub listed_at : (fields : List FieldRef) (i : ℕ) (d : FieldRef) → i < length fields → slice_get (listed fields) i ≡ Some (raw_field_of (get_or fields i d).field.now)
listed_at fields i d few =
    slice_get-map (λ (x : FieldRef). raw_field_of x.field.now) fields i ∙ ap (λ (o : Option FieldRef). option_map (λ (x : FieldRef). raw_field_of x.field.now) o) (slice_get-get_or fields i d few)
