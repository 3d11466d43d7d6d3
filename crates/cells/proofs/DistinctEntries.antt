-- The entries are the distinct values, in the order in which they are first seen.
use Rattle.std.proofs.Common.{◌≡◌, ◌≢◌, ℕ, zero, suc, ◌<◌, ◌≤◌, ◌⊎◌, inl, inr, Bool, true, false, List, [], ◌∷◌, ◌++◌, length, get_or, refl, ap, sym, subst, ◌∙◌, arith, append_assoc, append-nil}
use Rattle.std.specs.Prelude.{Option, Some, None, if◌then◌else◌}
use Rattle.std.specs.Bool.{Decides}
use Rattle.std.specs.List.{list_any, Contains, AllPairs}
use Rattle.std.proofs.lemmas.Bool.{cases_lt}
use Rattle.std.proofs.lemmas.Bool.Decides.{Decides-int_eq}
use Rattle.std.proofs.lemmas.List.{get_or_append_left}
use Rattle.std.proofs.lemmas.List.Elements.{Contains-get_or, Contains-append_left, Contains-push, Contains-push_cases}
use Rattle.std.proofs.lemmas.List.Folds.{list_any_at}
use Rattle.std.proofs.lemmas.List.Quantifiers.{all_pairs_push}
use Rattle.std.proofs.lemmas.Map.Views.{Contains-from_any}
use Rattle.std.proofs.lemmas.Slice.Eq.{bytes_eq-Decides}
use Rattle.cells.specs.Cell.{Cell, null, boolean, number, text, bytes, items, parts}
use Rattle.cells.specs.Dictionary.{is_entry, entry_in, with_new, with_option, with_entry, with_entries, entries_of}
use Rattle.cells.specs.Entries.{IsSeenBefore, AreEntries}

-- ---- one entry is one value

pub decided : (a b : Cell) → entry_in a ≡ Some a → Decides (is_entry a b) (a ≡ b)
decided null b h = cc
decided (items cs) b h = cc
decided (parts cs) b h = cc
decided (boolean true) (boolean true) h = (λ _. refl, λ _. refl)
decided (boolean true) (boolean false) h = (λ e. cc, λ e. cc)
decided (boolean false) (boolean true) h = (λ e. cc, λ e. cc)
decided (boolean false) (boolean false) h = (λ _. refl, λ _. refl)
decided (number a) (number b) h = (λ e. ap number ((Decides-int_eq a b).0 e), λ e. (Decides-int_eq a b).1 cc)
decided (text a) (text b) h = (λ e. ap text ((bytes_eq-Decides a b).0 e), λ e. (bytes_eq-Decides a b).1 cc)
decided (bytes a) (bytes b) h = (λ e. ap bytes ((bytes_eq-Decides a b).0 e), λ e. (bytes_eq-Decides a b).1 cc)
decided _ _ h = (λ e. cc, λ e. cc)

one_value : (a b : Cell) → is_entry a b ≡ true → a ≡ b
one_value (boolean a) b h = (decided (boolean a) b refl).0 h
one_value (number a) b h = (decided (number a) b refl).0 h
one_value (text a) b h = (decided (text a) b refl).0 h
one_value (bytes a) b h = (decided (bytes a) b refl).0 h
one_value _ b h = cc

entry_is : (c e : Cell) → entry_in c ≡ Some e → e ≡ c
entry_is null e h = cc
entry_is _ e h = cc

-- ---- the entries have these properties

seen_more : (cells more : List Cell) (x y : Cell) → IsSeenBefore cells x y → IsSeenBefore (cells ++ more) x y
seen_more cells more x y s = record {
  front = s.front;
  behind = s.behind ++ more;
  begins = sym (append_assoc s.front s.behind more) ∙ ap (λ (xs : List Cell). xs ++ more) s.begins;
  has = s.has;
  lacks = s.lacks;
}

-- a cell that is no value, or is among the entries
kept : (cells es : List Cell) (c : Cell) → (entry_in c ≡ Some c → Contains es c) → AreEntries cells es → AreEntries (cells ++ c ∷ []) es
kept cells es c there are = record {
  values = λ x. (
    (λ h. let was = (are.values x).0 h in (was.0, Contains-append_left cells (c ∷ []) x was.1)),
    (λ h. elim (Contains-push_cases cells c x h.1) [
      | inl old ↦ (are.values x).1 (h.0, old)
      | inr e ↦ (let P : Cell → Type 0 = λ y. entry_in y ≡ Some y → Contains es y in subst P e there h.0)
    ]),
  );
  order = λ i j d lt within. seen_more cells (c ∷ []) _ _ (are.order i j d lt within);
}

-- one that is not
added : (cells es : List Cell) (c : Cell) → entry_in c ≡ Some c → ¬ Contains es c → AreEntries cells es → AreEntries (cells ++ c ∷ []) (es ++ c ∷ [])
added cells es c is new are = record {
  values = λ x. (
    (λ h. elim (Contains-push_cases es c x h) [
      | inl old ↦ (let was = (are.values x).0 old in (was.0, Contains-append_left cells (c ∷ []) x was.1))
      | inr e ↦ (let P : Cell → Type 0 = λ y. (entry_in y ≡ Some y) × Contains (cells ++ c ∷ []) y in subst P e (is, Contains-push cells c))
    ]),
    (λ h. elim (Contains-push_cases cells c x h.1) [
      | inl old ↦ Contains-append_left es (c ∷ []) x ((are.values x).1 (h.0, old))
      | inr e ↦ (let P : Cell → Type 0 = λ y. Contains (es ++ c ∷ []) y in subst P e (Contains-push es c))
    ]),
  );
  order = all_pairs_push (IsSeenBefore (cells ++ c ∷ [])) es c (λ i j d lt within. seen_more cells (c ∷ []) _ _ (are.order i j d lt within)) (λ k d within. record {
    front = cells;
    behind = c ∷ [];
    begins = refl;
    has = ((are.values (get_or es k d)).0 (Contains-get_or es k d within)).1;
    lacks = λ h. new ((are.values c).1 (is, h));
  });
}

found : (c : Cell) (es : List Cell) → entry_in c ≡ Some c → Contains es c → list_any (is_entry c) es ≡ true
found c es is h = list_any_at (is_entry c) es h.0 c h.1 (ap (is_entry c) h.2 ∙ (decided c c is).1 refl)

tested : (cells es : List Cell) (c : Cell) (b : Bool) → list_any (is_entry c) es ≡ b → entry_in c ≡ Some c → AreEntries cells es → AreEntries (cells ++ c ∷ []) (if b then es else es ++ c ∷ [])
tested cells es c true e is are = kept cells es c (λ _. Contains-from_any {eq = is_entry} one_value c es e) are
tested cells es c false e is are = added cells es c is (λ h. let yes = found c es is h in cc) are

one_more : (cells es : List Cell) (c : Cell) (o : Option Cell) → entry_in c ≡ o → AreEntries cells es → AreEntries (cells ++ c ∷ []) (with_option es o)
one_more cells es c None e are = kept cells es c (λ h. cc) are
one_more cells es c (Some x) e are =
    let same = entry_is c x e in
    let is : entry_in c ≡ Some c = e ∙ ap Some same in
    let P : Cell → Type 0 = λ y. AreEntries (cells ++ c ∷ []) (with_new es y) in
    subst P (sym same) (tested cells es c (list_any (is_entry c) es) refl is are)

all_more : (cells es more : List Cell) → AreEntries cells es → AreEntries (cells ++ more) (with_entries es more)
unfolding with_entries
all_more cells es [] are = let P : List Cell → Type 0 = λ xs. AreEntries xs es in subst P (sym (append-nil cells)) are
all_more cells es (c ∷ cs) are =
    let P : List Cell → Type 0 = λ xs. AreEntries xs (with_entries (with_entry es c) cs) in
    subst P (append_assoc cells (c ∷ []) cs) (all_more (cells ++ c ∷ []) (with_entry es c) cs (one_more cells es c (entry_in c) refl are))

none_among : {X : Type 0} (x : X) → Contains [] x → ⊥
none_among x h = let within = h.1 in omega (arith, within)

pub are_entries : (cells : List Cell) → AreEntries cells (entries_of cells)
are_entries cells = all_more [] [] cells (record {
  values = λ x. ((λ h. absurd (none_among x h)), (λ h. absurd (none_among x h.1)));
  order = λ i j d lt within. absurd (omega arith);
})

-- ---- and no other list has

in_longer : (f g a b : List Cell) (x : Cell) → f ++ a ≡ g ++ b → length f ≤ length g → Contains f x → Contains g x
in_longer f g a b x e le h =
    let within : h.0 < length g = omega (arith, h.1) in
    (h.0, within, sym (get_or_append_left g b x h.0 within) ∙ (ap (λ (xs : List Cell). get_or xs h.0 x) (sym e) ∙ (get_or_append_left f a x h.0 h.1 ∙ h.2)))

asymmetric : (cells : List Cell) (x y : Cell) → IsSeenBefore cells x y → IsSeenBefore cells y x → ⊥
asymmetric cells x y s t =
    elim (cases_lt (length s.front) (length t.front)) [
      | inl lt ↦ t.lacks (in_longer s.front t.front s.behind t.behind x (s.begins ∙ sym t.begins) (omega arith) s.has)
      | inr le ↦ s.lacks (in_longer t.front s.front t.behind s.behind y (t.begins ∙ sym s.begins) (omega arith) t.has)
    ]

head_or_tail : {X : Type 0} (x c : X) (xs : List X) → Contains (x ∷ xs) c → (x ≡ c) ⊎ Contains xs c
head_or_tail {X = X} x c xs h = at_place h.0 h.1 h.2 where
  at_place : (k : ℕ) → k < length (x ∷ xs) → get_or (x ∷ xs) k c ≡ c → (x ≡ c) ⊎ Contains xs c
  at_place zero lt e = inl e
  at_place (suc k) lt e = inr (k, omega arith, e)

head_among : {X : Type 0} (x : X) (xs : List X) → Contains (x ∷ xs) x
head_among x xs = (0, omega arith, refl)

tail_among : {X : Type 0} (x c : X) (xs : List X) → Contains xs c → Contains (x ∷ xs) c
tail_among x c xs h = (suc h.0, omega (arith, h.1), h.2)

head_before : {X : Type 0} (R : X → X → Type 0) (x c : X) (xs : List X) → AllPairs R (x ∷ xs) → Contains xs c → R x c
head_before {X = X} R x c xs pairs h = let P : X → Type 0 = λ y. R x y in subst P h.2 (pairs 0 (suc h.0) c (omega arith) (omega (arith, h.1)))

abbrev IsAsymmetric : {X : Type 0} → (X → X → Type 0) → Type 0
IsAsymmetric {X} R = (x y : X) → R x y → R y x → ⊥

heads_same : {X : Type 0} (R : X → X → Type 0) (x y : X) (xs ys : List X) → IsAsymmetric R → AllPairs R (x ∷ xs) → AllPairs R (y ∷ ys) → Contains (y ∷ ys) x → Contains (x ∷ xs) y → x ≡ y
heads_same R x y xs ys asym p q there back =
    elim (head_or_tail y x ys there) [
      | inl e ↦ sym e
      | inr behind ↦ elim (head_or_tail x y xs back) [
        | inl e ↦ e
        | inr ahead ↦ absurd (asym x y (head_before R x y xs p ahead) (head_before R y x ys q behind))
      ]
    ]

tail_there : {X : Type 0} (R : X → X → Type 0) (x y c : X) (xs ys : List X) → IsAsymmetric R → AllPairs R (x ∷ xs) → x ≡ y → Contains xs c → Contains (y ∷ ys) c → Contains ys c
tail_there {X = X} R x y c xs ys asym p e h there =
    elim (head_or_tail y c ys there) [
      | inl f ↦ (let P : X → Type 0 = λ z. R x z in let self = subst P (sym (e ∙ f)) (head_before R x c xs p h) in absurd (asym x x self self))
      | inr behind ↦ behind
    ]

-- two lists of the same values in one order are one list
one_order : {X : Type 0} (R : X → X → Type 0) → IsAsymmetric R → (xs ys : List X) → AllPairs R xs → AllPairs R ys
    → ((c : X) → Contains xs c → Contains ys c) → ((c : X) → Contains ys c → Contains xs c) → xs ≡ ys
one_order R asym [] [] p q there back = refl
one_order R asym [] (y ∷ ys) p q there back = absurd (none_among y (back y (head_among y ys)))
one_order R asym (x ∷ xs) [] p q there back = absurd (none_among x (there x (head_among x xs)))
one_order {X = X} R asym (x ∷ xs) (y ∷ ys) p q there back =
    let same = heads_same R x y xs ys asym p q (there x (head_among x xs)) (back y (head_among y ys)) in
    let rest = one_order R asym xs ys (λ i j d lt within. p (suc i) (suc j) d (omega arith) (omega arith)) (λ i j d lt within. q (suc i) (suc j) d (omega arith) (omega arith))
    (λ c h. tail_there R x y c xs ys asym p same h (there c (tail_among x c xs h)))
    (λ c h. tail_there R y x c ys xs asym q (sym same) h (back c (tail_among y c ys h))) in
    cc

pub only_entries : (cells es : List Cell) → AreEntries cells es → es ≡ entries_of cells
only_entries cells es are =
    let all = are_entries cells in
    one_order (IsSeenBefore cells) (asymmetric cells) es (entries_of cells) are.order all.order (λ c h. (all.values c).1 ((are.values c).0 h)) (λ c h. (are.values c).1 ((all.values c).0 h))

pub distinct_entries : (cells : List Cell) → AllPairs (λ a b. a ≢ b) (entries_of cells)
distinct_entries cells i j d lt within e =
    let before = (are_entries cells).order i j d lt within in
    let P : Cell → Type 0 = λ z. IsSeenBefore cells (get_or (entries_of cells) i d) z in
    let self = subst P (sym e) before in
    asymmetric cells _ _ self self
