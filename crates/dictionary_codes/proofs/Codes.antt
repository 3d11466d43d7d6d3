-- The places of cells among the entries of a dictionary, as entries are added one by one.
use Rattle.std.specs.Prelude.{Option, Some, None, IfSome, position, ℤ, pos, negsuc, not, set, is_some, replicate, ◌/◌, ◌||◌, if◌then◌else◌, get_or, ℕ}
use Rattle.std.specs.List.{flat_map, list_all, list_any, position_from, position_or_len}
use Rattle.std.proofs.Common.{◌≡◌, ◌≤◌, ◌<◌, ℕ, zero, suc, ◌+◌, ◌++◌, Bool, true, false, List, [], ◌∷◌, map, length, length-append, append_assoc, append-nil, inl, inr, refl, ap, ap₂, sym, ◌∙◌, subst, arith}
use Rattle.std.proofs.lemmas.Bool.{and_parts, cases_lt}
use Rattle.std.proofs.lemmas.Bool.Decides.{Decides-int_eq}
use Rattle.std.proofs.lemmas.Iterator.Adapters.{position_from-zero}
use Rattle.std.proofs.lemmas.List.{get_or-set_other, get_or-set_same, get_or_append_left, map-append, set_past}
use Rattle.std.proofs.lemmas.List.Folds.{list_any-append}
use Rattle.std.proofs.lemmas.Slice.Eq.{bytes_eq-Decides}
use Rattle.facts.specs.laws.Lists.{nowhere_from}
use Rattle.arrow_schema.specs.Column.{Index}
use Rattle.dictionary_codes.proofs.Known.{is_within}
use Rattle.dictionary_codes.specs.inner.Codes.{AreKnown, IsCoded, IsNumber, IsUnderway, IsWritten, code_in, known_at, noted, sized_code}
use Rattle.dictionary_codes.specs.CodedCells.{is_coded}
use Rattle.cells.specs.Cell.{Cell, null, boolean, number, text, bytes, items, parts}
use Rattle.cells.specs.Dictionary.{entry_in, entries_of, is_entry, with_entries, with_entry, with_new, with_option}
use Rattle.cells.specs.Nulls.{is_there}
use Rattle.cells.specs.laws.Entries.{entries_append}
use Rattle.columns.specs.Buildable.{is_null_or_entry}
use Rattle.columns.specs.Built.{index_bytes}
use Rattle.columns.specs.CellAt.{entry_at, named_number}
use Rattle.columns.specs.Texts.{has_utf8_texts}

-- ---- the first place at which a test passes

first_kept : {X : Type 0} (p : X → Bool) (xs ys : List X) (i : ℕ) → list_any p xs ≡ true → position_from p i (xs ++ ys) ≡ position_from p i xs
first_kept p [] ys i h = cc
first_kept p (x ∷ xs) ys i h = by (λ g. first_kept p xs ys (i + 1) g) (p x) h
  where
    by : (list_any p xs ≡ true → position_from p (i + 1) (xs ++ ys) ≡ position_from p (i + 1) xs) → (b : Bool) → (b || list_any p xs) ≡ true
        → (if b then Some i else position_from p (i + 1) (xs ++ ys)) ≡ (if b then Some i else position_from p (i + 1) xs)
    by later true g = refl
    by later false g = later g

first_found : {X : Type 0} (p : X → Bool) (xs : List X) (i : ℕ) → list_any p xs ≡ true → position_from p i xs ≡ Some (i + position_or_len p xs)
first_found p [] i h = cc
first_found p (x ∷ xs) i h = by (λ g. first_found p xs (i + 1) g) (p x) h
  where
    by : (list_any p xs ≡ true → position_from p (i + 1) xs ≡ Some (i + 1 + position_or_len p xs)) → (b : Bool) → (b || list_any p xs) ≡ true
        → (if b then Some i else position_from p (i + 1) xs) ≡ Some (i + (if not b then 1 + position_or_len p xs else 0))
    by later true g = let e : i ≡ i + 0 = omega arith in ap Some e
    by later false g = let e : i + 1 + position_or_len p xs ≡ i + (1 + position_or_len p xs) = omega arith in later g ∙ ap Some e

found_at : {X : Type 0} (p : X → Bool) (xs : List X) → list_any p xs ≡ true → position p xs ≡ Some (position_or_len p xs)
found_at p xs h = let e : 0 + position_or_len p xs ≡ position_or_len p xs = omega arith in position_from-zero p xs ∙ first_found p xs 0 h ∙ ap Some e

kept : {X : Type 0} (p : X → Bool) (xs ys : List X) → list_any p xs ≡ true → position p (xs ++ ys) ≡ position p xs
kept p xs ys h = position_from-zero p (xs ++ ys) ∙ first_kept p xs ys 0 h ∙ sym (position_from-zero p xs)

any_kept : {X : Type 0} (p : X → Bool) (xs ys : List X) → list_any p xs ≡ true → list_any p (xs ++ ys) ≡ true
any_kept p xs ys h = list_any-append p xs ys ∙ rw h refl

-- ---- entries

no_code : (test : Cell → Bool) (cells : List Cell) → ((c : Cell) → test c ≡ false) → None ≡ position test cells
no_code test cells never = sym (position_from-zero test cells ∙ nowhere_from test cells 0 never)

both_ways : (b : Bool) → (if b then b else not b) ≡ true
both_ways true = refl
both_ways false = refl

-- a value is the entry that it is added as
pub is_itself : (c : Cell) → is_some (entry_in c) ≡ true → is_entry c c ≡ true
is_itself (boolean b) h = both_ways b
is_itself (number n) h = (Decides-int_eq n n).1 refl
is_itself (text t) h = (bytes_eq-Decides t t).1 refl
is_itself (bytes t) h = (bytes_eq-Decides t t).1 refl
is_itself _ h = cc

longer : (es : List Cell) (e : Cell) → es ++ e ∷ [] ≡ es → false ≡ true
longer es e h =
    let same : length (es ++ e ∷ []) ≡ length es = ap length h in
    let more : length (es ++ e ∷ []) ≡ length es + 1 = length-append es (e ∷ []) in
    absurd (omega arith)

is_found : (es : List Cell) (e : Cell) → with_new es e ≡ es → list_any (is_entry e) es ≡ true
is_found es e h = by (list_any (is_entry e) es) h
  where
    by : (b : Bool) → (if b then es else es ++ e ∷ []) ≡ es → b ≡ true
    by true g = refl
    by false g = longer es e g

new_stays : (es ys : List Cell) (e : Cell) → with_new es e ≡ es → (with_new (es ++ ys) e ≡ es ++ ys) × (code_in (es ++ ys) e ≡ code_in es e)
new_stays es ys e h =
    let here : list_any (is_entry e) es ≡ true = is_found es e h in
    let more : list_any (is_entry e) (es ++ ys) ≡ true = any_kept (is_entry e) es ys here in
    (rw more refl, kept (is_entry e) es ys here)

-- a cell that adds nothing adds nothing to more entries either, and its place stays
cell_stays : (es ys : List Cell) (c : Cell) → with_entry es c ≡ es → (with_entry (es ++ ys) c ≡ es ++ ys) × (code_in (es ++ ys) c ≡ code_in es c)
cell_stays es ys null h = (refl, sym (no_code (is_entry null) (es ++ ys) (λ c. refl)) ∙ no_code (is_entry null) es (λ c. refl))
cell_stays es ys (boolean b) h = new_stays es ys (boolean b) h
cell_stays es ys (number n) h = new_stays es ys (number n) h
cell_stays es ys (text t) h = new_stays es ys (text t) h
cell_stays es ys (bytes t) h = new_stays es ys (bytes t) h
cell_stays es ys (items cs) h = (refl, sym (no_code (is_entry (items cs)) (es ++ ys) (λ c. refl)) ∙ no_code (is_entry (items cs)) es (λ c. refl))
cell_stays es ys (parts cs) h = (refl, sym (no_code (is_entry (parts cs)) (es ++ ys) (λ c. refl)) ∙ no_code (is_entry (parts cs)) es (λ c. refl))

found_new : (es : List Cell) (e : Cell) → is_entry e e ≡ true → list_any (is_entry e) (with_new es e) ≡ true
found_new es e own = by (list_any (is_entry e) es) refl
  where
    by : (b : Bool) → list_any (is_entry e) es ≡ b → list_any (is_entry e) (if b then es else es ++ e ∷ []) ≡ true
    by true h = h
    by false h = list_any-append (is_entry e) es (e ∷ []) ∙ rw (h, own) refl

new_twice : (es : List Cell) (e : Cell) → is_entry e e ≡ true → with_new (with_new es e) e ≡ with_new es e
new_twice es e own = let found : list_any (is_entry e) (with_new es e) ≡ true = found_new es e own in rw found refl

-- what was added adds nothing
twice : (es : List Cell) (c : Cell) → with_entry (with_entry es c) c ≡ with_entry es c
twice es (boolean b) = new_twice es (boolean b) (is_itself (boolean b) refl)
twice es (number n) = new_twice es (number n) (is_itself (number n) refl)
twice es (text t) = new_twice es (text t) (is_itself (text t) refl)
twice es (bytes t) = new_twice es (bytes t) (is_itself (bytes t) refl)
twice es _ = refl

abbrev Adds : (es new : List Cell) → Type 0
Adds es new = (ys : List Cell) × (new ≡ es ++ ys)

option_adds : (es : List Cell) (o : Option Cell) → Adds es (with_option es o)
option_adds es None = ([], sym (append-nil es))
option_adds es (Some c) = by (list_any (is_entry c) es)
  where
    by : (b : Bool) → Adds es (if b then es else es ++ c ∷ [])
    by true = ([], sym (append-nil es))
    by false = (c ∷ [], refl)

adds : (es : List Cell) (cs : List Cell) → Adds es (with_entries es cs)
unfolding with_entries
adds es [] = ([], sym (append-nil es))
adds es (c ∷ cs) =
    let first : Adds es (with_entry es c) = option_adds es (entry_in c) in
    let rest : Adds (with_entry es c) (with_entries (with_entry es c) cs) = adds (with_entry es c) cs in
    (first.0 ++ rest.0, rest.1 ∙ ap (λ (xs : List Cell). xs ++ rest.0) first.1 ∙ append_assoc es first.0 rest.0)

-- the place of what was added stays
code_stays : (es cs : List Cell) (c : Cell) → code_in (with_entries (with_entry es c) cs) c ≡ code_in (with_entry es c) c
code_stays es cs c =
    let more : Adds (with_entry es c) (with_entries (with_entry es c) cs) = adds (with_entry es c) cs in
    ap (λ (xs : List Cell). code_in xs c) more.1 ∙ (cell_stays (with_entry es c) more.0 c (twice es c)).1

-- ---- codes, cell by cell

pub begun : (start : List Cell) (all : List Cell) → IsUnderway start all start [] all
begun start all = record { entries = refl; codes = λ more. refl }

pub one_coded : (start : List Cell) (all es : List Cell) (codes : List (Option ℕ)) (c : Cell) (left es' : List Cell) (k : Option ℕ)
    → IsUnderway start all es codes (c ∷ left) → es' ≡ with_entry es c → k ≡ code_in es' c → IsUnderway start all es' (codes ++ k ∷ []) left
unfolding with_entries
one_coded start all es codes c left es' k h added code = record {
  entries = ap (λ (xs : List Cell). with_entries xs left) added ∙ h.entries;
  codes = λ more.
      let final : List Cell = with_entries (with_entries start all) more in
      let own : k ≡ code_in final c =
      code ∙ ap (λ (xs : List Cell). code_in xs c) added ∙ sym (code_stays es (left ++ more) c)
      ∙ ap (λ (xs : List Cell). code_in xs c) (entries_append (with_entry es c) left more ∙ ap (λ (xs : List Cell). with_entries xs more) h.entries) in
      append_assoc codes (k ∷ []) (map (code_in final) left) ∙ ap (λ (j : Option ℕ). codes ++ j ∷ map (code_in final) left) own ∙ h.codes more;
}

pub some_coded : (start : List Cell) (all es : List Cell) (codes : List (Option ℕ)) (cs left es' : List Cell) (codes' : List (Option ℕ))
    → IsUnderway start all es codes (cs ++ left) → IsCoded es es' codes' cs → IsUnderway start all es' (codes ++ codes') left
some_coded start all es codes cs left es' codes' h coded =
    let whole : with_entries es' left ≡ with_entries start all = ap (λ (xs : List Cell). with_entries xs left) coded.entries ∙ sym (entries_append es cs left) ∙ h.entries in
    record {
      entries = whole;
      codes = λ more.
          let final : List Cell = with_entries (with_entries start all) more in
          let same : with_entries es' (left ++ more) ≡ final = entries_append es' left more ∙ ap (λ (xs : List Cell). with_entries xs more) whole in
          let own : codes' ≡ map (code_in final) cs = coded.places (left ++ more) ∙ ap (λ (xs : List Cell). map (code_in xs) cs) same in
          append_assoc codes codes' (map (code_in final) left)
          ∙ ap (λ (ks : List (Option ℕ)). codes ++ (ks ++ map (code_in final) left)) own
          ∙ ap (λ (ks : List (Option ℕ)). codes ++ ks) (sym (map-append (code_in final) cs left))
          ∙ h.codes more;
    }

pub all_coded : (start : List Cell) (all es : List Cell) (codes : List (Option ℕ)) → IsUnderway start all es codes [] → IsCoded start es codes all
unfolding with_entries
all_coded start all es codes h = record {
  entries = h.entries;
  places = λ more. sym (append-nil codes) ∙ h.codes more ∙ ap (λ (xs : List Cell). map (code_in (with_entries xs more)) all) (sym h.entries);
}

pub nulls_add_nothing : (es : List Cell) (n : ℕ) → with_entries es (replicate n null) ≡ es
unfolding with_entries
nulls_add_nothing es zero = refl
nulls_add_nothing es (suc n) = nulls_add_nothing es n

nulls_have_none : (es : List Cell) (n : ℕ) → replicate n None ≡ map (code_in es) (replicate n null)
nulls_have_none es zero = refl
nulls_have_none es (suc n) = ap₂ (λ (k : Option ℕ) (ks : List (Option ℕ)). k ∷ ks) (no_code (is_entry null) es (λ c. refl)) (nulls_have_none es n)

pub nulls_coded : (es : List Cell) (n : ℕ) → IsCoded es es (replicate n None) (replicate n null)
nulls_coded es n = record { entries = sym (nulls_add_nothing es n); places = λ more. nulls_have_none (with_entries es more) n }

-- a cell that is no entry has no code
pub none_coded : (es : List Cell) (c : Cell) → None ≡ entry_in c → None ≡ code_in es c
none_coded es null is = no_code (is_entry null) es (λ c. refl)
none_coded es (items cs) is = no_code (is_entry (items cs)) es (λ c. refl)
none_coded es (parts cs) is = no_code (is_entry (parts cs)) es (λ c. refl)
none_coded es _ is = cc

pub entry_is : (c e : Cell) → Some e ≡ entry_in c → e ≡ c
entry_is null e is = cc
entry_is _ e is = cc

-- a null has no code, and adds nothing
pub null_code : (es : List Cell) (c : Cell) → c ≡ null → (es ≡ with_entry es c) × (None ≡ code_in es c)
null_code es c is = (ap (with_entry es) (sym is), no_code (is_entry null) es (λ d. refl) ∙ ap (code_in es) (sym is))

-- ---- what is known of the entries of an array's own dictionary

-- what was seen under a number stays
entry_stays : (seen : List Cell) (d c : Cell) (k : ℕ) → is_entry c (get_or seen k null) ≡ true → is_entry c (get_or (with_entry seen d) k null) ≡ true
entry_stays seen d c k is =
    let more : Adds seen (with_entry seen d) = option_adds seen (entry_in d) in
    ap (λ (xs : List Cell). is_entry c (get_or xs k null)) more.1 ∙ ap (is_entry c) (get_or_append_left seen more.0 null k (is_within seen c k is)) ∙ is

pub numbers_stay : (seen : List Cell) (d : Cell) (n : ℕ) → n < length seen → get_or (with_entry seen d) n null ≡ get_or seen n null
numbers_stay seen d n within =
    let more : Adds seen (with_entry seen d) = option_adds seen (entry_in d) in
    ap (λ (xs : List Cell). get_or xs n null) more.1 ∙ get_or_append_left seen more.0 null n within

pub seen_grows : (seen : List Cell) (d : Cell) → length seen ≤ length (with_entry seen d)
seen_grows seen d =
    let more : Adds seen (with_entry seen d) = option_adds seen (entry_in d) in
    let count : length (with_entry seen d) ≡ length seen + length more.0 = ap length more.1 ∙ length-append seen more.0 in
    omega (arith, count)

pub known_more : (seen own : List Cell) (known : List (Option ℕ)) (d : Cell) → AreKnown seen own known → AreKnown (with_entry seen d) own known
known_more seen own known d h n k some = entry_stays seen d (get_or own n null) k (h n k some)

pub is_known : (seen own : List Cell) (known : List (Option ℕ)) (z : ℤ) (k : ℕ) → AreKnown seen own known → Some k ≡ known_at known (named_number z)
    → is_entry (entry_at own z) (get_or seen k null) ≡ true
is_known seen own known (pos n) k h is = h n k is
is_known seen own known (negsuc n) k h is = cc

-- a number that was reported only if it is small is the one that an index names
pub known_named : (known : List (Option ℕ)) (named number : Option ℕ) (k : ℕ) → IfSome number (λ n. named ≡ Some n) → Some k ≡ known_at known number → Some k ≡ known_at known named
known_named known named None k h is = cc
known_named known named (Some n) k h is = rw h is

set_known : (seen own : List Cell) (known : List (Option ℕ)) (n : ℕ) (code : Option ℕ) → AreKnown seen own known
    → IsNumber (with_entry seen (get_or own n null)) code (get_or own n null) → AreKnown (with_entry seen (get_or own n null)) own (set known n code)
set_known seen own known n code h is m k some =
    let c : Cell = get_or own n null in
    let after : List Cell = with_entry seen c in
    let other : get_or (set known n code) m None ≡ get_or known m None → is_entry (get_or own m null) (get_or after k null) ≡ true =
    λ e. entry_stays seen c (get_or own m null) k (h m k (some ∙ e)) in
    elim (cases_lt n (length known)) [
      | inl within ↦ elim (cases_lt m n) [
        | inl below ↦ other (get_or-set_other known n m code None (omega arith))
        | inr le ↦ elim (cases_lt n m) [
          | inl above ↦ other (get_or-set_other known n m code None (omega arith))
          | inr ge ↦
              let e : m ≡ n = omega arith in
              let here : Some k ≡ code = some ∙ ap (λ (j : ℕ). get_or (set known n code) j None) e ∙ get_or-set_same known n code None within in
              let own_is : is_entry c (get_or after k null) ≡ true = subst (λ (o : Option ℕ). IsNumber after o c) (sym here) is in
              ap (λ (j : ℕ). is_entry (get_or own j null) (get_or after k null)) e ∙ own_is
        ]
      ]
      | inr past ↦ other (ap (λ (ks : List (Option ℕ)). get_or ks m None) (set_past known n code past))
    ]

pub noted_known : (seen own : List Cell) (known : List (Option ℕ)) (z : ℤ) (code : Option ℕ) → AreKnown seen own known
    → ((k : ℕ) → code ≡ Some k → is_entry (entry_at own z) (get_or (with_entry seen (entry_at own z)) k null) ≡ true)
    → AreKnown (with_entry seen (entry_at own z)) own (noted known (named_number z) code)
noted_known seen own known (pos n) None h is = known_more seen own known (entry_at own (pos n)) h
noted_known seen own known (pos n) (Some k) h is = set_known seen own known n (Some k) h (is k refl)
noted_known seen own known (negsuc n) code h is = known_more seen own known null h

-- of a number only a small one is noted
pub small_number : (seen : List Cell) (c : Cell) (named small : Option ℕ) → IfSome small (λ k. named ≡ Some k) → IsNumber seen named c
    → (k : ℕ) → small ≡ Some k → is_entry c (get_or seen k null) ≡ true
small_number seen c named None h is k e = cc
small_number seen c named (Some j) h is k e =
    let same : j ≡ k = cc in
    let own : is_entry c (get_or seen j null) ≡ true = subst (λ (o : Option ℕ). IsNumber seen o c) h is in
    ap (λ (n : ℕ). is_entry c (get_or seen n null)) (sym same) ∙ own

-- ---- indices, and which cells have one

code_there : (es : List Cell) (c : Cell) → is_null_or_entry c ≡ true → is_some (code_in (with_entry es c) c) ≡ is_there c
code_there es null h = ap is_some (sym (no_code (is_entry null) es (λ c. refl)))
code_there es (boolean b) h = ap is_some (found_at (is_entry (boolean b)) (with_new es (boolean b)) (found_new es (boolean b) (is_itself (boolean b) refl)))
code_there es (number n) h = ap is_some (found_at (is_entry (number n)) (with_new es (number n)) (found_new es (number n) (is_itself (number n) refl)))
code_there es (text t) h = ap is_some (found_at (is_entry (text t)) (with_new es (text t)) (found_new es (text t) (is_itself (text t) refl)))
code_there es (bytes t) h = ap is_some (found_at (is_entry (bytes t)) (with_new es (bytes t)) (found_new es (bytes t) (is_itself (bytes t) refl)))
code_there es (items cs) h = cc
code_there es (parts cs) h = cc

all_there : (es cells : List Cell) → list_all is_coded cells ≡ true → map is_there cells ≡ map is_some (map (code_in (with_entries es cells)) cells)
unfolding with_entries
all_there es [] h = refl
all_there es (c ∷ cs) h =
    let both = and_parts (is_coded c) (list_all is_coded cs) h in
    let own = and_parts (is_null_or_entry c) (has_utf8_texts c) both.0 in
    ap₂ (λ (b : Bool) (bs : List Bool). b ∷ bs) (sym (ap is_some (code_stays es cs c) ∙ code_there es c own.0)) (all_there (with_entry es c) cs both.1)

same_bytes : (index : Index) (es cells : List Cell) → flat_map (sized_code (index.bits / 8)) (map (code_in es) cells) ≡ flat_map (index_bytes index es) cells
same_bytes index es [] = refl
same_bytes index es (c ∷ cs) = ap (λ (xs : List ℕ). index_bytes index es c ++ xs) (same_bytes index es cs)

-- each cell has an index but nulls
pub valid_are : (size : ℕ) (cells es : List Cell) (indices : List ℕ) (valid : List Bool) → list_all is_coded cells ≡ true → IsWritten size [] es indices valid cells
    → valid ≡ map is_there cells
unfolding with_entries
valid_are size cells es indices valid h written =
    let same : written.codes ≡ map (code_in (entries_of cells)) cells =
    written.coded.places [] ∙ ap (λ (xs : List Cell). map (code_in xs) cells) written.coded.entries in
    written.valid ∙ ap (map is_some) same ∙ sym (all_there [] cells h)

pub indices_are : (index : Index) (cells es : List Cell) (indices : List ℕ) (valid : List Bool) → IsWritten (index.bits / 8) [] es indices valid cells
    → indices ≡ flat_map (index_bytes index (entries_of cells)) cells
unfolding with_entries
indices_are index cells es indices valid written =
    let same : written.codes ≡ map (code_in (entries_of cells)) cells =
    written.coded.places [] ∙ ap (λ (xs : List Cell). map (code_in xs) cells) written.coded.entries in
    written.indices ∙ ap (flat_map (sized_code (index.bits / 8))) same ∙ same_bytes index (entries_of cells) cells
