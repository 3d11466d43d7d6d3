-- Tests of several spans, and the loops over them.
use Rattle.std.specs.Prelude.{◌||◌, nat_lt, nat_le}
use Rattle.std.specs.List.{list_any, list_all}
use Rattle.std.proofs.Common.{◌≡◌, ℕ, ◌+◌, ◌-◌, ◌*◌, ◌≤◌, ◌<◌, Bool, true, false, List, [], ◌∷◌, ◌++◌, length, map, take, drop, get_or, refl, arith, sym, ap, ◌∙◌}
use Rattle.std.proofs.Math.Bool.{or-false, or_assoc}
use Rattle.std.proofs.lemmas.Bool.{and_parts, and_from, leb-true, le-leb, ltb-true, lt-ltb}
use Rattle.std.proofs.lemmas.List.{drop_all, drop_more, map-append, take_all, take_more}
use Rattle.std.proofs.lemmas.List.Folds.{list_any-append}
use Rattle.arrays.proofs.KindWeights.{fixed_within}
use Rattle.facts.specs.laws.Lists.{drop-item, all_pushed}
use Rattle.arrow_schema.specs.Column.{Kind, Column, Columns, lists, large_lists, fixed_lists, structs, no_column, and_column}
use Rattle.arrow_schema.specs.declared.types.Field.{Field, out-Field}
use Rattle.arrow_schema.specs.View.{column_of, kind_of}
use Rattle.columns.specs.declared.array.PlacedArray.{PlacedArray}
use Rattle.columns.specs.declared.array.Dictionary.{Dictionary}
use Rattle.columns.specs.Array.{Array, Arrays, slots_in, items_in, offsets_in, children_in, first_array, other_arrays}
use Rattle.columns.specs.CellAt.{is_valid, number_at, span_start}
use Rattle.columns.specs.Sound.{are_sound}
use Rattle.columns.specs.Tests.{are_unordered}
use Rattle.columns.specs.View.{placed_arrays, fields_of}
use Rattle.columns.specs.Visible.{Slot, slot, visible_in}
use Rattle.columns.specs.laws.Offsets.{spans_fit}
use Rattle.columns.specs.laws.Rows.{fewer_sound}
use Rattle.arrays.specs.declared.visible.slot_test.SlotTest.{SlotTest}
use Rattle.arrays.specs.declared.visible.span_list.SlotSpan.{SlotSpan}
use Rattle.arrays.specs.inner.MayFind.{may_find_own, may_find_below}
use Rattle.arrays.specs.inner.SpanLists.{any_slot_of, any_visible_of, any_below_of, any_below_runs, any_part_of, is_within, are_within, is_inside, are_inside, is_run, are_runs, are_long_for, item_span, fixed_item_span}
use Rattle.arrays.specs.inner.VisibleSpans.{any_slot, any_visible, any_below, any_valid_below, any_part, finds, has_below}
use Rattle.arrays.proofs.MayFind.{own_none, none_in_span}
use Rattle.arrays.proofs.Ranges.{any-part, or_both}
use Rattle.arrays.proofs.SpanWeights.{sound_next}
use Rattle.arrays.proofs.VisibleSpans.{own_and_below, nothing_below, null_run, valid_run, run_joined, no_run_left, items_below, fixed_items_below, fields_below, all_visible, others}

-- ---- lists

-- a test that finds what one of two others does
any_or : {X : Type 0} (p q r : X → Bool) → ((x : X) → p x ≡ (q x || r x)) → (xs : List X) → list_any p xs ≡ (list_any q xs || list_any r xs)
any_or p q r h [] = refl
any_or p q r h (x ∷ xs) = (λ j. h x j || any_or p q r h xs j) ∙ or_both (q x) (r x) (list_any q xs) (list_any r xs)

any_false : {X : Type 0} (p : X → Bool) → ((x : X) → p x ≡ false) → (xs : List X) → list_any p xs ≡ false
any_false p h [] = refl
any_false p h (x ∷ xs) = rw (h x) (any_false p h xs)

any_alike : {X : Type 0} (p q : X → Bool) → ((x : X) → p x ≡ q x) → (xs : List X) → list_any p xs ≡ list_any q xs
any_alike p q h [] = refl
any_alike p q h (x ∷ xs) = λ j. h x j || any_alike p q h xs j

-- the next span of a loop
abbrev pub no_span : SlotSpan
no_span = record { from = 0; count = 0 }

abbrev pub span_at : List SlotSpan → ℕ → SlotSpan
span_at spans i = get_or spans i no_span

pub any_next : (p : SlotSpan → Bool) (spans : List SlotSpan) (i : ℕ) → i < length spans → list_any p (drop i spans) ≡ (p (span_at spans i) || list_any p (drop (i + 1) spans))
any_next p spans i lt = ap (list_any p) (drop_more spans i no_span lt)

pub all_next : (p : SlotSpan → Bool) (spans : List SlotSpan) (i : ℕ) → i < length spans → list_all p (drop i spans) ≡ true
    → (p (span_at spans i) ≡ true) × (list_all p (drop (i + 1) spans) ≡ true)
all_next p spans i lt h = and_parts (p (span_at spans i)) (list_all p (drop (i + 1) spans)) (sym (ap (list_all p) (drop_more spans i no_span lt)) ∙ h)

pub any_pushed : {X : Type 0} (p : X → Bool) (xs : List X) (x : X) → list_any p (xs ++ x ∷ []) ≡ (list_any p xs || p x)
any_pushed p xs x = list_any-append p xs (x ∷ []) ∙ ap (λ (b : Bool). list_any p xs || b) (or-false (p x))

-- what was found or is kept, with what is found here or in the rest
pub or_step : (old new here rest all : Bool) → new ≡ (old || here) → (old || (here || rest)) ≡ all → (new || rest) ≡ all
or_step old new here rest all e h = ap (λ (b : Bool). b || rest) e ∙ or_assoc old here rest ∙ h

-- ---- spans of a column

pub not_own : (test : SlotTest) (c : Column) (a : Array) (spans : List SlotSpan) → may_find_own test c ≡ false → any_slot_of (finds test) c a spans ≡ false
not_own test c a spans h = any_false (λ (s : SlotSpan). any_slot (finds test) c a s.from s.count) (λ (s : SlotSpan). own_none test c a s.from s.count h) spans

own_or_below : (f : Slot → Bool) (c : Column) (a : Array) (spans : List SlotSpan) → any_visible_of f c a spans ≡ (any_slot_of f c a spans || any_below_of f c a spans)
own_or_below f c a spans =
    any_or (λ (s : SlotSpan). any_visible f c a s.from s.count) (λ (s : SlotSpan). any_slot f c a s.from s.count) (λ (s : SlotSpan). any_below f c a s.from s.count) (λ (s : SlotSpan). own_and_below f c a s.from s.count) spans

pub own_found_of : (f : Slot → Bool) (c : Column) (a : Array) (spans : List SlotSpan) → any_slot_of f c a spans ≡ true → any_visible_of f c a spans ≡ true
own_found_of f c a spans h = own_or_below f c a spans ∙ ap (λ (b : Bool). b || any_below_of f c a spans) h

pub own_not_found_of : (f : Slot → Bool) (c : Column) (a : Array) (spans : List SlotSpan) → any_slot_of f c a spans ≡ false → any_visible_of f c a spans ≡ any_below_of f c a spans
own_not_found_of f c a spans h = own_or_below f c a spans ∙ ap (λ (b : Bool). b || any_below_of f c a spans) h

pub nothing_below_of : (f : Slot → Bool) (c : Column) (a : Array) (spans : List SlotSpan) → has_below c ≡ false → any_below_of f c a spans ≡ false
nothing_below_of f c a spans h = any_false (λ (s : SlotSpan). any_below f c a s.from s.count) (λ (s : SlotSpan). nothing_below f c a s.from s.count h) spans

pub none_below_of : (test : SlotTest) (field : Field) (a : Array) (spans : List SlotSpan) → may_find_below test (kind_of (out-Field field).data_type) ≡ false
    → any_below_of (finds test) (column_of field) a spans ≡ false
none_below_of test field a spans h =
    any_false (λ (s : SlotSpan). any_below (finds test) (column_of field) a s.from s.count) (λ (s : SlotSpan). none_in_span test field a s.from s.count h) spans

-- ---- spans that are tested as one

-- the next span of a loop
pub inside_next : (whole : SlotSpan) (spans : List SlotSpan) (i : ℕ) → i < length spans → whole.from ≤ (span_at spans i).from
    → (span_at spans i).from + (span_at spans i).count ≤ whole.from + whole.count → are_inside whole (take i spans) ≡ true → are_inside whole (take (i + 1) spans) ≡ true
inside_next whole spans i lt low high h =
    let s : SlotSpan = span_at spans i in
    ap (are_inside whole) (take_more spans i no_span lt)
    ∙ all_pushed (is_inside whole) (take i spans) s h (and_from _ _ (le-leb whole.from s.from low) (le-leb (s.from + s.count) (whole.from + whole.count) high))

-- what is found nowhere in a span is found in no part of it
pub none_inside : (f : Slot → Bool) (c : Column) (a : Array) (whole : SlotSpan) (spans : List SlotSpan) → any_slot f c a whole.from whole.count ≡ false → are_inside whole spans ≡ true
    → any_slot_of f c a spans ≡ false
none_inside f c a whole [] none h = refl
none_inside f c a whole (s ∷ spans) none h =
    let both = and_parts (is_inside whole s) (are_inside whole spans) h in
    let ends = and_parts (nat_le whole.from s.from) (nat_le (s.from + s.count) (whole.from + whole.count)) both.0 in
    let here : any_slot f c a s.from s.count ≡ false =
    any-part (λ i. f (slot c a i)) whole.from whole.count s.from s.count none (leb-true _ _ ends.0) (leb-true _ _ ends.1) in
    rw here (none_inside f c a whole spans none both.1)

-- ---- the items of runs of lists

pub run_parts : (slots : ℕ) (s : SlotSpan) → is_run slots s ≡ true → (0 < s.count) × (s.from + s.count ≤ slots)
run_parts slots s h = let both = and_parts (nat_lt 0 s.count) (is_within slots s) h in (ltb-true _ _ both.0, leb-true _ _ both.1)

pub is_run_of : (slots : ℕ) (s : SlotSpan) → 0 < s.count → s.from + s.count ≤ slots → is_run slots s ≡ true
is_run_of slots s some le = and_from _ _ (lt-ltb 0 s.count some) (le-leb (s.from + s.count) slots le)

-- the next run of a loop
pub next_run : (slots : ℕ) (runs : List SlotSpan) (i : ℕ) → i < length runs → are_runs slots (drop i runs) ≡ true
    → (0 < (span_at runs i).count) × ((span_at runs i).from + (span_at runs i).count ≤ slots) × (are_runs slots (drop (i + 1) runs) ≡ true)
next_run slots runs i lt h =
    let both = all_next (is_run slots) runs i lt h in
    let parts = run_parts slots (span_at runs i) both.0 in
    (parts.0, parts.1, both.1)

pub next_within : (slots : ℕ) (spans : List SlotSpan) (i : ℕ) → i < length spans → are_within slots (drop i spans) ≡ true
    → ((span_at spans i).from + (span_at spans i).count ≤ slots) × (are_within slots (drop (i + 1) spans) ≡ true)
next_within slots spans i lt h =
    let both = all_next (is_within slots) spans i lt h in
    (leb-true _ _ both.0, both.1)

pub items_within : (width : ℕ) (a b : Array) (runs : List SlotSpan) → b ≡ items_in a → are_unordered width (slots_in (items_in a)) a ≡ false → are_runs (slots_in a) runs ≡ true
    → are_within (slots_in b) (map (item_span width a) runs) ≡ true
items_within width a b [] is ordered h = refl
items_within width a b (s ∷ runs) is ordered h =
    let both = and_parts (is_run (slots_in a) s) (are_runs (slots_in a) runs) h in
    let run = run_parts (slots_in a) s both.0 in
    let fits = spans_fit width (slots_in (items_in a)) a s.from s.count ordered (omega (arith, run.0, run.1)) run.1 in
    let here : is_within (slots_in b) (item_span width a s) ≡ true = ap (λ (x : Array). is_within (slots_in x) (item_span width a s)) is ∙ le-leb _ _ fits in
    and_from _ _ here (items_within width a b runs is ordered both.1)

items_of_lists : (f : Slot → Bool) (item : Column) (a b : Array) (runs : List SlotSpan) → b ≡ items_in a → are_unordered 4 (slots_in (items_in a)) a ≡ false
    → are_runs (slots_in a) runs ≡ true → any_visible_of f item b (map (item_span 4 a) runs) ≡ any_below_runs f (lists item) a runs
items_of_lists f item a b [] is ordered h = refl
items_of_lists f item a b (s ∷ runs) is ordered h =
    let both = and_parts (is_run (slots_in a) s) (are_runs (slots_in a) runs) h in
    let run = run_parts (slots_in a) s both.0 in
    let here = (items_below f 4 item a b s.from s.count (span_start 4 a s.from) (number_at 4 (offsets_in a) (s.from + s.count) - span_start 4 a s.from) _ is refl refl refl ordered run.0 run.1).0 refl in
    λ j. here j || items_of_lists f item a b runs is ordered both.1 j

items_of_large_lists : (f : Slot → Bool) (item : Column) (a b : Array) (runs : List SlotSpan) → b ≡ items_in a → are_unordered 8 (slots_in (items_in a)) a ≡ false
    → are_runs (slots_in a) runs ≡ true → any_visible_of f item b (map (item_span 8 a) runs) ≡ any_below_runs f (large_lists item) a runs
items_of_large_lists f item a b [] is ordered h = refl
items_of_large_lists f item a b (s ∷ runs) is ordered h =
    let both = and_parts (is_run (slots_in a) s) (are_runs (slots_in a) runs) h in
    let run = run_parts (slots_in a) s both.0 in
    let here = (items_below f 8 item a b s.from s.count (span_start 8 a s.from) (number_at 8 (offsets_in a) (s.from + s.count) - span_start 8 a s.from) _ is refl refl refl ordered run.0 run.1).1 refl in
    λ j. here j || items_of_large_lists f item a b runs is ordered both.1 j

pub items_of : (f : Slot → Bool) (width : ℕ) (item : Column) (a b : Array) (runs items : List SlotSpan) (result : Bool) → b ≡ items_in a → items ≡ map (item_span width a) runs
    → result ≡ any_visible_of f item b items → are_unordered width (slots_in (items_in a)) a ≡ false → are_runs (slots_in a) runs ≡ true
    → (width ≡ 4 → result ≡ any_below_runs f (lists item) a runs) × (width ≡ 8 → result ≡ any_below_runs f (large_lists item) a runs)
items_of f width item a b runs items result is mapped found ordered h =
    let same : result ≡ any_visible_of f item b (map (item_span width a) runs) = found ∙ ap (any_visible_of f item b) mapped in (
      λ e. let own : are_unordered 4 (slots_in (items_in a)) a ≡ false = rw e at ordered in
          same ∙ ap (λ (w : ℕ). any_visible_of f item b (map (item_span w a) runs)) e ∙ items_of_lists f item a b runs is own h,
      λ e. let own : are_unordered 8 (slots_in (items_in a)) a ≡ false = rw e at ordered in
          same ∙ ap (λ (w : ℕ). any_visible_of f item b (map (item_span w a) runs)) e ∙ items_of_large_lists f item a b runs is own h,
    )

pub fixed_items_within : (size : ℕ) (a b : Array) (runs : List SlotSpan) → b ≡ items_in a → nat_le (slots_in a * size) (slots_in (items_in a)) ≡ true → are_runs (slots_in a) runs ≡ true
    → are_within (slots_in b) (map (fixed_item_span size) runs) ≡ true
fixed_items_within size a b [] is long h = refl
fixed_items_within size a b (s ∷ runs) is long h =
    let both = and_parts (is_run (slots_in a) s) (are_runs (slots_in a) runs) h in
    let run = run_parts (slots_in a) s both.0 in
    let fits = fixed_within size s.from s.count (slots_in a) (slots_in (items_in a)) long run.1 in
    let here : is_within (slots_in b) (fixed_item_span size s) ≡ true = ap (λ (x : Array). is_within (slots_in x) (fixed_item_span size s)) is ∙ le-leb _ _ fits in
    and_from _ _ here (fixed_items_within size a b runs is long both.1)

pub fixed_items_of : (f : Slot → Bool) (size : ℕ) (item : Column) (a b : Array) (runs : List SlotSpan) → b ≡ items_in a
    → any_visible_of f item b (map (fixed_item_span size) runs) ≡ any_below_runs f (fixed_lists size item) a runs
fixed_items_of f size item a b [] is = refl
fixed_items_of f size item a b (s ∷ runs) is =
    let here = fixed_items_below f size item a b s.from s.count _ is refl in
    λ j. here j || fixed_items_of f size item a b runs is j

-- ---- columns with their arrays

pub parts_of : (f : Slot → Bool) (cs : Columns) (arrays : Arrays) (spans : List SlotSpan) → any_part_of f cs arrays spans ≡ list_any (λ (s : SlotSpan). any_part f cs arrays s.from s.count) spans
parts_of f no_column arrays spans = sym (any_false (λ (s : SlotSpan). any_part f no_column arrays s.from s.count) (λ (s : SlotSpan). refl) spans)
parts_of f (and_column c cs) arrays spans =
    ap (λ (b : Bool). any_visible_of f c (first_array arrays) spans || b) (parts_of f cs (other_arrays arrays) spans)
    ∙ sym (any_or (λ (s : SlotSpan). any_part f (and_column c cs) arrays s.from s.count) (λ (s : SlotSpan). any_visible f c (first_array arrays) s.from s.count) (λ (s : SlotSpan). any_part f cs (other_arrays arrays) s.from s.count)
    (λ (s : SlotSpan). refl) spans)

pub fields_of_runs : (f : Slot → Bool) (cs : Columns) (a : Array) (arrays : Arrays) (runs : List SlotSpan) → arrays ≡ children_in a → any_part_of f cs arrays runs ≡ any_below_runs f (structs cs) a runs
fields_of_runs f cs a arrays runs is =
    parts_of f cs arrays runs
    ∙ any_alike (λ (s : SlotSpan). any_part f cs arrays s.from s.count) (λ (s : SlotSpan). any_valid_below f (structs cs) a s.from s.count) (λ (s : SlotSpan). fields_below f cs a arrays s.from s.count _ is refl) runs

pub runs_fit : (cs : Columns) (arrays : Arrays) (slots : ℕ) (runs : List SlotSpan) → are_sound cs slots arrays ≡ true → are_runs slots runs ≡ true → are_long_for cs arrays runs ≡ true
runs_fit cs arrays slots [] sound h = refl
runs_fit cs arrays slots (s ∷ runs) sound h =
    let both = and_parts (is_run slots s) (are_runs slots runs) h in
    let run = run_parts slots s both.0 in
    and_from _ _ (fewer_sound cs arrays slots (s.from + s.count) sound run.1) (runs_fit cs arrays slots runs sound both.1)

-- all rows are one span
pub rows_fit : (cs : Columns) (arrays : Arrays) (rows : ℕ) → are_sound cs rows arrays ≡ true → are_long_for cs arrays (record { from = 0; count = rows } ∷ []) ≡ true
rows_fit cs arrays rows h = let e : 0 + rows ≡ rows = omega arith in and_from _ _ (ap (λ (n : ℕ). are_sound cs n arrays) e ∙ h) refl

pub no_row_fits : (cs : Columns) (arrays : Arrays) (rows : ℕ) → are_sound cs rows arrays ≡ true → are_sound cs 0 arrays ≡ true
no_row_fits cs arrays rows h = fewer_sound cs arrays rows 0 h (omega arith)

pub all_visible_of : (f : Slot → Bool) (cs : Columns) (arrays : Arrays) (rows : ℕ) → any_part_of f cs arrays (record { from = 0; count = rows } ∷ []) ≡ list_any f (visible_in cs arrays rows)
all_visible_of f cs arrays rows =
    parts_of f cs arrays (record { from = 0; count = rows } ∷ []) ∙ or-false (any_part f cs arrays 0 rows) ∙ all_visible f cs arrays rows

-- ---- the next column of a loop

pub part_next : (t : Slot → Bool) (bytes : List ℕ) (all : List Dictionary) (fs : List Field) (xs : List PlacedArray) (i : ℕ) (spans : List SlotSpan) (f : Field) (a : Array)
    → i < length fs → f ≡ get_or fs i f → a ≡ first_array (placed_arrays bytes all (drop i xs))
    → any_part_of t (fields_of (drop i fs)) (placed_arrays bytes all (drop i xs)) spans
    ≡ (any_visible_of t (column_of f) a spans || any_part_of t (fields_of (drop (i + 1) fs)) (placed_arrays bytes all (drop (i + 1) xs)) spans)
part_next t bytes all fs xs i spans f a lt is first =
    let arrays : Arrays = placed_arrays bytes all (drop i xs) in
    let cs : Columns = fields_of (drop (i + 1) fs) in
    ap (λ (gs : List Field). any_part_of t (fields_of gs) arrays spans) (drop-item fs i f lt is)
    ∙ (λ j. any_visible_of t (column_of f) (sym first j) spans || any_part_of t cs (sym (others bytes all xs i) j) spans)

pub long_next : (bytes : List ℕ) (all : List Dictionary) (fs : List Field) (xs : List PlacedArray) (i : ℕ) (f : Field) (a : Array) (spans : List SlotSpan)
    → drop i fs ≡ f ∷ drop (i + 1) fs → a ≡ first_array (placed_arrays bytes all (drop i xs)) → are_long_for (fields_of (drop i fs)) (placed_arrays bytes all (drop i xs)) spans ≡ true
    → (are_within (slots_in a) spans ≡ true) × (are_long_for (fields_of (drop (i + 1) fs)) (placed_arrays bytes all (drop (i + 1) xs)) spans ≡ true)
long_next bytes all fs xs i f a [] next first h = (refl, refl)
long_next bytes all fs xs i f a (s ∷ spans) next first h =
    let both = and_parts (are_sound (fields_of (drop i fs)) (s.from + s.count) (placed_arrays bytes all (drop i xs))) (are_long_for (fields_of (drop i fs)) (placed_arrays bytes all (drop i xs)) spans) h in
    let here = sound_next bytes all fs xs i f a (s.from + s.count) next first both.0 in
    let rest = long_next bytes all fs xs i f a spans next first both.1 in
    (and_from _ _ (le-leb (s.from + s.count) (slots_in a) here.0) rest.0, and_from _ _ here.2 rest.1)

-- one run more of a map over runs
pub mapped_more : (g : SlotSpan → SlotSpan) (runs : List SlotSpan) (i : ℕ) (y : SlotSpan) (items more : List SlotSpan) → i < length runs
    → more ≡ items ++ y ∷ [] → y ≡ g (span_at runs i) → items ≡ map g (take i runs) → more ≡ map g (take (i + 1) runs)
mapped_more g runs i y items more lt pushed made h =
    pushed ∙ (λ j. h j ++ made j ∷ []) ∙ sym (map-append g (take i runs) (span_at runs i ∷ [])) ∙ ap (map g) (sym (take_more runs i no_span lt))

-- ---- a loop over the runs of a span

pub run_step : (f : Slot → Bool) (c : Column) (a : Array) (at end to : ℕ) (old new all : Bool) → at < end → end ≤ to
    → new ≡ (old || any_below f c a at (end - at)) → (old || any_below f c a at (to - at)) ≡ all → (new || any_below f c a end (to - end)) ≡ all
run_step f c a at end to old new all low high e h =
    or_step old new (any_below f c a at (end - at)) (any_below f c a end (to - end)) all e (ap (λ (b : Bool). old || b) (sym (run_joined f c a at end to low high)) ∙ h)

-- the next span of a loop
pub span_step : (f : Slot → Bool) (c : Column) (a : Array) (spans : List SlotSpan) (i : ℕ) (old new all : Bool) → i < length spans
    → new ≡ (old || any_below f c a (span_at spans i).from (span_at spans i).count) → (old || any_below_of f c a (drop i spans)) ≡ all → (new || any_below_of f c a (drop (i + 1) spans)) ≡ all
span_step f c a spans i old new all lt e h =
    or_step old new (any_below f c a (span_at spans i).from (span_at spans i).count) (any_below_of f c a (drop (i + 1) spans)) all e
    (ap (λ (b : Bool). old || b) (sym (any_next (λ (t : SlotSpan). any_below f c a t.from t.count) spans i lt)) ∙ h)

pub last_step : (f : Slot → Bool) (c : Column) (a : Array) (spans : List SlotSpan) (i : ℕ) (old all : Bool) → length spans ≤ i → (old || any_below_of f c a (drop i spans)) ≡ all → old ≡ all
last_step f c a spans i old all past h = sym (or-false old) ∙ ap (λ (xs : List SlotSpan). old || any_below_of f c a xs) (sym (drop_all i spans past)) ∙ h

pub no_run_step : (f : Slot → Bool) (c : Column) (a : Array) (at to : ℕ) (old all : Bool) → to ≤ at → (old || any_below f c a at (to - at)) ≡ all → old ≡ all
no_run_step f c a at to old all past h = sym (or-false old) ∙ ap (λ (b : Bool). old || b) (sym (no_run_left f c a at to past)) ∙ h

-- ---- a run more to be looked at

pub run_kept : (f : Slot → Bool) (kind : Kind) (a : Array) (old new : List SlotSpan) (s : SlotSpan) → new ≡ old ++ s ∷ []
    → any_below_runs f kind a new ≡ (any_below_runs f kind a old || any_valid_below f kind a s.from s.count)
run_kept f kind a old new s pushed = ap (any_below_runs f kind a) pushed ∙ any_pushed (λ (t : SlotSpan). any_valid_below f kind a t.from t.count) old s

-- below a run there is nothing, or what is below its slots, which are valid
pub null_kept : (f : Slot → Bool) (c : Column) (a : Array) (s : SlotSpan) (old : Bool) → ((i : ℕ) → s.from ≤ i → i < s.from + s.count → is_valid a i ≡ is_valid a s.from)
    → is_valid a s.from ≡ false → old ≡ (old || any_below f c a s.from s.count)
null_kept f c a s old alike null =
    let e : s.from + s.count - s.from ≡ s.count = omega arith in
    let none : any_below f c a s.from s.count ≡ false = sym (ap (any_below f c a s.from) e) ∙ null_run f c a s.from (s.from + s.count) alike null in
    sym (or-false old) ∙ ap (λ (b : Bool). old || b) (sym none)

pub valid_span : (f : Slot → Bool) (field : Field) (a : Array) (s : SlotSpan) → has_below (column_of field) ≡ true
    → ((i : ℕ) → s.from ≤ i → i < s.from + s.count → is_valid a i ≡ is_valid a s.from) → is_valid a s.from ≡ true
    → any_valid_below f (kind_of (out-Field field).data_type) a s.from s.count ≡ any_below f (column_of field) a s.from s.count
valid_span f field a s nested alike valid =
    let e : s.from + s.count - s.from ≡ s.count = omega arith in
    let kind : Kind = kind_of (out-Field field).data_type in
    ap (any_valid_below f kind a s.from) (sym e) ∙ sym (valid_run f field a s.from (s.from + s.count) nested alike valid) ∙ ap (any_below f (column_of field) a s.from) e

pub runs_kept : (slots : ℕ) (old new : List SlotSpan) (s : SlotSpan) → new ≡ old ++ s ∷ [] → are_runs slots old ≡ true → is_run slots s ≡ true → are_runs slots new ≡ true
runs_kept slots old new s pushed h here = ap (are_runs slots) pushed ∙ all_pushed (is_run slots) old s h here

pub all_mapped : (g : SlotSpan → SlotSpan) (runs : List SlotSpan) (i : ℕ) (items : List SlotSpan) → length runs ≤ i → items ≡ map g (take i runs) → items ≡ map g runs
all_mapped g runs i items past h = h ∙ ap (map g) (take_all i runs past)
