-- A book that is changed is a book.
use Rattle.std.proofs.Common.{lit≤, ◌≡◌, ◌⊎◌, inl, inr, ◌≤◌, ◌<◌, ◌+◌, ◌++◌, ◌^◌, ◌||◌, ℕ, zero, suc, Bool, true, false, not, map, get_or, length, List, [], ◌∷◌, Option, Some, None, refl, sym, ap, ◌∙◌, arith}
use Rattle.std.specs.Prelude.{nat_le, is_some, IsSome}
use Rattle.std.specs.Option.{SomeIff}
use Rattle.std.specs.List.{filter, AllByRecursion}
use Rattle.std.proofs.lemmas.Bool.{cond_both, lt-leb, ltb-true, lt-ltb, cases_lt}
use Rattle.std.proofs.lemmas.List.{length-append, length-map, map-append}
use Rattle.export_book.specs.laws.Ids.{has_room}
use Rattle.segments.specs.declared.run.Run.{Run}
use Rattle.segments.specs.Usages.{times_among}
use Rattle.arrow_schema.specs.Column.{PlainSchema}
use Rattle.catalogue.specs.declared.limits.TheConstants.{MAX_SEGMENTS}
use Rattle.catalogue.specs.declared.entry.Segment.{Segment}
use Rattle.catalogue.specs.Entries.{plain_entry, runs_in_segments}
use Rattle.export_book.specs.declared.book.TheConstants.{MAX_EXPORTS}
use Rattle.export_book.specs.declared.export.OpenExport.{OpenExport}
use Rattle.export_book.specs.Book.{PlainExport, PlainBook, IsBook, AreRising, no_exports, is_of, is_full, gave, with_open, with_given, without}
use Rattle.export_book.specs.Plain.{plain_export, next_id, is_counted, book_in}

module _ (P : PlainExport → Type 0) where
  all_more : (es : List PlainExport) (e : PlainExport) → AllByRecursion P es → P e → AllByRecursion P (es ++ e ∷ [])
  all_more [] e all is = (is, tt)
  all_more (x ∷ xs) e all is = (all.0, all_more xs e all.1 is)

  all_left : (keep : PlainExport → Bool) (es : List PlainExport) → AllByRecursion P es → AllByRecursion P (filter keep es)
  all_left keep [] all = tt
  all_left keep (x ∷ xs) all =
      let later = all_left keep xs all.1 in cond_both (keep x) (x ∷ filter keep xs) (filter keep xs) (AllByRecursion P) (λ _. (all.0, later)) (λ _. later)

  one_gave : (id : ℕ) (e : PlainExport) → P e → P (record e { given = e.given + 1 }) → P (gave id e)
  one_gave id e is more = cond_both (is_of id e) (record e { given = e.given + 1 }) e P (λ _. more) (λ _. is)

  all_gave : (id : ℕ) (es : List PlainExport) → ((e : PlainExport) → P e → P (record e { given = e.given + 1 })) → AllByRecursion P es → AllByRecursion P (map (gave id) es)
  all_gave id [] more all = tt
  all_gave id (x ∷ xs) more all = (one_gave id x all.0 (more x all.0), all_gave id xs more all.1)

  all_weaker : (Q : PlainExport → Type 0) (es : List PlainExport) → ((e : PlainExport) → P e → Q e) → AllByRecursion P es → AllByRecursion Q es
  all_weaker Q [] weaker all = tt
  all_weaker Q (x ∷ xs) weaker all = (weaker x all.0, all_weaker Q xs weaker all.1)

-- ---- ids that rise

rising_more : (es : List PlainExport) (e : PlainExport) → AreRising es → AllByRecursion (λ (o : PlainExport). o.id < e.id) es → AreRising (es ++ e ∷ [])
rising_more [] e rising below = (tt, tt)
rising_more (x ∷ xs) e rising below = (all_more (λ (o : PlainExport). x.id < o.id) xs e rising.0 below.0, rising_more xs e rising.1 below.1)

rising_left : (keep : PlainExport → Bool) (es : List PlainExport) → AreRising es → AreRising (filter keep es)
rising_left keep [] rising = tt
rising_left keep (x ∷ xs) rising =
    let later = rising_left keep xs rising.1 in
    cond_both (keep x) (x ∷ filter keep xs) (filter keep xs) AreRising (λ _. (all_left (λ (o : PlainExport). x.id < o.id) keep xs rising.0, later)) (λ _. later)

rising_gave : (id : ℕ) (es : List PlainExport) → AreRising es → AreRising (map (gave id) es)
rising_gave id [] rising = tt
rising_gave id (x ∷ xs) rising = (
  one_gave (λ (e : PlainExport). AllByRecursion (λ (o : PlainExport). e.id < o.id) (map (gave id) xs)) id x
      (all_gave (λ (o : PlainExport). x.id < o.id) id xs (λ o is. is) rising.0) (all_gave (λ (o : PlainExport). x.id < o.id) id xs (λ o is. is) rising.0),
  rising_gave id xs rising.1,
)

fewer_left : (keep : PlainExport → Bool) (es : List PlainExport) → length (filter keep es) ≤ length es
fewer_left keep [] = omega arith
fewer_left keep (x ∷ xs) =
    let later = fewer_left keep xs in
    cond_both (keep x) (x ∷ filter keep xs) (filter keep xs) (λ (es : List PlainExport). length es ≤ length (x ∷ xs)) (λ _. omega (arith, later)) (λ _. omega (arith, later))

-- ---- books

pub new_book : IsBook no_exports
new_book = record { few = lit≤ tt; below = tt; rising = tt; most = lit≤ tt; short = tt; once = tt }

abbrev IsShort : PlainExport → Type 0
IsShort e = length e.segments ≤ MAX_SEGMENTS

abbrev HasOnce : PlainExport → Type 0
HasOnce e = (run : Run) → times_among (runs_in_segments e.segments) run ≤ 1

pub open_book : (b : PlainBook) (schema : PlainSchema) (segments : List Segment) → IsBook b → is_full b ≡ false → length segments ≤ MAX_SEGMENTS → ((run : Run) → times_among (runs_in_segments segments) run ≤ 1) → IsBook (with_open schema segments b)
open_book b schema segments is room short once =
    let own : PlainExport = record { id = b.next; schema = schema; segments = segments; given = 0 } in
    let places = has_room b room in
    let size = length-append b.exports (own ∷ []) in
    let left = places.0 in
    let next = places.1 in
    record {
      few = omega (arith, size, left);
      below =
          all_more (λ (e : PlainExport). e.id < b.next + 1) b.exports own
          (all_weaker (λ (e : PlainExport). e.id < b.next) (λ (e : PlainExport). e.id < b.next + 1) b.exports (λ e lower. omega (arith, lower)) is.below)
          (omega arith);
      rising = rising_more b.exports own is.rising is.below;
      most = omega (arith, next);
      short = all_more IsShort b.exports own is.short short;
      once = all_more HasOnce b.exports own is.once once;
    }

pub given_book : (b : PlainBook) (id : ℕ) → IsBook b → IsBook (with_given id b)
given_book b id is =
    let size = length-map b.exports (gave id) in
    let few = is.few in
    record {
      few = omega (arith, size, few);
      below = all_gave (λ (e : PlainExport). e.id < b.next) id b.exports (λ e lower. lower) is.below;
      rising = rising_gave id b.exports is.rising;
      most = is.most;
      short = all_gave IsShort id b.exports (λ e short. short) is.short;
      once = all_gave HasOnce id b.exports (λ e once. once) is.once;
    }

pub closed_book : (b : PlainBook) (id : ℕ) → IsBook b → IsBook (without id b)
closed_book b id is =
    let keep : PlainExport → Bool = λ e. not (is_of id e) in
    let size = fewer_left keep b.exports in
    let few = is.few in
    record {
      few = omega (arith, size, few);
      below = all_left (λ (e : PlainExport). e.id < b.next) keep b.exports is.below;
      rising = rising_left keep b.exports is.rising;
      most = is.most;
      short = all_left IsShort keep b.exports is.short;
      once = all_left HasOnce keep b.exports is.once;
    }

-- ---- exports of the code

-- what holds of each holds of the one at a place
pub each_at : (P : PlainExport → Type 0) (es : List OpenExport) (k : ℕ) (d : OpenExport) → AllByRecursion P (map plain_export es) → k < length es → P (plain_export (get_or es k d))
each_at P [] k d all lt = absurd (omega arith)
each_at P (e ∷ es) zero d all lt = all.0
each_at P (e ∷ es) (suc k) d all lt = each_at P es k d all.1 (omega arith)

-- an id is left where there is room
pub some_id : (es : List OpenExport) (next : Option ℕ) → is_full (book_in es next) ≡ false → IsSome next
some_id es None room = let lower = (has_room (book_in es None) room).1 in absurd (omega (arith, lower))
some_id es (Some id) room = refl

next_is : (id : ℕ) (after : Option ℕ) → SomeIff after (id + 1 < 2 ^ 64) (id + 1) → id < 2 ^ 64 → next_id after ≡ id + 1
next_is id None none lower = by_most (cases_lt (id + 1) (2 ^ 64))
  where
    by_most : (id + 1 < 2 ^ 64) ⊎ (2 ^ 64 ≤ id + 1) → 2 ^ 64 ≡ id + 1
    by_most (inl more) = absurd (none more)
    by_most (inr last) = omega (arith, last, lower)
next_is id (Some next) is lower = is.1

pub opened_is : (es new : List OpenExport) (next after : Option ℕ) (e : OpenExport) → new ≡ es ++ e ∷ [] → next ≡ Some e.id → e.given ≡ 0 → SomeIff after (e.id + 1 < 2 ^ 64) (e.id + 1) → e.id < 2 ^ 64
    → book_in new after ≡ with_open (plain_entry e.entry).schema (plain_entry e.entry).segments (book_in es next)
opened_is es new next after e more is none counted lower =
    let id : next_id next ≡ e.id = ap next_id is in
    let own : plain_export e ≡ record { id = next_id next; schema = (plain_entry e.entry).schema; segments = (plain_entry e.entry).segments; given = 0 } =
    λ i. record { id = sym id i; schema = (plain_entry e.entry).schema; segments = (plain_entry e.entry).segments; given = none i } in
    let exports = ap (map plain_export) more ∙ map-append plain_export es (e ∷ []) ∙ ap (λ (p : PlainExport). map plain_export es ++ p ∷ []) own in
    let later = next_is e.id after counted lower ∙ ap (λ (n : ℕ). n + 1) (sym id) in
    λ i. record { exports = exports i; next = later i }

pub counted_next : (id : ℕ) (after : Option ℕ) → SomeIff after (id + 1 < 2 ^ 64) (id + 1) → is_counted after ≡ true
counted_next id None none = refl
counted_next id (Some next) is = lt-ltb next (2 ^ 64) (let lower = is.0 in let same = is.1 in omega (arith, lower, same))

-- whether it is full, where few exports are open
pub full_else : (n : ℕ) (next : Option ℕ) (none : Bool) → is_counted next ≡ true → n < MAX_EXPORTS → is_some next ≡ not none → none ≡ (nat_le MAX_EXPORTS n || nat_le (2 ^ 64) (next_id next))
full_else n None true counted few is = sym (ap (λ (t : Bool). t || nat_le (2 ^ 64) (2 ^ 64)) (lt-leb MAX_EXPORTS n few))
full_else n None false counted few is = absurd cc
full_else n (Some id) true counted few is = absurd cc
full_else n (Some id) false counted few is =
    sym (ap (λ (t : Bool). t || nat_le (2 ^ 64) id) (lt-leb MAX_EXPORTS n few) ∙ lt-leb (2 ^ 64) id (ltb-true id (2 ^ 64) counted))
