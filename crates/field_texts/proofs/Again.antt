-- What is written is built again, where it is of no more levels.
use Rattle.std.proofs.Common.{◌≡◌, ◌<◌, ◌≤◌, ◌+◌, ℕ, zero, suc, Bool, true, false, ◌&&◌, List, [], ◌∷◌, ◌++◌, length, length-append, refl, sym, ap, ◌∙◌, arith, cond}
use Rattle.std.specs.Prelude.{Option, None, Some, option_map, codes, nat_le}
use Rattle.std.specs.Option.{option_and_then}
use Rattle.std.proofs.lemmas.List.{append_assoc, append-nil}
use Rattle.std.proofs.lemmas.Bool.{both_ways}
use Rattle.std.proofs.lemmas.Bool.Decides.{nat_tests}
use Rattle.facts.specs.laws.Levels.{nat_le_max}
use Rattle.arrow_schema.specs.declared.limits.TheConstants.{NUMBER_END}
use Rattle.field_texts.specs.declared.keyword.Keyword.TheVariants as keywords
use Rattle.arrow_schema.specs.Column.{Index, Pair, Kind, nulls, booleans, integers, dates, timestamps, texts, large_texts, binaries, large_binaries, fixed_binaries, lists, large_lists, fixed_lists, structs, Column, Columns, column, no_column, and_column, columns_of, list_of}
use Rattle.arrow_schema.specs.Limits.{is_nested}
use Rattle.arrow_schema.specs.Preorder.{depth, depth_below, depth_all}
use Rattle.field_texts.specs.Keywords.{number_text, keyword_text}
use Rattle.field_texts.specs.FieldText.{plain, nullable_suffix, with_dictionary, type_text, item_text, field_text, fields_text, more_text}
use Rattle.field_texts.specs.Typed.{IsSize, IsTypedDictionary, IsTypedKind, IsTypedItem, IsTypedField, AreTyped}
use Rattle.field_texts.specs.inner.Scan.{stripped, capped_number, has_nullable_suffix, after_nullable_suffix}
use Rattle.field_texts.specs.inner.Build.{Reader, item_from, field_from, more_from, fields_from, parts_from, column_from, column_at}
use Rattle.field_texts.proofs.KeywordLemmas.{bracket, parenthesis}
use Rattle.field_texts.proofs.Openings.{name_again}
use Rattle.field_texts.proofs.Flats.{three, within_kind, list_opening, large_list_opening, fixed_list_opening, struct_opening}
use Rattle.field_texts.proofs.Steps.{four, Stops, with_suffix, without_suffix, flat_read, more_stops, stops_at_end, stops_at, stops_at_parenthesis, name_of, field_name, field_is}
use Rattle.field_texts.proofs.Moves.{not_closed}
use Rattle.arrow_schema.specs.laws.Columns.{columns_list}

no_level : (d : ℕ) → nat_le (1 + d) 0 ≡ false
no_level d = grind (arith, nat_tests)

level : (d n : ℕ) → nat_le (1 + d) (suc n) ≡ nat_le d n
level d n = grind (arith, nat_tests)

pub always : (n : ℕ) → nat_le 0 n ≡ true
always n = grind (arith, nat_tests)

within_same : (n : ℕ) → IsSize true n → capped_number n ≡ n
within_same n h = let small : n < NUMBER_END = h refl in omega (arith, small)

kind_same : (k : Kind) → IsTypedKind true k → within_kind k ≡ k
unfolding IsTypedKind
kind_same nulls h = refl
kind_same booleans h = refl
kind_same (integers bits signed) h = refl
kind_same (dates unit) h = refl
kind_same (timestamps unit timezone) h = refl
kind_same texts h = refl
kind_same large_texts h = refl
kind_same binaries h = refl
kind_same large_binaries h = refl
kind_same (fixed_binaries width) h = ap fixed_binaries (within_same width h)
kind_same (lists item) h = refl
kind_same (large_lists item) h = refl
kind_same (fixed_lists size item) h = refl
kind_same (structs parts) h = refl

-- what the code makes of the parts of a column
abbrev finished : List ℕ → (Kind × Option Index) × List ℕ → Column × List ℕ
finished name q = (column name (has_nullable_suffix q.1) q.0.0 q.0.1 [], after_nullable_suffix q.1)

flat_built : (read : Reader) (name : List ℕ) (m : Bool) (k : Kind) (d : Option Index) (rest : List ℕ) → IsTypedKind true k → is_nested k ≡ false → IsTypedDictionary d k → Stops rest
    → column_from read name (with_dictionary d (type_text plain k) ++ nullable_suffix m ++ rest) ≡ Some (column name m k d [], rest)
unfolding column_from parts_from
flat_built read name m k d rest typed e dict s = rw (flat_read true m k d rest typed e dict s, with_suffix m rest s, without_suffix m rest s, kind_same k typed) refl

abbrev wrapped : (Column → Kind) → Column × List ℕ → (Kind × Option Index) × List ℕ
wrapped wrap p = ((wrap p.0, None), p.1)

abbrev bracketed : List ℕ → Column × List ℕ → Option (Column × List ℕ)
bracketed close p = option_map (λ rest. (p.0, rest)) (stripped close p.1)

abbrev grouped : List Column × List ℕ → (Kind × Option Index) × List ℕ
grouped p = ((structs (columns_of p.0), None), p.1)

abbrev preceded : Column → List Column × List ℕ → List Column × List ℕ
preceded c q = (c ∷ q.0, q.1)

item_by : (wrap : Column → Kind) (name : List ℕ) (item : Column) (m fits : Bool) (close rest : List ℕ) (o : Option (Column × List ℕ)) → Stops rest → stripped close (close ++ (nullable_suffix m ++ rest)) ≡ Some (nullable_suffix m ++ rest)
    → o ≡ cond fits (Some (item, close ++ (nullable_suffix m ++ rest))) None
    → option_map (finished name) (option_map (wrapped wrap) (option_and_then (bracketed close) o)) ≡ cond fits (Some (column name m (wrap item) None [], rest)) None
item_by wrap name item m true close rest o s back e = rw (e, back, with_suffix m rest s, without_suffix m rest s) refl
item_by wrap name item m false close rest o s back e = rw e refl

-- a column under another name, without pairs
abbrev pub bare : List ℕ → Column → Column
bare name (column old nullable kind dictionary pairs) = column name nullable kind dictionary []

bare_item : (c : Column) → IsTypedItem true c → bare (codes "item") c ≡ c
unfolding IsTypedItem
bare_item (column name nullable kind dictionary pairs) h = (λ k. column (sym h.0 k) nullable kind dictionary (sym h.1 k))

bare_field : (c : Column) → IsTypedField true c → bare (name_of c) c ≡ c
unfolding IsTypedItem
bare_field (column name nullable kind dictionary pairs) h = ap (λ (pairs : List Pair). column name nullable kind dictionary pairs) (sym h.1)

abbrev pub IsBody : Column → Type 0
IsBody (column name nullable kind dictionary pairs) = IsTypedDictionary dictionary kind × IsTypedKind true kind

item_body : (c : Column) → IsTypedItem true c → IsBody c
unfolding IsTypedItem
item_body (column name nullable kind dictionary pairs) h = (h.2, h.3)

field_body : (c : Column) → IsTypedField true c → IsBody c
unfolding IsTypedItem
field_body (column name nullable kind dictionary pairs) h = (h.2, h.3)

field_text_is : (c : Column) (rest : List ℕ) → field_text plain c ++ rest ≡ name_of c ++ 58 ∷ (item_text plain c ++ rest)
unfolding item_text
field_text_is (column name nullable kind dictionary pairs) rest = field_is (column name nullable kind dictionary pairs) rest

-- a field, by its column
field_by : (c : Column) (l : ℕ) (rest : List ℕ) → IsTypedField true c → column_at l (name_of c) (item_text plain c ++ rest) ≡ cond (nat_le (depth c) l) (Some (bare (name_of c) c, rest)) None
    → field_from (column_at l) (field_text plain c ++ rest) ≡ cond (nat_le (depth c) l) (Some (c, rest)) None
unfolding field_from
field_by c l rest typed e =
    ap (field_from (column_at l)) (field_text_is c rest)
    ∙ rw (name_again (name_of c) (item_text plain c ++ rest) (field_name true c typed)) (e ∙ ap (λ (d : Column). cond (nat_le (depth c) l) (Some (d, rest)) None) (bare_field c typed))

pair_by : (a b : Bool) (c : Column) (cs : List Column) (mid rest : List ℕ) (more : List ℕ → Option (List Column × List ℕ)) → more mid ≡ cond b (Some (cs, rest)) None
    → option_and_then (λ (p : Column × List ℕ). option_map (preceded p.0) (more p.1)) (cond a (Some (c, mid)) None) ≡ cond (a && b) (Some (c ∷ cs, rest)) None
pair_by true true c cs mid rest more e = rw e refl
pair_by true false c cs mid rest more e = rw e refl
pair_by false b c cs mid rest more e = refl

struct_by : (name : List ℕ) (m fits : Bool) (parts : Columns) (rest : List ℕ) (o : Option (List Column × List ℕ)) → Stops rest → o ≡ cond fits (Some (list_of parts, nullable_suffix m ++ rest)) None
    → option_map (finished name) (option_map grouped o) ≡ cond fits (Some (column name m (structs parts) None [], rest)) None
struct_by name m true parts rest o s e = rw (e, with_suffix m rest s, without_suffix m rest s, columns_list parts) refl
struct_by name m false parts rest o s e = rw e refl

count_more : (cs : Columns) → length (list_of cs) ≤ length (more_text plain cs)
unfolding more_text
count_more no_column = omega arith
count_more (and_column c cs) = omega (arith, count_more cs, length-append (field_text plain c) (more_text plain cs))

more_stop : (cs : Columns) (rest : List ℕ) → Stops (more_text plain cs ++ 62 ∷ rest)
more_stop cs rest = more_stops cs (more_text plain cs ++ 62 ∷ rest) rest (sym (append_assoc (more_text plain cs) (62 ∷ []) rest))

more_none : (read : Reader) (turns : ℕ) (rest : List ℕ) → 0 < turns → more_from read turns (62 ∷ rest) ≡ Some ([], rest)
unfolding more_from stripped
more_none read zero rest h = absurd (omega (arith, h))
more_none read (suc turns) rest h = refl

more_one : (read : Reader) (turns : ℕ) (next : List ℕ) → more_from read (suc turns) (44 ∷ next) ≡ option_and_then (λ (p : Column × List ℕ). option_map (preceded p.0) (more_from read turns p.1)) (field_from read next)
unfolding more_from stripped
more_one read turns next = refl

fields_none : (read : Reader) (rest : List ℕ) → fields_from read (62 ∷ rest) ≡ Some ([], rest)
unfolding fields_from stripped
fields_none read rest = refl

fields_one : (read : Reader) (text : List ℕ) → stripped (codes ">") text ≡ None → fields_from read text ≡ option_and_then (λ (p : Column × List ℕ). option_map (preceded p.0) (more_from read (length text) p.1)) (field_from read text)
unfolding fields_from
fields_one read text e = rw e refl

field_open : (c : Column) (rest : List ℕ) → IsTypedField true c → stripped (codes ">") (field_text plain c ++ rest) ≡ None
field_open c rest typed = ap (stripped (codes ">")) (field_text_is c rest) ∙ not_closed (name_of c) (58 ∷ (item_text plain c ++ rest)) (field_name true c typed)

list_built : (read : Reader) (name after : List ℕ) (m fits : Bool) (item : Column) (rest : List ℕ) → Stops rest → read (codes "item") after ≡ cond fits (Some (item, 62 ∷ (nullable_suffix m ++ rest))) None
    → column_from read name (keyword_text keywords.List ++ after) ≡ cond fits (Some (column name m (lists item) None [], rest)) None
unfolding column_from parts_from item_from
list_built read name after m fits item rest s e = rw (list_opening true after) (item_by lists name item m fits (62 ∷ []) rest (read (codes "item") after) s (bracket (nullable_suffix m ++ rest)) e)

large_list_built : (read : Reader) (name after : List ℕ) (m fits : Bool) (item : Column) (rest : List ℕ) → Stops rest → read (codes "item") after ≡ cond fits (Some (item, 62 ∷ (nullable_suffix m ++ rest))) None
    → column_from read name (keyword_text keywords.LargeList ++ after) ≡ cond fits (Some (column name m (large_lists item) None [], rest)) None
unfolding column_from parts_from item_from
large_list_built read name after m fits item rest s e = rw (large_list_opening true after) (item_by large_lists name item m fits (62 ∷ []) rest (read (codes "item") after) s (bracket (nullable_suffix m ++ rest)) e)

fixed_list_built : (read : Reader) (n : ℕ) (name after : List ℕ) (m fits : Bool) (item : Column) (rest : List ℕ) → IsSize true n → Stops rest → read (codes "item") after ≡ cond fits (Some (item, 41 ∷ (nullable_suffix m ++ rest))) None
    → column_from read name (keyword_text keywords.FixedList ++ (number_text n ++ 44 ∷ after)) ≡ cond fits (Some (column name m (fixed_lists n item) None [], rest)) None
unfolding column_from parts_from item_from
fixed_list_built read n name after m fits item rest small s e =
    rw (fixed_list_opening true n after small, within_same n small) (item_by (fixed_lists n) name item m fits (41 ∷ []) rest (read (codes "item") after) s (parenthesis (nullable_suffix m ++ rest)) e)

struct_built : (read : Reader) (name after : List ℕ) (m fits : Bool) (parts : Columns) (rest : List ℕ) → Stops rest → fields_from read after ≡ cond fits (Some (list_of parts, nullable_suffix m ++ rest)) None
    → column_from read name (keyword_text keywords.Struct ++ after) ≡ cond fits (Some (column name m (structs parts) None [], rest)) None
unfolding column_from parts_from
struct_built read name after m fits parts rest s e = rw (struct_opening true after) (struct_by name m fits parts rest (fields_from read after) s e)

item_kept : (item : Column) (l : ℕ) (rest : List ℕ) (o : Option (Column × List ℕ)) → IsTypedItem true item → o ≡ cond (nat_le (depth item) l) (Some (bare (codes "item") item, rest)) None → o ≡ cond (nat_le (depth item) l) (Some (item, rest)) None
item_kept item l rest o typed e = e ∙ ap (λ (c : Column). cond (nat_le (depth item) l) (Some (c, rest)) None) (bare_item item typed)

mutual
  unfolding column_at depth item_text type_text IsTypedKind

  pub column_again : (c : Column) (levels : ℕ) (name rest : List ℕ) → IsBody c → Stops rest → column_at levels name (item_text plain c ++ rest) ≡ cond (nat_le (depth c) levels) (Some (bare name c, rest)) None
  column_again (column old m k d pairs) zero name rest h s = rw (no_level (depth_below k)) refl
  column_again (column old m k d pairs) (suc l) name rest h s = rw (level (depth_below k) l) (kind_again k l name m d rest h.0 h.1 s)

  kind_again : (k : Kind) (l : ℕ) (name : List ℕ) (m : Bool) (d : Option Index) (rest : List ℕ) → IsTypedDictionary d k → IsTypedKind true k → Stops rest
      → column_from (column_at l) name (with_dictionary d (type_text plain k) ++ nullable_suffix m ++ rest) ≡ cond (nat_le (depth_below k) l) (Some (column name m k d [], rest)) None
  kind_again nulls l name m d rest dict typed s = rw (always l) (flat_built (column_at l) name m nulls d rest typed refl dict s)
  kind_again booleans l name m d rest dict typed s = rw (always l) (flat_built (column_at l) name m booleans d rest typed refl dict s)
  kind_again (integers bits signed) l name m d rest dict typed s = rw (always l) (flat_built (column_at l) name m (integers bits signed) d rest typed refl dict s)
  kind_again (dates unit) l name m d rest dict typed s = rw (always l) (flat_built (column_at l) name m (dates unit) d rest typed refl dict s)
  kind_again (timestamps unit timezone) l name m d rest dict typed s = rw (always l) (flat_built (column_at l) name m (timestamps unit timezone) d rest typed refl dict s)
  kind_again texts l name m d rest dict typed s = rw (always l) (flat_built (column_at l) name m texts d rest typed refl dict s)
  kind_again large_texts l name m d rest dict typed s = rw (always l) (flat_built (column_at l) name m large_texts d rest typed refl dict s)
  kind_again binaries l name m d rest dict typed s = rw (always l) (flat_built (column_at l) name m binaries d rest typed refl dict s)
  kind_again large_binaries l name m d rest dict typed s = rw (always l) (flat_built (column_at l) name m large_binaries d rest typed refl dict s)
  kind_again (fixed_binaries width) l name m d rest dict typed s = rw (always l) (flat_built (column_at l) name m (fixed_binaries width) d rest typed refl dict s)
  kind_again (lists item) l name m (Some index) rest dict typed s = absurd (both_ways true dict.1 refl)
  kind_again (large_lists item) l name m (Some index) rest dict typed s = absurd (both_ways true dict.1 refl)
  kind_again (fixed_lists n item) l name m (Some index) rest dict typed s = absurd (both_ways true dict.1 refl)
  kind_again (structs parts) l name m (Some index) rest dict typed s = absurd (both_ways true dict.1 refl)
  kind_again (lists item) l name m None rest dict typed s =
      let close : List ℕ = 62 ∷ (nullable_suffix m ++ rest) in
      ap (column_from (column_at l) name) (four (keyword_text keywords.List) (item_text plain item) (62 ∷ []) (nullable_suffix m) rest)
      ∙ list_built (column_at l) name (item_text plain item ++ close) m (nat_le (depth item) l) item rest s (item_kept item l close _ typed (column_again item l (codes "item") close (item_body item typed) (stops_at close (nullable_suffix m ++ rest) refl)))
  kind_again (large_lists item) l name m None rest dict typed s =
      let close : List ℕ = 62 ∷ (nullable_suffix m ++ rest) in
      ap (column_from (column_at l) name) (four (keyword_text keywords.LargeList) (item_text plain item) (62 ∷ []) (nullable_suffix m) rest)
      ∙ large_list_built (column_at l) name (item_text plain item ++ close) m (nat_le (depth item) l) item rest s (item_kept item l close _ typed (column_again item l (codes "item") close (item_body item typed) (stops_at close (nullable_suffix m ++ rest) refl)))
  kind_again (fixed_lists n item) l name m None rest dict typed s =
      let close : List ℕ = 41 ∷ (nullable_suffix m ++ rest) in
      ap (column_from (column_at l) name) (four (keyword_text keywords.FixedList ++ number_text n ++ codes ",") (item_text plain item) (41 ∷ []) (nullable_suffix m) rest ∙ three (keyword_text keywords.FixedList) (number_text n) (44 ∷ []) (item_text plain item ++ close))
      ∙ fixed_list_built (column_at l) n name (item_text plain item ++ close) m (nat_le (depth item) l) item rest typed.0 s
      (item_kept item l close _ typed.1 (column_again item l (codes "item") close (item_body item typed.1) (stops_at_parenthesis close (nullable_suffix m ++ rest) refl)))
  kind_again (structs parts) l name m None rest dict typed s =
      ap (column_from (column_at l) name) (four (keyword_text keywords.Struct) (fields_text plain parts) (62 ∷ []) (nullable_suffix m) rest)
      ∙ struct_built (column_at l) name (fields_text plain parts ++ 62 ∷ (nullable_suffix m ++ rest)) m (nat_le (depth_all parts) l) parts rest s (fields_again parts l (nullable_suffix m ++ rest) typed)

  fields_again : (parts : Columns) (l : ℕ) (rest : List ℕ) → AreTyped true parts → fields_from (column_at l) (fields_text plain parts ++ 62 ∷ rest) ≡ cond (nat_le (depth_all parts) l) (Some (list_of parts, rest)) None
  fields_again no_column l rest typed = rw (always l) (fields_none (column_at l) rest)
  fields_again (and_column c cs) l rest typed =
      let more : List ℕ = more_text plain cs ++ 62 ∷ rest in
      let text : List ℕ = field_text plain c ++ more in
      ap (fields_from (column_at l)) (append_assoc (field_text plain c) (more_text plain cs) (62 ∷ rest))
      ∙ fields_one (column_at l) text (field_open c more typed.0)
      ∙ rw (field_by c l more typed.0 (column_again c l (name_of c) more (field_body c typed.0) (more_stop cs rest)), nat_le_max (depth c) (depth_all cs) l)
      (pair_by (nat_le (depth c) l) (nat_le (depth_all cs) l) c (list_of cs) more rest (more_from (column_at l) (length text))
      (more_again cs l (length text) rest typed.1 (omega (arith, count_more cs, length-append (field_text plain c) more, length-append (more_text plain cs) (62 ∷ rest)))))

  more_again : (cs : Columns) (l turns : ℕ) (rest : List ℕ) → AreTyped true cs → length (list_of cs) < turns → more_from (column_at l) turns (more_text plain cs ++ 62 ∷ rest) ≡ cond (nat_le (depth_all cs) l) (Some (list_of cs, rest)) None
  more_again no_column l turns rest typed h = rw (always l) (more_none (column_at l) turns rest (omega (arith, h)))
  more_again (and_column c cs) l zero rest typed h = absurd (omega (arith, h))
  more_again (and_column c cs) l (suc turns) rest typed h =
      let more : List ℕ = more_text plain cs ++ 62 ∷ rest in
      more_one (column_at l) turns (field_text plain c ++ more_text plain cs ++ 62 ∷ rest)
      ∙ rw (append_assoc (field_text plain c) (more_text plain cs) (62 ∷ rest), field_by c l more typed.0 (column_again c l (name_of c) more (field_body c typed.0) (more_stop cs rest)), nat_le_max (depth c) (depth_all cs) l)
      (pair_by (nat_le (depth c) l) (nat_le (depth_all cs) l) c (list_of cs) more rest (more_from (column_at l) turns) (more_again cs l turns rest typed.1 (omega (arith, h))))

-- a whole field
pub field_again : (c : Column) (l : ℕ) (text : List ℕ) → IsTypedField true c → text ≡ field_text plain c → field_from (column_at l) text ≡ cond (nat_le (depth c) l) (Some (c, [])) None
field_again c l text typed e =
    ap (field_from (column_at l)) (e ∙ sym (append-nil (field_text plain c))) ∙ field_by c l [] typed (column_again c l (name_of c) [] (field_body c typed) (stops_at_end [] refl))
