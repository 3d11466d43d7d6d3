-- How much room a written tree takes, and that the trees of messages fit.
use Rattle.std.specs.Prelude.{sum_by, nat_lt, ◌&&◌}
use Rattle.std.specs.List.{list_all}
use Rattle.std.proofs.Common.{length-append, ◌≡◌, ℕ, zero, suc, ◌+◌, ◌-◌, ◌*◌, ◌%◌, ◌^◌, ◌<◌, ◌≤◌, Bool, true, false, List, [], ◌∷◌, length, Option, Some, None, refl, arith, sym, ap, ◌∙◌}
use Rattle.std.proofs.lemmas.Bool.{and_parts, ltb-true}
use Rattle.std.proofs.lemmas.Bool.Decides.{nat_tests}
use Rattle.std.proofs.lemmas.List.Folds.{list_all-append}
use Rattle.std.proofs.lemmas.List.Sums.{sum_by-cons, sum_by-append, list_all-from_AllPass}
use Rattle.flatbuf.specs.Tree.{Tree, Nodes, Slots, table, text, references, structs, no_node, and_node, no_slot, absent, scalar, refers}
use Rattle.flatbuf.specs.Laid.{gap, count_of, slots_of, vtable_len, inline_end, table_start, metadata}
use Rattle.flatbuf.specs.Ends.{end_at, ends_at, below_ends_at}
use Rattle.flatbuf.specs.Held.{Fits, FitsAll, FitsSlots, FitsStructs}
use Rattle.arrow_schema.specs.declared.limits.TheConstants.{NUMBER_END}
use Rattle.arrow_schema.specs.Column.{Index, Pair, DateKind, days, date_milliseconds, date_unit_of, TimeKind, seconds, milliseconds, microseconds, nanoseconds, time_unit_of, Kind, Column, Columns, nulls, booleans, integers, dates, timestamps, texts, large_texts, binaries, large_binaries, fixed_binaries, lists, large_lists, fixed_lists, structs as struct_kind, column, no_column, and_column, columns_of, PlainSchema, is_bit_width}
use Rattle.arrow_schema.specs.Limits.{IsWithinLimits, timezone_of, number_of, bytes_of_pairs, pairs_in, bytes_in, has_number_in_range, is_kind_of_width, is_index_of_width, has_bit_widths}
use Rattle.arrow_schema.specs.Preorder.{preorder, preorder_below, preorder_all, every_column}
use Rattle.ipc_message.specs.declared.header_type.TheConstants.{SCHEMA, DICTIONARY_BATCH, RECORD_BATCH}
use Rattle.ipc_write.specs.Trees.{bit, code_of, type_tree, pair_nodes, pairs_slot, encoding_tree, dictionary_slot, ids_for, ids_of, ids_below, ids_of_all, field_tree, field_nodes, child_nodes, schema_tree, message_tree}

gap_small : (m c : ℕ) → gap m c ≤ m
gap_small zero c = let none : 0 - c % 0 ≡ 0 = omega arith in rw none (omega arith)
gap_small (suc m) c = let some : 0 < suc m = omega arith in omega arith

-- the most bytes of the inline part of a table after its first four
abbrev pub inline_room : Slots → ℕ
inline_room no_slot = 4
inline_room (absent rest) = inline_room rest
inline_room (scalar w n rest) = 2 * w + inline_room rest
inline_room (refers n rest) = 8 + inline_room rest

inline_small : (offset : ℕ) (slots : Slots) → inline_end offset slots ≤ offset + inline_room slots
inline_small offset no_slot = omega (arith, gap_small 4 offset)
inline_small offset (absent rest) = inline_small offset rest
inline_small offset (scalar w n rest) = omega (arith, gap_small w offset, inline_small (offset + gap w offset + w) rest)
inline_small offset (refers n rest) = omega (arith, gap_small 4 offset, inline_small (offset + gap 4 offset + 4) rest)

-- the most bytes of a tree
abbrev mutual
  pub room : Tree → ℕ
  room (text t) = 9 + length t
  room (structs ps) = 12 + 16 * length ps
  room (references ns) = 8 + 4 * count_of ns + rooms ns
  room (table slots) = 12 + vtable_len slots + inline_room slots + rooms_below slots

  pub rooms : Nodes → ℕ
  rooms no_node = 0
  rooms (and_node n ns) = room n + rooms ns

  pub rooms_below : Slots → ℕ
  rooms_below no_slot = 0
  rooms_below (absent rest) = rooms_below rest
  rooms_below (scalar w n rest) = rooms_below rest
  rooms_below (refers n rest) = room n + rooms_below rest

mutual
  pub room_holds : (cursor : ℕ) (t : Tree) → end_at cursor t ≤ cursor + room t
  room_holds cursor (text t) = omega (arith, gap_small 4 cursor)
  room_holds cursor (structs ps) = omega (arith, gap_small 8 (cursor + 4))
  room_holds cursor (references ns) = omega (arith, gap_small 4 cursor, rooms_hold (cursor + gap 4 cursor + 4 + 4 * count_of ns) ns)
  room_holds cursor (table slots) =
      omega (arith, gap_small 8 (cursor + vtable_len slots), inline_small 4 slots, below_holds (table_start cursor slots + inline_end 4 slots) slots)

  pub rooms_hold : (cursor : ℕ) (ns : Nodes) → ends_at cursor ns ≤ cursor + rooms ns
  rooms_hold cursor no_node = omega arith
  rooms_hold cursor (and_node n ns) = omega (arith, room_holds cursor n, rooms_hold (end_at cursor n) ns)

  pub below_holds : (cursor : ℕ) (slots : Slots) → below_ends_at cursor slots ≤ cursor + rooms_below slots
  below_holds cursor no_slot = omega arith
  below_holds cursor (absent rest) = below_holds cursor rest
  below_holds cursor (scalar w n rest) = below_holds cursor rest
  below_holds cursor (refers n rest) = omega (arith, room_holds cursor n, below_holds (end_at cursor n) rest)

-- the size of metadata, as flatbuf tells it
abbrev pub Sizes : Type 0
Sizes = (t : Tree) → length (metadata t) ≡ end_at 4 t + gap 8 (end_at 4 t)

metadata_small : Sizes → (t : Tree) → length (metadata t) ≤ 12 + room t
metadata_small size t = omega (arith, size t, room_holds 4 t, gap_small 8 (end_at 4 t))

-- ---- the room of a schema

type_room : (kind : Kind) → room (type_tree kind) ≤ 60 + length (timezone_of kind)
type_room nulls = omega arith
type_room booleans = omega arith
type_room (integers bits signed) = omega arith
type_room (dates unit) = omega arith
type_room (timestamps unit []) = omega arith
type_room (timestamps unit (b ∷ bs)) = omega arith
type_room texts = omega arith
type_room large_texts = omega arith
type_room binaries = omega arith
type_room large_binaries = omega arith
type_room (fixed_binaries width) = omega arith
type_room (lists item) = omega arith
type_room (large_lists item) = omega arith
type_room (fixed_lists size item) = omega arith
type_room (struct_kind parts) = omega arith

pair_room : (ps : List Pair) → rooms (pair_nodes ps) + 4 * count_of (pair_nodes ps) ≤ 64 * length ps + bytes_of_pairs ps
pair_room [] = omega arith
pair_room (p ∷ ps) = omega (arith, pair_room ps, sum_by-cons (λ (q : Pair). length q.0 + length q.1) p ps)

-- what pairs add to a table
pairs_count : (ps : List Pair) → slots_of (pairs_slot ps) ≤ 1
pairs_count [] = omega arith
pairs_count (p ∷ ps) = omega arith

pairs_inline : (ps : List Pair) → inline_room (pairs_slot ps) ≤ 12
pairs_inline [] = omega arith
pairs_inline (p ∷ ps) = omega arith

pairs_room : (ps : List Pair) → rooms_below (pairs_slot ps) ≤ 8 + 64 * length ps + bytes_of_pairs ps
pairs_room [] = omega arith
pairs_room (p ∷ ps) = omega (arith, pair_room (p ∷ ps))

-- what a dictionary adds
dictionary_count : (id : ℕ) (dictionary : Option Index) (rest : Slots) → slots_of (dictionary_slot id dictionary rest) ≡ 1 + slots_of rest
dictionary_count id None rest = omega arith
dictionary_count id (Some index) rest = omega arith

dictionary_inline : (id : ℕ) (dictionary : Option Index) (rest : Slots) → inline_room (dictionary_slot id dictionary rest) ≤ 8 + inline_room rest
dictionary_inline id None rest = omega arith
dictionary_inline id (Some index) rest = omega arith

dictionary_room : (id : ℕ) (dictionary : Option Index) (rest : Slots) → rooms_below (dictionary_slot id dictionary rest) ≤ 100 + rooms_below rest
dictionary_room id None rest = omega arith
dictionary_room id (Some index) rest = omega arith

-- the most bytes of a column without its children, and of the reference to it
abbrev pub own_room : Column → ℕ
own_room c = 300 + 64 * pairs_in c + bytes_in c

mutual
  unfolding field_tree child_nodes field_nodes preorder preorder_below preorder_all

  field_room : (id : ℕ) (c : Column) → 4 + room (field_tree id c) ≤ sum_by own_room (preorder c)
  field_room id (column name nullable kind dictionary pairs) =
      let below : Slots = refers (references (child_nodes (id + ids_for dictionary) kind)) (pairs_slot pairs) in
      let sum = sum_by-cons own_room (column name nullable kind dictionary pairs) (preorder_below kind) in
      let slots = dictionary_count id dictionary below in
      let own = dictionary_inline id dictionary below in
      let entries = dictionary_room id dictionary below in
      omega (arith, sum, slots, own, entries, type_room kind, pairs_count pairs, pairs_inline pairs, pairs_room pairs, children_room (id + ids_for dictionary) kind)

  children_room : (id : ℕ) (kind : Kind) → rooms (child_nodes id kind) + 4 * count_of (child_nodes id kind) ≤ sum_by own_room (preorder_below kind)
  children_room id nulls = omega arith
  children_room id booleans = omega arith
  children_room id (integers bits signed) = omega arith
  children_room id (dates unit) = omega arith
  children_room id (timestamps unit timezone) = omega arith
  children_room id texts = omega arith
  children_room id large_texts = omega arith
  children_room id binaries = omega arith
  children_room id large_binaries = omega arith
  children_room id (fixed_binaries width) = omega arith
  children_room id (lists item) = omega (arith, field_room id item)
  children_room id (large_lists item) = omega (arith, field_room id item)
  children_room id (fixed_lists size item) = omega (arith, field_room id item)
  children_room id (struct_kind parts) = fields_room id parts

  fields_room : (id : ℕ) (cs : Columns) → rooms (field_nodes id cs) + 4 * count_of (field_nodes id cs) ≤ sum_by own_room (preorder_all cs)
  fields_room id no_column = omega arith
  fields_room id (and_column c cs) = omega (arith, field_room id c, fields_room (id + ids_of c) cs, sum_by-append own_room (preorder c) (preorder_all cs))

own_rooms : (cs : List Column) → sum_by own_room cs ≡ 300 * length cs + 64 * sum_by pairs_in cs + sum_by bytes_in cs
own_rooms [] = omega arith
own_rooms (c ∷ cs) = omega (arith, own_rooms cs, sum_by-cons own_room c cs, sum_by-cons pairs_in c cs, sum_by-cons bytes_in c cs)

-- the limits of a schema bound its metadata
pub schema_small : Sizes → (s : PlainSchema) → IsWithinLimits s → length (metadata (message_tree SCHEMA (schema_tree s) 0)) ≤ 16777216
schema_small size s limits =
    let whole = metadata_small size (message_tree SCHEMA (schema_tree s) 0) in
    let fields = fields_room 0 (columns_of s.columns) in
    let sums = own_rooms (every_column s) in
    omega (arith, whole, fields, sums, pairs_count s.pairs, pairs_inline s.pairs, pairs_room s.pairs, limits.fields, limits.pairs, limits.bytes)

-- ---- the dictionaries of a schema

mutual
  unfolding preorder preorder_below preorder_all

  ids_few : (c : Column) → ids_of c ≤ length (preorder c)
  ids_few (column name nullable kind None pairs) = omega (arith, ids_few_below kind)
  ids_few (column name nullable kind (Some index) pairs) = omega (arith, ids_few_below kind)

  ids_few_below : (kind : Kind) → ids_below kind ≤ length (preorder_below kind)
  ids_few_below nulls = omega arith
  ids_few_below booleans = omega arith
  ids_few_below (integers bits signed) = omega arith
  ids_few_below (dates unit) = omega arith
  ids_few_below (timestamps unit timezone) = omega arith
  ids_few_below texts = omega arith
  ids_few_below large_texts = omega arith
  ids_few_below binaries = omega arith
  ids_few_below large_binaries = omega arith
  ids_few_below (fixed_binaries width) = omega arith
  ids_few_below (lists item) = ids_few item
  ids_few_below (large_lists item) = ids_few item
  ids_few_below (fixed_lists size item) = ids_few item
  ids_few_below (struct_kind parts) = ids_few_all parts

  ids_few_all : (cs : Columns) → ids_of_all cs ≤ length (preorder_all cs)
  ids_few_all no_column = omega arith
  ids_few_all (and_column c cs) = omega (arith, ids_few c, ids_few_all cs, length-append (preorder c) (preorder_all cs))

-- so few that each id has 64 bits
pub schema_ids : (s : PlainSchema) → IsWithinLimits s → ids_of_all (columns_of s.columns) ≤ 2048
schema_ids s limits = omega (arith, ids_few_all (columns_of s.columns), limits.fields)

-- ---- numbers fit their slots

width_small : (bits : ℕ) → is_bit_width bits ≡ true → bits < 256 ^ 4
width_small bits w = grind (arith, nat_tests)

number_small : (n : ℕ) → nat_lt n NUMBER_END ≡ true → n < 256 ^ 4
number_small n h = omega (arith, ltb-true n NUMBER_END h)

bit_small : (b : Bool) → bit b < 256
bit_small true = omega arith
bit_small false = omega arith

date_small : (unit : DateKind) → date_unit_of unit < 256 ^ 2
date_small days = omega arith
date_small date_milliseconds = omega arith

time_small : (unit : TimeKind) → time_unit_of unit < 256 ^ 2
time_small seconds = omega arith
time_small milliseconds = omega arith
time_small microseconds = omega arith
time_small nanoseconds = omega arith

code_small : (kind : Kind) → code_of kind < 256
code_small nulls = omega arith
code_small booleans = omega arith
code_small (integers bits signed) = omega arith
code_small (dates unit) = omega arith
code_small (timestamps unit timezone) = omega arith
code_small texts = omega arith
code_small large_texts = omega arith
code_small binaries = omega arith
code_small large_binaries = omega arith
code_small (fixed_binaries width) = omega arith
code_small (lists item) = omega arith
code_small (large_lists item) = omega arith
code_small (fixed_lists size item) = omega arith
code_small (struct_kind parts) = omega arith

type_fits : (kind : Kind) → nat_lt (number_of kind) NUMBER_END ≡ true → is_kind_of_width kind ≡ true → Fits (type_tree kind)
type_fits nulls h w = (omega arith, omega arith, tt)
type_fits booleans h w = (omega arith, omega arith, tt)
type_fits (integers bits signed) h w = (omega arith, omega arith, (width_small bits w, (bit_small signed, tt)))
type_fits (dates unit) h w = (omega arith, omega arith, (date_small unit, tt))
type_fits (timestamps unit []) h w = (omega arith, omega arith, (time_small unit, tt))
type_fits (timestamps unit (b ∷ bs)) h w = (omega arith, omega arith, (time_small unit, (tt, tt)))
type_fits texts h w = (omega arith, omega arith, tt)
type_fits large_texts h w = (omega arith, omega arith, tt)
type_fits binaries h w = (omega arith, omega arith, tt)
type_fits large_binaries h w = (omega arith, omega arith, tt)
type_fits (fixed_binaries width) h w = (omega arith, omega arith, (number_small width h, tt))
type_fits (lists item) h w = (omega arith, omega arith, tt)
type_fits (large_lists item) h w = (omega arith, omega arith, tt)
type_fits (fixed_lists size item) h w = (omega arith, omega arith, (number_small size h, tt))
type_fits (struct_kind parts) h w = (omega arith, omega arith, tt)

pair_nodes_fit : (ps : List Pair) → FitsAll (pair_nodes ps)
pair_nodes_fit [] = tt
pair_nodes_fit (p ∷ ps) = ((omega arith, omega arith, (tt, (tt, tt))), pair_nodes_fit ps)

pairs_fit : (ps : List Pair) → FitsSlots (pairs_slot ps)
pairs_fit [] = tt
pairs_fit (p ∷ ps) = (pair_nodes_fit (p ∷ ps), tt)

encoding_fits : (id : ℕ) (index : Index) → id < 2 ^ 64 → is_bit_width index.bits ≡ true → Fits (encoding_tree id index)
encoding_fits id index h w = (omega arith, omega arith, (h, ((omega arith, omega arith, (width_small index.bits w, (bit_small index.signed, tt))), (omega arith, (omega arith, tt)))))

dictionary_fits : (id : ℕ) (dictionary : Option Index) (rest : Slots) → id + ids_for dictionary < 2 ^ 64 → is_index_of_width dictionary ≡ true → FitsSlots rest → FitsSlots (dictionary_slot id dictionary rest)
dictionary_fits id None rest h w fits = fits
dictionary_fits id (Some index) rest h w fits = (encoding_fits id index (omega arith) w, fits)

-- what the numbers of a column fit by: its number is in range, and its widths are those of integers
abbrev pub has_numbers : Column → Bool
has_numbers c = has_number_in_range c && has_bit_widths c

mutual
  unfolding field_tree child_nodes field_nodes preorder preorder_below preorder_all

  field_fits : (id : ℕ) (c : Column) → id + ids_of c < 2 ^ 64 → list_all has_numbers (preorder c) ≡ true → Fits (field_tree id c)
  field_fits id (column name nullable kind dictionary pairs) few h =
      let c : Column = column name nullable kind dictionary pairs in
      let parts = and_parts (has_numbers c) (list_all has_numbers (preorder_below kind)) h in
      let own = and_parts (has_number_in_range c) (has_bit_widths c) parts.0 in
      let widths = and_parts (is_kind_of_width kind) (is_index_of_width dictionary) own.1 in
      let below : Slots = refers (references (child_nodes (id + ids_for dictionary) kind)) (pairs_slot pairs) in
      let slots : Slots = refers (text name) (scalar 1 (bit nullable) (scalar 1 (code_of kind) (refers (type_tree kind) (dictionary_slot id dictionary below)))) in
      let count = dictionary_count id dictionary below in
      let room = dictionary_inline id dictionary below in (
        omega (arith, inline_small 4 slots, room, pairs_inline pairs),
        omega (arith, count, pairs_count pairs),
        (
          tt,
          (
            bit_small nullable,
            (
              code_small kind,
              (
                type_fits kind own.0 widths.0,
                dictionary_fits id dictionary below (omega (arith, few)) widths.1 (children_fit (id + ids_for dictionary) kind (omega (arith, few)) parts.1, pairs_fit pairs),
              ),
            ),
          ),
        ),
      )

  children_fit : (id : ℕ) (kind : Kind) → id + ids_below kind < 2 ^ 64 → list_all has_numbers (preorder_below kind) ≡ true → FitsAll (child_nodes id kind)
  children_fit id nulls few h = tt
  children_fit id booleans few h = tt
  children_fit id (integers bits signed) few h = tt
  children_fit id (dates unit) few h = tt
  children_fit id (timestamps unit timezone) few h = tt
  children_fit id texts few h = tt
  children_fit id large_texts few h = tt
  children_fit id binaries few h = tt
  children_fit id large_binaries few h = tt
  children_fit id (fixed_binaries width) few h = tt
  children_fit id (lists item) few h = (field_fits id item few h, tt)
  children_fit id (large_lists item) few h = (field_fits id item few h, tt)
  children_fit id (fixed_lists size item) few h = (field_fits id item few h, tt)
  children_fit id (struct_kind parts) few h = fields_fit id parts few h

  fields_fit : (id : ℕ) (cs : Columns) → id + ids_of_all cs < 2 ^ 64 → list_all has_numbers (preorder_all cs) ≡ true → FitsAll (field_nodes id cs)
  fields_fit id no_column few h = tt
  fields_fit id (and_column c cs) few h =
      let parts = and_parts (list_all has_numbers (preorder c)) (list_all has_numbers (preorder_all cs)) (sym (list_all-append has_numbers (preorder c) (preorder_all cs)) ∙ h) in
      (field_fits id c (omega (arith, few)) parts.0, fields_fit (id + ids_of c) cs (omega (arith, few)) parts.1)

both_all : (cs : List Column) → list_all has_number_in_range cs ≡ true → list_all has_bit_widths cs ≡ true → list_all has_numbers cs ≡ true
both_all [] a b = refl
both_all (c ∷ cs) a b =
    let x = and_parts (has_number_in_range c) (list_all has_number_in_range cs) a in
    let y = and_parts (has_bit_widths c) (list_all has_bit_widths cs) b in
    rw (x.0, y.0) (both_all cs x.1 y.1)

-- the limits of a schema say that its numbers fit
pub schema_numbers : (s : PlainSchema) → IsWithinLimits s → list_all has_numbers (every_column s) ≡ true
schema_numbers s limits = both_all (every_column s) (list_all-from_AllPass _ _ limits.numbers) (list_all-from_AllPass _ _ limits.widths)

pub schema_fits : (s : PlainSchema) → IsWithinLimits s → Fits (message_tree SCHEMA (schema_tree s) 0)
schema_fits s limits =
    let fields = fields_fit 0 (columns_of s.columns) (omega (arith, schema_ids s limits)) (schema_numbers s limits) in (
      omega arith,
      omega arith,
      (
        omega arith,
        (
          omega arith,
          (
            (omega (arith, inline_small 4 (scalar 2 0 (refers (references (field_nodes 0 (columns_of s.columns))) (pairs_slot s.pairs))), pairs_inline s.pairs), omega (arith, pairs_count s.pairs), (omega arith, (fields, pairs_fit s.pairs))),
            (omega arith, tt),
          ),
        ),
      ),
    )

-- ---- messages

pub batch_room : Sizes → (rows body_length : ℕ) (nodes buffers : List (ℕ × ℕ)) → length (metadata (message_tree RECORD_BATCH (table (scalar 8 rows (refers (structs nodes) (refers (structs buffers) no_slot)))) body_length)) ≤ 300 + 16 * length nodes + 16 * length buffers
batch_room size rows body_length nodes buffers = omega (arith, metadata_small size (message_tree RECORD_BATCH (table (scalar 8 rows (refers (structs nodes) (refers (structs buffers) no_slot)))) body_length))

pub batch_fits : (rows body_length : ℕ) (nodes buffers : List (ℕ × ℕ)) → rows < 2 ^ 64 → body_length < 2 ^ 64 → FitsStructs nodes → FitsStructs buffers → Fits (message_tree RECORD_BATCH (table (scalar 8 rows (refers (structs nodes) (refers (structs buffers) no_slot)))) body_length)
batch_fits rows body_length nodes buffers small short n b =
    (omega arith, omega arith, (omega arith, (omega arith, ((omega arith, omega arith, (small, (n, (b, tt)))), (short, tt)))))

pub dictionary_batch_room : Sizes → (id : ℕ) (is_delta : Bool) (rows body_length : ℕ) (nodes buffers : List (ℕ × ℕ))
    → length (metadata (message_tree DICTIONARY_BATCH (table (scalar 8 id (refers (table (scalar 8 rows (refers (structs nodes) (refers (structs buffers) no_slot)))) (scalar 1 (bit is_delta) no_slot)))) body_length)) ≤ 400 + 16 * length nodes + 16 * length buffers
dictionary_batch_room size id is_delta rows body_length nodes buffers =
    omega (arith, metadata_small size (message_tree DICTIONARY_BATCH (table (scalar 8 id (refers (table (scalar 8 rows (refers (structs nodes) (refers (structs buffers) no_slot)))) (scalar 1 (bit is_delta) no_slot)))) body_length))

pub dictionary_batch_fits : (id : ℕ) (is_delta : Bool) (rows body_length : ℕ) (nodes buffers : List (ℕ × ℕ)) → id < 2 ^ 64 → rows < 2 ^ 64 → body_length < 2 ^ 64 → FitsStructs nodes → FitsStructs buffers
    → Fits (message_tree DICTIONARY_BATCH (table (scalar 8 id (refers (table (scalar 8 rows (refers (structs nodes) (refers (structs buffers) no_slot)))) (scalar 1 (bit is_delta) no_slot)))) body_length)
dictionary_batch_fits id is_delta rows body_length nodes buffers known small short n b =
    (omega arith, omega arith, (omega arith, (omega arith, ((omega arith, omega arith, (known, ((omega arith, omega arith, (small, (n, (b, tt)))), (bit_small is_delta, tt)))), (short, tt)))))

-- a tree whose metadata is within the most that a reader takes can be written
pub root_small : (root tree : Tree) → root ≡ tree → length (metadata tree) ≤ 16777216 → length (metadata root) < 2 ^ 31
root_small root tree is small = omega (arith, small, ap (λ (t : Tree). length (metadata t)) is)

-- the same header makes the same message
pub same_fits : (type : ℕ) (header tree : Tree) (len n : ℕ) → header ≡ tree → len ≡ n → Fits (message_tree type tree n) → Fits (message_tree type header len)
same_fits type header tree len n is l fits = rw (is, l) fits

pub same_size : (type : ℕ) (header tree : Tree) (len n : ℕ) → header ≡ tree → len ≡ n → length (metadata (message_tree type tree n)) ≤ 16777216 → length (metadata (message_tree type header len)) ≤ 16777216
same_size type header tree len n is l small = rw (is, l) small
