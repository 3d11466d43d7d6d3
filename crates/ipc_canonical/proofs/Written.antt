-- What the laws of lower crates say of written arrays and of their batch, gathered.
use Rattle.std.specs.Prelude.{◌==◌, not}
use Rattle.std.specs.List.{AllByRecursion, list_any}
use Rattle.std.proofs.Common.{◌≡◌, ℕ, ◌+◌, ◌*◌, ◌^◌, ◌<◌, ◌≤◌, Bool, true, false, List, [], ◌∷◌, map, length, take, drop, sum_by, Some, None, refl, arith}
use Rattle.std.proofs.lemmas.List.{length-map}
use Rattle.arrow_schema.specs.Column.{Column, Columns, nulls, booleans, integers, dates, timestamps, texts, large_texts, binaries, large_binaries, fixed_binaries, lists, large_lists, fixed_lists, structs, column}
use Rattle.flatbuf.specs.Held.{FitsStructs}
use Rattle.ipc_message.specs.Raw.{RawBuffer}
use Rattle.ipc_write.specs.Trees.{node_pair}
use Rattle.ipc_write.specs.Written.{body, placed, IsWritableBatch}
use Rattle.columns.specs.Array.{Array, Arrays, no_array, array_list, slots_in, validity_in}
use Rattle.columns.specs.Buffers.{node_of, nodes_of, buffers_of, null_count}
use Rattle.columns.specs.FromBuffers.{arrays_from}
use Rattle.columns.specs.Layouts.{dictionary_arrays}
use Rattle.columns.specs.Tests.{Typed, every_array, unset_bits, is_short, is_unordered, counts_wrong, has_short_child}
use Rattle.ipc_canonical.specs.WrittenBatch.{raw_node, raw_nodes}

-- a limit of slots
abbrev pub most : ℕ
most = 16777216

pub record AreWritten (cs : Columns) (n : ℕ) (xs : Arrays) : Type 0 where
  pub slots : list_any (λ a. not (slots_in a == n)) (array_list xs) ≡ false
  pub children : list_any (λ t. has_short_child t.column t.array) (every_array cs xs) ≡ false
  pub nodes : length (nodes_of cs xs) ≡ length (nodes_of cs no_array)
  pub buffers : length (buffers_of cs xs) ≡ length (buffers_of cs no_array)
  pub few_nodes : length (nodes_of cs xs) ≤ 2048
  pub few_buffers : length (buffers_of cs xs) ≤ 6144
  pub few_rows : n ≤ most
  pub few_slots : AllByRecursion (λ t. slots_in t.array ≤ most) (every_array cs xs)
  pub few_bytes : sum_by length (buffers_of cs xs) ≤ length (nodes_of cs xs) * (10 * most + 8)
  pub long : list_any (λ t. is_short t.column t.array) (every_array cs xs) ≡ false
  pub ordered : list_any (λ t. is_unordered t.column t.array) (every_array cs xs) ≡ false
  pub counted : list_any (λ t. counts_wrong (null_count t.column t.array) t.column t.array) (every_array cs xs) ≡ false
  pub again : arrays_from cs (nodes_of cs xs) (buffers_of cs xs) (dictionary_arrays cs xs) ≡ xs

-- of any buffers
pub record StandInBody (buffers : List (List ℕ)) : Type 0 where
  pub found : map (λ (b : RawBuffer). take b.length (drop b.offset (body buffers))) (placed 0 buffers) ≡ buffers
  pub inside : AllByRecursion (λ (b : RawBuffer). b.offset + b.length ≤ length (body buffers)) (placed 0 buffers)
  pub size : length (body buffers) ≤ sum_by length buffers + 8 * length buffers

-- ---- the batch is writable

few_unset : (validity : List ℕ) (slots : ℕ) → unset_bits validity slots ≤ slots
few_unset validity slots = by_size (length validity == 0) refl
  where
    by_size : (b : Bool) → (length validity == 0) ≡ b → unset_bits validity slots ≤ slots
    by_size true e = rw e (omega arith)
    by_size false e = rw e (omega arith)

few_nulls : (c : Column) (a : Array) → null_count c a ≤ slots_in a
few_nulls (column name nullable nulls None pairs) a = omega arith
few_nulls (column name nullable nulls (Some index) pairs) a = few_unset (validity_in a) (slots_in a)
few_nulls (column name nullable booleans dictionary pairs) a = few_unset (validity_in a) (slots_in a)
few_nulls (column name nullable (integers bits signed) dictionary pairs) a = few_unset (validity_in a) (slots_in a)
few_nulls (column name nullable (dates unit) dictionary pairs) a = few_unset (validity_in a) (slots_in a)
few_nulls (column name nullable (timestamps unit timezone) dictionary pairs) a = few_unset (validity_in a) (slots_in a)
few_nulls (column name nullable texts dictionary pairs) a = few_unset (validity_in a) (slots_in a)
few_nulls (column name nullable large_texts dictionary pairs) a = few_unset (validity_in a) (slots_in a)
few_nulls (column name nullable binaries dictionary pairs) a = few_unset (validity_in a) (slots_in a)
few_nulls (column name nullable large_binaries dictionary pairs) a = few_unset (validity_in a) (slots_in a)
few_nulls (column name nullable (fixed_binaries width) dictionary pairs) a = few_unset (validity_in a) (slots_in a)
few_nulls (column name nullable (lists item) dictionary pairs) a = few_unset (validity_in a) (slots_in a)
few_nulls (column name nullable (large_lists item) dictionary pairs) a = few_unset (validity_in a) (slots_in a)
few_nulls (column name nullable (fixed_lists size item) dictionary pairs) a = few_unset (validity_in a) (slots_in a)
few_nulls (column name nullable (structs columns) dictionary pairs) a = few_unset (validity_in a) (slots_in a)

nodes_fit : (ts : List Typed) → AllByRecursion (λ t. slots_in t.array ≤ most) ts → FitsStructs (map node_pair (map raw_node (map node_of ts)))
nodes_fit [] few = tt
nodes_fit (t ∷ ts) few = (omega (arith, few.0), omega (arith, few.0, few_nulls t.column t.array), nodes_fit ts few.1)

pub body_short : (cs : Columns) (n : ℕ) (xs : Arrays) → AreWritten cs n xs → StandInBody (buffers_of cs xs) → length (body (buffers_of cs xs)) < 2 ^ 62
body_short cs n xs w stand = omega (arith, w.few_bytes, w.few_nodes, w.few_buffers, stand.size)

pub is_writable : (cs : Columns) (n : ℕ) (xs : Arrays) → AreWritten cs n xs → StandInBody (buffers_of cs xs) → IsWritableBatch n (raw_nodes cs xs) (buffers_of cs xs)
is_writable cs n xs w stand = record {
  rows_fit = omega (arith, w.few_rows);
  nodes_fit = nodes_fit (every_array cs xs) w.few_slots;
  room = record {
    few_nodes = omega (arith, w.few_nodes, length-map (nodes_of cs xs) raw_node);
    few_buffers = omega (arith, w.few_buffers);
    short_body = body_short cs n xs w stand;
  };
}
