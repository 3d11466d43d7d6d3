-- Nodes and buffers at their places.
use Rattle.std.specs.Prelude.{◌||◌, ◌/◌, min, nat_le}
use Rattle.std.specs.List.{list_any}
use Rattle.std.proofs.Common.{inl, inr, ◌⊎◌, ◌≡◌, ℕ, zero, suc, ◌+◌, ◌-◌, ◌*◌, ◌≤◌, ◌<◌, ◌^◌, Bool, true, false, List, [], ◌∷◌, length, take, drop, refl, arith, sym, ap, ◌∙◌}
use Rattle.std.proofs.Math.Seq.{take-nil}
use Rattle.std.proofs.lemmas.List.{drop_all, drop-drop, length-drop}
use Rattle.std.proofs.lemmas.Bool.{leb-true}
use Rattle.std.proofs.lemmas.Bool.Decides.{nat_tests}
use Rattle.byteorder.specs.Endian.{little_number}
use Rattle.arrays.specs.inner.Counted.{capped}
use Rattle.ipc_message.specs.Raw.{RawNode, RawBuffer, nodes_from, buffers_from, nodes_in, buffers_in}

-- ---- a test of each element, in a loop

any_of : {A : Type 0} (p : A → Bool) (xs : List A) (i : ℕ) (x : A) → drop i xs ≡ x ∷ drop (i + 1) xs → list_any p (drop i xs) ≡ (p x || list_any p (drop (i + 1) xs))
any_of p xs i x next = ap (list_any p) next

-- no: the others decide
pub any_later : {A : Type 0} (p : A → Bool) (xs : List A) (i : ℕ) (x : A) → drop i xs ≡ x ∷ drop (i + 1) xs → p x ≡ false → list_any p (drop (i + 1) xs) ≡ list_any p (drop i xs)
any_later p xs i x next is = rw (any_of p xs i x next, is) refl

-- yes
pub any_here : {A : Type 0} (p : A → Bool) (xs : List A) (i : ℕ) (x : A) → drop i xs ≡ x ∷ drop (i + 1) xs → p x ≡ true → list_any p (drop i xs) ≡ true
any_here p xs i x next is = rw (any_of p xs i x next, is) refl

-- there are no others
pub any_end : {A : Type 0} (p : A → Bool) (xs : List A) (i : ℕ) → length xs ≤ i → list_any p (drop i xs) ≡ false
any_end p xs i all = ap (list_any p) (drop_all i xs all)

-- ---- nodes and buffers

abbrev pub node_at : List ℕ → ℕ → RawNode
node_at bytes i = record { length = little_number 8 (drop (16 * i) bytes); null_count = little_number 8 (drop (16 * i + 8) bytes) }

abbrev pub buffer_at : List ℕ → ℕ → RawBuffer
buffer_at bytes i = record { offset = little_number 8 (drop (16 * i) bytes); length = little_number 8 (drop (16 * i + 8) bytes) }

number_later : (a b c : ℕ) (bytes : List ℕ) → a + b ≡ c → little_number 8 (drop b (drop a bytes)) ≡ little_number 8 (drop c bytes)
number_later a b c bytes e = ap (little_number 8) (drop-drop b a bytes ∙ ap (λ (k : ℕ). drop k bytes) e)

length-nodes : (n : ℕ) (bytes : List ℕ) → length (nodes_from n bytes) ≡ n
length-nodes zero bytes = refl
length-nodes (suc n) bytes = omega (arith, length-nodes n (drop 16 bytes))

length-buffers : (n : ℕ) (bytes : List ℕ) → length (buffers_from n bytes) ≡ n
length-buffers zero bytes = refl
length-buffers (suc n) bytes = omega (arith, length-buffers n (drop 16 bytes))

node_next : (n i : ℕ) (bytes : List ℕ) → i < n → drop i (nodes_from n bytes) ≡ node_at bytes i ∷ drop (suc i) (nodes_from n bytes)
node_next zero i bytes few = absurd (omega arith)
node_next (suc n) zero bytes few = refl
node_next (suc n) (suc i) bytes few =
    let a = number_later 16 (16 * i) (16 * suc i) bytes (omega arith) in
    let b = number_later 16 (16 * i + 8) (16 * suc i + 8) bytes (omega arith) in
    node_next n i (drop 16 bytes) (omega arith)
    ∙ λ j. record { length = a j; null_count = b j } ∷ drop (suc i) (nodes_from n (drop 16 bytes))

buffer_next : (n i : ℕ) (bytes : List ℕ) → i < n → drop i (buffers_from n bytes) ≡ buffer_at bytes i ∷ drop (suc i) (buffers_from n bytes)
buffer_next zero i bytes few = absurd (omega arith)
buffer_next (suc n) zero bytes few = refl
buffer_next (suc n) (suc i) bytes few =
    let a = number_later 16 (16 * i) (16 * suc i) bytes (omega arith) in
    let b = number_later 16 (16 * i + 8) (16 * suc i + 8) bytes (omega arith) in
    buffer_next n i (drop 16 bytes) (omega arith)
    ∙ λ j. record { offset = a j; length = b j } ∷ drop (suc i) (buffers_from n (drop 16 bytes))

pub count_nodes : (bytes : List ℕ) → length (nodes_in bytes) ≡ length bytes / 16
count_nodes bytes = length-nodes (length bytes / 16) bytes

pub count_buffers : (bytes : List ℕ) → length (buffers_in bytes) ≡ length bytes / 16
count_buffers bytes = length-buffers (length bytes / 16) bytes

pub next_node : (bytes : List ℕ) (i : ℕ) → i < length bytes / 16 → drop i (nodes_in bytes) ≡ node_at bytes i ∷ drop (i + 1) (nodes_in bytes)
next_node bytes i few = let e : i + 1 ≡ suc i = omega arith in rw e (node_next (length bytes / 16) i bytes few)

pub next_buffer : (bytes : List ℕ) (i : ℕ) → i < length bytes / 16 → drop i (buffers_in bytes) ≡ buffer_at bytes i ∷ drop (i + 1) (buffers_in bytes)
next_buffer bytes i few = let e : i + 1 ≡ suc i = omega arith in rw e (buffer_next (length bytes / 16) i bytes few)

-- ---- those after n

drop_none : {A : Type 0} (xs : List A) (k : ℕ) → k ≡ 0 → drop k xs ≡ xs
drop_none xs k e = rw e refl

later_nodes : (n k : ℕ) (bytes : List ℕ) → k ≤ n → nodes_from (n - k) (drop (16 * k) bytes) ≡ drop k (nodes_from n bytes)
later_nodes n zero bytes le = let e : n - 0 ≡ n = omega arith in rw (e, drop_none bytes (16 * 0) (omega arith)) refl
later_nodes zero (suc k) bytes le = absurd (omega arith)
later_nodes (suc n) (suc k) bytes le =
    let e : suc n - suc k ≡ n - k = omega arith in
    let d : drop (16 * suc k) bytes ≡ drop (16 * k) (drop 16 bytes) = sym (drop-drop (16 * k) 16 bytes ∙ ap (λ (m : ℕ). drop m bytes) (let s : 16 + 16 * k ≡ 16 * suc k = omega arith in s)) in
    rw (e, d) (later_nodes n k (drop 16 bytes) (omega arith))

later_buffers : (n k : ℕ) (bytes : List ℕ) → k ≤ n → buffers_from (n - k) (drop (16 * k) bytes) ≡ drop k (buffers_from n bytes)
later_buffers n zero bytes le = let e : n - 0 ≡ n = omega arith in rw (e, drop_none bytes (16 * 0) (omega arith)) refl
later_buffers zero (suc k) bytes le = absurd (omega arith)
later_buffers (suc n) (suc k) bytes le =
    let e : suc n - suc k ≡ n - k = omega arith in
    let d : drop (16 * suc k) bytes ≡ drop (16 * k) (drop 16 bytes) = sym (drop-drop (16 * k) 16 bytes ∙ ap (λ (m : ℕ). drop m bytes) (let s : 16 + 16 * k ≡ 16 * suc k = omega arith in s)) in
    rw (e, d) (later_buffers n k (drop 16 bytes) (omega arith))

sixteens : (n k : ℕ) → 16 * k ≤ n → (n - 16 * k) / 16 ≡ n / 16 - k
sixteens n k le = omega arith

pub nodes_after : (bytes : List ℕ) (k : ℕ) → k ≤ length bytes / 16 → nodes_in (drop (16 * k) bytes) ≡ drop k (nodes_in bytes)
nodes_after bytes k le =
    let count : length (drop (16 * k) bytes) / 16 ≡ length bytes / 16 - k = ap (λ (n : ℕ). n / 16) (length-drop (16 * k) bytes) ∙ sixteens (length bytes) k (omega arith) in
    rw count (later_nodes (length bytes / 16) k bytes le)

pub buffers_after : (bytes : List ℕ) (k : ℕ) → k ≤ length bytes / 16 → buffers_in (drop (16 * k) bytes) ≡ drop k (buffers_in bytes)
buffers_after bytes k le =
    let count : length (drop (16 * k) bytes) / 16 ≡ length bytes / 16 - k = ap (λ (n : ℕ). n / 16) (length-drop (16 * k) bytes) ∙ sixteens (length bytes) k (omega arith) in
    rw count (later_buffers (length bytes / 16) k bytes le)

pub nodes_left : (bytes : List ℕ) (count n : ℕ) → count ≡ capped n → length bytes / 16 < 2 ^ 60 → count ≤ length bytes / 16 → nodes_in (drop (16 * count) bytes) ≡ drop n (nodes_in bytes)
nodes_left bytes count n is small le = let e : count ≡ n = omega arith in rw e (nodes_after bytes n (omega arith))

pub buffers_left : (bytes : List ℕ) (count n : ℕ) → count ≡ capped n → length bytes / 16 < 2 ^ 60 → count ≤ length bytes / 16 → buffers_in (drop (16 * count) bytes) ≡ drop n (buffers_in bytes)
buffers_left bytes count n is small le = let e : count ≡ n = omega arith in rw e (buffers_after bytes n (omega arith))

pub no_nodes_left : (bytes : List ℕ) (count n : ℕ) → count ≡ capped n → length bytes / 16 < count → nodes_in [] ≡ drop n (nodes_in bytes)
no_nodes_left bytes count n is lt = sym (drop_all n (nodes_in bytes) (omega (arith, count_nodes bytes)))

pub no_buffers_left : (bytes : List ℕ) (count n : ℕ) → count ≡ capped n → length bytes / 16 < count → buffers_in [] ≡ drop n (buffers_in bytes)
no_buffers_left bytes count n is lt = sym (drop_all n (buffers_in bytes) (omega (arith, count_buffers bytes)))

-- ---- a buffer in its body

take_taken : (l m : ℕ) (xs : List ℕ) → take l (take m xs) ≡ take (min m l) xs
take_taken zero m xs = let e : min m 0 ≡ 0 = omega arith in rw e refl
take_taken (suc l) zero xs = let e : min 0 (suc l) ≡ 0 = omega arith in rw e refl
take_taken (suc l) (suc m) [] = let e : min (suc m) (suc l) ≡ suc (min m l) = omega arith in rw e refl
take_taken (suc l) (suc m) (x ∷ xs) = let e : min (suc m) (suc l) ≡ suc (min m l) = omega arith in rw e (ap (λ (ys : List ℕ). x ∷ ys) (take_taken l m xs))

drop_taken : (o m : ℕ) (xs : List ℕ) → drop o (take m xs) ≡ take (m - o) (drop o xs)
drop_taken zero m xs = let e : m - 0 ≡ m = omega arith in rw e refl
drop_taken (suc o) zero xs = let e : 0 - suc o ≡ 0 = omega arith in rw e refl
drop_taken (suc o) (suc m) [] = let e : suc m - suc o ≡ m - o = omega arith in rw e (sym (take-nil (m - o)))
drop_taken (suc o) (suc m) (x ∷ xs) = let e : suc m - suc o ≡ m - o = omega arith in rw e (drop_taken o m xs)

in_order : (size offset : ℕ) (b : Bool) → nat_le offset size ≡ b → (offset ≤ size) ⊎ (size < offset)
in_order size offset true h = inl (leb-true offset size h)
in_order size offset false h = inr (grind (arith, nat_tests))

pub buffer_within : (bytes : List ℕ) (start size offset len skipped left : ℕ) → skipped ≡ min size offset → left ≡ size - skipped
    → take (min left len) (drop (start + skipped) bytes) ≡ take len (drop offset (take size (drop start bytes)))
buffer_within bytes start size offset len skipped left s l =
    let right : take len (drop offset (take size (drop start bytes))) ≡ take (min (size - offset) len) (drop offset (drop start bytes))
    = ap (take len) (drop_taken offset size (drop start bytes)) ∙ take_taken len (size - offset) (drop offset (drop start bytes)) in
    elim (in_order size offset (nat_le offset size) refl) [
      | inl le ↦
          (let e : skipped ≡ offset = omega arith in
          let f : left ≡ size - offset = omega arith in
          let g : drop offset (drop start bytes) ≡ drop (start + offset) bytes = drop-drop offset start bytes in
          rw (e, f) (sym (right ∙ ap (take (min (size - offset) len)) g)))
      | inr past ↦
          (let e : min left len ≡ 0 = omega arith in
          let f : min (size - offset) len ≡ 0 = omega arith in
          rw e (sym (right ∙ ap (λ (n : ℕ). take n (drop offset (drop start bytes))) f)))
    ]
