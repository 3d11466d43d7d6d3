-- What was written is read back.
use Rattle.std.proofs.Common.{◌≡◌, ℕ, suc, ◌+◌, ◌-◌, ◌*◌, ◌<◌, ◌≤◌, ◌^◌, List, [], ◌∷◌, ◌++◌, length, take, drop, Some, None, refl, sym, ap, subst, ◌∙◌, arith, length-append}
use Rattle.std.proofs.lemmas.List.{length-replicate, append-nil}
use Rattle.std.specs.Prelude.{replicate}
use Rattle.std.proofs.lemmas.Bool.Decides.{nat_tests}
use Rattle.byteorder.specs.Endian.{little_bytes}
use Rattle.byteorder.specs.Numbers.{length-bytes_low_first}
use Rattle.flatbuf.specs.Lookup.{Place, number, target, slot, table_at, vtable_of, back}
use Rattle.flatbuf.specs.Tree.{Tree, Nodes, Slots, table, text, references, structs, no_node, and_node, no_slot, absent, scalar, refers}
use Rattle.flatbuf.specs.Laid.{gap, count_of, struct_bytes, metadata, slots_of, inline_end, distances, inline, links, vtable_len, table_start, start, vtable, laid, laid_all, starts, laid_slots, slot_starts}
use Rattle.flatbuf.specs.Held.{Has, HasAll, HasSlots, HasStructs, HasHead, Fits, FitsAll, FitsSlots, FitsStructs}
use Rattle.flatbuf.specs.Stands.{At}
use Rattle.flatbuf.specs.laws.Laid.{length-struct_bytes}
use Rattle.flatbuf.proofs.Places.{At-left, At-right, At-take, At-within, At-field}

pub At-skip : (bytes : List ℕ) (at g : ℕ) (ys : List ℕ) → At bytes at (replicate g 0 ++ ys) → At bytes (at + g) ys
At-skip bytes at g ys h = rw length-replicate at (At-right bytes at (replicate g 0) ys h)

At-whole : (bytes : List ℕ) → At bytes 0 bytes
At-whole bytes = record { front = []; rest = []; whole = sym (append-nil bytes); here = refl }

pub target_is : (bytes : List ℕ) (at s : ℕ) → at ≤ s → number 4 bytes at ≡ s - at → target bytes at ≡ s
unfolding target
target_is bytes at s le h = omega (arith, h)

slot_is : (bytes : List ℕ) (t : Place) (k d : ℕ) → 2 * k + 6 ≤ t.size → 0 < d → number 2 bytes (t.vtable + 2 * k + 4) ≡ d → slot bytes t k ≡ Some (t.at + d)
slot_is bytes t k d le pos h = rw h (grind (arith, nat_tests))

slot_none : (bytes : List ℕ) (t : Place) (k : ℕ) → number 2 bytes (t.vtable + 2 * k + 4) ≡ 0 → slot bytes t k ≡ None
slot_none bytes t k h = rw h (grind (arith, nat_tests))

slot_past : (bytes : List ℕ) (t : Place) (j : ℕ) → t.size < 2 * j + 6 → slot bytes t j ≡ None
slot_past bytes t j h = grind (arith, nat_tests)

pub inline_le_end : (offset : ℕ) (slots : Slots) → offset ≤ inline_end offset slots
inline_le_end offset no_slot = omega arith
inline_le_end offset (absent rest) = inline_le_end offset rest
inline_le_end offset (scalar w n rest) = omega (arith, inline_le_end (offset + gap w offset + w) rest)
inline_le_end offset (refers n rest) = omega (arith, inline_le_end (offset + gap 4 offset + 4) rest)

pub length-links : (at : ℕ) (ss : List ℕ) → length (links at ss) ≡ 4 * length ss
unfolding links
length-links at [] = refl
length-links at (s ∷ ss) = omega (arith, length-append (little_bytes 4 (s - at)) (links (at + 4) ss), length-links (at + 4) ss, length-bytes_low_first 0 4 (s - at))

pub length-starts : (cursor : ℕ) (ns : Nodes) → length (starts cursor ns) ≡ count_of ns
unfolding starts
length-starts cursor no_node = refl
length-starts cursor (and_node n ns) = ap suc (length-starts (cursor + length (laid cursor n)) ns)

text_has : (bytes : List ℕ) (cursor : ℕ) (t : List ℕ) → length bytes < 2 ^ 31 → At bytes cursor (laid cursor (text t)) → Has bytes (start cursor (text t)) (text t)
unfolding laid
text_has bytes cursor t small h =
    let g = gap 4 cursor in
    let a = At-skip bytes cursor g (little_bytes 4 (length t) ++ (t ++ 0 ∷ [])) h in
    let w = At-within bytes (cursor + g) (little_bytes 4 (length t) ++ (t ++ 0 ∷ [])) a in
    let lt : length t < 256 ^ 4 = omega (arith, length-append (little_bytes 4 (length t)) (t ++ 0 ∷ []), length-append t (0 ∷ [])) in
    let b = At-field bytes (cursor + g) 4 (length t) (t ++ 0 ∷ []) lt a in
    let c = At-left bytes (cursor + g + 4) t (0 ∷ []) b.1 in
    (b.0, At-take bytes (cursor + g + 4) t c, At-within bytes (cursor + g + 4) t c)

moved : (bytes : List ℕ) (p q : ℕ) (xs : List ℕ) → p ≡ q → At bytes p xs → At bytes q xs
moved bytes p q xs e h = subst (λ (k : ℕ). At bytes k xs) e h

length-distances : (offset : ℕ) (slots : Slots) → length (distances offset slots) ≡ 2 * slots_of slots
length-distances offset no_slot = refl
length-distances offset (absent rest) = omega (arith, length-append (little_bytes 2 0) (distances offset rest), length-distances offset rest, length-bytes_low_first 0 2 0)
length-distances offset (scalar w n rest) =
    let o = offset + gap w offset in
    omega (arith, length-append (little_bytes 2 o) (distances (o + w) rest), length-distances (o + w) rest, length-bytes_low_first 0 2 o)
length-distances offset (refers n rest) =
    let o = offset + gap 4 offset in
    omega (arith, length-append (little_bytes 2 o) (distances (o + 4) rest), length-distances (o + 4) rest, length-bytes_low_first 0 2 o)

pub length-vtable : (cursor : ℕ) (slots : Slots) → length (vtable cursor slots) ≡ gap 8 (cursor + vtable_len slots) + vtable_len slots
length-vtable cursor slots =
    let g = gap 8 (cursor + vtable_len slots) in
    omega (
      arith,
      length-append (replicate g 0) (little_bytes 2 (vtable_len slots) ++ (little_bytes 2 (inline_end 4 slots) ++ distances 4 slots)),
      length-replicate {A = ℕ} g 0,
      length-append (little_bytes 2 (vtable_len slots)) (little_bytes 2 (inline_end 4 slots) ++ distances 4 slots),
      length-bytes_low_first 0 2 (vtable_len slots),
      length-append (little_bytes 2 (inline_end 4 slots)) (distances 4 slots),
      length-bytes_low_first 0 2 (inline_end 4 slots),
      length-distances 4 slots,
    )

pub start_ge : (cursor : ℕ) (n : Tree) → cursor ≤ start cursor n
start_ge cursor (table slots) = omega arith
start_ge cursor (text t) = omega arith
start_ge cursor (references ns) = omega arith
start_ge cursor (structs ps) = omega arith

start_within : (bytes : List ℕ) (cursor : ℕ) (n : Tree) → At bytes cursor (laid cursor n) → start cursor n ≤ length bytes
unfolding laid
start_within bytes cursor (text t) h = omega (arith, At-within bytes _ _ (At-skip bytes cursor (gap 4 cursor) _ h))
start_within bytes cursor (references ns) h = omega (arith, At-within bytes _ _ (At-skip bytes cursor (gap 4 cursor) _ h))
start_within bytes cursor (structs ps) h = omega (arith, At-within bytes _ _ (At-skip bytes cursor (gap 8 (cursor + 4)) _ h))
start_within bytes cursor (table slots) h = omega (arith, At-within bytes _ _ (At-left bytes cursor (vtable cursor slots) _ h), length-vtable cursor slots)

back_is : (d at : ℕ) → d < 2 ^ 16 → d ≤ at → back d at ≡ Some (at - d)
back_is d at lt le = grind (arith, nat_tests)

head_of : (bytes : List ℕ) (cursor : ℕ) (slots : Slots) → vtable_len slots < 2 ^ 16 → inline_end 4 slots < 2 ^ 16 → At bytes cursor (laid cursor (table slots))
    → (table_at bytes (table_start cursor slots) ≡ record { at = table_start cursor slots; vtable = table_start cursor slots - vtable_len slots; size = vtable_len slots })
    × HasHead bytes (table_start cursor slots) (slots_of slots)
    × At bytes (table_start cursor slots - vtable_len slots + 4) (distances 4 slots)
    × At bytes (table_start cursor slots + 4) (inline (table_start cursor slots) 4 (slot_starts (table_start cursor slots + inline_end 4 slots) slots) slots ++ laid_slots (table_start cursor slots + inline_end 4 slots) slots)
unfolding laid
head_of bytes cursor slots short thin h =
    let n = vtable_len slots in
    let g = gap 8 (cursor + n) in
    let at = table_start cursor slots in
    let below = at + inline_end 4 slots in
    let tail = inline at 4 (slot_starts below slots) slots ++ laid_slots below slots in
    let v0 = At-left bytes cursor (vtable cursor slots) (little_bytes 4 n ++ tail) h in
    let t0 = moved bytes _ at (little_bytes 4 n ++ tail) (omega (arith, length-vtable cursor slots)) (At-right bytes cursor (vtable cursor slots) (little_bytes 4 n ++ tail) h) in
    let t1 = At-field bytes at 4 n tail (omega arith) t0 in
    let v1 = At-skip bytes cursor g (little_bytes 2 n ++ (little_bytes 2 (inline_end 4 slots) ++ distances 4 slots)) v0 in
    let v2 = At-field bytes (cursor + g) 2 n (little_bytes 2 (inline_end 4 slots) ++ distances 4 slots) (omega arith) v1 in
    let v3 = At-field bytes (cursor + g + 2) 2 (inline_end 4 slots) (distances 4 slots) (omega arith) v2.1 in
    let vt : cursor + g ≡ at - n = omega arith in
    let found : vtable_of bytes at ≡ Some (at - n) = rw t1.0 (back_is n at (omega arith) (omega arith)) in
    let size : number 2 bytes (at - n) ≡ n = rw (← vt) v2.0 in
    let head : HasHead bytes at (slots_of slots) = record {
      vtable = at - n;
      found = found;
      size = size;
      head_in = omega (arith, At-within bytes (at + 4) tail t1.1);
      vtable_in = omega (arith, At-within bytes (at + 4) tail t1.1);
    } in
    (rw (found, size) refl, head, moved bytes _ _ (distances 4 slots) (omega arith) v3.1, t1.1)

pub length-inline : (at offset cursor : ℕ) (slots : Slots) → offset + length (inline at offset (slot_starts cursor slots) slots) ≡ inline_end offset slots
unfolding inline slot_starts
length-inline at offset cursor no_slot = omega (arith, length-replicate {A = ℕ} (gap 4 offset) 0)
length-inline at offset cursor (absent rest) = length-inline at offset cursor rest
length-inline at offset cursor (scalar w n rest) =
    let g = gap w offset in
    let more = inline at (offset + g + w) (slot_starts cursor rest) rest in
    omega (arith, length-append (replicate g 0) (little_bytes w n ++ more), length-replicate {A = ℕ} g 0, length-append (little_bytes w n) more, length-bytes_low_first 0 w n, length-inline at (offset + g + w) cursor rest)
length-inline at offset cursor (refers n rest) =
    let g = gap 4 offset in
    let s = start cursor n - (at + offset + g) in
    let more = inline at (offset + g + 4) (slot_starts (cursor + length (laid cursor n)) rest) rest in
    omega (arith, length-append (replicate g 0) (little_bytes 4 s ++ more), length-replicate {A = ℕ} g 0, length-append (little_bytes 4 s) more, length-bytes_low_first 0 4 s, length-inline at (offset + g + 4) (cursor + length (laid cursor n)) rest)

has_structs : (bytes : List ℕ) (at : ℕ) (ps : List (ℕ × ℕ)) → FitsStructs ps → At bytes at (struct_bytes ps) → HasStructs bytes at ps
unfolding struct_bytes
has_structs bytes at [] fits h = tt
has_structs bytes at (p ∷ ps) fits h =
    let a = At-field bytes at 8 p.0 (little_bytes 8 p.1 ++ struct_bytes ps) fits.0 h in
    let b = At-field bytes (at + 8) 8 p.1 (struct_bytes ps) fits.1 a.1 in
    (a.0, b.0, has_structs bytes (at + 16) ps fits.2 (moved bytes _ _ (struct_bytes ps) (omega arith) b.1))

structs_has : (bytes : List ℕ) (cursor : ℕ) (ps : List (ℕ × ℕ)) → length bytes < 2 ^ 31 → FitsStructs ps → At bytes cursor (laid cursor (structs ps)) → Has bytes (start cursor (structs ps)) (structs ps)
unfolding laid
structs_has bytes cursor ps small fits h =
    let g = gap 8 (cursor + 4) in
    let a = At-skip bytes cursor g (little_bytes 4 (length ps) ++ struct_bytes ps) h in
    let len = length-struct_bytes ps in
    let w = At-within bytes (cursor + g) (little_bytes 4 (length ps) ++ struct_bytes ps) a in
    let lt : length ps < 256 ^ 4 = omega (arith, length-append (little_bytes 4 (length ps)) (struct_bytes ps)) in
    let b = At-field bytes (cursor + g) 4 (length ps) (struct_bytes ps) lt a in
    let all : take (16 * length ps) (drop (cursor + g + 4) bytes) ≡ struct_bytes ps = rw (← len) (At-take bytes (cursor + g + 4) (struct_bytes ps) b.1) in
    (b.0, all, omega (arith, At-within bytes (cursor + g + 4) (struct_bytes ps) b.1), has_structs bytes (cursor + g + 4) ps fits b.1)

mutual
  unfolding laid laid_all starts links laid_slots slot_starts inline

  pub has : (bytes : List ℕ) (cursor : ℕ) (n : Tree) → length bytes < 2 ^ 31 → Fits n → At bytes cursor (laid cursor n) → Has bytes (start cursor n) n
  has bytes cursor (text t) small fits h = text_has bytes cursor t small h
  has bytes cursor (references ns) small fits h =
      let g = gap 4 cursor in
      let first = cursor + g + 4 in
      let below = first + 4 * count_of ns in
      let a = At-skip bytes cursor g (little_bytes 4 (count_of ns) ++ (links first (starts below ns) ++ laid_all below ns)) h in
      let w = At-within bytes (cursor + g) (little_bytes 4 (count_of ns) ++ (links first (starts below ns) ++ laid_all below ns)) a in
      let len : length (links first (starts below ns)) ≡ 4 * count_of ns = omega (arith, length-links first (starts below ns), length-starts below ns) in
      let lt : count_of ns < 256 ^ 4 = omega (arith, length-append (little_bytes 4 (count_of ns)) (links first (starts below ns) ++ laid_all below ns), length-append (links first (starts below ns)) (laid_all below ns)) in
      let b = At-field bytes (cursor + g) 4 (count_of ns) (links first (starts below ns) ++ laid_all below ns) lt a in
      let l = At-left bytes first (links first (starts below ns)) (laid_all below ns) b.1 in
      let r : At bytes below (laid_all below ns) = rw len at (At-right bytes first (links first (starts below ns)) (laid_all below ns) b.1) in
      (b.0, omega (arith, At-within bytes first (links first (starts below ns)) l), has_all bytes first below ns small fits (omega arith) l r)
  has bytes cursor (structs ps) small fits h = structs_has bytes cursor ps small fits h
  has bytes cursor (table slots) small fits h =
      let at = table_start cursor slots in
      let below = at + inline_end 4 slots in
      let t = head_of bytes cursor slots fits.1 fits.0 h in
      let ins = inline at 4 (slot_starts below slots) slots in
      let b = moved bytes _ below (laid_slots below slots) (omega (arith, length-inline at 4 below slots)) (At-right bytes (at + 4) ins (laid_slots below slots) t.3) in (
        t.1,
        rw t.0 (has_slots bytes (record { at = at; vtable = at - vtable_len slots; size = vtable_len slots }) 0 4 below slots small fits.2 (omega arith) fits.0 (omega arith) (omega arith)
            (moved bytes _ _ (distances 4 slots) (omega arith) t.2) (At-left bytes (at + 4) ins (laid_slots below slots) t.3) b),
      )

  pub has_all : (bytes : List ℕ) (at cursor : ℕ) (ns : Nodes) → length bytes < 2 ^ 31 → FitsAll ns → at + 4 * count_of ns ≤ cursor → At bytes at (links at (starts cursor ns)) → At bytes cursor (laid_all cursor ns) → HasAll bytes at ns
  has_all bytes at cursor no_node small fits le l r = tt
  has_all bytes at cursor (and_node n ns) small fits le l r =
      let next = cursor + length (laid cursor n) in
      let s = start cursor n in
      let here = At-left bytes cursor (laid cursor n) (laid_all next ns) r in
      let le2 = start_ge cursor n in
      let f = At-field bytes at 4 (s - at) (links (at + 4) (starts next ns)) (omega (arith, start_within bytes cursor n here)) l in (
        rw (target_is bytes at s (omega arith) f.0) (has bytes cursor n small fits.0 here),
        has_all bytes (at + 4) next ns small fits.1 (omega arith) f.1 (At-right bytes cursor (laid cursor n) (laid_all next ns) r),
      )

  pub has_slots : (bytes : List ℕ) (t : Place) (k offset cursor : ℕ) (rest : Slots) → length bytes < 2 ^ 31 → FitsSlots rest → 0 < offset → inline_end offset rest < 2 ^ 16 → t.size ≡ 4 + 2 * (k + slots_of rest)
      → t.at + inline_end offset rest ≤ cursor → At bytes (t.vtable + 2 * k + 4) (distances offset rest) → At bytes (t.at + offset) (inline t.at offset (slot_starts cursor rest) rest)
      → At bytes cursor (laid_slots cursor rest) → HasSlots bytes t k rest
  has_slots bytes t k offset cursor no_slot small fits pos thin size le v i b = λ j past. slot_past bytes t j (omega arith)
  has_slots bytes t k offset cursor (absent rest) small fits pos thin size le v i b =
      let d = At-field bytes (t.vtable + 2 * k + 4) 2 0 (distances offset rest) (omega arith) v in
      (slot_none bytes t k d.0, has_slots bytes t (suc k) offset cursor rest small fits pos thin (omega arith) le (moved bytes _ _ (distances offset rest) (omega arith) d.1) i b)
  has_slots bytes t k offset cursor (scalar w n rest) small fits pos thin size le v i b =
      let g = gap w offset in
      let o = offset + g in
      let end = inline_le_end (o + w) rest in
      let d = At-field bytes (t.vtable + 2 * k + 4) 2 o (distances (o + w) rest) (omega arith) v in
      let more = inline t.at (o + w) (slot_starts cursor rest) rest in
      let a = moved bytes _ (t.at + o) (little_bytes w n ++ more) (omega arith) (At-skip bytes (t.at + offset) g (little_bytes w n ++ more) i) in
      let f = At-field bytes (t.at + o) w n more fits.0 a in (
        (t.at + o, slot_is bytes t k o (omega arith) (omega arith) d.0, f.0, omega (arith, At-within bytes (t.at + o + w) more f.1)),
        has_slots bytes t (suc k) (o + w) cursor rest small fits.1 (omega arith) thin (omega arith) le (moved bytes _ _ (distances (o + w) rest) (omega arith) d.1) (moved bytes _ _ more (omega arith) f.1) b,
      )
  has_slots bytes t k offset cursor (refers n rest) small fits pos thin size le v i b =
      let g = gap 4 offset in
      let o = offset + g in
      let next = cursor + length (laid cursor n) in
      let end = inline_le_end (o + 4) rest in
      let d = At-field bytes (t.vtable + 2 * k + 4) 2 o (distances (o + 4) rest) (omega arith) v in
      let s = start cursor n in
      let x = s - (t.at + offset + g) in
      let more = inline t.at (o + 4) (slot_starts next rest) rest in
      let here = At-left bytes cursor (laid cursor n) (laid_slots next rest) b in
      let le2 = start_ge cursor n in
      let a = moved bytes _ (t.at + o) (little_bytes 4 x ++ more) (omega arith) (At-skip bytes (t.at + offset) g (little_bytes 4 x ++ more) i) in
      let f = At-field bytes (t.at + o) 4 x more (omega (arith, start_within bytes cursor n here)) a in
      let to : target bytes (t.at + o) ≡ s = target_is bytes (t.at + o) s (omega arith) (f.0 ∙ omega arith) in (
        (t.at + o, slot_is bytes t k o (omega arith) (omega arith) d.0, omega (arith, At-within bytes (t.at + o + 4) more f.1), rw to (has bytes cursor n small fits.0 here)),
        has_slots bytes t (suc k) (o + 4) next rest small fits.1 (omega arith) thin (omega arith) (omega arith) (moved bytes _ _ (distances (o + 4) rest) (omega arith) d.1) (moved bytes _ _ more (omega arith) f.1)
            (At-right bytes cursor (laid cursor n) (laid_slots next rest) b),
      )

-- the root of a message's metadata
pub root_has : (n : Tree) → length (metadata n) < 2 ^ 31 → Fits n → Has (metadata n) (target (metadata n) 0) n
unfolding metadata
root_has n small fits =
    let bytes = metadata n in
    let fill : List ℕ = replicate (gap 8 (4 + length (laid 4 n))) 0 in
    let whole : At bytes 0 (little_bytes 4 (start 4 n) ++ (laid 4 n ++ fill)) = At-whole bytes in
    let below : At bytes 4 (laid 4 n ++ fill) = rw (length-bytes_low_first 0 4 (start 4 n)) at (At-right bytes 0 (little_bytes 4 (start 4 n)) (laid 4 n ++ fill) whole) in
    let root = At-left bytes 4 (laid 4 n) fill below in
    let f = At-field bytes 0 4 (start 4 n) (laid 4 n ++ fill) (omega (arith, start_within bytes 4 n root)) whole in
    rw (target_is bytes 0 (start 4 n) (omega arith) (f.0 ∙ omega arith)) (has bytes 4 n small fits root)
