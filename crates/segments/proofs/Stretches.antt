-- The writes of a run in stretches of whole sectors, one after the other.
use Rattle.std.proofs.Common.{◌≡◌, ◌≤◌, ◌<◌, ◌+◌, ◌-◌, ◌*◌, ◌/◌, ℕ, zero, suc, List, [], ◌∷◌, ◌++◌, length, map, take, drop, get_or, refl, inl, inr, ◌≢◌, Some, min, sym, ap, ◌∙◌, subst, arith, append_assoc, take_all, length-take, length-take-le, length-drop, length-append, take-add, take_at, drop_at, drop-drop}
use Rattle.std.specs.List.{range_with_len}
use Rattle.std.specs.Simd.{first_chunks}
use Rattle.std.proofs.lemmas.List.{take-append-drop, take-append-le, drop-append-le}
use Rattle.sector_dev.specs.Disk.{Story, Puts, FailsToPut}
use Rattle.sector_dev.specs.Rows.{SectorWrite, writes_from, GrowsBy, FailsAmong, row_writes}
use Rattle.segments.specs.Sectors.{sector_count, filled, sector_of}
use Rattle.segments.specs.Writing.{run_writes}
use Rattle.segments.specs.inner.Tails.{whole_bytes, rest_bytes}
use Rattle.segments.proofs.Contents.{chunk_at, sector_whole, sector_last}
use Rattle.sector_dev.specs.laws.Rows.{same_writes, grows_on, fails_later, fails_before}

-- ---- rows

split_range : {X : Type 0} (f : ℕ → X) (i n m : ℕ) → map f (range_with_len i (n + m)) ≡ map f (range_with_len i n) ++ map f (range_with_len (i + n) m)
split_range f i zero m =
    let none : zero + m ≡ m = omega arith in
    let here : i ≡ i + zero = omega arith in
    ap (λ k. map f (range_with_len i k)) none ∙ ap (λ k. map f (range_with_len k m)) here
split_range f i (suc n) m =
    let more : suc n + m ≡ suc (n + m) = omega arith in
    let behind : (i + 1) + n ≡ i + suc n = omega arith in
    ap (λ k. map f (range_with_len i k)) more
    ∙ ap (λ xs. f i ∷ xs) (split_range f (i + 1) n m ∙ ap (λ k. map f (range_with_len (i + 1) n) ++ map f (range_with_len k m)) behind)

moved_range : {X : Type 0} (f g : ℕ → X) (n i m : ℕ) → ((j : ℕ) → i ≤ j → j < i + m → f (j + n) ≡ g j) → map f (range_with_len (i + n) m) ≡ map g (range_with_len i m)
moved_range f g n i zero same = refl
moved_range f g n i (suc m) same =
    let next : (i + n) + 1 ≡ (i + 1) + n = omega arith in
    (λ k. same i (omega arith) (omega arith) k ∷ map f (range_with_len (next k) m))
    ∙ ap (λ xs. g i ∷ xs) (moved_range f g n (i + 1) m (λ j low lt. same j (omega arith) (omega arith)))

joined_rows : (start n m : ℕ) (f g h : ℕ → List ℕ) → ((j : ℕ) → j < n → f j ≡ g j) → ((j : ℕ) → j < m → f (j + n) ≡ h j) → writes_from start (n + m) f ≡ writes_from start n g ++ writes_from (start + n) m h
joined_rows start n m f g h front back =
    let F : ℕ → SectorWrite = λ j. record { sector = start + j; content = f j } in
    let H : ℕ → SectorWrite = λ j. record { sector = start + n + j; content = h j } in
    let there : (j : ℕ) → start + (j + n) ≡ start + n + j = λ j. omega arith in
    let first : writes_from start n f ≡ writes_from start n g = same_writes start n f g front in
    let second : map F (range_with_len (0 + n) m) ≡ map H (range_with_len 0 m) = moved_range F H n 0 m (λ j low lt i. record { sector = there j i; content = back j (omega (arith, lt)) i }) in
    split_range F 0 n m ∙ (λ i. first i ++ second i)

-- ---- bytes

front_sector : (x y : List ℕ) (j : ℕ) → 512 * j + 512 ≤ length x → sector_of (x ++ y) j ≡ sector_of x j
unfolding sector_of
front_sector x y j le =
    let rest = drop (512 * j) x in
    let room : 512 ≤ length rest = omega (arith, length-drop (512 * j) x, le) in
    ap (λ (l : List ℕ). filled (take 512 l)) (drop-append-le (512 * j) x y (omega (arith, le))) ∙ ap filled (take-append-le 512 rest y room)

back_sector : (n : ℕ) (x y : List ℕ) (j : ℕ) → length x ≡ 512 * n → sector_of (x ++ y) (j + n) ≡ sector_of y j
unfolding sector_of
back_sector n x y j long =
    let behind : 512 * (j + n) ≡ 512 * n + 512 * j = omega arith in
    ap (λ (l : List ℕ). filled (take 512 l)) (ap (λ k. drop k (x ++ y)) behind ∙ sym (drop-drop (512 * j) (512 * n) (x ++ y)) ∙ ap (drop (512 * j)) (drop_at x y (512 * n) long))

-- bytes after whole sectors
pub joined_writes : (start n : ℕ) (x y : List ℕ) → length x ≡ 512 * n → run_writes start (x ++ y) ≡ run_writes start x ++ run_writes (start + n) y
joined_writes start n x y long =
    let both : length (x ++ y) ≡ length x + length y = length-append x y in
    let all : sector_count (length (x ++ y)) ≡ n + sector_count (length y) = omega (arith, both, long) in
    let front : n ≡ sector_count (length x) = omega (arith, long) in
    ap (λ k. writes_from start k (sector_of (x ++ y))) all
    ∙ joined_rows start n (sector_count (length y)) (sector_of (x ++ y)) (sector_of x) (sector_of y)
    (λ j lt. front_sector x y j (omega (arith, lt, long))) (λ j lt. back_sector n x y j long)
    ∙ ap (λ k. writes_from start k (sector_of x) ++ run_writes (start + n) y) front

pub whole_joined : (n : ℕ) (x y : List ℕ) → length x ≡ 512 * n → whole_bytes (x ++ y) ≡ x ++ whole_bytes y
unfolding whole_bytes
whole_joined n x y long =
    let both : length (x ++ y) ≡ length x + length y = length-append x y in
    let all : 512 * (length (x ++ y) / 512) ≡ 512 * n + 512 * (length y / 512) = omega (arith, both, long) in
    ap (λ k. take k (x ++ y)) all ∙ take-add (512 * n) (512 * (length y / 512)) (x ++ y)
    ∙ (λ i. take_at x y (512 * n) long i ++ take (512 * (length y / 512)) (drop_at x y (512 * n) long i))

pub rest_joined : (n : ℕ) (x y : List ℕ) → length x ≡ 512 * n → rest_bytes (x ++ y) ≡ rest_bytes y
unfolding rest_bytes
rest_joined n x y long =
    let both : length (x ++ y) ≡ length x + length y = length-append x y in
    let all : 512 * (length (x ++ y) / 512) ≡ 512 * n + 512 * (length y / 512) = omega (arith, both, long) in
    ap (λ k. drop k (x ++ y)) all ∙ sym (drop-drop (512 * (length y / 512)) (512 * n) (x ++ y)) ∙ ap (drop (512 * (length y / 512))) (drop_at x y (512 * n) long)

-- whole sectors, and fewer bytes than one after them
pub whole_length : (bytes : List ℕ) → length (whole_bytes bytes) ≡ 512 * (length bytes / 512)
unfolding whole_bytes
whole_length bytes = length-take-le (512 * (length bytes / 512)) bytes (omega arith)

pub rest_length : (bytes : List ℕ) → length bytes ≡ 512 * (length bytes / 512) + length (rest_bytes bytes)
unfolding rest_bytes
rest_length bytes = omega (arith, length-drop (512 * (length bytes / 512)) bytes)

pub whole_and_rest : (bytes : List ℕ) → whole_bytes bytes ++ rest_bytes bytes ≡ bytes
unfolding whole_bytes rest_bytes
whole_and_rest bytes = take-append-drop (512 * (length bytes / 512)) bytes

-- more bytes: what they make whole goes after the whole sectors so far
more_bytes : (x y : List ℕ) → x ++ y ≡ whole_bytes x ++ (rest_bytes x ++ y)
more_bytes x y = ap (λ (l : List ℕ). l ++ y) (sym (whole_and_rest x)) ∙ append_assoc (whole_bytes x) (rest_bytes x) y

pub more_whole : (x y : List ℕ) → whole_bytes (x ++ y) ≡ whole_bytes x ++ whole_bytes (rest_bytes x ++ y)
more_whole x y = ap whole_bytes (more_bytes x y) ∙ whole_joined (length x / 512) (whole_bytes x) (rest_bytes x ++ y) (whole_length x)

pub more_rest : (x y : List ℕ) → rest_bytes (x ++ y) ≡ rest_bytes (rest_bytes x ++ y)
more_rest x y = ap rest_bytes (more_bytes x y) ∙ rest_joined (length x / 512) (whole_bytes x) (rest_bytes x ++ y) (whole_length x)

pub more_writes : (start : ℕ) (x y : List ℕ) → run_writes start (whole_bytes (x ++ y)) ≡ run_writes start (whole_bytes x) ++ run_writes (start + length x / 512) (whole_bytes (rest_bytes x ++ y))
more_writes start x y = ap (run_writes start) (more_whole x y) ∙ joined_writes start (length x / 512) (whole_bytes x) (whole_bytes (rest_bytes x ++ y)) (whole_length x)

pub last_writes : (start : ℕ) (x : List ℕ) → run_writes start x ≡ run_writes start (whole_bytes x) ++ run_writes (start + length x / 512) (rest_bytes x)
last_writes start x = ap (run_writes start) (sym (whole_and_rest x)) ∙ joined_writes start (length x / 512) (whole_bytes x) (rest_bytes x) (whole_length x)

-- ---- sectors that stand in a row

pub row_is : (start : ℕ) (bytes : List ℕ) (rows : List (List ℕ)) → rows ≡ first_chunks 512 (length bytes / 512) bytes → length rows ≡ length bytes / 512 → row_writes start rows ≡ run_writes start (whole_bytes bytes)
unfolding whole_bytes
row_is start bytes rows is count =
    let n = length bytes / 512 in
    let front = take (512 * n) bytes in
    let long : length front ≡ 512 * n = length-take-le (512 * n) bytes (omega arith) in
    let counts : length rows ≡ sector_count (length front) = omega (arith, count, long) in
    same_writes start (length rows) (λ j. get_or rows j []) (sector_of front) (λ j lt.
    ap (λ (cs : List (List ℕ)). get_or cs j []) is ∙ chunk_at n bytes j (omega (arith, lt, count)) ∙ sym (sector_whole bytes j (omega (arith, lt, count)))
    ∙ ap (λ (l : List ℕ). sector_of l j) (sym (take-append-drop (512 * n) bytes)) ∙ front_sector front (drop (512 * n) bytes) j (omega (arith, lt, count, long)))
    ∙ ap (λ k. writes_from start k (sector_of front)) counts

-- ---- a sector that is put together

-- bytes that don't fill one
none_whole : (bytes : List ℕ) → length bytes < 512 → whole_bytes bytes ≡ []
unfolding whole_bytes
none_whole bytes few = let none : 512 * (length bytes / 512) ≡ 0 = omega (arith, few) in ap (λ k. take k bytes) none

all_rest : (bytes : List ℕ) → length bytes < 512 → rest_bytes bytes ≡ bytes
unfolding rest_bytes
all_rest bytes few = let none : 512 * (length bytes / 512) ≡ 0 = omega (arith, few) in ap (λ k. drop k bytes) none

-- the bytes that were taken are all, where the sector isn't full
pub all_taken : (t b new : List ℕ) (k : ℕ) → k ≡ min (512 - length t) (length b) → new ≡ t ++ take k b → length new < 512 → new ≡ t ++ b
all_taken t b new k taken is few =
    let long : length new ≡ length t + length (take k b) = ap length is ∙ length-append t (take k b) in
    let front : length (take k b) ≡ min k (length b) = length-take k b in
    is ∙ ap (λ l. t ++ l) (take_all k b (omega (arith, taken, long, front, few)))

pub still_rest : (all new : List ℕ) → new ≡ all → length new < 512 → new ≡ rest_bytes all
still_rest all new is few = is ∙ sym (all_rest all (subst (λ l. length l < 512) is few))

pub none_written : (start : ℕ) (all new : List ℕ) (a : Story) → new ≡ all → length new < 512 → GrowsBy (run_writes start (whole_bytes all)) a a
none_written start all new a is few = subst (λ l. GrowsBy (run_writes start l) a a) (sym (none_whole all (subst (λ l. length l < 512) is few))) refl

-- one that is full, and the bytes after it
abbrev pub left_of : List ℕ → ℕ → List ℕ
left_of b k = take (length b - k) (drop k b)

pub behind_sector : (t b s : List ℕ) (k : ℕ) → s ≡ t ++ take k b → t ++ b ≡ s ++ left_of b k
behind_sector t b s k is =
    ap (λ l. t ++ l) (sym (take-append-drop k b)) ∙ sym (append_assoc t (take k b) (drop k b)) ∙ ap (λ l. l ++ drop k b) (sym is)
    ∙ ap (λ l. s ++ l) (sym (take_all (length b - k) (drop k b) (omega (arith, length-drop k b))))

pub part_length : (all s r : List ℕ) → all ≡ s ++ r → length s ≡ 512 → length all / 512 ≡ 1 + length r / 512
part_length all s r same long = let lens : length all ≡ length s + length r = ap length same ∙ length-append s r in omega (arith, lens, long)

one_write : (start : ℕ) (s c : List ℕ) → sector_count (length s) ≡ 1 → sector_of s 0 ≡ c → run_writes start s ≡ record { sector = start; content = c } ∷ []
one_write start s c one is =
    let here : start + 0 ≡ start = omega arith in
    ap (λ k. writes_from start k (sector_of s)) one ∙ (λ i. record { sector = here i; content = is i } ∷ [])

sector_write : (start : ℕ) (s : List ℕ) → length s ≡ 512 → run_writes start s ≡ record { sector = start; content = s } ∷ []
sector_write start s long = one_write start s s (omega (arith, long)) (sector_whole s 0 (omega (arith, long)) ∙ take_all 512 s (omega (arith, long)))

tail_write : (start : ℕ) (rest : List ℕ) → length rest ≢ 0 → length rest < 512 → run_writes start rest ≡ record { sector = start; content = filled rest } ∷ []
tail_write start rest some few = one_write start rest (filled rest) (omega (arith, some, few)) (sector_last rest 0 (omega (arith, few)))

part_writes : (start : ℕ) (all s r : List ℕ) → all ≡ s ++ r → length s ≡ 512 → run_writes start (whole_bytes all) ≡ record { sector = start; content = s } ∷ run_writes (start + 1) (whole_bytes r)
part_writes start all s r same long =
    ap (run_writes start) (ap whole_bytes same ∙ whole_joined 1 s r long) ∙ joined_writes start 1 s (whole_bytes r) long
    ∙ ap (λ ws. ws ++ run_writes (start + 1) (whole_bytes r)) (sector_write start s long)

pub sector_failed : (start at : ℕ) (all s r : List ℕ) (a z : Story) → at ≡ start → all ≡ s ++ r → length s ≡ 512 → FailsToPut a at s z → FailsAmong (run_writes start (whole_bytes all)) a z
sector_failed start at all s r a z same split long fails =
    subst (λ ws. FailsAmong ws a z) (sym (part_writes start all s r split long)) (inl (subst (λ n. FailsToPut a n s z) same fails))

pub sectors_failed : (start at : ℕ) (all s r : List ℕ) (rows : List (List ℕ)) (a b z : Story) → at ≡ start → all ≡ s ++ r → length s ≡ 512 → rows ≡ first_chunks 512 (length r / 512) r → length rows ≡ length r / 512 → Puts a at s (Some s) b → FailsAmong (row_writes (at + 1) rows) b z → FailsAmong (run_writes start (whole_bytes all)) a z
sectors_failed start at all s r rows a b z same split long is count puts fails =
    subst (λ ws. FailsAmong ws a z) (sym (part_writes start all s r split long))
    (inr (b, subst (λ n. Puts a n s (Some s) b) same puts, subst (λ ws. FailsAmong ws b z) (ap (λ n. row_writes (n + 1) rows) same ∙ row_is (start + 1) r rows is count) fails))

pub sectors_done : (start at : ℕ) (all s r : List ℕ) (rows : List (List ℕ)) (a b z : Story) → at ≡ start → all ≡ s ++ r → length s ≡ 512 → rows ≡ first_chunks 512 (length r / 512) r → length rows ≡ length r / 512 → Puts a at s (Some s) b → GrowsBy (row_writes (at + 1) rows) b z → GrowsBy (run_writes start (whole_bytes all)) a z
sectors_done start at all s r rows a b z same split long is count puts done =
    subst (λ ws. GrowsBy ws a z) (sym (part_writes start all s r split long))
    (b, subst (λ n. Puts a n s (Some s) b) same puts, subst (λ ws. GrowsBy ws b z) (ap (λ n. row_writes (n + 1) rows) same ∙ row_is (start + 1) r rows is count) done)

pub left_behind : (all s r back : List ℕ) → all ≡ s ++ r → length s ≡ 512 → back ≡ drop (length r / 512 * 512) r → back ≡ rest_bytes all
unfolding rest_bytes
left_behind all s r back split long is =
    let turned : length r / 512 * 512 ≡ 512 * (length r / 512) = omega arith in
    is ∙ ap (λ k. drop k r) turned ∙ sym (ap rest_bytes split ∙ rest_joined 1 s r long)

-- ---- the bytes of parts

pub few_left : (x tail : List ℕ) → tail ≡ rest_bytes x → length tail < 512
few_left x tail is = let long : length tail ≡ length (rest_bytes x) = ap length is in omega (arith, long, rest_length x)

pub part_room : (x y tail total behind : List ℕ) → tail ≡ rest_bytes x → total ≡ (x ++ y) ++ behind → length x / 512 + length (tail ++ y) / 512 ≤ sector_count (length total)
part_room x y tail total behind is all =
    let long : length tail ≡ length (rest_bytes x) = ap length is in
    let joined : length (tail ++ y) ≡ length tail + length y = length-append tail y in
    let lens : length total ≡ length x + length y + length behind = ap length all ∙ length-append (x ++ y) behind ∙ ap (λ n. n + length behind) (length-append x y) in
    omega (arith, long, joined, lens, rest_length x)

pub tail_room : (x tail : List ℕ) → tail ≡ rest_bytes x → length x / 512 + sector_count (length tail) ≤ sector_count (length x)
tail_room x tail is = let long : length tail ≡ length (rest_bytes x) = ap length is in omega (arith, long, rest_length x)

pub next_start : (x y tail : List ℕ) → tail ≡ rest_bytes x → length x / 512 + length (tail ++ y) / 512 ≡ length (x ++ y) / 512
next_start x y tail is =
    let long : length tail ≡ length (rest_bytes x) = ap length is in
    omega (arith, long, length-append tail y, length-append x y, rest_length x)

pub next_rest : (x y tail : List ℕ) → tail ≡ rest_bytes x → rest_bytes (tail ++ y) ≡ rest_bytes (x ++ y)
next_rest x y tail is = ap (λ l. rest_bytes (l ++ y)) is ∙ sym (more_rest x y)

next_writes : (start at : ℕ) (x y tail : List ℕ) → at ≡ start + length x / 512 → tail ≡ rest_bytes x → run_writes start (whole_bytes (x ++ y)) ≡ run_writes start (whole_bytes x) ++ run_writes at (whole_bytes (tail ++ y))
next_writes start at x y tail here is = more_writes start x y ∙ (λ i. run_writes start (whole_bytes x) ++ run_writes (sym here i) (whole_bytes (sym is i ++ y)))

pub part_done : (start at : ℕ) (x y tail : List ℕ) (a b z : Story) → at ≡ start + length x / 512 → tail ≡ rest_bytes x → GrowsBy (run_writes start (whole_bytes x)) a b → GrowsBy (run_writes at (whole_bytes (tail ++ y))) b z → GrowsBy (run_writes start (whole_bytes (x ++ y))) a z
part_done start at x y tail a b z here is so_far done =
    subst (λ ws. GrowsBy ws a z) (sym (next_writes start at x y tail here is)) (grows_on (run_writes start (whole_bytes x)) (run_writes at (whole_bytes (tail ++ y))) a b z so_far done)

pub part_failed : (start at : ℕ) (x y tail total behind : List ℕ) (a b z : Story) → at ≡ start + length x / 512 → tail ≡ rest_bytes x → total ≡ (x ++ y) ++ behind → GrowsBy (run_writes start (whole_bytes x)) a b → FailsAmong (run_writes at (whole_bytes (tail ++ y))) b z → FailsAmong (run_writes start total) a z
part_failed start at x y tail total behind a b z here is all so_far fails =
    let front = whole_bytes (x ++ y) in
    let n = length (x ++ y) / 512 in
    let split : total ≡ front ++ (rest_bytes (x ++ y) ++ behind) = all ∙ more_bytes (x ++ y) behind in
    subst (λ ws. FailsAmong ws a z) (sym (ap (run_writes start) split ∙ joined_writes start n front (rest_bytes (x ++ y) ++ behind) (whole_length (x ++ y))))
    (fails_before (run_writes start front) (run_writes (start + n) (rest_bytes (x ++ y) ++ behind)) a z
    (subst (λ ws. FailsAmong ws a z) (sym (next_writes start at x y tail here is)) (fails_later (run_writes start (whole_bytes x)) (run_writes at (whole_bytes (tail ++ y))) a b z so_far fails)))

tail_writes : (start at : ℕ) (x tail : List ℕ) → at ≡ start + length x / 512 → tail ≡ rest_bytes x → run_writes start x ≡ run_writes start (whole_bytes x) ++ run_writes at tail
tail_writes start at x tail here is = last_writes start x ∙ (λ i. run_writes start (whole_bytes x) ++ run_writes (sym here i) (sym is i))

pub tail_done : (start at : ℕ) (x tail : List ℕ) (a b z : Story) → at ≡ start + length x / 512 → tail ≡ rest_bytes x → GrowsBy (run_writes start (whole_bytes x)) a b → GrowsBy (run_writes at tail) b z → GrowsBy (run_writes start x) a z
tail_done start at x tail a b z here is so_far done = subst (λ ws. GrowsBy ws a z) (sym (tail_writes start at x tail here is)) (grows_on (run_writes start (whole_bytes x)) (run_writes at tail) a b z so_far done)

pub tail_failed : (start at : ℕ) (x tail : List ℕ) (a b z : Story) → at ≡ start + length x / 512 → tail ≡ rest_bytes x → GrowsBy (run_writes start (whole_bytes x)) a b → FailsAmong (run_writes at tail) b z → FailsAmong (run_writes start x) a z
tail_failed start at x tail a b z here is so_far fails = subst (λ ws. FailsAmong ws a z) (sym (tail_writes start at x tail here is)) (fails_later (run_writes start (whole_bytes x)) (run_writes at tail) a b z so_far fails)

-- the one sector of a tail
pub last_done : (start : ℕ) (rest bytes sector : List ℕ) (a z : Story) → length bytes ≢ 0 → length rest < 512 → bytes ≡ rest → sector ≡ filled bytes → Puts a start sector (Some sector) z → GrowsBy (run_writes start rest) a z
last_done start rest bytes sector a z some few is ends puts =
    subst (λ ws. GrowsBy ws a z) (sym (tail_write start rest (subst (λ l. length l ≢ 0) is some) few)) (z, subst (λ l. Puts a start l (Some l) z) (ends ∙ ap filled is) puts, refl)

pub last_failed : (start : ℕ) (rest bytes sector : List ℕ) (a z : Story) → length bytes ≢ 0 → length rest < 512 → bytes ≡ rest → sector ≡ filled bytes → FailsToPut a start sector z → FailsAmong (run_writes start rest) a z
last_failed start rest bytes sector a z some few is ends fails =
    subst (λ ws. FailsAmong ws a z) (sym (tail_write start rest (subst (λ l. length l ≢ 0) is some) few)) (inl (subst (λ l. FailsToPut a start l z) (ends ∙ ap filled is) fails))
