use Rattle.std.proofs.Common.{◌≡◌, ◌≤◌, ◌<◌, ◌+◌, ◌++◌, ◌∷◌, [], ℕ, List, length, take, get_or, vec_len, take_all, Ok, Err, sym, ap, ◌∙◌, subst, arith}
use Rattle.std.specs.Global.{Vec}
use Rattle.std.proofs.lemmas.List.{take_more}
use Rattle.std.proofs.lemmas.Result.{err_from_is_err_and}
use Rattle.segments.specs.Usages.{IsUsedIn}
use Rattle.segments.specs.declared.errors.TakeError.TheVariants.{NoRoom, OutOfMemory}
use Rattle.segments.specs.declared.piece.Piece.{Piece}
use Rattle.segments.specs.declared.run.Run.{Run}
use Rattle.segments.specs.declared.piece.PiecePart.{PiecePart}
use Rattle.commit.specs.Placing.{Takes, AreShort, counts_of, plain_contents}
use Rattle.commit.specs.laws.Taking.{TookAll}
use Rattle.commit.specs.laws.Placed.{took_length}
use Rattle.commit.proofs.Counted.{counted_length, counts_some}
use Rattle.commit.proofs.placing.place.Goals as goal

pub take_runs-requires : goal.take_runs-requires
take_runs-requires c =
    let counts = c.deref-2.ensures.value ∙ c.in_ok-counts.ensures.counts ∙ ap (λ (vs : List (Vec PiecePart)). counts_of (plain_contents vs) c.args.pages.now c.args.text_bytes) c.deref.ensures.value in
    record { some = subst (λ (ns : List ℕ). (i : ℕ) → i < length ns → 1 ≤ get_or ns i 0) (sym counts) (counts_some (plain_contents c.args.contents.items) c.args.pages.now c.args.text_bytes c.requires.some c.requires.pages c.requires.text) }

-- want of memory names no number of sectors
no_number : (n : ℕ) → OutOfMemory ≡ NoRoom n → ⊥
no_number n is = cc is

pub returns-in_err-counts-clause-no_room : goal.returns-in_err-counts-clause-no_room
returns-in_err-counts-clause-no_room c = let p = err_from_is_err_and c.from_residual.result c.from_residual.ensures.1 in rw (p.1, p.2) (λ n is. absurd (no_number n is))

pub returns-in_err-pieces-clause-no_room : goal.returns-in_err-pieces-clause-no_room
returns-in_err-pieces-clause-no_room c =
    let p = err_from_is_err_and c.from_residual-in_err-pieces.result c.from_residual-in_err-pieces.ensures.1 in rw (p.1, p.2) (λ n is. absurd (no_number n is))

pub returns-in_err-runs-clause-no_room : goal.returns-in_err-runs-clause-no_room
returns-in_err-runs-clause-no_room c =
    let p = err_from_is_err_and c.from_residual-in_err-runs.result c.from_residual-in_err-runs.ensures.1 in
    let counts = c.deref-2.ensures.value ∙ c.in_ok-counts.ensures.counts ∙ ap (λ (vs : List (Vec PiecePart)). counts_of (plain_contents vs) c.args.pages.now c.args.text_bytes) c.deref.ensures.value in
    rw (p.1, p.2) (λ n is. subst (λ (ns : List ℕ). Takes c.args.map.now.size (IsUsedIn c.args.map.now.entries) ns (Err n)) counts (c.in_err-runs.ensures.no_room n is))

pub index-text-requires : goal.index-text-requires
index-text-requires c =
    let counts = c.deref-2.ensures.value ∙ c.in_ok-counts.ensures.counts ∙ ap (λ (vs : List (Vec PiecePart)). counts_of (plain_contents vs) c.args.pages.now c.args.text_bytes) c.deref.ensures.value in
    let lens : length c.in_ok-runs.runs.items ≡ length c.args.contents.items + length c.args.pages.now + 1 = took_length _ _ _ _ c.in_ok-runs.ensures.taken.took ∙ ap (λ (ns : List ℕ). length ns) counts ∙ counted_length c.args.contents.items c.args.pages.now c.args.text_bytes in
    omega (arith, lens, c.len-2.ensures, c.args.contents.ok.0, c.in_ok-runs.runs.ok.0)

pub pieces_of-pieces-requires-clause-runs : goal.pieces_of-pieces-requires-clause-runs
pieces_of-pieces-requires-clause-runs c =
    let counts = c.deref-2.ensures.value ∙ c.in_ok-counts.ensures.counts ∙ ap (λ (vs : List (Vec PiecePart)). counts_of (plain_contents vs) c.args.pages.now c.args.text_bytes) c.deref.ensures.value in
    let lens : length c.in_ok-runs.runs.items ≡ length c.args.contents.items + length c.args.pages.now + 1 = took_length _ _ _ _ c.in_ok-runs.ensures.taken.took ∙ ap (λ (ns : List ℕ). length ns) counts ∙ counted_length c.args.contents.items c.args.pages.now c.args.text_bytes in
    omega (arith, lens, c.deref-3.ensures.len, c.args.contents.ok.0, c.in_ok-runs.runs.ok.0, c.in_ok-pieces.ensures.len, c.in_ok-pieces.pieces.ok.0, ap (λ (ps : List Piece). length ps) c.in_ok-pieces.ensures.items)

pub pieces_of-pieces-requires-clause-room : goal.pieces_of-pieces-requires-clause-room
pieces_of-pieces-requires-clause-room c =
    let counts = c.in_ok-counts.ensures.counts ∙ ap (λ (vs : List (Vec PiecePart)). counts_of (plain_contents vs) c.args.pages.now c.args.text_bytes) c.deref.ensures.value in
    let lens : length c.in_ok-counts.counts.items ≡ length c.args.contents.items + length c.args.pages.now + 1 = ap (λ (ns : List ℕ). length ns) counts ∙ counted_length c.args.contents.items c.args.pages.now c.args.text_bytes in
    omega (arith, lens, c.len.ensures, c.in_ok-pieces.ensures.exact, c.args.contents.ok.0, c.in_ok-counts.counts.ok.0, c.in_ok-pieces.pieces.ok.0, ap (λ (ps : List Piece). length ps) c.in_ok-pieces.ensures.items)

pub returns-clause-ok : goal.returns-clause-ok
returns-clause-ok c =
    let counts = c.deref-2.ensures.value ∙ c.in_ok-counts.ensures.counts ∙ ap (λ (vs : List (Vec PiecePart)). counts_of (plain_contents vs) c.args.pages.now c.args.text_bytes) c.deref.ensures.value in
    subst (λ (ns : List ℕ). Takes c.args.map.now.size (IsUsedIn c.args.map.now.entries) ns (Ok c.in_ok-runs.runs.items)) counts c.in_ok-runs.ensures.ok

pub returns-clause-taken : goal.returns-clause-taken
returns-clause-taken c =
    let counts = c.deref-2.ensures.value ∙ c.in_ok-counts.ensures.counts ∙ ap (λ (vs : List (Vec PiecePart)). counts_of (plain_contents vs) c.args.pages.now c.args.text_bytes) c.deref.ensures.value in
    subst (λ (ns : List ℕ). TookAll c.args.map.now c.take_runs.new.map ns c.in_ok-runs.runs.items) counts c.in_ok-runs.ensures.taken

pub returns-clause-short : goal.returns-clause-short
returns-clause-short c = subst (λ (vs : List (Vec PiecePart)). AreShort (plain_contents vs)) c.deref.ensures.value c.in_ok-counts.ensures.short

pub returns-clause-room : goal.returns-clause-room
returns-clause-room c =
    let counts = c.deref-2.ensures.value ∙ c.in_ok-counts.ensures.counts ∙ ap (λ (vs : List (Vec PiecePart)). counts_of (plain_contents vs) c.args.pages.now c.args.text_bytes) c.deref.ensures.value in
    let lens : length c.in_ok-runs.runs.items ≡ length c.args.contents.items + length c.args.pages.now + 1 = took_length _ _ _ _ c.in_ok-runs.ensures.taken.took ∙ ap (λ (ns : List ℕ). length ns) counts ∙ counted_length c.args.contents.items c.args.pages.now c.args.text_bytes in
    let asked : length c.in_ok-counts.counts.items ≡ length c.args.contents.items + length c.args.pages.now + 1 =
    ap (λ (ns : List ℕ). length ns) (c.in_ok-counts.ensures.counts ∙ ap (λ (vs : List (Vec PiecePart)). counts_of (plain_contents vs) c.args.pages.now c.args.text_bytes) c.deref.ensures.value) ∙ counted_length c.args.contents.items c.args.pages.now c.args.text_bytes in
    let none : length c.in_ok-pieces.pieces.items ≡ 0 = ap (λ (ps : List Piece). length ps) c.in_ok-pieces.ensures.items in
    let own : vec_len c.pieces_of-pieces.result ≡ vec_len c.args.contents = omega (arith, c.pieces_of-pieces.ensures.count, none, c.in_ok-pieces.pieces.ok.0) in
    let n = vec_len c.args.contents + length c.args.pages.now in
    let xs = c.in_ok-runs.runs.items in
    let d = c.index-text.result.now in
    let at_most : length xs ≤ n + 1 = omega (arith, lens, c.args.contents.ok.0) in
    let at_least : n < length xs = omega (arith, lens, c.args.contents.ok.0) in
    let here : get_or xs n d ≡ d = sym (c.index-text.ensures ∙ ap (λ (k : ℕ). get_or xs k d) (omega (arith, c.len-2.ensures))) in
    let same : vec_len c.pieces_of-pieces.result + length c.args.pages.now ≡ n = omega (arith, own) in
    record {
      piece = omega (arith, own, asked, c.len.ensures, c.in_ok-pieces.ensures.exact, c.pieces_of-pieces.ensures.room, c.args.contents.ok.0, c.in_ok-counts.counts.ok.0);
      count = omega (arith, own, lens, c.in_ok-runs.runs.ok.0, c.args.contents.ok.0);
      front = c.pieces_of-pieces.ensures.runs ∙ ap (λ (rs : List Run). take (vec_len c.pieces_of-pieces.result) rs) c.deref-3.ensures.value;
      last = sym (take_all (n + 1) xs at_most) ∙ take_more xs n d at_least ∙ (λ i. take (sym same i) xs ++ here i ∷ []);
    }
