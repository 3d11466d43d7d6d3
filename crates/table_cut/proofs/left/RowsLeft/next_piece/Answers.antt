use Rattle.std.specs.List.{list_all}
use Rattle.std.proofs.Common.{◌≡◌, ◌⊎◌, inl, inr, ◌+◌, ◌<◌, ◌≤◌, ◌++◌, ◌∷◌, ℕ, List, [], length, take, drop, set, refl, sym, ap, subst, ◌∙◌, arith}
use Rattle.std.proofs.lemmas.Bool.{and_from, cases_lt}
use Rattle.std.proofs.lemmas.List.{drop-set, drop_all}
use Rattle.std.proofs.lemmas.Option.{slice_get_read}
use Rattle.arrow_schema.specs.Column.{PlainSchema, Columns, columns_of}
use Rattle.arrow_schema.specs.View.{schema_of}
use Rattle.cells.specs.Cell.{Cell}
use Rattle.cells.specs.Dictionary.{dictionaries_fit}
use Rattle.cells.specs.Row.{is_row}
use Rattle.cells.specs.Weight.{row_weight, table_weight}
use Rattle.columns.specs.Array.{no_array}
use Rattle.columns.specs.CellAt.{row_at}
use Rattle.table_cut.specs.Left.{rows_left}
use Rattle.table_cut.specs.Rows.{arrays_of_run, run_rows, runs_rows, are_runs_sound}
use Rattle.table_cut.specs.declared.row_run.RowRun.{RowRun}
use Rattle.table_cut.specs.inner.Bounds.{Weighs}
use Rattle.table_cut.specs.inner.Weights.{front_weight, piece_weight}
use Rattle.table_cut.specs.inner.Room.{HasRoom, IsSeenWithin}
use Rattle.table_cut.specs.inner.EntrySizes.{AreSizesOf}
use Rattle.table_cut.proofs.EntrySizeLemmas.{sizes_here, sizes_of_rest}
use Rattle.table_cut.proofs.PieceLemmas.{IsFull, IsPastLimits, cut_here, some_taken}
use Rattle.table_cut.proofs.RoomLemmas.{HasRoomBelow, rows_of_parts, rows_of_first, front_room, lighter_front}
use Rattle.table_cut.proofs.RunSteps.{has_taken, run_first, sound_first, taken_front, cut_front, cut_full}
use Rattle.table_cut.proofs.left.RowsLeft.next_piece.Goals.{then-loop-self-test+else-rows-lt-MAX_PIECE_ROWS, else-loop-self-test}
use Rattle.table_cut.proofs.left.RowsLeft.next_piece.Goals as goal
use Rattle.table_cut.specs.laws.Runs.{run_size}

pub loop-self-init : goal.loop-self-init
loop-self-init c =
    let s : PlainSchema = schema_of c.args.schema.now in
    let cs : Columns = columns_of s.columns in
    let none : runs_rows cs c.new-runs.result.items ≡ [] = ap (runs_rows cs) c.new-runs.ensures.items in
    let weightless : table_weight s (runs_rows cs c.new-runs.result.items) ≡ 0 = ap (table_weight s) none in
    record {
      front = ap (λ (xs : List (List Cell)). xs ++ rows_left cs c.args.self.now) (sym none);
      count = sym (ap length none);
      few = omega arith;
      weight = subst (Weighs c.nothing_weighed-weight.result) (sym (ap (table_weight s) none)) c.nothing_weighed-weight.ensures;
      light = omega (arith, weightless);
      sound = ap (are_runs_sound cs) c.new-runs.ensures.items;
      left = c.requires.sound;
      fits = ap (dictionaries_fit s) none ∙ c.shared_entries_fit.ensures.fit s no_array [] c.requires.schema tt;
      seen = λ filled. none;
    }

pub keep_sizes-requires-clause-known : goal.keep_sizes-requires-clause-known
keep_sizes-requires-clause-known c =
    let items : List RowRun = c.loop-self.self.runs.items in
    let next : ℕ = c.loop-self.self.next in
    let run : RowRun = c.index-run.result.now in
    let lt : next < length items = omega (arith, c.loop-self.self.runs.ok.0, c.len.ensures, c.loop-self-test.true) in
    c.loop-self.self.known run (slice_get_read items (length items) next run refl lt c.index-run.ensures)

pub fitting-taken-requires-clause-sizes : goal.fitting-taken-requires-clause-sizes
fitting-taken-requires-clause-sizes c = subst (AreSizesOf c.index-run.result.now) (sym c.deref-in-loop-self.ensures.value) c.keep_sizes.ensures

pub invariant_of-self : goal.invariant_of-self
invariant_of-self c =
    let items : List RowRun = c.loop-self.self.runs.items in
    let next : ℕ = c.loop-self.self.next in
    let run : RowRun = c.index-run.result.now in
    let lt : next < length items = omega (arith, c.loop-self.self.runs.ok.0, c.len.ensures, c.loop-self-test.true) in
    record { known = sizes_here items next run c.keep_sizes.new.sizes.items lt c.index-run.ensures c.keep_sizes.ensures }

pub invariant_of-self-in-Break-branch-2 : goal.invariant_of-self-in-Break-branch-2
invariant_of-self-in-Break-branch-2 c =
    let items : List RowRun = c.loop-self.self.runs.items in
    let next : ℕ = c.loop-self.self.next in
    let run : RowRun = c.index-run.result.now in
    let lt : next < length items = omega (arith, c.loop-self.self.runs.ok.0, c.len.ensures, c.loop-self-test.true) in
    record { known = sizes_here items next run c.keep_sizes.new.sizes.items lt c.index-run.ensures c.keep_sizes.ensures }

pub invariant_of-self-in-Break-branch-3 : goal.invariant_of-self-in-Break-branch-3
invariant_of-self-in-Break-branch-3 c =
    let items : List RowRun = c.loop-self.self.runs.items in
    let next : ℕ = c.loop-self.self.next in
    let run : RowRun = c.index-run.result.now in
    let lt : next < length items = omega (arith, c.loop-self.self.runs.ok.0, c.len.ensures, c.loop-self-test.true) in
    record { known = sizes_here items next run c.keep_sizes.new.sizes.items lt c.index-run.ensures c.keep_sizes.ensures }

pub invariant_of-self-then-room-run : goal.invariant_of-self-then-room-run
invariant_of-self-then-room-run c =
    let items : List RowRun = c.loop-self.self.runs.items in
    let next : ℕ = c.loop-self.self.next in
    let run : RowRun = c.index-run.result.now in
    let lt : next < length items = omega (arith, c.loop-self.self.runs.ok.0, c.len.ensures, c.loop-self-test.true) in
    record { known = sizes_of_rest items next run c.skip.result c.keep_sizes.new.sizes.items lt c.skip.ensures.arrays c.keep_sizes.ensures }

pub fitting-taken-requires-clause-piece : goal.fitting-taken-requires-clause-piece
fitting-taken-requires-clause-piece c = ap (are_runs_sound (columns_of (schema_of c.args.schema.now).columns)) c.deref.ensures.value ∙ c.loop-self.invariant.sound

pub fitting-taken-requires-clause-weighed : goal.fitting-taken-requires-clause-weighed
fitting-taken-requires-clause-weighed c =
    subst (λ (runs : List RowRun). Weighs c.loop-self.weight (piece_weight (schema_of c.args.schema.now) runs)) (sym c.deref.ensures.value) c.loop-self.invariant.weight

pub fitting-taken-requires-clause-light : goal.fitting-taken-requires-clause-light
fitting-taken-requires-clause-light c =
    let same = ap (piece_weight (schema_of c.args.schema.now)) c.deref.ensures.value in
    omega (arith, same, c.loop-self.invariant.light)

pub room_within-requires-clause-can_fill : goal.room_within-requires-clause-can_fill
room_within-requires-clause-can_fill c = c.can_rows_fill-can_fill.ensures

pub room_within-requires-clause-few : goal.room_within-requires-clause-few
room_within-requires-clause-few c =
    let same = ap (λ (runs : List RowRun). length (runs_rows (columns_of (schema_of c.args.schema.now).columns) runs)) c.deref-in-loop-self-2.ensures.value in
    omega (arith, same, c.loop-self.invariant.count, c.front-most.ensures.len, c.fitting-taken.ensures.few, c.if-rows-lt-MAX_PIECE_ROWS.true)

pub room_within-requires-clause-after : goal.room_within-requires-clause-after
room_within-requires-clause-after c =
    let s : PlainSchema = schema_of c.args.schema.now in
    let cs : Columns = columns_of s.columns in
    let is = c.loop-self.invariant in
    let items : List RowRun = c.loop-self.self.runs.items in
    let next : ℕ = c.loop-self.self.next in
    let run : RowRun = c.index-run.result.now in
    let lt : next < length items = omega (arith, c.loop-self.self.runs.ok.0, c.len.ensures, c.loop-self-test.true) in
    let parts = rows_of_parts s (rows_left cs c.args.self.now) (runs_rows cs c.loop-self.runs.items) (rows_left cs c.loop-self.self) is.front c.requires.rows in
    record {
      limits = c.requires.schema;
      before = record {
        sound = ap (are_runs_sound cs) c.deref-in-loop-self-2.ensures.value ∙ is.sound;
        rows = ap (λ (runs : List RowRun). list_all (is_row s) (runs_rows cs runs)) c.deref-in-loop-self-2.ensures.value ∙ parts.0;
      };
      own = record {
        sound = c.front-most.ensures.sound cs (sound_first cs items next run lt c.index-run.ensures is.left).0;
        rows = ap (list_all (is_row s)) (c.front-most.ensures.rows cs)
            ∙ rows_of_first s (rows_left cs c.loop-self.self) (run_rows cs run) (runs_rows cs (drop (next + 1) items)) c.fitting-taken.result.rows (run_first cs items next run lt c.index-run.ensures) parts.1;
      };
      fits = ap (λ (runs : List RowRun). dictionaries_fit s (runs_rows cs runs)) c.deref-in-loop-self-2.ensures.value ∙ is.fits;
    }

pub room_within-requires-clause-seen : goal.room_within-requires-clause-seen
room_within-requires-clause-seen c =
    let s : PlainSchema = schema_of c.args.schema.now in
    subst (λ (runs : List RowRun). IsSeenWithin s (runs_rows (columns_of s.columns) runs) c.loop-self.seen) (sym c.deref-in-loop-self-2.ensures.value) c.loop-self.invariant.seen

pub front-requires : goal.front-requires
front-requires c = omega (arith, c.in_ok-room.ensures.room.within, c.front-most.ensures.len, c.fitting-taken.ensures.within)

pub overflow_add-rows : goal.overflow_add-rows
overflow_add-rows c =
    omega (arith, c.in_ok-room.ensures.room.within, c.front-most.ensures.len, c.fitting-taken.ensures.few, c.loop-self.invariant.few)

pub loop-self-preserved : goal.loop-self-preserved
loop-self-preserved c =
    let s : PlainSchema = schema_of c.args.schema.now in
    let cs : Columns = columns_of s.columns in
    let is = c.loop-self.invariant in
    let items : List RowRun = c.loop-self.self.runs.items in
    let next : ℕ = c.loop-self.self.next in
    let run : RowRun = c.index-run.result.now in
    let most : RowRun = c.front-most.result in
    let t : ℕ = c.fitting-taken.result.rows in
    let k : ℕ = c.in_ok-room.room.rows in
    let before : List (List Cell) = runs_rows cs c.loop-self.runs.items in
    let new : List (List Cell) = runs_rows cs c.push_run.new.runs.items in
    let lt : next < length items = omega (arith, c.loop-self.self.runs.ok.0, c.len.ensures, c.loop-self-test.true) in
    let room : HasRoomBelow s before run t k = front_room s before run most t k c.front-most.ensures.len (c.front-most.ensures.rows cs) c.front-most.ensures.arrays c.front-most.ensures.from
    (subst (λ (runs : List RowRun). HasRoom s (runs_rows cs runs) most k) c.deref-in-loop-self-2.ensures.value c.in_ok-room.ensures.room) in
    let same : t ≡ k = omega (arith, room.within, c.fitting-taken.ensures.within, c.if-room-run.false) in
    let le : k ≤ run.len = omega (arith, same, c.fitting-taken.ensures.within) in
    let taken : new ≡ before ++ take k (run_rows cs run) = c.in_ok-push_run.ensures.rows cs ∙ ap (λ (xs : List (List Cell)). before ++ xs) (c.front.ensures.rows cs) in
    let took = has_taken s before new run k le taken in
    let whole = run_size cs run in
    let none : drop k (run_rows cs run) ≡ [] = drop_all k (run_rows cs run) (omega (arith, whole, c.if-room-run.false)) in
    let sound = sound_first cs items next run lt c.index-run.ensures is.left in
    let heavy = ap (λ (n : ℕ). table_weight s (take n (run_rows cs run))) same in
    let piece = ap (piece_weight s) c.deref.ensures.value in
    let total : piece_weight s c.deref.result.now + front_weight s run t ≡ table_weight s new = omega (arith, piece, took.weight, heavy) in
    let seen_rows : runs_rows cs c.deref-in-loop-self-2.result.now ++ run_rows cs most ≡ new =
    (λ i. runs_rows cs (c.deref-in-loop-self-2.ensures.value i) ++ c.front-most.ensures.rows cs i) ∙ ap (λ (n : ℕ). before ++ take n (run_rows cs run)) same ∙ sym taken in
    record {
      front = taken_front cs items next run (rows_left cs c.args.self.now) before new k lt c.index-run.ensures is.front taken
          ∙ ap (λ (xs : List (List Cell)). new ++ (xs ++ runs_rows cs (drop (next + 1) items))) none;
      count = omega (arith, took.count, is.count);
      few = omega (arith, same, c.fitting-taken.ensures.few, is.few, c.if-rows-lt-MAX_PIECE_ROWS.true);
      weight = subst (Weighs c.fitting-taken.result.weight) total c.fitting-taken.ensures.weight;
      light = omega (arith, total, c.fitting-taken.ensures.light);
      sound = c.in_ok-push_run.ensures.sound cs is.sound (c.front.ensures.sound cs sound.0);
      left = sound.1;
      fits = ap (dictionaries_fit s) taken ∙ room.fits;
      seen = subst (λ (rows : List (List Cell)). IsSeenWithin s rows c.in_ok-room.room.seen) seen_rows (c.in_ok-room.ensures.seen (omega (arith, same, c.front-most.ensures.len)));
    }

pub returns-then-room-run : goal.returns-then-room-run
returns-then-room-run c =
    let s : PlainSchema = schema_of c.args.schema.now in
    let cs : Columns = columns_of s.columns in
    let is = c.loop-self.invariant in
    let items : List RowRun = c.loop-self.self.runs.items in
    let next : ℕ = c.loop-self.self.next in
    let run : RowRun = c.index-run.result.now in
    let most : RowRun = c.front-most.result in
    let t : ℕ = c.fitting-taken.result.rows in
    let k : ℕ = c.in_ok-room.room.rows in
    let all : List (List Cell) = rows_left cs c.args.self.now in
    let before : List (List Cell) = runs_rows cs c.loop-self.runs.items in
    let new : List (List Cell) = runs_rows cs c.push_run.new.runs.items in
    let rest : List (List Cell) = runs_rows cs (drop next (set items next c.skip.result)) in
    let row : List Cell = row_at cs (arrays_of_run run) (run.from + k) in
    let lt : next < length items = omega (arith, c.loop-self.self.runs.ok.0, c.len.ensures, c.loop-self-test.true) in
    let taken : new ≡ before ++ take k (run_rows cs run) = c.in_ok-push_run.ensures.rows cs ∙ ap (λ (xs : List (List Cell)). before ++ xs) (c.front.ensures.rows cs) in
    let front : all ≡ new ++ rest = cut_front cs items next run c.skip.result all before new k lt c.index-run.ensures is.front taken (c.skip.ensures.rows cs) in
    let room : HasRoomBelow s before run t k = front_room s before run most t k c.front-most.ensures.len (c.front-most.ensures.rows cs) c.front-most.ensures.arrays c.front-most.ensures.from
    (subst (λ (runs : List RowRun). HasRoom s (runs_rows cs runs) most k) c.deref-in-loop-self-2.ensures.value c.in_ok-room.ensures.room) in
    let took = has_taken s before new run k (omega (arith, c.if-room-run.true)) taken in
    let lighter = lighter_front s (run_rows cs run) k t room.within in
    let piece = ap (piece_weight s) c.deref.ensures.value in
    let past : IsPastLimits s new row = elim (cases_lt k t) [
      | inl less ↦ inr (ap (λ (xs : List (List Cell)). dictionaries_fit s (xs ++ row ∷ [])) taken ∙ room.full less)
      | inr all_taken ↦ inl (
          let same : t ≡ k = omega (arith, room.within, all_taken) in
          let heavier = ap (λ (n : ℕ). table_weight s (take n (run_rows cs run))) same in
          let next_row = ap (λ (n : ℕ). row_weight s (row_at cs (arrays_of_run run) (run.from + n))) same in
          elim (c.fitting-taken.ensures.full (omega (arith, same, c.if-room-run.true))) as (λ _. (4096 ≤ length new) ⊎ (16777216 < table_weight s new + row_weight s row)) [
            | inl many ↦ inl (omega (arith, many, same, took.count, is.count, is.few))
            | inr heavy ↦ inr (omega (arith, heavy, piece, took.weight, heavier, next_row))
          ])
    ] in
    let full : IsFull s new rest = cut_full s items next run c.skip.result new k lt (c.skip.ensures.rows cs) c.if-room-run.true past in
    let some : 1 ≤ length new = some_taken s all new rest front c.requires.rows c.requires.some full in
    let sound = sound_first cs items next run lt c.index-run.ensures is.left in
    record {
      piece = cut_here c.longest_fronts_are_pieces.ensures.next s all new rest front some
          (omega (arith, took.count, is.count, room.within, c.fitting-taken.ensures.few, c.if-rows-lt-MAX_PIECE_ROWS.true))
          (omega (arith, took.weight, lighter, piece, c.fitting-taken.ensures.light))
          (ap (dictionaries_fit s) taken ∙ room.fits) full;
      front = front;
      count = omega (arith, took.count, is.count);
      sound = c.in_ok-push_run.ensures.sound cs is.sound (c.front.ensures.sound cs sound.0);
      left = ap (are_runs_sound cs) (drop-set items next c.skip.result lt) ∙ and_from _ _ (c.skip.ensures.sound cs sound.0) sound.1;
    }

-- a piece is full that has as many rows as it may have, or all that are left
has_most : (s : PlainSchema) (piece rest : List (List Cell)) → 4096 ≤ length piece → IsFull s piece rest
has_most s piece [] many = tt
has_most s piece (row ∷ rest) many = inl (inl many)

has_all : (s : PlainSchema) (piece rest : List (List Cell)) → rest ≡ [] → IsFull s piece rest
has_all s piece rest none = subst (λ (rows : List (List Cell)). IsFull s piece rows) (sym none) tt

pub returns : goal.returns
returns c =
    let s : PlainSchema = schema_of c.args.schema.now in
    let cs : Columns = columns_of s.columns in
    let is = c.loop-self.invariant in
    let all : List (List Cell) = rows_left cs c.args.self.now in
    let piece : List (List Cell) = runs_rows cs c.loop-self.runs.items in
    let rest : List (List Cell) = rows_left cs c.loop-self.self in
    let full : IsFull s piece rest = elim c.loop-self-test.branch [
      | then-loop-self-test+else-rows-lt-MAX_PIECE_ROWS w ↦ has_most s piece rest (omega (arith, is.count, w.if-rows-lt-MAX_PIECE_ROWS.false))
      | else-loop-self-test w ↦ has_all s piece rest (ap (runs_rows cs) (drop_all c.loop-self.self.next c.loop-self.self.runs.items (omega (arith, c.loop-self.self.runs.ok.0, c.len.ensures, w.loop-self-test.false))))
    ] in
    let some : 1 ≤ length piece = some_taken s all piece rest is.front c.requires.rows c.requires.some full in
    record {
      piece = cut_here c.longest_fronts_are_pieces.ensures.next s all piece rest is.front some (omega (arith, is.count, is.few)) is.light is.fits full;
      front = is.front;
      count = is.count;
      sound = is.sound;
      left = is.left;
    }
