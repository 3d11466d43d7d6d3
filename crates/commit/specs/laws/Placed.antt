-- Laws of runs that were taken for a plan: they are apart from one another and from those in use.
use Rattle.std.specs.Prelude.{◌≡◌, ◌⊎◌, ◌≤◌, ◌<◌, ◌+◌, ◌^◌, ◌&&◌, ◌||◌, ℕ, Bool, nat_le, true, false, not, List, [], ◌∷◌, ◌++◌, length, take, map, vec_len, refl}
use Rattle.std.specs.Global.{Vec}
use Rattle.std.proofs.Common.{inl, inr, sym, ap, ◌∙◌, subst, arith, append-nil}
use Rattle.std.proofs.lemmas.Bool.{and_parts, and_from, and_right, or_right, leb-true, le-leb, eq-eqb}
use Rattle.std.proofs.lemmas.List.{length-map, map-append}
use Rattle.sector_dev.specs.declared.file.TheConstants.{LEAST_SECTORS, MOST_SECTORS}
use Rattle.segments.specs.declared.run.Run.{Run}
use Rattle.segments.specs.declared.piece.PiecePart.{PiecePart}
use Rattle.segments.specs.Pieces.{PlainPiece, bytes_of_parts, plain_pieces}
use Rattle.segments.specs.declared.entries.Usage.{Usage}
use Rattle.segments.specs.declared.entries.UsageEntry.{UsageEntry}
use Rattle.segments.specs.Runs.{OutOf, ApartFrom, AreApart, StartFrom}
use Rattle.segments.specs.Sectors.{sector_count}
use Rattle.segments.specs.Usages.{Space, TAKEN, is_used, given, usage_of, same_run, IsUsedIn, GivesAll}
use Rattle.segments.specs.Writing.{AllFit, runs_of}
use Rattle.segments.specs.laws.Runs.{swapped, out_of_apart}
use Rattle.segments.specs.laws.Usages.{same_itself, or_false, among_both}
use Rattle.commit.specs.declared.sector.CatalogueKind.{CatalogueKind}
use Rattle.commit.specs.declared.sector.FormatVersion.{FormatVersion}
use Rattle.commit.specs.declared.sector.Commit.{Commit}
use Rattle.commit.specs.declared.placing.Places.{Places}
use Rattle.commit.specs.Placing.{is_among, times_among, Uses, sectors_of, counts_of, contents_of, plain_contents, HasRoom}
use Rattle.commit.specs.Standing.{is_size, is_extent, InSome}
use Rattle.commit.specs.Publishing.{IsPlan, next_commit}
use Rattle.commit.specs.laws.Taking.{Took, TookAll, by_among}

-- one run is taken for each number
pub took_length : (size : ℕ) (used : Run → Type 0) (ns : List ℕ) (rs : List Run) → Took size used ns rs → length rs ≡ length ns
took_length size used [] [] took = refl
took_length size used [] (r ∷ rs) took = absurd took
took_length size used (n ∷ ns) [] took = absurd took
took_length size used (n ∷ ns) (r ∷ rs) took = let more = took_length size (λ other. used other ⊎ (other ≡ r)) ns rs took.1 in omega (arith, more)

-- a run in use shares no sector with those that were taken
pub used_apart : (size : ℕ) (used : Run → Type 0) (ns : List ℕ) (rs : List Run) → Took size used ns rs → (run : Run) → used run → ApartFrom run rs
used_apart size used ns [] took run is = tt
used_apart size used [] (r ∷ rs) took run is = absurd took
used_apart size used (n ∷ ns) (r ∷ rs) took run is = (swapped r run (took.0.1.apart run is), used_apart size (λ other. used other ⊎ (other ≡ r)) ns rs took.1 run (inl is))

-- nor do any two of these
pub took_apart : (size : ℕ) (used : Run → Type 0) (ns : List ℕ) (rs : List Run) → Took size used ns rs → AreApart rs
took_apart size used ns [] took = tt
took_apart size used [] (r ∷ rs) took = absurd took
took_apart size used (n ∷ ns) (r ∷ rs) took =
    (used_apart size (λ other. used other ⊎ (other ≡ r)) ns rs took.1 r (inr refl), took_apart size (λ other. used other ⊎ (other ≡ r)) ns rs took.1)

pub took_above : (size : ℕ) (used : Run → Type 0) (ns : List ℕ) (rs : List Run) → Took size used ns rs → StartFrom 2 rs
took_above size used ns [] took = tt
took_above size used [] (r ∷ rs) took = absurd took
took_above size used (n ∷ ns) (r ∷ rs) took = (took.0.1.above, took_above size (λ other. used other ⊎ (other ≡ r)) ns rs took.1)

-- pieces fit into runs that were taken for them
pub took_fit : (size : ℕ) (used : Run → Type 0) (pieces : List PlainPiece) → Took size used (map sectors_of (contents_of pieces)) (runs_of pieces) → AllFit size pieces
took_fit size used [] took = tt
took_fit size used (p ∷ ps) took = (took.0.1.within, omega (arith, took.0.0), took_fit size (λ other. used other ⊎ (other ≡ p.run)) ps took.1)

fit_last : (size : ℕ) (pieces : List PlainPiece) (p : PlainPiece) → AllFit size (pieces ++ p ∷ []) → (p.run.start + p.run.count ≤ size) × (sectors_of p.bytes ≤ p.run.count)
fit_last size [] p fit = (fit.0, fit.1)
fit_last size (x ∷ xs) p fit = fit_last size xs p fit.2

-- pieces in runs that were taken for them, the last one a text, can be published as the next commit
pub plan_of : (old new : Space) (counts : List ℕ) (front : List PlainPiece) (run : Run) (text : List ℕ) (pieces : List PlainPiece) (k : Commit) (version : FormatVersion) (kind : CatalogueKind)
    → is_size old.size ≡ true → k.device_sectors ≡ old.size → k.epoch + 1 < 2 ^ 64 → TookAll old new counts (runs_of pieces) → counts ≡ map sectors_of (contents_of pieces)
    → pieces ≡ front ++ record { run = run; bytes = text } ∷ [] → IsPlan old.size k (next_commit k version kind run (length text)) pieces
plan_of old new counts front run text pieces k version kind limits device epoch all counted is =
    let took : Took old.size (IsUsedIn old.entries) (map sectors_of (contents_of pieces)) (runs_of pieces) = subst (λ (ns : List ℕ). Took old.size (IsUsedIn old.entries) ns (runs_of pieces)) counted all.took in
    let fit : AllFit old.size pieces = took_fit old.size (IsUsedIn old.entries) pieces took in
    let last = fit_last old.size front (record { run = run; bytes = text }) (subst (λ (ps : List PlainPiece). AllFit old.size ps) is fit) in
    let most : old.size ≤ MOST_SECTORS = leb-true _ _ (and_parts (nat_le LEAST_SECTORS old.size) (nat_le old.size MOST_SECTORS) limits).1 in
    record {
      limits = limits;
      fit = fit;
      apart = took_apart old.size (IsUsedIn old.entries) (map sectors_of (contents_of pieces)) (runs_of pieces) took;
      above = took_above old.size (IsUsedIn old.entries) (map sectors_of (contents_of pieces)) (runs_of pieces) took;
      next = refl;
      writable = record {
        epoch = omega arith;
        epoch_fits = epoch;
        start_fits = omega (arith, last.0);
        count_fits = omega (arith, last.0);
        bytes_fit = omega (arith, last.0, last.1);
        sectors_fit = omega arith;
      };
    }

-- what is requested is what contents, the texts of pages and a text take
pub counts_are : (contents : List (List ℕ)) (pages : List ℕ) (texts : List (List ℕ)) (bytes : ℕ) (text : List ℕ) → map sector_count pages ≡ map sectors_of texts → sector_count bytes ≡ sectors_of text
    → counts_of contents pages bytes ≡ map sectors_of ((contents ++ texts) ++ text ∷ [])
counts_are contents pages texts bytes text each last =
    (λ i. (map sectors_of contents ++ each i) ++ last i ∷ []) ∙ ap (λ (ns : List ℕ). ns ++ sectors_of text ∷ []) (sym (map-append sectors_of contents texts)) ∙ sym (map-append sectors_of (contents ++ texts) (text ∷ []))

-- ---- without pages

-- the runs are those of the pieces, and then that of the text
pub placed_alone : (places : Places) → HasRoom 0 places → places.runs.items ≡ runs_of (plain_pieces places.pieces.items) ++ places.text ∷ []
placed_alone places room =
    let same : vec_len places.pieces + 0 ≡ vec_len places.pieces = omega arith in
    room.last ∙ (λ i. take (same i) places.runs.items ++ places.text ∷ []) ∙ ap (λ (rs : List Run). rs ++ places.text ∷ []) (sym room.front)

-- one text is written
pub one_text : (texts : Vec (Vec PiecePart)) (text : List ℕ) → plain_contents texts.items ≡ text ∷ [] → vec_len texts ≡ 0 + 1
one_text texts text is =
    let whole = texts.ok in
    let own = length-map texts.items (λ (parts : Vec PiecePart). bytes_of_parts parts.items) in
    omega (arith, own, ap (λ (vs : List (List ℕ)). length vs) is, whole)

-- pieces with the same runs and bytes are equal
same_pieces : (xs ys : List PlainPiece) → runs_of xs ≡ runs_of ys → contents_of xs ≡ contents_of ys → xs ≡ ys
same_pieces [] [] runs contents = refl
same_pieces [] (y ∷ ys) runs contents = absurd (cc runs)
same_pieces (x ∷ xs) [] runs contents = absurd (cc runs)
same_pieces (x ∷ xs) (y ∷ ys) runs contents =
    let run : x.run ≡ y.run = cc runs in
    let bytes : x.bytes ≡ y.bytes = cc contents in
    let places : runs_of xs ≡ runs_of ys = cc runs in
    let others : contents_of xs ≡ contents_of ys = cc contents in
    λ i. record { run = run i; bytes = bytes i } ∷ same_pieces xs ys places others i

-- a text that was added after pieces is the last one
pub text_last : (pieces plan : List PlainPiece) (runs : List Run) (run : Run) (text : List ℕ) → runs_of plan ≡ runs → runs ≡ runs_of pieces ++ run ∷ []
    → contents_of plan ≡ contents_of pieces ++ text ∷ [] → plan ≡ pieces ++ record { run = run; bytes = text } ∷ []
text_last pieces plan runs run text placed last written =
    let piece : PlainPiece = record { run = run; bytes = text } in
    same_pieces plan (pieces ++ piece ∷ [])
    (placed ∙ last ∙ sym (map-append (λ (p : PlainPiece). p.run) pieces (piece ∷ [])))
    (written ∙ sym (map-append (λ (p : PlainPiece). p.bytes) pieces (piece ∷ [])))

-- what was placed, and the text after it, can be published as the next commit
pub plan_follows : (old new : Space) (contents : List (List ℕ)) (bytes : ℕ) (pieces plan : List PlainPiece) (runs : List Run) (run : Run) (text : List ℕ) (k next : Commit) (version : FormatVersion) (kind : CatalogueKind)
    → is_size old.size ≡ true → k.device_sectors ≡ old.size → k.epoch + 1 < 2 ^ 64
    → TookAll old new (counts_of contents [] bytes) runs → runs ≡ runs_of pieces ++ run ∷ [] → contents_of pieces ≡ contents → bytes ≡ length text
    → next ≡ next_commit k version kind run bytes → runs_of plan ≡ runs → contents_of plan ≡ contents_of pieces ++ text ∷ [] → IsPlan old.size k next plan
plan_follows old new contents bytes pieces plan runs run text k next version kind limits device epoch all last contents_are bytes_are next_is placed written =
    let took : TookAll old new (counts_of contents [] bytes) (runs_of plan) = subst (λ (rs : List Run). TookAll old new (counts_of contents [] bytes) rs) (sym placed) all in
    let whole : (contents ++ []) ++ text ∷ [] ≡ contents_of plan = (λ i. append-nil contents i ++ text ∷ []) ∙ (λ i. sym contents_are i ++ text ∷ []) ∙ sym written in
    let counted : counts_of contents [] bytes ≡ map sectors_of (contents_of plan) = counts_are contents [] [] bytes text refl (ap sector_count bytes_are) ∙ ap (λ (vs : List (List ℕ)). map sectors_of vs) whole in
    subst (λ (c : Commit). IsPlan old.size k c plan) (sym (next_is ∙ ap (next_commit k version kind run) bytes_are))
    (plan_of old new (counts_of contents [] bytes) pieces run text plan k version kind limits device epoch took counted (text_last pieces plan runs run text placed last written))

-- the last run that was taken
took_last : (size : ℕ) (used : Run → Type 0) (ns : List ℕ) (rs : List Run) (n : ℕ) (r : Run) → Took size used (ns ++ n ∷ []) (rs ++ r ∷ []) → (r.count ≡ n) × (2 ≤ r.start) × (r.start + r.count ≤ size)
took_last size used [] [] n r took = (took.0.0, took.0.1.above, took.0.1.within)
took_last size used [] (x ∷ []) n r took = absurd took.1
took_last size used [] (x ∷ y ∷ ys) n r took = absurd took.1
took_last size used (m ∷ []) [] n r took = absurd took.1
took_last size used (m ∷ l ∷ ls) [] n r took = absurd took.1
took_last size used (m ∷ ms) (x ∷ xs) n r took = took_last size (λ other. used other ⊎ (other ≡ x)) ms xs n r took.1

-- the text's run can be that of a catalogue
pub placed_extent : (old new : Space) (counts : List ℕ) (taken : List Run) (run : Run) (bytes : ℕ) → 4 ≤ bytes → TookAll old new (counts ++ sector_count bytes ∷ []) (taken ++ run ∷ []) → is_extent old.size 4 (record { run = run; bytes = bytes }) ≡ true
placed_extent old new counts taken run bytes least all =
    let last = took_last old.size (IsUsedIn old.entries) counts taken (sector_count bytes) run all.took in
    let some : 1 ≤ run.count = omega (arith, last.0) in
    and_from _ _ (le-leb _ _ least) (and_from _ _ (eq-eqb _ _ last.0) (and_from _ _ (le-leb _ _ last.1) (and_from _ _ (le-leb _ _ some) (le-leb _ _ last.2))))

-- no sector of a run in use lies in one that was taken
pub taken_free : (old new : Space) (counts : List ℕ) (taken runs : List Run) → TookAll old new counts taken → ((run : Run) → is_among runs run ≡ true → IsUsedIn old.entries run) → (n : ℕ) → InSome runs n → OutOf taken n
taken_free old new counts taken [] all used n within = absurd within
taken_free old new counts taken (r ∷ rs) all used n (inl here) =
    out_of_apart r taken n (used_apart old.size (IsUsedIn old.entries) counts taken all.took r (used r (ap (λ (t : Bool). t || is_among rs r) (same_itself r)))) here.0 here.1
taken_free old new counts taken (r ∷ rs) all used n (inr later) = taken_free old new counts taken rs all (λ run is. used run (or_right (same_run r run) (is_among rs run) is)) n later

-- the runs of a catalogue are in use
pub uses_used : (entries : List UsageEntry) (runs pinned : List Run) → Uses entries runs pinned → (run : Run) → is_among runs run ≡ true → IsUsedIn entries run
uses_used entries runs pinned uses run is = ap is_used (uses run) ∙ ap (λ (t : Bool). is_used (record { taken = t; pins = times_among pinned run })) is

-- after runs were taken, they and the earlier ones are in use
pub taken_uses : (old new : Space) (counts : List ℕ) (taken runs pinned : List Run) → TookAll old new counts taken → Uses old.entries runs pinned → Uses new.entries (runs ++ taken) pinned
taken_uses old new counts taken runs pinned all uses run = all.usages run ∙ by_run (is_among taken run) refl ∙ (λ i. record { taken = sym (among_both runs taken run) i; pins = times_among pinned run })
  where
    by_run : (t : Bool) → is_among taken run ≡ t → by_among TAKEN (usage_of old.entries run) (is_among taken run) ≡ record { taken = is_among runs run || is_among taken run; pins = times_among pinned run }
    by_run true among =
        let none : 0 ≡ times_among pinned run = ap (λ (u : Usage). u.pins) (sym (all.fresh run among) ∙ uses run) in
        ap (by_among TAKEN (usage_of old.entries run)) among
        ∙ (λ i. record { taken = (sym (or_right (is_among runs run) true refl) ∙ ap (λ (t : Bool). is_among runs run || t) (sym among)) i; pins = none i })
    by_run false among =
        ap (by_among TAKEN (usage_of old.entries run)) among ∙ uses run
        ∙ (λ i. record { taken = (sym (or_false (is_among runs run)) ∙ ap (λ (t : Bool). is_among runs run || t) (sym among)) i; pins = times_among pinned run })

-- after runs were given back, the others are in use
pub given_uses : (old new : Space) (back runs left pinned : List Run) → GivesAll old new back → Uses old.entries runs pinned → ((run : Run) → is_among left run ≡ (is_among runs run && not (is_among back run))) → Uses new.entries left pinned
given_uses old new back runs left pinned gives uses others run = gives.usages run ∙ by_run (is_among back run) refl ∙ (λ i. record { taken = sym (others run) i; pins = times_among pinned run })
  where
    first : (t : Bool) → t ≡ (t && true)
    first true = refl
    first false = refl

    by_run : (t : Bool) → is_among back run ≡ t → by_among (given (usage_of old.entries run)) (usage_of old.entries run) (is_among back run) ≡ record { taken = is_among runs run && not (is_among back run); pins = times_among pinned run }
    by_run true among =
        ap (by_among (given (usage_of old.entries run)) (usage_of old.entries run)) among ∙ ap given (uses run)
        ∙ (λ i. record { taken = (sym (and_right (is_among runs run) false refl) ∙ ap (λ (t : Bool). is_among runs run && not t) (sym among)) i; pins = times_among pinned run })
    by_run false among =
        ap (by_among (given (usage_of old.entries run)) (usage_of old.entries run)) among ∙ uses run
        ∙ (λ i. record { taken = (first (is_among runs run) ∙ ap (λ (t : Bool). is_among runs run && not t) (sym among)) i; pins = times_among pinned run })
