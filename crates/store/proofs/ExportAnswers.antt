-- What is answered of an export of any store, by what it is looked up as.
use Rattle.std.specs.Prelude.{◌==◌, slice_get, option_map, is_some, if◌then◌else◌, IfOk}
use Rattle.std.proofs.Common.{◌≡◌, ◌<◌, ◌+◌, ℕ, zero, suc, Bool, true, false, List, Option, Some, None, Result, Ok, length, refl, sym, subst, arith}
use Rattle.std.proofs.lemmas.Bool.{eqb-true}
use Rattle.std.proofs.lemmas.Option.{slice_get_within}
use Rattle.sector_dev.specs.Disk.{Image}
use Rattle.sector_dev.specs.declared.device.SectorDevice.{Ghosts}
use Rattle.ipc_write.specs.Written.{end_of_stream}
use Rattle.catalogue.specs.declared.entry.Segment.{Segment}
use Rattle.catalogue.specs.Entries.{PlainEntry}
use Rattle.export_book.specs.Book.{PlainExport, PlainBook, is_full, MayGive, with_given}
use Rattle.tables.specs.declared.refusal.Refusal.{Refusal}
use Rattle.tables.specs.declared.refusal.Refusal.TheVariants as refusals
use Rattle.store.specs.declared.store.Store.{Store}
use Rattle.store.specs.Exporting.{RefusesExport, RefusesRoom, OpensExport, OpensAt, OfSegment, PieceIs, GivesPiece, after_giving, RefusesSegment, RefusesNumber, RefusesPiece, RefusesClosing, ClosesExport, ClosesAt}

-- ---- opening

module _ (h : Bool) (o : Option PlainEntry) (book : PlainBook) where
  pub open_halted : h ≡ true → RefusesExport h o book refusals.Halted
  open_halted on = subst (λ (x : Bool). RefusesExport x o book refusals.Halted) (sym on) refl

  pub open_nowhere : h ≡ false → o ≡ None → RefusesExport h o book refusals.NoTable
  open_nowhere off none = subst (λ (x : Bool). RefusesExport x o book refusals.NoTable) (sym off) (subst (λ (x : Option PlainEntry). RefusesExport false x book refusals.NoTable) (sym none) refl)

  pub open_refused_at : (e : PlainEntry) (full : Bool) (r : Refusal) → h ≡ false → o ≡ Some e → is_full book ≡ full → RefusesRoom full r → RefusesExport h o book r
  open_refused_at e full r off at is refuses =
      subst (λ (x : Bool). RefusesExport x o book r) (sym off)
      (subst (λ (x : Option PlainEntry). RefusesExport false x book r) (sym at) (subst (λ (x : Bool). RefusesRoom x r) (sym is) refuses))

pub opens_at : {D : Type 0} {g : Ghosts D} (h : Bool) (o : Option PlainEntry) (old : Store D g) (e : PlainEntry) (id : ℕ) (new : Store D g) → h ≡ false → o ≡ Some e → OpensExport old e id new → OpensAt h o old id new
opens_at h o old e id new off at is = subst (λ (x : Bool). OpensAt x o old id new) (sym off) (subst (λ (x : Option PlainEntry). OpensAt false x old id new) (sym at) is)

-- ---- giving

module _ (h tells : Bool) (image : Image) (o : Option PlainExport) where
  pub piece_given : (b : PlainExport) (piece : Option (List ℕ)) → h ≡ false → o ≡ Some b → PieceIs tells image b b.given piece → GivesPiece h tells image o piece
  piece_given b piece off at is = subst (λ (x : Bool). GivesPiece x tells image o piece) (sym off) (subst (λ (x : Option PlainExport). GivesPiece false tells image x piece) (sym at) is)

  pub piece_refused : (b : PlainExport) (r : Refusal) → h ≡ false → o ≡ Some b → RefusesNumber tells image b b.given r → RefusesPiece h tells image o r
  piece_refused b r off at is = subst (λ (x : Bool). RefusesPiece x tells image o r) (sym off) (subst (λ (x : Option PlainExport). RefusesPiece false tells image x r) (sym at) is)

  pub next_halted : h ≡ true → RefusesPiece h tells image o refusals.Halted
  next_halted on = subst (λ (x : Bool). RefusesPiece x tells image o refusals.Halted) (sym on) refl

  pub next_missing : h ≡ false → o ≡ None → RefusesPiece h tells image o refusals.NoExport
  next_missing off none = subst (λ (x : Bool). RefusesPiece x tells image o refusals.NoExport) (sym off) (subst (λ (x : Option PlainExport). RefusesPiece false tells image x refusals.NoExport) (sym none) refl)

-- a piece that is given is one of those that there are
few_given : (tells : Bool) (image : Image) (b : PlainExport) (n : ℕ) (piece : List ℕ) → PieceIs tells image b n (Some piece) → n < length b.segments + 2
few_given tells image b zero piece is = omega arith
few_given tells image b (suc place) piece is = by_place (slice_get b.segments place) refl is
  where
    by_end : (t : Bool) → (place == length b.segments) ≡ t → Some piece ≡ (if t then Some end_of_stream else None) → suc place < length b.segments + 2
    by_end true at is = let e = eqb-true place (length b.segments) at in omega (arith, e)
    by_end false at is = absurd (cc is)

    by_place : (o : Option Segment) → slice_get b.segments place ≡ o → OfSegment tells image b o place (Some piece) → suc place < length b.segments + 2
    by_place (Some g) at is = let within = slice_get_within b.segments place g at in omega (arith, within)
    by_place None at is = by_end (place == length b.segments) refl is

may_give : (tells : Bool) (image : Image) (o : Option PlainExport) (b : PlainExport) (piece : List ℕ) → o ≡ Some b → PieceIs tells image b b.given (Some piece) → MayGive o
may_give tells image o b piece at is = subst MayGive (sym at) (few_given tells image b b.given piece is)

-- the same of what may be a piece
pub may_give_some : (V : Type 0) (items : V → List ℕ) (tells : Bool) (image : Image) (o : Option PlainExport) (b : PlainExport) (r : Result (Option V) Refusal) (piece : Option V) → o ≡ Some b → r ≡ Ok piece → is_some piece ≡ true
    → IfOk r (λ p. PieceIs tells image b b.given (option_map items p)) → MayGive o
may_give_some V items tells image o b r (Some x) at is some given = may_give tells image o b (items x) at (subst (λ (y : Result (Option V) Refusal). IfOk y (λ p. PieceIs tells image b b.given (option_map items p))) is given)
may_give_some V items tells image o b r None at is some given = absurd (cc some)

-- a piece that is given counts, and that there is none does not
pub counted_some : (V : Type 0) (items : V → List ℕ) (new old : PlainBook) (id : ℕ) (r : Result (Option V) Refusal) (piece : Option V) → r ≡ Ok piece → is_some piece ≡ true → new ≡ with_given id old
    → IfOk r (λ p. new ≡ after_giving (option_map items p) id old)
counted_some V items new old id r (Some x) is some counted = subst (λ (y : Result (Option V) Refusal). IfOk y (λ p. new ≡ after_giving (option_map items p) id old)) (sym is) counted
counted_some V items new old id r None is some counted = absurd (cc some)

pub counted_none : (V : Type 0) (items : V → List ℕ) (book : PlainBook) (id : ℕ) (r : Result (Option V) Refusal) (piece : Option V) → r ≡ Ok piece → is_some piece ≡ false
    → IfOk r (λ p. book ≡ after_giving (option_map items p) id book)
counted_none V items book id r (Some x) is none = absurd (cc none)
counted_none V items book id r None is none = subst (λ (y : Result (Option V) Refusal). IfOk y (λ p. book ≡ after_giving (option_map items p) id book)) (sym is) refl

-- ---- closing

module _ (h : Bool) (o : Option PlainExport) where
  pub close_halted : h ≡ true → RefusesClosing h o refusals.Halted
  close_halted on = subst (λ (x : Bool). RefusesClosing x o refusals.Halted) (sym on) refl

  pub close_missing : h ≡ false → o ≡ None → RefusesClosing h o refusals.NoExport
  close_missing off none = subst (λ (x : Bool). RefusesClosing x o refusals.NoExport) (sym off) (subst (λ (x : Option PlainExport). RefusesClosing false x refusals.NoExport) (sym none) refl)

pub closes_at : {D : Type 0} {g : Ghosts D} (h : Bool) (o : Option PlainExport) (old : Store D g) (id : ℕ) (b : PlainExport) (new : Store D g) → h ≡ false → o ≡ Some b → ClosesExport old id b new → ClosesAt h o old id new
closes_at h o old id b new off at is = subst (λ (x : Bool). ClosesAt x o old id new) (sym off) (subst (λ (x : Option PlainExport). ClosesAt false x old id new) (sym at) is)

-- ---- pieces by their numbers

pub piece_first : (tells : Bool) (image : Image) (b : PlainExport) (n : ℕ) (piece : Option (List ℕ)) → n ≡ 0 → PieceIs tells image b 0 piece → PieceIs tells image b n piece
piece_first tells image b n piece zeroth is = subst (λ (k : ℕ). PieceIs tells image b k piece) (sym zeroth) is

pub refused_first : (tells : Bool) (image : Image) (b : PlainExport) (n : ℕ) (r : Refusal) → n ≡ 0 → r ≡ refusals.OutOfMemory → RefusesNumber tells image b n r
refused_first tells image b n r zeroth is = subst (λ (k : ℕ). RefusesNumber tells image b k r) (sym zeroth) is

pub piece_behind : (tells : Bool) (image : Image) (b : PlainExport) (n place : ℕ) (o : Option Segment) (piece : Option (List ℕ)) → n ≡ suc place → slice_get b.segments place ≡ o → OfSegment tells image b o place piece → PieceIs tells image b n piece
piece_behind tells image b n place o piece next at is =
    subst (λ (k : ℕ). PieceIs tells image b k piece) (sym next) (subst (λ (x : Option Segment). OfSegment tells image b x place piece) (sym at) is)

pub refused_behind : (tells : Bool) (image : Image) (b : PlainExport) (n place : ℕ) (o : Option Segment) (r : Refusal) → n ≡ suc place → slice_get b.segments place ≡ o → RefusesSegment tells image b o place r → RefusesNumber tells image b n r
refused_behind tells image b n place o r next at is =
    subst (λ (k : ℕ). RefusesNumber tells image b k r) (sym next) (subst (λ (x : Option Segment). RefusesSegment tells image b x place r) (sym at) is)
