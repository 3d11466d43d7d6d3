-- Reading a stored catalogue depends only on the runs that it names.
use Rattle.std.specs.Prelude.{◌≡◌, ◌-◌, ◌++◌, ℕ, List, [], ◌∷◌, length, Some, Ok}
use Rattle.std.proofs.Common.{inl, inr, ap, subst}
use Rattle.sector_dev.specs.Disk.{Image}
use Rattle.segments.specs.declared.run.Run.{Run}
use Rattle.catalogue.specs.declared.entry.SegmentForm.{SegmentForm}
use Rattle.catalogue.specs.declared.limits.TheConstants.{MAX_SEGMENTS}
use Rattle.commit.specs.Standing.{InSome}
use Rattle.commit.specs.declared.sector.CatalogueKind.{CatalogueKind}
use Rattle.commit.specs.declared.sector.CatalogueKind.TheVariants.{Whole, Pages}
use Rattle.commit.specs.Standing.{IsLocal}
use Rattle.catalogue.specs.Entries.{PlainEntry, PlainCatalogue, PlainRoot, runs_in, runs_of}
use Rattle.catalogue.specs.Reading.{root_at, entry_from}
use Rattle.pages.specs.Stored.{form_of, then_read, or_no_text, page_in, pages_at, by_kind, stored_reading}
use Rattle.pages.specs.laws.Read.{bound_ok, then_ok, same_page}

pub in_left : (rs ss : List Run) (n : ℕ) → InSome rs n → InSome (rs ++ ss) n
in_left [] ss n none = absurd none
in_left (r ∷ rs) ss n (inl here) = inl here
in_left (r ∷ rs) ss n (inr later) = inr (in_left rs ss n later)

pub in_right : (rs ss : List Run) (n : ℕ) → InSome ss n → InSome (rs ++ ss) n
in_right [] ss n some = some
in_right (r ∷ rs) ss n some = inr (in_right rs ss n some)

module _ (form : SegmentForm) (size : ℕ) (a b : Image) where
  same_pages : (most : ℕ) (rs : List PlainRoot) (c : PlainCatalogue) → pages_at form size a most rs ≡ Ok c → ((n : ℕ) → InSome (runs_of c) n → b n ≡ a n) → pages_at form size b most rs ≡ Ok c
  unfolding pages_at
  same_pages most [] c is same = is
  same_pages most (r ∷ rs) c is same =
      let x = bound_ok (page_in form size a most r.page) (λ body. then_read (pages_at form size a (most - length body.1) rs) (λ others. Ok (entry_from r.name (Some r.page) body ∷ others))) c is in
      let y = bound_ok (pages_at form size a (most - length x.0.1) rs) (λ others. Ok (entry_from r.name (Some r.page) x.0 ∷ others)) c x.2 in
      let e : PlainEntry = entry_from r.name (Some r.page) x.0 in
      let whole : e ∷ y.0 ≡ c = cc y.2 in
      let all : (n : ℕ) → InSome (runs_in e ++ runs_of y.0) n → b n ≡ a n = λ n some. same n (subst (λ (d : PlainCatalogue). InSome (runs_of d) n) whole some) in
      then_ok (page_in form size b most r.page) (λ body. then_read (pages_at form size b (most - length body.1) rs) (λ others. Ok (entry_from r.name (Some r.page) body ∷ others))) x.0 (Ok c)
      (same_page form size a b most r.page x.0 x.1 (λ n low high. all n (in_left (runs_in e) (runs_of y.0) n (inl (low, high)))))
      (then_ok (pages_at form size b (most - length x.0.1) rs) (λ others. Ok (entry_from r.name (Some r.page) x.0 ∷ others)) y.0 (Ok c)
      (same_pages (most - length x.0.1) rs y.0 y.1 (λ n some. all n (in_right (runs_in e) (runs_of y.0) n some))) (ap Ok whole))

  pub same_by_kind : (kind : CatalogueKind) (text : List ℕ) (c : PlainCatalogue) → by_kind kind form size a text ≡ Ok c → ((n : ℕ) → InSome (runs_of c) n → b n ≡ a n) → by_kind kind form size b text ≡ Ok c
  same_by_kind Whole text c is same = is
  same_by_kind Pages text c is same =
      let x = bound_ok (or_no_text (root_at text)) (pages_at form size a MAX_SEGMENTS) c is in
      then_ok (or_no_text (root_at text)) (pages_at form size b MAX_SEGMENTS) x.0 (Ok c) x.1 (same_pages MAX_SEGMENTS x.0 c x.2 same)

pub stored_is_local : IsLocal stored_reading
stored_is_local size a b k text c is same = same_by_kind (form_of k.version) size a b k.kind text c is same
