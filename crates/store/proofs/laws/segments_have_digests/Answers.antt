use Rattle.std.proofs.Common.{◌≡◌, ℕ, true, List, Option, Some, None, refl, sym, ap, ◌∙◌, subst}
use Rattle.sha2.specs.Sha256.{sha256}
use Rattle.catalogue.specs.declared.entry.Segment.{Segment}
use Rattle.catalogue.specs.declared.entry.SegmentForm.TheVariants.{Digested}
use Rattle.catalogue.specs.Entries.{PlainEntry, has_digest, has_digests, has_form}
use Rattle.catalogue.specs.laws.Changed.{found_passes}
use Rattle.commit.specs.declared.sector.FormatVersion.{FormatVersion}
use Rattle.pages.specs.Stored.{form_of}
use Rattle.store.specs.Fits.{listed_in}
use Rattle.store_runs.specs.Held.{is_undamaged}
use Rattle.store_changes.specs.laws.Digests.{has_digest as digest_of}
use Rattle.store_changes.specs.laws.StepParts.{passes_at}
use Rattle.store.proofs.laws.segments_have_digests.Goals as goal

digest_is : (digest : Option (List ℕ)) (bytes : List ℕ) → has_digest Digested digest ≡ true → is_undamaged digest (Some bytes) ≡ true → digest ≡ Some (sha256 bytes)
digest_is None bytes has test = absurd (cc has)
digest_is (Some d) bytes has test = ap Some (sym (digest_of (Some d) d bytes refl test))

pub returns-clause-form : goal.returns-clause-form
returns-clause-form g c = c.args.store.now.form

pub returns-clause-read : goal.returns-clause-read
returns-clause-read g c = λ two tells image name e place segment bytes found at copy.
    let store = c.args.store.now in
    let all = subst (λ (v : FormatVersion). has_form (form_of v) (listed_in store) ≡ true) two store.form in
    let own = found_passes (λ (x : PlainEntry). has_digests Digested x.segments) (listed_in store) name e all found in
    digest_is segment.digest bytes (passes_at (λ (x : Segment). has_digest Digested x.digest) e.segments place segment own at) copy.undamaged
