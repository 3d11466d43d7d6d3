use Rattle.std.specs.Prelude.{slice_get}
use Rattle.std.proofs.Common.{◌≡◌, ◌∙◌, ℕ, List, Some, length, sym, ap, subst, arith}
use Rattle.std.proofs.lemmas.Result.{IfOk-weaker}
use Rattle.commit.specs.laws.Apart.{on_device_is}
use Rattle.store_changes.specs.Draft.{streams_of}
use Rattle.store_changes.specs.Source.{disk_laid}
use Rattle.store_changes.specs.laws.Sources.{on_device, reads_laid, device_bytes, place_in_streams, stream_length, stream_bytes}
use Rattle.store_changes.proofs.draft_source.DraftSourceSegmentSource.read_extent.Goals as goal

-- ---- before the draft the device is read

pub read_run-requires-clause-within : goal.read_run-requires-clause-within
read_run-requires-clause-within g c =
    let size = g.D.SectorDevice.size c.args.self.now.device.now in
    let on = on_device_is size c.args.place.run (on_device size c.args.self.now.draft.now c.args.place c.requires.readable c.if-place-self.true) in
    let within = on.within in
    let count = c.requires.counted in
    omega (arith, within, count)

pub returns-then-place-self-clause-moments : goal.returns-then-place-self-clause-moments
returns-then-place-self-clause-moments g c = λ told.
    let D = g.D.SectorDevice in
    let d = c.args.self.now.draft.now in
    let device = c.args.self.now.device.now in
    reads_laid (disk_laid d.from (streams_of d)) (D.story device) (D.story c.read_run.new.device) (g.met.D.SectorDevice.begun device told) (c.read_run.ensures.moments told)

pub returns-then-place-self-clause-found : goal.returns-then-place-self-clause-found
returns-then-place-self-clause-found g c =
    let D = g.D.SectorDevice in
    let d = c.args.self.now.draft.now in
    let device = c.args.self.now.device.now in
    IfOk-weaker c.read_run.result _ _
    (λ bytes found told. device_bytes (D.size device) d c.args.place (D.story device) (g.met.D.SectorDevice.begun device told) c.requires.readable c.if-place-self.true c.requires.counted ∙ found told)
    c.read_run.ensures.found

pub returns-then-place-self-clause-unreadable : goal.returns-then-place-self-clause-unreadable
returns-then-place-self-clause-unreadable g c = λ is told.
    let D = g.D.SectorDevice in
    let d = c.args.self.now.draft.now in
    let device = c.args.self.now.device.now in
    device_bytes (D.size device) d c.args.place (D.story device) (g.met.D.SectorDevice.begun device told) c.requires.readable c.if-place-self.true c.requires.counted
    ∙ c.read_run.ensures.unreadable is told

-- ---- from there on a stream is copied

found_at : (starts : List ℕ) (p start : ℕ) (seen : List ℕ) → seen ≡ starts → slice_get seen p ≡ Some start → slice_get starts p ≡ Some start
found_at starts p start seen same at = subst (λ (ns : List ℕ). slice_get ns p ≡ Some start) same at

pub index-requires : goal.index-requires
index-requires g c =
    let d = c.args.self.now.draft.now in
    let start = c.args.place.run.start in
    let place = c.place_of-stream.result in
    let inside = place_in_streams d c.requires.readable.draft place start (found_at d.starts.items place start c.deref.result.now c.deref.ensures.value c.place_of-stream.ensures) in
    let count = d.streams.ok.0 in
    omega (arith, inside, count)

pub returns-clause-length : goal.returns-clause-length
returns-clause-length g c =
    let d = c.args.self.now.draft.now in
    let start = c.args.place.run.start in
    let place = c.place_of-stream.result in
    let at = found_at d.starts.items place start c.deref.result.now c.deref.ensures.value c.place_of-stream.ensures in
    let own = stream_length (g.D.SectorDevice.size c.args.self.now.device.now) d c.args.place c.requires.readable (omega (arith, c.if-place-self.false)) place at c.index.result.now c.index.ensures in
    let copied = ap (λ (ns : List ℕ). length ns) (c.in_ok-from_slice.ensures.items ∙ c.deref-2.ensures.value) in
    let count = c.in_ok-from_slice.field-0.ok.0 in
    omega (arith, own, copied, count)

pub returns-clause-found : goal.returns-clause-found
returns-clause-found g c = λ told.
    let D = g.D.SectorDevice in
    let d = c.args.self.now.draft.now in
    let device = c.args.self.now.device.now in
    let start = c.args.place.run.start in
    let place = c.place_of-stream.result in
    let at = found_at d.starts.items place start c.deref.result.now c.deref.ensures.value c.place_of-stream.ensures in
    stream_bytes (D.size device) d c.args.place c.requires.readable (omega (arith, c.if-place-self.false)) place at c.index.result.now c.index.ensures (D.story device) (g.met.D.SectorDevice.begun device told)
    ∙ ap Some (sym (c.in_ok-from_slice.ensures.items ∙ c.deref-2.ensures.value))
