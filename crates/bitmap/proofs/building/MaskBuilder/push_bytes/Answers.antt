use Rattle.std.specs.List.{range_with_len}
use Rattle.std.proofs.Common.{◌≡◌, ℕ, ◌+◌, ◌-◌, ◌*◌, ◌++◌, ◌<◌, ◌≤◌, Bool, List, length, get_or, map, take, drop, sym, ap, ◌∙◌, arith}
use Rattle.std.proofs.lemmas.List.{length-append, length-drop, length-take}
use Rattle.std.proofs.lemmas.List.FromFn.{length-map-range_with_len}
use Rattle.bitmap.specs.Bits.{bit, packed}
use Rattle.bitmap.specs.inner.Building.{IsBuilt, bits_within}
use Rattle.bitmap.proofs.Builds.{built_packed, full_more, length_within, within_packed}
use Rattle.bitmap.proofs.Parts.{copied, eight, joined, whole_byte}
use Rattle.bitmap.proofs.building.MaskBuilder.push_bytes.Goals as goal

length_part : (mask : List ℕ) (from to : ℕ) → from ≤ to → to ≤ length mask → length (take (to - from) (drop from mask)) ≡ to - from
length_part mask from to order within = omega (arith, length-take (to - from) (drop from mask), length-drop from mask)

-- bytes that are added after those of which no bit is free
module _ (old new mask : List ℕ) (free from to : ℕ) (built : IsBuilt old free) (none : free ≡ 0) (small : (i : ℕ) → get_or mask i 0 < 256)
    (order : from ≤ to) (within : to ≤ length mask) (is : new ≡ old ++ take (to - from) (drop from mask)) where
  abbrev own : List Bool
  own = bits_within old free

  abbrev more : List Bool
  more = map (bit mask) (range_with_len (8 * from) (8 * (to - from)))

  full : length own ≡ 8 * length old
  full = length_within old free ∙ omega (arith, none)

  whole : new ≡ packed (own ++ more)
  whole = is ∙ ap (λ (bytes : List ℕ). bytes ++ take (to - from) (drop from mask)) built.exact ∙ ap (λ (bytes : List ℕ). packed own ++ bytes) (sym (copied mask small from to order within))
      ∙ sym (full_more (length old) own more full)

  size : 8 * length new ≡ length (own ++ more) + free
  size = let long : length new ≡ length old + (to - from) = ap length is ∙ omega (arith, length-append old (take (to - from) (drop from mask)), length_part mask from to order within) in
      omega (arith, long, none, full, length-append own more, length-map-range_with_len (bit mask) (8 * from) (8 * (to - from)))

  still_built : IsBuilt new free
  still_built = built_packed (own ++ more) new free whole (omega (arith, none)) size

  more_within : bits_within new free ≡ own ++ more
  more_within = within_packed (own ++ more) new free whole size

pub invariant_of-self-then-self-eq0 : goal.invariant_of-self-then-self-eq0
invariant_of-self-then-self-eq0 c =
    still_built c.self.inside.bytes.items c.extend_from_slice.new.self.items c.args.mask.now c.self.inside.free c.args.from c.args.to c.self.invariant c.if-self-eq0.true
    (λ i. (c.type_inv.mask i).fits) c.requires.order c.requires.within c.in_ok-extend_from_slice.ensures.items

pub returns-then-self-eq0-clause-ok : goal.returns-then-self-eq0-clause-ok
returns-then-self-eq0-clause-ok c =
    more_within c.self.inside.bytes.items c.extend_from_slice.new.self.items c.args.mask.now c.self.inside.free c.args.from c.args.to c.self.invariant c.if-self-eq0.true
    (λ i. (c.type_inv.mask i).fits) c.requires.order c.requires.within c.in_ok-extend_from_slice.ensures.items
    ∙ ap (λ (bits : List Bool). bits ++ map (bit c.args.mask.now) (range_with_len (8 * c.args.from) (8 * (c.args.to - c.args.from)))) c.self.view_is

pub loop-byte-preserved : goal.loop-byte-preserved
loop-byte-preserved c =
    let mask : List ℕ = c.args.mask.now in
    let from : ℕ = c.args.from in
    let byte : ℕ = c.loop-byte.byte in
    let f : ℕ → Bool = bit mask in
    let low : 8 * from ≤ 8 * byte = omega (arith, c.loop-byte.auto.byte) in
    let up : 8 * byte ≤ 8 * (byte + 1) = omega arith in
    let step : 8 ≡ 8 * (byte + 1) - 8 * byte = omega arith in
    c.in_ok-push_word.ensures.ok (map f (range_with_len (8 * byte) 8)) (eight mask (8 * byte)) (whole_byte mask byte (c.type_inv.mask byte).fits ∙ sym c.from.ensures)
    ∙ ap (λ (bits : List Bool). bits ++ map f (range_with_len (8 * byte) 8)) c.loop-byte.invariant
    ∙ ap (λ (n : ℕ). (c.args.self.now ++ map f (range_with_len (8 * from) (8 * byte - 8 * from))) ++ map f (range_with_len (8 * byte) n)) step
    ∙ joined f c.args.self.now (8 * from) (8 * byte) (8 * (byte + 1)) low up
