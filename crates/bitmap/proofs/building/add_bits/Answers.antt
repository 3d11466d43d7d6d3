use Rattle.std.proofs.Common.{◌≡◌, ℕ, ◌+◌, ◌-◌, ◌*◌, ◌/◌, ◌%◌, ◌^◌, List, ◌++◌, length, get_or, drop, sym, ap, subst, ◌∙◌, arith}
use Rattle.std.specs.Prelude.{OnOk, set, bit_or}
use Rattle.std.proofs.lemmas.List.{take_at, length-drop}
use Rattle.bitmap.specs.Bits.{packed}
use Rattle.bitmap.specs.inner.Building.{bits_within}
use Rattle.bitmap.proofs.Packs.{mask_high}
use Rattle.bitmap.proofs.Builds.{length_within, full_more, added}
use Rattle.bitmap.proofs.building.add_bits.Goals as goal

pub returns-then-free-eq0-clause-ok : goal.returns-then-free-eq0-clause-ok
returns-then-free-eq0-clause-ok c = λ bits size is.
    let old = c.args.bytes.now.items in
    let xs = bits_within old c.args.free in
    let full : length xs ≡ 8 * length old = length_within old c.args.free ∙ omega (arith, c.if-free-eq0.true) in
    let whole : old ++ packed bits ≡ packed (xs ++ bits) = ap (λ (bytes : List ℕ). bytes ++ packed bits) c.requires.built.exact ∙ sym (full_more (length old) xs bits full) in
    subst (λ (bytes : List ℕ). OnOk c.append_bits.result (c.append_bits.new.bytes.items ≡ bytes)) whole (c.append_bits.ensures.ok bits size is)

pub fill-requires-clause-at : goal.fill-requires-clause-at
fill-requires-clause-at c =
    omega (arith, c.len-last.ensures, c.append_bits-2.ensures.longer, ap length c.as_mut_slice.ensures.value, c.requires.built.within, c.if-free-eq0.false)

pub returns-clause-ok : goal.returns-clause-ok
returns-clause-ok c = λ bits size is.
    let old = c.args.bytes.now.items in
    let free = c.args.free in
    let xs = bits_within old free in
    let new = c.fill.new.bytes in
    let at = c.len-last.result in
    let more = c.append_bits-2.new.bytes.items in
    let put = λ (bytes : List ℕ) (k word : ℕ). set bytes (k - 1) (bit_or (get_or bytes (k - 1) 0) (word % 256 * 2 ^ (8 - free) % 256)) in
    let whole = take_at new (drop (length new) more) c.append_bits-2.new.bytes.len (omega arith) in
    let last : at ≡ length old = omega (arith, c.len-last.ensures) in
    let total : 8 * length old ≡ length xs + free = omega (arith, length_within old free, c.requires.built.within) in
    let count : length (drop free bits) ≡ c.saturating_sub.result = omega (arith, length-drop free bits, c.saturating_sub.ensures, size) in
    let rest : more ≡ old ++ packed (drop free bits) = c.in_ok-append_bits.ensures.ok (drop free bits) count (sym (mask_high free bits) ∙ ap (λ word. word / 2 ^ free) is) in
    whole
    ∙ c.fill.ensures
    ∙ ap (λ (bytes : List ℕ). put bytes at c.args.word) c.as_mut_slice.ensures.value
    ∙ ap (λ k. put more k c.args.word) last
    ∙ ap (put more (length old)) (sym is)
    ∙ added old more xs bits free c.requires.built.exact total (omega (arith, c.if-free-eq0.false)) c.requires.built.few rest
