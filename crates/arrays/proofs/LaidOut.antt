-- What a layout that was placed is, and where it ends.
use Rattle.std.specs.Prelude.{◌&&◌}
use Rattle.std.proofs.Common.{◌≡◌, ◌∙◌, ◌+◌, ◌≤◌, ℕ, Bool, true, rules, sym, ap, arith}
use Rattle.std.proofs.lemmas.Bool.{and_from, le-leb}
use Rattle.arrow_schema.specs.Column.{Kind}
use Rattle.columns.specs.declared.array.PlacedLayout.{PlacedLayout, the_lemmas}
use Rattle.columns.specs.declared.array.PlacedLayout.TheVariants as placed
use Rattle.columns.specs.declared.array.PlacedLayout.TheFolds.{fold-PlacedLayout}
use Rattle.columns.specs.declared.span.Span.{Span}
use Rattle.columns.specs.Array.{Array, Layout, layout_in, null_layout, bit_layout, fixed_layout, binary_layout}
use Rattle.columns.specs.FromBuffers.{buffer_at}
use Rattle.columns.specs.Places.{within}
use Rattle.columns.specs.View.{layout_step, array_step}
use Rattle.columns.specs.Within.{ends_within, layout_within, array_within, stands_within}
use Rattle.arrays.specs.declared.rest.Rest.{Rest}
use Rattle.arrays.specs.inner.Rest.{rest_buffers, rest_known, kind_placed, IsLaidOut, IsInBody, LayoutEnds}

abbrev pub layout_of : Rest → PlacedLayout → Layout
layout_of r = fold-PlacedLayout Layout Array (layout_step r.bytes.now (rest_known r)) (array_step r.bytes.now)

abbrev pub kind_layout : Kind → Rest → Layout
kind_layout k r = layout_in (kind_placed k r)

pub null_laid : (r : Rest) (k : Kind) → kind_layout k r ≡ null_layout → IsLaidOut k r placed.Null
null_laid r k own =
    let seen : layout_of r placed.Null ≡ null_layout = search (rules, the_lemmas) in
    seen ∙ sym own

pub bits_laid : (r : Rest) (k : Kind) (bits : Span) → kind_layout k r ≡ bit_layout (buffer_at (rest_buffers r) 1) → within r.bytes.now bits ≡ buffer_at (rest_buffers r) 1 → IsLaidOut k r (placed.Bits bits)
bits_laid r k bits own is =
    let seen : layout_of r (placed.Bits bits) ≡ bit_layout (within r.bytes.now bits) = search (rules, the_lemmas) in
    seen ∙ ap bit_layout is ∙ sym own

pub fixed_laid : (r : Rest) (k : Kind) (values : Span) → kind_layout k r ≡ fixed_layout (buffer_at (rest_buffers r) 1) → within r.bytes.now values ≡ buffer_at (rest_buffers r) 1
    → IsLaidOut k r (placed.Fixed values)
fixed_laid r k values own is =
    let seen : layout_of r (placed.Fixed values) ≡ fixed_layout (within r.bytes.now values) = search (rules, the_lemmas) in
    seen ∙ ap fixed_layout is ∙ sym own

pub binary_laid : (r : Rest) (k : Kind) (offsets contents : Span) → kind_layout k r ≡ binary_layout (buffer_at (rest_buffers r) 1) (buffer_at (rest_buffers r) 2)
    → within r.bytes.now offsets ≡ buffer_at (rest_buffers r) 1 → within r.bytes.now contents ≡ buffer_at (rest_buffers r) 2 → IsLaidOut k r (placed.Binary offsets contents)
binary_laid r k offsets contents own first second =
    let seen : layout_of r (placed.Binary offsets contents) ≡ binary_layout (within r.bytes.now offsets) (within r.bytes.now contents) = search (rules, the_lemmas) in
    seen ∙ (λ j. binary_layout (first j) (second j)) ∙ sym own

-- ---- where it ends

abbrev pub ends_of : Rest → (size : ℕ) → PlacedLayout → Bool
ends_of r size = fold-PlacedLayout Bool Bool (layout_within size (stands_within size r.dictionaries.now)) (array_within size)

pub span_ends : (r : Rest) (span : Span) (size : ℕ) → IsInBody r span → r.body.start + r.body.len ≤ size → ends_within size span ≡ true
span_ends r span size inside le = le-leb _ _ (omega (arith, inside, le))

pub null_ends : (r : Rest) → LayoutEnds r placed.Null
null_ends r size le known = search (rules, the_lemmas)

pub bits_end : (r : Rest) (bits : Span) → IsInBody r bits → LayoutEnds r (placed.Bits bits)
bits_end r bits inside size le known =
    let seen : ends_of r size (placed.Bits bits) ≡ ends_within size bits = search (rules, the_lemmas) in
    seen ∙ span_ends r bits size inside le

pub fixed_ends : (r : Rest) (values : Span) → IsInBody r values → LayoutEnds r (placed.Fixed values)
fixed_ends r values inside size le known =
    let seen : ends_of r size (placed.Fixed values) ≡ ends_within size values = search (rules, the_lemmas) in
    seen ∙ span_ends r values size inside le

pub binary_ends : (r : Rest) (offsets contents : Span) → IsInBody r offsets → IsInBody r contents → LayoutEnds r (placed.Binary offsets contents)
binary_ends r offsets contents first second size le known =
    let seen : ends_of r size (placed.Binary offsets contents) ≡ (ends_within size offsets && ends_within size contents) = search (rules, the_lemmas) in
    seen ∙ and_from _ _ (span_ends r offsets size first le) (span_ends r contents size second le)
