use Rattle.std.proofs.Common.{◌≡◌, ◌∙◌, refl, sym, ap}
use Rattle.std.specs.Prelude.{not}
use Rattle.std.specs.Ordering.{nat_cmp, is_eq, is_ne}
use Rattle.std.specs.Cmp.Lexicographic.{slice_cmp}
use Rattle.std.specs.declared.cmp.Ordering.{Ordering}
use Rattle.std.specs.declared.cmp.Ordering.TheVariants.{Less, Equal, Greater}
use Rattle.std.proofs.lemmas.Map.Text.{is_eq-slice_cmp}
use Rattle.query.proofs.contents_slots.ContentsComparison.accepts.Goals as goal

told_apart : (o : Ordering) → not (is_eq o) ≡ is_ne o
told_apart Less = refl
told_apart Equal = refl
told_apart Greater = refl

pub returns-in-Equal : goal.returns-in-Equal
returns-in-Equal c = rw c.in-Equal.is (c.eq.ensures ∙ sym (is_eq-slice_cmp c.args.bytes.now c.args.self.literal.now))

pub returns-in-NotEqual : goal.returns-in-NotEqual
returns-in-NotEqual c =
    let same = is_eq-slice_cmp c.args.bytes.now c.args.self.literal.now in
    rw c.in-NotEqual.is (c.ne.ensures ∙ ap not (sym same) ∙ told_apart (slice_cmp nat_cmp c.args.bytes.now c.args.self.literal.now))
