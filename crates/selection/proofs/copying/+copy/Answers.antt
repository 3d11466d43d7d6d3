use Rattle.std.proofs.Common.{List, refl, sym, ap, subst, map, ◌∙◌, arith}
use Rattle.std.proofs.lemmas.List.{take_all}
use Rattle.columns.specs.View.{array_in}
use Rattle.columns.specs.declared.array.PlacedArray.{PlacedArray}
use Rattle.columns.specs.declared.array.PlacedLayout.{PlacedLayout}
use Rattle.columns.specs.declared.array.PlacedLayout.TheVariants as layouts
use Rattle.selection.specs.inner.Copies.{IsSameLayout, IsSameArray, AreSameArrays}
use Rattle.selection.proofs.Copies.{array_copied, list_copied, fixed_list_copied, struct_copied, copied_more}
use Rattle.selection.proofs.copying.+copy.Goals as goal

pub copy_array-returns : goal.copy_array-returns
copy_array-returns t c = array_copied _ c.args.array.now refl refl c.in_ok-copy_layout.ensures

pub copy_arrays-loop-array-preserved : goal.copy_arrays-loop-array-preserved
copy_arrays-loop-array-preserved t c =
    copied_more c.loop-array.copies.items c.push.new.self.items c.args.arrays.now c.loop-array.array-index c.in_ok-copy_array.field-0 c.array-item.result c.loop-array-test.true c.array-item.is
    c.in_ok-push.ensures.items c.in_ok-copy_array.ensures c.loop-array.invariant

pub copy_arrays-returns : goal.copy_arrays-returns
copy_arrays-returns t c bytes known =
    c.loop-array.invariant bytes known ∙ ap (map (array_in bytes known)) (take_all c.loop-array.array-index c.args.arrays.now (omega (arith, c.loop-array-test.false)))

pub copy_boxed-returns : goal.copy_boxed-returns
copy_boxed-returns t c bytes known = ap (array_in bytes known) c.in_ok-new.ensures.ok ∙ c.in_ok-copy_array.ensures bytes known

pub copy_layout-returns-in_ok-copy_boxed-in-List : goal.copy_layout-returns-in_ok-copy_boxed-in-List
copy_layout-returns-in_ok-copy_boxed-in-List t c =
    let own = c.in_ok-copy_boxed-in-List.field-0 in
    let P : PlacedArray → Type 0 = λ a. IsSameArray own.value a in
    let same = subst P c.deref.ensures c.in_ok-copy_boxed-in-List.ensures in
    let Q : PlacedLayout → Type 0 = λ l. IsSameLayout (layouts.List c.in-List.offsets own) l in
    subst Q (sym c.in-List.is) (list_copied c.in-List.offsets own c.in-List.items same)

pub copy_layout-returns-in_ok-copy_boxed-in-FixedList : goal.copy_layout-returns-in_ok-copy_boxed-in-FixedList
copy_layout-returns-in_ok-copy_boxed-in-FixedList t c =
    let own = c.in_ok-copy_boxed-in-FixedList.field-0 in
    let P : PlacedArray → Type 0 = λ a. IsSameArray own.value a in
    let same = subst P c.deref-in-FixedList.ensures c.in_ok-copy_boxed-in-FixedList.ensures in
    let Q : PlacedLayout → Type 0 = λ l. IsSameLayout (layouts.FixedList own) l in
    subst Q (sym c.in-FixedList.is) (fixed_list_copied own c.in-FixedList.items same)

pub copy_layout-returns-in_ok-copy_arrays-in-Struct : goal.copy_layout-returns-in_ok-copy_arrays-in-Struct
copy_layout-returns-in_ok-copy_arrays-in-Struct t c =
    let own = c.in_ok-copy_arrays-in-Struct.field-0 in
    let P : List PlacedArray → Type 0 = λ arrays. AreSameArrays own.items arrays in
    let same = subst P c.deref-in-Struct.ensures.value c.in_ok-copy_arrays-in-Struct.ensures in
    let Q : PlacedLayout → Type 0 = λ l. IsSameLayout (layouts.Struct own) l in
    subst Q (sym c.in-Struct.is) (struct_copied own c.in-Struct.children same)
