-- What a type that is decoded says of its children, timezone, number and width, in the words of arrow_schema.
use Rattle.std.proofs.Common.{◌≡◌, ℕ, ◌≤◌, ◌^◌, max, Bool, true, false, List, [], ◌∷◌, length, refl, sym, ◌∙◌, subst, arith, append-nil}
use Rattle.std.specs.Prelude.{Option, Some, None, option_map, nat_lt, if◌then◌else◌}
use Rattle.std.proofs.lemmas.Option.{cond_some, same_Some, none-some}
use Rattle.std.specs.Str.{is_utf8}
use Rattle.std.proofs.lemmas.Str.{is_utf8-from_IsUtf8, IsUtf8-nil}
use Rattle.arrow_schema.specs.Column.{Kind, Column, nulls, booleans, integers, dates, timestamps, texts, large_texts, binaries, large_binaries, fixed_binaries, lists, large_lists, fixed_lists, columns_of, is_bit_width}
use Rattle.arrow_schema.specs.Preorder.{preorder_below, depth_below, preorder_all, depth_all}
use Rattle.arrow_schema.specs.Limits as limits
use Rattle.ipc_message.specs.declared.fault.TypeName.{TypeName}
use Rattle.ipc_message.specs.declared.fault.TypeName.TheVariants as types
use Rattle.ipc_message.specs.Raw.{RawParameters, no_parameters, integer_parameters, byte_width, list_size, date_unit, timestamp_parameters}
use Rattle.ipc_message.specs.Types.{without_children, with_item, is_size, date_kind, time_kind, integer, date, timestamp, fixed_binary, fixed_list, decoded_type}
use Rattle.ipc_message.specs.Checks.{timezone_of, is_nested}

pub record HasShape (name : TypeName) (p : RawParameters) (cs : List Column) (k : Kind) : Type 0 where
  pub below : preorder_below k ≡ preorder_all (columns_of cs)
  pub depth : depth_below k ≡ depth_all (columns_of cs)
  pub timezone : length (limits.timezone_of k) ≤ length (timezone_of p)
  pub number : nat_lt (limits.number_of k) (2 ^ 31) ≡ true
  pub nested : limits.is_nested k ≡ is_nested name
  pub utf8 : is_utf8 (timezone_of p) ≡ true → is_utf8 (limits.timezone_of k) ≡ true
  pub width : limits.is_kind_of_width k ≡ true

no_timezone : {h : Type 0} → h → is_utf8 [] ≡ true
no_timezone h = is_utf8-from_IsUtf8 [] IsUtf8-nil

-- a type without children
record IsFlat (p : RawParameters) (k : Kind) : Type 0 where
  below : preorder_below k ≡ []
  depth : depth_below k ≡ 0
  timezone : length (limits.timezone_of k) ≤ length (timezone_of p)
  number : nat_lt (limits.number_of k) (2 ^ 31) ≡ true
  nested : limits.is_nested k ≡ false
  utf8 : is_utf8 (timezone_of p) ≡ true → is_utf8 (limits.timezone_of k) ≡ true
  width : limits.is_kind_of_width k ≡ true

flat_shape : (name : TypeName) (p : RawParameters) (kind : Option Kind) (cs : List Column) (k : Kind) → is_nested name ≡ false → ((j : Kind) → kind ≡ Some j → IsFlat p j)
    → without_children kind cs ≡ Some k → HasShape name p cs k
unfolding preorder_all depth_all
flat_shape name p kind [] k n flat h =
    let f = flat k h in
    record { below = f.below; depth = f.depth; timezone = f.timezone; number = f.number; nested = f.nested ∙ sym n; utf8 = f.utf8; width = f.width }
flat_shape name p kind (c ∷ cs) k n flat h = absurd (none-some k h)

flat_some : (p : RawParameters) (i : Kind) → IsFlat p i → (j : Kind) → Some i ≡ Some j → IsFlat p j
flat_some p i f j h = subst (IsFlat p) (same_Some i j h) f

flat_if : (p : RawParameters) (b : Bool) (i : Kind) → (b ≡ true → IsFlat p i) → (j : Kind) → (if b then Some i else None) ≡ Some j → IsFlat p j
flat_if p b i f j h = let c = cond_some b i j h in subst (IsFlat p) c.1 (f c.0)

flat_map : {A : Type 0} (p : RawParameters) (o : Option A) (g : A → Kind) → ((x : A) → IsFlat p (g x)) → (j : Kind) → option_map g o ≡ Some j → IsFlat p j
flat_map p None g f j h = absurd (none-some j h)
flat_map p (Some x) g f j h = flat_some p (g x) (f x) j h

flat_integer : (p : RawParameters) (j : Kind) → integer p ≡ Some j → IsFlat p j
unfolding preorder_below depth_below
flat_integer (integer_parameters w s) j h = flat_if _ (is_bit_width w) (integers w s) (λ e. record { below = refl; depth = refl; timezone = omega arith; number = refl; nested = refl; utf8 = no_timezone; width = e }) j h
flat_integer no_parameters j h = absurd (none-some j h)
flat_integer (byte_width n) j h = absurd (none-some j h)
flat_integer (list_size n) j h = absurd (none-some j h)
flat_integer (date_unit n) j h = absurd (none-some j h)
flat_integer (timestamp_parameters n z) j h = absurd (none-some j h)

flat_date : (p : RawParameters) (j : Kind) → date p ≡ Some j → IsFlat p j
unfolding preorder_below depth_below
flat_date (date_unit n) j h = flat_map _ (date_kind n) dates (λ u. record { below = refl; depth = refl; timezone = omega arith; number = refl; nested = refl; utf8 = no_timezone; width = refl }) j h
flat_date no_parameters j h = absurd (none-some j h)
flat_date (byte_width n) j h = absurd (none-some j h)
flat_date (list_size n) j h = absurd (none-some j h)
flat_date (integer_parameters w s) j h = absurd (none-some j h)
flat_date (timestamp_parameters n z) j h = absurd (none-some j h)

flat_timestamp : (p : RawParameters) (j : Kind) → timestamp p ≡ Some j → IsFlat p j
unfolding preorder_below depth_below
flat_timestamp (timestamp_parameters n z) j h = flat_map _ (time_kind n) (λ u. timestamps u z) (λ u. record { below = refl; depth = refl; timezone = omega arith; number = refl; nested = refl; utf8 = λ h. h; width = refl }) j h
flat_timestamp no_parameters j h = absurd (none-some j h)
flat_timestamp (byte_width n) j h = absurd (none-some j h)
flat_timestamp (list_size n) j h = absurd (none-some j h)
flat_timestamp (integer_parameters w s) j h = absurd (none-some j h)
flat_timestamp (date_unit n) j h = absurd (none-some j h)

flat_fixed : (p : RawParameters) (j : Kind) → fixed_binary p ≡ Some j → IsFlat p j
unfolding preorder_below depth_below
flat_fixed (byte_width n) j h = flat_if _ (is_size n) (fixed_binaries n) (λ e. record { below = refl; depth = refl; timezone = omega arith; number = e; nested = refl; utf8 = no_timezone; width = refl }) j h
flat_fixed no_parameters j h = absurd (none-some j h)
flat_fixed (timestamp_parameters n z) j h = absurd (none-some j h)
flat_fixed (list_size n) j h = absurd (none-some j h)
flat_fixed (integer_parameters w s) j h = absurd (none-some j h)
flat_fixed (date_unit n) j h = absurd (none-some j h)

max_zero : (n : ℕ) → n ≡ max n 0
max_zero n = omega arith

item_shape : (name : TypeName) (p : RawParameters) (kind : Column → Option Kind) (cs : List Column) (k : Kind) → is_nested name ≡ true
    → ((c : Column) (j : Kind) → kind c ≡ Some j → HasShape name p (c ∷ []) j) → with_item kind cs ≡ Some k → HasShape name p cs k
item_shape name p kind [] k n f h = absurd (none-some k h)
item_shape name p kind (c ∷ []) k n f h = f c k h
item_shape name p kind (c ∷ d ∷ cs) k n f h = absurd (none-some k h)

list_shape : (p : RawParameters) (c : Column) (j : Kind) → Some (lists c) ≡ Some j → HasShape types.List p (c ∷ []) j
unfolding preorder_below depth_below preorder_all depth_all
list_shape p c j h = subst (HasShape types.List p (c ∷ [])) (same_Some _ j h) (record { below = sym (append-nil _); depth = max_zero _; timezone = omega arith; number = refl; nested = refl; utf8 = no_timezone; width = refl })

large_list_shape : (p : RawParameters) (c : Column) (j : Kind) → Some (large_lists c) ≡ Some j → HasShape types.LargeList p (c ∷ []) j
unfolding preorder_below depth_below preorder_all depth_all
large_list_shape p c j h = subst (HasShape types.LargeList p (c ∷ [])) (same_Some _ j h) (record { below = sym (append-nil _); depth = max_zero _; timezone = omega arith; number = refl; nested = refl; utf8 = no_timezone; width = refl })

fixed_list_shape : (p : RawParameters) (c : Column) (j : Kind) → fixed_list p c ≡ Some j → HasShape types.FixedSizeList p (c ∷ []) j
unfolding preorder_below depth_below preorder_all depth_all
fixed_list_shape (list_size n) c j h =
    let e = cond_some (is_size n) (fixed_lists n c) j h in
    subst (HasShape types.FixedSizeList (list_size n) (c ∷ [])) e.1 (record { below = sym (append-nil _); depth = max_zero _; timezone = omega arith; number = e.0; nested = refl; utf8 = no_timezone; width = refl })
fixed_list_shape no_parameters c j h = absurd (none-some j h)
fixed_list_shape (byte_width n) c j h = absurd (none-some j h)
fixed_list_shape (timestamp_parameters n z) c j h = absurd (none-some j h)
fixed_list_shape (integer_parameters w s) c j h = absurd (none-some j h)
fixed_list_shape (date_unit n) c j h = absurd (none-some j h)

flat_kind : (name : TypeName) (p : RawParameters) (cs : List Column) (i k : Kind) → is_nested name ≡ false → IsFlat p i → without_children (Some i) cs ≡ Some k → HasShape name p cs k
flat_kind name p cs i k n f h = flat_shape name p (Some i) cs k n (flat_some p i f) h

pub decoded_shape : (name : TypeName) (p : RawParameters) (cs : List Column) (k : Kind) → decoded_type name p cs ≡ Some k → HasShape name p cs k
unfolding decoded_type preorder_below depth_below
decoded_shape types.Null p cs k h = flat_kind _ p cs nulls k refl (record { below = refl; depth = refl; timezone = omega arith; number = refl; nested = refl; utf8 = no_timezone; width = refl }) h
decoded_shape types.Int p cs k h = flat_shape _ p _ cs k refl (flat_integer p) h
decoded_shape types.Binary p cs k h = flat_kind _ p cs binaries k refl (record { below = refl; depth = refl; timezone = omega arith; number = refl; nested = refl; utf8 = no_timezone; width = refl }) h
decoded_shape types.Utf8 p cs k h = flat_kind _ p cs texts k refl (record { below = refl; depth = refl; timezone = omega arith; number = refl; nested = refl; utf8 = no_timezone; width = refl }) h
decoded_shape types.Bool p cs k h = flat_kind _ p cs booleans k refl (record { below = refl; depth = refl; timezone = omega arith; number = refl; nested = refl; utf8 = no_timezone; width = refl }) h
decoded_shape types.Date p cs k h = flat_shape _ p _ cs k refl (flat_date p) h
decoded_shape types.Timestamp p cs k h = flat_shape _ p _ cs k refl (flat_timestamp p) h
decoded_shape types.List p cs k h = item_shape _ p _ cs k refl (list_shape p) h
decoded_shape types.Struct p cs k h = subst (HasShape types.Struct p cs) (same_Some _ k h) (record { below = refl; depth = refl; timezone = omega arith; number = refl; nested = refl; utf8 = no_timezone; width = refl })
decoded_shape types.FixedSizeBinary p cs k h = flat_shape _ p _ cs k refl (flat_fixed p) h
decoded_shape types.FixedSizeList p cs k h = item_shape _ p _ cs k refl (fixed_list_shape p) h
decoded_shape types.LargeBinary p cs k h = flat_kind _ p cs large_binaries k refl (record { below = refl; depth = refl; timezone = omega arith; number = refl; nested = refl; utf8 = no_timezone; width = refl }) h
decoded_shape types.LargeUtf8 p cs k h = flat_kind _ p cs large_texts k refl (record { below = refl; depth = refl; timezone = omega arith; number = refl; nested = refl; utf8 = no_timezone; width = refl }) h
decoded_shape types.LargeList p cs k h = item_shape _ p _ cs k refl (large_list_shape p) h
decoded_shape types.FloatingPoint p cs k h = absurd (none-some k h)
decoded_shape types.Decimal p cs k h = absurd (none-some k h)
decoded_shape types.Time p cs k h = absurd (none-some k h)
decoded_shape types.Interval p cs k h = absurd (none-some k h)
decoded_shape types.Union p cs k h = absurd (none-some k h)
decoded_shape types.Map p cs k h = absurd (none-some k h)
decoded_shape types.Duration p cs k h = absurd (none-some k h)
decoded_shape types.RunEndEncoded p cs k h = absurd (none-some k h)
decoded_shape types.BinaryView p cs k h = absurd (none-some k h)
decoded_shape types.Utf8View p cs k h = absurd (none-some k h)
decoded_shape types.ListView p cs k h = absurd (none-some k h)
decoded_shape types.LargeListView p cs k h = absurd (none-some k h)
decoded_shape types.Unknown p cs k h = absurd (none-some k h)
