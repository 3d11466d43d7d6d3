-- From the walk over a header to what is reported of it.
use Rattle.std.proofs.Common.{◌≡◌, ℕ, ◌-◌, List, Option, Some, unwrap_or, Result, Ok, Err, IfOk, sym, ap, subst, ◌∙◌}
use Rattle.flatbuf.specs.declared.FlatError.{FlatError}
use Rattle.flatbuf.specs.declared.limits.TheConstants.{MAX_LEVELS}
use Rattle.flatbuf.specs.Lookup.{Place, slot, table_behind}
use Rattle.flatbuf.specs.Walk.{run}
use Rattle.flatbuf.specs.laws.Walk.{run_ok, run_err}
use Rattle.ipc_message.specs.declared.header_type.HeaderType.{HeaderType}
use Rattle.ipc_message.specs.declared.header_type.HeaderType.TheVariants.{RecordBatch}
use Rattle.ipc_message.specs.declared.raw_header.Header.{Header}
use Rattle.ipc_message.specs.declared.walk_error.WalkError.{WalkError}
use Rattle.ipc_message.specs.declared.walk_error.WalkError.TheVariants as errors
use Rattle.ipc_message.specs.Framing.{flat_fault, header_type, type_of, message_table}
use Rattle.ipc_message.specs.Header.{supported_codes, header, header_of, header_slot, header_things, header_by_type, things_by_type, needed_things, decoded, type_in}
use Rattle.ipc_message.specs.View.{raw_header_of}
use Rattle.ipc_message.specs.inner.Walked.{ReportsWalk, Decodes}

-- the header's table is bad
pub header_absent : (metadata : List ℕ) (e : FlatError) → run metadata (needed_things (MAX_LEVELS - 1) metadata (header_slot metadata)) 1 ≡ Err e → header supported_codes metadata ≡ Err (flat_fault e)
unfolding header header_things
header_absent metadata e bad = ap (λ r. decoded r (header_of supported_codes metadata)) (run_err metadata _ _ 1 e bad)

-- what a walk over a header of this type says, where its table is fine
after_table : (metadata : List ℕ) (m k : ℕ) (r : Result Header WalkError) → run metadata (needed_things (MAX_LEVELS - 1) metadata (header_slot metadata)) 1 ≡ Ok m
    → ReportsWalk metadata (things_by_type supported_codes (MAX_LEVELS - 2) metadata (table_behind metadata (header_slot metadata)) (type_in metadata)) m k r
    → IfOk r (λ h. raw_header_of h ≡ header_of supported_codes metadata) → Decodes r (header supported_codes metadata)
unfolding header header_things
after_table metadata m k (Ok h) fine walked read = ap (λ r. decoded r (header_of supported_codes metadata)) (run_ok metadata _ _ 1 m fine ∙ walked) ∙ ap Ok (sym read)
after_table metadata m k (Err errors.Memory) fine walked read = tt
after_table metadata m k (Err (errors.Flat f)) fine walked read = ap (λ r. decoded r (header_of supported_codes metadata)) (run_ok metadata _ _ 1 m fine ∙ walked)

-- the same, said of a table of the code
pub header_there : (metadata there : List ℕ) (m k left : ℕ) (t : Place) (ty : HeaderType) (r : Result Header WalkError) → run metadata (needed_things (MAX_LEVELS - 1) metadata (header_slot metadata)) 1 ≡ Ok m
    → there ≡ metadata → left ≡ (MAX_LEVELS - 2) → table_behind metadata (header_slot metadata) ≡ Some t → header_type (type_of metadata) ≡ Some ty
    → ReportsWalk there (things_by_type supported_codes left there (Some t) ty) m k r → IfOk r (λ h. raw_header_of h ≡ header_by_type supported_codes left there (Some t) ty)
    → Decodes r (header supported_codes metadata)
unfolding header_of
header_there metadata there m k left t ty r fine same levels here its_type walked read =
    let at_type : ty ≡ type_in metadata = sym (ap (λ o. unwrap_or o RecordBatch) its_type) in
    let Walked : List ℕ → ℕ → Option Place → HeaderType → Type 0 = λ b l p y. ReportsWalk b (things_by_type supported_codes l b p y) m k r in
    let Read : List ℕ → ℕ → Option Place → HeaderType → Type 0 = λ b l p y. IfOk r (λ h. raw_header_of h ≡ header_by_type supported_codes l b p y) in
    after_table metadata m k r fine
    (subst (Walked metadata (MAX_LEVELS - 2) (table_behind metadata (header_slot metadata))) at_type (subst (λ p. Walked metadata (MAX_LEVELS - 2) p ty) (sym here) (subst (λ l. Walked metadata l (Some t) ty) levels (subst (λ b. Walked b left (Some t) ty) same walked))))
    (subst (Read metadata (MAX_LEVELS - 2) (table_behind metadata (header_slot metadata))) at_type (subst (λ p. Read metadata (MAX_LEVELS - 2) p ty) (sym here) (subst (λ l. Read metadata l (Some t) ty) levels (subst (λ b. Read b left (Some t) ty) same read))))

-- ---- the Message table of the code is the one in the bytes

pub needed_there : (metadata : List ℕ) (levels n : ℕ) (t : Place) (r : Result ℕ FlatError) → levels ≡ (MAX_LEVELS - 1) → n ≡ 1 → t ≡ message_table metadata
    → run metadata (needed_things levels metadata (slot metadata t 2)) n ≡ r → run metadata (needed_things (MAX_LEVELS - 1) metadata (header_slot metadata)) 1 ≡ r
needed_there metadata levels n t r at_levels once here walked =
    ap (λ p. run metadata (needed_things (MAX_LEVELS - 1) metadata (slot metadata p 2)) 1) (sym here)
    ∙ ap (λ l. run metadata (needed_things l metadata (slot metadata t 2)) 1) (sym at_levels)
    ∙ ap (run metadata (needed_things levels metadata (slot metadata t 2))) (sym once)
    ∙ walked

pub behind_there : (metadata : List ℕ) (t : Place) (u : Option Place) → t ≡ message_table metadata → table_behind metadata (slot metadata t 2) ≡ u → table_behind metadata (header_slot metadata) ≡ u
behind_there metadata t u here behind = ap (λ p. table_behind metadata (slot metadata p 2)) (sym here) ∙ behind
