use Rattle.std.specs.Prelude.{nat_eq}
use Rattle.std.specs.List.{starts_with}
use Rattle.std.specs.Prelude.{◌==◌}
use Rattle.std.proofs.Common.{◌≡◌, ◌++◌, Bool, true, false, if◌then◌else◌, length, drop, Some, None, Result, Ok, refl, sym, ap, ◌∙◌, subst}
use Rattle.std.proofs.lemmas.Bool.{eq-eqb, ne_eqb}
use Rattle.std.proofs.lemmas.Slice.Eq.{starts_is}
use Rattle.std.proofs.lemmas.Bool.Decides.{Decides-eqb}
use Rattle.facts.specs.laws.Checks.{unless_passed}
use Rattle.ipc_message.specs.Checks.{schema_checks, checked_schema}
use Rattle.ipc_message.specs.Convert.{plain_schema_of}
use Rattle.ipc_message.specs.Framing.{Envelope, next_message, message, first_some}
use Rattle.ipc_message.specs.Header.{header, supported_codes}
use Rattle.ipc_message.specs.Raw.{RawSchema, schema_header}
use Rattle.ipc_stream.specs.Meaning.{meaning}
use Rattle.ipc_stream.specs.laws.First.{means_begins}
use Rattle.ipc_write.specs.Decoded.{raw_schema}
use Rattle.ipc_write.specs.Written.{schema_message, schema_envelope}
use Rattle.values.specs.TableView.{table_of}
use Rattle.store_runs.specs.Held.{rows_where}
use Rattle.store_changes.specs.ReadSegment.{table_where}
use Rattle.store_changes.proofs.reading.table_in_bytes.Goals as goal

same_ok : {T E : Type 0} (a b : T) (r : Result T E) → r ≡ Ok a → r ≡ Ok b → a ≡ b
same_ok a b r is other = cc (is, other)

message_is : (a b : Envelope) → message a ≡ message b → a ≡ b
message_is a b is = cc is

header_is : (a b : RawSchema) → schema_header a ≡ schema_header b → a ≡ b
header_is a b is = cc is

-- the first message is that of the schema, and a stream means a table of the schema of its first message
pub returns-then-len-rows-clause-schema : goal.returns-then-len-rows-clause-schema
unfolding checked_schema
returns-then-len-rows-clause-schema c = λ s within front.
    let bytes = c.args.bytes.items in
    let t = table_of c.in-Ok.weighed.table in
    let law = c.schema_message_is_read_again.ensures in
    let begins : starts_with nat_eq bytes (schema_message s) ≡ true = (λ i. starts_with nat_eq (sym c.deref.ensures.value i) (sym front i)) ∙ sym c.starts_with.ensures.value ∙ c.if-not-starts_with.false in
    let first = means_begins supported_codes bytes t c.in-Ok.ensures.exact in
    let parts : bytes ≡ schema_message s ++ drop (length (schema_message s)) bytes = (starts_is Decides-eqb bytes (schema_message s) (starts_with nat_eq bytes (schema_message s)) refl).0 begins in
    let found : next_message bytes ≡ Ok (message (schema_envelope s)) = ap next_message parts ∙ law.next_message s (drop (length (schema_message s)) bytes) within in
    let one : first.first ≡ schema_envelope s =
    message_is first.first (schema_envelope s) (same_ok (message first.first) (message (schema_envelope s)) (next_message bytes) first.found found) in
    let own : header supported_codes (schema_envelope s).metadata ≡ Ok (schema_header first.schema) = subst (λ (m : Envelope). header supported_codes m.metadata ≡ Ok (schema_header first.schema)) one first.decoded in
    let same : first.schema ≡ raw_schema s =
    header_is first.schema (raw_schema s) (same_ok (schema_header first.schema) (schema_header (raw_schema s)) (header supported_codes (schema_envelope s).metadata) own (law.header supported_codes s (refl, refl) within)) in
    let passed = unless_passed (first_some (schema_checks supported_codes first.schema)) (Ok (plain_schema_of first.schema)) t.schema first.checked in
    let plain : plain_schema_of first.schema ≡ t.schema = same_ok (plain_schema_of first.schema) t.schema (Ok (plain_schema_of first.schema)) refl passed.1 in
    sym plain ∙ ap plain_schema_of same ∙ law.decoded s within

-- ---- the rows, where the bytes begin with the message and mean n

pub returns-then-not-starts_with-clause-rows : goal.returns-then-not-starts_with-clause-rows
returns-then-not-starts_with-clause-rows c = λ s front.
    let bytes = c.args.bytes.items in
    let begins : starts_with nat_eq bytes (schema_message s) ≡ false = (λ i. starts_with nat_eq (sym c.deref.ensures.value i) (sym front i)) ∙ sym c.starts_with.ensures.value ∙ c.if-not-starts_with.true in
    sym (ap (λ (b : Bool). if b then rows_where c.args.rows (meaning supported_codes bytes) else None) begins)

pub returns-then-len-rows-clause-rows : goal.returns-then-len-rows-clause-rows
returns-then-len-rows-clause-rows c = λ s front.
    let bytes = c.args.bytes.items in
    let begins : starts_with nat_eq bytes (schema_message s) ≡ true = (λ i. starts_with nat_eq (sym c.deref.ensures.value i) (sym front i)) ∙ sym c.starts_with.ensures.value ∙ c.if-not-starts_with.false in
    let t = table_of c.in-Ok.weighed.table in
    let many : (length t.rows == c.args.rows) ≡ true = eq-eqb (length t.rows) c.args.rows (sym c.len.ensures ∙ c.if-len-rows.true) in
    sym ((λ i. if begins i then rows_where c.args.rows (c.in-Ok.ensures.exact i) else None) ∙ ap (λ (b : Bool). if b then Some t.rows else None) many)

pub returns-then-len-rows-clause-count : goal.returns-then-len-rows-clause-count
returns-then-len-rows-clause-count c = sym c.len.ensures ∙ c.if-len-rows.true

pub returns-else-len-rows-clause-rows : goal.returns-else-len-rows-clause-rows
returns-else-len-rows-clause-rows c = λ s front.
    let bytes = c.args.bytes.items in
    let begins : starts_with nat_eq bytes (schema_message s) ≡ true = (λ i. starts_with nat_eq (sym c.deref.ensures.value i) (sym front i)) ∙ sym c.starts_with.ensures.value ∙ c.if-not-starts_with.false in
    let t = table_of c.in-Ok.weighed.table in
    let other : (length t.rows == c.args.rows) ≡ false = ne_eqb (length t.rows) c.args.rows (λ same. c.if-len-rows.false (c.len.ensures ∙ same)) in
    sym ((λ i. if begins i then rows_where c.args.rows (c.in-Ok.ensures.exact i) else None) ∙ ap (λ (b : Bool). if b then Some t.rows else None) other)

-- ---- the table, with any front

pub returns-then-not-starts_with-clause-means : goal.returns-then-not-starts_with-clause-means
returns-then-not-starts_with-clause-means c =
    let bytes = c.args.bytes.items in
    let begins : starts_with nat_eq bytes c.args.front.now ≡ false = (λ i. starts_with nat_eq (sym c.deref.ensures.value i) c.args.front.now) ∙ sym c.starts_with.ensures.value ∙ c.if-not-starts_with.true in
    sym (ap (λ (b : Bool). if b then table_where c.args.rows (meaning supported_codes bytes) else None) begins)

pub returns-then-len-rows-clause-means : goal.returns-then-len-rows-clause-means
returns-then-len-rows-clause-means c =
    let bytes = c.args.bytes.items in
    let begins : starts_with nat_eq bytes c.args.front.now ≡ true = (λ i. starts_with nat_eq (sym c.deref.ensures.value i) c.args.front.now) ∙ sym c.starts_with.ensures.value ∙ c.if-not-starts_with.false in
    let t = table_of c.in-Ok.weighed.table in
    let many : (length t.rows == c.args.rows) ≡ true = eq-eqb (length t.rows) c.args.rows (sym c.len.ensures ∙ c.if-len-rows.true) in
    sym ((λ i. if begins i then table_where c.args.rows (c.in-Ok.ensures.exact i) else None) ∙ ap (λ (b : Bool). if b then Some t else None) many)

pub returns-else-len-rows-clause-means : goal.returns-else-len-rows-clause-means
returns-else-len-rows-clause-means c =
    let bytes = c.args.bytes.items in
    let begins : starts_with nat_eq bytes c.args.front.now ≡ true = (λ i. starts_with nat_eq (sym c.deref.ensures.value i) c.args.front.now) ∙ sym c.starts_with.ensures.value ∙ c.if-not-starts_with.false in
    let t = table_of c.in-Ok.weighed.table in
    let other : (length t.rows == c.args.rows) ≡ false = ne_eqb (length t.rows) c.args.rows (λ same. c.if-len-rows.false (c.len.ensures ∙ same)) in
    sym ((λ i. if begins i then table_where c.args.rows (c.in-Ok.ensures.exact i) else None) ∙ ap (λ (b : Bool). if b then Some t else None) other)
