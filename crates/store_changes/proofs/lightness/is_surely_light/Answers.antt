use Rattle.std.proofs.Common.{◌≡◌, ◌+◌, ◌*◌, ◌≤◌, ℕ, Some, subst}
use Rattle.arrow_schema.specs.Column.{PlainSchema}
use Rattle.arrow_schema.specs.View.{schema_of}
use Rattle.cells.specs.declared.limits.TheConstants.{MAX_TABLE_WEIGHT}
use Rattle.catalogue.specs.Entries.{plain_entry, row_count}
use Rattle.catalogue.specs.laws.Kept.{entry_is}
use Rattle.weight_bounds.specs.Bound.{row_more_in_eight, most_in_eight}
use Rattle.store_changes.proofs.SurelyLight.{surely_light, StreamLaws, byte_count}
use Rattle.store_changes.proofs.lightness.is_surely_light.Goals as goal

pub returns : goal.returns
returns c = λ is rows weighs.
    let e = plain_entry c.args.entry.now in
    let s = schema_of c.schema.result.now in
    let found = c.stays_light.ensures is in
    let within = (entry_is e c.requires.sound).schema in
    let law = c.schema_message_is_read_again.ensures in
    let laws : StreamLaws = record { most = c.streams_weigh_at_most.ensures; next_message = law.next_message; header = law.header; decoded = law.decoded } in
    let count : c.args.rows ≡ row_count e = c.requires.rows in
    let bytes : c.args.bytes ≡ byte_count e.segments = c.requires.bytes in
    let bounded : row_more_in_eight e.schema ≡ Some found.0 = subst (λ (x : PlainSchema). row_more_in_eight x ≡ Some found.0) c.schema.ensures found.1 in
    let counted : most_in_eight s found.0 (row_count e) c.args.bytes + 8 * c.args.new ≤ 8 * MAX_TABLE_WEIGHT
    = subst (λ (n : ℕ). most_in_eight s found.0 n c.args.bytes + 8 * c.args.new ≤ 8 * MAX_TABLE_WEIGHT) count found.2 in
    let sized : most_in_eight s found.0 (row_count e) (byte_count e.segments) + 8 * c.args.new ≤ 8 * MAX_TABLE_WEIGHT
    = subst (λ (n : ℕ). most_in_eight s found.0 (row_count e) n + 8 * c.args.new ≤ 8 * MAX_TABLE_WEIGHT) bytes counted in
    let light : most_in_eight e.schema found.0 (row_count e) (byte_count e.segments) + 8 * c.args.new ≤ 8 * MAX_TABLE_WEIGHT
    = subst (λ (x : PlainSchema). most_in_eight x found.0 (row_count e) (byte_count e.segments) + 8 * c.args.new ≤ 8 * MAX_TABLE_WEIGHT) c.schema.ensures sized in
    surely_light laws e rows found.0 c.args.new within bounded weighs light
