-- The plain header that a header of the code stands for.
use Rattle.std.specs.Prelude.{map, option_map}
use Rattle.ipc_message.specs.declared.raw_header.Parameters.{Parameters}
use Rattle.ipc_message.specs.declared.raw_header.Parameters.TheVariants.{Nothing, Integer, ByteWidth, ListSize, DateUnit, Timestamp}
use Rattle.ipc_message.specs.declared.raw_header.Encoding.{Encoding}
use Rattle.ipc_message.specs.declared.raw_header.KeyValue.{KeyValue}
use Rattle.ipc_message.specs.declared.raw_header.RawField.{RawField}
use Rattle.ipc_message.specs.declared.raw_header.RawField.TheOpen.{RawField-F}
use Rattle.ipc_message.specs.declared.raw_header.RawField.TheFolds.{fold-RawField}
use Rattle.ipc_message.specs.declared.raw_header.RawSchema.{RawSchema}
use Rattle.ipc_message.specs.declared.raw_header.RawBatch.{RawBatch}
use Rattle.ipc_message.specs.declared.raw_header.RawDictionaryBatch.{RawDictionaryBatch}
use Rattle.ipc_message.specs.declared.raw_header.Header.{Header}
use Rattle.ipc_message.specs.declared.raw_header.Header.TheVariants as headers
use Rattle.arrow_schema.specs.Column.{Pair}
use Rattle.ipc_message.specs.Raw.{RawParameters, no_parameters, integer_parameters, byte_width, list_size, date_unit, timestamp_parameters, RawEncoding, raw_field, raw_fields_of, RawHeader, nodes_in, buffers_in, schema_header, dictionary_header, batch_header}
use Rattle.ipc_message.specs.Raw as raw

abbrev pub parameters_of : Parameters → RawParameters
parameters_of Nothing = no_parameters
parameters_of (Integer width signed) = integer_parameters width signed
parameters_of (ByteWidth n) = byte_width n
parameters_of (ListSize n) = list_size n
parameters_of (DateUnit n) = date_unit n
parameters_of (Timestamp unit timezone) = timestamp_parameters unit timezone.now

abbrev pub encoding_of : Encoding → RawEncoding
encoding_of e = record { id = e.id; width = e.width; signed = e.signed; kind = e.kind }

abbrev pub key_value : KeyValue → Pair
key_value p = (p.key.now, p.value.now)

abbrev pub raw_field_step : RawField-F raw.RawField → raw.RawField
raw_field_step f = raw_field f.name.now f.nullable f.code (parameters_of f.parameters) (option_map encoding_of f.dictionary) (raw_fields_of f.children.items) (map key_value f.pairs.items)

abbrev pub raw_field_of : RawField → raw.RawField
raw_field_of = fold-RawField raw.RawField raw_field_step

abbrev pub raw_schema_of : RawSchema → raw.RawSchema
raw_schema_of s = record { endianness = s.endianness; fields = map raw_field_of s.fields.items; pairs = map key_value s.pairs.items }

abbrev pub raw_batch_of : RawBatch → raw.RawBatch
raw_batch_of b = record { length = b.length; nodes = nodes_in b.nodes.now; buffers = buffers_in b.buffers.now; compressed = b.compressed }

abbrev pub raw_dictionary_of : RawDictionaryBatch → raw.RawDictionaryBatch
raw_dictionary_of d = record { id = d.id; batch = raw_batch_of d.batch; is_delta = d.is_delta }

abbrev pub raw_header_of : Header → RawHeader
raw_header_of (headers.Schema s) = schema_header (raw_schema_of s)
raw_header_of (headers.DictionaryBatch d) = dictionary_header (raw_dictionary_of d)
raw_header_of (headers.RecordBatch b) = batch_header (raw_batch_of b)
