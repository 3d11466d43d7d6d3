use Rattle.text_columns.proofs.PlacedBuffers.{binaries_laid, bits_laid, fixed_laid, nulls_laid, texts_laid, values_laid}
use Rattle.text_columns.proofs.placing.place_values.Goals as goal

pub returns-in_ok-append_bits-in-Booleans : goal.returns-in_ok-append_bits-in-Booleans
returns-in_ok-append_bits-in-Booleans c =
    rw c.in-Booleans.is
    (bits_laid c.in-Booleans.bits c.args.bytes.now.items c.append_bits.new.bytes.items c.in_ok-append_bits-in-Booleans.field-0 (rw c.deref.ensures.value at c.in_ok-append_bits-in-Booleans.ensures))

pub returns-in_ok-append-in-Integers : goal.returns-in_ok-append-in-Integers
returns-in_ok-append-in-Integers c =
    rw c.in-Integers.is
    (values_laid c.in-Integers.field-0 c.in-Integers.field-1 c.in-Integers.values c.args.bytes.now.items c.append.new.bytes.items c.in_ok-append-in-Integers.field-0
    (rw c.deref-in-Integers.ensures.value at c.in_ok-append-in-Integers.ensures))

pub returns-in_ok-contents-in-Texts : goal.returns-in_ok-contents-in-Texts
returns-in_ok-contents-in-Texts c =
    rw c.in-Texts.is
    (texts_laid c.in-Texts.field-0 c.in-Texts.offsets c.in-Texts.contents c.args.bytes.now.items c.append-in-Texts.new.bytes.items c.append-in-Texts-2.new.bytes.items c.in_ok-offsets-in-Texts.offsets c.in_ok-contents-in-Texts.contents
    (rw c.deref-in-Texts.ensures.value at c.in_ok-offsets-in-Texts.ensures)
    (rw c.deref-in-Texts-2.ensures.value at c.in_ok-contents-in-Texts.ensures))

pub returns-in_ok-contents-in-Binaries : goal.returns-in_ok-contents-in-Binaries
returns-in_ok-contents-in-Binaries c =
    rw c.in-Binaries.is
    (binaries_laid c.in-Binaries.field-0 c.in-Binaries.offsets c.in-Binaries.contents c.args.bytes.now.items c.append-in-Binaries.new.bytes.items c.append-in-Binaries-2.new.bytes.items c.in_ok-offsets-in-Binaries.offsets
    c.in_ok-contents-in-Binaries.contents
    (rw c.deref-in-Binaries.ensures.value at c.in_ok-offsets-in-Binaries.ensures)
    (rw c.deref-in-Binaries-2.ensures.value at c.in_ok-contents-in-Binaries.ensures))

pub returns-in_ok-append-in-FixedBinaries : goal.returns-in_ok-append-in-FixedBinaries
returns-in_ok-append-in-FixedBinaries c =
    rw c.in-FixedBinaries.is
    (fixed_laid c.in-FixedBinaries.field-0 c.in-FixedBinaries.values c.args.bytes.now.items c.append-in-FixedBinaries.new.bytes.items c.in_ok-append-in-FixedBinaries.field-0
    (rw c.deref-in-FixedBinaries.ensures.value at c.in_ok-append-in-FixedBinaries.ensures))

pub returns-in-Nulls : goal.returns-in-Nulls
returns-in-Nulls c = rw c.in-Nulls.is (nulls_laid c.args.bytes.now.items)
