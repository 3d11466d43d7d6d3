use Rattle.std.proofs.Common.{◌≡◌, ◌∙◌, ◌+◌, ◌&&◌, true, drop, get_or, sym}
use Rattle.std.specs.List.{list_all}
use Rattle.std.proofs.lemmas.List.{drop_more}
use Rattle.field_texts.specs.Typed.{is_name_byte}
use Rattle.field_texts.proofs.scan.is_name.Goals as goal

pub loop-byte-preserved : goal.loop-byte-preserved
loop-byte-preserved c =
    let bytes = c.as_bytes-byte-items.result.now in
    let i = c.loop-byte.byte-index in
    let here : is_name_byte (get_or bytes i 0) ≡ true = sym c.is_name_byte.ensures ∙ c.if-not-is_name_byte.false in
    let left : (is_name_byte (get_or bytes i 0) && list_all is_name_byte (drop (i + 1) bytes)) ≡ list_all is_name_byte c.args.text.now = rw (drop_more bytes i 0 c.loop-byte-test.true) at c.loop-byte.invariant in
    rw here at left
