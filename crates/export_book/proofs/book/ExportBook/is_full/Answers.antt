use Rattle.std.proofs.Common.{◌<◌, map, length, arith}
use Rattle.std.proofs.lemmas.List.{length-map}
use Rattle.export_book.specs.declared.book.TheConstants.{MAX_EXPORTS}
use Rattle.export_book.specs.Plain.{plain_export}
use Rattle.export_book.proofs.Books.{full_else}
use Rattle.export_book.proofs.book.ExportBook.is_full.Goals as goal

pub returns-else-len-ge-MAX_EXPORTS-clause-full : goal.returns-else-len-ge-MAX_EXPORTS-clause-full
returns-else-len-ge-MAX_EXPORTS-clause-full c =
    let s = c.args.self.now in
    let few : length (map plain_export s.exports.items) < MAX_EXPORTS = omega (arith, c.if-len-ge-MAX_EXPORTS.false, c.len.ensures, s.exports.ok.0, length-map s.exports.items plain_export) in
    full_else (length (map plain_export s.exports.items)) s.next c.is_none.result s.counted few c.is_none.ensures
