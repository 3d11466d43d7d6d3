-- The tokens so far and those of the texts that are left are all tokens.
use Rattle.std.proofs.Common.{◌≡◌, ◌++◌, drop, map, string_bytes}
use Rattle.json.specs.Token.{string}
use Rattle.table_archive.proofs.manifest.write_texts.Given as goal

abbrev pub invariant-loop-text : goal.invariant-loop-text
invariant-loop-text l =
    (l.writer.tokens ++ map string (map string_bytes (drop l.text-index l.texts)) ≡ l.fn.writer.tokens ++ map string (map string_bytes l.texts))
    × (l.writer.before ≡ l.fn.writer.before)
