-- The page of refusals.
use Rattle.std.specs.Prelude.{ℕ, ◌++◌, List, flat_map}
use Rattle.cli_reports.specs.declared.page.TheConstants.{FILE_REFUSALS, TABLE_REFUSALS}

-- what each refusal of a stream, a file, a store or a field text means, and what to do about it
unfoldable pub file_refusals : List ℕ
file_refusals = flat_map (λ piece. piece.now) FILE_REFUSALS

-- the same of a text, a query and an open store
unfoldable pub table_refusals : List ℕ
table_refusals = flat_map (λ piece. piece.now) TABLE_REFUSALS

-- what each refusal means, and what to do about it
unfoldable pub refusals_page : List ℕ
refusals_page = file_refusals ++ table_refusals
