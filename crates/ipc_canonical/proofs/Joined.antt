-- Rows that come one list after another are read as one table.
use Rattle.std.specs.List.{AllByRecursion, flat_map}
use Rattle.std.proofs.Common.{◌≡◌, ℕ, List, [], ◌∷◌, ◌++◌, map, Ok, refl, sym, ap, subst, ◌∙◌, append_assoc}
use Rattle.std.proofs.lemmas.List.{append-nil}
use Rattle.std.proofs.lemmas.List.Concat.{flat_map-append}
use Rattle.arrow_schema.specs.Column.{PlainSchema}
use Rattle.cells.specs.Cell.{Cell, PlainTable}
use Rattle.ipc_message.specs.Header.{supported_codes}
use Rattle.ipc_write.specs.Written.{schema_message, end_of_stream}
use Rattle.table_cut.specs.CutRows.{joined}
use Rattle.table_cut.specs.Piece.{pieces_of, within_piece}
use Rattle.table_cut.specs.laws.Joined.{pieces_joined}
use Rattle.values.specs.Table.{IsTable}
use Rattle.values.specs.PlainTables.{plain_table}
use Rattle.ipc_canonical.specs.Canonical.{canonical, piece_messages, rows_messages, stream_parts}
use Rattle.ipc_canonical.specs.Pieces.{IsPieceOf}
use Rattle.ipc_stream.specs.Meaning.{meaning}
use Rattle.ipc_canonical.proofs.Pieces.{Laws, pieces_mean}

-- the pieces of each list
abbrev cut_of : PlainSchema → List (List (List Cell)) → List (List (List Cell))
cut_of s lists = flat_map (λ (rows : List (List Cell)). pieces_of (plain_table s rows)) lists

-- joined, they are the rows of all
cut_joined : (s : PlainSchema) (lists : List (List (List Cell))) → joined (cut_of s lists) ≡ joined lists
cut_joined s [] = refl
cut_joined s (rows ∷ lists) =
    flat_map-append (λ (piece : List (List Cell)). piece) (pieces_of (plain_table s rows)) (cut_of s lists)
    ∙ (λ i. pieces_joined (within_piece s) rows i ++ cut_joined s lists i)

each_more : {A : Type 0} (P : A → Type 0) (xs ys : List A) → AllByRecursion P xs → AllByRecursion P ys → AllByRecursion P (xs ++ ys)
each_more P [] ys a b = b
each_more P (x ∷ xs) ys a b = (a.0, each_more P xs ys a.1 b)

-- each is a piece, where all rows are a table
cut_pieces : ((s : PlainSchema) (a b : List (List Cell)) → IsTable (plain_table s (a ++ b)) → IsTable (plain_table s a) × IsTable (plain_table s b))
    → ((t : PlainTable) → IsTable t → AllByRecursion (IsPieceOf t.schema) (pieces_of t)) → (s : PlainSchema) (lists : List (List (List Cell))) → IsTable (plain_table s (joined lists))
    → AllByRecursion (IsPieceOf s) (cut_of s lists)
cut_pieces cut can s [] table = tt
cut_pieces cut can s (rows ∷ lists) table =
    let parts = cut s rows (joined lists) table in
    each_more (IsPieceOf s) (pieces_of (plain_table s rows)) (cut_of s lists) (can (plain_table s rows) parts.0) (cut_pieces cut can s lists parts.1)

-- their messages are those of the lists
cut_messages : (s : PlainSchema) (lists : List (List (List Cell))) → flat_map (piece_messages s) (cut_of s lists) ≡ joined (map (rows_messages s) lists)
unfolding rows_messages
cut_messages s [] = refl
cut_messages s (rows ∷ lists) =
    flat_map-append (piece_messages s) (pieces_of (plain_table s rows)) (cut_of s lists)
    ∙ ap (λ (bytes : List ℕ). flat_map (piece_messages s) (pieces_of (plain_table s rows)) ++ bytes) (cut_messages s lists)

joined_last : (parts : List (List ℕ)) (last : List ℕ) → joined (parts ++ last ∷ []) ≡ joined parts ++ last
joined_last [] last = append-nil last
joined_last (p ∷ ps) last = ap (λ (bytes : List ℕ). p ++ bytes) (joined_last ps last) ∙ sym (append_assoc p (joined ps) last)

pub parts_mean : Laws → ((t : PlainTable) → IsTable t → AllByRecursion (IsPieceOf t.schema) (pieces_of t)) → (s : PlainSchema) (lists : List (List (List Cell))) → IsTable (plain_table s (joined lists))
    → meaning supported_codes (joined (stream_parts s lists)) ≡ Ok (plain_table s (joined lists))
parts_mean law can s lists table =
    let whole = cut_joined s lists in
    let cut_table : IsTable (plain_table s (joined (cut_of s lists))) = subst (λ (rows : List (List Cell)). IsTable (plain_table s rows)) (sym whole) table in
    let bytes : joined (stream_parts s lists) ≡ schema_message s ++ (flat_map (piece_messages s) (cut_of s lists) ++ end_of_stream) =
    ap (λ (bytes : List ℕ). schema_message s ++ bytes) (joined_last (map (rows_messages s) lists) end_of_stream ∙ ap (λ (bytes : List ℕ). bytes ++ end_of_stream) (sym (cut_messages s lists))) in
    ap (meaning supported_codes) bytes ∙ pieces_mean law s (cut_of s lists) (cut_pieces law.rows.cut can s lists table) cut_table
    ∙ ap (λ (rows : List (List Cell)). Ok (plain_table s rows)) whole

-- the canonical stream is that of one list of rows
pub whole_means_its_table : ((s : PlainSchema) (lists : List (List (List Cell))) → IsTable (plain_table s (joined lists)) → meaning supported_codes (joined (stream_parts s lists)) ≡ Ok (plain_table s (joined lists)))
    → (t : PlainTable) → IsTable t → meaning supported_codes (canonical t) ≡ Ok t
unfolding canonical rows_messages
whole_means_its_table law t table =
    let all : joined (t.rows ∷ []) ≡ t.rows = append-nil t.rows in
    let is_table : IsTable (plain_table t.schema (joined (t.rows ∷ []))) = subst (λ (rows : List (List Cell)). IsTable (plain_table t.schema rows)) (sym all) table in
    ap (λ (last : List ℕ). meaning supported_codes (schema_message t.schema ++ (flat_map (piece_messages t.schema) (pieces_of t) ++ last))) (sym (append-nil end_of_stream))
    ∙ law t.schema (t.rows ∷ []) is_table ∙ ap (λ (rows : List (List Cell)). Ok (plain_table t.schema rows)) all
