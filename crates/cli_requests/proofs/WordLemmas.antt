-- What the words of a command line are, where they name a command of a store.
use Rattle.std.proofs.Common.{◌≡◌, ◌∙◌, Bool, true, false, ◌||◌, List, [], ◌∷◌, codes, refl, sym, true≢false}
use Rattle.std.specs.Str.{bytes_eq}
use Rattle.std.proofs.lemmas.Bool.{or_parts}
use Rattle.std.proofs.lemmas.Slice.Eq.{bytes_eq-Decides}
use Rattle.std.proofs.Math.Bool.{or-false}
use Rattle.clap.specs.Words.{Text}
use Rattle.cli_requests.specs.StoreWords.{is_of_store, is_store_word, has_own_request, changes_word, makes_word, reads_word, changes_by_input_word, reads_table_word, reads_tables_word, first_word}

pub first_of_store : (arguments : List Text) → is_of_store arguments ≡ true → is_store_word (first_word arguments) ≡ true
unfolding is_of_store first_word
first_of_store [] is = absurd (true≢false (sym is))
first_of_store (name ∷ []) is = absurd (true≢false (sym is))
first_of_store (name ∷ word ∷ rest) is = is

other_false : (other word : Text) (b : Bool) → bytes_eq other word ≡ b → (word ≡ other → ⊥) → b ≡ false
other_false other word true e differs = absurd (differs (sym ((bytes_eq-Decides other word).0 e)))
other_false other word false e differs = refl

pub other_word : (other word : Text) → (word ≡ other → ⊥) → bytes_eq other word ≡ false
other_word other word differs = other_false other word (bytes_eq other word) refl differs

-- a word that has no request of its own
pub no_own_request : (word : Text) → bytes_eq (codes "format") word ≡ false → bytes_eq (codes "copy") word ≡ false → bytes_eq (codes "salvage") word ≡ false
    → bytes_eq (codes "replay") word ≡ false → bytes_eq (codes "apply") word ≡ false → bytes_eq (codes "send") word ≡ false
    → bytes_eq (codes "receive") word ≡ false → has_own_request word ≡ false
unfolding has_own_request makes_word
no_own_request word format copy salvage replay apply send receive = rw (format, copy, salvage, replay, apply, send, receive) refl

-- a word that is none of the others
pub last_word : (word : Text) → is_store_word word ≡ true → has_own_request word ≡ false → bytes_eq (codes "import") word ≡ false → bytes_eq (codes "append") word ≡ false
    → bytes_eq (codes "create") word ≡ false → bytes_eq (codes "rename") word ≡ false → bytes_eq (codes "drop") word ≡ false → bytes_eq (codes "schema") word ≡ false
    → bytes_eq (codes "export") word ≡ false → bytes_eq (codes "query") word ≡ false → bytes_eq (codes "check") word ≡ false → bytes_eq (codes "info") word ≡ false
    → bytes_eq (codes "compact") word ≡ false → bytes_eq (codes "upgrade") word ≡ false → bytes_eq (codes "have") word ≡ false → codes "tables" ≡ word
unfolding is_store_word has_own_request changes_word makes_word reads_word changes_by_input_word reads_table_word reads_tables_word
last_word word is own import append create rename drop schema export query check info compact upgrade have =
    let apart = or_parts (makes_word word) (bytes_eq (codes "salvage") word || (bytes_eq (codes "replay") word || (bytes_eq (codes "apply") word
    || (bytes_eq (codes "send") word || bytes_eq (codes "receive") word)))) own in
    let others = or_parts (bytes_eq (codes "salvage") word) (bytes_eq (codes "replay") word || (bytes_eq (codes "apply") word
    || (bytes_eq (codes "send") word || bytes_eq (codes "receive") word))) apart.1 in
    let scripts = or_parts (bytes_eq (codes "replay") word) (bytes_eq (codes "apply") word || (bytes_eq (codes "send") word || bytes_eq (codes "receive") word)) others.1 in
    let listed = or_parts (bytes_eq (codes "apply") word) (bytes_eq (codes "send") word || bytes_eq (codes "receive") word) scripts.1 in
    let archives = or_parts (bytes_eq (codes "send") word) (bytes_eq (codes "receive") word) listed.1 in
    (bytes_eq-Decides (codes "tables") word).0
    (sym (rw (import, append, listed.0, archives.1, create, rename, drop, compact, upgrade, apart.0, scripts.0, schema, export, others.0, query, check, info, have, archives.0)
    (or-false (bytes_eq (codes "tables") word))) ∙ is)
