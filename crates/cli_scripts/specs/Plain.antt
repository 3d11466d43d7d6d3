-- The words and lines of a script, wherever they lie in memory.
use Rattle.std.specs.Prelude.{ℕ, List, map, Option, option_map, string_bytes, String}
use Rattle.std.specs.Global.{Global, Vec}
use Rattle.std.specs.Option.{option_copied}
use Rattle.facts.specs.Texts.{text_list}
use Rattle.cli_scripts.specs.declared.line.SavedRows.{SavedRows}
use Rattle.cli_scripts.specs.declared.line.ScriptLine.{ScriptLine}
use Rattle.cli_scripts.specs.declared.line.ScriptLine.TheVariants.{Create, Import, Append, AppendText, Save, Rename, Drop, Compact, Upgrade, Reopen, Begin, Commit}
use Rattle.cli_scripts.specs.Script.{PlainRows, PlainLine, create, import_file, append_file, append_text, save, rename, drop, compact, upgrade, reopen, begin_list, commit_list}
use Rattle.text_import.specs.FieldForm.{field_form}
use Rattle.text_import.specs.declared.form.TextForm.{TextForm}
use Rattle.text_import.specs.declared.form.TextForm.TheVariants.{Csv, JsonLines}
use Rattle.cli_scripts.specs.Appending.{PlainForm, csv, json_lines, PlainOptions}
use Rattle.cli_scripts.specs.declared.append_options.AppendOptions.{AppendOptions}
use Rattle.cli_scripts.specs.Items.{PlainList, PlainItem, PlainGrouping, one, listed}
use Rattle.cli_scripts.specs.declared.items.ScriptList.{ScriptList}
use Rattle.cli_scripts.specs.declared.items.ScriptItem.{ScriptItem}
use Rattle.cli_scripts.specs.declared.items.ScriptItem.TheVariants as items
use Rattle.cli_scripts.specs.declared.items.Grouping.{Grouping}

abbrev pub plain_words : Option (Vec (String Global)) → Option (List (List ℕ))
plain_words words = option_map (λ v. map string_bytes v.items) words

abbrev pub plain_rows : SavedRows → PlainRows
plain_rows rows = record { columns = option_copied rows.columns; limit = rows.limit; conditions = text_list rows.conditions.items }

abbrev pub plain_options : AppendOptions → PlainOptions
plain_options options =
    record { form = option_copied options.form; null_text = option_copied options.null_text; dates = option_copied options.dates }

abbrev pub plain_form : TextForm → PlainForm
plain_form (Csv form) = csv (field_form form)
plain_form (JsonLines dates) = json_lines dates

abbrev pub plain_line : ScriptLine → PlainLine
plain_line (Create name fields) = create name.now (text_list fields.items)
plain_line (Import name file is_complete) = import_file name.now file.now is_complete
plain_line (Append name file is_complete) = append_file name.now file.now is_complete
plain_line (AppendText name file form) = append_text name.now file.now (plain_form form)
plain_line (Save from to rows) = save from.now to.now (plain_rows rows)
plain_line (Rename from to) = rename from.now to.now
plain_line (Drop name) = drop name.now
plain_line Compact = compact
plain_line Upgrade = upgrade
plain_line Reopen = reopen
plain_line Begin = begin_list
plain_line Commit = commit_list

abbrev pub plain_lines : List ScriptLine → List PlainLine
plain_lines lines = map plain_line lines

abbrev pub plain_list : ScriptList → PlainList
plain_list list = record { number = list.number; lines = plain_lines list.lines.items }

abbrev pub plain_item : ScriptItem → PlainItem
plain_item (items.Line number line) = one number (plain_line line)
plain_item (items.List list) = listed (plain_list list)

abbrev pub plain_items : List ScriptItem → List PlainItem
plain_items items = map plain_item items

abbrev pub plain_grouping : Grouping → PlainGrouping
plain_grouping grouping = record { items = plain_items grouping.items.items; list = option_map plain_list grouping.list }
