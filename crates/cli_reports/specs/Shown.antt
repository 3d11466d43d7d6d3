-- What of an input and of a command line may be shown on a terminal.
use Rattle.std.specs.Prelude.{ℕ, ◌&&◌, Bool, true, false, not, nat_le, length, List, Option, Some, None, if◌then◌else◌}
use Rattle.std.specs.List.{list_any}
use Rattle.std.specs.Str.{is_utf8, chars}
use Rattle.ucd_category.specs.GeneralCategory.{general_category}
use Rattle.ucd_category.specs.declared.GeneralCategory.{GeneralCategory}
use Rattle.ucd_category.specs.declared.GeneralCategory.TheVariants.{Control, Format, LineSeparator, ParagraphSeparator}
use Rattle.cli_reports.specs.declared.shown.TheConstants.{MOST_SHOWN}

-- categories whose characters may control a terminal, reverse the text after them, or are invisible (The Unicode Standard, "General Category": Cc,
-- Cf, Zl, Zp)
abbrev pub is_category_unshown : GeneralCategory → Bool
is_category_unshown Control = true
is_category_unshown Format = true
is_category_unshown LineSeparator = true
is_category_unshown ParagraphSeparator = true
is_category_unshown _ = false

unfoldable pub is_unshown : ℕ → Bool
is_unshown c = is_category_unshown (general_category c)

-- a text that is not too long, and has no such character
abbrev pub is_shown : List ℕ → Bool
is_shown t = nat_le (length t) MOST_SHOWN && is_utf8 t && not (list_any is_unshown (chars t))

abbrev pub shown : List ℕ → Option (List ℕ)
shown t = if is_shown t then Some t else None
