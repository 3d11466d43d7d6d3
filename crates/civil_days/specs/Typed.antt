-- What a text states in a column of dates or timestamps, and the text that is printed for a number of such a column.
use Rattle.std.specs.Prelude.{◌≡◌, ℕ, ◌==◌, ◌||◌, Bool, true, false, not, bytes_eq, ℤ, pos, unsigned_abs, List, [], length, codes, Option, Some, None, is_some, Result, Ok, Err, FitsSigned, if◌then◌else◌}
use Rattle.std.specs.Int.{int_div_euclid, int_rem_euclid, w32, w64}
use Rattle.arrow_schema.specs.Column.{days, date_milliseconds, TimeKind, seconds, milliseconds, microseconds, nanoseconds, Kind, dates, timestamps}
use Rattle.civil_days.specs.declared.date_column.ColumnZone.{ColumnZone}
use Rattle.civil_days.specs.declared.date_column.ColumnZone.TheVariants.{Absent, Universal, Other}
use Rattle.civil_days.specs.declared.date_column.DateColumn.{DateColumn}
use Rattle.civil_days.specs.declared.date_column.DateColumn.TheVariants.{Days, Milliseconds, Times}
use Rattle.civil_days.specs.declared.date_column.DateFault.{DateFault}
use Rattle.civil_days.specs.declared.date_column.DateFault.TheVariants.{NotADate, WrongOffset}
use Rattle.civil_days.specs.declared.read_time.ReadTime.{ReadTime}
use Rattle.civil_days.specs.declared.unit.Unit.{Unit}
use Rattle.civil_days.specs.declared.unit.Unit.TheVariants.{Second, Millisecond, Microsecond, Nanosecond}
use Rattle.civil_days.specs.declared.zone.Zone.{Zone}
use Rattle.civil_days.specs.declared.zone.Zone.TheVariants.{Unzoned, Utc, Ahead, Behind}
use Rattle.civil_days.specs.Read.{date_in, time_in}
use Rattle.civil_days.specs.Text.{text_of_day}
use Rattle.civil_days.specs.Time.{time_text}
use Rattle.civil_days.specs.TimeRead.{time_value}
use Rattle.civil_days.specs.Unit.{places_of}

abbrev pub unit_of : TimeKind → Unit
unit_of seconds = Second
unit_of milliseconds = Millisecond
unit_of microseconds = Microsecond
unit_of nanoseconds = Nanosecond

-- UTC, by its names and as an offset of nothing
abbrev pub is_utc : List ℕ → Bool
is_utc timezone =
    bytes_eq timezone (codes "UTC") || bytes_eq timezone (codes "Z") || bytes_eq timezone (codes "Etc/UTC")
    || bytes_eq timezone (codes "+00:00") || bytes_eq timezone (codes "-00:00") || bytes_eq timezone (codes "+00")

abbrev pub zone_of_column : List ℕ → ColumnZone
zone_of_column timezone = if length timezone == 0 then Absent else (if is_utc timezone then Universal else Other)

-- what the numbers of a column of this type count
abbrev pub date_column : Kind → Option DateColumn
date_column (dates days) = Some Days
date_column (dates date_milliseconds) = Some Milliseconds
date_column (timestamps unit timezone) = Some (Times (unit_of unit) (zone_of_column timezone))
date_column _ = None

-- a type of dates or timestamps
abbrev pub is_dated : Kind → Bool
is_dated kind = is_some (date_column kind)

abbrev pub is_unzoned : Zone → Bool
is_unzoned Unzoned = true
is_unzoned Utc = false
is_unzoned (Ahead m) = false
is_unzoned (Behind m) = false

-- a text with an offset is one of a column with a zone; a text without one, of a column without a zone, or of UTC
abbrev pub takes : ColumnZone → Zone → Bool
takes Absent z = is_unzoned z
takes Universal z = true
takes Other z = not (is_unzoned z)

abbrev pub stated_day : Option ℤ → Result ℤ DateFault
stated_day None = Err NotADate
stated_day (Some n) = Ok n

abbrev pub stated_time : ColumnZone → ℕ → Option ReadTime → Result ℤ DateFault
stated_time zone places None = Err NotADate
stated_time zone places (Some r) = if takes zone r.zone then Ok (time_value places r.day r.second r.units r.zone) else Err WrongOffset

-- the number that a text states in such a column; whether the type of the column holds it is another question
abbrev pub spelled_in : DateColumn → List ℕ → Result ℤ DateFault
spelled_in Days t = stated_day (date_in t)
spelled_in Milliseconds t = stated_time Absent 3 (time_in 3 t)
spelled_in (Times unit zone) t = stated_time zone (places_of unit) (time_in (places_of unit) t)

abbrev pub spelled_if : Option DateColumn → List ℕ → Result ℤ DateFault
spelled_if None t = Err NotADate
spelled_if (Some c) t = spelled_in c t

-- the number that a text states in a column of this type
abbrev pub spelled : Kind → List ℕ → Result ℤ DateFault
spelled kind t = spelled_if (date_column kind) t

abbrev pub has_zone : ColumnZone → Bool
has_zone Absent = false
has_zone Universal = true
has_zone Other = true

-- the text of a number in such a column: of a number of milliseconds that is a midnight, its day
abbrev pub shown_in : DateColumn → ℤ → List ℕ
shown_in Days n = text_of_day n
shown_in Milliseconds n =
    if unsigned_abs (int_rem_euclid n (pos 86_400_000)) == 0 then text_of_day (int_div_euclid n (pos 86_400_000)) else time_text 3 false n
shown_in (Times unit zone) n = time_text (places_of unit) (has_zone zone) n

abbrev pub shown_if : Option DateColumn → ℤ → List ℕ
shown_if None n = []
shown_if (Some c) n = shown_in c n

-- the text of a number in a column of this type
abbrev pub shown : Kind → ℤ → List ℕ
shown kind n = shown_if (date_column kind) n

-- such a column holds the number: in 32 bits days, in 64 bits other numbers
abbrev pub Holds : DateColumn → ℤ → Type 0
Holds Days n = FitsSigned w32 n
Holds Milliseconds n = FitsSigned w64 n
Holds (Times unit zone) n = FitsSigned w64 n

-- each number reads back from its text
abbrev pub ShownReadsBack : Type 0
ShownReadsBack = (c : DateColumn) (n : ℤ) → Holds c n → spelled_in c (shown_in c n) ≡ Ok n
