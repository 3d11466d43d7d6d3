-- What is reported of a file that can't be used.
use Rattle.std.specs.Prelude.{ℕ, ◌==◌, ◌++◌, ◌+◌, ◌*◌, decimal, List, codes, string_bytes, if◌then◌else◌}
use Rattle.cli_reports.specs.declared.failed_file.FailedFile.{FailedFile}
use Rattle.cli_reports.specs.declared.failed_file.FileReason.{FileReason}
use Rattle.cli_reports.specs.declared.failed_file.OtherLength.{OtherLength}
use Rattle.cli_reports.specs.declared.failed_file.FileReason.TheVariants as reasons
use Rattle.cli_reports.specs.declared.refusal.Refusal.{Refusal}
use Rattle.cli_reports.specs.declared.refusal.Refusal.TheVariants.{Io}
use Rattle.cli_reports.specs.declared.remedies.TheConstants as remedies
use Rattle.cli_reports.specs.Remedies.{remedy}

abbrev pub path_of : FailedFile → List ℕ
path_of file = string_bytes file.path

abbrev pub reason_of : FailedFile → FileReason
reason_of file = file.reason

-- the length of a file, and the one that its store needs
unfoldable pub other_length_text : OtherLength → List ℕ
other_length_text other =
    codes "has " ++ decimal other.bytes ++ codes " bytes, but its store was made with " ++ decimal other.sectors ++ codes " sectors ("
    ++ decimal (other.sectors * 512) ++ codes " bytes)"

abbrev pub reason_text : FileReason → List ℕ
reason_text reasons.Locked = codes "is locked by another program"
reason_text reasons.Exists = codes "exists already"
reason_text reasons.NamedWithReturn = codes "is named with a carriage return at its end: `tr -d '\\r'` removes those of the script"
reason_text reasons.Empty = codes "is empty"
reason_text reasons.Folder = codes "is a folder"
reason_text reasons.NotRegular = codes "is not a regular file"
reason_text (reasons.Length bytes) = codes "has " ++ decimal bytes ++ codes " bytes"
reason_text (reasons.OtherLength other) = other_length_text other
reason_text (reasons.DeviceSize sectors) = codes "is a block device of " ++ decimal sectors ++ codes " sectors of 512 bytes"
reason_text reasons.NotBlank = codes "is a block device whose first 2048 sectors are not all zeros"
reason_text (reasons.LaterVersion version) = codes "is a store of version " ++ decimal version ++ codes ", which this program does not know"
reason_text (reasons.Unopened text) = codes "cannot be opened: " ++ string_bytes text
reason_text (reasons.Unmade text) = codes "cannot be made: " ++ string_bytes text
reason_text (reasons.Unread text) = codes "cannot be read: " ++ string_bytes text
reason_text (reasons.Unwritten text) = codes "cannot be written: " ++ string_bytes text
reason_text (reasons.Unsynced text) = codes "cannot be synced: " ++ string_bytes text
reason_text (reasons.NewUnwritten text) = codes "cannot be written: " ++ string_bytes text
reason_text (reasons.NewUnsynced text) = codes "cannot be synced: " ++ string_bytes text

-- what to do about a file of another length than its store: one byte more is left by a copy that was interrupted, whose file lacks tables
abbrev pub length_remedy : OtherLength → List ℕ
length_remedy other = if other.bytes == other.sectors * 512 + 1 then remedies.UNFINISHED_COPY.now else remedies.LENGTH_OF_THE_STORE.now

-- what to do about a file that can't be read
abbrev pub unread_remedy : Refusal → List ℕ
unread_remedy (Io side) = remedies.READABLE_FILE.now
unread_remedy refusal = remedy refusal

-- what to do about a file that can't be written or synced
abbrev pub unwritten_remedy : Refusal → List ℕ
unwritten_remedy (Io side) = remedies.ROOM_ON_THE_DISK.now
unwritten_remedy refusal = remedy refusal

-- what to do about a refusal for this reason
abbrev pub reason_remedy : FileReason → Refusal → List ℕ
reason_remedy reasons.Locked refusal = remedies.WAIT.now
reason_remedy reasons.Exists refusal = remedies.NEW_PATH.now
reason_remedy reasons.NamedWithReturn refusal = remedies.PATH_AND_RIGHTS.now
reason_remedy reasons.Empty refusal = remedy refusal
reason_remedy reasons.Folder refusal = remedies.NO_FOLDER.now
reason_remedy reasons.NotRegular refusal = remedies.NO_FOLDER.now
reason_remedy (reasons.Length bytes) refusal = remedies.FILE_OF_A_STORE.now
reason_remedy (reasons.OtherLength other) refusal = length_remedy other
reason_remedy (reasons.DeviceSize sectors) refusal = remedies.SIZE_OF_THE_DEVICE.now
reason_remedy reasons.NotBlank refusal = remedies.BLANK_DEVICE.now
reason_remedy (reasons.LaterVersion version) refusal = remedies.LATER_PROGRAM.now
reason_remedy (reasons.Unopened text) refusal = remedies.PATH_AND_RIGHTS.now
reason_remedy (reasons.Unmade text) refusal = remedies.FOLDER_OF_A_NEW_FILE.now
reason_remedy (reasons.Unread text) refusal = unread_remedy refusal
reason_remedy (reasons.Unwritten text) refusal = unwritten_remedy refusal
reason_remedy (reasons.Unsynced text) refusal = unwritten_remedy refusal
reason_remedy (reasons.NewUnwritten text) refusal = remedies.ROOM_FOR_THE_NEW_FILE.now
reason_remedy (reasons.NewUnsynced text) refusal = remedies.ROOM_FOR_THE_NEW_FILE.now
