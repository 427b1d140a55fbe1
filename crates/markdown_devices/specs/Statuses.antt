-- The statuses of the program, and which fault may come for which words.
use Rattle.std.specs.Prelude.{◌≡◌, ◌⊎◌, ⊤, ℕ, Bool, true, false, List, [], Some}
use Rattle.std.specs.declared.io.Error.{Error}
use Rattle.std.specs.declared.io.ErrorKind.{ErrorKind}
use Rattle.std.specs.declared.io.ErrorKind.TheVariants.{OutOfMemory}
use Rattle.clap.specs.Words.{Kinds}
use Rattle.markdown_settings.specs.Settings.{HasFault}
use Rattle.markdown_tables.specs.declared.rows_error.RowsError.TheVariants as rows
use Rattle.markdown_tables.specs.RowsFaults.{text_fault}
use Rattle.markdown_devices.specs.declared.fault.Fault.{Fault}
use Rattle.markdown_devices.specs.declared.fault.Fault.TheVariants.{Words, References, Rows, Run}
use Rattle.markdown_devices.specs.declared.run_error.RunError.TheVariants.{Memory, Read}
use Rattle.markdown_devices.specs.Faults.{is_write_error}

-- 2 for words that are no command line, and 1 for every other fault
abbrev pub status_of : Fault → ℕ
status_of Words = 2
status_of fault = 1

-- the writer failed
abbrev pub is_write_fault : Fault → Bool
is_write_fault (Run e) = is_write_error e
is_write_fault fault = false

-- where the words can't be had: memory was refused, or they are no command line
abbrev pub unread_fault : ErrorKind → Fault
unread_fault OutOfMemory = Run Memory
unread_fault kind = Words

-- where the file of references can't be read
abbrev pub references_fault : ErrorKind → Fault
references_fault OutOfMemory = Run Memory
references_fault kind = References

-- where the file to read can't be opened
abbrev pub unopened_fault : ErrorKind → Error → Fault
unopened_fault OutOfMemory error = Run Memory
unopened_fault kind error = Run (Read error)

-- rows are at fault only where this text of rows is, and with its first fault
abbrev pub MayComeOfRows : Fault → List ℕ → Type 0
MayComeOfRows (Rows e) text = (e ≡ rows.Memory) ⊎ (text_fault text ≡ Some e)
MayComeOfRows fault text = ⊤

-- which fault may come, by what the command finds wrong with the words: wrong words are one of their own, for lack of memory any words may fail, and
-- any other fault is one of a page, or of a writer that the help or the version could not be written to
abbrev pub MayComeOf : Kinds → Fault → Type 0
MayComeOf kinds Words = HasFault kinds false
MayComeOf kinds (Run Memory) = ⊤
MayComeOf kinds fault = (kinds ≡ []) ⊎ (HasFault kinds true × (is_write_fault fault ≡ true))
