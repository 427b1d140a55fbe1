-- The words of each error, and the line that the program prints for a fault.
use Rattle.std.specs.Prelude.{ℕ, List, [], ◌++◌, Option, None, Some, codes, decimal}
use Rattle.std.specs.Option.{option_map_or}
use Rattle.markdown_tables.specs.declared.rows_error.RowsError.{RowsError}
use Rattle.markdown_tables.specs.declared.rows_error.RowsError.TheVariants as rows
use Rattle.markdown_devices.specs.declared.fault.Fault.{Fault}
use Rattle.markdown_devices.specs.declared.fault.Fault.TheVariants.{Words, References, Rows, Run}
use Rattle.markdown_devices.specs.declared.run_error.RunError.{RunError}
use Rattle.markdown_devices.specs.declared.run_error.RunError.TheVariants.{Size, Utf8, Memory, Read, Write, Stopped}

abbrev pub run_words : RunError → List ℕ
run_words Size = codes "input is too large"
run_words Utf8 = codes "input is not UTF-8"
run_words Memory = codes "out of memory"
run_words (Read e) = codes "cannot read"
run_words (Write e) = codes "cannot write"
run_words Stopped = codes "cannot write"

abbrev pub rows_words : RowsError → List ℕ
rows_words (rows.Syntax line) = codes "references line "
rows_words (rows.Repeated line) = codes "references line "
rows_words rows.Memory = codes "out of memory"

-- the line of the references file that is at fault
abbrev pub rows_line : RowsError → Option ℕ
rows_line (rows.Syntax line) = Some line
rows_line (rows.Repeated line) = Some line
rows_line rows.Memory = None

-- the words of a fault, without the number of a line
abbrev pub fault_words : Fault → List ℕ
fault_words Words = codes "wrong command line"
fault_words References = codes "cannot read references"
fault_words (Rows e) = rows_words e
fault_words (Run e) = run_words e

abbrev pub fault_line : Fault → Option ℕ
fault_line (Rows e) = rows_line e
fault_line fault = None

-- the line that is printed for a fault, as `markdown: references line 3`
abbrev pub complaint : Fault → List ℕ
complaint fault =
    codes "markdown: " ++ (fault_words fault ++ (option_map_or decimal (fault_line fault) [] ++ codes "\n"))
