-- Names of the list, as the code finds them.
use Rattle.std.specs.Prelude.{ℕ, if◌then◌else◌, List, Option, None, Some}
use Rattle.definition_text.specs.Bytes.{lower}
use Rattle.definition_html.specs.Listing.{is_in, is_listed, part_row}
use Rattle.definition_html.specs.Listing as listing
use Rattle.html_safe_page.specs.Views.{names_of}
use Rattle.html_sanitizer.specs.declared.listing.PartRow.{PartRow}

-- a written name in lower case, if it is one of these
abbrev pub found_name : List (List ℕ) → List ℕ → Option (List ℕ)
found_name names written = if is_in names (lower written) then Some (lower written) else None

-- a written name in lower case, if the list has it
abbrev pub listed_name : List ℕ → Option (List ℕ)
listed_name written = if is_listed (lower written) then Some (lower written) else None

-- a row of parts
abbrev pub row_of : PartRow → listing.PartRow
row_of row = part_row (names_of row.names.now) (names_of row.parents.now)
