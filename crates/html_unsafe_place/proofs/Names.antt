-- The names of tags are those of both tables.
use Rattle.std.proofs.Common.{◌≡◌, List, true, ◌++◌, refl}
use Rattle.std.specs.List.{list_any, list_all}
use Rattle.std.specs.Str.{bytes_eq}
use Rattle.html_safe_page.specs.declared.table.TagTable.{TagTable}
use Rattle.html_safe_page.specs.declared.table.TagTable.TheVariants.{Basic, Extended}
use Rattle.html_safe_page.specs.Table.{Row, start_rows, start_rows_of, more_start_rows, void_rows, void_rows_of, more_void_rows}
use Rattle.html_unsafe_place.specs.What.{is_tag_name, tag_names}

abbrev rows_of : TagTable → List Row
rows_of table = start_rows_of table ++ void_rows_of table

rows_named : (table : TagTable) → list_all (λ (row : Row). is_tag_name row.name) (rows_of table) ≡ true
unfolding start_rows more_start_rows void_rows more_void_rows tag_names
rows_named Basic = refl
rows_named Extended = refl

names_in_rows : (table : TagTable) → list_all (λ name. list_any (λ (row : Row). bytes_eq row.name name) (rows_of table)) tag_names ≡ true
unfolding start_rows more_start_rows void_rows more_void_rows tag_names
names_in_rows Basic = refl
names_in_rows Extended = refl
