-- Pages that only the extended table has, and others that neither has.
use Rattle.std.proofs.Common.{◌≡◌, ℕ, List, Bool, true, false, codes, refl}
use Rattle.std.specs.Option.{is_some}
use Rattle.definition_page.specs.Urls.{href_protocols}
use Rattle.html_safe_page.specs.Table.{start_rows, more_start_rows, void_rows, more_void_rows}
use Rattle.html_safe_page.specs.declared.table.TagTable.{TagTable}
use Rattle.html_safe_page.specs.declared.table.TagTable.TheVariants.{Basic, Extended}
use Rattle.html_safe_page.specs.Reader.{read_page}

abbrev is_page : TagTable → List ℕ → Bool
is_page table page = is_some (read_page table page)

record IsOnlyExtended (page : List ℕ) : Type 0 where
  basic : is_page Basic page ≡ false
  extended : is_page Extended page ≡ true

heading : IsOnlyExtended (codes "<h2 id=\"b\">c</h2>")
unfolding start_rows more_start_rows void_rows more_void_rows
heading = record { basic = refl; extended = refl }

link : IsOnlyExtended (codes "<a href=\"b\" title=\"c\" rel=\"nofollow\">d</a>")
unfolding start_rows more_start_rows void_rows more_void_rows
link = record { basic = refl; extended = refl }

image : IsOnlyExtended (codes "<img src=\"b\" alt=\"c\" loading=\"lazy\" />")
unfolding start_rows more_start_rows void_rows more_void_rows
image = record { basic = refl; extended = refl }

no_heading_class : is_page Extended (codes "<h3 id=\"b\" class=\"c\">d</h3>") ≡ false
unfolding start_rows more_start_rows void_rows more_void_rows
no_heading_class = refl

no_eager_image : is_page Extended (codes "<img src=\"b\" alt=\"c\" loading=\"eager\" />") ≡ false
unfolding start_rows more_start_rows void_rows more_void_rows
no_eager_image = refl

no_script_link : is_page Extended (codes "<a href=\"javascript:b\" rel=\"nofollow\">c</a>") ≡ false
unfolding href_protocols start_rows more_start_rows void_rows more_void_rows
no_script_link = refl
