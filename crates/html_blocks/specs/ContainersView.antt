-- What was printed, and what is open.
use Rattle.std.specs.Prelude.{reverse}
use Rattle.html_bytes.specs.Layout.{LayoutState}
use Rattle.html_leaves.specs.declared.page.Page.{Page}
use Rattle.html_leaves.specs.Prints.{page_view}
use Rattle.html_rows.specs.Printing.{PrinterView, printer_at}
use Rattle.html_blocks.specs.declared.container.Containers.{Containers}

-- with this laid out
abbrev pub containers_at : {A : Type 0} → LayoutState → Containers A → PrinterView
containers_at out c = printer_at out c.level (reverse c.outer.items) (reverse c.places.items)

-- with what was laid out of a page
abbrev pub containers_view : {A B : Type 0} → Page A → Containers B → PrinterView
containers_view page c = containers_at (page_view page) c
