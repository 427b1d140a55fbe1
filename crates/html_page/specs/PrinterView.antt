-- What a printer has printed.
use Rattle.html_blocks.specs.ContainersView.{containers_view}
use Rattle.html_rows.specs.Printing.{PrinterView}
use Rattle.html_page.specs.declared.printer.Printer.{Printer}

abbrev pub printer_view : {A : Type 0} → Printer A → PrinterView
printer_view p = containers_view p.leaves.page p.containers
