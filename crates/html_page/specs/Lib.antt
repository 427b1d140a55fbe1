pub mod PrinterView
