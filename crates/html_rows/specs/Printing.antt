-- A page, printed row by row.
use Rattle.std.specs.Prelude.{ℕ, Bool, true, false, not, List, [], ◌∷◌, ◌++◌, Option, codes}
use Rattle.std.specs.List.{fold}
use Rattle.html_bytes.specs.Document.{Document}
use Rattle.html_bytes.specs.Pieces.{Piece, Bytes, Eol, Fresh, print}
use Rattle.html_bytes.specs.Layout.{LayoutState, with_footnotes, lay, nothing_laid, with_text}
use Rattle.definition_page.specs.Read.{is_blank_ending}
use Rattle.html_bytes.specs.Html.{number_tag, number_end, fresh_unless, last_piece}
use Rattle.block_rows.specs.Rows.{BlockRow, Single, EnterQuote, EnterItem, EnterFootnote, Exit}
use Rattle.html_looseness.specs.declared.loose.Place.{Place}
use Rattle.html_looseness.specs.declared.level.Level.{Level}
use Rattle.html_looseness.specs.declared.level.Holder.{Holder}
use Rattle.html_looseness.specs.declared.level.Holder.TheVariants as holder
use Rattle.html_looseness.specs.Loose.{places_of}
use Rattle.html_leaves.specs.Prints.{footnote_text_started, footnote_text_left}
use Rattle.html_looseness.specs.Levels.{is_list, new_level, after_block, after_footnote, level_after, row_pieces}

-- a page, the level that is open, the levels around it, and the places of the items to come
pub record PrinterView : Type 0 where
  pub out : LayoutState
  pub level : Level
  pub outer : List Level
  pub places : List Place

abbrev pub printer_at : LayoutState → Level → List Level → List Place → PrinterView
printer_at out level outer places = record { out = out; level = level; outer = outer; places = places }

abbrev pub no_place : Place
no_place = record { loose = false; goes_on = false }

abbrev pub first_place : List Place → Place
first_place [] = no_place
first_place (place ∷ others) = place

abbrev pub other_places : List Place → List Place
other_places [] = []
other_places (place ∷ others) = others

-- in and out of a container or a list, with the level around it as it is afterwards
abbrev pub within_at : Level → Holder → Bool → PrinterView → PrinterView
within_at around k tight p = printer_at p.out (new_level k tight) (around ∷ p.outer) p.places

abbrev pub within : Holder → Bool → PrinterView → PrinterView
within k tight p = within_at (after_block p.level) k tight p

abbrev pub outside_to : List Level → PrinterView → PrinterView
outside_to [] p = printer_at p.out p.level [] p.places
outside_to (l ∷ ls) p = printer_at p.out l ls p.places

abbrev pub outside : PrinterView → PrinterView
outside p = outside_to p.outer p

-- with something else laid out
abbrev pub with_laid : LayoutState → PrinterView → PrinterView
with_laid l p = printer_at l p.level p.outer p.places

-- a footnote definition starts, in a text of its own, and ends
abbrev pub enter_footnote : PrinterView → PrinterView
enter_footnote p = within_at (after_footnote p.level) holder.Footnote false (with_laid (footnote_text_started p.out) p)

abbrev pub leave_footnote : PrinterView → PrinterView
leave_footnote p = outside (with_laid (footnote_text_left p.out) p)

module _ (default : List ℕ) where
  -- more pieces of text
  abbrev pub more : List Piece → PrinterView → PrinterView
  more pieces p = with_laid (with_text p.out (fold (print default) p.out.text pieces)) p

  abbrev pub enter_quote : PrinterView → PrinterView
  enter_quote p = within holder.Quote false (more (Fresh ∷ Bytes (codes "<blockquote>") ∷ []) p)

  abbrev pub enter_list : Option ℕ → Bool → PrinterView → PrinterView
  enter_list number tight p = within (holder.List number) tight (more (Fresh ∷ Bytes (number_tag number) ∷ []) p)

  abbrev pub start_item : Bool → PrinterView → PrinterView
  start_item last p = within (holder.Item last) p.level.tight (more (Fresh ∷ Bytes (codes "<li>") ∷ []) p)

  -- the list that is open, or a new one
  abbrev pub in_list : Bool → Option ℕ → Bool → PrinterView → PrinterView
  in_list true number tight p = p
  in_list false number tight p = enter_list number tight p

  abbrev pub enter_item : Option ℕ → PrinterView → PrinterView
  enter_item number p =
      let place = first_place p.places in
      start_item (not place.goes_on) (in_list (is_list p.level.holder) number (not place.loose) (printer_at p.out p.level p.outer (other_places p.places)))

  abbrev pub leave_quote : PrinterView → PrinterView
  leave_quote p = outside (more (Fresh ∷ Bytes (codes "</blockquote>") ∷ []) p)

  abbrev pub leave_item : PrinterView → PrinterView
  leave_item p = outside (more (fresh_unless p.level.plain ++ Bytes (codes "</li>") ∷ []) p)

  abbrev pub leave_list_of : Holder → PrinterView → PrinterView
  leave_list_of (holder.List number) p = outside (more (Eol ∷ Bytes (number_end number) ∷ []) p)
  leave_list_of k p = p

  abbrev pub leave_list : PrinterView → PrinterView
  leave_list p = leave_list_of p.level.holder p

  abbrev pub leave_list_if : Bool → PrinterView → PrinterView
  leave_list_if false p = p
  leave_list_if true p = leave_list p

  abbrev pub exit_of : Holder → PrinterView → PrinterView
  exit_of holder.Quote p = leave_quote p
  exit_of (holder.Item last) p = leave_list_if last (leave_item p)
  exit_of holder.Footnote p = leave_footnote p
  exit_of k p = p

  abbrev pub exit : PrinterView → PrinterView
  exit p = exit_of p.level.holder p

module _ (d : Document) (default : List ℕ) where
  abbrev pub print_row : PrinterView → BlockRow → PrinterView
  print_row p (Single b) =
      printer_at (fold (lay d.options.compile default) p.out (row_pieces d p.level (Single b))) (level_after p.level (Single b)) p.outer p.places
  print_row p EnterQuote = enter_quote default p
  print_row p (EnterItem marker number) = enter_item default number p
  print_row p (EnterFootnote label) = enter_footnote p
  print_row p Exit = exit default p

  abbrev pub print_all : PrinterView → List BlockRow → PrinterView
  print_all p rows = fold print_row p rows

-- ---- the HTML of rows

-- whether a row is the ending of a blank line
abbrev pub is_blank_row : BlockRow → Bool
is_blank_row (Single b) = is_blank_ending b
is_blank_row row = false

-- whether the last row is one
abbrev pub ends_blank_rows : List BlockRow → Bool
ends_blank_rows rows = fold (λ before row. is_blank_row row) false rows

-- before any row
abbrev pub blank_page : List BlockRow → PrinterView
blank_page rows = printer_at nothing_laid (new_level holder.Document false) [] (places_of rows)

abbrev pub rows_html : Document → List ℕ → List BlockRow → List ℕ
rows_html d default rows =
    let options = d.options.compile in
    with_footnotes options default (fold (lay options default) (print_all d default (blank_page rows) rows).out (last_piece (ends_blank_rows rows)))
