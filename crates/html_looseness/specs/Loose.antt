-- Which lists are loose, and where they end: a pass over rows from their end to their front (CommonMark 5.3).
use Rattle.std.specs.Prelude.{ℕ, Bool, true, false, ◌==◌, ◌&&◌, ◌||◌, not, List, [], ◌∷◌, reverse}
use Rattle.block_rows.specs.declared.row.Row.{Row}
use Rattle.block_rows.specs.declared.row.Row.TheVariants as row
use Rattle.definition_block.specs.Tree.{Block, is_ending}
use Rattle.block_rows.specs.Rows.{BlockRow, Single, EnterQuote, EnterItem, EnterFootnote, Exit}
use Rattle.html_looseness.specs.declared.loose.Place.{Place}
use Rattle.html_looseness.specs.declared.loose.Ahead.{Ahead}
use Rattle.html_looseness.specs.declared.loose.Pass.{Pass}

-- ---- one container

abbrev pub nothing_ahead : Ahead
nothing_ahead = record { some = false; ending_first = false; apart = false; marker = 0; loose = false; gap = false }

abbrev pub before_block : Ahead → Ahead
before_block a = record { some = true; ending_first = false; apart = false; marker = 0; loose = false; gap = (a.apart && a.some) || a.gap }

abbrev pub before_ending : Ahead → Ahead
before_ending a = record { some = a.some; ending_first = true; apart = a.ending_first; marker = a.marker; loose = a.loose; gap = a.gap }

-- an item, by its marker and whether its own children have a gap
abbrev pub place_at : Ahead → ℕ → Bool → Place
place_at a marker gap = record { loose = gap || ((a.marker == marker) && (a.apart || a.loose)); goes_on = a.marker == marker }

abbrev pub before_item : Ahead → ℕ → Place → Ahead
before_item a marker place =
    record { some = true; ending_first = false; apart = false; marker = marker; loose = place.loose; gap = ((not place.goes_on && a.apart) && a.some) || a.gap }

-- ---- rows

-- what stands after a place, in the innermost container and in those around it, and the places of the items after it
pub record PassView : Type 0 where
  pub ahead : Ahead
  pub outer : List Ahead
  pub places : List Place

abbrev pub pass_at : Ahead → List Ahead → List Place → PassView
pass_at ahead outer places = record { ahead = ahead; outer = outer; places = places }

abbrev pub pass_start : PassView
pass_start = pass_at nothing_ahead [] []

abbrev pub first_ahead : List Ahead → Ahead
first_ahead [] = nothing_ahead
first_ahead (a ∷ others) = a

abbrev pub others_ahead : List Ahead → List Ahead
others_ahead [] = []
others_ahead (a ∷ others) = others

-- the start of a container is passed
abbrev pub leave : PassView → PassView
leave p = pass_at (first_ahead p.outer) (others_ahead p.outer) p.places

abbrev pub pass_item : PassView → ℕ → PassView
pass_item p marker =
    let a = first_ahead p.outer in
    let place = place_at a marker p.ahead.gap in
    pass_at (before_item a marker place) (others_ahead p.outer) (place ∷ p.places)

abbrev pub before_if : Bool → Ahead → Ahead
before_if true a = before_ending a
before_if false a = before_block a

abbrev pub before_single : Block → Ahead → Ahead
before_single b a = before_if (is_ending b) a

abbrev pub pass_row : PassView → BlockRow → PassView
pass_row p (Single b) = pass_at (before_single b p.ahead) p.outer p.places
pass_row p EnterQuote = pass_at (before_block (first_ahead p.outer)) (others_ahead p.outer) p.places
pass_row p (EnterItem marker number) = pass_item p marker
pass_row p (EnterFootnote label) = pass_at (before_block (first_ahead p.outer)) (others_ahead p.outer) p.places
pass_row p Exit = pass_at nothing_ahead (p.ahead ∷ p.outer) p.places

abbrev pub pass_rows : PassView → List BlockRow → PassView
pass_rows p [] = p
pass_rows p (r ∷ rows) = pass_row (pass_rows p rows) r

-- the places of all items
abbrev pub places_of : List BlockRow → List Place
places_of rows = (pass_rows pass_start rows).places

-- whether a row starts an item
abbrev pub starts_item : Row → Bool
starts_item (row.EnterItem marker number) = true
starts_item r = false

-- whether a row starts or ends a container
abbrev pub bounds_container : Row → Bool
bounds_container row.EnterQuote = true
bounds_container (row.EnterItem marker number) = true
bounds_container row.EnterFootnote = true
bounds_container row.Exit = true
bounds_container r = false

-- what a pass has found
abbrev pub pass_view : {A : Type 0} → Pass A → PassView
pass_view p = pass_at p.ahead (reverse p.outer.items) (reverse p.places.items)
