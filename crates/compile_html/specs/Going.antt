-- A printer that goes over the events of a list: what is left to print is what is left of the page.
use Rattle.std.specs.Prelude.{◌≡◌, ℕ, Bool, List, ◌++◌, reverse}
use Rattle.engine_events.specs.declared.event.Event.{Event}
use Rattle.definition_inline.specs.CharacterReference.{Names}
use Rattle.definition_page.specs.InlinePieces.{Meaning}
use Rattle.html_bytes.specs.Layout.{LayoutState}
use Rattle.html_bytes.specs.Pieces.{in_bytes}
use Rattle.html_leaves.specs.Prints.{page_view, layout_after}
use Rattle.event_meaning.specs.Left.{Frame, left_events, left_pieces}
use Rattle.compile_html.specs.Frames.{levels_of, left_lists, AreOpen}
use Rattle.compile_html.specs.Views.{opened_of}
use Rattle.compile_html.specs.declared.printer.Printer.{Printer}

module _ (names : Names) (bytes : List ℕ) (m : Meaning) where
  -- the page once all is printed that is left of these frames
  abbrev pub page_after : {A : Type 0} → Printer A → List Frame → LayoutState
  page_after p fs = layout_after m.compile p.leaves.page.default_ending (page_view p.leaves.page) (in_bytes (left_pieces names bytes m fs))

  -- these frames are open, before these events
  pub record StandsIn {A : Type 0} (p : Printer A) (rest : List Event) (fs : List Frame) : Type 0 where
    pub open_ : AreOpen bytes fs
    pub levels : opened_of p ≡ levels_of fs
    pub events : rest ≡ left_events fs
    pub loose : reverse p.loose.items ≡ left_lists bytes fs

  -- before these events of a list, of which the page will be this one
  pub record GoesOn {A : Type 0} (events : List Event) (whole : LayoutState) (p : Printer A) (rest : List Event) : Type 0 where
    pub frames : List Frame
    pub front : List Event
    pub split : events ≡ front ++ rest
    pub stands : StandsIn p rest frames
    pub prints : page_after p frames ≡ whole
