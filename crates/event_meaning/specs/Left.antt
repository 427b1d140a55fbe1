-- What is left to print of a list of events, while it is walked from one event to the next.
use Rattle.std.specs.Prelude.{ℕ, Bool, true, false, ◌||◌, if◌then◌else◌, List, [], ◌∷◌, ◌++◌, Option, None, Some, codes}
use Rattle.engine_events.specs.Names.{same_name}
use Rattle.engine_events.specs.declared.event.Event.{Event}
use Rattle.engine_events.specs.declared.event.Name.{Name}
use Rattle.engine_events.specs.declared.event.Name.TheVariants as n
use Rattle.definition_inline.specs.CharacterReference.{Names}
use Rattle.definition_page.specs.BlockPieces.{Place, list_tag, is_silent, is_visible, last_visible, ends_plainly, fresh_unless, children_pieces}
use Rattle.definition_page.specs.InlinePieces.{Meaning}
use Rattle.definition_page.specs.Page as page
use Rattle.definition_page.specs.Pieces.{Piece, Open, Close, Eol, Fresh, NoteStart, NoteEnd}
use Rattle.definition_page.specs.Tags.{bare_tag}
use Rattle.event_grammar.specs.Trees.{Nodes, events_of}
use Rattle.event_meaning.specs.Blocks.{blocks_of, blocks_from}

-- what holds blocks: the document, a block quote, an item, a footnote definition, a list with the number of its first item, if it is ordered
pub data Holder : Type 0 where
  Document : Holder
  Quote : Holder
  Item : Holder
  Footnote : Holder
  ListOf : Option ℕ → Holder

abbrev pub is_document : Holder → Bool
is_document Document = true
is_document holder = false

-- with which child the content of a holder begins
abbrev pub first_name : Holder → Name
first_name Quote = n.BlockQuotePrefix
first_name Item = n.ListItemPrefix
first_name Footnote = n.GfmFootnoteDefinitionPrefix
first_name holder = n.ListItem

-- What is open: what holds blocks; whether paragraphs in it are tight; whether an ending that comes next prints nothing; whether an item would end on the same
-- line here; whether the content has begun; the children that come next; and the exit, of all but the document.
pub record Frame : Type 0 where
  pub holder : Holder
  pub tight : Bool
  pub silent : Bool
  pub plain : Bool
  pub begun : Bool
  pub siblings : Nodes
  pub exit : List Event

-- where the children stand
abbrev pub place_of : Frame → Place
place_of f = record { top = is_document f.holder; tight = f.tight }

-- a sibling after which an ending prints nothing, or one after which it does
abbrev pub sibling_of : Bool → Option page.Block
sibling_of true = Some (page.Leaf page.Definition)
sibling_of false = None

-- a last sibling after which an item ends on the same line, or one after which it doesn't
abbrev pub visible_of : Bool → Option page.Block
visible_of true = None
visible_of false = Some (page.Holds page.Quote page.Nil)

module _ (names : Names) (bytes : List ℕ) where
  -- the blocks that children spell: those of the document, or of a content that has begun or hasn't
  abbrev pub blocks_by : Bool → Bool → Name → Nodes → page.Blocks
  blocks_by true begun start ns = blocks_of names bytes true ns
  blocks_by false true start ns = blocks_of names bytes false ns
  blocks_by false false start ns = blocks_from names bytes start ns

  abbrev pub blocks_left : Frame → page.Blocks
  blocks_left f = blocks_by (is_document f.holder) f.begun (first_name f.holder) f.siblings

-- what is printed where a holder begins
abbrev pub opening : Holder → List Piece
opening Document = []
opening Quote = Fresh ∷ Open (bare_tag (codes "blockquote")) ∷ []
opening Item = Fresh ∷ Open (bare_tag (codes "li")) ∷ []
opening Footnote = NoteStart ∷ []
opening (ListOf number) = Fresh ∷ Open (list_tag number) ∷ []

-- and where it ends; an item may end on the same line
abbrev pub closing : Holder → Bool → List Piece
closing Document plain = []
closing Quote plain = Fresh ∷ Close (codes "blockquote") ∷ []
closing Item plain = fresh_unless plain ++ Close (codes "li") ∷ []
closing Footnote plain = NoteEnd ∷ []
closing (ListOf number) plain = Eol ∷ Close (list_tag number).name ∷ []

-- the events that are left, the innermost frame first
abbrev pub left_events : List Frame → List Event
left_events [] = []
left_events (f ∷ fs) = events_of f.siblings ++ (f.exit ++ left_events fs)

module _ (names : Names) (bytes : List ℕ) (m : Meaning) where
  -- the pieces that are left of a frame: those of its children, and its end
  abbrev pub frame_pieces : Frame → List Piece
  frame_pieces f =
      let bs = blocks_left names bytes f in
      children_pieces m (place_of f) (sibling_of f.silent) bs ++ closing f.holder (ends_plainly f.tight (last_visible (visible_of f.plain) bs))

  -- and of all frames
  abbrev pub left_pieces : List Frame → List Piece
  left_pieces [] = []
  left_pieces (f ∷ fs) = frame_pieces f ++ left_pieces fs

-- ---- steps

-- whether the content has begun once a child of this name is there
abbrev pub has_begun : Frame → Name → Bool
has_begun f name = f.begun || same_name name (first_name f.holder)

-- whether such a child is one of the content
abbrev pub counts : Frame → Name → Bool
counts f name = is_document f.holder || has_begun f name

-- after a child that spells nothing
abbrev pub passed : Frame → Name → Nodes → Frame
passed f name ns = record f { begun = has_begun f name; siblings = ns }

-- after a child that spells this block
abbrev pub after_block : Frame → page.Block → Nodes → Frame
after_block f b ns =
    record f {
      silent = is_silent (place_of f) (Some b);
      plain = if is_visible b then ends_plainly f.tight (Some b) else f.plain;
      begun = true;
      siblings = ns;
    }

-- a holder that begins, with these children and this exit
abbrev pub new_frame : Holder → Bool → Nodes → Event → Frame
new_frame holder tight kids exit =
    record { holder = holder; tight = tight; silent = false; plain = true; begun = false; siblings = kids; exit = exit ∷ [] }

-- before any event
abbrev pub whole_document : Nodes → Frame
whole_document ns =
    record { holder = Document; tight = false; silent = false; plain = true; begun = true; siblings = ns; exit = [] }
