-- The frames of what is open, as a printer sees them.
use Rattle.std.specs.Prelude.{◌≡◌, ℕ, Bool, true, false, List, [], ◌∷◌, ◌++◌, map}
use Rattle.engine_events.specs.declared.event.Event.{Event}
use Rattle.engine_events.specs.declared.event.Kind.TheVariants.{Exit}
use Rattle.definition_page.specs.Page as page
use Rattle.compile_raw.specs.Sound.{AreSound}
use Rattle.event_grammar.specs.Trees.{Nodes}
use Rattle.compile_levels.specs.Levels.{new_level}
use Rattle.compile_levels.specs.declared.level.Holder as levels
use Rattle.compile_levels.specs.declared.level.Holder.TheVariants as holders
use Rattle.compile_levels.specs.declared.level.Level.{Level}
use Rattle.compile_written.specs.List.{loose_lists}
use Rattle.event_meaning.specs.Left.{Holder, Document, Quote, Item, Footnote, ListOf, Frame, is_document, first_name, after_block}
use Rattle.compile_html.specs.Containers.{lists_before, HoldLists}
use Rattle.compile_html.specs.Numbers.{HaveNumbers}
use Rattle.compile_html.specs.Opened.{Opened, opened}

-- ---- the levels of frames

-- what holds blocks, as the printer says it and as the definition does
abbrev pub holder_of : Holder → levels.Holder
holder_of Document = holders.Document
holder_of Quote = holders.Quote
holder_of Item = holders.Item
holder_of Footnote = holders.Footnote
holder_of (ListOf number) = holders.List number

abbrev pub holder_view : levels.Holder → Holder
holder_view holders.Document = Document
holder_view holders.Quote = Quote
holder_view holders.Item = Item
holder_view holders.Footnote = Footnote
holder_view (holders.List number) = ListOf number

abbrev pub level_of : Frame → Level
level_of f = record { holder = holder_of f.holder; tight = f.tight; plain = f.plain; silent = f.silent; begun = f.begun }

abbrev pub levels_of : List Frame → Opened
levels_of [] = opened (new_level holders.Document false) []
levels_of (f ∷ fs) = opened (level_of f) (map level_of fs)

-- ---- the lists that are left

abbrev pub left_lists : List ℕ → List Frame → List Bool
left_lists bytes [] = []
left_lists bytes (f ∷ fs) = loose_lists bytes f.siblings ++ left_lists bytes fs

-- ---- what frames are like

-- a frame with no others around it is the document, any other ends with an exit
abbrev pub HasExit : List Frame → Holder → List Event → Type 0
HasExit [] h exits = (h ≡ Document) × (exits ≡ [])
HasExit (g ∷ fs) h exits = (exit : Event) × (exits ≡ exit ∷ []) × (exit.kind ≡ Exit)

-- the children to come
pub record HasChildren (bytes : List ℕ) (f : Frame) : Type 0 where
  pub sound : AreSound bytes f.siblings
  pub lists : HoldLists bytes f.siblings
  pub numbers : HaveNumbers bytes f.siblings
  pub before : f.begun ≡ false → lists_before bytes (first_name f.holder) f.siblings ≡ []
  pub document : is_document f.holder ≡ true → f.begun ≡ true

abbrev pub AreOpen : List ℕ → List Frame → Type 0
AreOpen bytes [] = Unit {0}
AreOpen bytes (f ∷ fs) = HasExit fs f.holder f.exit × HasChildren bytes f × AreOpen bytes fs

-- ---- after a child of the content that spells these blocks, of which there is one or none

abbrev pub after_spelled : Frame → page.Blocks → Nodes → Frame
after_spelled f page.Nil ns = record f { begun = true; siblings = ns }
after_spelled f (page.Cons b bs) ns = after_block f b ns
