-- Which label starts and `]` go together, and what they form, as a grammar (CommonMark 6.3). The scan of a content is proved to read by it.
use Rattle.std.specs.Prelude.{◌≡◌, ◌+◌, ℕ, Bool, true, false, ◌&&◌, ◌==◌, List, [], ◌∷◌, ◌++◌, Option, None, Some, drop}
use Rattle.definition_text.specs.Ascii.{right_bracket}
use Rattle.definition_text.specs.Columns.{Code}
use Rattle.definition_text.specs.InlineCode.{InlineCode, codes_of}
use Rattle.definition_inline.specs.Inline.{Leaf, Data, Found}
use Rattle.definition_inline.specs.Attention.{Run, run_at}
use Rattle.definition_inline.specs.Spans.{Token, Item, Delimiters}
use Rattle.definition_inline.specs.LabelEnd.{LinkOrCall, formed_size}
use Rattle.definition_inline.specs.Scan.{InlineContext, leaf_here, leaf_tokens, LabelStart, label_start_at, start_more, OpenLabel, Text, text, with_tokens, with_plain_start}
use Rattle.definition_inline.specs.Scan.{with_link_or_call, ended_by}

-- A stretch of a content: tokens; a label start with the codes after it; a `]` with the codes from it on, and what it forms, if anything.
pub data Stretch : Type 0 where
  Plain : List Token → Stretch
  Start : LabelStart → List Code → Stretch
  End : List Code → Option LinkOrCall → Stretch

-- a `]` that may end a label
abbrev pub is_label_end : InlineContext → Code → Bool
is_label_end context code = context.options.constructs.label_end && (code == right_bracket)

-- how many codes after a `]` belong to what it forms
abbrev pub ended_size : Option LinkOrCall → ℕ
ended_size None = 0
ended_size (Some found) = formed_size found

-- nothing of its own stands at a place: no construct that holds no other, no run
pub record IsBare (context : InlineContext) (content : List InlineCode) : Type 0 where
  pub no_leaf : leaf_here context content ≡ None
  pub no_run : run_at context.options content ≡ None

-- the stretches of a content, one after another: at each place the first of these that stands there
pub data AreStretches (context : InlineContext) : List InlineCode → List Stretch → Type 0 where
  AtEnd : AreStretches context [] []
  AtLeaf : (c : InlineCode) (cs : List InlineCode) (found : Found) (others : List Stretch) → leaf_here context (c ∷ cs) ≡ Some found
      → AreStretches context (drop found.size (c ∷ cs)) others → AreStretches context (c ∷ cs) (Plain (leaf_tokens found) ∷ others)
  AtRun : (c : InlineCode) (cs : List InlineCode) (run : Run) (others : List Stretch) → leaf_here context (c ∷ cs) ≡ None
      → run_at context.options (c ∷ cs) ≡ Some run
      → AreStretches context (drop run.left (c ∷ cs)) others → AreStretches context (c ∷ cs) (Plain (Delimiters run ∷ []) ∷ others)
  AtLabelStart : (c : InlineCode) (cs : List InlineCode) (start : LabelStart) (others : List Stretch) → IsBare context (c ∷ cs)
      → label_start_at context.options.constructs (codes_of (c ∷ cs)) ≡ Some start
      → AreStretches context (drop (1 + start_more start) (c ∷ cs)) others
      → AreStretches context (c ∷ cs) (Start start (drop (1 + start_more start) (codes_of (c ∷ cs))) ∷ others)
  AtLabelEnd : (c : InlineCode) (cs : List InlineCode) (end : Option LinkOrCall) (others : List Stretch) → IsBare context (c ∷ cs)
      → label_start_at context.options.constructs (codes_of (c ∷ cs)) ≡ None → is_label_end context c.code ≡ true
      → AreStretches context (drop (1 + ended_size end) (c ∷ cs)) others → AreStretches context (c ∷ cs) (End (codes_of (c ∷ cs)) end ∷ others)
  AtByte : (c : InlineCode) (cs : List InlineCode) (others : List Stretch) → IsBare context (c ∷ cs)
      → label_start_at context.options.constructs (codes_of (c ∷ cs)) ≡ None → is_label_end context c.code ≡ false
      → AreStretches context cs others → AreStretches context (c ∷ cs) (Plain (Item (Leaf (Data c.code)) ∷ []) ∷ others)

-- a label start between the text before it and the text after it
abbrev pub open_label : LabelStart → List Code → Text → OpenLabel
open_label start from outer = record { start = start; from = from; outer = outer }

-- the text with what a label start and its `]` form; where they form nothing, both are text
abbrev pub ended_text : OpenLabel → Text → Option LinkOrCall → Text
ended_text label inner None = with_tokens (with_plain_start label inner) (Item (Leaf (Data right_bracket)) ∷ [])
ended_text label inner (Some found) = with_link_or_call label found inner

-- Stretches whose label starts are all taken, each by the `]` that matches it, and the text that they stand for. What a pair forms depends on the text between,
-- on whether that holds a link, and on what follows. At the top a `]` may be left over, which forms nothing.
pub data IsText (context : InlineContext) : Bool → List Stretch → Text → Type 0 where
  Nothing : (top : Bool) → IsText context top [] (text [] false)
  More : (top : Bool) (ss : List Stretch) (t : Text) (tokens : List Token) → IsText context top ss t
      → IsText context top (ss ++ Plain tokens ∷ []) (with_tokens t tokens)
  Pair : (top : Bool) (before between : List Stretch) (start : LabelStart) (from content : List Code) (outer inner : Text) → IsText context top before outer
      → IsText context false between inner → (end : Option LinkOrCall) → end ≡ ended_by context content (open_label start from outer) inner
      → IsText context top (before ++ Start start from ∷ (between ++ End content end ∷ [])) (ended_text (open_label start from outer) inner end)
  LeftOver : (ss : List Stretch) (t : Text) (content : List Code) → IsText context true ss t
      → IsText context true (ss ++ End content None ∷ []) (with_tokens t (Item (Leaf (Data right_bracket)) ∷ []))

-- the same after a label start that no `]` matches, with others that are left over
pub data IsRest (context : InlineContext) : List Stretch → Text → Type 0 where
  Last : (ss : List Stretch) (t : Text) → IsText context false ss t → IsRest context ss t
  OneMore : (ss others : List Stretch) (start : LabelStart) (from : List Code) (outer inner : Text)
      → IsText context false ss outer → IsRest context others inner
      → IsRest context (ss ++ Start start from ∷ others) (with_plain_start (open_label start from outer) inner)

-- the text of a whole content: a label start that no `]` matches is text
pub data IsWhole (context : InlineContext) : List Stretch → Text → Type 0 where
  AllMatched : (ss : List Stretch) (t : Text) → IsText context true ss t → IsWhole context ss t
  SomeLeft : (ss others : List Stretch) (start : LabelStart) (from : List Code) (outer inner : Text)
      → IsText context true ss outer → IsRest context others inner
      → IsWhole context (ss ++ Start start from ∷ others) (with_plain_start (open_label start from outer) inner)

-- a content stands for a text: by its stretches
pub record Reads (context : InlineContext) (content : List InlineCode) (t : Text) : Type 0 where
  pub stretches : List Stretch
  pub stand : AreStretches context content stretches
  pub whole : IsWhole context stretches t
