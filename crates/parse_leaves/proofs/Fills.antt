-- The nodes of leaves fill rows of the grammar (CommonMark 4).
use Rattle.std.proofs.Common.{◌≡◌, ℕ, suc, ◌<◌, true, List, [], ◌∷◌, None, Some, refl, sym, subst, arith, length}
use Rattle.engine_events.specs.declared.event.Name.{Name}
use Rattle.engine_events.specs.declared.event.Name.TheVariants as n
use Rattle.event_grammar.specs.declared.slot.Between.{Between}
use Rattle.event_grammar.specs.declared.slot.Between.TheVariants.{Lines, Spaces}
use Rattle.event_grammar.specs.declared.slot.Form.{Form}
use Rattle.event_grammar.specs.declared.slot.Form.TheVariants.{Opening, Plain}
use Rattle.event_grammar.specs.declared.slot.Slot.{Slot}
use Rattle.event_grammar.specs.Grammar.{one as one_slot, row, text_row}
use Rattle.event_grammar.specs.InGrammar.{kids_of, node_name}
use Rattle.event_grammar.specs.Slots.{may_end, take_child, between_of, one_line, stands_between}
use Rattle.event_grammar.specs.Trees.{Node, Nodes}
use Rattle.parse_output.specs.declared.end.End.{End}
use Rattle.parse_output.specs.Forest.{append, one, void_nodes}
use Rattle.parse_slots.specs.Left.{Fill, IsFilled, took}
use Rattle.parse_slots.proofs.Steps.{fill_between, fill_both, fill_none, fill_taken, filled_by, filled_void}
use Rattle.parse_slots.proofs.Voids.{void_between}
use Rattle.parse_lines.proofs.Quiet.{quiet_fill}
use Rattle.parse_lines.specs.Quiet.{AreQuiet}
use Rattle.parse_strings.specs.References.{token}
use Rattle.parse_raw.specs.Before.{tokens}
use Rattle.parse_links.specs.Tails.{FillsTo, MayEnd}
use Rattle.parse_leaves.specs.Atx.{TakesClosing, atx_rest}

-- what is in an event fills its row up
pub filled_up : (around : Between) (form : Form) (name : Name) (node : Node) → node_name node ≡ name
    → FillsTo (row name form) MayEnd (between_of (row name form) around name) (kids_of node) → IsFilled around form node
filled_up around form name node is up = filled_by around form name up.rest node is up.fill up.ends

-- an event that holds a text
pub text_filled : (around : Between) (name : Name) (node : Node) → node_name node ≡ name → row name Plain ≡ text_row
    → Fill (one_line around name) text_row (kids_of node) text_row → IsFilled around Plain node
text_filled around name node is row_is fill =
    filled_by around Plain name text_row node is
    (subst (λ (slots : List Slot). Fill (between_of slots around name) slots (kids_of node) text_row) (sym row_is) fill) refl

-- ---- tokens

-- white space stands between
pub space_fill : (around : Between) (slots : List Slot) (text : List ℕ) (index : ℕ) (front : List ℕ) → take_child slots n.SpaceOrTab ≡ None
    → stands_between around n.SpaceOrTab ≡ true → Fill around slots (tokens text n.SpaceOrTab index front) slots
space_fill around slots text index [] takes between = fill_none around slots
space_fill around slots text index (b ∷ bs) takes between =
    let node = token text n.SpaceOrTab index (suc (length bs)) in
    fill_between around slots n.SpaceOrTab node refl takes between (filled_void around Plain n.SpaceOrTab node refl refl refl)

-- a row takes some bytes
pub token_fill : (around : Between) (slots : List Slot) (name : Name) (form : Form) (rest : List Slot) (text : List ℕ) (index : ℕ) (front : List ℕ)
    → 0 < length front → take_child slots name ≡ Some (took form rest) → may_end (row name form) ≡ true
    → Fill around slots (tokens text name index front) rest
token_fill around slots name form rest text index [] some takes may = absurd (omega (arith, some))
token_fill around slots name form rest text index (b ∷ bs) some takes may =
    let node = token text name index (suc (length bs)) in
    fill_taken around slots name form rest node refl takes (filled_void around form name node refl refl may)

-- ---- headings by `#`

-- what follows the text
pub closing_fill : (slots : List Slot) (text : List ℕ) (i j k : ℕ) (white hashes last : List ℕ) → TakesClosing slots
    → FillsTo slots MayEnd Spaces
    (append (tokens text n.SpaceOrTab i white) (append (tokens text n.HeadingAtxSequence j hashes) (tokens text n.SpaceOrTab k last)))
closing_fill slots text i j k white [] last takes = record {
  rest = slots;
  fill = fill_both (space_fill Spaces slots text i white takes.space refl) (space_fill Spaces slots text k last takes.space refl);
  ends = takes.may;
}
closing_fill slots text i j k white (b ∷ bs) last takes = record {
  rest = [];
  fill =
      fill_both (space_fill Spaces slots text i white takes.space refl)
      (fill_both (token_fill Spaces slots n.HeadingAtxSequence Plain [] text j (b ∷ bs) (omega arith) takes.sequence refl)
      (space_fill Spaces [] text k last refl refl));
  ends = refl;
}

-- the whole
pub atx_fill : (text : List ℕ) (i j : ℕ) (hashes white : List ℕ) (inner last : Nodes) → 0 < length hashes → (text_fill : FillsTo atx_rest TakesClosing Spaces inner)
    → FillsTo text_fill.rest MayEnd Spaces last
    → FillsTo (row n.HeadingAtx Plain) MayEnd Spaces
    (append (tokens text n.HeadingAtxSequence i hashes) (append (tokens text n.SpaceOrTab j white) (append inner last)))
atx_fill text i j hashes white inner last some text_fill up = record {
  rest = up.rest;
  fill =
      fill_both (token_fill Spaces (row n.HeadingAtx Plain) n.HeadingAtxSequence Opening atx_rest text i hashes some refl refl)
      (fill_both (space_fill Spaces atx_rest text j white refl refl) (fill_both text_fill.fill up.fill));
  ends = up.ends;
}

-- ---- headings with an underline

-- the underline
pub underline_fill : (text : List ℕ) (i j : ℕ) (front white : List ℕ) → 0 < length front
    → Fill Lines (row n.HeadingSetextUnderline Plain) (append (tokens text n.HeadingSetextUnderlineSequence i front) (tokens text n.SpaceOrTab j white)) []
underline_fill text i j front white some =
    fill_both (token_fill Lines (row n.HeadingSetextUnderline Plain) n.HeadingSetextUnderlineSequence Plain [] text i front some refl refl)
    (space_fill Lines [] text j white refl refl)

-- the text, the ending of its last line, and the underline
pub setext_fill : (text : List ℕ) (first : Node) (from to : End) (quiet before : Nodes) (under : Node) → node_name first ≡ n.HeadingSetextText
    → IsFilled Lines Plain first → AreQuiet quiet → AreQuiet before → node_name under ≡ n.HeadingSetextUnderline → IsFilled Lines Plain under
    → Fill Lines (row n.HeadingSetext Plain)
    (append (one first) (append (append (void_nodes text n.LineEnding from to) quiet) (append before (one under)))) []
setext_fill text first from to quiet before under is_text first_filled are_quiet are_before is_under under_filled =
    let under_row = one_slot n.HeadingSetextUnderline ∷ [] in
    fill_both (fill_taken Lines (row n.HeadingSetext Plain) n.HeadingSetextText Plain under_row first is_text refl first_filled)
    (fill_both
    (fill_both (void_between Lines under_row n.LineEnding text from to refl refl refl refl) (quiet_fill under_row quiet refl refl are_quiet))
    (fill_both (quiet_fill under_row before refl refl are_before)
    (fill_taken Lines under_row n.HeadingSetextUnderline Plain [] under is_under refl under_filled)))
