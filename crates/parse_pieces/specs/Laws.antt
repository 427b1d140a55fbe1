-- The drafts and the events of pieces.
use Rattle.std.specs.Prelude.{◌≡◌, ℕ, ◌+◌, List}
use Rattle.event_definition.specs.Pieces.{Pieces}
use Rattle.event_grammar.specs.Trees.{Growth, tree}
use Rattle.parse_output.specs.Ends.{first_end}
use Rattle.parse_output.specs.Forest.{bytewise, drafted_all, drafts_end, drafts_events, with_nodes}
use Rattle.parse_pieces.specs.Drafts.{HoldInOthers, drafts}
use Rattle.parse_pieces.specs.Nodes.{nodes}
use Rattle.parse_pieces.specs.Sizes.{columns, end_of, pieces_size}

-- The drafts of pieces lead from where the pieces begin to where they end.
abbrev pub DraftsReachEnds : Type 0
DraftsReachEnds =
    (before : ℕ) (ps : Pieces) (after : ℕ) → drafts_end (end_of before (columns ps after)) (drafts before ps after) ≡ end_of (before + pieces_size ps) after

-- What they say of any text are the nodes of the pieces.
abbrev pub DraftsSayNodes : Type 0
DraftsSayNodes =
    (text : List ℕ) (before : ℕ) (ps : Pieces) (after : ℕ) (g : Growth) → HoldInOthers ps
    → drafted_all text (end_of before (columns ps after)) g (drafts before ps after) ≡ with_nodes g (nodes text before ps after)

-- So the tree of their events has these nodes, data cut into bytes.
abbrev pub TreesHaveNodes : Type 0
TreesHaveNodes =
    (text : List ℕ) (ps : Pieces) → HoldInOthers ps → columns ps 0 ≡ 0
    → bytewise (tree (drafts_events text first_end (drafts 0 ps 0))) ≡ nodes text 0 ps 0
