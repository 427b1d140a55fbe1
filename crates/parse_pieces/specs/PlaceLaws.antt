-- The events that the definition gives pieces are those of their drafts.
use Rattle.std.specs.Prelude.{◌≡◌, ℕ, List, []}
use Rattle.event_definition.specs.Events.{events_from, marks}
use Rattle.event_definition.specs.Pieces.{Pieces, merged}
use Rattle.event_definition.specs.Places.{first_point}
use Rattle.event_grammar.specs.Trees.{tree}
use Rattle.parse_output.specs.Drafts.{unmatched_in}
use Rattle.parse_output.specs.Ends.{end_point}
use Rattle.parse_output.specs.Forest.{bytewise, drafts_events}
use Rattle.parse_pieces.specs.Drafts.{HoldInOthers, drafts}
use Rattle.parse_pieces.specs.Nodes.{nodes}
use Rattle.parse_pieces.specs.Sizes.{columns, end_of}
use Rattle.parse_pieces.specs.Coming.{PiecesCome}

-- From any place on, where their codes come, the events of pieces are those of their drafts: each has the point that the text gives it.
abbrev pub EventsAreDrafted : Type 0
EventsAreDrafted =
    (text : List ℕ) (before : ℕ) (ps : Pieces) → PiecesCome text before ps 0
    → events_from (end_point text (end_of before (columns ps 0))) (marks ps) ≡ drafts_events text (end_of before (columns ps 0)) (drafts before ps 0)

-- So the tree of the events of pieces has the nodes of these pieces, data cut into bytes.
abbrev pub EventsHaveNodes : Type 0
EventsHaveNodes =
    (text : List ℕ) (ps : Pieces) → HoldInOthers ps → columns ps 0 ≡ 0 → PiecesCome text 0 ps 0
    → bytewise (tree (events_from first_point (marks ps))) ≡ nodes text 0 ps 0

-- Data beside data has the same nodes as data that is joined.
abbrev pub MergedHaveNodes : Type 0
MergedHaveNodes =
    (text : List ℕ) (before : ℕ) (ps : Pieces) (after : ℕ) → PiecesCome text before ps after → nodes text before (merged ps) after ≡ nodes text before ps after

-- The drafts of pieces exit what they enter, and nothing else: they leave nothing open.
abbrev pub DraftsAreNested : Type 0
DraftsAreNested = (before : ℕ) (ps : Pieces) (after : ℕ) → unmatched_in (drafts before ps after) ≡ []
