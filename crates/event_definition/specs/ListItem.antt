-- The prefixes of list items (CommonMark 5.2).
use Rattle.std.specs.Prelude.{◌+◌, [], ◌∷◌, drop, take}
use Rattle.std.specs.List.{prefix_len}
use Rattle.definition_text.specs.Columns.{Rest}
use Rattle.definition_block.specs.ListItem.{is_digit}
use Rattle.engine_events.specs.declared.event.Name.TheVariants as n
use Rattle.event_definition.specs.Pieces.{Pieces, around, join_all, token}
use Rattle.event_definition.specs.Written.{before_rest}

-- the number, if there is one, the byte that marks the item, and white space up to its content
abbrev pub item_start_pieces : Rest → Rest → Pieces
item_start_pieces rest after =
    let digits = prefix_len is_digit rest in
    around n.ListItemPrefix (join_all (
    token n.ListItemValue (take digits rest) ∷ token n.ListItemMarker (take 1 (drop digits rest))
    ∷ token n.SpaceOrTab (before_rest (drop (digits + 1) rest) after) ∷ []
    ))

-- the prefix of an item or a footnote definition that continues on a line: white space
abbrev pub item_prefix_pieces : Rest → Rest → Pieces
item_prefix_pieces rest after = token n.SpaceOrTab (before_rest rest after)
