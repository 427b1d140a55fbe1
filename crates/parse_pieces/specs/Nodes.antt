-- The nodes of pieces in a text.
use Rattle.std.specs.Prelude.{ℕ, ◌+◌, List}
use Rattle.event_definition.specs.Pieces.{Piece, Token, Around, Pieces, Nil, Cons}
use Rattle.event_grammar.specs.Trees.{Nodes}
use Rattle.event_grammar.specs.Trees as tree
use Rattle.parse_output.specs.Ends.{enter_at, exit_at}
use Rattle.parse_output.specs.Forest.{append, one, void_nodes}
use Rattle.parse_pieces.specs.Sizes.{codes_size, columns, columns_of, end_of, piece_size, pieces_size}

-- The nodes of pieces after so many bytes of a text, where so many columns of a tab follow the pieces. Data is cut into bytes.
abbrev mutual
  pub piece_nodes : List ℕ → ℕ → Piece → ℕ → Nodes
  piece_nodes text before (Token name cs) after = void_nodes text name (end_of before (columns_of cs after)) (end_of (before + codes_size cs) after)
  piece_nodes text before (Around name kids) after =
      one (tree.Around (enter_at text name (end_of before (columns kids after))) (nodes text before kids after)
      (exit_at text name (end_of (before + pieces_size kids) after)))

  pub nodes : List ℕ → ℕ → Pieces → ℕ → Nodes
  nodes text before Nil after = tree.Nil
  nodes text before (Cons p ps) after = append (piece_nodes text before p (columns ps after)) (nodes text (before + piece_size p) ps after)
