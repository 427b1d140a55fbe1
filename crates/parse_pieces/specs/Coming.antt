-- Pieces that come at a place of a text.
use Rattle.std.specs.Prelude.{◌≡◌, ℕ, ◌+◌, ◌<◌, false, List, length}
use Rattle.engine_events.specs.Names.{same_name}
use Rattle.engine_events.specs.declared.event.Name.TheVariants as n
use Rattle.event_definition.specs.Pieces.{Piece, Token, Around, Pieces, Nil, Cons}
use Rattle.parse_pieces.specs.Sizes.{columns, piece_size}
use Rattle.parse_pieces.specs.Codes.{AllCome}

-- The codes of pieces come after so many bytes of a text, where so many columns of a tab follow them. Each token has a code; none is a byte order mark.
abbrev mutual
  pub PieceComes : List ℕ → ℕ → Piece → ℕ → Type 0
  PieceComes text before (Token name cs) after = (same_name name n.ByteOrderMark ≡ false) × (0 < length cs) × AllCome text before cs after
  PieceComes text before (Around name kids) after = PiecesCome text before kids after

  pub PiecesCome : List ℕ → ℕ → Pieces → ℕ → Type 0
  PiecesCome text before Nil after = Unit {0}
  PiecesCome text before (Cons p ps) after = PieceComes text before p (columns ps after) × PiecesCome text (before + piece_size p) ps after
