-- Pieces at the front of a content, and how many codes they take.
use Rattle.std.specs.Prelude.{ℕ}
use Rattle.event_definition.specs.Pieces.{Pieces, Nil}

pub record Sized : Type 0 where
  pub pieces : Pieces
  pub size : ℕ

abbrev pub sized : Pieces → ℕ → Sized
sized pieces size = record { pieces = pieces; size = size }

abbrev pub no_pieces : Sized
no_pieces = sized Nil 0
