-- Walks over the cells of a row and the rows of a body: what is left to print.
use Rattle.std.proofs.Common.{◌≡◌, ℕ, List}
use Rattle.compile_blocks.proofs.Prelude.{after_pieces, AreSound, Event, events_of, LayoutState, Meaning, Nodes, Piece}

-- some pieces, and then those of the nodes whose events are left, are all
pub record IsLeft (m : Meaning) (default bytes : List ℕ) (pieces : Nodes → List Piece) (rest : List Event) (here all : LayoutState) : Type 0 where
  pub left : Nodes
  pub sound : AreSound bytes left
  pub events : rest ≡ events_of left
  pub printed : after_pieces m.compile default here (pieces left) ≡ all
