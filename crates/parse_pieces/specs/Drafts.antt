-- The drafts of pieces: their events before they have their places.
use Rattle.std.specs.Prelude.{◌≡◌, ℕ, ◌+◌, false, if◌then◌else◌, List, [], ◌∷◌, ◌++◌}
use Rattle.engine_events.specs.Names.{same_name}
use Rattle.engine_events.specs.declared.event.Name.{Name}
use Rattle.engine_events.specs.declared.event.Name.TheVariants as n
use Rattle.event_definition.specs.Pieces.{Piece, Token, Around, Pieces, Nil, Cons}
use Rattle.parse_output.specs.declared.draft.Draft.{Draft}
use Rattle.parse_output.specs.declared.draft.Draft.TheVariants as draft
use Rattle.parse_output.specs.declared.end.End.{End}
use Rattle.parse_output.specs.Ends.{same_end}
use Rattle.parse_pieces.specs.Sizes.{codes_size, columns, columns_of, end_of, piece_size}

-- what holds no other, from an end to another; nothing of no size
abbrev pub void_drafts : Name → End → End → List Draft
void_drafts name from to = if same_end to from then [] else draft.Void name to.owed to.index ∷ []

-- the drafts of pieces after so many bytes, where so many columns of a tab follow the pieces
abbrev mutual
  pub piece_drafts : ℕ → Piece → ℕ → List Draft
  piece_drafts before (Token name cs) after = void_drafts name (end_of before (columns_of cs after)) (end_of (before + codes_size cs) after)
  piece_drafts before (Around name kids) after = draft.Enter name ∷ (drafts before kids after ++ draft.Exit name ∷ [])

  pub drafts : ℕ → Pieces → ℕ → List Draft
  drafts before Nil after = []
  drafts before (Cons p ps) after = piece_drafts before p (columns ps after) ++ drafts (before + piece_size p) ps after

-- data is around no pieces: it holds no other
abbrev mutual
  pub HoldsInOthers : Piece → Type 0
  HoldsInOthers (Token name cs) = Unit {0}
  HoldsInOthers (Around name kids) = (same_name name n.Data ≡ false) × HoldInOthers kids

  pub HoldInOthers : Pieces → Type 0
  HoldInOthers Nil = Unit {0}
  HoldInOthers (Cons p ps) = HoldsInOthers p × HoldInOthers ps
