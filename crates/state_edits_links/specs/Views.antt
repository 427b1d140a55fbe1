-- What the code of addresses holds, as its definition has it.
use Rattle.std.specs.Prelude.{ℕ, List}
use Rattle.state_edits_links.specs.declared.gfm_autolink_literal.Linking.{Linking}
use Rattle.state_edits_links.specs.GfmAutolinkLiteral as literal

module _ {A : Type 0} where
  -- with the bytes that come next
  abbrev pub linking_view : Linking A → List ℕ → literal.Linking
  linking_view l run = literal.linking l.events.items l.point run
