-- What fences hold, and where code stands.
use Rattle.std.proofs.Common.{◌≡◌, List, ◌∷◌, true, Option, None, Some, refl}
use Rattle.std.proofs.lemmas.Bool.{or_right}
use Rattle.parse_raw.proofs.Prelude.{block_names, is_listed, Name, same_name}
use Rattle.engine_events.specs.declared.event.Name.TheVariants as n
use Rattle.parse_output.specs.Open.{Mark, Entered}
use Rattle.parse_output.specs.Children.{holds_blocks, may_enter}
use Rattle.parse_output.proofs.Classes.{blocks_may, enters_in}
use Rattle.parse_raw.specs.Fences.{may_enter_any, may_hold_any}

pub any_in : (own : Name) (name : Option Name) (marks : List Mark) → may_hold_any own name ≡ true → may_enter_any (Entered own ∷ marks) name ≡ true
any_in own None marks holds = refl
any_in own (Some name) marks holds = enters_in own name marks holds

pub block_child : (marks : List Mark) (name : Name) → holds_blocks marks ≡ true → is_listed block_names name ≡ true → may_enter marks name ≡ true
block_child marks name holds listed =
    blocks_may marks name holds
    (or_right (same_name n.SpaceOrTab name) (is_listed (n.LineEnding ∷ n.BlankLineEnding ∷ n.BlockQuotePrefix ∷ block_names) name)
    (or_right (same_name n.LineEnding name) (is_listed (n.BlankLineEnding ∷ n.BlockQuotePrefix ∷ block_names) name)
    (or_right (same_name n.BlankLineEnding name) (is_listed (n.BlockQuotePrefix ∷ block_names) name)
    (or_right (same_name n.BlockQuotePrefix name) (is_listed block_names name) listed))))
