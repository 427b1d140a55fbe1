-- Events that hold no other, from an end to another.
use Rattle.std.specs.Prelude.{◌≡◌, ℕ, List, true, false}
use Rattle.engine_events.specs.declared.event.Name.{Name}
use Rattle.event_tokens.specs.Bytes.{same_spot}
use Rattle.event_tokens.specs.Tokens.{is_token}
use Rattle.parse_output.specs.declared.end.End.{End}
use Rattle.parse_output.specs.Ends.{Follows, same_end}
use Rattle.parse_output.specs.Joined.{end_spot, text_between}

-- a token of a name goes from an end to another, and may have the bytes between them, unless the ends are one: such a token isn't written
pub record IsToken (text : List ℕ) (name : Name) (from to : End) : Type 0 where
  pub follows : Follows text from to
  pub bytes : same_end to from ≡ false → is_token name (text_between text from to) ≡ true

-- a token that ends at another place than it begins: a byte is between them, or a column of a tab
pub record IsSizedToken (text : List ℕ) (name : Name) (from to : End) : Type 0 where
  pub follows : Follows text from to
  pub bytes : is_token name (text_between text from to) ≡ true
  pub apart : same_spot (end_spot text from) (end_spot text to) ≡ false
