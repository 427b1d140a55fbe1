-- What the answers on a line stand for.
use Rattle.std.specs.Prelude.{ℕ, List, Option, None, Some}
use Rattle.std.proofs.Common.{Bor}
use Rattle.inline_tags.specs.Places as tag
use Rattle.inline_tags.specs.declared.tags.Place.{Place}
use Rattle.inline_tags.specs.declared.tags.Place.TheVariants as at

-- the bytes that follow, if there is a tag
abbrev pub rest_of : Option (Bor (List ℕ)) → Option (List ℕ)
rest_of None = None
rest_of (Some rest) = Some rest.now

-- a place in a tag
abbrev pub place_of : Place → tag.Place
place_of at.NameStart = tag.NameStart
place_of at.Name = tag.Name
place_of at.Space = tag.Space
place_of at.Attribute = tag.Attribute
place_of at.AttributeSpace = tag.AttributeSpace
place_of at.Equals = tag.Equals
place_of at.Unquoted = tag.Unquoted
place_of at.DoubleQuoted = tag.DoubleQuoted
place_of at.SingleQuoted = tag.SingleQuoted
place_of at.Quoted = tag.Quoted
place_of at.Slash = tag.Slash
place_of at.ClosingStart = tag.ClosingStart
place_of at.ClosingName = tag.ClosingName
place_of at.ClosingSpace = tag.ClosingSpace
place_of at.End = tag.End
place_of at.Nowhere = tag.Nowhere
