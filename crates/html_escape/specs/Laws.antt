-- Laws of what the tools print.
use Rattle.std.specs.Prelude.{◌≡◌, ℕ, Bool, true, not, ◌==◌, ◌||◌, List, IsTrue}
use Rattle.std.specs.List.{list_all}
use Rattle.definition_text.specs.Ascii.{double_quote, less_than, greater_than}
use Rattle.definition_text.specs.Encode.{encode}
use Rattle.definition_page.specs.Urls.{permits, sanitized_with}

-- a byte that neither begins nor ends a tag nor ends a quoted value
abbrev pub is_inert : ℕ → Bool
is_inert b = not ((b == double_quote) || (b == less_than) || (b == greater_than))

-- what is printed for a text has no `"`, `<` and `>`
abbrev pub EncodeLaw : Type 0
EncodeLaw = (text : List ℕ) → IsTrue (list_all is_inert (encode text))

-- what is printed for a URL has a permitted protocol, or none
abbrev pub ProtocolLaw : Type 0
ProtocolLaw = (protocols : List (List ℕ)) (url : List ℕ) → permits protocols (sanitized_with protocols url) ≡ true
