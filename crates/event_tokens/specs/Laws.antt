-- What holds of all tokens.
use Rattle.std.specs.Prelude.{◌≡◌, ◌<◌, ℕ, true, List, slice_index}
use Rattle.std.specs.Str.{is_utf8}
use Rattle.engine_events.specs.declared.event.Name.{Name}
use Rattle.event_tokens.specs.Tokens.{is_token}

-- each is a byte
abbrev pub AreBytes : List ℕ → Type 0
AreBytes bytes = (k : ℕ) → slice_index bytes k < 256

-- bytes that a token may have are whole characters
abbrev pub TokensAreCharacters : Type 0
TokensAreCharacters = (name : Name) (bytes : List ℕ) → AreBytes bytes → is_token name bytes ≡ true → is_utf8 bytes ≡ true
