-- What strings and labels of the caller's stand for, and what a call for one leaves in the caller's buffer.
use Rattle.std.specs.Prelude.{◌≡◌, ◌≤◌, ◌<◌, ◌↔◌, ℕ, List, length}
use Rattle.std.specs.Str.{IsUtf8}
use Rattle.markdown_options.specs.Defaults.{default_constructs}
use Rattle.definition_text.specs.Content.{content_codes}
use Rattle.definition_inline.specs.BuiltinReferences.{builtin_names}
use Rattle.definition_inline.specs.Strings.{string_text}
use Rattle.markdown_buffers.specs.Pages.{HoldsPage}

-- the text that a string stands for, by the constructs of CommonMark and the built-in names
abbrev pub decoded : List ℕ → List ℕ
decoded text = string_text default_constructs builtin_names (content_codes text)

-- with the status 0 the buffer begins with what is written for a text; with any other it is unchanged. With 0 and 1 its size is stored, otherwise 0.
-- 2 comes exactly for a text that isn't UTF-8, and 5 is out of memory
pub record StoresText (text written old new : List ℕ) (size status : ℕ) : Type 0 where
  pub ok : status ≡ 0 → HoldsPage written old new
  pub unchanged : ¬ (status ≡ 0) → new ≡ old
  pub stored : status ≤ 1 → size ≡ length written
  pub room : status ≤ 1 → ((status ≡ 0) ↔ (size ≤ length old))
  pub none : 1 < status → size ≡ 0
  pub utf8 : (status ≡ 2) ↔ (¬ IsUtf8 text)
  pub memory : 2 < status → status ≡ 5
