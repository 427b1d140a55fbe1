-- The text at the front of a content (CommonMark 6.9).
use Rattle.std.specs.Prelude.{◌≡◌, ◌<◌, ◌≤◌, ◌⊎◌, ℕ, Bool, true, false, List, drop, length, slice_index}
use Rattle.markdown_options.specs.declared.configuration.Constructs.{Constructs}
use Rattle.definition_text.specs.Ascii.{carriage_return}
use Rattle.definition_text.specs.Content.{content_codes}
use Rattle.inline_leaves.specs.Leaves.{IsAfter}
use Rattle.inline_text.specs.declared.plain.Front.{Front}
use Rattle.inline_text.specs.Plain.{begins_more, goes_on, is_front_at, is_text_at}
use Rattle.inline_text.specs.Verbatim.{AreVerbatim, TellsVerbatim}

-- a construct starts at none of its bytes, nor marked text or a literal where they are on, but for soft line breaks in verbatim text; one may start right
-- after them, if anything is left, or verbatim text, of some bytes, ends before a byte that makes text not verbatim
pub record IsTextFront (has_literals has_marks : Bool) (bytes : List ℕ) (front : Front) : Type 0 where
  pub within : front.size ≤ length bytes
  pub text : (k : ℕ) → k < front.size → is_front_at front.is_verbatim (drop k (content_codes bytes)) ≡ true
  pub plain : (k : ℕ) → k < front.size → slice_index bytes k ≡ carriage_return → ⊥
  pub bare : (k : ℕ) → k < front.size → begins_more has_literals has_marks (drop k bytes) ≡ false
  pub stops : front.size < length bytes
      → (is_text_at (drop front.size (content_codes bytes)) ≡ false) ⊎ ((begins_more has_literals has_marks (drop front.size bytes) ≡ true)
      ⊎ ((0 < front.size) × (goes_on has_literals (slice_index bytes front.size) ≡ true)))
  pub ascii : front.size < length bytes → slice_index bytes front.size < 128
  pub ending : 0 < front.size → IsAfter bytes (drop front.size bytes)
  pub verbatim : TellsVerbatim has_literals bytes front

-- so many bytes at the front are verbatim text and soft line breaks, and nothing else starts at them
pub record AreLines (has_literals has_marks : Bool) (bytes : List ℕ) (size : ℕ) : Type 0 where
  pub within : size ≤ length bytes
  pub text : (k : ℕ) → k < size → is_front_at true (drop k (content_codes bytes)) ≡ true
  pub plain : (k : ℕ) → k < size → slice_index bytes k ≡ carriage_return → ⊥
  pub bare : (k : ℕ) → k < size → begins_more has_literals has_marks (drop k bytes) ≡ false
  pub verbatim : AreVerbatim has_literals bytes size

-- the same with these constructs
abbrev pub IsTextOf : Constructs → List ℕ → Front → Type 0
IsTextOf on bytes front = IsTextFront on.gfm_autolink_literal on.mark bytes front
