-- The text of a content with a check, and of one without.
use Rattle.std.proofs.Common.{◌≡◌, ℕ, Bool, List, ◌∷◌, Option, None, Some, sym, ap, ◌∙◌, drop}
use Rattle.html_contents.proofs.Prelude.{check_size, context_of, inlines_from, reading_of, structure_pieces}
use Rattle.definition_inline.specs.GfmTaskListItem.{check_at}
use Rattle.definition_text.specs.InlineCode.{InlineCode, codes_of}
use Rattle.definition_page.specs.GfmTaskListItem.{check_tag}
use Rattle.definition_page.specs.Read.{checked_text}
use Rattle.definition_page.specs.Tags.{void_tag}
use Rattle.html_bytes.specs.Document.{Document}
use Rattle.html_bytes.specs.Pieces.{Piece, Bytes}

module _ (d : Document) (first : Bool) (content here : List InlineCode) (codes : List ℕ) (is : here ≡ content) (read : codes_of here ≡ codes) where
  check_is : (found : Option Bool) → found ≡ check_at d.options.parse.constructs first codes
      → found ≡ check_at d.options.parse.constructs first (codes_of content)
  check_is found e = e ∙ ap (check_at d.options.parse.constructs first) (sym read ∙ ap codes_of is)

  -- what is printed of a content, and of one with this check
  abbrev text_from : List InlineCode → List Piece
  text_from content = structure_pieces d (inlines_from (context_of (reading_of d)) content)

  abbrev text_with : Option Bool → List Piece
  text_with found = structure_pieces d (checked_text (reading_of d) content found)

  pub text_alone : None ≡ check_at d.options.parse.constructs first codes
      → text_from here ≡ text_with (check_at d.options.parse.constructs first (codes_of content))
  text_alone none = ap text_from is ∙ ap text_with (check_is None none)

  pub text_checked : (done : Bool) (after : List InlineCode) → Some done ≡ check_at d.options.parse.constructs first codes → drop check_size here ≡ after
      → Bytes (void_tag (check_tag d.options.compile done)) ∷ text_from after ≡ text_with (check_at d.options.parse.constructs first (codes_of content))
  text_checked done after found rest =
      ap (λ v. Bytes (void_tag (check_tag d.options.compile done)) ∷ text_from v) (sym rest ∙ ap (drop check_size) is)
      ∙ ap text_with (check_is (Some done) found)
