-- The laws of a text with another line ending in place of each LF.
use Rattle.std.specs.Prelude.{◌≡◌, ◌≢◌, ℕ, Bool, false, List, [], ◌∷◌, ◌++◌, map}
use Rattle.std.specs.List.{All}
use Rattle.markdown_options.specs.declared.line_ending.LineEnding.{LineEnding}
use Rattle.markdown_options.specs.declared.configuration.Constructs.{Constructs}
use Rattle.definition_text.specs.Ascii.{line_feed, carriage_return}
use Rattle.markdown_options.specs.declared.beside.Kind.{Kind}
use Rattle.markdown_options.specs.declared.beside.Kind.TheVariants.{Whitespace, Other}
use Rattle.markdown_options.specs.declared.line_ending.LineEnding.TheVariants.{CarriageReturnLineFeed}
use Rattle.definition_text.specs.Lines.{lines}
use Rattle.definition_block.specs.Definitions.{footnotes}
use Rattle.definition_block.specs.Tree.{blocks}
use Rattle.definition_text.specs.InlineCode.{InlineCode, first_kind}
use Rattle.definition_inline.specs.LabelMatch.{first_match}
use Rattle.definition_inline.specs.Scan.{InlineContext, inlines}
use Rattle.definition_block.specs.Definitions.{document_definitions}
use Rattle.laws_endings.specs.Endings.{with_ending, text_line_with, codes_with, definition_with, blocks_with}
use Rattle.laws_endings.specs.Inlines.{content_with, inlines_with}

-- no byte is CR
abbrev pub HasNoReturn : List ℕ → Type 0
HasNoReturn text = All (λ b. b ≢ carriage_return) text

-- the lines of the text with an ending in place of each LF are the text's, each with that ending in place of LF
abbrev pub EndingLinesLaw : Type 0
EndingLinesLaw = (e : LineEnding) (text : List ℕ) → HasNoReturn text → lines (with_ending e text) ≡ map (text_line_with e) (lines text)

-- the blocks of the text with an ending in place of each LF are the text's, with that ending in place of each LF of their lines and contents
abbrev pub BlocksLaw : Type 0
BlocksLaw =
    (e : LineEnding) (on : Constructs) (before : Kind) (text : List ℕ) → HasNoReturn text
    → blocks on before (with_ending e text) ≡ blocks_with e (blocks on before text)

-- the link reference definitions of the text with an ending in place of each LF are the text's, in the same order, with that ending in place of each LF
abbrev pub DefinitionsLaw : Type 0
DefinitionsLaw =
    (e : LineEnding) (on : Constructs) (before : Kind) (text : List ℕ) → HasNoReturn text
    → document_definitions (blocks on before (with_ending e text)) ≡ map (definition_with e) (document_definitions (blocks on before text))

-- the footnote definitions of the text with an ending in place of each LF have the labels of the text's, in the same order
abbrev pub FootnotesLaw : Type 0
FootnotesLaw =
    (e : LineEnding) (on : Constructs) (before : Kind) (text : List ℕ) → HasNoReturn text
    → footnotes (blocks on before (with_ending e text)) ≡ footnotes (blocks on before text)

-- a label matches the same one of some labels, whichever ending stands in it and in them
abbrev pub LabelsLaw : Type 0
LabelsLaw = (e : LineEnding) (label : List ℕ) (labels : List (List ℕ)) → first_match (codes_with e label) (map (codes_with e) labels) ≡ first_match label labels

-- the inline structure of a content with an ending in place of each LF is the content's, with that ending in place of each LF of its parts,
-- where a label is defined, and a footnote is called, whichever ending stands in the label
abbrev pub InlinesLaw : Type 0
InlinesLaw =
    (e : LineEnding) (context : InlineContext) (content : List InlineCode)
    → ((label : List ℕ) → context.is_defined (codes_with e label) ≡ context.is_defined label)
    → ((label : List ℕ) → context.is_footnote (codes_with e label) ≡ context.is_footnote label)
    → inlines context (content_with e content) ≡ inlines_with e (inlines context content)

-- the first two bytes of a character of three
abbrev pub cut_character : List ℕ
cut_character = 226 ∷ 128 ∷ []

-- A character that an ending cuts is not of the same kind before each ending, since the ending's code is read as its last byte:
-- before LF it is U+2000, a space, and before CR LF U+2081.
abbrev pub CutCharacterLaw : Type 0
CutCharacterLaw =
    (is_punctuation : ℕ → Bool) (end : Kind) → is_punctuation 0x2081 ≡ false
    → (first_kind is_punctuation end (cut_character ++ line_feed ∷ []) ≡ Whitespace)
    × (first_kind is_punctuation end (codes_with CarriageReturnLineFeed (cut_character ++ line_feed ∷ [])) ≡ Other)
