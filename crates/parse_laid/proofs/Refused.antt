-- Rows that aren't laid in the lines of a text.
use Rattle.std.proofs.Common.{◌≡◌, Bool, true, false, [], ◌∷◌, None, Some, codes, refl, sym, ap, ◌∙◌, subst}
use Rattle.parse_laid.proofs.Prelude.{AtEnding, beside_line, Between, Blank, BlockRow, Container, Ending, EnterFootnote, EnterItem, EnterQuote, Exit}
use Rattle.parse_laid.proofs.Prelude.{false≢true, Footnote, InAll, InSome, is_blank, IsOn, Item, Leaf, line_left, line_rest, lines, Paragraph, Place, Prefixed}
use Rattle.parse_laid.proofs.Prelude.{Quote, Single, spaced_line, start_row, true≢false, unread, whole, Within}
use Rattle.markdown_options.specs.Defaults.{default_constructs}
use Rattle.markdown_options.specs.declared.beside.Kind.TheVariants.{Whitespace}
use Rattle.markdown_options.specs.declared.line_ending.LineEnding.TheVariants.{LineFeed}
use Rattle.definition_text.specs.Lines.{text_line}
use Rattle.definition_block.specs.HeadingAtx.{atx}
use Rattle.parse_laid.specs.Refused.{AreRefused, RefusedRows}
use Rattle.parse_laid.proofs.HeadingSetext.{no_text}

abbrev is_done : Place → Bool
is_done (Between []) = true
is_done (Between (next ∷ left)) = false
is_done (Within here left) = false
is_done (AtEnding ending left) = false

abbrev is_in_all : Prefixed → Bool
is_in_all (InAll line) = true
is_in_all (InSome line) = false

abbrev is_quote_row : BlockRow → Bool
is_quote_row (Single b) = false
is_quote_row EnterQuote = true
is_quote_row (EnterItem marker number) = false
is_quote_row (EnterFootnote label) = false
is_quote_row Exit = false

-- only a quote has this row
quote_row : (c : Container) → EnterQuote ≡ start_row c → c ≡ Quote
quote_row Quote e = refl
quote_row (Item item) e = absurd (true≢false (ap is_quote_row e))
quote_row (Footnote label) e = absurd (true≢false (ap is_quote_row e))

no_row : AreRefused (codes "a") []
no_row p = false≢true (ap is_done p.1)

no_blank_line : AreRefused (codes "a") (Single (Blank None) ∷ [])
no_blank_line p = let q = p.2.1 in false≢true (ap (λ x. is_blank (line_left x).rest) q.2.0 ∙ q.3)

no_paragraph : AreRefused (codes "# a") (Single (Leaf (Paragraph (spaced_line (codes "# a") None ∷ []))) ∷ Single (Ending None) ∷ [])
no_paragraph p =
    let from = Between (unread Whitespace (lines (codes "# a"))) in
    let laid = p.2.1 in
    no_text default_constructs [] laid.0 from laid.1 (line_rest (whole (codes "# a")) (beside_line Whitespace (text_line (codes "# a") None))) []
    (atx 1 (codes "a")) (refl, refl) refl laid.2

no_blank_in_quote : AreRefused (codes ">\n\n") (EnterQuote ∷ Single (Blank (Some LineFeed)) ∷ Single (Blank (Some LineFeed)) ∷ Exit ∷ [])
no_blank_in_quote p =
    let on = default_constructs in
    let empty = line_rest [] (beside_line Whitespace (text_line [] (Some LineFeed))) in
    let enters = p.2 in
    let starts = enters.3 in
    let quote : p.0 ≡ Quote ∷ [] = enters.2 ∙ ap (λ c. c ∷ []) (quote_row enters.0 enters.1) in
    let first = p.3.2 in
    let begun = first.1 in
    let here = subst (λ x. IsOn on p.0 x (InAll begun.0) begun.1) starts.6 begun.2 in
    let after : p.3.1 ≡ Between (empty ∷ []) = begun.5 ∙ ap Between (sym here.1 ∙ sym starts.3.1) in
    let around : p.3.0 ≡ Quote ∷ [] = first.0 ∙ quote in
    let second = p.3.3.2.1 in
    let in_quote = subst (λ x. IsOn on x p.3.1 (InAll second.0) second.1) around second.2 in
    let in_line = subst (λ x. IsOn on (Quote ∷ []) x (InAll second.0) second.1) after in_quote in
    false≢true (ap is_in_all in_line.0)

pub refused_rows : RefusedRows
refused_rows = (no_row, no_blank_line, no_paragraph, no_blank_in_quote)
