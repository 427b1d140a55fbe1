-- Paragraphs and headings, laid out step by step.
use Rattle.std.proofs.Common.{◌≡◌, ℕ, ◌+◌, Bool, true, false, if◌then◌else◌, List, [], ◌∷◌, ◌++◌, sym, ap, ◌∙◌, codes}
use Rattle.html_rows.proofs.Prelude.{bare_tag, BlockLine, Document, document_meaning, ending_bytes, fold, Heading, inline_pieces, lay, layout_after}
use Rattle.html_rows.proofs.Prelude.{laid_both, LayoutState, leaf_bytes, LineEnding, on_page, reading_of, with_bytes, with_fresh, with_tag}
use Rattle.definition_block.specs.Tree.{Paragraph}
use Rattle.definition_page.specs.BlockPieces.{heading_name, heading_start}
use Rattle.definition_page.specs.HeadingText.{heading_text}
use Rattle.definition_page.specs.Pieces.{Open, Close, Named}
use Rattle.definition_page.specs.Read.{read_text, read_paragraph}
use Rattle.html_bytes.specs.Document.{text_of, paragraph_of}
use Rattle.html_bytes.specs.Pieces as laid
use Rattle.html_bytes.specs.Pieces.{piece_bytes}
use Rattle.html_rows.specs.Headings.{heading_bytes}
use Rattle.html_looseness.specs.Levels.{standing_first}
use Rattle.html_leaves.proofs.LeafLaid.{element_laid}

-- a paragraph between its tags
pub loose_laid : (d : Document) (e : LineEnding) (tight first : Bool) (ls : List BlockLine) (out tag text : LayoutState)
    → tight ≡ false → tag ≡ with_tag (ending_bytes e) (codes "<p>") out
    → text ≡ fold (lay d.options.compile (ending_bytes e)) tag (paragraph_of d first ls)
    → with_bytes (codes "</p>") text ≡ layout_after d.options.compile e out (leaf_bytes d (standing_first first) tight (Paragraph ls))
loose_laid d e tight first ls out tag text loose is_tag is_text =
    let o = d.options.compile in
    let default = ending_bytes e in
    let inside = inline_pieces (document_meaning d) (read_paragraph (reading_of d) first ls) in
    ap (with_bytes (codes "</p>")) (is_text ∙ ap (λ x. fold (lay o default) x (paragraph_of d first ls)) is_tag)
    ∙ sym (element_laid o default (bare_tag (codes "p")) inside (with_fresh default out))
    ∙ ap (λ t. layout_after o e out (leaf_bytes d (standing_first first) t (Paragraph ls))) (sym loose)

-- a heading on a fresh line, before its end tag
pub heading_laid : (d : Document) (e : LineEnding) (rank : ℕ) (ls : List BlockLine) (out line text : LayoutState)
    → line ≡ with_fresh (ending_bytes e) out → text ≡ layout_after d.options.compile e line (heading_bytes d rank ls)
    → with_bytes (codes "</h" ++ (48 + rank) ∷ codes ">") text ≡ layout_after d.options.compile e out (leaf_bytes d on_page false (Heading rank ls))
heading_laid d e rank ls out line text is_line is_text =
    let o = d.options.compile in
    let default = ending_bytes e in
    let m = document_meaning d in
    let is = read_text (reading_of d) ls in
    ap (with_bytes (codes "</h" ++ (48 + rank) ∷ codes ">")) (is_text ∙ ap (λ x. layout_after o e x (heading_bytes d rank ls)) is_line)
    ∙ sym (laid_both o default (with_fresh default out) (heading_start m rank is ∷ inline_pieces m is) (Close (heading_name rank) ∷ []))

-- where headings have ids, and where they have none
pub heading_named : (d : Document) (rank : ℕ) (ls : List BlockLine) → d.options.compile.heading_ids ≡ true
    → laid.Named (bare_tag (heading_name rank)) (heading_text (read_text (reading_of d) ls)) ∷ text_of d ls ≡ heading_bytes d rank ls
heading_named d rank ls on =
    let is = read_text (reading_of d) ls in
    let t = bare_tag (heading_name rank) in
    ap (λ b. piece_bytes (if b then Named t (heading_text is) else Open t) ∷ text_of d ls) (sym on)

pub heading_plain : (d : Document) (rank : ℕ) (ls : List BlockLine) → d.options.compile.heading_ids ≡ false
    → laid.Bytes (codes "<h" ++ (48 + rank) ∷ codes ">") ∷ text_of d ls ≡ heading_bytes d rank ls
heading_plain d rank ls off =
    let is = read_text (reading_of d) ls in
    let t = bare_tag (heading_name rank) in
    ap (λ b. piece_bytes (if b then Named t (heading_text is) else Open t) ∷ text_of d ls) (sym off)
