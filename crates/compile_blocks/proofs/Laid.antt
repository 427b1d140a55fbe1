-- What is laid out, step by step.
use Rattle.std.proofs.Common.{◌≡◌, ℕ, ◌+◌, Bool, true, false, if◌then◌else◌, List, [], ◌∷◌, ◌++◌, sym, ap, ◌∙◌, codes}
use Rattle.markdown_compile_options.specs.declared.configuration.CompileOptions.{CompileOptions}
use Rattle.compile_blocks.proofs.Prelude.{bare_tag, element, Fresh, Heading, in_bytes, inline_pieces, Inlines, layout_after, leaf_block_pieces, LineEnding}
use Rattle.compile_blocks.proofs.Prelude.{Meaning}
use Rattle.markdown_options.specs.LineEndings.{ending_bytes}
use Rattle.definition_page.specs.BlockPieces.{Place, heading_name, heading_start}
use Rattle.definition_page.specs.HeadingText.{heading_text}
use Rattle.definition_page.specs.Pieces.{Piece, Open, Close, Named}
use Rattle.html_bytes.proofs.SameText.{laid_both}
use Rattle.html_bytes.specs.Layout.{LayoutState}
use Rattle.html_leaves.specs.Prints.{with_bytes, with_fresh, with_tag}
use Rattle.html_leaves.proofs.LeafLaid.{element_laid}

-- a paragraph between its tags
pub paragraph_laid : (options : CompileOptions) (e later : LineEnding) (out tag text : LayoutState) (ps : List Piece) → later ≡ e
    → tag ≡ with_tag (ending_bytes e) (codes "<p>") out → text ≡ layout_after options later tag (in_bytes ps)
    → with_bytes (codes "</p>") text ≡ layout_after options e out (in_bytes (Fresh ∷ element (bare_tag (codes "p")) ps))
paragraph_laid options e later out tag text ps same is_tag is_text =
    ap (with_bytes (codes "</p>"))
    (is_text
    ∙ ap (λ (x : LineEnding). layout_after options x tag (in_bytes ps)) same
    ∙ ap (λ x. layout_after options e x (in_bytes ps)) is_tag)
    ∙ sym (element_laid options (ending_bytes e) (bare_tag (codes "p")) ps (with_fresh (ending_bytes e) out))

-- a heading and its end tag, where its start is one of these pieces
pub heading_laid : (m : Meaning) (place : Place) (e later : LineEnding) (rank : ℕ) (out line text : LayoutState) (is : Inlines) → later ≡ e
    → line ≡ with_fresh (ending_bytes e) out → text ≡ layout_after m.compile later line (in_bytes (heading_start m rank is ∷ inline_pieces m is))
    → with_bytes (codes "</h" ++ (48 + rank) ∷ codes ">") text ≡ layout_after m.compile e out (in_bytes (leaf_block_pieces m place (Heading rank is)))
heading_laid m place e later rank out line text is same is_line is_text =
    let ps = heading_start m rank is ∷ inline_pieces m is in
    ap (with_bytes (codes "</h" ++ (48 + rank) ∷ codes ">"))
    (is_text
    ∙ ap (λ (x : LineEnding). layout_after m.compile x line (in_bytes ps)) same
    ∙ ap (λ x. layout_after m.compile e x (in_bytes ps)) is_line)
    ∙ sym (laid_both m.compile (ending_bytes e) (with_fresh (ending_bytes e) out) ps (Close (heading_name rank) ∷ []))

-- the start of a heading, with an id or without
pub named_start : (m : Meaning) (rank : ℕ) (is : Inlines) → m.compile.heading_ids ≡ true
    → Named (bare_tag (heading_name rank)) (heading_text is) ≡ heading_start m rank is
named_start m rank is h =
    let t = bare_tag (heading_name rank) in ap (λ (b : Bool). if b then Named t (heading_text is) else Open t) (sym h)

pub plain_start : (m : Meaning) (rank : ℕ) (is : Inlines) → m.compile.heading_ids ≡ false → Open (bare_tag (heading_name rank)) ≡ heading_start m rank is
plain_start m rank is h =
    let t = bare_tag (heading_name rank) in ap (λ (b : Bool). if b then Named t (heading_text is) else Open t) (sym h)

-- the start of a heading without an id, and its text
pub plain_heading_laid : (m : Meaning) (e later : LineEnding) (rank : ℕ) (out tag : LayoutState) (is : Inlines) → m.compile.heading_ids ≡ false
    → later ≡ e → tag ≡ with_bytes (codes "<h" ++ (48 + rank) ∷ codes ">") out
    → layout_after m.compile later tag (in_bytes (inline_pieces m is)) ≡ layout_after m.compile e out (in_bytes (heading_start m rank is ∷ inline_pieces m is))
plain_heading_laid m e later rank out tag is off same is_tag =
    let ps = inline_pieces m is in
    ap (λ (x : LineEnding). layout_after m.compile x tag (in_bytes ps)) same
    ∙ ap (λ x. layout_after m.compile e x (in_bytes ps)) is_tag
    ∙ ap (λ start. layout_after m.compile e out (in_bytes (start ∷ ps))) (plain_start m rank is off)
