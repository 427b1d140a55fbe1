-- What the definition's pieces of a leaf lay out, step by step.
use Rattle.std.proofs.Common.{◌≡◌, ℕ, false, List, [], ◌∷◌, ◌++◌, refl, sym, ap, ◌∙◌, codes, map}
use Rattle.std.specs.List.{fold, flat_map}
use Rattle.std.proofs.lemmas.List.{append-nil}
use Rattle.html_leaves.proofs.Prelude.{BlockLine, bytes_of, code_byte, code_of, CompileOptions, encode, end_said, ending_text, flat_map-append, html_of}
use Rattle.html_leaves.proofs.Prelude.{LayoutState, raw_bytes, with_bytes, with_fresh, with_tag}
use Rattle.definition_page.specs.BlockPieces.{says, code_line, html_line}
use Rattle.definition_page.specs.InlinePieces.{element}
use Rattle.definition_page.specs.Pieces as page
use Rattle.definition_page.specs.Tags.{PrintedPart, said_bytes, Attribute, attribute_bytes, Tag, tag, bare_tag, start_tag, end_tag}
use Rattle.html_bytes.specs.Layout.{lay}
use Rattle.html_bytes.specs.Pieces.{in_bytes}
use Rattle.html_bytes.proofs.SameLayout.{add_add, says_added}
use Rattle.html_bytes.proofs.SameText.{laid_both, pieces_same}
use Rattle.html_leaves.specs.CodeLines.{code_line_bytes, html_line_bytes}

-- ---- what lines say

code_line_said : (line : BlockLine) → flat_map said_bytes (code_line line) ≡ code_line_bytes line
code_line_said line = ap (λ x. encode (map code_byte line.codes) ++ x) (append-nil (encode (ending_text line.ending)) ∙ end_said line.ending)

code_said : (ls : List BlockLine) → flat_map said_bytes (flat_map code_line ls) ≡ code_of ls
code_said [] = refl
code_said (l ∷ ls) =
    flat_map-append said_bytes (code_line l) (flat_map code_line ls)
    ∙ ap (λ x. x ++ flat_map said_bytes (flat_map code_line ls)) (code_line_said l)
    ∙ ap (λ x. code_line_bytes l ++ x) (code_said ls)

html_line_said : (options : CompileOptions) (line : BlockLine) → flat_map said_bytes (html_line options line) ≡ html_line_bytes options line
html_line_said options line =
    ap (λ x. raw_bytes false options (bytes_of line.codes) ++ x) (append-nil (encode (ending_text line.ending)) ∙ end_said line.ending)

html_said : (options : CompileOptions) (ls : List BlockLine) → flat_map said_bytes (flat_map (html_line options) ls) ≡ html_of options ls
html_said options [] = refl
html_said options (l ∷ ls) =
    flat_map-append said_bytes (html_line options l) (flat_map (html_line options) ls)
    ∙ ap (λ x. x ++ flat_map said_bytes (flat_map (html_line options) ls)) (html_line_said options l)
    ∙ ap (λ x. html_line_bytes options l ++ x) (html_said options ls)

-- ---- pieces

module _ (options : CompileOptions) (default : List ℕ) where
  -- after pieces of the definition
  abbrev pub after_pieces : LayoutState → List page.Piece → LayoutState
  after_pieces l ps = fold (lay options default) l (in_bytes ps)

  says_laid : (parts : List PrintedPart) (l : LayoutState) → after_pieces l (says parts) ≡ with_bytes (flat_map said_bytes parts) l
  says_laid parts l = sym (pieces_same options default (says parts) l) ∙ says_added options default parts l

  pub code_laid : (ls : List BlockLine) (l : LayoutState) → after_pieces l (says (flat_map code_line ls)) ≡ with_bytes (code_of ls) l
  code_laid ls l = says_laid (flat_map code_line ls) l ∙ ap (λ x. with_bytes x l) (code_said ls)

  pub html_laid : (ls : List BlockLine) (l : LayoutState) → after_pieces l (says (flat_map (html_line options) ls)) ≡ with_bytes (html_of options ls) l
  html_laid ls l = says_laid (flat_map (html_line options) ls) l ∙ ap (λ x. with_bytes x l) (html_said options ls)

  -- an element
  pub element_laid : (t : Tag) (inside : List page.Piece) (l : LayoutState)
      → after_pieces l (element t inside) ≡ with_bytes (end_tag t.name) (after_pieces (with_bytes (start_tag t) l) inside)
  element_laid t inside l = laid_both options default (with_bytes (start_tag t) l) inside (page.Close t.name ∷ [])

  -- one of code, in `pre`
  pub code_element_laid : (attributes : List Attribute) (inside : List page.Piece) (l : LayoutState)
      → after_pieces l (element (bare_tag (codes "pre")) (element (tag (codes "code") attributes) inside))
      ≡ with_bytes (codes "</code></pre>") (after_pieces (with_bytes (codes "<pre><code" ++ flat_map attribute_bytes attributes ++ codes ">") l) inside)
  code_element_laid attributes inside l =
      let code = tag (codes "code") attributes in
      let pre = with_bytes (codes "<pre>") l in
      let content = after_pieces (with_bytes (start_tag code) pre) inside in
      element_laid (bare_tag (codes "pre")) (element code inside) l
      ∙ ap (with_bytes (codes "</pre>")) (element_laid code inside pre)
      ∙ add_add content (codes "</code>") (codes "</pre>")
      ∙ ap (λ x. with_bytes (codes "</code></pre>") (after_pieces x inside)) (add_add l (codes "<pre>") (start_tag code))

  -- lines of code, which end with a fresh line
  pub lines_laid : (ls : List BlockLine) (l : LayoutState)
      → after_pieces l (says (flat_map code_line ls) ++ page.Fresh ∷ []) ≡ with_fresh default (with_bytes (code_of ls) l)
  lines_laid ls l = laid_both options default l (says (flat_map code_line ls)) (page.Fresh ∷ []) ∙ ap (with_fresh default) (code_laid ls l)

  -- the same of a fence: the last line keeps its ending, or has the default one
  pub kept_lines_laid : (ls : List BlockLine) (l : LayoutState)
      → after_pieces l ((says (flat_map code_line ls) ++ []) ++ page.Fresh ∷ []) ≡ with_fresh default (with_bytes (code_of ls) l)
  kept_lines_laid ls l = ap (λ ps. after_pieces l (ps ++ page.Fresh ∷ [])) (append-nil (says (flat_map code_line ls))) ∙ lines_laid ls l

  pub cut_lines_laid : (ls : List BlockLine) (l : LayoutState)
      → after_pieces l ((says (flat_map code_line ls) ++ page.Eol ∷ []) ++ page.Fresh ∷ [])
      ≡ with_fresh default (with_bytes default (with_bytes (code_of ls) l))
  cut_lines_laid ls l =
      let lines = says (flat_map code_line ls) in
      laid_both options default l (lines ++ page.Eol ∷ []) (page.Fresh ∷ [])
      ∙ ap (with_fresh default) (laid_both options default l lines (page.Eol ∷ []) ∙ ap (with_bytes default) (code_laid ls l))

  -- indented code (CommonMark 4.4)
  pub indented_laid : (ls : List BlockLine) (l : LayoutState)
      → after_pieces l (page.Fresh ∷ element (bare_tag (codes "pre")) (element (bare_tag (codes "code")) (says (flat_map code_line ls) ++ page.Fresh ∷ [])))
      ≡ with_tag default (codes "</code></pre>") (with_bytes (code_of ls) (with_tag default (codes "<pre><code>") l))
  indented_laid ls l =
      code_element_laid [] (says (flat_map code_line ls) ++ page.Fresh ∷ []) (with_fresh default l)
      ∙ ap (with_bytes (codes "</code></pre>")) (lines_laid ls (with_tag default (codes "<pre><code>") l))
