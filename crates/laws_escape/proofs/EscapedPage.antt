-- The page of an escaped line.
use Rattle.std.proofs.Common.{◌≡◌, ℕ, true, List, [], ◌∷◌, ◌++◌, None, refl, sym, ap, ◌∙◌, append_assoc}
use Rattle.laws_escape.proofs.Prelude.{add, AddsBytes, append-nil, block_and_ending, block_line, BlockLine, blocks, blocks_html, Bytes, codes, CompileOptions}
use Rattle.laws_escape.proofs.Prelude.{cond-false, Document, document, document_meaning, encode, ending_bytes, has_mark, html_is, inline_content, inlines}
use Rattle.laws_escape.proofs.Prelude.{IsTrimmedLine, Kind, kind_before_text, Leaf, LineEnding, marked_html, Options, page_layout, Paragraph, Piece}
use Rattle.laws_escape.proofs.Prelude.{reading_of, text_ending, text_of, TextTables, with_backslashes, with_footnotes, without_calls}
use Rattle.std.proofs.lemmas.Bool.{cond_both}
use Rattle.markdown_options.specs.declared.beside.Kind.TheVariants.{Whitespace}
use Rattle.markdown_compile_options.specs.RawHtml.{keeps_listed_html}
use Rattle.definition_inline.specs.Targets.{no_targets}
use Rattle.definition_page.specs.Read.{context_of}
use Rattle.definition_html.specs.Listed.{listed, with_listed}
use Rattle.html_safe_page.specs.SafePage.{IsSafePageBy}
use Rattle.html_safe_page.specs.Table.{start_rows}
use Rattle.html_safe_page.specs.declared.table.TagTable.TheVariants.{Basic}
use Rattle.html_safe_page.proofs.Closing.{closed}
use Rattle.html_listed.proofs.Unmarked.{unmarked_law}
use Rattle.html_bytes.specs.Layout.{layout_state}
use Rattle.html_bytes.proofs.SameLayout.{add_nil}
use Rattle.html_bytes.proofs.WithoutCalls.{adds_append}
use Rattle.laws_escape.proofs.PlainText.{content_codes, paragraph_bytes}
use Rattle.laws_escape.proofs.Escaped.{escape_law, escaped_calls_nothing}
use Rattle.laws_escape.specs.EscapedPage.{EscapedPageLaw, paragraph_of, PrintedEscapedLaw}
use Rattle.laws_escape.proofs.Paragraph.{one_paragraph}
use Rattle.laws_escape.proofs.EscapedLine.{Begins, begins_nothing, escaped_in_line, no_mark}

-- a text in the tags of a paragraph, and nothing after it
paragraph_adds : (options : CompileOptions) (default : List ℕ) (text : List Piece) (said : List ℕ) → AddsBytes options default text said
    → AddsBytes options default (text ++ Bytes (codes "</p>") ∷ [] ++ Bytes [] ∷ [] ++ []) (said ++ codes "</p>")
paragraph_adds options default text said adds l =
    let block_and_ending = text ++ Bytes (codes "</p>") ∷ [] in
    let all = said ++ codes "</p>" in
    let here = adds_append options default text (Bytes (codes "</p>") ∷ []) said (codes "</p>") adds (λ l. refl) in
    let more = adds_append options default block_and_ending (Bytes [] ∷ []) all [] here (λ l. refl) in
    adds_append options default (block_and_ending ++ Bytes [] ∷ []) [] (all ++ []) [] more (λ l. sym (add_nil l)) l
    ∙ ap (add l) (append-nil (all ++ []) ∙ append-nil all)

-- what a document of one paragraph prints, where its text adds these bytes
paragraph_html : (tables : TextTables) (options : Options) (ending : LineEnding) (ls : List BlockLine) (said : List ℕ)
    → AddsBytes options.compile (ending_bytes ending) (text_of (document options tables no_targets) ls) said
    → blocks_html tables options ending (block_and_ending (Leaf (Paragraph ls)) None) ≡ codes "<p>" ++ said ++ codes "</p>"
paragraph_html tables options ending ls said adds =
    let default = ending_bytes ending in
    let d = document options tables no_targets in
    let text = text_of d ls in
    ap (λ ps. page_layout options.compile default (ps ++ Bytes [] ∷ [] ++ [])) (paragraph_bytes d ls)
    ∙ ap (with_footnotes options.compile default) (paragraph_adds options.compile default text said adds (layout_state (codes "<p>") [] [] [] []))
    ∙ sym (append_assoc (codes "<p>") said (codes "</p>"))

-- what the paragraph of an escaped line says
line_says : (d : Document) (options : CompileOptions) (default line : List ℕ) (before : Kind) → d.options.parse.constructs.character_escape ≡ true
    → IsTrimmedLine line → AddsBytes options default (text_of d (block_line (with_backslashes line) None before ∷ [])) (encode line)
line_says d options default line before on h l =
    let ls = block_line (with_backslashes line) None before ∷ [] in
    let context = context_of (reading_of d) in
    let content = inline_content d.tables.is_punctuation Whitespace ls in
    let same = content_codes d.tables.is_punctuation Whitespace ls (escaped_in_line line h.0) ∙ append-nil (with_backslashes line ++ [])
    ∙ append-nil (with_backslashes line) in
    without_calls options default (document_meaning d) (inlines context content) (escaped_calls_nothing context content line on h same) l
    ∙ ap (add l) (escape_law context (document_meaning d) content line on h same)

-- the blocks of an escaped line
its_blocks : (options : Options) (before : Kind) (line : List ℕ) → Begins (with_backslashes line)
    → blocks options.parse.constructs before (with_backslashes line)
    ≡ block_and_ending (Leaf (Paragraph (block_line (with_backslashes line) None before ∷ []))) None
its_blocks options before line h =
    let on = options.parse.constructs in
    ap (blocks on before) h.are ∙ one_paragraph on h.first h.others h.line before
    ∙ ap (λ xs. block_and_ending (Leaf (Paragraph (block_line xs None before ∷ []))) None) (sym h.are)

marked_page : (tables : TextTables) (line : List ℕ) (options : Options) (before : Kind) → options.parse.constructs.character_escape ≡ true
    → IsTrimmedLine line → Begins (with_backslashes line)
    → marked_html tables before (with_backslashes line) options ≡ codes "<p>" ++ encode line ++ codes "</p>"
marked_page tables line options before on h begins =
    let ending = text_ending options (with_backslashes line) in
    ap (blocks_html tables options ending) (its_blocks options before line begins)
    ∙ paragraph_html tables options ending (block_line (with_backslashes line) None before ∷ []) (encode line)
    (line_says (document options tables no_targets) options.compile (ending_bytes ending) line before on h)

pub printed_escaped_law : PrintedEscapedLaw
printed_escaped_law tables [] options on some h unmarked = absurd (some refl)
printed_escaped_law tables (b ∷ bs) options on some h unmarked =
    let text = with_backslashes (b ∷ bs) in
    let before = kind_before_text text in
    html_is tables text options
    ∙ ap (λ xs. marked_html tables before xs options) (cond-false (has_mark text) _ text (no_mark (b ∷ bs) unmarked))
    ∙ marked_page tables (b ∷ bs) options before on h (begins_nothing b bs h)

-- ---- HTML

-- a paragraph is a safe page without raw HTML
paragraph_safe : (line : List ℕ) → IsSafePageBy Basic (paragraph_of line)
unfolding start_rows
paragraph_safe line = (closed Basic).tags_around (record { name = codes "p"; attributes = [] }) (encode line) refl ((closed Basic).text line)

pub escaped_page_law : EscapedPageLaw
escaped_page_law tables line options on some h unmarked =
    let compile = options.compile in
    let page = paragraph_of line in
    ap (with_listed tables.names compile) (printed_escaped_law tables line options on some h unmarked)
    ∙ cond_both (keeps_listed_html compile) (listed tables.names compile page) page (λ bytes. bytes ≡ page)
    (λ _. unmarked_law tables.names compile Basic page (paragraph_safe line)) (λ _. refl)
