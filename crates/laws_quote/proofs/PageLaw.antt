-- With `> ` before every line, a text prints a block quote around what it prints alone.
use Rattle.std.proofs.Common.{◌≡◌, ℕ, zero, suc, List, [], ◌∷◌, ◌++◌, Bool, true, false, None, refl, sym, ap, subst, ◌∙◌}
use Rattle.std.specs.Prelude.{◌≢◌, if◌then◌else◌, codes, drop, map, unwrap_or, not}
use Rattle.std.specs.Fn.{iterate}
use Rattle.std.proofs.lemmas.List.Sums.{fold-append}
use Rattle.markdown_options.specs.declared.line_ending.LineEnding.{LineEnding}
use Rattle.markdown_options.specs.declared.configuration.Constructs.{Constructs}
use Rattle.markdown_compile_options.specs.declared.configuration.Options.{Options}
use Rattle.markdown_options.specs.LineEndings.{ending_bytes}
use Rattle.markdown_options.specs.declared.beside.Kind.TheVariants.{Whitespace, Other}
use Rattle.definition_text.specs.Lines.{TextLine, lines, first_of, first_line, has_mark}
use Rattle.definition_block.specs.Tree as tree
use Rattle.definition_block.specs.Lists.{group_items}
use Rattle.definition_inline.specs.Definition.{Definition}
use Rattle.definition_page.specs.TextTables.{TextTables}
use Rattle.definition_inline.specs.Targets.{targets, linked_by}
use Rattle.definition_block.specs.Definitions.{document_definitions, with_spaces}
use Rattle.definition_page.specs.Tags.{end_tag}
use Rattle.definition_page.specs.Pieces.{Close, Fresh}
use Rattle.definition_page.specs.InlinePieces.{Meaning}
use Rattle.definition_page.specs.BlockPieces.{at_top, inside, fresh_unless, children_pieces}
use Rattle.definition_page.specs.DocumentPieces.{pieces, default_ending}
use Rattle.definition_page.specs.Read as read
use Rattle.definition_page.specs.Read.{Reading, on_page, in_container, read_blocks, ends_blank, page_with, read_after}
use Rattle.definition_page.specs.PrintedPage.{printed_page}
use Rattle.definition_page.specs.Layout.{layout, page_layout}
use Rattle.definition_page.proofs.PlainLayout.{plain_page}
use Rattle.laws_block.proofs.TextLines.{join-without_last}
use Rattle.laws_quote.specs.Quoted.{quote_lines}
use Rattle.laws_quote.specs.Laws.{quoted_line, quote_of}
use Rattle.laws_quote.proofs.Tabs.{Tabless-from_All, Tabless-to_All, quoted_tabless}
use Rattle.laws_quote.proofs.Lines.{quoted_lines_law}
use Rattle.laws_quote.proofs.Quotes.{quote_law, quote_definitions_law}
use Rattle.laws_quote.proofs.Endings.{at_last}
use Rattle.laws_quote.specs.Squeeze.{SqueezeState, kept_and_run, with_byte, with_bytes, nothing_yet, squeeze}
use Rattle.laws_options.proofs.Unlisted.{unlisted_law}
use Rattle.laws_quote.specs.PageLaws.{IsQuotable, PrintedQuoteLaw, PrintedQuotesLaw, quote_around, QuotePageLaw, QuotePagesLaw}
use Rattle.laws_quote.proofs.Bytes.{bytes_after_text}
use Rattle.laws_quote.proofs.Printed.{PrintState, nothing_printed, state_after_text, with_piece, with_pieces, pieces_printed, pieces_after_text, kept_at_fresh}
use Rattle.laws_quote.proofs.PlainPages.{HaveNoNotes, text_without_notes, no_labels, document_plain}
use Rattle.laws_quote.proofs.Lists.{grouped-join}
use Rattle.laws_quote.proofs.Siblings.{print_siblings, same_in_quote, keep_join}

pub join-nil : (bs : tree.Blocks) → tree.join bs tree.Nil ≡ bs
join-nil tree.Nil = refl
join-nil (tree.Cons b bs) = ap (tree.Cons b) (join-nil bs)

-- ---- tags of a quote around what is squeezed

abbrev quote_end : List ℕ
quote_end = end_tag (codes "blockquote")

-- what is kept of a quote around what is kept
abbrev kept_around : List ℕ → List ℕ
kept_around kept = (with_bytes (kept_and_run (codes "<blockquote>" ++ kept) None) quote_end).kept

squeeze_around : (bytes : List ℕ) → squeeze (quote_around bytes) ≡ kept_around (squeeze bytes)
squeeze_around bytes =
    let start = codes "<blockquote>" in
    ap (λ s. s.kept) (fold-append with_byte nothing_yet (start ++ bytes) quote_end)
    ∙ ap (λ s. (with_bytes s quote_end).kept)
    (fold-append with_byte nothing_yet start bytes ∙ bytes_after_text start bytes nothing_yet)

-- ---- the page of children of a document, with these definitions and no footnotes

module _ (tables : TextTables) (options : Options) (default : LineEnding) (ds : List Definition) where
  abbrev pub reading : Reading
  reading = read.reading tables options.parse (targets ds [])

  abbrev pub meaning : Meaning
  meaning = record { on = options.parse.constructs; compile = options.compile; names = tables.names; definition = linked_by ds; footnotes = [] }

  abbrev pub page_bytes : tree.Blocks → List ℕ
  page_bytes bs = layout (ending_bytes default) (pieces tables options (page_with tables options.parse (targets ds []) bs))

  -- children in a quote, squeezed
  abbrev pub squeezed_kids : tree.Blocks → SqueezeState
  squeezed_kids bs = (print_siblings default meaning (inside false) None (read_blocks reading in_container (group_items bs)) nothing_printed).squeezed

  -- it is laid out piece by piece
  pub laid_out : (bs : tree.Blocks) → HaveNoNotes bs
      → page_layout options.compile (ending_bytes default) (pieces tables options (page_with tables options.parse (targets ds []) bs)) ≡ page_bytes bs
  laid_out bs p =
      plain_page options.compile (ending_bytes default) (pieces tables options (page_with tables options.parse (targets ds []) bs))
      (document_plain meaning refl reading bs (not (ends_blank false bs)) p)

  last_line : (said : Bool) (s : PrintState) → (with_pieces options.compile default s (fresh_unless said)).squeezed.kept ≡ s.squeezed.kept
  last_line true s = refl
  last_line false s = kept_at_fresh default s.squeezed

  pub squeeze_page : (bs : tree.Blocks) → squeeze (page_bytes bs) ≡ (squeezed_kids bs).kept
  squeeze_page bs =
      let kids = children_pieces meaning at_top None (read_blocks reading on_page (group_items bs)) in
      let said = not (ends_blank false bs) in
      ap (λ s. s.kept) (pieces_printed default options.compile [] (kids ++ fresh_unless said) [])
      ∙ ap (λ s. s.squeezed.kept) (fold-append (with_piece options.compile default) nothing_printed kids (fresh_unless said))
      ∙ last_line said (with_pieces options.compile default nothing_printed kids)
      ∙ ap (λ s. s.squeezed.kept) (same_in_quote default meaning reading (group_items bs) None nothing_printed)

  -- the ending of a last line makes no difference
  without_ending : (bs kids : tree.Blocks) → (squeezed_kids (tree.join bs (tree.last_of kids))).kept ≡ (squeezed_kids bs).kept
  without_ending bs kids =
      at_last (λ last. (squeezed_kids (tree.join bs last)).kept ≡ (squeezed_kids bs).kept) kids
      (ap (λ all. (squeezed_kids all).kept) (join-nil bs))
      (λ last ends.
      ap (λ all. (print_siblings default meaning (inside false) None (read_blocks reading in_container all) nothing_printed).squeezed.kept)
      (grouped-join bs last ends)
      ∙ keep_join default meaning reading (group_items bs) last ends None nothing_printed)

  -- a quote is what its children are, between its tags
  squeeze_quote : (kids : tree.Blocks) → (squeezed_kids (quote_of kids)).kept ≡ kept_around (squeezed_kids kids).kept
  squeeze_quote kids =
      let f = with_piece options.compile default in
      let start = codes "<blockquote>" in
      let s = state_after_text start nothing_printed in
      let inner = children_pieces meaning (inside false) None (read_blocks reading in_container (group_items kids)) in
      let end = Close (codes "blockquote") ∷ [] in
      let kept = (ap (λ t. t.squeezed.kept) (fold-append f s inner (Fresh ∷ []))
      ∙ kept_at_fresh default (with_pieces options.compile default s inner).squeezed
      ∙ ap (λ t. t.squeezed.kept) (pieces_after_text default options.compile start inner nothing_printed)) in
      ap (λ t. t.squeezed.kept) (fold-append f s ((inner ++ Fresh ∷ []) ++ end) [])
      ∙ ap (λ t. t.squeezed.kept) (fold-append f s (inner ++ Fresh ∷ []) end)
      ∙ ap (λ all. (with_bytes (kept_and_run all None) quote_end).kept) kept

  -- children in a quote, with the ending of the last line after it, and alone
  squeeze_both : (kids : tree.Blocks)
      → squeeze (page_bytes (tree.join (quote_of (tree.without_last kids)) (tree.last_of kids))) ≡ squeeze (quote_around (page_bytes kids))
  squeeze_both kids =
      let inner = tree.without_last kids in
      squeeze_page (tree.join (quote_of inner) (tree.last_of kids))
      ∙ without_ending (quote_of inner) kids
      ∙ squeeze_quote inner
      ∙ sym (ap kept_around (without_ending inner kids))
      ∙ ap (λ all. kept_around (squeezed_kids all).kept) (join-without_last kids)
      ∙ sym (ap kept_around (squeeze_page kids))
      ∙ sym (squeeze_around (page_bytes kids))

-- ---- the text

-- the ending that a text's page adds
abbrev pub added_ending : Options → List ℕ → LineEnding
added_ending options text = unwrap_or (first_line text).ending options.compile.default_line_ending

first_ending : (ls : List TextLine) → (first_of (map quoted_line ls)).ending ≡ (first_of ls).ending
first_ending [] = refl
first_ending (line ∷ ls) = refl

added_ending-quoted : (options : Options) (text : List ℕ) → added_ending options (quote_lines text) ≡ added_ending options text
added_ending-quoted options text =
    ap (λ ls. unwrap_or (first_of ls).ending options.compile.default_line_ending) (quoted_lines_law text)
    ∙ ap (λ ending. unwrap_or ending options.compile.default_line_ending) (first_ending (lines text))

-- the page of a text without a byte order mark and without footnotes
pub html_unmarked : (tables : TextTables) (text : List ℕ) (options : Options) → has_mark text ≡ false → options.parse.constructs.gfm_footnote_definition ≡ false
    → let kids = tree.blocks options.parse.constructs Whitespace text in
    printed_page tables text options ≡ page_bytes tables options (added_ending options text) (document_definitions kids) kids
html_unmarked tables text options unmarked off =
    let kids = tree.blocks options.parse.constructs Whitespace text in
    let default = added_ending options text in
    let none = text_without_notes options.parse.constructs off Whitespace text in
    ap (λ mark.
    let bytes = if mark then drop 3 text else text in
    page_layout options.compile (default_ending options bytes)
    (pieces tables options (read_after (if mark then Other else Whitespace) tables options.parse bytes)))
    unmarked
    ∙ ap (λ labels.
    page_layout options.compile (ending_bytes default) (pieces tables options
    (page_with tables options.parse (targets (document_definitions kids) labels) kids)))
    (no_labels kids none)
    ∙ laid_out tables options default (document_definitions kids) kids none

marked_unmarked : (text : List ℕ) → has_mark (quote_lines text) ≡ false
marked_unmarked [] = refl
marked_unmarked (b ∷ bs) = refl

pub printed_quote_law : PrintedQuoteLaw
printed_quote_law tables text options h =
    let on = options.parse.constructs in
    let kids = tree.blocks on Whitespace text in
    let quote = tree.blocks on Whitespace (quote_lines text) in
    let default = added_ending options text in
    let print = page_bytes tables options in
    ap squeeze
    (html_unmarked tables (quote_lines text) options (marked_unmarked text) h.5
    ∙ ap (λ ending. print ending (document_definitions quote) quote) (added_ending-quoted options text)
    ∙ ap (λ ds. print default (map with_spaces ds) quote) (quote_definitions_law on Whitespace text h.3 h.4 h.1)
    ∙ ap (print default (document_definitions kids)) (quote_law on Whitespace text h.3 h.4 h.0 h.1))
    ∙ squeeze_both tables options default (document_definitions kids) kids
    ∙ sym (ap (λ bytes. squeeze (quote_around bytes)) (html_unmarked tables text options h.2 h.5))

-- ---- `> ` n times

-- there is a byte
abbrev HasByte : List ℕ → Type 0
HasByte [] = ⊥
HasByte (b ∷ bs) = Unit {0}

quoted_some : (text : List ℕ) → text ≢ [] → quote_lines text ≢ []
quoted_some [] h = h
quoted_some (b ∷ bs) h = λ e. subst HasByte e tt

quotable_again : (text : List ℕ) (on : Constructs) → IsQuotable text on → IsQuotable (quote_lines text) on
quotable_again text on h =
    (quoted_some text h.0, Tabless-to_All (quote_lines text) (quoted_tabless text (Tabless-from_All text h.1)), marked_unmarked text, h.3, h.4, h.5)

-- quotes around pages that are the same once they are squeezed
same_around : (n : ℕ) (one other : List ℕ) → squeeze one ≡ squeeze other → squeeze (iterate quote_around n one) ≡ squeeze (iterate quote_around n other)
same_around zero one other e = e
same_around (suc n) one other e =
    same_around n (quote_around one) (quote_around other) (squeeze_around one ∙ ap kept_around e ∙ sym (squeeze_around other))

pages_around : (tables : TextTables) (options : Options) (n : ℕ) (text : List ℕ) → IsQuotable text options.parse.constructs
    → squeeze (printed_page tables (iterate quote_lines n text) options) ≡ squeeze (iterate quote_around n (printed_page tables text options))
pages_around tables options zero text h = refl
pages_around tables options (suc n) text h =
    pages_around tables options n (quote_lines text) (quotable_again text options.parse.constructs h)
    ∙ same_around n (printed_page tables (quote_lines text) options) (quote_around (printed_page tables text options)) (printed_quote_law tables text options h)

pub printed_quotes_law : PrintedQuotesLaw
printed_quotes_law tables text options n h = pages_around tables options n text h

-- ---- where raw HTML isn't kept by the list

pub quote_page_law : QuotePageLaw
quote_page_law tables text options off h =
    ap squeeze (unlisted_law tables (quote_lines text) options off)
    ∙ printed_quote_law tables text options h
    ∙ sym (ap (λ page. squeeze (quote_around page)) (unlisted_law tables text options off))

pub quote_pages_law : QuotePagesLaw
quote_pages_law tables text options n off h =
    ap squeeze (unlisted_law tables (iterate quote_lines n text) options off)
    ∙ printed_quotes_law tables text options n h
    ∙ sym (ap (λ page. squeeze (iterate quote_around n page)) (unlisted_law tables text options off))
