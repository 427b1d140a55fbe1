-- The HTML of every text is a safe page, which may have tags of the list where raw HTML is kept by it.
use Rattle.std.proofs.Common.{◌≡◌, ℕ, Bool, true, false, ◌&&◌, List, refl, sym, ◌∙◌, subst, inl, inr}
use Rattle.std.specs.Prelude.{unwrap_or}
use Rattle.std.proofs.lemmas.Bool.{cases_Bool, cond-true, cond-false, true≢false, and_parts, and_from, or_right}
use Rattle.markdown_compile_options.specs.RawHtml.{keeps_listed_html}
use Rattle.markdown_compile_options.specs.declared.configuration.CompileOptions.{CompileOptions}
use Rattle.markdown_compile_options.specs.declared.configuration.Options.{Options}
use Rattle.definition_text.specs.Lines.{first_line, without_mark}
use Rattle.definition_inline.specs.CharacterReference.{Names}
use Rattle.definition_page.specs.TextTables.{TextTables}
use Rattle.definition_page.specs.DocumentPieces.{meaning_of, default_ending}
use Rattle.definition_page.specs.PrintedPage.{printed_page}
use Rattle.definition_page.specs.Read.{read}
use Rattle.definition_html.specs.Listed.{listed, with_listed}
use Rattle.html_safe_page.specs.Table.{start_rows_of, void_rows_of}
use Rattle.html_safe_page.specs.declared.table.TagTable.{TagTable}
use Rattle.html_safe_page.specs.declared.table.TagTable.TheVariants.{Extended}
use Rattle.html_safe_page.specs.SafePage.{Items, End, Letter, Void, Element, is_tag_of, is_safe_by, IsSafePageBy}
use Rattle.html_safe_page.proofs.Pages.{one_reading}
use Rattle.html_listed.specs.ListedPage.{is_listed_start, is_listed_void, is_start, is_void, have_tags, IsListedReading}
use Rattle.html_listed.specs.MarkedPage.{IsMarkedPage}
use Rattle.html_listed.specs.Mixed.{tags_of}
use Rattle.html_listed.specs.Laws.{HaveSafeProtocols, HasOneListedReading, IsMixedPage}
use Rattle.html_listed.proofs.Listed.{listed_law, standing_law}
use Rattle.html_listed.proofs.Spellings.{one_listed_reading}
use Rattle.laws_safe_page.specs.SafeHtml.{AreSafe, table_of, HasOneReadingBy, SafePageLaw, ExtendedPageLaw, MarkedPageLaw, ListedPageLaw, StandingPageLaw}
use Rattle.laws_safe_page.proofs.Fits.{Fits, own_fits, extended_fits}
use Rattle.laws_safe_page.proofs.Marked.{IsPage, page_safe, page_marked}
use Rattle.laws_safe_page.proofs.BlockAdds.{ending_is_text, page_is_safe}
use Rattle.laws_safe_page.proofs.PageReads.{page_is_readable}

-- ---- any page

-- a safe page has one reading
pub alone : (table : TagTable) (page : List ℕ) → IsSafePageBy table page → HasOneReadingBy table page
alone table page p = record { items = p.0; is_reading = p.1; is_only = λ other h. one_reading table page other p.0 h p.1 }

-- tags of safe pages are tags of listed ones
tags_listed : (table : TagTable) (items : Items) → is_safe_by table items ≡ true → have_tags (is_start table) (is_void table) items ≡ true
tags_listed table End h = refl
tags_listed table (Letter b items) h = tags_listed table items h
tags_listed table (Void tag items) h =
    let own = is_tag_of (void_rows_of table) tag in
    let parts = and_parts own (is_safe_by table items) h in
    and_from ((is_void table) tag) (have_tags (is_start table) (is_void table) items) (or_right (is_listed_void tag) own parts.0)
    (tags_listed table items parts.1)
tags_listed table (Element tag inside items) h =
    let own = is_tag_of (start_rows_of table) tag in
    let parts = and_parts own (is_safe_by table inside && is_safe_by table items) h in
    let both = and_parts (is_safe_by table inside) (is_safe_by table items) parts.1 in
    let within = have_tags (is_start table) (is_void table) inside in
    let after = have_tags (is_start table) (is_void table) items in
    and_from ((is_start table) tag) (within && after) (or_right (is_listed_start tag) own parts.0)
    (and_from within after (tags_listed table inside both.0) (tags_listed table items both.1))

-- so a safe page is a listed page
listed_alone : (table : TagTable) (page : List ℕ) → IsSafePageBy table page → HasOneListedReading table page
listed_alone table page p =
    let reading : IsListedReading table page p.0 = (tags_listed table p.0 p.1.0, p.1.1) in
    record { items = p.0; is_reading = reading; is_only = λ other h. one_listed_reading table page other p.0 h reading }

-- ---- a page with its raw HTML by the list where the options keep it

module _ (names : Names) (options : CompileOptions) (page : List ℕ) where
  -- where they don't, it is the page
  pub not_listed : keeps_listed_html options ≡ false → with_listed names options page ≡ page
  not_listed off = cond-false (keeps_listed_html options) (listed names options page) page off

  pub is_listed : keeps_listed_html options ≡ true → with_listed names options page ≡ listed names options page
  is_listed on = cond-true (keeps_listed_html options) (listed names options page) page on

  pub safe_protocols : AreSafe options → HaveSafeProtocols options
  safe_protocols safe = record { no_protocol = safe.no_protocol; no_source = safe.no_source }

  -- given that the page is a safe one, in which raw HTML may be marked only where they do
  module _ (table : TagTable) (safe : AreSafe options)
      (is_page : (marks : Bool) → (keeps_listed_html options ≡ true → marks ≡ true) → IsPage marks table page) where
    pub plain_page : keeps_listed_html options ≡ false → HasOneReadingBy table (with_listed names options page)
    plain_page off =
        subst (HasOneReadingBy table) (sym (not_listed off))
        (alone table page (page_safe table page (is_page false (λ on. absurd (true≢false (sym on ∙ off))))))

    pub marked_page : IsMarkedPage table page
    marked_page = page_marked table page (is_page true (λ on. refl))

    pub listed_page : HasOneListedReading table (with_listed names options page)
    listed_page = elim (cases_Bool (keeps_listed_html options)) [
      | inl on ↦ subst (HasOneListedReading table) (sym (is_listed on)) (listed_law names options table page (safe_protocols safe) marked_page)
      | inr off ↦
          subst (HasOneListedReading table) (sym (not_listed off))
          (listed_alone table page (page_safe table page (is_page false (λ on. absurd (true≢false (sym on ∙ off))))))
    ]

    pub standing_page : keeps_listed_html options ≡ true → (printed : IsMarkedPage table page)
        → IsMixedPage table (tags_of printed.0) (with_listed names options page)
    standing_page on printed =
        subst (IsMixedPage table (tags_of printed.0)) (sym (is_listed on)) (standing_law names options table page (safe_protocols safe) printed)

-- ---- the page of a text

module _ (tables : TextTables) (text : List ℕ) (options : Options) where
  -- by a table that has what the options print
  printed_is_page : (marks : Bool) (table : TagTable) → Fits marks options.compile table → AreSafe options.compile
      → IsPage marks table (printed_page tables text options)
  printed_is_page marks table fits safe =
      let page = read tables options.parse text in
      let default = default_ending options (without_mark text) in
      let ending = unwrap_or (first_line (without_mark text)).ending options.compile.default_line_ending in
      page_is_safe marks table default (ending_is_text ending) (meaning_of tables options page) safe fits page (page_is_readable tables options.parse text)

  own_page : AreSafe options.compile → (marks : Bool) → (keeps_listed_html options.compile ≡ true → marks ≡ true)
      → IsPage marks (table_of options.compile) (printed_page tables text options)
  own_page safe marks raw = printed_is_page marks (table_of options.compile) (own_fits marks options.compile raw) safe

  extended_page : AreSafe options.compile → (marks : Bool) → (keeps_listed_html options.compile ≡ true → marks ≡ true)
      → IsPage marks Extended (printed_page tables text options)
  extended_page safe marks raw = printed_is_page marks Extended (extended_fits marks options.compile raw) safe

pub safe_page_law : SafePageLaw
safe_page_law tables text options safe off =
    plain_page tables.names options.compile (printed_page tables text options) (table_of options.compile) safe (own_page tables text options safe) off

pub extended_page_law : ExtendedPageLaw
extended_page_law tables text options safe off =
    plain_page tables.names options.compile (printed_page tables text options) Extended safe (extended_page tables text options safe) off

pub marked_page_law : MarkedPageLaw
marked_page_law tables text options safe =
    marked_page tables.names options.compile (printed_page tables text options) (table_of options.compile) safe (own_page tables text options safe)

pub listed_page_law : ListedPageLaw
listed_page_law tables text options safe =
    listed_page tables.names options.compile (printed_page tables text options) (table_of options.compile) safe (own_page tables text options safe)

pub standing_page_law : StandingPageLaw
standing_page_law tables text options safe on printed =
    standing_page tables.names options.compile (printed_page tables text options) (table_of options.compile) safe (own_page tables text options safe) on printed
