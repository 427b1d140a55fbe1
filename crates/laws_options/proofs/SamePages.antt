-- Where an option of printing makes no difference.
use Rattle.std.proofs.Common.{◌≡◌, ℕ, true, ◌&&◌, not, cond, List, [], Option, None, Some, refl, sym, ap, ◌∙◌}
use Rattle.std.specs.Prelude.{unwrap_or, is_some, if◌then◌else◌}
use Rattle.std.proofs.lemmas.Bool.{cond-false, or_right, false≢true}
use Rattle.markdown_options.specs.declared.line_ending.LineEnding.{LineEnding}
use Rattle.markdown_compile_options.specs.declared.configuration.CompileOptions.{CompileOptions}
use Rattle.markdown_compile_options.specs.declared.configuration.Options.{Options}
use Rattle.markdown_compile_options.specs.RawHtml.{keeps_listed_html}
use Rattle.markdown_options.specs.LineEndings.{ending_bytes}
use Rattle.definition_text.specs.Lines.{without_mark, first_line}
use Rattle.definition_page.specs.TextTables.{TextTables}
use Rattle.definition_page.specs.OptionTexts.{text_or}
use Rattle.definition_page.specs.Destinations.{heading_prefix, link_base, based, prefixed}
use Rattle.definition_page.specs.Urls.{src_protocols}
use Rattle.definition_page.specs.InlinePieces.{permitted_url}
use Rattle.definition_page.specs.DocumentPieces.{meaning_of, pieces, default_ending}
use Rattle.definition_page.specs.Page.{Page}
use Rattle.definition_page.specs.Read.{read}
use Rattle.definition_page.specs.Layout.{page_layout}
use Rattle.definition_page.specs.PrintedPage.{printed_page}
use Rattle.definition_page.specs.Tags.{Marked}
use Rattle.definition_html.specs.Listed.{listed, with_listed}
use Rattle.laws_options.specs.Laws.{printing_by, AreSamePages, TagfilterLaw, ImageSourceLaw, DefaultEndingLaw, IdPrefixLaw}
use Rattle.laws_options.proofs.Alike.{Alike, same_document}
use Rattle.laws_options.proofs.Layouts.{CallAlike, same_layout}
use Rattle.laws_options.proofs.ListedAlike.{same_listed}

-- options that keep raw HTML by the list alike, and that print links and images alike, have the same HTML where they print the same page
pub same_html : (tables : TextTables) (text : List ℕ) (options : Options) (compile : CompileOptions) → Alike compile options.compile
    → keeps_listed_html compile ≡ keeps_listed_html options.compile
    → printed_page tables text (printing_by compile options) ≡ printed_page tables text options
    → AreSamePages tables text (printing_by compile options) options
same_html tables text options compile alike keeps same =
    let page = printed_page tables text options in
    let by : List ℕ → List ℕ = λ listed. cond (keeps_listed_html options.compile) listed page in (
      same,
      ap (with_listed tables.names compile) same
          ∙ ap (λ kept. cond kept (listed tables.names compile page) page) keeps
          ∙ ap by (same_listed tables.names compile options.compile alike.link alike.image page),
    )

-- options that print alike, call alike, and add the same endings
same_page : (tables : TextTables) (text : List ℕ) (options : Options) (compile : CompileOptions) → Alike compile options.compile
    → CallAlike compile options.compile → default_ending (printing_by compile options) (without_mark text) ≡ default_ending options (without_mark text)
    → keeps_listed_html compile ≡ keeps_listed_html options.compile → AreSamePages tables text (printing_by compile options) options
same_page tables text options compile alike call ending keeps =
    let page : Page = read tables options.parse text in
    let default = default_ending options (without_mark text) in
    same_html tables text options compile alike keeps
    (ap (λ default. page_layout compile default (pieces tables (printing_by compile options) page)) ending
    ∙ ap (page_layout compile default) (same_document (meaning_of tables options page) compile alike page)
    ∙ same_layout compile options.compile call default (pieces tables options page))

pub tagfilter_law : TagfilterLaw
tagfilter_law tables text options filter off =
    let raw = options.compile.allow_dangerous_html in
    let alike : Alike (record options.compile { gfm_tagfilter = filter }) options.compile =
    record {
      destination = λ url. refl;
      source = λ url. refl;
      rel = refl;
      lazy = refl;
      named = refl;
      ids = λ on slug. refl;
      checkable = refl;
      raw = λ described html.
          ap (λ said. cond (keeps_listed_html options.compile && not described) (Marked html) said) (cond-false raw _ _ off ∙ sym (cond-false raw _ _ off));
      link = λ url. refl;
      image = λ url. refl;
    } in
    same_page tables text options (record options.compile { gfm_tagfilter = filter }) alike (record { call = λ c. refl; section = λ notes. refl }) refl refl

pub image_source_law : ImageSourceLaw
image_source_law tables text options any on =
    let all = options.compile.allow_dangerous_protocol in
    let same = or_right any all on ∙ sym (or_right options.compile.allow_any_img_src all on) in
    let alike : Alike (record options.compile { allow_any_img_src = any }) options.compile =
    record {
      destination = λ url. refl;
      source = λ url. refl;
      rel = refl;
      lazy = refl;
      named = refl;
      ids = λ on slug. refl;
      checkable = refl;
      raw = λ described html. refl;
      link = λ url. refl;
      image = λ url. ap (λ p. permitted_url p src_protocols url) same;
    } in
    same_page tables text options (record options.compile { allow_any_img_src = any }) alike (record { call = λ c. refl; section = λ notes. refl }) refl refl

same_or : (o : Option LineEnding) (a b : LineEnding) → is_some o ≡ true → unwrap_or o a ≡ unwrap_or o b
same_or None a b none = absurd (false≢true none)
same_or (Some ending) a b some = refl

pub default_ending_law : DefaultEndingLaw
default_ending_law tables text options ending has =
    let same = same_or (first_line (without_mark text)).ending ending options.compile.default_line_ending has in
    let alike : Alike (record options.compile { default_line_ending = ending }) options.compile =
    record {
      destination = λ url. refl;
      source = λ url. refl;
      rel = refl;
      lazy = refl;
      named = refl;
      ids = λ on slug. refl;
      checkable = refl;
      raw = λ described html. refl;
      link = λ url. refl;
      image = λ url. refl;
    } in
    same_page tables text options (record options.compile { default_line_ending = ending }) alike
    (record { call = λ c. refl; section = λ notes. refl }) (ap ending_bytes same) refl

pub id_prefix_law : IdPrefixLaw
id_prefix_law tables text options other off =
    let compile : CompileOptions = record options.compile { heading_id_prefix = other.heading_id_prefix } in
    let none : (default : List ℕ) → (if options.compile.heading_ids then default else []) ≡ [] =
    λ default. cond-false options.compile.heading_ids default [] off in
    let prefix : heading_prefix compile ≡ heading_prefix options.compile =
    none (text_or other.heading_id_prefix []) ∙ sym (none (text_or options.compile.heading_id_prefix [])) in
    let alike : Alike compile options.compile =
    record {
      destination = λ url. ap (λ all. based (link_base options.compile) (prefixed all url)) prefix;
      source = λ url. refl;
      rel = refl;
      lazy = refl;
      named = refl;
      ids = λ on slug. absurd (false≢true (sym off ∙ on));
      checkable = refl;
      raw = λ described html. refl;
      link = λ url. refl;
      image = λ url. refl;
    } in
    same_page tables text options compile alike (record { call = λ c. refl; section = λ notes. refl }) refl refl
