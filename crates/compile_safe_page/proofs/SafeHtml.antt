-- The HTML of every list of events in the grammar is a safe page, which may have tags of the list where raw HTML is kept by it.
use Rattle.std.proofs.Common.{ℕ, Bool, List, true}
use Rattle.std.specs.Prelude.{unwrap_or}
use Rattle.markdown_compile_options.specs.declared.configuration.CompileOptions.{CompileOptions}
use Rattle.definition_text.specs.Lines.{first_line, without_mark}
use Rattle.definition_inline.specs.CharacterReference.{Names}
use Rattle.engine_events.specs.declared.event.Event.{Event}
use Rattle.event_grammar.specs.Trees.{Nodes, tree}
use Rattle.event_check.specs.Matches.{MatchesGrammar}
use Rattle.event_grammar.specs.Grammar.{document_row}
use Rattle.event_check.proofs.Joined.{fits_then, then_fits}
use Rattle.event_check.proofs.Matching.{kids_match, matches_in}
use Rattle.event_meaning.specs.Spelled.{page_of, meaning_of, default_ending, page_of_nodes}
use Rattle.html_safe_page.specs.declared.table.TagTable.{TagTable}
use Rattle.html_safe_page.specs.declared.table.TagTable.TheVariants.{Extended}
use Rattle.laws_safe_page.specs.SafeHtml.{AreSafe, table_of}
use Rattle.laws_safe_page.proofs.Fits.{Fits, own_fits, extended_fits}
use Rattle.laws_safe_page.proofs.Marked.{IsPage}
use Rattle.laws_safe_page.proofs.BlockAdds.{ending_is_text, page_is_safe}
use Rattle.laws_safe_page.proofs.SafeHtml.{plain_page, listed_page}
use Rattle.compile_safe_page.specs.SafeHtml.{SafeEventsLaw, ExtendedEventsLaw, ListedEventsLaw}
use Rattle.compile_safe_page.proofs.Facts.{AreSound, are_sound}
use Rattle.compile_safe_page.proofs.BlockReads.{blocks_readable}

-- of nodes whose facts hold, by a table that has what the options print
printed_is_page : (marks : Bool) (table : TagTable) (names : Names) (options : CompileOptions) (bytes : List ℕ) (nodes : Nodes) → Fits marks options table
    → AreSafe options → AreSound bytes nodes → IsPage marks table (page_of_nodes names options bytes nodes)
printed_is_page marks table names options bytes nodes fits safe sound =
    let page = page_of names bytes nodes in
    let ending = unwrap_or (first_line (without_mark bytes)).ending options.default_line_ending in
    page_is_safe marks table (default_ending options bytes) (ending_is_text ending) (meaning_of names options page) safe fits page
    (blocks_readable names bytes true nodes sound)

-- the facts of the nodes of a list in the grammar
nodes_sound : (names : Names) (bytes : List ℕ) (events : List Event) → MatchesGrammar names bytes events → AreSound bytes (tree events)
nodes_sound names bytes events h =
    let g = matches_in names bytes events h in
    let none = then_fits names bytes events g.nodes (record { nested = g.nested; fit = g.fit; places = g.places }) in
    let f = fits_then names bytes events none in
    are_sound names bytes _ _ document_row (tree events) (kids_match names bytes _ _ document_row (tree events) f.fit)

pub safe_events_law : SafeEventsLaw
safe_events_law names options bytes events safe off h =
    let nodes = tree events in
    plain_page names options (page_of_nodes names options bytes nodes) (table_of options) safe
    (λ marks raw.
    printed_is_page marks (table_of options) names options bytes nodes (own_fits marks options raw) safe (nodes_sound names bytes events h))
    off

pub extended_events_law : ExtendedEventsLaw
extended_events_law names options bytes events safe off h =
    let nodes = tree events in
    plain_page names options (page_of_nodes names options bytes nodes) Extended safe
    (λ marks raw. printed_is_page marks Extended names options bytes nodes (extended_fits marks options raw) safe (nodes_sound names bytes events h)) off

pub listed_events_law : ListedEventsLaw
listed_events_law names options bytes events safe h =
    let nodes = tree events in
    listed_page names options (page_of_nodes names options bytes nodes) (table_of options) safe
    (λ marks raw.
    printed_is_page marks (table_of options) names options bytes nodes (own_fits marks options raw) safe (nodes_sound names bytes events h))
