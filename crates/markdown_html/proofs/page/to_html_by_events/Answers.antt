use Rattle.std.proofs.Common.{◌≡◌, ap, refl, ◌∙◌}
use Rattle.std.specs.Prelude.{string_bytes}
use Rattle.definition_page.specs.TextTables.{text_tables}
use Rattle.event_check.specs.Matches.{MatchesGrammar}
use Rattle.event_meaning.specs.Spelled.{html_of_events, spelled}
use Rattle.parse_output.specs.Placed.{ArePlaced}
use Rattle.parse_alike.specs.Spelled.{IsPageOfText}
use Rattle.compile_html.proofs.SameList.{same_html, same_list}
use Rattle.markdown_html.proofs.SamePage.{same_page}
use Rattle.markdown_html.proofs.page.to_html_by_events.Goals as goal

-- the list that `parse` returned is in the grammar
pub new-checked-requires : goal.new-checked-requires
new-checked-requires g c =
    let names = g.T.Tables.reference_of c.args.tables.now in
    record {
      matches = same_list names names c.args.value.now c.as_bytes.result.now c.in-Ok.events.items c.deref.result.now refl c.as_bytes.ensures.value c.deref.ensures.value
          c.in-Ok.ensures.grammar;
    }

pub returns-clause-page : goal.returns-clause-page
returns-clause-page g c =
    let names = g.T.Tables.reference_of c.args.tables.now in
    let options = c.args.options.now.compile in
    let text = c.args.value.now in
    let events = c.in-Ok.events.items in
    let checked = c.new-checked.result in
    let k = c.new-checked.ensures in
    let ns = g.T.Tables.reference_of checked.tables.now in
    let names_are = ap (λ t. g.T.Tables.reference_of t) k.tables in
    let bytes_are = k.bytes ∙ c.as_bytes.ensures.value in
    let events_are = k.events ∙ c.deref.ensures.value in
    let placed : ArePlaced text events = c.in-Ok.ensures.placed in
    let matches : MatchesGrammar names text events = c.in-Ok.ensures.grammar in
    record {
      events = events;
      placed = placed;
      matches = matches;
      same = same_html options (string_bytes c.in_ok-page.page) names ns text checked.bytes.now events checked.events.now names_are bytes_are events_are
          (c.in_ok-page.ensures.page (same_list names ns text checked.bytes.now events checked.events.now names_are bytes_are events_are matches));
    }

pub returns-clause-same : goal.returns-clause-same
unfolding returns-clause-page
returns-clause-same g c =
    let names = g.T.Tables.reference_of c.args.tables.now in
    let tables = text_tables names (g.T.Tables.punctuation_of c.args.tables.now) in
    let options = c.args.options.now in
    let text = c.args.value.now in
    let events = c.in-Ok.events.items in
    let of_text : IsPageOfText tables options.parse text (spelled names events text) = c.in-Ok.ensures.spelled in
    let printed : string_bytes c.in_ok-page.page ≡ html_of_events names options.compile text events = (returns-clause-page g c).same in
    printed ∙ same_page tables options text events of_text

pub returns-clause-safe : goal.returns-clause-safe
returns-clause-safe g c =
    let checked = c.new-checked.result in
    let k = c.new-checked.ensures in
    c.in_ok-page.ensures.safe
    (same_list (g.T.Tables.reference_of c.args.tables.now) (g.T.Tables.reference_of checked.tables.now) c.args.value.now checked.bytes.now
    c.in-Ok.events.items checked.events.now (ap (λ t. g.T.Tables.reference_of t) k.tables) (k.bytes ∙ c.as_bytes.ensures.value)
    (k.events ∙ c.deref.ensures.value) c.in-Ok.ensures.grammar)

pub returns-clause-listed : goal.returns-clause-listed
returns-clause-listed g c =
    let checked = c.new-checked.result in
    let k = c.new-checked.ensures in
    c.in_ok-page.ensures.listed
    (same_list (g.T.Tables.reference_of c.args.tables.now) (g.T.Tables.reference_of checked.tables.now) c.args.value.now checked.bytes.now
    c.in-Ok.events.items checked.events.now (ap (λ t. g.T.Tables.reference_of t) k.tables) (k.bytes ∙ c.as_bytes.ensures.value)
    (k.events ∙ c.deref.ensures.value) c.in-Ok.ensures.grammar)
