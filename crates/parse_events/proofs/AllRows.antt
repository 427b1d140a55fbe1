-- After all rows of a text, its events are in the grammar, spell its page, and are of no construct that is off.
use Rattle.std.proofs.Common.{◌≡◌, ◌<◌, inl, inr, ℕ, List, [], ◌∷◌, true, false, refl, sym, ap, ◌∙◌, subst, arith, get_or, length}
use Rattle.std.specs.Str.{is_utf8}
use Rattle.parse_events.proofs.Prelude.{AreOpen, bare_blocks, Between, document_targets, End, end_in, Event, forest_in, group_items, growth}
use Rattle.parse_events.proofs.Prelude.{Growth, IsFront, IsInOrder, joined, Kind, kind_before_text, line_at, lines, lines_joined, Nodes, Opened, opened}
use Rattle.parse_events.proofs.Prelude.{Output, Part, Reading, Spells, Stands, StandsBefore, TextLine, unmatched, unread, Walk, without_mark, written_to}
use Rattle.markdown_options.specs.declared.configuration.ParseOptions.{ParseOptions}
use Rattle.definition_page.specs.Read.{reading}
use Rattle.definition_page.specs.TextTables.{TextTables}
use Rattle.event_check.specs.Matches.{MatchesGrammar}
use Rattle.event_grammar.specs.declared.slot.Between.TheVariants.{Lines}
use Rattle.event_grammar.specs.Grammar.{document_row}
use Rattle.event_grammar.specs.InGrammar.{PlacesFit}
use Rattle.event_grammar.specs.Points.{spot}
use Rattle.event_grammar.specs.Trees.{AreNodes, events_of, tree}
use Rattle.event_meaning.specs.Spelled.{page_of, spelled}
use Rattle.parse_output.specs.Forest.{bytewise}
use Rattle.parse_output.specs.Children.{HaveChildren}
use Rattle.parse_output.specs.Placed.{ArePlaced}
use Rattle.parse_output.specs.Written.{open_in}
use Rattle.parse_slots.specs.Left.{ends, left_by}
use Rattle.parse_references.specs.Sound.{AreSound}
use Rattle.parse_grammar.specs.Constructs.{NothingIsOff}
use Rattle.parse_grammar.proofs.ConstructDocuments.{documents_have_nothing_off}
use Rattle.parse_grammar.proofs.Agree.{documents_agree}
use Rattle.parse_grammar.proofs.LeadingDocuments.{documents_lead_on}
use Rattle.parse_grammar.proofs.MatchLaw.{met_grammar_matches}
use Rattle.parse_grammar.proofs.Places.{places_fit}
use Rattle.parse_alike.specs.Spelled.{IsPageOfText}
use Rattle.parse_open.specs.Texts.{text_blocks}
use Rattle.parse_open.proofs.FilledBytes.{documents_are_filled, tree_is}
use Rattle.parse_open.proofs.SoundBytes.{documents_are_sound}
use Rattle.parse_open.proofs.Texts.{texts_are_spelled}
use Rattle.parse_events.specs.Nested.{IsNested}
use Rattle.parse_events.specs.Parsed.{AreEventsOf}
use Rattle.parse_events.specs.Stands.{IsAt}
use Rattle.parse_events.proofs.Bytewise.{spells_the_same}
use Rattle.parse_events.proofs.NestedLaw.{nested}
use Rattle.event_tokens.specs.Bytes.{HaveTheirBytes}
use Rattle.event_tokens.specs.Shape.{calls_hold, is_hollow, is_untagged, no_neighbours}
use Rattle.parse_output.specs.Whole.{DataIsWhole}
use Rattle.parse_grammar.proofs.Shape.{sound_nodes_hold}

-- ---- the end of the text

none_unread : (kind : Kind) (ls : List TextLine) → [] ≡ unread kind ls → ls ≡ []
none_unread kind [] is = refl
none_unread kind (l ∷ ls) is = let wrong : 0 ≡ length (unread kind (l ∷ ls)) = ap length is in absurd (omega (arith, wrong))

nothing_left : (kind : Kind) (left : List ℕ) → [] ≡ unread kind (lines left) → left ≡ []
nothing_left kind left is = sym (lines_joined left) ∙ ap joined (none_unread kind (lines left) is)

-- where no line is left, all of the text is written
all_written : {A : Type 0} (text : List ℕ) (o : Opened) (w : Walk A) → IsAt text o (Between []) w → (end_in w.out).index ≡ length text
all_written text o w at =
    elim at [
      | inl here ↦
          let st = here.0 in
          let size : w.size ≡ length text = st.over.size in
          let none : length w.left.now ≡ 0 = ap length (nothing_left st.kind w.left.now st.unread) in
          omega (arith, ap (λ (x : End). x.index) here.1, size, none)
      | inr past ↦ absurd past
    ]

-- ---- the nodes of the text

none_open : (r : Reading) (text : List ℕ) (front : Nodes) (parts : List Part) → AreOpen r text front [] parts → parts ≡ []
none_open r text front [] are = refl
none_open r text front (part ∷ parts) are = absurd are

-- nested events are those of the nodes of their tree
tree_nodes : (events : List Event) (are : IsNested events) → tree events ≡ are.nodes
tree_nodes events are = ap tree are.each ∙ tree_is are.nodes are.named

module _ (tables : TextTables) (options : ParseOptions) (text : List ℕ) where
  -- how the text is read, and what is open after all of its rows: nothing
  abbrev pub text_reading : Reading
  text_reading = reading tables options (document_targets (text_blocks options text))

  abbrev pub all_rows : Opened
  all_rows = opened (group_items (bare_blocks (text_blocks options text))) [] []

  -- A walk stands after all rows of the text, and these events have its nodes.
  pub record AreOfText {A : Type 0} (w : Walk A) (events : List Event) : Type 0 where
    pub front : Nodes
    pub is_front : IsFront options.constructs tables.names text front (text_blocks options text)
    pub stands : Stands text_reading text front all_rows [] (Between []) w
    pub nested : IsNested events
    pub children : HaveChildren events
    pub same : bytewise (tree events) ≡ (forest_in text w.out).kids

  module _ {A : Type 0} (w : Walk A) (events : List Event) (are : AreOfText w events) where
    abbrev kids : Nodes
    kids = (forest_in text w.out).kids

    abbrev line : ℕ
    line = line_at text (written_to w).index

    abbrev nodes : Nodes
    nodes = are.nested.nodes

    all_spelled : Spells text_reading text are.front all_rows (growth kids []) line
    all_spelled =
        let g = forest_in text w.out in
        let closed : g ≡ growth g.kids [] = ap (growth g.kids) (none_open text_reading text are.front g.outer are.stands.spells.around) in
        subst (λ (x : Growth). Spells text_reading text are.front all_rows x line) closed are.stands.spells

    -- they fill the row of the document
    pub nodes_filled : (ns : Nodes) → events ≡ events_of ns → AreNodes ns → ends (left_by Lines document_row ns) ≡ true
    nodes_filled ns nested named =
        documents_are_filled text_reading text are.front (group_items (bare_blocks (text_blocks options text))) [] kids line events ns all_spelled nested named
        are.children are.same

    -- they are sound
    pub nodes_sound : AreSound options.constructs tables.names text nodes
    nodes_sound =
        documents_are_sound text_reading text are.front (group_items (bare_blocks (text_blocks options text))) [] kids line events nodes are.is_front.sound
        all_spelled are.nested.each are.nested.named are.children are.same

    -- they spell the page of the text
    pub nodes_spelled : PlacesFit text (spot 0 0) events → IsPageOfText tables options text (page_of tables.names text nodes)
    nodes_spelled places =
        subst (IsPageOfText tables options text)
        (ap (page_of tables.names text) (sym are.same ∙ ap bytewise (tree_nodes events are.nested))
        ∙ spells_the_same tables.names text nodes are.nested.named (subst HaveChildren are.nested.each are.children)
        (subst (PlacesFit text (spot 0 0)) are.nested.each places))
        (texts_are_spelled tables options text are.front kids line are.is_front all_spelled (are.stands.ends refl))

    -- those that hold something do
    pub nodes_hold : no_neighbours is_hollow events ≡ true
    nodes_hold =
        ap (no_neighbours is_hollow) are.nested.each
        ∙ sound_nodes_hold.some options.constructs tables.names text nodes are.nested.named nodes_sound

    -- raw HTML in texts begins with a `<`
    pub nodes_tagged : no_neighbours (is_untagged text) events ≡ true
    nodes_tagged =
        ap (no_neighbours (is_untagged text)) are.nested.each
        ∙ sound_nodes_hold.tags options.constructs tables.names text nodes are.nested.named nodes_sound

    -- calls hold what strings may hold
    pub calls_are_strings : calls_hold false events ≡ true
    calls_are_strings =
        ap (calls_hold false) are.nested.each
        ∙ sound_nodes_hold.calls options.constructs tables.names text nodes are.nested.named nodes_sound

    -- the list of events matches the grammar
    pub nodes_match : ((k : ℕ) → get_or text k 0 < 256) → is_utf8 text ≡ true → ArePlaced text events → HaveTheirBytes text events
        → MatchesGrammar tables.names text events
    nodes_match bytes utf8 placed tokens =
        let page = nodes_spelled (places_fit text events utf8 placed tokens) in
        let filled = nodes_filled nodes are.nested.each are.nested.named in
        met_grammar_matches tables.names text events (
        record {
          nodes = nodes;
          nested = are.nested.each;
          paired = are.nested.named;
          filled = filled;
          utf8 = utf8;
          placed = placed;
          tokens = tokens;
          on = options.constructs;
          sound = nodes_sound;
          leads = documents_lead_on tables options text nodes page filled nodes_sound;
          cells = documents_agree tables options text nodes bytes page filled;
        })

    -- no event is of a construct that is off
    pub nothing_off : PlacesFit text (spot 0 0) events → NothingIsOff options.constructs events
    nothing_off places =
        subst (NothingIsOff options.constructs) (sym are.nested.each)
        (documents_have_nothing_off tables options text nodes (nodes_spelled places) (nodes_filled nodes are.nested.each are.nested.named) nodes_sound
        are.nested.named)

    pub events_spelled : PlacesFit text (spot 0 0) events → IsPageOfText tables options text (spelled tables.names events text)
    events_spelled places =
        subst (IsPageOfText tables options text) (sym (ap (page_of tables.names text) (tree_nodes events are.nested))) (nodes_spelled places)

-- what is said of an output and of its text is said of others that are the same
written_same : {A : Type 0} (text bytes : List ℕ) (out own : Output A) (events : List Event) → bytes ≡ text → out ≡ own
    → (IsInOrder bytes out → (end_in out).index ≡ length bytes → bytewise (tree events) ≡ (forest_in bytes out).kids)
    → IsInOrder text own → (end_in own).index ≡ length text → bytewise (tree events) ≡ (forest_in text own).kids
written_same {A} text bytes out own events bytes_are out_is written =
    subst (λ (o : Output A). IsInOrder text o → (end_in o).index ≡ length text → bytewise (tree events) ≡ (forest_in text o).kids) out_is
    (subst (λ (bs : List ℕ). IsInOrder bs out → (end_in out).index ≡ length bs → bytewise (tree events) ≡ (forest_in bs out).kids) bytes_are written)

-- the same, where all of the text is written
tokens_same : {A : Type 0} (text bytes : List ℕ) (out own : Output A) (events : List Event) → bytes ≡ text → out ≡ own
    → (IsInOrder bytes out → (end_in out).index ≡ length bytes → HaveTheirBytes bytes events)
    → IsInOrder text own → (end_in own).index ≡ length text → HaveTheirBytes text events
tokens_same {A} text bytes out own events bytes_are out_is tokens =
    subst (λ (o : Output A). IsInOrder text o → (end_in o).index ≡ length text → HaveTheirBytes text events) out_is
    (subst (λ (bs : List ℕ). IsInOrder bs out → (end_in out).index ≡ length bs → HaveTheirBytes bs events) bytes_are tokens)

whole_same : {A : Type 0} (text bytes : List ℕ) (out own : Output A) (events : List Event) → bytes ≡ text → out ≡ own
    → (IsInOrder bytes out → (end_in out).index ≡ length bytes → open_in out ≡ [] → DataIsWhole events)
    → IsInOrder text own → (end_in own).index ≡ length text → open_in own ≡ [] → DataIsWhole events
whole_same {A} text bytes out own events bytes_are out_is whole =
    subst (λ (o : Output A). IsInOrder text o → (end_in o).index ≡ length text → open_in o ≡ [] → DataIsWhole events) out_is
    (subst (λ (bs : List ℕ). IsInOrder bs out → (end_in out).index ≡ length bs → open_in out ≡ [] → DataIsWhole events) bytes_are whole)

-- ---- the events of the text

-- what is finished of a walk after the rows of a text has its nodes
pub are_of_text : {A : Type 0} (tables : TextTables) (options : ParseOptions) (text : List ℕ) (old w : Walk A)
    (start : StandsBefore options.constructs text (kind_before_text text) (without_mark text) old) (bytes : List ℕ) (out : Output A) (events : List Event)
    → bytes ≡ text → out ≡ w.out → open_in w.out ≡ [] → HaveChildren events → unmatched events ≡ open_in out
    → (IsInOrder bytes out → (end_in out).index ≡ length bytes → bytewise (tree events) ≡ (forest_in bytes out).kids)
    → Stands (text_reading tables options text) text start.front (all_rows tables options text) [] (Between []) w
    → AreOfText tables options text w events
are_of_text {A} tables options text old w start bytes out events bytes_are out_is none children matched written st =
    record {
      front = start.front;
      is_front = start.is_front tables.names;
      stands = st;
      nested = nested events (matched ∙ ap (λ (o : Output A). open_in o) out_is ∙ none);
      children = children;
      same =
          written_same text bytes out w.out events bytes_are out_is written st.order
          (all_written text (all_rows tables options text) w st.at);
    }

-- and is the list of its events
pub are_events : {A : Type 0} (tables : TextTables) (options : ParseOptions) (text : List ℕ) (w : Walk A) (bytes : List ℕ) (out : Output A)
    (events : List Event) → bytes ≡ text → out ≡ w.out → ArePlaced bytes events
    → (IsInOrder bytes out → (end_in out).index ≡ length bytes → HaveTheirBytes bytes events)
    → (IsInOrder bytes out → (end_in out).index ≡ length bytes → open_in out ≡ [] → DataIsWhole events) → open_in w.out ≡ []
    → AreOfText tables options text w events → ((k : ℕ) → get_or text k 0 < 256) → AreEventsOf tables options text events
are_events tables options text w bytes out events bytes_are out_is placed tokens whole none are numbers =
    let utf8 : is_utf8 text ≡ true = are.stands.order.0 in
    let own_placed : ArePlaced text events = subst (λ (bs : List ℕ). ArePlaced bs events) bytes_are placed in
    let own_tokens : HaveTheirBytes text events =
    tokens_same text bytes out w.out events bytes_are out_is tokens are.stands.order
    (all_written text (all_rows tables options text) w are.stands.at) in
    record {
      placed = own_placed;
      nested = are.nested;
      children = are.children;
      tokens = own_tokens;
      shape = record {
        hold = nodes_hold tables options text w events are;
        apart =
            whole_same text bytes out w.out events bytes_are out_is whole are.stands.order
            (all_written text (all_rows tables options text) w are.stands.at) none;
        tags = nodes_tagged tables options text w events are;
        calls = calls_are_strings tables options text w events are;
      };
      grammar = nodes_match tables options text w events are numbers utf8 own_placed own_tokens;
      spelled = events_spelled tables options text w events are (places_fit text events utf8 own_placed own_tokens);
      on = nothing_off tables options text w events are (places_fit text events utf8 own_placed own_tokens);
    }
