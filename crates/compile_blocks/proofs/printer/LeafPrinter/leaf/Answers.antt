use Rattle.std.proofs.Common.{◌≡◌, ℕ, List, refl, sym, ap, ◌∙◌, subst}
use Rattle.compile_blocks.proofs.Prelude.{code_fenced_of, ending_of, first_pieces, in_bytes, kind_of, layout_after, leaf_block_pieces, LineEnding}
use Rattle.compile_blocks.proofs.Prelude.{math_flow_of, one, OnOk, page_view, raw_lines, raw_parts}
use Rattle.event_grammar.specs.Trees.{Around}
use Rattle.event_meaning.specs.Children.{text_of}
use Rattle.definition_page.specs.Page as page
use Rattle.definition_page.specs.Page.{Html, IndentedCode}
use Rattle.compile_levels.specs.declared.kind.BlockKind.TheVariants as k
use Rattle.html_bytes.specs.Pieces.{Piece}
use Rattle.compile_blocks.specs.Leaf.{place_of}
use Rattle.compile_blocks.proofs.LeafLaw.{leaf_law, nothing_by, ending_law, html_name, atx_name}
use Rattle.compile_raw.proofs.Sound.{inner_sound}
use Rattle.compile_raw.specs.Sound.{AreSound}
use Rattle.compile_rows.specs.Columns.{AreCounted}
use Rattle.compile_blocks.proofs.printer.LeafPrinter.leaf.Goals as goal

pub returns-in-Paragraph-clause-printed : goal.returns-in-Paragraph-clause-printed
returns-in-Paragraph-clause-printed g c = λ m ds enter exit kids inner meant h are same is stands.
    let own : k.Paragraph ≡ kind_of enter.name = sym c.in-Paragraph.is ∙ same in
    let names = g.T.Tables.reference_of c.args.source.now.tables.now in
    let bytes = c.args.source.now.checked.bytes.now in
    let node = Around enter kids exit in
    let sound = inner_sound bytes node are in
    let old = c.args.self.now.page in
    subst (λ (x : List Piece). OnOk c.paragraph.result (page_view c.paragraph.new.self.page ≡ layout_after m.compile old.default_ending (page_view old) x))
    (leaf_law names bytes c.args.place.top (text_of bytes node) kids inner m c.args.place k.Paragraph enter.name own refl)
    (c.paragraph.ensures.printed m ds (place_of c.args.place) kids meant refl h.3 sound)

pub returns-in-HeadingAtx-clause-printed : goal.returns-in-HeadingAtx-clause-printed
returns-in-HeadingAtx-clause-printed g c = λ m ds enter exit kids inner meant h are same is stands.
    let own : k.HeadingAtx ≡ kind_of enter.name = sym c.in-HeadingAtx.is ∙ same in
    let names = g.T.Tables.reference_of c.args.source.now.tables.now in
    let bytes = c.args.source.now.checked.bytes.now in
    let node = Around enter kids exit in
    let sound = inner_sound bytes node are in
    let old = c.args.self.now.page in
    subst (λ (x : List Piece). OnOk c.heading_atx.result (page_view c.heading_atx.new.self.page ≡ layout_after m.compile old.default_ending (page_view old) x))
    (leaf_law names bytes c.args.place.top (text_of bytes node) kids inner m c.args.place k.HeadingAtx enter.name own refl)
    (c.heading_atx.ensures.printed m ds (place_of c.args.place) kids meant (are.rank.0 (atx_name enter.name own)) h.3 sound)

pub returns-in-HeadingSetext-clause-printed : goal.returns-in-HeadingSetext-clause-printed
returns-in-HeadingSetext-clause-printed g c = λ m ds enter exit kids inner meant h are same is stands.
    let own : k.HeadingSetext ≡ kind_of enter.name = sym c.in-HeadingSetext.is ∙ same in
    let names = g.T.Tables.reference_of c.args.source.now.tables.now in
    let bytes = c.args.source.now.checked.bytes.now in
    let node = Around enter kids exit in
    let sound = inner_sound bytes node are in
    let old = c.args.self.now.page in
    subst (λ (x : List Piece). OnOk c.heading_setext.result (page_view c.heading_setext.new.self.page ≡ layout_after m.compile old.default_ending (page_view old) x))
    (leaf_law names bytes c.args.place.top (text_of bytes node) kids inner m c.args.place k.HeadingSetext enter.name own refl)
    (c.heading_setext.ensures.printed m ds (place_of c.args.place) kids meant h.3 sound)

pub returns-in-ThematicBreak-clause-printed : goal.returns-in-ThematicBreak-clause-printed
returns-in-ThematicBreak-clause-printed g c = λ m ds enter exit kids inner meant h are same is stands.
    let own : k.ThematicBreak ≡ kind_of enter.name = sym c.in-ThematicBreak.is ∙ same in
    let names = g.T.Tables.reference_of c.args.source.now.tables.now in
    let bytes = c.args.source.now.checked.bytes.now in
    let node = Around enter kids exit in
    let sound = inner_sound bytes node are in
    let old = c.args.self.now.page in
    subst (λ (x : List Piece). OnOk c.thematic_break.result (page_view c.thematic_break.new.self.page ≡ layout_after m.compile old.default_ending (page_view old) x))
    (leaf_law names bytes c.args.place.top (text_of bytes node) kids inner m c.args.place k.ThematicBreak enter.name own refl)
    (c.thematic_break.ensures.printed m (place_of c.args.place))

pub returns-in-CodeIndented-clause-printed : goal.returns-in-CodeIndented-clause-printed
returns-in-CodeIndented-clause-printed g c = λ m ds enter exit kids inner meant h are same is stands.
    let own : k.CodeIndented ≡ kind_of enter.name = sym c.in-CodeIndented.is ∙ same in
    let names = g.T.Tables.reference_of c.args.source.now.tables.now in
    let bytes = c.args.source.now.checked.bytes.now in
    let node = Around enter kids exit in
    let old = c.args.self.now.page in
    let laid = λ (x : List Piece). OnOk c.push_code_indented.result (page_view c.push_code_indented.new.page ≡ layout_after m.compile old.default_ending (page_view old) x) in
    let Printed : List ℕ → Type 0 = λ b. AreSound b kids → laid (in_bytes (leaf_block_pieces m (place_of c.args.place) (IndentedCode (raw_lines (raw_parts b kids))))) in
    subst laid
    (leaf_law names bytes c.args.place.top (text_of bytes node) kids inner m c.args.place k.CodeIndented enter.name own refl)
    (subst Printed c.bytes-bytes.ensures (λ sound. c.push_code_indented.ensures.printed m (place_of c.args.place) kids sound h.3) (inner_sound bytes node are))

pub returns-in-CodeIndented-clause-counted : goal.returns-in-CodeIndented-clause-counted
returns-in-CodeIndented-clause-counted g c = subst (λ (b : List ℕ). AreCounted b c.push_code_indented.new.columns) c.bytes-bytes.ensures c.push_code_indented.ensures.counted

pub push_code_indented-requires : goal.push_code_indented-requires
push_code_indented-requires g c = subst (λ (b : List ℕ). AreCounted b c.args.self.now.columns) (sym c.bytes-bytes.ensures) c.requires

pub returns-in-CodeFenced-clause-printed : goal.returns-in-CodeFenced-clause-printed
returns-in-CodeFenced-clause-printed g c = λ m ds enter exit kids inner meant h are same is stands.
    let own : k.CodeFenced ≡ kind_of enter.name = sym c.in-CodeFenced.is ∙ same in
    let names = g.T.Tables.reference_of c.args.source.now.tables.now in
    let bytes = c.args.source.now.checked.bytes.now in
    let node = Around enter kids exit in
    let old = c.args.self.now.page in
    let laid = λ (x : List Piece). OnOk c.push_code_fenced.result (page_view c.push_code_fenced.new.page ≡ layout_after m.compile old.default_ending (page_view old) x) in
    let Printed : List ℕ → Type 0 = λ b. AreSound b kids → laid (in_bytes (leaf_block_pieces m (place_of c.args.place) (code_fenced_of names b c.args.place.top kids))) in
    subst laid
    (leaf_law names bytes c.args.place.top (text_of bytes node) kids inner m c.args.place k.CodeFenced enter.name own refl)
    (subst Printed c.bytes-bytes.ensures (λ sound. c.push_code_fenced.ensures.printed m (place_of c.args.place) kids refl sound h.3) (inner_sound bytes node are))

pub returns-in-CodeFenced-clause-counted : goal.returns-in-CodeFenced-clause-counted
returns-in-CodeFenced-clause-counted g c = subst (λ (b : List ℕ). AreCounted b c.push_code_fenced.new.columns) c.bytes-bytes.ensures c.push_code_fenced.ensures.counted

pub push_code_fenced-requires : goal.push_code_fenced-requires
push_code_fenced-requires g c = subst (λ (b : List ℕ). AreCounted b c.args.self.now.columns) (sym c.bytes-bytes.ensures) c.requires

pub returns-in-MathFlow-clause-printed : goal.returns-in-MathFlow-clause-printed
returns-in-MathFlow-clause-printed g c = λ m ds enter exit kids inner meant h are same is stands.
    let own : k.MathFlow ≡ kind_of enter.name = sym c.in-MathFlow.is ∙ same in
    let names = g.T.Tables.reference_of c.args.source.now.tables.now in
    let bytes = c.args.source.now.checked.bytes.now in
    let node = Around enter kids exit in
    let old = c.args.self.now.page in
    let laid = λ (x : List Piece). OnOk c.push_math_flow.result (page_view c.push_math_flow.new.page ≡ layout_after m.compile old.default_ending (page_view old) x) in
    let Printed : List ℕ → Type 0 = λ b. AreSound b kids → laid (in_bytes (leaf_block_pieces m (place_of c.args.place) (math_flow_of names b c.args.place.top kids))) in
    subst laid
    (leaf_law names bytes c.args.place.top (text_of bytes node) kids inner m c.args.place k.MathFlow enter.name own refl)
    (subst Printed c.bytes-bytes.ensures (λ sound. c.push_math_flow.ensures.printed names m (place_of c.args.place) kids refl sound h.3) (inner_sound bytes node are))

pub returns-in-MathFlow-clause-counted : goal.returns-in-MathFlow-clause-counted
returns-in-MathFlow-clause-counted g c = subst (λ (b : List ℕ). AreCounted b c.push_math_flow.new.columns) c.bytes-bytes.ensures c.push_math_flow.ensures.counted

pub push_math_flow-requires : goal.push_math_flow-requires
push_math_flow-requires g c = subst (λ (b : List ℕ). AreCounted b c.args.self.now.columns) (sym c.bytes-bytes.ensures) c.requires

pub returns-in-HtmlFlow-clause-printed : goal.returns-in-HtmlFlow-clause-printed
returns-in-HtmlFlow-clause-printed g c = λ m ds enter exit kids inner meant h are same is stands.
    let own : k.HtmlFlow ≡ kind_of enter.name = sym c.in-HtmlFlow.is ∙ same in
    let names = g.T.Tables.reference_of c.args.source.now.tables.now in
    let bytes = c.args.source.now.checked.bytes.now in
    let node = Around enter kids exit in
    let old = c.args.self.now.page in
    let laid = λ (x : List Piece). OnOk c.push_html_flow.result (page_view c.push_html_flow.new.page ≡ layout_after m.compile old.default_ending (page_view old) x) in
    let Printed : List ℕ → Type 0 = λ b. AreSound b kids → laid (in_bytes (leaf_block_pieces m (place_of c.args.place) (Html (raw_lines (raw_parts b kids))))) in
    subst laid
    (leaf_law names bytes c.args.place.top (text_of bytes node) kids inner m c.args.place k.HtmlFlow enter.name own refl)
    (subst Printed c.bytes-bytes.ensures (λ sound. c.push_html_flow.ensures.printed m (place_of c.args.place) kids meant.compile sound (are.html.0 (html_name enter.name own)) h.3) (inner_sound bytes node are))

pub returns-in-Table-clause-printed : goal.returns-in-Table-clause-printed
returns-in-Table-clause-printed g c = λ m ds enter exit kids inner meant h are same is stands.
    let own : k.Table ≡ kind_of enter.name = sym c.in-Table.is ∙ same in
    let names = g.T.Tables.reference_of c.args.source.now.tables.now in
    let bytes = c.args.source.now.checked.bytes.now in
    let node = Around enter kids exit in
    let sound = inner_sound bytes node are in
    let old = c.args.self.now.page in
    subst (λ (x : List Piece). OnOk c.push_table.result (page_view c.push_table.new.page ≡ layout_after m.compile old.default_ending (page_view old) x))
    (leaf_law names bytes c.args.place.top (text_of bytes node) kids inner m c.args.place k.Table enter.name own refl)
    (c.push_table.ensures.printed m ds enter exit kids meant h.3 sound stands)

pub returns-in-Ending-clause-printed : goal.returns-in-Ending-clause-printed
returns-in-Ending-clause-printed g c = λ m ds enter exit kids inner meant h are same is stands.
    let own : k.Ending ≡ kind_of enter.name = sym c.in-Ending.is ∙ same in
    let names = g.T.Tables.reference_of c.args.source.now.tables.now in
    let bytes = c.args.source.now.checked.bytes.now in
    let node = Around enter kids exit in
    let old = c.args.self.now.page in
    let ending : c.ending_of.result ≡ ending_of (text_of bytes node) = c.ending_of.ensures node h ∙ ap (λ (b : List ℕ). ending_of (text_of b node)) c.bytes-bytes.ensures in
    subst (λ (x : List Piece). OnOk c.line_ending.result (page_view c.line_ending.new.self.page ≡ layout_after m.compile old.default_ending (page_view old) x))
    (ending_law m c.args.place c.ending_of.result
    ∙ ap (λ (e : LineEnding). in_bytes (first_pieces m c.args.place (one (page.Ending e)))) ending
    ∙ leaf_law names bytes c.args.place.top (text_of bytes node) kids inner m c.args.place k.Ending enter.name own refl)
    (c.line_ending.ensures.printed m.compile)

pub returns-in-Blank-clause-printed : goal.returns-in-Blank-clause-printed
returns-in-Blank-clause-printed g c = λ m ds enter exit kids inner meant h are same is stands.
    let names = g.T.Tables.reference_of c.args.source.now.tables.now in
    let bytes = c.args.source.now.checked.bytes.now in
    let text = text_of bytes (Around enter kids exit) in
    let old = c.args.self.now.page in
    ap (λ (x : List Piece). layout_after m.compile old.default_ending (page_view old) x)
    (sym (nothing_by names bytes c.args.place.top text kids inner m c.args.place c.args.kind c.in-Blank.is)
    ∙ leaf_law names bytes c.args.place.top text kids inner m c.args.place c.args.kind enter.name same is)
