use Rattle.std.proofs.Common.{◌≡◌, ◌++◌, ◌∙◌, ℕ, false, List, OnOk, string_bytes, sym, ap, subst}
use Rattle.event_meaning.specs.Texts.{inlines_of, text_within}
use Rattle.compile_blocks.specs.Texts.{text_kids}
use Rattle.compile_blocks.proofs.TextKids.{text_law, text_sound}
use Rattle.html_heading_text.specs.HeadingLines.{heading_lines}
use Rattle.markdown_outline.proofs.list.Reader.say.Goals as goal

pub returns-clause-said : goal.returns-clause-said
returns-clause-said g c = λ kids linked labels sound events.
    let names = g.T.Tables.reference_of c.args.source.now.tables.now in
    let bytes = c.args.source.now.bytes.now in
    let text = text_kids kids in
    let says = heading_lines (inlines_of names bytes false text) in
    let is : string_bytes c.clear.new.self ++ says ≡ heading_lines (text_within names bytes false kids) =
    ap (λ (s : List ℕ). s ++ says) c.clear.ensures.bytes ∙ ap heading_lines (sym (text_law names bytes false kids)) in
    subst (λ (s : List ℕ). OnOk c.push_said.result (string_bytes c.push_said.new.out ≡ s)) is
    (c.push_said.ensures.said text linked labels (text_sound bytes kids sound) (c.text_within.ensures kids sound.nodes events))
