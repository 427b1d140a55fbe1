use Rattle.std.proofs.Common.{◌++◌, false, replicate, refl, sym, subst}
use Rattle.parse_leaves.proofs.Prelude.{AreContentLines, content_text, eqb-true, HaveNoEnding, inline_content, on_ok_weaker, own_lines, piece_lines}
use Rattle.parse_leaves.proofs.Prelude.{read_content, reading_by, tab_column, WritesContentIn}
use Rattle.markdown_options.specs.declared.beside.Kind.TheVariants.{Whitespace}
use Rattle.engine_events.specs.declared.event.Name.TheVariants.{HeadingAtxText}
use Rattle.parse_leaves.proofs.AtxLists.{clear_text, nothing, some_bytes}
use Rattle.parse_leaves.proofs.AtxParts.{heading_text, no_heading_text}
use Rattle.parse_leaves.proofs.heading_atx.push_heading_text.Goals as goal

pub returns-then-is_empty-clause-written : goal.returns-then-is_empty-clause-written
returns-then-is_empty-clause-written g c = λ ds text behind ending left known none bytes clear on.
    no_heading_text text ending left behind (reading_by g.T.Tables c.args.texts.now ds) c.args.content.now c.args.walk.now none
    (nothing c.args.content.now.text.now (eqb-true _ 0 (sym c.if-is_empty.ensures))) on

pub returns-clause-written : goal.returns-clause-written
returns-clause-written g c =
    let piece = c.args.content.now in
    let mid = c.begin_here.new.self in
    let new = c.push_text_in.new.walk in
    on_ok_weaker c.push_text_in.result
    (λ written. λ ds text behind ending left known none bytes clear on.
    let r = reading_by g.T.Tables c.args.texts.now ds in
    let bare = subst (λ k. HaveNoEnding (replicate k tab_column ++ piece.text.now)) none clear in
    let is =
    subst (λ ls. AreContentLines (piece_lines ls) → WritesContentIn r HeadingAtxText (content_text (piece_lines ls))
    (read_content r false (inline_content r.tables.is_punctuation Whitespace (own_lines (piece_lines ls)))) mid new)
    c.from_ref.ensures.value (λ are. written ds known are refl) in
    heading_text text ending left behind r piece c.args.walk.now mid new none (some_bytes piece.text.now c.if-is_empty.ensures) bytes
    (clear_text piece.text.now bare) on c.begin_here.ensures.stays
    c.begin_here.ensures.begun c.begin_here.ensures.begins (is clear))
    c.push_text_in.ensures.written
