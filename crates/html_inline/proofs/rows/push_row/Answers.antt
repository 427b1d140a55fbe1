use Rattle.std.proofs.Common.{◌≡◌, ◌∷◌, [], ◌++◌, string_bytes, sym, ap, ◌∙◌, rules}
use Rattle.html_inline.proofs.Prelude.{call_row, content_codes, encode, fold, InlineRow, is_described, laid_out, leaf_in, leaves_bytes, map, meaning_by}
use Rattle.html_inline.proofs.Prelude.{on_ok_weaker, OnOk, opened_view, output_view, parts_of, place_target, printed_at, reverse, row_printed_in, row_view}
use Rattle.html_inline.proofs.Prelude.{spelled_view, with_text}
use Rattle.html_inline.specs.Opens.{image_target}
use Rattle.html_inline.proofs.OpenStack.{leaves_printed, lines_printed, text_printed}
use Rattle.html_inline.proofs.rows.push_row.Goals as goal

pub returns-in-Text : goal.returns-in-Text
returns-in-Text g c = λ definition footnotes held.
    let p = c.args.printing.now in
    let meaning = meaning_by (g.T.Tables.reference_of p.tables.now) p definition footnotes in
    let at = place_target p.definitions.now in
    let view = opened_view meaning at c.args.rows.now in
    let stack = map view (reverse c.args.scratch.now.stack.items) in
    let out = output_view c.args.out.now in
    let old = printed_at out stack in
    let row_is = λ (r : InlineRow). fold (row_printed_in p.cell meaning) old (row_view at r) in
    on_ok_weaker c.push_encoded.result
    (λ (e : string_bytes c.push_encoded.new.out ≡ out.text ++ encode c.in-Text.text.now).
    ap (λ x. printed_at (with_text out x) stack) e ∙ sym (text_printed p.cell meaning stack out c.in-Text.text.now) ∙ ap row_is (sym c.in-Text.is))
    c.push_encoded.ensures

pub returns-in-Verbatim : goal.returns-in-Verbatim
returns-in-Verbatim g c = λ definition footnotes held.
    let p = c.args.printing.now in
    let meaning = meaning_by (g.T.Tables.reference_of p.tables.now) p definition footnotes in
    let at = place_target p.definitions.now in
    let view = opened_view meaning at c.args.rows.now in
    let stack = map view (reverse c.args.scratch.now.stack.items) in
    let out = output_view c.args.out.now in
    let old = printed_at out stack in
    let row_is = λ (r : InlineRow). fold (row_printed_in p.cell meaning) old (row_view at r) in
    let verbatim = c.in-Verbatim.verbatim in
    let printed : OnOk c.push_str.result (string_bytes c.push_str.new.self ≡ out.text ++ verbatim.text.now) = search rules in
    on_ok_weaker c.push_str.result
    (λ (e : string_bytes c.push_str.new.self ≡ out.text ++ verbatim.text.now).
    ap (λ x. printed_at (with_text out x) stack) (e ∙ ap (λ t. out.text ++ t) (sym verbatim.same))
    ∙ sym (lines_printed p.cell meaning stack out verbatim.text.now) ∙ ap row_is (sym c.in-Verbatim.is))
    printed

pub returns-in-Leaf : goal.returns-in-Leaf
returns-in-Leaf g c = λ definition footnotes held.
    let p = c.args.printing.now in
    let meaning = meaning_by (g.T.Tables.reference_of p.tables.now) p definition footnotes in
    let at = place_target p.definitions.now in
    let view = opened_view meaning at c.args.rows.now in
    let stack = map view (reverse c.args.scratch.now.stack.items) in
    let out = output_view c.args.out.now in
    let old = printed_at out stack in
    let row_is = λ (r : InlineRow). fold (row_printed_in p.cell meaning) old (row_view at r) in
    on_ok_weaker c.push_part.result
    (λ (e : string_bytes c.push_part.new.out ≡ out.text ++ leaves_bytes p.compile.now (is_described stack) (map (leaf_in p.cell) (parts_of c.in-Leaf.part))).
    ap (λ s. printed_at (with_text out (string_bytes c.push_part.new.out)) (map view (reverse s.items))) c.push_part.ensures.stack
    ∙ ap (λ x. printed_at (with_text out x) stack) e ∙ sym (leaves_printed p.cell meaning stack (parts_of c.in-Leaf.part) out) ∙ ap row_is (sym c.in-Leaf.is))
    (c.push_part.ensures.printed definition footnotes c.args.rows.now)

pub returns-in-EnterSpan : goal.returns-in-EnterSpan
returns-in-EnterSpan g c = λ definition footnotes held.
    let p = c.args.printing.now in
    let meaning = meaning_by (g.T.Tables.reference_of p.tables.now) p definition footnotes in
    let at = place_target p.definitions.now in
    let view = opened_view meaning at c.args.rows.now in
    let stack = map view (reverse c.args.scratch.now.stack.items) in
    let out = output_view c.args.out.now in
    let old = printed_at out stack in
    let row_is = λ (r : InlineRow). fold (row_printed_in p.cell meaning) old (row_view at r) in
    on_ok_weaker c.enter_span.result (λ e. e ∙ ap row_is (sym c.in-EnterSpan.is)) (c.enter_span.ensures meaning at c.args.rows.now)

pub returns-in-EnterLink : goal.returns-in-EnterLink
returns-in-EnterLink g c = λ definition footnotes held.
    let p = c.args.printing.now in
    let meaning = meaning_by (g.T.Tables.reference_of p.tables.now) p definition footnotes in
    let at = place_target p.definitions.now in
    let view = opened_view meaning at c.args.rows.now in
    let stack = map view (reverse c.args.scratch.now.stack.items) in
    let out = output_view c.args.out.now in
    let old = printed_at out stack in
    let row_is = λ (r : InlineRow). fold (row_printed_in p.cell meaning) old (row_view at r) in
    on_ok_weaker c.enter_link.result (λ e. e ∙ ap row_is (sym c.in-EnterLink.is)) (c.enter_link.ensures definition footnotes c.args.rows.now)

pub returns-in-EnterImage : goal.returns-in-EnterImage
returns-in-EnterImage g c = λ definition footnotes held.
    let p = c.args.printing.now in
    let meaning = meaning_by (g.T.Tables.reference_of p.tables.now) p definition footnotes in
    let at = place_target p.definitions.now in
    let view = opened_view meaning at c.args.rows.now in
    let stack = map view (reverse c.args.scratch.now.stack.items) in
    let out = output_view c.args.out.now in
    let old = printed_at out stack in
    let row_is = λ (r : InlineRow). fold (row_printed_in p.cell meaning) old (row_view at r) in
    on_ok_weaker c.enter_image.result (λ e. e ∙ ap row_is (sym c.in-EnterImage.is))
    (c.enter_image.ensures definition footnotes c.args.rows.now (ap (image_target at) (c.requires ∙ c.in-EnterImage.is)))

pub returns-in-Call : goal.returns-in-Call
returns-in-Call g c = λ definition footnotes held.
    let p = c.args.printing.now in
    let meaning = meaning_by (g.T.Tables.reference_of p.tables.now) p definition footnotes in
    let at = place_target p.definitions.now in
    let view = opened_view meaning at c.args.rows.now in
    let stack = map view (reverse c.args.scratch.now.stack.items) in
    let out = output_view c.args.out.now in
    let old = printed_at out stack in
    let row_is = λ (r : InlineRow). fold (row_printed_in p.cell meaning) old (row_view at r) in
    on_ok_weaker c.push_call.result
    (λ (e : output_view c.push_call.new.out ≡ laid_out meaning out (call_row meaning (is_described stack) (content_codes c.in-Call.label.now))).
    ap (λ s. printed_at (output_view c.push_call.new.out) (map view (reverse s.items))) c.push_call.ensures.stack
    ∙ ap (λ x. printed_at x stack) e ∙ ap row_is (sym c.in-Call.is))
    (c.push_call.ensures.laid definition footnotes c.args.rows.now held)

pub returns-in-Exit : goal.returns-in-Exit
returns-in-Exit g c = λ definition footnotes held.
    let p = c.args.printing.now in
    let meaning = meaning_by (g.T.Tables.reference_of p.tables.now) p definition footnotes in
    let at = place_target p.definitions.now in
    let view = opened_view meaning at c.args.rows.now in
    let stack = map view (reverse c.args.scratch.now.stack.items) in
    let out = output_view c.args.out.now in
    let old = printed_at out stack in
    let row_is = λ (r : InlineRow). fold (row_printed_in p.cell meaning) old (row_view at r) in
    on_ok_weaker c.exit.result (λ e. e ∙ ap row_is (sym c.in-Exit.is)) (c.exit.ensures definition footnotes)

pub returns-in-Spelled : goal.returns-in-Spelled
returns-in-Spelled g c = λ definition footnotes held.
    let p = c.args.printing.now in
    let meaning = meaning_by (g.T.Tables.reference_of p.tables.now) p definition footnotes in
    let at = place_target p.definitions.now in
    let view = opened_view meaning at c.args.rows.now in
    let stack = map view (reverse c.args.scratch.now.stack.items) in
    let out = output_view c.args.out.now in
    let old = printed_at out stack in
    let row_is = λ (r : InlineRow). fold (row_printed_in p.cell meaning) old (row_view at r) in
    let leaf = c.in-Spelled.leaf in
    on_ok_weaker c.push_spelled.result
    (λ (e : string_bytes c.push_spelled.new.out ≡ out.text ++ leaves_bytes p.compile.now (is_described stack) (leaf_in p.cell (spelled_view leaf) ∷ [])).
    ap (λ s. printed_at (with_text out (string_bytes c.push_spelled.new.out)) (map view (reverse s.items))) c.push_spelled.ensures.stack
    ∙ ap (λ x. printed_at (with_text out x) stack) e
    ∙ sym (leaves_printed p.cell meaning stack (spelled_view leaf ∷ []) out) ∙ ap row_is (sym c.in-Spelled.is))
    (c.push_spelled.ensures.printed definition footnotes c.args.rows.now)
