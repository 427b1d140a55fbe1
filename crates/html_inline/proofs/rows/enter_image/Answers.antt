use Rattle.std.proofs.Common.{◌≡◌, ◌++◌, List, true, false, string_bytes, sym, ap, ◌∙◌, refl}
use Rattle.html_inline.proofs.Prelude.{image_end, image_start, is_described, map, meaning_by, new_part, opened_view, OpenPart, output_view, place_target}
use Rattle.html_inline.proofs.Prelude.{reverse, target_texts}
use Rattle.html_inline.specs.declared.stack.OpenPart.TheVariants as open_part
use Rattle.html_inline.proofs.OpenStack.{entered, entered_silent}
use Rattle.html_inline.proofs.rows.enter_image.Goals as goal

pub returns-then-is_described : goal.returns-then-is_described
returns-then-is_described g c = λ definition footnotes rows is.
    let p = c.args.printing.now in
    let meaning = meaning_by (g.T.Tables.reference_of p.tables.now) p definition footnotes in
    let at = place_target p.definitions.now in
    let linked = target_texts at c.args.target in
    let view = opened_view meaning at rows in
    let items = c.args.scratch.now.stack.items in
    let h : is_described (map view (reverse items)) ≡ true =
    ap (λ (s : List OpenPart). is_described (map view (reverse s))) (sym c.as_slice.ensures.value) ∙ sym (c.is_described.ensures meaning at rows)
    ∙ c.if-is_described.true in
    entered_silent view (image_start meaning linked) (new_part true (image_end meaning linked))
    (output_view c.args.out.now) items c.push.new.self.items refl c.in_ok-push.ensures.items h

pub returns : goal.returns
returns g c = λ definition footnotes rows is.
    let p = c.args.printing.now in
    let meaning = meaning_by (g.T.Tables.reference_of p.tables.now) p definition footnotes in
    let at = place_target p.definitions.now in
    let linked = target_texts at c.args.target in
    let view = opened_view meaning at rows in
    let items = c.args.scratch.now.stack.items in
    let out = output_view c.args.out.now in
    let h : is_described (map view (reverse items)) ≡ false =
    ap (λ (s : List OpenPart). is_described (map view (reverse s))) (sym c.as_slice.ensures.value) ∙ sym (c.is_described.ensures meaning at rows)
    ∙ c.if-is_described.false in
    entered view (image_start meaning linked) (new_part true (image_end meaning linked)) out
    (string_bytes c.push_image_start.new.out) items c.push-2.new.self.items
    (open_part.Image c.args.place) (ap (λ l. new_part true (image_end meaning l)) is) c.in_ok-push-2.ensures.items h
    (c.in_ok-push_image_start.ensures definition footnotes ∙ ap (λ linked. out.text ++ image_start meaning linked) c.linked_at-linked.ensures)
