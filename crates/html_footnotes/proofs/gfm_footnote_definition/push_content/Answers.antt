use Rattle.std.proofs.Common.{◌≡◌, ◌++◌, None, Some, string_bytes, codes, take, drop, sym, ap, ◌∙◌, subst}
use Rattle.html_footnotes.proofs.Prelude.{backs_pieces, ending_bytes, fold, Fresh, on_ok_weaker, OnOk, pieces_html, plain, print, with_backs}
use Rattle.definition_page.specs.GfmFootnoteDefinition.{paragraph_end}
use Rattle.html_footnotes.proofs.Printed.{backs_added, in_paragraph}
use Rattle.html_footnotes.proofs.gfm_footnote_definition.push_content.Goals as goal

pub returns-in_ok-push_backs-in-Some : goal.returns-in_ok-push_backs-in-Some
returns-in_ok-push_backs-in-Some g c =
    let default = ending_bytes c.args.ending in
    let start = string_bytes c.args.out.now in
    let options = c.args.compile.now in
    let html = c.args.note.html.now in
    let label = c.args.note.label.now in
    let calls = c.args.note.calls in
    let end = c.in-Some.end in
    let backs = pieces_html (backs_pieces options label calls) in
    let new = string_bytes c.push_raw-in-Some.new.out in
    let found : paragraph_end html ≡ Some end = sym c.paragraph_end.ensures.end ∙ c.in-Some.is in
    let front : string_bytes c.push_backs.new.out ≡ ((start ++ plain (take end html)) ++ codes " ") ++ backs =
    c.in_ok-push_backs-in-Some.ensures
    ∙ ap (λ x. x ++ backs) (c.in_ok-push_str-in-Some.ensures.bytes
    ∙ ap (λ x. x ++ codes " ") (c.in_ok-push_raw-in-Some.ensures ∙ ap (λ x. start ++ plain x) c.split_at.ensures.front)) in
    subst (λ o. OnOk c.push_raw-in-Some.result (new ≡ fold (print default) start (with_backs html (backs_pieces options label calls) o))) (sym found)
    (on_ok_weaker c.push_raw-in-Some.result (λ (e : new ≡ string_bytes c.push_backs.new.out ++ plain c.split_at.result.1.now).
    e ∙ ap (λ x. string_bytes c.push_backs.new.out ++ plain x) c.split_at.ensures.back ∙ ap (λ x. x ++ plain (drop end html)) front
    ∙ sym (in_paragraph options label html calls end default start))
    c.push_raw-in-Some.ensures)

pub returns-in_ok-push_fresh-in-None : goal.returns-in_ok-push_fresh-in-None
returns-in_ok-push_fresh-in-None g c =
    let default = ending_bytes c.args.ending in
    let start = string_bytes c.args.out.now in
    let options = c.args.compile.now in
    let html = c.args.note.html.now in
    let label = c.args.note.label.now in
    let calls = c.args.note.calls in
    let backs = backs_pieces options label calls in
    let new = string_bytes c.push_backs-in-None.new.out in
    let found : paragraph_end html ≡ None = sym c.paragraph_end.ensures.end ∙ c.in-None.is in
    let front : string_bytes c.push_fresh.new.out ≡ print default (start ++ plain html) Fresh =
    c.in_ok-push_fresh-in-None.ensures ∙ ap (λ x. print default x Fresh) c.in_ok-push_raw-in-None.ensures in
    subst (λ o. OnOk c.push_backs-in-None.result (new ≡ fold (print default) start (with_backs html backs o))) (sym found)
    (on_ok_weaker c.push_backs-in-None.result (λ (e : new ≡ string_bytes c.push_fresh.new.out ++ pieces_html backs).
    e ∙ ap (λ x. x ++ pieces_html backs) front ∙ sym (backs_added options label calls default (print default (start ++ plain html) Fresh)))
    c.push_backs-in-None.ensures)
