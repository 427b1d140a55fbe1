use Rattle.std.proofs.Common.{◌≡◌, ℕ, ◌+◌, ◌<◌, List, [], ◌∷◌, ◌++◌, map, string_bytes, take, length, get_or, sym, ap, ◌∙◌}
use Rattle.std.proofs.lemmas.List.{map_push, take_all, take_more}
use Rattle.definition_page.specs.GfmFootnoteDefinition as footnote
use Rattle.html_footnotes.proofs.Prelude.{called_view, CalledFootnote, Footnote, note_of, note_view, NoteCalls}
use Rattle.html_footnotes.proofs.calls.footnotes_of.Goals as goal

-- one more footnote
one_more : {A : Type 0} (note : NoteCalls → footnote.Footnote) (called : List (CalledFootnote A)) (i : ℕ) (d : CalledFootnote A)
    (so_far : List Footnote) (f : Footnote) → i < length called → note_view f ≡ note (called_view (get_or called i d))
    → map note_view so_far ≡ map note (map called_view (take i called))
    → map note_view (so_far ++ f ∷ []) ≡ map note (map called_view (take (i + 1) called))
one_more note called i d so_far f lt is same =
    let before = map called_view (take i called) in
    map_push note_view so_far f ∙ ap (λ fs. fs ++ note_view f ∷ []) same ∙ ap (λ x. map note before ++ x ∷ []) is
    ∙ sym (map_push note before (called_view (get_or called i d))) ∙ sym (ap (map note) (map_push called_view (take i called) (get_or called i d)))
    ∙ sym (ap (λ cs. map note (map called_view cs)) (take_more called i d lt))

pub loop-one-preserved : goal.loop-one-preserved
loop-one-preserved g c =
    let note = note_of (map string_bytes c.args.notes.now) in
    let one = c.one-item.result in
    ap (map note_view) c.in_ok-push.ensures.items
    ∙ one_more note c.args.called.now c.loop-one.one-index one c.loop-one.footnotes.items c.footnote_of.result c.loop-one-test.true
    (c.footnote_of.ensures ∙ ap (λ x. note (called_view x)) c.one-item.is) c.loop-one.invariant

pub returns : goal.returns
returns g c =
    let note = note_of (map string_bytes c.args.notes.now) in
    c.loop-one.invariant ∙ ap (λ cs. map note (map called_view cs)) (take_all c.loop-one.one-index c.args.called.now c.loop-one-test.false)
