use Rattle.std.proofs.Common.{◌≡◌, ◌++◌, ◌∷◌, [], ℕ, List, map, take, get_or, string_bytes, sym, ap, ◌∙◌}
use Rattle.html_footnotes.proofs.Prelude.{append-nil, CompileOptions, ending_bytes, flat_map-append, fold, fold-append, footnotes_pieces, note_view, print}
use Rattle.std.proofs.lemmas.List.{map_more}
use Rattle.definition_page.specs.GfmFootnoteDefinition.{Footnote, footnote_pieces}
use Rattle.html_footnotes.proofs.gfm_footnote_definition.push_footnotes.Goals as goal

-- one more footnote
one_more : (options : CompileOptions) (default out : List ℕ) (before : List Footnote) (note : Footnote)
    → fold (print default) (fold (print default) out (footnotes_pieces options before)) (footnote_pieces options note)
    ≡ fold (print default) out (footnotes_pieces options (before ++ note ∷ []))
one_more options default out before note =
    sym (fold-append (print default) out (footnotes_pieces options before) (footnote_pieces options note))
    ∙ sym (ap (fold (print default) out)
    (flat_map-append (footnote_pieces options) before (note ∷ [])
    ∙ ap (λ x. footnotes_pieces options before ++ x) (append-nil (footnote_pieces options note))))

pub loop-note-preserved : goal.loop-note-preserved
loop-note-preserved g c =
    let options = c.args.compile.now in
    let default = ending_bytes c.args.ending in
    let start = string_bytes c.args.out.now in
    let notes = c.args.notes.now in
    let i = c.loop-note.note-index in
    let note = note_view (get_or notes i _) in
    c.in_ok-push_footnote.ensures
    ∙ ap (λ x. fold (print default) x (footnote_pieces options note)) c.loop-note.invariant
    ∙ one_more options default start (map note_view (take i notes)) note
    ∙ sym (ap (λ ns. fold (print default) start (footnotes_pieces options ns)) (map_more note_view notes i _ c.loop-note-test.true))
