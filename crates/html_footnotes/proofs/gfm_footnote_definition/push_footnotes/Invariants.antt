use Rattle.std.proofs.Common.{◌≡◌, map, take, string_bytes}
use Rattle.html_footnotes.proofs.Prelude.{ending_bytes, fold, footnotes_pieces, note_view, print}
use Rattle.html_footnotes.proofs.gfm_footnote_definition.push_footnotes.Given as goal

-- the footnotes so far are printed
abbrev pub invariant-loop-note : goal.invariant-loop-note
invariant-loop-note g l =
    string_bytes l.out ≡ fold (print (ending_bytes l.ending)) (string_bytes l.initial.out)
    (footnotes_pieces l.compile (map note_view (take l.note-index l.notes)))
