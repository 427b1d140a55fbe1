use Rattle.std.proofs.Common.{◌≡◌, map, string_bytes, take}
use Rattle.html_footnotes.proofs.Prelude.{called_view, note_of, note_view}
use Rattle.html_footnotes.proofs.calls.footnotes_of.Given as goal

-- these so far
abbrev pub invariant-loop-one : goal.invariant-loop-one
invariant-loop-one g l = map note_view l.footnotes.items ≡ map (note_of (map string_bytes l.notes)) (map called_view (take l.one-index l.called))
