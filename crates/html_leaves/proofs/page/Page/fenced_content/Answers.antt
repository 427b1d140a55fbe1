use Rattle.std.proofs.Common.{◌≡◌, ◌||◌, if◌then◌else◌, ◌<◌, ◌-◌, Option, Some, length, sym, ap, ◌∙◌, subst, arith}
use Rattle.std.specs.List.{slice_get}
use Rattle.html_leaves.proofs.Prelude.{code_of, ending_bytes, ending_text, last_ending, LineEnding, OnOk, own_lines, page_view, piece_line, piece_lines}
use Rattle.html_leaves.proofs.Prelude.{with_bytes, with_fresh}
use Rattle.std.proofs.lemmas.List.{length-map}
use Rattle.std.proofs.lemmas.Option.{slice_get_within, get_or_from_slice_get}
use Rattle.text_pieces.specs.declared.piece.Piece.{Piece}
use Rattle.text_pieces.proofs.OwnLines.{last_piece_ending}
use Rattle.html_leaves.proofs.CodeFencedLemmas.{content_ending, content_laid}
use Rattle.html_leaves.proofs.page.Page.fenced_content.Goals as goal
use Rattle.html_leaves.proofs.page.Page.fenced_content.Goals.{then-top, else-top, then-whole, else-whole}

pub returns-after-whole-clause-printed : goal.returns-after-whole-clause-printed
returns-after-whole-clause-printed g c = λ options.
    let page = c.args.self.now in
    let out = page_view page in
    let pieces = c.args.lines.now in
    let ls = piece_lines pieces in
    let e = page.default_ending in
    let top = c.args.top in
    let closed = c.args.closed in
    let default = ending_bytes e in
    let last = c.in-Some.last.now in
    let read : slice_get pieces (length pieces - 1) ≡ Some last = sym c.in-Some.ensures.value in
    let some : 0 < length pieces = omega (arith, slice_get_within pieces (length pieces - 1) last read) in
    let of_last : last.ending ≡ last_ending ls =
    sym (ap (λ (p : Piece). p.ending) (get_or_from_slice_get pieces (length pieces - 1) last last read)) ∙ last_piece_ending pieces last some in
    let whole : c.if-top.whole ≡ (top || closed) = elim c.if-top.branch [
      | then-top w ↦ w.whole-is ∙ w.if-top.true ∙ ap (λ t. t || closed) (sym w.if-top.true)
      | else-top w ↦ w.whole-is ∙ ap (λ t. t || closed) (sym w.if-top.false)
    ] in
    let ending : c.if-whole.ending ≡ content_ending top closed e ls = elim c.if-whole.branch [
      | then-whole w ↦ w.ending-is ∙ of_last ∙ ap (λ t. if t then last_ending ls else Some e) (sym w.if-whole.true ∙ whole)
      | else-whole w ↦ w.ending-is ∙ ap (λ (d : LineEnding). Some d) c.in_ok-code.ensures.default
          ∙ ap (λ t. if t then last_ending ls else Some e) (sym w.if-whole.false ∙ whole)
    ] in
    subst (λ x. OnOk c.end_content.result (page_view c.end_content.new.self ≡ x))
    (ap (λ (d : LineEnding). with_fresh (ending_bytes d) (with_bytes (ending_text c.if-whole.ending) (page_view c.code.new.self))) c.in_ok-code.ensures.default
    ∙ ap (λ x. with_fresh default (with_bytes (ending_text c.if-whole.ending) x)) c.in_ok-code.ensures.printed
    ∙ ap (λ (o : Option LineEnding). with_fresh default (with_bytes (ending_text o) (with_bytes (code_of (own_lines ls)) out))) ending
    ∙ sym (content_laid options e out top closed ls (subst (λ n. 0 < n) (sym (length-map pieces piece_line)) some)))
    c.end_content.ensures.printed
