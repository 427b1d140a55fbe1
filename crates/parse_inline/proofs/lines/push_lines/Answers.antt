use Rattle.std.proofs.Common.{◌≡◌, ◌<◌, ◌∙◌, ap, refl, subst, drop, length, rules, arith}
use Rattle.parse_inline.proofs.Prelude.{AreCutBetween}
use Rattle.parse_inline.proofs.RawLines.{cut_rest}
use Rattle.parse_inline.proofs.RawTexts.{lines_begin, lines_end, lines_more}
use Rattle.parse_strings.proofs.Parts.{none_left}
use Rattle.parse_inline.proofs.lines.push_lines.Goals as goal

pub loop-rest-init : goal.loop-rest-init
loop-rest-init g c = record {
  opened = refl;
  written = λ names text content stop chunk utf8 cut st. lines_begin names text c.args.walk.now c.args.name c.args.indented c.args.bytes.now content stop st;
}

pub loop-rest-preserved : goal.loop-rest-preserved
loop-rest-preserved g c = record {
  opened = c.in_ok-size.ensures.open ∙ c.loop-rest.invariant.opened;
  written = λ names text content stop chunk utf8 cut st.
      let rest = c.loop-rest.rest.now in
      let w = c.loop-rest.invariant.written names text content stop chunk utf8 cut st in
      let some : 0 < length rest = search rules in
      let here : AreCutBetween rest content = cut_rest w.front rest content (subst (λ xs. AreCutBetween xs content) w.parts cut) in
      let line = c.in_ok-size.ensures.written names text content stop chunk some (w.characters utf8) here w.writes.stands in
      let size : c.max.result ≡ c.in_ok-size.size = omega (arith, c.max.ensures, line.some) in
      lines_more names text _ _ _ c.args.name c.args.indented c.args.bytes.now rest _ content _ stop
      (c.bytes_from-rest.ensures.rest ∙ ap (λ k. drop k rest) size) w some line;
}

pub returns-clause-written : goal.returns-clause-written
returns-clause-written g c = λ names text content stop chunk utf8 cut st.
    let rest = c.loop-rest.rest.now in
    let none : length rest ≡ 0 = search rules in
    lines_end names text _ _ c.args.name c.args.indented c.args.bytes.now rest content stop (none_left rest none)
    (c.loop-rest.invariant.written names text content stop chunk utf8 cut st)
