use Rattle.std.proofs.Common.{ℕ, ◌++◌, ◌-◌, ap, ◌∙◌, length}
use Rattle.std.proofs.Common.{◌≡◌, List, sym, subst}
use Rattle.parse_lines.proofs.Prelude.{ending_text, lines, on_ok_weaker, Rest, rest_of, rest_start, standing, TextLine, whole, written_to}
use Rattle.event_definition.specs.Containers.{Prefixed, begun, begun_with, prefixed}
use Rattle.event_definition.specs.Written.{Between, Within, Written}
use Rattle.parse_pieces.specs.Written.{WritesPieces}
use Rattle.parse_lines.specs.Pieces.{WritesUpToLine, left_between, left_in_line}
use Rattle.parse_lines.proofs.Lines.{some_left}
use Rattle.parse_lines.proofs.Steps.{begins_line, both_ok}
use Rattle.parse_lines.proofs.Ends.{after_in_line, start_line}
use Rattle.parse_lines.proofs.Written.{line_ready}
use Rattle.parse_lines.proofs.walk.Walk.begin_line.Goals as goal

pub returns-clause-begins : goal.returns-clause-begins
returns-clause-begins g c =
    let line = c.next_line-ending.result in
    let ends = c.saturating_sub-self.ensures
    ∙ ap (λ (n : ℕ). n - c.ending_size.result) c.saturating_sub.ensures
    ∙ ap (λ (n : ℕ). (c.args.self.now.size - length line.2.now) - n) c.ending_size.ensures in
    both_ok c.prefixes.result
    (λ reads stays.
    begins_line (standing c.args.self.now) (standing c.prefixes.new.self) line.0.now line.2.now c.saturating_sub-self.result line.1
    (rest_of c.line_rest-self.result) c.next_line-ending.ensures.rest c.line_rest-self.ensures ends reads stays)
    c.prefixes.ensures.reads c.prefixes.ensures.stays

pub returns-clause-written : goal.returns-clause-written
returns-clause-written g c =
    let old = c.args.self.now in
    let line = c.next_line-ending.result in
    let ends = c.saturating_sub-self.ensures
    ∙ ap (λ (n : ℕ). n - c.ending_size.result) c.saturating_sub.ensures
    ∙ ap (λ (n : ℕ). (old.size - length line.2.now) - n) c.ending_size.ensures in
    on_ok_weaker c.prefixes.result
    (λ writes. λ text next others st written order.
    let ready = line_ready (standing old) text next others line.0.now line.2.now line.1 c.saturating_sub-self.result (rest_of c.line_rest-self.result)
    (written_to old) st c.next_line-ending.ensures.rest c.line_rest-self.ensures ends written in
    let done = writes text st.before line.0.now (ending_text line.1 ++ line.2.now) 0 (
    record { line = ready.0; end = ready.1; rest = ready.2; written = ready.3; order = order }
    ) in
    (done.0, done.1.1.written))
    c.prefixes.ensures.written

pub returns-clause-line : goal.returns-clause-line
returns-clause-line g c =
    let old = c.args.self.now in
    let line = c.next_line-ending.result in
    let ends = c.saturating_sub-self.ensures
    ∙ ap (λ (n : ℕ). n - c.ending_size.result) c.saturating_sub.ensures
    ∙ ap (λ (n : ℕ). (old.size - length line.2.now) - n) c.ending_size.ensures in
    on_ok_weaker c.prefixes.result
    (λ writes. λ text next others st written order.
    let ready = line_ready (standing old) text next others line.0.now line.2.now line.1 c.saturating_sub-self.result (rest_of c.line_rest-self.result)
    (written_to old) st c.next_line-ending.ensures.rest c.line_rest-self.ensures ends written in
    let done = writes text st.before line.0.now (ending_text line.1 ++ line.2.now) 0 (
    record { line = ready.0; end = ready.1; rest = ready.2; written = ready.3; order = order }
    ) in
    after_in_line text st.before line.0.now (ending_text line.1 ++ line.2.now) done.1.0 (written_to old) c.prefixes.new.self
    (ready.3 ∙ ap (rest_start c.saturating_sub-self.result) ready.2
    ∙ start_line st.before line.0.now c.saturating_sub-self.result ready.0.bytes ready.1)
    done.1.1)
    c.prefixes.ensures.written

pub returns-clause-exact : goal.returns-clause-exact
returns-clause-exact g c =
    let old = c.args.self.now in
    let new = c.prefixes.new.self in
    let line = c.next_line-ending.result in
    let on = old.on.now in
    let outer = (standing old).outermost in
    let ends = c.saturating_sub-self.ensures
    ∙ ap (λ (n : ℕ). n - c.ending_size.result) c.saturating_sub.ensures
    ∙ ap (λ (n : ℕ). (old.size - length line.2.now) - n) c.ending_size.ensures in
    both_ok c.prefixes.result
    (λ exact stays. λ text next others st written order.
    let first = c.next_line-ending.ensures.rest (some_left st.kind old.left.now next others st.unread) in
    let ready = line_ready (standing old) text next others line.0.now line.2.now line.1 c.saturating_sub-self.result (rest_of c.line_rest-self.result)
    (written_to old) st c.next_line-ending.ensures.rest c.line_rest-self.ensures ends written in
    let done = exact text st.before line.0.now (ending_text line.1 ++ line.2.now) 0 (
    record { line = ready.0; end = ready.1; rest = ready.2; written = ready.3; order = order }
    ) st.over.quotes in
    let same = ap (prefixed on outer) ready.2 in
    let all : begun on outer (left_between (standing old)) ≡ begun_with (prefixed on outer (whole line.0.now)) line.1 (lines line.2.now) =
    ap (λ (ls : List TextLine). begun on outer (Between ls)) first in
    let rest : rest_of new.rest ≡ (prefixed on outer (whole line.0.now)).rest = sym done.0 ∙ ap (λ (p : Prefixed). p.rest) same in
    subst (λ (w : Written). WritesUpToLine text w old new) (sym all) (record {
      pieces = subst (λ (p : Prefixed). WritesPieces text p.pieces old.out new.out) same done.1;
      left = ap left_in_line stays ∙ ap (λ (r : Rest). Within r line.1 (lines line.2.now)) rest;
    }))
    c.prefixes.ensures.exact c.prefixes.ensures.stays
