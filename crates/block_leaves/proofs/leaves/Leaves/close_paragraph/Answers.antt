use Rattle.std.proofs.Common.{◌≡◌, ◌-◌, ◌∷◌, [], List, Option, sym, ap, ◌∙◌, subst, refl, length, drop, arith}
use Rattle.block_leaves.proofs.Prelude.{AreLines, AreRead, block_and_ending, BlockLine, Blocks, Container, IfSome, join, join-nil, last_ending, Leaf, Leaves}
use Rattle.block_leaves.proofs.Prelude.{length-map, Level, LineEnding, on_ok_weaker, own_lines, Paragraph, paragraph_of, piece_line, piece_lines, Single}
use Rattle.block_leaves.proofs.Prelude.{spine, take_all, Text, whole_lines}
use Rattle.block_leaves.proofs.Changes as changes
use Rattle.block_leaves.proofs.leaves.Leaves.close_paragraph.Goals as goal

pub returns-then-count-eq0 : goal.returns-then-count-eq0
returns-then-count-eq0 g c = λ ls _ _ containers around kids h.
    let p = c.args.self.now in
    let pool = piece_lines p.pieces.items in
    let left = changes.all_left p.rows.rows.items p.rows.waiting.items p.rows.bare pool around kids ls h.written (changes.enough_lines p) in
    let long = length-map p.pieces.items piece_line in
    none_case containers kids around ls (omega (arith, left, long, p.counted, p.pieces.ok.0, c.len.ensures, c.if-count-eq0.true)) h
  where
    none_case : (containers : List Container) (kids : Blocks) (around : List Level) (ls : List BlockLine) → length ls ≡ 0 → AreRead c.args.self.now containers (spine around kids (Text ls))
        → AreRead c.args.self.now containers (spine around (join kids (paragraph_of ls)) (Text []))
    none_case containers kids around [] none h = subst (λ (bs : Blocks). AreRead c.args.self.now containers (spine around bs (Text []))) (sym (join-nil kids)) h
    none_case containers kids around (l ∷ ls) none h = absurd (omega (arith, none))

-- some lines, and the ending of the last one, are a paragraph
some_lines : {A : Type 0} (q : Leaves A) (containers : List Container) (kids : Blocks) (around : List Level) (ls : List BlockLine) (ending : Option LineEnding) → (length ls ≡ 0 → ⊥)
    → ending ≡ last_ending ls → AreRead q containers (spine around (join kids (block_and_ending (Leaf (Paragraph (own_lines ls))) ending)) (Text []))
    → AreRead q containers (spine around (join kids (paragraph_of ls)) (Text []))
some_lines q containers kids around [] ending some last h = absurd (some refl)
some_lines q containers kids around (l ∷ ls) ending some last h =
    subst (λ (e : Option LineEnding). AreRead q containers (spine around (join kids (block_and_ending (Leaf (Paragraph (own_lines (l ∷ ls)))) e)) (Text []))) last h

pub returns-in-Some : goal.returns-in-Some
returns-in-Some g c =
    on_ok_weaker c.close_whole.result (λ reads. λ ls clean known containers around kids h.
    let p = c.args.self.now in
    let pool = piece_lines p.pieces.items in
    let left = changes.all_left p.rows.rows.items p.rows.waiting.items p.rows.bare pool around kids ls h.written (changes.enough_lines p) in
    let long = length-map p.pieces.items piece_line in
    let all : c.len.result - p.lines_in_rows ≡ length ls = omega (arith, left, long, p.counted, p.pieces.ok.0, c.len.ensures) in
    let lines_left : ls ≡ drop p.lines_in_rows pool = changes.lines_of p containers around kids (Text ls) h in
    let last : c.last_ending-ending.result ≡ last_ending ls =
    c.last_ending-ending.ensures ∙ ap last_ending (sym (changes.lines_here p containers around kids (Text ls) h c.deref.result.now c.deref.ensures.value)) in
    let whole_is : ls ≡ whole_lines c.in-Some.text.now = lines_left ∙ sym (c.in-Some.ensures.text (subst AreLines lines_left clean)
    (subst (λ (xs : List BlockLine). IfSome c.args.known (λ text. whole_lines text.now ≡ xs)) lines_left known)) in
    some_lines c.close_whole.new.self containers kids around ls c.last_ending-ending.result (λ none. c.if-count-eq0.false (all ∙ none)) last
    (reads ls whole_is containers around kids h))
    c.close_whole.ensures

pub returns-then-count-eq1 : goal.returns-then-count-eq1
returns-then-count-eq1 g c =
    on_ok_weaker c.end_leaf.result (λ reads. λ ls _ _ containers around kids h.
    let p = c.args.self.now in
    let pool = piece_lines p.pieces.items in
    let left = changes.all_left p.rows.rows.items p.rows.waiting.items p.rows.bare pool around kids ls h.written (changes.enough_lines p) in
    let long = length-map p.pieces.items piece_line in
    let all : c.len.result - p.lines_in_rows ≡ length ls = omega (arith, left, long, p.counted, p.pieces.ok.0, c.len.ensures) in
    let last : c.last_ending-ending.result ≡ last_ending ls =
    c.last_ending-ending.ensures ∙ ap last_ending (sym (changes.lines_here p containers around kids (Text ls) h c.deref.result.now c.deref.ensures.value)) in
    let one = take_all 1 ls (omega (arith, all, c.if-count-eq1.true)) in
    some_lines c.end_leaf.new.self containers kids around ls c.last_ending-ending.result (λ none. c.if-count-eq0.false (all ∙ none)) last
    (reads (Text ls) (Leaf (Paragraph (own_lines ls))) (ap (λ x. Single (Leaf (Paragraph (own_lines x))) ∷ []) (sym one)) refl containers around kids h))
    c.end_leaf.ensures

pub returns-in-None : goal.returns-in-None
returns-in-None g c =
    on_ok_weaker c.end_leaf-in-None.result (λ reads. λ ls _ _ containers around kids h.
    let p = c.args.self.now in
    let pool = piece_lines p.pieces.items in
    let left = changes.all_left p.rows.rows.items p.rows.waiting.items p.rows.bare pool around kids ls h.written (changes.enough_lines p) in
    let long = length-map p.pieces.items piece_line in
    let count = c.len.result - p.lines_in_rows in
    let all : count ≡ length ls = omega (arith, left, long, p.counted, p.pieces.ok.0, c.len.ensures) in
    let last : c.last_ending-ending.result ≡ last_ending ls =
    c.last_ending-ending.ensures ∙ ap last_ending (sym (changes.lines_here p containers around kids (Text ls) h c.deref.result.now c.deref.ensures.value)) in
    let whole = take_all count ls (omega (arith, all)) in
    some_lines c.end_leaf-in-None.new.self containers kids around ls c.last_ending-ending.result (λ none. c.if-count-eq0.false (all ∙ none)) last
    (reads (Text ls) (Leaf (Paragraph (own_lines ls))) (ap (λ x. Single (Leaf (Paragraph (own_lines x))) ∷ []) (sym whole)) refl containers around kids h))
    c.end_leaf-in-None.ensures
