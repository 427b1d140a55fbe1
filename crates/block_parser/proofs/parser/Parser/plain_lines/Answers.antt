use Rattle.std.proofs.Common.{◌≡◌, ◌<◌, ◌++◌, [], ℕ, List, length, get_or, sym, ap, ◌∙◌, subst, rules, arith}
use Rattle.block_parser.proofs.Prelude.{AreRead, At, beside_line, Blank, close_leaf, container_views, eqb-false, eqb-true, flat_map, grow, HasRead, IsUtf8}
use Rattle.block_parser.proofs.Prelude.{join, length-append, line_text, map, nil_from_length, no_text, nothing, one, spine, spine_after, Text, text_line, tree}
use Rattle.block_parser.proofs.Prelude.{whole, whole_line, whole_lines}
use Rattle.std.specs.Prelude.{IfSome}
use Rattle.std.proofs.lemmas.Option.{IfSome_then}
use Rattle.markdown_options.specs.declared.beside.Kind.TheVariants.{Whitespace}
use Rattle.block_parser.proofs.Closing as closing
use Rattle.block_parser.proofs.PlainLines.{plain_clean, plain_front, plain_more, plain_none, read_after, shorter_after}
use Rattle.block_state.proofs.WholeLines.{cut_boundary}
use Rattle.block_parser.proofs.parser.Parser.plain_lines.Goals as goal

pub loop-content-init : goal.loop-content-init
loop-content-init g c = (c.utf8.text, plain_none c.args.on.now c.args.text.now _)

pub known_front-requires-clause-boundary : goal.known_front-requires-clause-boundary
known_front-requires-clause-boundary g c =
    let k = c.loop-content.invariant.1 in
    cut_boundary (map whole_line k.read) c.args.text.now c.loop-content.rest.now k.begins c.loop-content.invariant.0

pub known_front-requires-clause-within : goal.known_front-requires-clause-within
known_front-requires-clause-within g c =
    let k = c.loop-content.invariant.1 in
    omega (arith, ap length k.begins.split, length-append (flat_map line_text (map whole_line k.read)) c.loop-content.rest.now)

pub returns-then-is_empty-clause-shorter : goal.returns-then-is_empty-clause-shorter
returns-then-is_empty-clause-shorter g c =
    let k = c.loop-content.invariant.1 in
    let rest = c.loop-content.rest.now in
    let some : 0 < length rest = omega (arith, eqb-false (length rest) 0 (sym c.is_empty.ensures ∙ c.loop-content-test.true)) in
    let next = c.next_line-ending.result in
    omega (
      arith,
      shorter_after next.0.now next.1 rest next.2.now (c.next_line-ending.ensures.rest some),
      ap length k.begins.split,
      length-append (flat_map line_text (map whole_line k.read)) rest,
    )

pub returns-then-is_empty-clause-read : goal.returns-then-is_empty-clause-read
returns-then-is_empty-clause-read g c = λ kids ls keeps h.
    let k = c.loop-content.invariant.1 in
    let on = c.args.on.now in
    let text = c.args.text.now in
    let rest = c.loop-content.rest.now in
    let next = c.next_line-ending.result in
    let line = text_line next.0.now next.1 in
    let all = ls ++ map whole_line k.read in
    let some : 0 < length rest = omega (arith, eqb-false (length rest) 0 (sym c.is_empty.ensures ∙ c.loop-content-test.true)) in
    let clean = plain_clean on text rest (HasRead c.args.self.now) c.loop-content.self k kids ls keeps in
    let known : IfSome c.known_front.result (λ front. whole_lines front.now ≡ all) =
    IfSome_then c.known_front.result c.known_front.ensures.front (λ front is.
    plain_front on text rest (HasRead c.args.self.now) c.loop-content.self k kids ls front.now
    (no_text ls (sym (c.has_text-goes_on.ensures (container_views c.args.self.now.open.items) (spine [] kids (Text ls)) h) ∙ is.0)) is.1 keeps) in
    let none : next.0.now ≡ [] =
    nil_from_length next.0.now (eqb-true (length next.0.now) 0 (sym c.is_empty-in-loop-content.ensures ∙ c.if-is_empty.true)) in
    let shut = c.in_ok-close_text.ensures all clean known (container_views c.loop-content.self.open.items) [] kids (k.reads kids ls h) in
    let blank = c.in_ok-blank_line.ensures (container_views c.loop-content.self.open.items) [] (join kids (close_leaf on (Text all))) shut in
    read_after on text rest next.2.now (HasRead c.args.self.now) c.loop-content.self _ line k (c.next_line-ending.ensures.rest some) kids ls
    (subst
    (λ (bs : List ℕ). AreRead c.blank_line.new.self (container_views c.loop-content.self.open.items) (spine_after [] kids (grow on (beside_line Whitespace line) (At (Text all)) (whole bs))))
    (sym none)
    (closing.after_added on (AreRead c.blank_line.new.self (container_views c.loop-content.self.open.items)) [] kids (At (Text all)) (tree (one (Blank next.1)) nothing) blank))

pub returns-then-not-is_plain_line-clause-read : goal.returns-then-not-is_plain_line-clause-read
returns-then-not-is_plain_line-clause-read g c = λ kids ls keeps h.
    let k = c.loop-content.invariant.1 in
    let on = c.args.on.now in
    let text = c.args.text.now in
    let rest = c.loop-content.rest.now in
    let next = c.next_line-ending.result in
    let line = text_line next.0.now next.1 in
    let all = ls ++ map whole_line k.read in
    let some : 0 < length rest = omega (arith, eqb-false (length rest) 0 (sym c.is_empty.ensures ∙ c.loop-content-test.true)) in
    let clean = plain_clean on text rest (HasRead c.args.self.now) c.loop-content.self k kids ls keeps in
    read_after on text rest next.2.now (HasRead c.args.self.now) c.loop-content.self c.any_line.new.self line k (c.next_line-ending.ensures.rest some) kids ls
    (c.in_ok-any_line.ensures (tree kids (At (Text all))) clean (k.reads kids ls h))

pub loop-content-preserved : goal.loop-content-preserved
loop-content-preserved g c =
    let k = c.loop-content.invariant.1 in
    let on = c.args.on.now in
    let text = c.args.text.now in
    let rest = c.loop-content.rest.now in
    let next = c.next_line-ending.result in
    let line = text_line next.0.now next.1 in
    let some : 0 < length rest = omega (arith, eqb-false (length rest) 0 (sym c.is_empty.ensures ∙ c.loop-content-test.true)) in
    let is_after : IsUtf8 next.2.now = search rules in
    let small : (k : ℕ) → get_or text k 0 < 256 = λ k. omega (arith, c.type_inv.text k) in (
      is_after,
      plain_more on text rest next.2.now (HasRead c.args.self.now) c.loop-content.self _ line k (c.next_line-ending.ensures.rest some)
          small (sym c.is_plain_line.ensures ∙ c.if-not-is_plain_line.false) _ c.whole_piece.ensures.rest
          (λ kids ls reads. c.in_ok-push_line.ensures (container_views c.loop-content.self.open.items) [] kids ls reads),
    )
