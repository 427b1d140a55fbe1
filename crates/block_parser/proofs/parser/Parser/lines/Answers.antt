use Rattle.std.proofs.Common.{◌≡◌, ℕ, List, ◌∷◌, [], refl, sym, ap, ◌∙◌, subst, rules, arith, vec_len}
use Rattle.block_parser.proofs.Prelude.{Constructs, container_views, eqb-true, fence_view, HasRead, IfOk-weaker, KeepsLines, Kind, leaf_state, lines, Parser}
use Rattle.block_parser.proofs.Prelude.{ReadsSome, spine_of, text_line, Tree}
use Rattle.markdown_options.specs.declared.beside.Kind.TheVariants.{Whitespace}
use Rattle.block_parser.proofs.Closing.{views_length}
use Rattle.block_parser.proofs.Descending.{depth_of}
use Rattle.block_parser.proofs.FencedLines.{of_fenced}
use Rattle.block_parser.proofs.Plain.{of_text}
use Rattle.block_parser.proofs.PlainLines.{shorter_after}
use Rattle.block_parser.proofs.parser.Parser.lines.Goals as goal

-- what the clause says of a tree that the parser stood for
abbrev Reads : {A : Type 0} → Parser A → Constructs → List ℕ → List ℕ → Parser A → Kind → Tree → Type 0
Reads old on text rest new kind t = KeepsLines on kind t text → HasRead old (spine_of t) → ReadsSome on kind t text rest new

pub returns-in-Text-clause-read : goal.returns-in-Text-clause-read
returns-in-Text-clause-read g c =
    let p = c.args.self.now in
    let before : c.args.before ≡ Whitespace = search rules in
    let none : vec_len p.open ≡ 0 = eqb-true (vec_len p.open) 0 (sym c.is_empty.ensures ∙ c.if-is_empty.true) in
    IfOk-weaker c.plain_lines.result _ _ (λ rest reads. λ t keeps h.
    let Says = Reads p c.args.on.now c.args.text.now rest.now c.plain_lines.new.self in
    let depth = depth_of (container_views p.open.items) t.done t.now h.opened in
    subst (λ kind. Says kind t) (sym before)
    (of_text (Says Whitespace) reads t.done t.now (omega (arith, depth, none, p.open.ok.0, views_length p.open.items))
    (sym (ap leaf_state c.in-Text.is) ∙ h.same_state))
    keeps h)
    c.plain_lines.ensures.read

pub returns-in-Fenced-clause-read : goal.returns-in-Fenced-clause-read
returns-in-Fenced-clause-read g c =
    let p = c.args.self.now in
    let before : c.args.before ≡ Whitespace = search rules in
    let none : vec_len p.open ≡ 0 = eqb-true (vec_len p.open) 0 (sym c.is_empty.ensures ∙ c.if-is_empty.true) in
    IfOk-weaker c.fenced_lines.result _ _ (λ rest reads. λ t keeps h.
    let Says = Reads p c.args.on.now c.args.text.now rest.now c.fenced_lines.new.self in
    let depth = depth_of (container_views p.open.items) t.done t.now h.opened in
    subst (λ kind. Says kind t) (sym before)
    (of_fenced (fence_view c.in-Fenced.fence) c.in-Fenced.ending (Says Whitespace) reads t.done t.now
    (omega (arith, depth, none, p.open.ok.0, views_length p.open.items)) (sym (ap leaf_state c.in-Fenced.is) ∙ h.same_state))
    keeps h)
    c.fenced_lines.ensures.read

pub returns-clause-shorter : goal.returns-clause-shorter
returns-clause-shorter g c =
    let next = c.next_line-ending.result in
    shorter_after next.0.now next.1 c.args.text.now next.2.now (c.next_line-ending.ensures.rest c.requires.some)

pub returns-clause-read : goal.returns-clause-read
returns-clause-read g c = λ t keeps h.
    let next = c.next_line-ending.result in
    record {
      read = text_line next.0.now next.1 ∷ [];
      some = omega arith;
      split = c.next_line-ending.ensures.rest c.requires.some;
      reads = c.in_ok-any_line.ensures t (keeps [] (lines c.args.text.now) refl) h;
    }
