use Rattle.std.proofs.Common.{◌∷◌, [], None, not, ◌&&◌, sym, ap, ◌∙◌, subst, refl}
use Rattle.block_parser.proofs.Prelude.{AreRead, At, Blank, block_and_ending, Break, close, container_views, definition_cut, fence_view, Fenced, HasRead}
use Rattle.block_parser.proofs.Prelude.{Heading, heading_blocks, heading_tree, html_start, html_with, Indented, join, Leaf, Nil, nothing, number_of}
use Rattle.block_parser.proofs.Prelude.{on_ok_weaker, one, outdent, rest_line, rest_of, spaced_line, spine_after, spine_at, starts_code_indented}
use Rattle.block_parser.proofs.Prelude.{table_from_cut, table_tree, Text, text_here, tree, Tree}
use Rattle.block_starts.specs.CodeFenced.{fence_if}
use Rattle.block_starts.specs.HeadingAtx.{atx_if}
use Rattle.block_starts.specs.HtmlFlow.{kind_number}
use Rattle.block_parser.proofs.Steps as steps
use Rattle.block_parser.proofs.Closing as closing
use Rattle.definition_block.specs.HeadingAtx.{atx as Atx_of}
use Rattle.block_parser.proofs.parser.Parser.any_leaf_line.Goals as goal

pub returns-then-is_blank : goal.returns-then-is_blank
returns-then-is_blank g c =
    on_ok_weaker c.blank_line.result (λ adds. λ around kids away deep clean h.
    let on = c.args.on.now in
    let holders = container_views c.close_to.new.self.open.items in
    let r = rest_of c.args.rest.now in
    let e = c.args.beside in
    let more = tree (one (Blank e.ending)) nothing in
    let k = c.in_ok-close_to.ensures.read around kids away deep clean h in
    subst (λ (x : Tree). AreRead c.blank_line.new.self holders (spine_after around kids x))
    (sym (steps.blank_leaf on away r e (sym c.is_blank.ensures ∙ c.if-is_blank.true)))
    (closing.after_added on (AreRead c.blank_line.new.self holders) around kids away more (adds holders around (join kids (close on away)) k)))
    c.blank_line.ensures

pub returns-then-begins_code : goal.returns-then-begins_code
returns-then-begins_code g c =
    on_ok_weaker c.start_indented.result (λ adds. λ around kids away deep clean h.
    let on = c.args.on.now in
    let holders = container_views c.close_to-then-begins_code.new.self.open.items in
    let r = rest_of c.args.rest.now in
    let e = c.args.beside in
    let text_is = c.has_text-paragraph.ensures (container_views c.args.self.now.open.items) (spine_at around kids away) h ∙ steps.has_text_at around kids away in
    let not_code = ap (λ b. starts_code_indented on r && not b) (sym text_is) ∙ sym c.begins_code.ensures in
    let more = tree Nil (At (Indented (rest_line (outdent 4 r) e ∷ []) [])) in
    let k = c.in_ok-close_to-2.ensures.read around kids away deep clean h in
    subst (λ (x : Tree). AreRead c.start_indented.new.self holders (spine_after around kids x))
    (sym (steps.indented_leaf on away r e (sym c.is_blank.ensures ∙ c.if-is_blank.false) (not_code ∙ c.if-begins_code.true)))
    (closing.after_added on (AreRead c.start_indented.new.self holders) around kids away more (adds holders around (join kids (close on away)) k)))
    c.start_indented.ensures

pub returns-in-Some : goal.returns-in-Some
returns-in-Some g c =
    on_ok_weaker c.start_fenced.result (λ adds. λ around kids away deep clean h.
    let on = c.args.on.now in
    let holders = container_views c.close_to-in-Some.new.self.open.items in
    let r = rest_of c.args.rest.now in
    let e = c.args.beside in
    let text_is = c.has_text-paragraph.ensures (container_views c.args.self.now.open.items) (spine_at around kids away) h ∙ steps.has_text_at around kids away in
    let not_code = ap (λ b. starts_code_indented on r && not b) (sym text_is) ∙ sym c.begins_code.ensures in
    let more = tree Nil (At (Fenced (fence_view c.in-Some.fence) e.ending [])) in
    let k = c.in_ok-close_to-3.ensures.read around kids away deep clean h in
    subst (λ (x : Tree). AreRead c.start_fenced.new.self holders (spine_after around kids x))
    (sym (steps.fenced_leaf on away r e (sym c.is_blank.ensures ∙ c.if-is_blank.false) (not_code ∙ c.if-begins_code.false) (fence_view c.in-Some.fence)
    (sym c.opening_fence.ensures ∙ ap fence_if c.in-Some.is)))
    (closing.after_added on (AreRead c.start_fenced.new.self holders) around kids away more (adds holders around (join kids (close on away)) k)))
    c.start_fenced.ensures

pub returns-in-Some-html_start : goal.returns-in-Some-html_start
returns-in-Some-html_start g c =
    on_ok_weaker c.html_with.result (λ adds. λ around kids away deep clean h.
    let on = c.args.on.now in
    let holders = container_views c.close_to-in-Some-html_start.new.self.open.items in
    let r = rest_of c.args.rest.now in
    let e = c.args.beside in
    let text_is = c.has_text-paragraph.ensures (container_views c.args.self.now.open.items) (spine_at around kids away) h ∙ steps.has_text_at around kids away in
    let not_code = ap (λ b. starts_code_indented on r && not b) (sym text_is) ∙ sym c.begins_code.ensures in
    let html_is = ap (λ b. html_start on b r) (sym text_is) ∙ sym c.html_start.ensures in
    let kind = number_of c.in-Some-html_start.kind in
    let k = c.in_ok-close_to-4.ensures.read around kids away deep clean h in
    subst (λ (x : Tree). AreRead c.html_with.new.self holders (spine_after around kids x))
    (sym (steps.html_leaf on away r e (sym c.is_blank.ensures ∙ c.if-is_blank.false) (not_code ∙ c.if-begins_code.false)
    (sym c.opening_fence.ensures ∙ ap fence_if c.in_default.is) kind (html_is ∙ ap kind_number c.in-Some-html_start.is)))
    (closing.after_added on (AreRead c.html_with.new.self holders) around kids away (html_with kind [] r e)
    (adds (Text []) [] refl holders around (join kids (close on away)) k)))
    c.html_with.ensures

pub returns-in-Some-heading_atx : goal.returns-in-Some-heading_atx
returns-in-Some-heading_atx g c =
    on_ok_weaker c.heading.result (λ adds. λ around kids away deep clean h.
    let on = c.args.on.now in
    let holders = container_views c.close_to-in-Some-heading_atx.new.self.open.items in
    let r = rest_of c.args.rest.now in
    let e = c.args.beside in
    let text_is = c.has_text-paragraph.ensures (container_views c.args.self.now.open.items) (spine_at around kids away) h ∙ steps.has_text_at around kids away in
    let not_code = ap (λ b. starts_code_indented on r && not b) (sym text_is) ∙ sym c.begins_code.ensures in
    let html_is = ap (λ b. html_start on b r) (sym text_is) ∙ sym c.html_start.ensures in
    let more = tree (block_and_ending (Leaf (Heading c.in-Some-heading_atx.atx.rank (spaced_line c.in-Some-heading_atx.atx.content.now None ∷ []))) e.ending)
    nothing in
    let k = c.in_ok-close_to-5.ensures.read around kids away deep clean h in
    subst (λ (x : Tree). AreRead c.heading.new.self holders (spine_after around kids x))
    (sym (steps.heading_leaf on away r e (sym c.is_blank.ensures ∙ c.if-is_blank.false) (not_code ∙ c.if-begins_code.false)
    (sym c.opening_fence.ensures ∙ ap fence_if c.in_default.is) (html_is ∙ ap kind_number c.in_default-html_start.is)
    (Atx_of c.in-Some-heading_atx.atx.rank c.in-Some-heading_atx.atx.content.now) (sym c.heading_atx.ensures ∙ ap atx_if c.in-Some-heading_atx.is)))
    (closing.after_added on (AreRead c.heading.new.self holders) around kids away more (adds holders around (join kids (close on away)) k)))
    c.heading.ensures

pub returns-in-Some-2 : goal.returns-in-Some-2
returns-in-Some-2 g c =
    on_ok_weaker c.setext_heading.result (λ reads. λ around kids away deep clean h.
    let on = c.args.on.now in
    let holders = container_views c.turns.new.self.open.items in
    let r = rest_of c.args.rest.now in
    let e = c.args.beside in
    let rank = c.in-Some-2.rank in
    let text_is = c.has_text-paragraph.ensures (container_views c.args.self.now.open.items) (spine_at around kids away) h ∙ steps.has_text_at around kids away in
    let not_code = ap (λ b. starts_code_indented on r && not b) (sym text_is) ∙ sym c.begins_code.ensures in
    let html_is = ap (λ b. html_start on b r) (sym text_is) ∙ sym c.html_start.ensures in
    let turned = c.in_ok-rank.ensures.turned around kids away e.ending deep clean h ∙ ap (λ o. heading_tree on o away e.ending) c.in-Some-2.is in
    subst (λ (x : Tree). AreRead c.setext_heading.new.self holders (spine_after around kids x))
    (sym (steps.turned_leaf on away r e (sym c.is_blank.ensures ∙ c.if-is_blank.false) (not_code ∙ c.if-begins_code.false)
    (sym c.opening_fence.ensures ∙ ap fence_if c.in_default.is) (html_is ∙ ap kind_number c.in_default-html_start.is)
    (sym c.heading_atx.ensures ∙ ap atx_if c.in_default-heading_atx.is) (tree (heading_blocks on rank (text_here away) e.ending) nothing) turned))
    (steps.turned_here on (HasRead c.turns.new.self) (AreRead c.setext_heading.new.self holders) rank e.ending
    (λ around kids ls clean. reads ls clean holders around kids) around kids away (c.in_ok-rank.ensures.here rank around kids away deep h c.in-Some-2.is) clean
    (c.turns.ensures.kept (spine_at around kids away) h)))
    c.setext_heading.ensures

pub returns-then-is_break : goal.returns-then-is_break
returns-then-is_break g c =
    on_ok_weaker c.thematic_break.result (λ adds. λ around kids away deep clean h.
    let on = c.args.on.now in
    let holders = container_views c.close_to-then-is_break.new.self.open.items in
    let r = rest_of c.args.rest.now in
    let e = c.args.beside in
    let text_is = c.has_text-paragraph.ensures (container_views c.args.self.now.open.items) (spine_at around kids away) h ∙ steps.has_text_at around kids away in
    let not_code = ap (λ b. starts_code_indented on r && not b) (sym text_is) ∙ sym c.begins_code.ensures in
    let html_is = ap (λ b. html_start on b r) (sym text_is) ∙ sym c.html_start.ensures in
    let more = tree (block_and_ending (Leaf Break) e.ending) nothing in
    let k = c.in_ok-close_to-6.ensures.read around kids away deep clean (c.turns.ensures.kept (spine_at around kids away) h) in
    subst (λ (x : Tree). AreRead c.thematic_break.new.self holders (spine_after around kids x))
    (sym (steps.break_leaf on away r e (sym c.is_blank.ensures ∙ c.if-is_blank.false) (not_code ∙ c.if-begins_code.false)
    (sym c.opening_fence.ensures ∙ ap fence_if c.in_default.is) (html_is ∙ ap kind_number c.in_default-html_start.is)
    (sym c.heading_atx.ensures ∙ ap atx_if c.in_default-heading_atx.is) (c.in_ok-rank.ensures.turned around kids away e.ending deep clean h
    ∙ ap (λ o. heading_tree on o away e.ending) c.in_default-2.is) (sym c.is_break.ensures ∙ c.if-is_break.true)))
    (closing.after_added on (AreRead c.thematic_break.new.self holders) around kids away more (adds holders around (join kids (close on away)) k)))
    c.thematic_break.ensures

pub returns-then-branch : goal.returns-then-branch
returns-then-branch g c =
    on_ok_weaker c.start_table.result (λ reads. λ around kids away deep clean h.
    let on = c.args.on.now in
    let holders = container_views c.makes_table.new.self.open.items in
    let r = rest_of c.args.rest.now in
    let e = c.args.beside in
    let text_is = c.has_text-paragraph.ensures (container_views c.args.self.now.open.items) (spine_at around kids away) h ∙ steps.has_text_at around kids away in
    let not_code = ap (λ b. starts_code_indented on r && not b) (sym text_is) ∙ sym c.begins_code.ensures in
    let html_is = ap (λ b. html_start on b r) (sym text_is) ∙ sym c.html_start.ensures in
    let h1 = c.turns.ensures.kept (spine_at around kids away) h in
    let h2 = c.makes_table.ensures.kept (spine_at around kids away) h1 in
    let made = c.in_ok-makes_table.ensures.made around kids away (rest_line r e) deep clean h1 in
    let is = made ∙ ap (λ b. table_tree on b away (rest_line r e)) c.if-branch.true in
    subst (λ (x : Tree). AreRead c.start_table.new.self holders (spine_after around kids x))
    (sym (steps.table_leaf on away r e (sym c.is_blank.ensures ∙ c.if-is_blank.false) (not_code ∙ c.if-begins_code.false)
    (sym c.opening_fence.ensures ∙ ap fence_if c.in_default.is) (html_is ∙ ap kind_number c.in_default-html_start.is)
    (sym c.heading_atx.ensures ∙ ap atx_if c.in_default-heading_atx.is) (c.in_ok-rank.ensures.turned around kids away e.ending deep clean h
    ∙ ap (λ o. heading_tree on o away e.ending) c.in_default-2.is) (sym c.is_break.ensures ∙ c.if-is_break.false)
    (table_from_cut (definition_cut on (text_here away)) (rest_line r e)) is))
    (steps.tabled_here on (HasRead c.makes_table.new.self) (AreRead c.start_table.new.self holders) (rest_line r e)
    (λ around kids ls clean. reads ls clean holders around kids) around kids away
    (c.in_ok-makes_table.ensures.here around kids away deep h1 c.if-branch.true) clean h2))
    c.start_table.ensures

pub returns : goal.returns
returns g c =
    on_ok_weaker c.more_text.result (λ grows. λ around kids away deep clean h.
    let on = c.args.on.now in
    let r = rest_of c.args.rest.now in
    let e = c.args.beside in
    let text_is = c.has_text-paragraph.ensures (container_views c.args.self.now.open.items) (spine_at around kids away) h ∙ steps.has_text_at around kids away in
    let not_code = ap (λ b. starts_code_indented on r && not b) (sym text_is) ∙ sym c.begins_code.ensures in
    let html_is = ap (λ b. html_start on b r) (sym text_is) ∙ sym c.html_start.ensures in
    let h1 = c.turns.ensures.kept (spine_at around kids away) h in
    let h2 = c.makes_table.ensures.kept (spine_at around kids away) h1 in
    let made = c.in_ok-makes_table.ensures.made around kids away (rest_line r e) deep clean h1 in
    let unmade = made ∙ ap (λ b. table_tree on b away (rest_line r e)) c.if-branch.false in
    subst (λ (x : Tree). HasRead c.more_text.new.self (spine_after around kids x))
    (sym (steps.text_leaf on away r e (sym c.is_blank.ensures ∙ c.if-is_blank.false) (not_code ∙ c.if-begins_code.false)
    (sym c.opening_fence.ensures ∙ ap fence_if c.in_default.is) (html_is ∙ ap kind_number c.in_default-html_start.is)
    (sym c.heading_atx.ensures ∙ ap atx_if c.in_default-heading_atx.is) (c.in_ok-rank.ensures.turned around kids away e.ending deep clean h
    ∙ ap (λ o. heading_tree on o away e.ending) c.in_default-2.is) (sym c.is_break.ensures ∙ c.if-is_break.false) unmade))
    (grows around kids away deep clean h2))
    c.more_text.ensures
