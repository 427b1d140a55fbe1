use Rattle.std.proofs.Common.{◌≡◌, ◌∷◌, None, refl, sym, ap, ◌∙◌}
use Rattle.block_parser.proofs.Prelude.{AreLines, At, container_views, delimiter_row, fits, HasRead, IfOk-weaker, IsText, open_text, rest_of, spine_at}
use Rattle.block_parser.proofs.Prelude.{table_if, table_tree, Text, text_here}
use Rattle.block_parser.proofs.GfmTableLemmas as tables
use Rattle.block_leaves.proofs.Changes as changes
use Rattle.block_parser.proofs.Steps as steps
use Rattle.block_parser.proofs.Interrupting as interrupting
use Rattle.block_parser.proofs.parser.Parser.makes_table.Goals as goal

pub returns-then-not-interrupts-clause-made : goal.returns-then-not-interrupts-clause-made
returns-then-not-interrupts-clause-made g c = λ around kids away row deep clean h.
    let p = c.args.self.now in
    let not_here = sym (c.interrupts.ensures around kids away deep h) ∙ c.if-not-interrupts.true in
    tables.lines_not c.args.on.now row (rest_of c.args.rest.now) (text_here away) (interrupting.nothing_here p c.args.depth around kids away deep h not_here)

pub returns-then-not-has_head-clause-made : goal.returns-then-not-has_head-clause-made
returns-then-not-has_head-clause-made g c = λ around kids away row deep clean h.
    let p = c.args.self.now in
    let on = c.args.on.now in
    let r = rest_of c.args.rest.now in
    let columns = c.read_aligns.new.self.aligns.items in
    let here = interrupting.text_is_here p c.args.depth around kids away deep h
    (sym (c.interrupts.ensures around kids away deep h) ∙ c.if-not-interrupts.false) in
    steps.text_leaf_here (λ x. HasRead p (spine_at around kids x) → table_if on (delimiter_row on r) (text_here x) row ≡ None) away here.depth_is here.text
    (λ l ls reads. tables.fits_not on row r columns (l ∷ ls) c.in_ok-read_aligns.ensures.aligns
    (ap (fits columns) (changes.lines_of p.leaves (container_views p.open.items) around kids (Text (l ∷ ls)) reads ∙ sym c.read_aligns.ensures.left) ∙ sym c.has_head.ensures ∙ c.if-not-has_head.true)) h

pub returns-clause-made : goal.returns-clause-made
returns-clause-made g c =
    IfOk-weaker c.leaves_text.result _ _
    (λ made left. λ around kids away row deep clean h.
    let p = c.args.self.now in
    let on = c.args.on.now in
    let r = rest_of c.args.rest.now in
    let columns = c.read_aligns.new.self.aligns.items in
    let here = interrupting.text_is_here p c.args.depth around kids away deep h
    (sym (c.interrupts.ensures around kids away deep h) ∙ c.if-not-interrupts.false) in
    steps.text_leaf_here (λ x. AreLines (open_text x) → HasRead p (spine_at around kids x)
    → table_if on (delimiter_row on r) (text_here x) row ≡ table_tree on made x row) away here.depth_is here.text
    (λ l ls are reads. tables.fits_so on row r columns (l ∷ ls) made c.in_ok-read_aligns.ensures.aligns
    (ap (fits columns) (changes.lines_of p.leaves (container_views p.open.items) around kids (Text (l ∷ ls)) reads ∙ sym c.read_aligns.ensures.left) ∙ sym c.has_head.ensures ∙ c.if-not-has_head.false)
    (left (container_views p.open.items) around kids (l ∷ ls) are (c.read_aligns.ensures.kept (container_views p.open.items) (spine_at around kids (At (Text (l ∷ ls)))) reads))) clean h)
    c.leaves_text.ensures.left

pub returns-clause-here : goal.returns-clause-here
returns-clause-here g c =
    IfOk-weaker c.leaves_text.result _ _
    (λ made left. λ around kids away deep h is.
    let p = c.args.self.now in
    let here = interrupting.text_is_here p c.args.depth around kids away deep h
    (sym (c.interrupts.ensures around kids away deep h) ∙ c.if-not-interrupts.false) in
    steps.text_leaf_here IsText away here.depth_is here.text (λ l ls. refl))
    c.leaves_text.ensures.left

pub returns-clause-kept : goal.returns-clause-kept
returns-clause-kept g c = λ s h.
    let holders = container_views c.args.self.now.open.items in
    c.leaves_text.ensures.kept holders s (c.read_aligns.ensures.kept holders s h)
