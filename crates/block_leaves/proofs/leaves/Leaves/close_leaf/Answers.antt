use Rattle.std.proofs.Common.{◌≡◌, ℕ, [], List, Option, sym, ap, ◌∙◌, length}
use Rattle.block_leaves.proofs.Prelude.{AreLines, AreRead, BlockLine, Blocks, close_leaf, Container, Fence, fence_view, Fenced, Indented, InFenced, InHtml}
use Rattle.block_leaves.proofs.Prelude.{InIndented, InTable, InText, join, last_ending, leaf_state, leaf_text, Level, LineEnding, number_of, on_ok_weaker}
use Rattle.block_leaves.proofs.Prelude.{OpenHtml, OpenLeaf, OpenTable, spine, state_of, Text}
use Rattle.definition_text.specs.BlockLines.{last_ending_or}
use Rattle.block_leaves.proofs.leaves.Leaves.close_leaf.Goals as goal

pub returns-in-Text : goal.returns-in-Text
returns-in-Text g c =
    on_ok_weaker c.close_text.result
    (λ reads. λ leaf clean containers around kids h. text_case containers (λ around kids ls clean. reads ls clean tt containers around kids) around kids leaf clean
    (sym (ap leaf_state c.in-Text.is) ∙ h.same_state) h) c.close_text.ensures
  where
    text_case : (containers : List Container) → ((around : List Level) (kids : Blocks) (ls : List BlockLine) → AreLines ls → AreRead c.args.self.now containers (spine around kids (Text ls))
        → AreRead c.close_text.new.self containers (spine around (join kids (close_leaf c.args.on.now (Text ls))) (Text [])))
        → (around : List Level) (kids : Blocks) (leaf : OpenLeaf) → AreLines (leaf_text leaf) → InText ≡ state_of leaf
        → AreRead c.args.self.now containers (spine around kids leaf)
        → AreRead c.close_text.new.self containers (spine around (join kids (close_leaf c.args.on.now leaf)) (Text []))
    text_case containers reads around kids (Text ls) clean is h = reads around kids ls clean h
    text_case containers reads around kids leaf clean is h = let wrong = is in cc

pub returns-in-Indented : goal.returns-in-Indented
returns-in-Indented g c =
    on_ok_weaker c.close_indented.result (λ reads. λ leaf clean containers around kids h. indented_case containers
    (λ around kids ls pending all last. reads c.args.on.now ls pending all last containers around kids) around kids leaf
    (sym (ap leaf_state c.in-Indented.is) ∙ h.same_state) h) c.close_indented.ensures
  where
    indented_case : (containers : List Container) → ((around : List Level) (kids : Blocks) (ls pending : List BlockLine) → c.in-Indented.count ≡ length ls
        → c.in-Indented.ending ≡ last_ending ls → AreRead c.args.self.now containers (spine around kids (Indented ls pending))
        → AreRead c.close_indented.new.self containers (spine around (join kids (close_leaf c.args.on.now (Indented ls pending))) (Text [])))
        → (around : List Level) (kids : Blocks) (leaf : OpenLeaf) → InIndented c.in-Indented.count c.in-Indented.ending ≡ state_of leaf
        → AreRead c.args.self.now containers (spine around kids leaf)
        → AreRead c.close_indented.new.self containers (spine around (join kids (close_leaf c.args.on.now leaf)) (Text []))
    indented_case containers reads around kids (Indented ls pending) is h = reads around kids ls pending (cc) (cc) h
    indented_case containers reads around kids leaf is h = let wrong = is in cc

pub returns-in-Fenced : goal.returns-in-Fenced
returns-in-Fenced g c =
    on_ok_weaker c.close_fenced.result (λ reads. λ leaf clean containers around kids h. fenced_case containers
    (λ around kids fence opening ls last. reads c.args.on.now fence opening ls last containers around kids) around kids leaf
    (sym (ap leaf_state c.in-Fenced.is) ∙ h.same_state) h) c.close_fenced.ensures
  where
    fenced_case : (containers : List Container) → ((around : List Level) (kids : Blocks) (fence : Fence) (opening : Option LineEnding) (ls : List BlockLine)
        → c.in-Fenced.ending ≡ last_ending_or opening ls → AreRead c.args.self.now containers (spine around kids (Fenced fence opening ls))
        → AreRead c.close_fenced.new.self containers (spine around (join kids (close_leaf c.args.on.now (Fenced fence opening ls))) (Text [])))
        → (around : List Level) (kids : Blocks) (leaf : OpenLeaf) → InFenced (fence_view c.in-Fenced.fence) c.in-Fenced.ending ≡ state_of leaf
        → AreRead c.args.self.now containers (spine around kids leaf)
        → AreRead c.close_fenced.new.self containers (spine around (join kids (close_leaf c.args.on.now leaf)) (Text []))
    fenced_case containers reads around kids (Fenced fence opening ls) is h = reads around kids fence opening ls (cc) h
    fenced_case containers reads around kids leaf is h = let wrong = is in cc

pub returns-in-Html : goal.returns-in-Html
returns-in-Html g c =
    on_ok_weaker c.close_html.result (λ reads. λ leaf clean containers around kids h. html_case containers
    (λ around kids kind ls last. reads c.args.on.now kind ls last containers around kids) around kids leaf (sym (ap leaf_state c.in-Html.is) ∙ h.same_state) h)
    c.close_html.ensures
  where
    html_case : (containers : List Container) → ((around : List Level) (kids : Blocks) (kind : ℕ) (ls : List BlockLine) → c.in-Html.ending ≡ last_ending ls
        → AreRead c.args.self.now containers (spine around kids (OpenHtml kind ls))
        → AreRead c.close_html.new.self containers (spine around (join kids (close_leaf c.args.on.now (OpenHtml kind ls))) (Text [])))
        → (around : List Level) (kids : Blocks) (leaf : OpenLeaf) → InHtml (number_of c.in-Html.kind) c.in-Html.ending ≡ state_of leaf
        → AreRead c.args.self.now containers (spine around kids leaf)
        → AreRead c.close_html.new.self containers (spine around (join kids (close_leaf c.args.on.now leaf)) (Text []))
    html_case containers reads around kids (OpenHtml kind ls) is h = reads around kids kind ls (cc) h
    html_case containers reads around kids leaf is h = let wrong = is in cc

pub returns-in-Table : goal.returns-in-Table
returns-in-Table g c =
    on_ok_weaker c.close_table.result (λ reads. λ leaf clean containers around kids h. table_case containers
    (λ around kids ls last. reads c.args.on.now ls last containers around kids) around kids leaf (sym (ap leaf_state c.in-Table.is) ∙ h.same_state) h)
    c.close_table.ensures
  where
    table_case : (containers : List Container) → ((around : List Level) (kids : Blocks) (ls : List BlockLine) → c.in-Table.ending ≡ last_ending ls
        → AreRead c.args.self.now containers (spine around kids (OpenTable ls))
        → AreRead c.close_table.new.self containers (spine around (join kids (close_leaf c.args.on.now (OpenTable ls))) (Text [])))
        → (around : List Level) (kids : Blocks) (leaf : OpenLeaf) → InTable c.in-Table.ending ≡ state_of leaf → AreRead c.args.self.now containers (spine around kids leaf)
        → AreRead c.close_table.new.self containers (spine around (join kids (close_leaf c.args.on.now leaf)) (Text []))
    table_case containers reads around kids (OpenTable ls) is h = reads around kids ls (cc) h
    table_case containers reads around kids leaf is h = let wrong = is in cc
