-- Alignments by events are those of the tree.
use Rattle.std.proofs.Common.{◌≡◌, ℕ, ◌+◌, ◌-◌, ◌==◌, Bool, true, false, if◌then◌else◌, List, [], ◌∷◌, ◌++◌, drop, refl, sym, ap, ◌∙◌, append_assoc}
use Rattle.std.specs.Prelude.{map}
use Rattle.event_check.proofs.Prelude.{aligns_after, append-nil, AreNodes, Around, cond-false, Cons, Event, events_of, IsAt, kids_of, Kind, marks, marks_after}
use Rattle.event_check.proofs.Prelude.{Name, Nil, Node, Nodes, same_name}
use Rattle.std.proofs.lemmas.List.{map-append}
use Rattle.engine_events.specs.declared.event.Kind.TheVariants.{Exit}
use Rattle.engine_events.specs.declared.event.Name.TheVariants as n
use Rattle.markdown_options.specs.declared.align_kind.AlignKind.{AlignKind}
use Rattle.event_grammar.specs.References.{named}
use Rattle.event_check.specs.declared.align.Marks.{Marks}
use Rattle.event_check.specs.Align.{mark, align_of, marks_in, value_align, table_align, marks_next, aligns_next}
use Rattle.event_check.proofs.Fits.{split}
use Rattle.event_check.proofs.LooseLaw.{nonzero, less, inside}

marks_exit : (kind : Kind) (name : Name) (d : ℕ) (m : Marks) (others : ℕ → Marks → Marks) → kind ≡ Exit → marks_next kind name (d + 1) m others ≡ others d m
marks_exit kind name d m others h =
    ap (λ (k : Kind). marks_next k name (d + 1) m others) h
    ∙ cond-false ((d + 1) == 0) m (others ((d + 1) - 1) m) (nonzero d)
    ∙ ap (λ (z : ℕ). others z m) (less d)

marks_over : (ns : Nodes) → AreNodes ns → (d : ℕ) (m : Marks) (es : List Event) → marks_after d m (events_of ns ++ es) ≡ marks_after d (marks_in ns m) es
marks_over Nil k d m es = refl
marks_over (Cons (Around enter kids exit) ns) k d m es =
    let rest = events_of ns ++ es in
    let inner = events_of kids ++ exit ∷ rest in
    let after = marks_in kids (mark enter.name m) in
    ap (λ (l : List Event). marks_after d m (enter ∷ l)) (split kids ns exit es)
    ∙ ap (λ (z : Kind). marks_next z enter.name d m (λ e k. marks_after e k inner)) k.0.0
    ∙ marks_over kids k.0.3 (d + 1) (mark enter.name m) (exit ∷ rest)
    ∙ marks_exit exit.kind exit.name d after (λ e k. marks_after e k rest) k.0.1
    ∙ marks_over ns k.1 d after es

value_is : (enter : Event) (kids : Nodes) (exit : Event) (es : List Event) → exit.kind ≡ Exit → AreNodes kids
    → align_of (marks_after 0 (marks false false false) (events_of kids ++ exit ∷ es)) ≡ value_align (Around enter kids exit)
value_is enter kids exit es x k =
    ap align_of (marks_over kids k 0 (marks false false false) (exit ∷ es)
    ∙ ap (λ (z : Kind). marks_next z exit.name 0 (marks_in kids (marks false false false)) (λ e k. marks_after e k es)) x)

aligns_exit : (kind : Kind) (name : Name) (align : AlignKind) (d : ℕ) (others : ℕ → List AlignKind) → kind ≡ Exit
    → aligns_next kind name align (d + 1) others ≡ others d
aligns_exit kind name align d others h =
    ap (λ (k : Kind). aligns_next k name align (d + 1) others) h
    ∙ cond-false ((d + 1) == 0) [] (others ((d + 1) - 1)) (nonzero d)
    ∙ ap others (less d)

apart : (inside others : List Node) (rest : List AlignKind) → map value_align inside ++ (map value_align others ++ rest) ≡ map value_align (inside ++ others) ++ rest
apart inside others rest =
    sym (append_assoc (map value_align inside) (map value_align others) rest)
    ∙ ap (λ (z : List AlignKind). z ++ rest) (sym (map-append value_align inside others))

named_by : (b : Bool) (node : Node) (inside others : List Node) (own : AlignKind) (rest : List AlignKind) → own ≡ value_align node
    → (if b then own ∷ (map value_align inside ++ (map value_align others ++ rest)) else map value_align inside ++ (map value_align others ++ rest))
    ≡ map value_align ((if b then node ∷ inside else inside) ++ others) ++ rest
named_by true node inside others own rest h =
    ap (λ (z : AlignKind). z ∷ (map value_align inside ++ (map value_align others ++ rest))) h
    ∙ ap (λ (z : List AlignKind). value_align node ∷ z) (apart inside others rest)
named_by false node inside others own rest h = apart inside others rest

aligns_over : (ns : Nodes) → AreNodes ns → (d : ℕ) (es : List Event) → aligns_after d (events_of ns ++ es) ≡ table_align ns ++ aligns_after d es
aligns_over Nil k d es = refl
aligns_over (Cons (Around enter kids exit) ns) k d es =
    let rest = events_of ns ++ es in
    let inner = events_of kids ++ exit ∷ rest in
    let b = same_name enter.name n.GfmTableDelimiterCellValue in
    let own = align_of (marks_after 0 (marks false false false) inner) in
    let none = align_of (marks_after 0 (marks false false false) rest) in
    ap (λ (l : List Event). aligns_after d (enter ∷ l)) (split kids ns exit es)
    ∙ ap (λ (z : Kind). aligns_next z enter.name own d (λ e. aligns_after e inner)) k.0.0
    ∙ ap (λ (z : List AlignKind). if b then own ∷ z else z)
    (aligns_over kids k.0.3 (d + 1) (exit ∷ rest)
    ∙ ap (λ (z : List AlignKind). table_align kids ++ z)
    (aligns_exit exit.kind exit.name none d (λ e. aligns_after e rest) k.0.1 ∙ aligns_over ns k.1 d es))
    ∙ named_by b (Around enter kids exit) (named n.GfmTableDelimiterCellValue kids) (named n.GfmTableDelimiterCellValue ns) own (aligns_after d es)
    (value_is enter kids exit rest k.0.1 k.0.3)

pub aligns_are : (events : List Event) (index : ℕ) (node : Node) → IsAt events index node → aligns_after 0 (drop (index + 1) events) ≡ table_align (kids_of node)
aligns_are events index (Around enter kids exit) h =
    let i = inside events index enter kids exit h in
    ap (aligns_after 0) i.rest
    ∙ aligns_over kids h.4.3 0 (exit ∷ i.back)
    ∙ ap (λ (z : List AlignKind). table_align kids ++ z)
    (ap (λ (z : Kind). aligns_next z exit.name (align_of (marks_after 0 (marks false false false) i.back)) 0 (λ e. aligns_after e i.back)) h.4.1)
    ∙ append-nil (table_align kids)
