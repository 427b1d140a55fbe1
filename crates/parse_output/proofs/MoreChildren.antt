-- Events that may stand where they do, and more of them.
use Rattle.std.proofs.Common.{◌≡◌, List, [], ◌∷◌, ◌++◌, true, refl, ap, ◌∙◌, map}
use Rattle.parse_output.proofs.Prelude.{and_from, and_parts, Entered, Event, Exited, fold, map-append, Mark, mark_of, then_mark, unmatched}
use Rattle.engine_events.specs.declared.event.Name.TheVariants as n
use Rattle.parse_output.specs.Children.{HaveChildren, are_children, may_enter, may_follow, may_hold}
use Rattle.parse_output.proofs.Classes.{enters_in}
use Rattle.parse_output.proofs.Marks.{marked_one}

-- one more
pub marked_child : (marks ms : List Mark) (m : Mark) → are_children marks ms ≡ true → may_follow (fold then_mark marks ms) m ≡ true
    → are_children marks (ms ++ m ∷ []) ≡ true
unfolding are_children
marked_child marks [] m are may = and_from (may_follow marks m) true may refl
marked_child marks (first ∷ ms) m are may =
    let parts = and_parts (may_follow marks first) (are_children (then_mark marks first) ms) are in
    and_from (may_follow marks first) (are_children (then_mark marks first) (ms ++ m ∷ [])) parts.0 (marked_child (then_mark marks first) ms m parts.1 may)

one_child : (es : List Event) (e : Event) (m : Mark) → mark_of e ≡ m → HaveChildren es → may_follow (unmatched es) m ≡ true → HaveChildren (es ++ e ∷ [])
one_child es e m is have may =
    ap (are_children []) (map-append mark_of es (e ∷ []))
    ∙ marked_child [] (map mark_of es) (mark_of e) have (ap (may_follow (unmatched es)) is ∙ may)

-- a paragraph of data
data_in : may_hold n.Paragraph n.Data ≡ true
unfolding may_hold
data_in = refl

pub rest_children : (es : List Event) (e f g h : Event) → mark_of e ≡ Entered n.Paragraph → mark_of f ≡ Entered n.Data → mark_of g ≡ Exited n.Data
    → mark_of h ≡ Exited n.Paragraph → HaveChildren es → may_enter (unmatched es) n.Paragraph ≡ true
    → HaveChildren ((((es ++ e ∷ []) ++ f ∷ []) ++ g ∷ []) ++ h ∷ [])
rest_children es e f g h enters in_enters in_exits exits have may =
    let once = es ++ e ∷ [] in
    let twice = once ++ f ∷ [] in
    let inside = ap (λ marks. may_enter marks n.Data) (marked_one es e (Entered n.Paragraph) enters) ∙ enters_in n.Paragraph n.Data (unmatched es) data_in in
    one_child (twice ++ g ∷ []) h (Exited n.Paragraph) exits
    (one_child twice g (Exited n.Data) in_exits
    (one_child once f (Entered n.Data) in_enters (one_child es e (Entered n.Paragraph) enters have may) inside) refl) refl
