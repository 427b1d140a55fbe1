-- Events, and what is open after them.
use Rattle.std.proofs.Common.{◌≡◌, List, [], ◌∷◌, ◌++◌, true, if◌then◌else◌, refl, ap, ◌∙◌, map}
use Rattle.parse_output.proofs.Prelude.{closed, Entered, Event, Exited, fold, fold-append, map-append, Mark, mark_of, Name, same_name, the_type, then_mark}
use Rattle.parse_output.proofs.Prelude.{unmatched}
use denote.Enum.Bare.{true_same}

pub unmatched_append : (es fs : List Event) → unmatched (es ++ fs) ≡ fold then_mark (unmatched es) (map mark_of fs)
unmatched_append es fs = ap (fold then_mark []) (map-append mark_of es fs) ∙ fold-append then_mark [] (map mark_of es) (map mark_of fs)

pub marked_one : (es : List Event) (e : Event) (m : Mark) → mark_of e ≡ m → unmatched (es ++ e ∷ []) ≡ then_mark (unmatched es) m
marked_one es e m is = unmatched_append es (e ∷ []) ∙ ap (then_mark (unmatched es)) is

-- the exit of what was entered last
pub same_self : (name : Name) → same_name name name ≡ true
same_self name = true_same the_type name name refl

pub closed_same : (name : Name) (marks others : List Mark) → marks ≡ Entered name ∷ others → closed name marks ≡ others
closed_same name marks others is =
    ap (closed name) is ∙ ap (λ t. if t then others else Exited name ∷ Entered name ∷ others) (same_self name)

-- what holds no other
pub one_more : (es : List Event) (e f : Event) (name : Name) → mark_of e ≡ Entered name → mark_of f ≡ Exited name
    → unmatched ((es ++ e ∷ []) ++ f ∷ []) ≡ unmatched es
one_more es e f name enters exits =
    marked_one (es ++ e ∷ []) f (Exited name) exits
    ∙ closed_same name (unmatched (es ++ e ∷ [])) (unmatched es) (marked_one es e (Entered name) enters)

-- what holds one other, which holds none
pub two_more : (es : List Event) (e f g h : Event) (outer inner : Name) → mark_of e ≡ Entered outer → mark_of f ≡ Entered inner
    → mark_of g ≡ Exited inner → mark_of h ≡ Exited outer
    → unmatched ((((es ++ e ∷ []) ++ f ∷ []) ++ g ∷ []) ++ h ∷ []) ≡ unmatched es
two_more es e f g h outer inner enters in_enters in_exits exits =
    let once = es ++ e ∷ [] in
    marked_one ((once ++ f ∷ []) ++ g ∷ []) h (Exited outer) exits
    ∙ ap (closed outer) (one_more once f g inner in_enters in_exits)
    ∙ closed_same outer (unmatched once) (unmatched es) (marked_one es e (Entered outer) enters)
