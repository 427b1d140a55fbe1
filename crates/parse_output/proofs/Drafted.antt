-- Drafts and more of them: what is open after them, and what may stand in what.
use Rattle.std.proofs.Common.{◌≡◌, ℕ, zero, suc, List, [], ◌∷◌, ◌++◌, true, refl, sym, ap, ◌∙◌, append_assoc, get_or, set, take, length, ◌+◌, ◌<◌}
use Rattle.parse_output.proofs.Prelude.{closed, Draft, Entered, Exited, fold, fold-append, Mark, marks_of, Name, take_more, then_mark}
use Rattle.std.proofs.lemmas.List.{append-nil}
use Rattle.parse_output.specs.declared.draft.Draft.TheVariants as draft
use Rattle.parse_output.specs.Drafts.{AreChildren, draft_marks, unmatched_in}
use Rattle.parse_output.specs.Children.{are_children, may_enter}
use Rattle.parse_output.proofs.Marks.{closed_same}
use Rattle.parse_output.proofs.MoreChildren.{marked_child}

marks_append : (ds es : List Draft) → marks_of (ds ++ es) ≡ marks_of ds ++ marks_of es
marks_append [] es = refl
marks_append (d ∷ ds) es = ap (λ ms. draft_marks d ++ ms) (marks_append ds es) ∙ sym (append_assoc (draft_marks d) (marks_of ds) (marks_of es))

pub marks_more : (ds : List Draft) (d : Draft) → marks_of (ds ++ d ∷ []) ≡ marks_of ds ++ draft_marks d
marks_more ds d = marks_append ds (d ∷ []) ∙ ap (λ ms. marks_of ds ++ ms) (append-nil (draft_marks d))

-- after one that is read
pub marks_read : (ds : List Draft) (i : ℕ) (d : Draft) (before after : List Mark) → i < length ds → before ≡ marks_of (take i ds)
    → after ≡ before ++ draft_marks (get_or ds i d) → after ≡ marks_of (take (i + 1) ds)
marks_read ds i d before after inside was is =
    is ∙ ap (λ ms. ms ++ draft_marks (get_or ds i d)) was ∙ sym (marks_more (take i ds) (get_or ds i d)) ∙ ap marks_of (sym (take_more ds i d inside))

one_more : (ds : List Draft) (d : Draft) → unmatched_in (ds ++ d ∷ []) ≡ fold then_mark (unmatched_in ds) (draft_marks d)
one_more ds d = ap (fold then_mark []) (marks_more ds d) ∙ fold-append then_mark [] (marks_of ds) (draft_marks d)

pub entered_one : (ds : List Draft) (name : Name) → unmatched_in (ds ++ draft.Enter name ∷ []) ≡ Entered name ∷ unmatched_in ds
entered_one ds name = one_more ds (draft.Enter name)

pub exited_one : (ds : List Draft) (name : Name) → unmatched_in (ds ++ draft.Exit name ∷ []) ≡ closed name (unmatched_in ds)
exited_one ds name = one_more ds (draft.Exit name)

pub void_one : (ds : List Draft) (d : Draft) (name : Name) → draft_marks d ≡ Entered name ∷ Exited name ∷ [] → unmatched_in (ds ++ d ∷ []) ≡ unmatched_in ds
void_one ds d name is =
    one_more ds d ∙ ap (fold then_mark (unmatched_in ds)) is ∙ closed_same name (Entered name ∷ unmatched_in ds) (unmatched_in ds) refl

-- another draft in the place of one that enters and exits the same
marks_set : (ds : List Draft) (i : ℕ) (e d : Draft) → draft_marks e ≡ draft_marks (get_or ds i d) → marks_of (set ds i e) ≡ marks_of ds
marks_set [] i e d same = refl
marks_set (x ∷ ds) zero e d same = ap (λ ms. ms ++ marks_of ds) same
marks_set (x ∷ ds) (suc i) e d same = ap (λ ms. draft_marks x ++ ms) (marks_set ds i e d same)

pub unmatched_set : (ds : List Draft) (i : ℕ) (e d : Draft) → draft_marks e ≡ draft_marks (get_or ds i d) → unmatched_in (set ds i e) ≡ unmatched_in ds
unmatched_set ds i e d same = ap (fold then_mark []) (marks_set ds i e d same)

pub set_child : (ds : List Draft) (i : ℕ) (e d : Draft) → draft_marks e ≡ draft_marks (get_or ds i d) → AreChildren ds → AreChildren (set ds i e)
set_child ds i e d same have = ap (are_children []) (marks_set ds i e d same) ∙ have

-- what is entered may stand in the innermost that is open
pub no_children : AreChildren []
unfolding are_children
no_children = refl

pub entered_child : (ds : List Draft) (name : Name) → AreChildren ds → may_enter (unmatched_in ds) name ≡ true → AreChildren (ds ++ draft.Enter name ∷ [])
entered_child ds name have may = ap (are_children []) (marks_more ds (draft.Enter name)) ∙ marked_child [] (marks_of ds) (Entered name) have may

pub exited_child : (ds : List Draft) (name : Name) → AreChildren ds → AreChildren (ds ++ draft.Exit name ∷ [])
exited_child ds name have = ap (are_children []) (marks_more ds (draft.Exit name)) ∙ marked_child [] (marks_of ds) (Exited name) have refl

pub void_child : (ds : List Draft) (d : Draft) (name : Name) → draft_marks d ≡ Entered name ∷ Exited name ∷ [] → AreChildren ds
    → may_enter (unmatched_in ds) name ≡ true → AreChildren (ds ++ d ∷ [])
void_child ds d name is have may =
    ap (are_children [])
    (marks_more ds d ∙ ap (λ ms. marks_of ds ++ ms) is ∙ sym (append_assoc (marks_of ds) (Entered name ∷ []) (Exited name ∷ [])))
    ∙ marked_child [] (marks_of ds ++ Entered name ∷ []) (Exited name) (marked_child [] (marks_of ds) (Entered name) have may) refl
