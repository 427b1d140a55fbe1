-- No data is directly followed by data: in drafts, and in their events.
use Rattle.parse_output.proofs.Prelude.{and-false, and_from, and_parts, AreInOrder, closed, Draft, end_at, End, enter_at, Entered, Event, exit_at}
use Rattle.parse_output.proofs.Prelude.{Exited, first_end, fold, Mark, marks_of, Name, same_name, the_type, then_mark, true≢false}
use Rattle.std.proofs.Common.{◌≡◌, ◌+◌, ℕ, zero, suc, Bool, true, false, not, ◌&&◌, List, [], ◌∷◌, ◌++◌, inl, inr, refl, sym, ap, ap₂, ◌∙◌, get_or, set, length, arith}
use Rattle.std.proofs.lemmas.Bool.{cases_Bool}
use Rattle.std.specs.Prelude.{if◌then◌else◌, map}
use denote.Enum.Bare.{same_true}
use Rattle.engine_events.specs.declared.event.Name.TheVariants as n
use Rattle.event_grammar.specs.Trees.{is_enter}
use Rattle.event_grammar.specs.Void.{is_void}
use Rattle.event_tokens.specs.Shape.{is_cut, no_neighbours, none_after}
use Rattle.parse_output.specs.declared.draft.Draft.TheVariants as draft
use Rattle.parse_output.proofs.Drafted.{set_child, unmatched_set}
use Rattle.parse_output.proofs.Forests.{end_set}
use Rattle.parse_output.specs.Drafts.{unmatched_in}
use Rattle.parse_output.specs.Forest.{drafts_events}
use Rattle.parse_output.specs.Whole.{both_data, DataIsWhole, DraftsAreWhole, ends_in_data, is_data, may_be_next}
use Rattle.parse_output.proofs.Marks.{closed_same}

-- ---- drafts

-- one more, which isn't data after data
whole_more : (ds : List Draft) (d : Draft) → DraftsAreWhole ds → (ends_in_data ds && is_data d) ≡ false → DraftsAreWhole (ds ++ d ∷ [])
whole_more [] d whole other = refl
whole_more (x ∷ []) d whole other = ap (λ b. not b && true) other
whole_more (x ∷ y ∷ ds) d whole other =
    let parts = and_parts (not (both_data x y)) (no_neighbours both_data (y ∷ ds)) whole in
    and_from (not (both_data x y)) (no_neighbours both_data (y ∷ (ds ++ d ∷ []))) parts.0 (whole_more (y ∷ ds) d parts.1 other)

pub entered_whole : (ds : List Draft) (name : Name) → DraftsAreWhole ds → DraftsAreWhole (ds ++ draft.Enter name ∷ [])
entered_whole ds name whole = whole_more ds (draft.Enter name) whole (and-false (ends_in_data ds))

pub exited_whole : (ds : List Draft) (name : Name) → DraftsAreWhole ds → DraftsAreWhole (ds ++ draft.Exit name ∷ [])
exited_whole ds name whole = whole_more ds (draft.Exit name) whole (and-false (ends_in_data ds))

not_not : (b : Bool) → not b ≡ true → b ≡ false
not_not true is = sym is
not_not false is = refl

pub void_whole : (ds : List Draft) (d : Draft) (name : Name) (end : End) → d ≡ draft.Void name end.owed end.index → DraftsAreWhole ds
    → may_be_next ds name ≡ true → DraftsAreWhole (ds ++ d ∷ [])
void_whole ds d name end is whole may =
    whole_more ds d whole (ap (λ (x : Draft). ends_in_data ds && is_data x) is ∙ not_not (ends_in_data ds && same_name name n.Data) may)

-- other names may be next
pub other_next : (ds : List Draft) (name : Name) → same_name name n.Data ≡ false → may_be_next ds name ≡ true
other_next ds name other = ap (λ b. not (ends_in_data ds && b)) other ∙ ap not (and-false (ends_in_data ds))

-- and data, where no draft is, or the last isn't data
pub first_next : (ds : List Draft) (name : Name) → length ds ≡ 0 → may_be_next ds name ≡ true
first_next [] name none = refl
first_next (d ∷ ds) name none = absurd (omega (arith, none))

last_data : (ds : List Draft) (i : ℕ) (x : Draft) → i + 1 ≡ length ds → ends_in_data ds ≡ is_data (get_or ds i x)
last_data [] i x is = absurd (omega (arith, is))
last_data (d ∷ []) zero x is = refl
last_data (d ∷ []) (suc i) x is = absurd (omega (arith, is))
last_data (d ∷ e ∷ ds) zero x is = absurd (omega (arith, is))
last_data (d ∷ e ∷ ds) (suc i) x is = last_data (e ∷ ds) i x (omega (arith, is))

pub after_other : (ds : List Draft) (i : ℕ) (x : Draft) (name : Name) → i + 1 ≡ length ds → is_data (get_or ds i x) ≡ false → may_be_next ds name ≡ true
after_other ds i x name is other = ap (λ b. not (b && same_name name n.Data)) (last_data ds i x is ∙ other)

-- data in the place of data
whole_by : (ds es : List Draft) → map is_data ds ≡ map is_data es → no_neighbours both_data ds ≡ no_neighbours both_data es
whole_by [] [] same = refl
whole_by [] (e ∷ es) same = absurd (cc)
whole_by (d ∷ ds) [] same = absurd (cc)
whole_by (d ∷ []) (e ∷ []) same = refl
whole_by (d ∷ []) (e ∷ f ∷ es) same = absurd (cc)
whole_by (d ∷ x ∷ ds) (e ∷ []) same = absurd (cc)
whole_by (d ∷ x ∷ ds) (e ∷ f ∷ es) same =
    let first : is_data d ≡ is_data e = cc in
    let next : is_data x ≡ is_data f = cc in
    let others : map is_data (x ∷ ds) ≡ map is_data (f ∷ es) = cc in
    ap₂ (λ a b. not a && b) (ap₂ (λ a b. a && b) first next) (whole_by (x ∷ ds) (f ∷ es) others)

map_set : (ds : List Draft) (i : ℕ) (e d : Draft) → is_data e ≡ is_data (get_or ds i d) → map is_data (set ds i e) ≡ map is_data ds
map_set [] i e d same = refl
map_set (x ∷ ds) zero e d same = ap (λ b. b ∷ map is_data ds) same
map_set (x ∷ ds) (suc i) e d same = ap (λ bs. is_data x ∷ bs) (map_set ds i e d same)

pub set_whole : (ds : List Draft) (i : ℕ) (e d : Draft) → is_data e ≡ true → is_data (get_or ds i d) ≡ true → DraftsAreWhole ds → DraftsAreWhole (set ds i e)
set_whole ds i e d own was whole = whole_by (set ds i e) ds (map_set ds i e d (own ∙ sym was)) ∙ whole

-- ---- no draft exits data

abbrev exits_other : Draft → Bool
exits_other (draft.Enter name) = true
exits_other (draft.Exit name) = not (same_name name n.Data)
exits_other (draft.Void name owed index) = true

abbrev all_exit_others : List Draft → Bool
all_exit_others [] = true
all_exit_others (d ∷ ds) = exits_other d && all_exit_others ds

-- an exit that fits nothing stays
abbrev has_exit : List Mark → Bool
has_exit [] = false
has_exit (Entered name ∷ marks) = has_exit marks
has_exit (Exited name ∷ marks) = true

exit_if : (same : Bool) (name own : Name) (others : List Mark) → has_exit others ≡ true
    → has_exit (if same then others else Exited name ∷ Entered own ∷ others) ≡ true
exit_if true name own others has = has
exit_if false name own others has = refl

exit_stays : (marks : List Mark) (m : Mark) → has_exit marks ≡ true → has_exit (then_mark marks m) ≡ true
exit_stays marks (Entered name) has = has
exit_stays [] (Exited name) has = refl
exit_stays (Exited own ∷ marks) (Exited name) has = refl
exit_stays (Entered own ∷ marks) (Exited name) has = exit_if (same_name own name) name own marks has

exits_stay : (marks ms : List Mark) → has_exit marks ≡ true → has_exit (fold then_mark marks ms) ≡ true
exits_stay marks [] has = has
exits_stay marks (m ∷ ms) has = exits_stay (then_mark marks m) ms (exit_stays marks m has)

-- what is open is no data
abbrev holds_others : List Mark → Bool
holds_others [] = true
holds_others (Entered name ∷ marks) = not (same_name name n.Data) && holds_others marks
holds_others (Exited name ∷ marks) = holds_others marks

others_if : (same : Bool) (name own : Name) (others : List Mark) → (not (same_name own n.Data) && holds_others others) ≡ true
    → holds_others (if same then others else Exited name ∷ Entered own ∷ others) ≡ true
others_if true name own others hold = (and_parts (not (same_name own n.Data)) (holds_others others) hold).1
others_if false name own others hold = hold

others_closed : (name : Name) (marks : List Mark) → holds_others marks ≡ true → holds_others (closed name marks) ≡ true
others_closed name [] hold = refl
others_closed name (Exited own ∷ marks) hold = hold
others_closed name (Entered own ∷ marks) hold = others_if (same_name own name) name own marks hold

-- an exit of data would fit nothing
exit_of_data : (marks : List Mark) → holds_others marks ≡ true → has_exit (closed n.Data marks) ≡ true
exit_of_data [] hold = refl
exit_of_data (Exited own ∷ marks) hold = refl
exit_of_data (Entered own ∷ marks) hold =
    let other = not_not (same_name own n.Data) (and_parts (not (same_name own n.Data)) (holds_others marks) hold).0 in
    ap (λ same. has_exit (if same then marks else Exited n.Data ∷ Entered own ∷ marks)) other

none_left : (marks ms : List Mark) → has_exit marks ≡ true → fold then_mark marks ms ≡ [] → ⊥
none_left marks ms has none = true≢false (sym (exits_stay marks ms has) ∙ ap has_exit none)

held_other : (name : Name) → is_void name ≡ false → same_name name n.Data ≡ false
held_other name held = elim (cases_Bool (same_name name n.Data)) [
  | inl same ↦ absurd (true≢false (sym (ap is_void (same_true the_type tt name n.Data same)) ∙ held))
  | inr other ↦ other
]

exit_other : (name : Name) (marks ms : List Mark) → holds_others marks ≡ true → fold then_mark (closed name marks) ms ≡ []
    → same_name name n.Data ≡ false
exit_other name marks ms hold none = elim (cases_Bool (same_name name n.Data)) [
  | inl same ↦
      let is = same_true the_type tt name n.Data same in
      absurd (none_left (closed name marks) ms (ap (λ x. has_exit (closed x marks)) is ∙ exit_of_data marks hold) none)
  | inr other ↦ other
]

exits_fit : (text : List ℕ) (from : End) (ds : List Draft) (marks : List Mark) → AreInOrder text from ds → holds_others marks ≡ true
    → fold then_mark marks (marks_of ds) ≡ [] → all_exit_others ds ≡ true
exits_fit text from [] marks are hold none = refl
exits_fit text from (draft.Enter name ∷ ds) marks are hold none =
    exits_fit text from ds (Entered name ∷ marks) are.1
    (and_from (not (same_name name n.Data)) (holds_others marks) (ap not (held_other name are.0)) hold) none
exits_fit text from (draft.Exit name ∷ ds) marks are hold none =
    and_from (not (same_name name n.Data)) (all_exit_others ds) (ap not (exit_other name marks (marks_of ds) hold none))
    (exits_fit text from ds (closed name marks) are.1 (others_closed name marks hold) none)
exits_fit text from (draft.Void name owed index ∷ ds) marks are hold none =
    exits_fit text (end_at index owed) ds marks are.1 hold
    (sym (ap (λ x. fold then_mark x (marks_of ds)) (closed_same name (Entered name ∷ marks) marks refl)) ∙ none)

-- ---- events

enter_whole : (text : List ℕ) (name : Name) (at : End) (es : List Event) → none_after is_cut (enter_at text name at) es ≡ true
enter_whole text name at [] = refl
enter_whole text name at (e ∷ es) = refl

exit_whole : (text : List ℕ) (name : Name) (at : End) (es : List Event) → same_name name n.Data ≡ false → none_after is_cut (exit_at text name at) es ≡ true
exit_whole text name at [] other = refl
exit_whole text name at (e ∷ es) other =
    ap (λ b. not (is_enter e.kind && (b && same_name e.name n.Data))) other ∙ ap not (and-false (is_enter e.kind))

-- the exit of what holds no other, before drafts
void_exit : (text : List ℕ) (name : Name) (at : End) (d : Draft) (ds : List Draft) → is_data d ≡ same_name name n.Data → no_neighbours both_data (d ∷ ds) ≡ true
    → AreInOrder text at ds → none_after is_cut (exit_at text name at) (drafts_events text at ds) ≡ true
void_exit text name at d [] is whole are = refl
void_exit text name at d (draft.Enter other ∷ ds) is whole are =
    ap (λ b. not (same_name name n.Data && b)) (held_other other are.0) ∙ ap not (and-false (same_name name n.Data))
void_exit text name at d (draft.Exit other ∷ ds) is whole are = refl
void_exit text name at d (draft.Void other owed index ∷ ds) is whole are =
    let here = not_not (is_data d && same_name other n.Data) (and_parts (not (is_data d && same_name other n.Data))
    (no_neighbours both_data (draft.Void other owed index ∷ ds)) whole).0 in
    ap not (ap (λ b. b && same_name other n.Data) (sym is) ∙ here)

later_whole : (d : Draft) (ds : List Draft) → no_neighbours both_data (d ∷ ds) ≡ true → no_neighbours both_data ds ≡ true
later_whole d ds whole = (and_parts (none_after both_data d ds) (no_neighbours both_data ds) whole).1

drafts_whole : (text : List ℕ) (from : End) (ds : List Draft) → AreInOrder text from ds → no_neighbours both_data ds ≡ true → all_exit_others ds ≡ true
    → no_neighbours is_cut (drafts_events text from ds) ≡ true
drafts_whole text from [] are whole others = refl
drafts_whole text from (draft.Enter name ∷ ds) are whole others =
    ap₂ (λ s t. s && t) (enter_whole text name from (drafts_events text from ds))
    (drafts_whole text from ds are.1 (later_whole (draft.Enter name) ds whole) others)
drafts_whole text from (draft.Exit name ∷ ds) are whole others =
    let parts = and_parts (not (same_name name n.Data)) (all_exit_others ds) others in
    ap₂ (λ s t. s && t) (exit_whole text name from (drafts_events text from ds) (not_not (same_name name n.Data) parts.0))
    (drafts_whole text from ds are.1 (later_whole (draft.Exit name) ds whole) parts.1)
drafts_whole text from (draft.Void name owed index ∷ ds) are whole others =
    let to = end_at index owed in
    let d = draft.Void name owed index in
    let es = drafts_events text to ds in
    ap₂ (λ s t. s && t) (enter_whole text name from (exit_at text name to ∷ es)) (
    ap₂ (λ s t. s && t) (void_exit text name to d ds refl whole are.1) (drafts_whole text to ds are.1 (later_whole d ds whole) others)
    )

-- the events of drafts that leave nothing open
pub events_whole : (text : List ℕ) (ds : List Draft) (es : List Event) → es ≡ drafts_events text first_end ds → AreInOrder text first_end ds → DraftsAreWhole ds
    → unmatched_in ds ≡ [] → DataIsWhole es
events_whole text ds es is order whole none =
    ap (no_neighbours is_cut) is ∙ drafts_whole text first_end ds order whole (exits_fit text first_end ds [] order refl none)

-- data in place of the last draft
pub ruleset longer_data = (unmatched_set, set_child, end_set, set_whole, first_next, after_other)
