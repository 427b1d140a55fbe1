-- The events of drafts have bytes that their names may have, and a size if their names can hold no other.
use Rattle.parse_output.proofs.Prelude.{and-false, AreInOrder, Draft, End, end_at, enter_at, Event, exit_at, first_end, Name, same_name}
use Rattle.std.proofs.Common.{◌≡◌, ℕ, Bool, true, false, not, ◌&&◌, if◌then◌else◌, List, [], ◌∷◌, refl, ap, ap₂, ◌∙◌}
use Rattle.parse_output.specs.Forest.{drafts_events}
use Rattle.parse_output.specs.declared.draft.Draft.TheVariants as draft
use Rattle.event_tokens.specs.Bytes.{HaveTheirBytes, are_fit, is_fit, is_fit_at, same_spot}
use Rattle.event_tokens.specs.Tokens.{is_token}
use Rattle.event_tokens.proofs.Nothing.{nothing_held}
use Rattle.event_grammar.specs.Void.{is_void}
use Rattle.parse_output.specs.Joined.{end_edge, end_spot, text_between}
use Rattle.parse_output.specs.Voids.{IsSizedToken}
use Rattle.parse_output.proofs.Joined.{none_between}

-- the bytes are such, and the name has a row or the places are two
fit_held : (may void same : Bool) → may ≡ true → void ≡ false → (may && not (void && same)) ≡ true
fit_held may void same fits held = ap₂ (λ (s t : Bool). s && not (t && same)) fits held

fit_apart : (may void same : Bool) → may ≡ true → same ≡ false → (may && not (void && same)) ≡ true
fit_apart may void same fits apart = ap₂ (λ (s t : Bool). s && not (void && t)) fits apart ∙ ap not (and-false void)

if_pair : (pair fit : Bool) → fit ≡ true → (if pair then fit else true) ≡ true
if_pair true fit is = is
if_pair false fit is = refl

exit_fits : (text : List ℕ) (name : Name) (from : End) (others : List Event) → is_fit text (exit_at text name from) others ≡ true
exit_fits text name from [] = refl
exit_fits text name from (next ∷ others) = refl

-- an event that is entered by a draft of its own
enter_fits : (text : List ℕ) (name : Name) (from : End) (ds : List Draft) → is_void name ≡ false
    → is_fit text (enter_at text name from) (drafts_events text from ds) ≡ true
enter_fits text name from [] held = refl
enter_fits text name from (draft.Enter other ∷ ds) held = refl
enter_fits text name from (draft.Void other owed index ∷ ds) held = refl
enter_fits text name from (draft.Exit other ∷ ds) held =
    let here = end_spot text from in
    let none : is_token name (text_between text from from) ≡ true =
    ap (is_token name) (none_between text (end_edge text from) (end_edge text from) refl) ∙ nothing_held name held in
    if_pair (same_name name other) (is_fit_at text name here here)
    (fit_held (is_token name (text_between text from from)) (is_void name) (same_spot here here) none held)

void_fits : (text : List ℕ) (name : Name) (from to : End) (others : List Event) → IsSizedToken text name from to
    → is_fit text (enter_at text name from) (exit_at text name to ∷ others) ≡ true
void_fits text name from to others token =
    if_pair (same_name name name) (is_fit_at text name (end_spot text from) (end_spot text to))
    (fit_apart (is_token name (text_between text from to)) (is_void name) (same_spot (end_spot text from) (end_spot text to)) token.bytes token.apart)

drafts_fit : (text : List ℕ) (from : End) (ds : List Draft) → AreInOrder text from ds → are_fit text (drafts_events text from ds) ≡ true
drafts_fit text from [] are = refl
drafts_fit text from (draft.Enter name ∷ ds) are =
    ap₂ (λ (s t : Bool). s && t) (enter_fits text name from ds are.0) (drafts_fit text from ds are.1)
drafts_fit text from (draft.Exit name ∷ ds) are =
    ap₂ (λ (s t : Bool). s && t) (exit_fits text name from (drafts_events text from ds)) (drafts_fit text from ds are.1)
drafts_fit text from (draft.Void name owed index ∷ ds) are =
    let to = end_at index owed in
    let others = drafts_events text to ds in
    ap₂ (λ (s t : Bool). s && t) (void_fits text name from to others are.0) (
    ap₂ (λ (s t : Bool). s && t) (exit_fits text name to others) (drafts_fit text to ds are.1)
    )

-- the events of a text
pub events_fit : (text : List ℕ) (ds : List Draft) (es : List Event) → es ≡ drafts_events text first_end ds → AreInOrder text first_end ds → HaveTheirBytes text es
events_fit text ds es is order = ap (are_fit text) is ∙ drafts_fit text first_end ds order
