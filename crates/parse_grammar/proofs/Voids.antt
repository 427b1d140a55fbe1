-- Events that hold no other, in a list: their bytes.
use Rattle.std.proofs.Common.{◌≡◌, ℕ, Bool, true, false, not, ◌&&◌, if◌then◌else◌, List, [], ◌∷◌, ◌++◌, inl, inr, refl, sym, ap, subst, ◌∙◌}
use Rattle.std.proofs.lemmas.Bool.{and_from, and_parts, cases_Bool, or_from, or_parts, true≢false}
use denote.Enum.Bare.{same_true, true_same}
use Rattle.engine_events.specs.contracts.event.Name.{the_type}
use Rattle.engine_events.specs.Names.{is_listed, same_name}
use Rattle.engine_events.specs.declared.event.Event.{Event}
use Rattle.engine_events.specs.declared.event.Kind.TheVariants.{Enter, Exit}
use Rattle.engine_events.specs.declared.event.Name.{Name}
use Rattle.engine_events.specs.declared.event.Name.TheVariants as n
use Rattle.event_grammar.specs.declared.slot.Between.{Between}
use Rattle.event_grammar.specs.declared.slot.Between.TheVariants.{Nothing}
use Rattle.event_grammar.specs.declared.slot.Form.{Form}
use Rattle.event_grammar.specs.declared.slot.Slot.{Slot}
use Rattle.event_grammar.specs.Slots.{between_of}
use Rattle.event_grammar.specs.Facts.{are_digits, ending_names, is_ending}
use Rattle.event_grammar.specs.Grammar.{row}
use Rattle.event_grammar.specs.Points.{bytes_between, spot_of}
use Rattle.event_grammar.specs.Trees.{AreNodes, IsNode, Node, Nodes, Around, Nil, Cons, events_of, node_events, is_enter, is_pair}
use Rattle.event_grammar.specs.Void.{is_void}
use Rattle.event_tokens.specs.Bytes.{are_fit, is_fit, is_fit_at, same_spot}
use Rattle.event_tokens.specs.Tokens.{is_token}
use Rattle.parse_slots.specs.Left.{ends, is_filled, left_by}

module _ (text : List ℕ) where
  -- ---- lists, one after another

  first_fits : (xs ys : List Event) → are_fit text (xs ++ ys) ≡ true → are_fit text xs ≡ true
  first_fits [] ys h = refl
  first_fits (e ∷ []) ys h = refl
  first_fits (e ∷ next ∷ xs) ys h =
      let parts = and_parts (is_fit text e (next ∷ (xs ++ ys))) (are_fit text (next ∷ (xs ++ ys))) h in
      and_from (is_fit text e (next ∷ xs)) (are_fit text (next ∷ xs)) parts.0 (first_fits (next ∷ xs) ys parts.1)

  later_fits : (xs ys : List Event) → are_fit text (xs ++ ys) ≡ true → are_fit text ys ≡ true
  later_fits [] ys h = h
  later_fits (e ∷ xs) ys h = later_fits xs ys (and_parts (is_fit text e (xs ++ ys)) (are_fit text (xs ++ ys)) h).1

  -- ---- nodes

  -- an event that holds no other has bytes that its name may have
  abbrev pub HasBytes : Event → Event → Type 0
  HasBytes enter exit = is_token enter.name (bytes_between text (spot_of enter) (spot_of exit)) ≡ true

  abbrev mutual
    pub IsFit : Node → Type 0
    IsFit (Around enter kids exit) = (kids ≡ Nil → HasBytes enter exit) × AreFit kids

    pub AreFit : Nodes → Type 0
    AreFit Nil = Unit {0}
    AreFit (Cons node ns) = IsFit node × AreFit ns

  pair_is : (enter exit : Event) → enter.kind ≡ Enter → exit.kind ≡ Exit → exit.name ≡ enter.name → is_pair enter exit ≡ true
  pair_is enter exit entered exited named =
      and_from (is_enter enter.kind) (not (is_enter exit.kind) && same_name enter.name exit.name) (ap is_enter entered)
      (and_from (not (is_enter exit.kind)) (same_name enter.name exit.name) (ap (λ k. not (is_enter k)) exited)
      (true_same the_type enter.name exit.name (sym named)))

  alone : (enter exit : Event) → enter.kind ≡ Enter → exit.kind ≡ Exit → exit.name ≡ enter.name → are_fit text (enter ∷ exit ∷ []) ≡ true
      → HasBytes enter exit
  alone enter exit entered exited named h =
      let from = spot_of enter in
      let to = spot_of exit in
      let pair = pair_is enter exit entered exited named in
      let parts = and_parts (is_fit text enter (exit ∷ [])) (are_fit text (exit ∷ [])) h in
      let both = sym (ap (λ (b : Bool). if b then is_fit_at text enter.name from to else true) pair) ∙ parts.0 in
      (and_parts (is_token enter.name (bytes_between text from to)) (not (is_void enter.name && same_spot from to)) both).0

  mutual
    is_fit_node : (node : Node) → IsNode node → are_fit text (node_events node) ≡ true → IsFit node
    is_fit_node (Around enter kids exit) paired h =
        let inner = (and_parts (is_fit text enter (events_of kids ++ exit ∷ [])) (are_fit text (events_of kids ++ exit ∷ [])) h).1 in (
          λ none. alone enter exit paired.0 paired.1 paired.2 (subst (λ ks. are_fit text (enter ∷ (events_of ks ++ exit ∷ [])) ≡ true) none h),
          nodes_fit kids paired.3 (first_fits (events_of kids) (exit ∷ []) inner),
        )

    -- each event of a list that holds no other
    pub nodes_fit : (ns : Nodes) → AreNodes ns → are_fit text (events_of ns) ≡ true → AreFit ns
    nodes_fit Nil paired h = tt
    nodes_fit (Cons node ns) paired h = (
      is_fit_node node paired.0 (first_fits (node_events node) (events_of ns) h),
      nodes_fit ns paired.1 (later_fits (node_events node) (events_of ns) h),
    )

-- ---- what such names hold

-- the names of line endings and numbers
abbrev sized_names : List Name
sized_names = n.LineEnding ∷ n.BlankLineEnding ∷ n.ListItemValue ∷ []

-- one of these names has no row, and what its bytes may be
record IsSized (name : Name) : Type 0 where
  no_row : (form : Form) → row name form ≡ []
  ending : (bytes : List ℕ) → is_token name bytes ≡ true → is_listed ending_names name ≡ true → is_ending bytes ≡ true
  number : (bytes : List ℕ) → is_token name bytes ≡ true → same_name name n.ListItemValue ≡ true → are_digits 9 bytes ≡ true

sized : (name : Name) → is_listed sized_names name ≡ true → IsSized name
sized n.LineEnding listed = record {
  no_row = λ form. refl;
  ending = λ bytes may is. may;
  number = λ bytes may is. absurd (true≢false (sym is));
}
sized n.BlankLineEnding listed = record {
  no_row = λ form. refl;
  ending = λ bytes may is. may;
  number = λ bytes may is. absurd (true≢false (sym is));
}
sized n.ListItemValue listed = record {
  no_row = λ form. refl;
  ending = λ bytes may is. absurd (true≢false (sym is));
  number = λ bytes may is. may;
}
sized name listed = absurd (true≢false (sym listed))

-- without a row an event holds nothing
none_in : (kids : Nodes) → ends (left_by Nothing [] kids) ≡ true → kids ≡ Nil
none_in Nil e = refl
none_in (Cons node ns) e = absurd (true≢false (sym e))

no_kids : (around : Between) (form : Form) (name : Name) (kids : Nodes) → row name form ≡ []
    → ends (left_by (between_of (row name form) around name) (row name form) kids) ≡ true → kids ≡ Nil
no_kids around form name kids none e =
    none_in kids (sym (ap (λ (slots : List Slot). ends (left_by (between_of slots around name) slots kids)) none) ∙ e)

-- what the grammar asks of the bytes of line endings and of numbers
pub record Suits (name : Name) (bytes : List ℕ) : Type 0 where
  pub ending : is_listed ending_names name ≡ true → is_ending bytes ≡ true
  pub number : same_name name n.ListItemValue ≡ true → are_digits 9 bytes ≡ true

unsized : (name : Name) (bytes : List ℕ) → is_listed sized_names name ≡ false → Suits name bytes
unsized name bytes other =
    let endings = or_parts (same_name n.LineEnding name) (is_listed (n.BlankLineEnding ∷ n.ListItemValue ∷ []) name) other in
    let blanks = or_parts (same_name n.BlankLineEnding name) (is_listed (n.ListItemValue ∷ []) name) endings.1 in
    record {
      ending = λ is. absurd (true≢false (sym is ∙ or_from (same_name n.LineEnding name) (is_listed (n.BlankLineEnding ∷ []) name) endings.0
          (or_from (same_name n.BlankLineEnding name) false blanks.0 refl)));
      number = λ is. absurd (true≢false (sym (ap (is_listed sized_names) (same_true the_type tt name n.ListItemValue is)) ∙ other));
    }

module _ (text : List ℕ) where
  pub suits : (around : Between) (form : Form) (enter exit : Event) (kids : Nodes) → is_filled around form (Around enter kids exit) ≡ true
      → IsFit text (Around enter kids exit) → Suits enter.name (bytes_between text (spot_of enter) (spot_of exit))
  suits around form enter exit kids filled fit =
      elim (cases_Bool (is_listed sized_names enter.name)) [
        | inl listed ↦
            let s = sized enter.name listed in
            let may = fit.0 (no_kids around form enter.name kids (s.no_row form) filled) in
            record {
              ending = s.ending (bytes_between text (spot_of enter) (spot_of exit)) may;
              number = s.number (bytes_between text (spot_of enter) (spot_of exit)) may;
            }
        | inr other ↦ unsized enter.name (bytes_between text (spot_of enter) (spot_of exit)) other
      ]
