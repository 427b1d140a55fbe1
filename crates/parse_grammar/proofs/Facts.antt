-- What the grammar asks of the values of references and of the first sequences of headings.
use Rattle.std.proofs.Common.{◌≡◌, ℕ, Bool, true, false, not, ◌&&◌, ◌||◌, if◌then◌else◌, List, [], ◌∷◌, Option, None, Some, inl, inr, refl, sym, ap, subst, ◌∙◌}
use Rattle.std.proofs.lemmas.Bool.{and_parts, cases_Bool, not-true, or_cases, or_right, true≢false}
use denote.Enum.Bare.{same_true, true_same}
use Rattle.markdown_options.specs.declared.configuration.Constructs.{Constructs}
use Rattle.engine_events.specs.contracts.event.Name.{the_type}
use Rattle.engine_events.specs.Names.{is_listed, same_name}
use Rattle.engine_events.specs.declared.event.Name.{Name}
use Rattle.engine_events.specs.declared.event.Name.TheVariants as n
use Rattle.definition_inline.specs.CharacterReference.{Names}
use Rattle.event_grammar.specs.declared.slot.Between.{Between}
use Rattle.event_grammar.specs.declared.slot.Between.TheVariants.{Nothing, Spaces, Lines}
use Rattle.event_grammar.specs.declared.slot.Form.{Form}
use Rattle.event_grammar.specs.declared.slot.Form.TheVariants.{Plain, Opening}
use Rattle.event_grammar.specs.declared.slot.Child.TheVariants.{As}
use Rattle.event_grammar.specs.declared.slot.Slot.{Slot}
use Rattle.event_grammar.specs.declared.slot.Slot.TheVariants.{One}
use Rattle.event_grammar.specs.Facts.{decodes, ending_names, is_fact, is_opening, is_size}
use Rattle.event_grammar.specs.Grammar.{opt, row}
use Rattle.event_grammar.specs.InGrammar.{node_name}
use Rattle.event_grammar.specs.Slots.{Taken, take_child, taken, between_of, stands_between}
use Rattle.event_grammar.specs.Trees.{Node, Nodes, Nil, Cons}
use Rattle.parse_slots.specs.Left.{ends, is_filled, left_after, left_by}
use Rattle.parse_slots.specs.Laws.{ChildHolds}
use Rattle.parse_references.specs.Sound.{Decode, HoldsAsked, IsRank, node_bytes}
use Rattle.parse_references.proofs.Rows.{between_passes, if_ends}
use Rattle.parse_grammar.proofs.Passing.{asking_names, is_plain, row_passes, rows_plain, taken_passes}
use Rattle.parse_grammar.proofs.Voids.{Suits}

-- ---- what remains of a row, child by child

-- what is known of a child that is taken, or stands between, is known of it as the row decides
pub child_holds : (around : Between) (slots : List Slot) (node : Node) (ns : Nodes) (Own : Form → Type 0) (Later : List Slot → Type 0) (Other : Type 0)
    → ((t : Taken) → take_child slots (node_name node) ≡ Some t → is_filled around t.form node ≡ true → ends (left_by around t.rest ns) ≡ true
    → Own t.form × Later t.rest)
    → (take_child slots (node_name node) ≡ None → stands_between around (node_name node) ≡ true → is_filled around Plain node ≡ true
    → ends (left_by around slots ns) ≡ true → Own Plain × Other)
    → ends (left_by around slots (Cons node ns)) ≡ true → ChildHolds (take_child slots (node_name node)) slots Own Later Other
child_holds around slots node ns Own Later Other took stood e = by (take_child slots (node_name node)) refl e
  where
    by : (t : Option Taken) → take_child slots (node_name node) ≡ t
        → ends (left_after t slots (stands_between around (node_name node)) (λ form. is_filled around form node) (λ rest. left_by around rest ns)) ≡ true
        → ChildHolds t slots Own Later Other
    by (Some t) is e =
        if_ends (Own t.form × Later t.rest) (is_filled around t.form node) (left_by around t.rest ns) ends refl (λ filled left. took t is filled left) e
    by None is e =
        if_ends (Own Plain × Other) (stands_between around (node_name node) && is_filled around Plain node) (left_by around slots ns) ends refl
        (λ both left.
        let parts = and_parts (stands_between around (node_name node)) (is_filled around Plain node) both in
        stood is parts.0 parts.1 left) e

module _ (names : Names) (text : List ℕ) where
  -- what is asked of a node beside line endings and numbers, in a form, after a sibling
  pub record Answers (form : Form) (sibling : Option Name) (node : Node) : Type 0 where
    pub heading : same_name (node_name node) n.HeadingAtxSequence ≡ true → (not (is_opening form) || is_size 6 (node_bytes names text node)) ≡ true
    pub reference : same_name (node_name node) n.CharacterReferenceValue ≡ true → decodes names sibling (node_bytes names text node) ≡ true

  abbrev pub HaveAnswers : Option Name → List Slot → Nodes → Type 0
  HaveAnswers sibling slots Nil = Unit {0}
  HaveAnswers sibling slots (Cons node ns) =
      ChildHolds (take_child slots (node_name node)) slots (λ form. Answers form sibling node) (λ rest. HaveAnswers (Some (node_name node)) rest ns)
      (HaveAnswers sibling slots ns)

  plain_answers : (form : Form) (sibling : Option Name) (node : Node) → is_plain form (node_name node) ≡ true → Answers form sibling node
  plain_answers form sibling node plain =
      let name = node_name node in
      let parts = and_parts (not (same_name name n.CharacterReferenceValue)) (not (same_name name n.HeadingAtxSequence && is_opening form)) plain in
      record {
        heading = λ is.
            let other : not (is_opening form) ≡ true =
            sym (ap (λ (b : Bool). not (b && is_opening form)) is) ∙ parts.1 in
            ap (λ (b : Bool). b || is_size 6 (node_bytes names text node)) other;
        reference = λ is. absurd (true≢false (sym is ∙ not-true (same_name (node_name node) n.CharacterReferenceValue) parts.0));
      }

  stood_answers : (around : Between) (sibling : Option Name) (node : Node) → stands_between around (node_name node) ≡ true → Answers Plain sibling node
  stood_answers around sibling node is = plain_answers Plain sibling node (between_passes (is_plain Plain) refl refl around (node_name node) is)

  -- in a row that has neither
  pub plain_row : (around : Between) (sibling : Option Name) (slots : List Slot) (ns : Nodes) → row_passes is_plain slots ≡ true
      → ends (left_by around slots ns) ≡ true → HaveAnswers sibling slots ns
  plain_row around sibling slots Nil plain e = tt
  plain_row around sibling slots (Cons node ns) plain e =
      child_holds around slots node ns (λ form. Answers form sibling node) (λ rest. HaveAnswers (Some (node_name node)) rest ns) (HaveAnswers sibling slots ns)
      (λ t is filled left.
      let after = taken_passes is_plain (node_name node) slots plain t is in
      (plain_answers t.form sibling node after.0, plain_row around (Some (node_name node)) t.rest ns after.1 left))
      (λ is stands filled left. (stood_answers around sibling node stands, plain_row around sibling slots ns plain left)) e

  -- ---- headings

  abbrev after_opening : List Slot
  after_opening = opt n.HeadingAtxText ∷ opt n.HeadingAtxSequence ∷ []

  opening_taken : (name : Name) (b : Bool) → same_name n.HeadingAtxSequence name ≡ b → (t : Taken)
      → (if b then Some (taken (As n.HeadingAtxSequence Opening) after_opening) else None) ≡ Some t
      → (t ≡ taken (As n.HeadingAtxSequence Opening) after_opening) × (same_name name n.HeadingAtxSequence ≡ true)
  opening_taken name true is t took = (
    let k : Some (taken (As n.HeadingAtxSequence Opening) after_opening) ≡ Some t = took in cc,
    true_same the_type name n.HeadingAtxSequence (sym (same_true the_type tt n.HeadingAtxSequence name is)),
  )
  opening_taken name false is t took = absurd (let k : None ≡ Some t = took in cc)

  not_taken : (b : Bool) (x : Taken) → (if b then Some x else None) ≡ None → b ≡ false
  not_taken true x is = absurd (let k : Some x ≡ None = is in cc)
  not_taken false x is = refl

  other_way : (a b : Name) → same_name a b ≡ false → same_name b a ≡ false
  other_way a b other = elim (cases_Bool (same_name b a)) [
    | inl same ↦ absurd (true≢false (sym (true_same the_type a b (sym (same_true the_type tt b a same))) ∙ other))
    | inr apart ↦ apart
  ]

  heading_row : (around : Between) (sibling : Option Name) (ns : Nodes) → IsRank names text ns
      → ends (left_by around (One (As n.HeadingAtxSequence Opening) ∷ after_opening) ns) ≡ true
      → HaveAnswers sibling (One (As n.HeadingAtxSequence Opening) ∷ after_opening) ns
  heading_row around sibling Nil rank e = tt
  heading_row around sibling (Cons node ns) rank e =
      let slots : List Slot = One (As n.HeadingAtxSequence Opening) ∷ after_opening in
      child_holds around slots node ns (λ form. Answers form sibling node) (λ rest. HaveAnswers (Some (node_name node)) rest ns) (HaveAnswers sibling slots ns)
      (λ t is filled left.
      let both = opening_taken (node_name node) (same_name n.HeadingAtxSequence (node_name node)) refl t is in
      let name_is = same_true the_type tt (node_name node) n.HeadingAtxSequence both.1 in (
        record {
          heading = λ same. or_right (not (is_opening t.form)) (is_size 6 (node_bytes names text node)) (rank.0 same);
          reference = λ same. absurd (true≢false (sym (ap (λ a. same_name a n.CharacterReferenceValue) (sym name_is) ∙ same)));
        },
        plain_row around (Some (node_name node)) t.rest ns (ap (λ (x : Taken). row_passes is_plain x.rest) both.0) left,
      ))
      (λ is stands filled left.
      let other = other_way n.HeadingAtxSequence (node_name node) (not_taken (same_name n.HeadingAtxSequence (node_name node)) _ is) in
      (stood_answers around sibling node stands, heading_row around sibling ns (rank.1 other) left)) e

  -- ---- references

  -- no line ends in a reference
  in_reference : (around : Between) (form : Form) → between_of (row n.CharacterReference form) around n.CharacterReference ≡ Spaces
  in_reference Nothing form = refl
  in_reference Spaces form = refl
  in_reference Lines form = refl

  -- a row without sequences of headings and without white space
  abbrev is_other : Form → Name → Bool
  is_other form name = not (same_name name n.HeadingAtxSequence) && not (same_name name n.SpaceOrTab)

  reference_answers : (form : Form) (sibling : Option Name) (node : Node) → same_name (node_name node) n.HeadingAtxSequence ≡ false
      → (same_name (node_name node) n.CharacterReferenceValue ≡ true → decodes names sibling (node_bytes names text node) ≡ true)
      → Answers form sibling node
  reference_answers form sibling node other decodes_it = record {
    heading = λ is. absurd (true≢false (sym is ∙ other));
    reference = decodes_it;
  }

  is_space : (name : Name) → stands_between Spaces name ≡ true → same_name name n.SpaceOrTab ≡ true
  is_space name stands = elim (or_cases (same_name n.SpaceOrTab name) false stands) [
    | inl same ↦ true_same the_type name n.SpaceOrTab (sym (same_true the_type tt n.SpaceOrTab name same))
    | inr never ↦ absurd (true≢false (sym never))
  ]

  reference_row : (sibling : Option Name) (slots : List Slot) (ns : Nodes) → row_passes is_other slots ≡ true → Decode names text sibling ns
      → ends (left_by Spaces slots ns) ≡ true → HaveAnswers sibling slots ns
  reference_row sibling slots Nil other decode e = tt
  reference_row sibling slots (Cons node ns) other decode e =
      let name = node_name node in
      let goes_on : (b : Bool) → same_name name n.SpaceOrTab ≡ b → Decode names text (if b then sibling else Some name) ns =
      λ b is. subst (λ (c : Bool). Decode names text (if c then sibling else Some name) ns) is decode.1 in
      child_holds Spaces slots node ns (λ form. Answers form sibling node) (λ rest. HaveAnswers (Some name) rest ns) (HaveAnswers sibling slots ns)
      (λ t is filled left.
      let after = taken_passes is_other name slots other t is in
      let parts = and_parts (not (same_name name n.HeadingAtxSequence)) (not (same_name name n.SpaceOrTab)) after.0 in (
        reference_answers t.form sibling node (not-true (same_name name n.HeadingAtxSequence) parts.0) decode.0,
        reference_row (Some name) t.rest ns after.1 (goes_on false (not-true (same_name name n.SpaceOrTab) parts.1)) left,
      ))
      (λ is stands filled left. (
        stood_answers Spaces sibling node stands,
        reference_row sibling slots ns other (goes_on true (is_space name stands)) left,
      )) e

  -- ---- the children of an event

  pub kids_answer : (on : Constructs) (around : Between) (name : Name) (form : Form) (kids : Nodes) → HoldsAsked on names text name kids
      → ends (left_by (between_of (row name form) around name) (row name form) kids) ≡ true → HaveAnswers None (row name form) kids
  kids_answer on around name form kids asked e =
      elim (cases_Bool (is_listed asking_names name)) [
        | inl listed ↦ elim (or_cases (same_name n.CharacterReference name) (is_listed (n.HeadingAtx ∷ []) name) listed) [
          | inl same ↦ of_reference (sym (same_true the_type tt n.CharacterReference name same))
          | inr rest ↦ elim (or_cases (same_name n.HeadingAtx name) false rest) [
            | inl same ↦ of_heading (sym (same_true the_type tt n.HeadingAtx name same))
            | inr never ↦ absurd (true≢false (sym never))
          ]
        ]
        | inr other ↦
            plain_row (between_of (row name form) around name) None (row name form) kids
            (sym (ap (λ (b : Bool). b || row_passes is_plain (row name form)) other) ∙ rows_plain name form) e
      ]
    where
      ended : (own : Name) → name ≡ own → ends (left_by (between_of (row own form) around own) (row own form) kids) ≡ true
      ended own is = subst (λ a. ends (left_by (between_of (row a form) around a) (row a form) kids) ≡ true) is e

      of_reference : name ≡ n.CharacterReference → HaveAnswers None (row name form) kids
      of_reference is =
          subst (λ own. HaveAnswers None (row own form) kids) (sym is)
          (reference_row None (row n.CharacterReference form) kids refl (asked.reference is)
          (subst (λ b. ends (left_by b (row n.CharacterReference form) kids) ≡ true) (in_reference around form) (ended n.CharacterReference is)))

      of_heading : name ≡ n.HeadingAtx → HaveAnswers None (row name form) kids
      of_heading is =
          subst (λ own. HaveAnswers None (row own form) kids) (sym is)
          (heading_row (between_of (row n.HeadingAtx form) around n.HeadingAtx) None kids (asked.heading is) (ended n.HeadingAtx is))

  -- ---- all that is asked of the bytes of a node

  fact_by : (name : Name) (form : Form) (sibling : Option Name) (bytes : List ℕ) → Suits name bytes
      → (same_name name n.HeadingAtxSequence ≡ true → (not (is_opening form) || is_size 6 bytes) ≡ true)
      → (same_name name n.CharacterReferenceValue ≡ true → decodes names sibling bytes ≡ true) → is_fact names name form sibling bytes ≡ true
  fact_by name form sibling bytes suits heading reference =
      choose (is_listed ending_names name) _ _ suits.ending (λ _.
      choose (same_name name n.ListItemValue) _ _ suits.number (λ _.
      choose (same_name name n.HeadingAtxSequence) _ _ heading (λ _.
      choose (same_name name n.CharacterReferenceValue) _ _ reference (λ _. refl))))
    where
      choose : (b x y : Bool) → (b ≡ true → x ≡ true) → (b ≡ false → y ≡ true) → (if b then x else y) ≡ true
      choose true x y own other = own refl
      choose false x y own other = other refl

  pub has_fact : (form : Form) (sibling : Option Name) (node : Node) → Suits (node_name node) (node_bytes names text node) → Answers form sibling node
      → is_fact names (node_name node) form sibling (node_bytes names text node) ≡ true
  has_fact form sibling node suits answers =
      fact_by (node_name node) form sibling (node_bytes names text node) suits answers.heading answers.reference
