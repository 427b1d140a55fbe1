-- Nodes that hold no row of delimiters, and no value of one, by their names.
use Rattle.std.proofs.Common.{inl, inr, ◌≡◌, ℕ, Bool, true, false, ◌||◌, List, [], ◌∷◌, ◌++◌, refl, sym, ap, ap₂, ◌∙◌}
use Rattle.std.proofs.lemmas.Bool.{cases_Bool, cond-false, not-true, true≢false}
use Rattle.std.specs.Prelude.{not}
use denote.Enum.Bare.{same_true}
use Rattle.engine_events.specs.contracts.event.Name.{the_type}
use Rattle.engine_events.specs.declared.event.Name.{Name}
use Rattle.engine_events.specs.declared.event.Name.TheVariants as n
use Rattle.engine_events.specs.Names.{same_name, is_listed}
use Rattle.event_grammar.specs.declared.slot.Between.{Between}
use Rattle.event_grammar.specs.declared.slot.Form.{Form}
use Rattle.event_grammar.specs.declared.slot.Slot.{Slot}
use Rattle.event_grammar.specs.Slots.{between_of}
use Rattle.event_grammar.specs.Grammar.{row}
use Rattle.event_grammar.specs.InGrammar.{node_name}
use Rattle.event_grammar.specs.References.{named, named_in}
use Rattle.event_grammar.specs.Trees.{Node, Nodes, Around, Nil, Cons}
use Rattle.event_grammar.proofs.EveryName.{of_each_form}
use Rattle.parse_slots.specs.Left.{ends, is_filled, left_by}
use Rattle.parse_references.specs.Cells.{AgreeInCells, AgreesInside, cells_after}
use Rattle.parse_references.specs.Leads.{AreWithout, IsWithout}
use Rattle.parse_references.proofs.Rows.{all_pass}
use Rattle.parse_grammar.proofs.Steps.{row_passes, Step, step}

-- ---- by names

-- what tables of delimiters stand in, and what is in them
abbrev pub loud_names : List Name
loud_names =
    n.BlockQuote ∷ n.ListOrdered ∷ n.ListUnordered ∷ n.ListItem ∷ n.GfmFootnoteDefinition ∷ n.GfmTable ∷ n.GfmTableHead ∷ n.GfmTableDelimiterRow
    ∷ n.GfmTableDelimiterCell ∷ n.GfmTableDelimiterCellValue ∷ []

abbrev pub is_calm : Form → Name → Bool
is_calm form name = not (is_listed loud_names name)

-- in an event with another name there are others alone
calm_rows : (name : Name) (form : Form) → is_calm form name ≡ true → row_passes is_calm (row name form) ≡ true
calm_rows name form calm =
    passed (is_calm form name) (row_passes is_calm (row name form))
    (of_each_form (λ name form. not (is_calm form name) || row_passes is_calm (row name form)) refl name form) calm
  where
    passed : (a b : Bool) → (not a || b) ≡ true → a ≡ true → b ≡ true
    passed true b h is = h
    passed false b h is = absurd (true≢false (sym is))

-- ---- nodes

-- the names that are counted
abbrev pub column_names : List Name
column_names = n.GfmTableDelimiterRow ∷ n.GfmTableDelimiterCellValue ∷ []

calm_other : (name : Name) → is_listed loud_names name ≡ false → is_listed column_names name ≡ false
calm_other name other = elim (cases_Bool (is_listed column_names name)) [
  | inl column ↦ absurd (true≢false (sym (all_pass (is_listed loud_names) column_names name refl column) ∙ other))
  | inr none ↦ none
]

mutual
  pub calm_node : (around : Between) (form : Form) (node : Node) → is_calm form (node_name node) ≡ true → is_filled around form node ≡ true
      → IsWithout column_names node
  calm_node around form (Around enter kids exit) calm filled = (
    calm_other enter.name (not-true (is_listed loud_names enter.name) calm),
    calm_kids (between_of (row enter.name form) around enter.name) (row enter.name form) kids (calm_rows enter.name form calm) filled,
  )

  pub calm_kids : (around : Between) (slots : List Slot) (ns : Nodes) → row_passes is_calm slots ≡ true → ends (left_by around slots ns) ≡ true
      → AreWithout column_names ns
  calm_kids around slots Nil calm e = tt
  calm_kids around slots (Cons node ns) calm e =
      let s : Step is_calm around node ns = step is_calm refl refl around slots node ns calm e in
      (calm_node around s.form node s.passed s.filled, calm_kids around s.rest ns s.passing s.left)

-- ---- what they lack

-- no node of a name is among nodes without it
module _ (off : List Name) (name : Name) (listed : is_listed off name ≡ true) where
  not_named : (other : Name) → is_listed off other ≡ false → same_name other name ≡ false
  not_named other apart = elim (cases_Bool (same_name other name)) [
    | inl same ↦ absurd (true≢false (sym (ap (is_listed off) (same_true the_type tt other name same) ∙ listed) ∙ apart))
    | inr none ↦ none
  ]

  mutual
    pub none_in : (node : Node) → IsWithout off node → named_in name node ≡ []
    none_in (Around enter kids exit) without =
        cond-false (same_name enter.name name) (Around enter kids exit ∷ named name kids) (named name kids) (not_named enter.name without.0)
        ∙ none_named kids without.1

    pub none_named : (ns : Nodes) → AreWithout off ns → named name ns ≡ []
    none_named Nil without = refl
    none_named (Cons node ns) without = ap₂ (λ (xs ys : List Node). xs ++ ys) (none_in node without.0) (none_named ns without.1)

-- cells agree where there is no row of delimiters
module _ (off : List Name) (listed : is_listed off n.GfmTableDelimiterRow ≡ true) where
  mutual
    pub agrees_without : (node : Node) → IsWithout off node → AgreesInside node
    agrees_without (Around enter kids exit) without = agree_without 0 kids without.1

    pub agree_without : (cells : ℕ) (ns : Nodes) → AreWithout off ns → AgreeInCells cells ns
    agree_without cells Nil without = tt
    agree_without cells (Cons node ns) without = (
      λ same. absurd (true≢false (sym same ∙ other_without node without.0)),
      agrees_without node without.0,
      agree_without (cells_after cells node) ns without.1,
    )

    pub other_without : (node : Node) → IsWithout off node → same_name (node_name node) n.GfmTableDelimiterRow ≡ false
    other_without (Around enter kids exit) without = not_named off n.GfmTableDelimiterRow listed enter.name without.0
