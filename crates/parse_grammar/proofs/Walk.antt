-- A walk over the blocks of a document: each node has a fact, by the leaves that it spells.
use Rattle.std.proofs.Common.{inl, inr, ◌≡◌, ℕ, Bool, true, false, ◌&&◌, ◌||◌, List, [], ◌∷◌, Option, None, Some, refl, sym, ap, subst, ◌∙◌}
use Rattle.std.proofs.lemmas.Bool.{and_parts, cases_Bool, cond-false, cond-true, or_cases, or_left, true≢false}
use Rattle.std.specs.Prelude.{if◌then◌else◌}
use Rattle.std.specs.List.{list_all}
use denote.Enum.Bare.{same_true}
use Rattle.engine_events.specs.contracts.event.Name.{the_type}
use Rattle.engine_events.specs.declared.event.Event.{Event}
use Rattle.engine_events.specs.declared.event.Name.{Name}
use Rattle.engine_events.specs.declared.event.Name.TheVariants as n
use Rattle.engine_events.specs.Names.{same_name, is_listed}
use Rattle.definition_inline.specs.CharacterReference.{Names}
use Rattle.definition_page.specs.Page as page
use Rattle.event_grammar.specs.declared.slot.Between.{Between}
use Rattle.event_grammar.specs.declared.slot.Child.TheVariants.{Only, As}
use Rattle.event_grammar.specs.declared.slot.Form.{Form}
use Rattle.event_grammar.specs.declared.slot.Form.TheVariants.{Plain, Ordered}
use Rattle.event_grammar.specs.declared.slot.Slot.{Slot}
use Rattle.event_grammar.specs.declared.slot.Slot.TheVariants.{One}
use Rattle.event_grammar.specs.Grammar.{line_names, row, space_names}
use Rattle.event_grammar.specs.InGrammar.{kids_of, node_name}
use Rattle.event_grammar.specs.Slots.{Taken, take_child, taken, between_of, stands_between}
use Rattle.event_grammar.specs.Trees.{Node, Nodes, Around, Nil, Cons}
use Rattle.event_meaning.specs.Blocks.{block_of, blocks_from, blocks_of, join, start_of}
use Rattle.event_meaning.specs.Children.{text_of}
use Rattle.parse_slots.specs.Left.{ends, is_filled, left_after, left_by}
use Rattle.parse_references.proofs.Rows.{between_passes, if_ends}
use Rattle.parse_grammar.proofs.Leaves.{AllLeaves, leaves_parts}
use Rattle.parse_grammar.proofs.Steps.{row_passes, Step, step}

-- the blocks that hold others
abbrev pub holder_names : List Name
holder_names = n.BlockQuote ∷ n.ListItem ∷ n.GfmFootnoteDefinition ∷ n.ListUnordered ∷ n.ListOrdered ∷ []

-- a row begins with a child of this name
abbrev pub begins : Name → List Slot → Bool
begins start (One (Only a) ∷ slots) = same_name a start
begins start (One (As a form) ∷ slots) = same_name a start
begins start slots = false

begins_its_row : (name : Name) (form : Form) → is_listed holder_names name ≡ true → begins (start_of name) (row name form) ≡ true
begins_its_row n.BlockQuote form listed = refl
begins_its_row n.ListItem Ordered listed = refl
begins_its_row n.ListItem form listed = refl
begins_its_row n.GfmFootnoteDefinition form listed = refl
begins_its_row n.ListUnordered form listed = refl
begins_its_row n.ListOrdered form listed = refl
begins_its_row name form listed = absurd (true≢false (sym listed))

-- such a row takes no other name first
module _ (name start : Name) (apart : same_name name start ≡ false) where
  never : (a : Name) → same_name a start ≡ true → same_name a name ≡ false
  never a is = elim (cases_Bool (same_name a name)) [
    | inl same ↦ absurd (true≢false (sym (subst (λ x. same_name x start ≡ true) (same_true the_type tt a name same) is) ∙ apart))
    | inr other ↦ other
  ]

  takes_none : (slots : List Slot) → begins start slots ≡ true → take_child slots name ≡ None
  takes_none (One (Only a) ∷ slots) is = ap (λ (b : Bool). if b then Some (taken (Only a) slots) else None) (never a is)
  takes_none (One (As a form) ∷ slots) is = ap (λ (b : Bool). if b then Some (taken (As a form) slots) else None) (never a is)
  takes_none slots is = absurd (true≢false (sym is))

-- ---- the walk

-- what may stand among blocks, where this is quiet, and these are leaves
abbrev pub is_part : (Form → Name → Bool) → List Name → Form → Name → Bool
is_part is_quiet leaf_names form name = is_quiet form name || (is_listed leaf_names name || is_listed holder_names name)

module _ (Fact : Node → Type 0) where
  abbrev pub AllHave : Nodes → Type 0
  AllHave Nil = Unit {0}
  AllHave (Cons node ns) = Fact node × AllHave ns

  -- What is quiet has the fact by its row, a leaf by what it spells, and what holds blocks by what it spells and by those in it.
  module _ (names : Names) (bytes : List ℕ) (P : page.PageLeaf → Type 0) (C : page.PageContainer → Type 0) (is_quiet : Form → Name → Bool) (leaf_names : List Name) where
    pub record Facts : Type 0 where
      pub spaces : list_all (is_quiet Plain) space_names ≡ true
      pub lines : list_all (is_quiet Plain) line_names ≡ true
      pub rows : (name : Name) (form : Form) → is_listed holder_names name ≡ true → row_passes (is_part is_quiet leaf_names) (row name form) ≡ true
      pub quiet : (around : Between) (form : Form) (node : Node) → is_quiet form (node_name node) ≡ true → is_filled around form node ≡ true → Fact node
      pub leaf : (around : Between) (form : Form) (top : Bool) (enter exit : Event) (kids : Nodes) (inner : page.Blocks)
          → is_listed leaf_names enter.name ≡ true → is_filled around form (Around enter kids exit) ≡ true
          → AllLeaves P C (block_of names bytes top enter.name (text_of bytes (Around enter kids exit)) kids inner) → Fact (Around enter kids exit)
      pub holder : (top : Bool) (enter exit : Event) (kids : Nodes) (inner : page.Blocks) → is_listed holder_names enter.name ≡ true
          → AllLeaves P C (block_of names bytes top enter.name (text_of bytes (Around enter kids exit)) kids inner) → AllHave kids
          → Fact (Around enter kids exit)

    -- what stands between is a part, too
    quiet_parts : (xs : List Name) → list_all (is_quiet Plain) xs ≡ true → list_all (is_part is_quiet leaf_names Plain) xs ≡ true
    quiet_parts [] all = refl
    quiet_parts (x ∷ xs) all =
        let parts = and_parts (is_quiet Plain x) (list_all (is_quiet Plain) xs) all in
        ap (λ (b : Bool). b && list_all (is_part is_quiet leaf_names Plain) xs)
        (or_left (is_quiet Plain x) (is_listed leaf_names x || is_listed holder_names x) parts.0)
        ∙ quiet_parts xs parts.1

    -- the blocks in a holder are those that it spells
    held_leaves : (name : Name) (top : Bool) (text : List ℕ) (kids : Nodes) (inner : page.Blocks) → is_listed holder_names name ≡ true
        → AllLeaves P C (block_of names bytes top name text kids inner) → AllLeaves P C inner
    held_leaves n.BlockQuote top text kids inner listed all = all.0.1
    held_leaves n.ListItem top text kids inner listed all = all.0.1
    held_leaves n.GfmFootnoteDefinition top text kids inner listed all = all.0.1
    held_leaves n.ListUnordered top text kids inner listed all = all.0.1
    held_leaves n.ListOrdered top text kids inner listed all = all.0.1
    held_leaves name top text kids inner listed all = absurd (true≢false (sym listed))

    -- the blocks in a node, and those that it spells
    abbrev inner : Node → page.Blocks
    inner node = blocks_from names bytes (start_of (node_name node)) (kids_of node)

    abbrev own : Bool → Node → page.Blocks
    own top node = block_of names bytes top (node_name node) (text_of bytes node) (kids_of node) (inner node)

    -- a child before the first of a name
    record Skipped (around : Between) (slots : List Slot) (node : Node) (ns : Nodes) : Type 0 where
      fact : Fact node
      left : ends (left_by around slots ns) ≡ true

    module _ (facts : Facts) where
      part_step : (around : Between) (slots : List Slot) (node : Node) (ns : Nodes) → row_passes (is_part is_quiet leaf_names) slots ≡ true
          → ends (left_by around slots (Cons node ns)) ≡ true → Step (is_part is_quiet leaf_names) around node ns
      part_step = step (is_part is_quiet leaf_names) (quiet_parts space_names facts.spaces) (quiet_parts line_names facts.lines)

      skipped : (around : Between) (slots : List Slot) (node : Node) (ns : Nodes) → (t : Option Taken) → t ≡ None
          → ends (left_after t slots (stands_between around (node_name node)) (λ form. is_filled around form node) (λ rest. left_by around rest ns)) ≡ true
          → Skipped around slots node ns
      skipped around slots node ns (Some t) none e = absurd (let k : Some t ≡ None = none in cc)
      skipped around slots node ns None none e =
          if_ends (Skipped around slots node ns) (stands_between around (node_name node) && is_filled around Plain node) (left_by around slots ns) ends refl
          (λ both left.
          let parts = and_parts (stands_between around (node_name node)) (is_filled around Plain node) both in
          record {
            fact = facts.quiet around Plain node (between_passes (is_quiet Plain) facts.spaces facts.lines around (node_name node) parts.0) parts.1;
            left = left;
          }) e

      mutual
        has_fact : (around : Between) (form : Form) (top : Bool) (node : Node) → is_part is_quiet leaf_names form (node_name node) ≡ true
            → is_filled around form node ≡ true → AllLeaves P C (own top node) → Fact node
        has_fact around form top (Around enter kids exit) part filled all =
            elim (or_cases (is_quiet form enter.name) (is_listed leaf_names enter.name || is_listed holder_names enter.name) part) [
              | inl quiet ↦ facts.quiet around form (Around enter kids exit) quiet filled
              | inr other ↦
                  elim (or_cases (is_listed leaf_names enter.name) (is_listed holder_names enter.name) other) [
                    | inl listed ↦ facts.leaf around form top enter exit kids (inner (Around enter kids exit)) listed filled all
                    | inr listed ↦
                        facts.holder top enter exit kids (inner (Around enter kids exit)) listed all
                        (from_have (between_of (row enter.name form) around enter.name) (start_of enter.name) (row enter.name form) kids
                        (begins_its_row enter.name form listed) (facts.rows enter.name form listed) filled
                        (held_leaves enter.name top (text_of bytes (Around enter kids exit)) kids (inner (Around enter kids exit)) listed all))
                  ]
            ]

        -- blocks, at the top or in a holder
        pub all_have : (around : Between) (slots : List Slot) (top : Bool) (ns : Nodes) → row_passes (is_part is_quiet leaf_names) slots ≡ true
            → ends (left_by around slots ns) ≡ true → AllLeaves P C (blocks_of names bytes top ns) → AllHave ns
        all_have around slots top Nil passing e all = tt
        all_have around slots top (Cons (Around enter kids exit) ns) passing e all =
            let s = part_step around slots (Around enter kids exit) ns passing e in
            let parts =
            leaves_parts P C (own top (Around enter kids exit))
            (blocks_of names bytes top ns) all in (
              has_fact around s.form top (Around enter kids exit) s.passed s.filled parts.0,
              all_have around s.rest top ns s.passing s.left parts.1,
            )

        -- the children of a holder, before its content begins
        from_have : (around : Between) (start : Name) (slots : List Slot) (ns : Nodes) → begins start slots ≡ true
            → row_passes (is_part is_quiet leaf_names) slots ≡ true → ends (left_by around slots ns) ≡ true
            → AllLeaves P C (blocks_from names bytes start ns) → AllHave ns
        from_have around start slots Nil begun passing e all = tt
        from_have around start slots (Cons (Around enter kids exit) ns) begun passing e all =
            let first = own false (Around enter kids exit) in
            let all_of = join first (blocks_of names bytes false ns) in
            elim (cases_Bool (same_name enter.name start)) [
              | inl same ↦
                  let s = part_step around slots (Around enter kids exit) ns passing e in
                  let parts =
                  leaves_parts P C first (blocks_of names bytes false ns)
                  (subst (AllLeaves P C) (cond-true (same_name enter.name start) all_of (blocks_from names bytes start ns) same) all) in (
                    has_fact around s.form false (Around enter kids exit) s.passed s.filled parts.0,
                    all_have around s.rest false ns s.passing s.left parts.1,
                  )
              | inr apart ↦
                  let s =
                  skipped around slots (Around enter kids exit) ns (take_child slots enter.name) (takes_none enter.name start apart slots begun) e in (
                    s.fact,
                    from_have around start slots ns begun passing s.left
                        (subst (AllLeaves P C) (cond-false (same_name enter.name start) all_of (blocks_from names bytes start ns) apart) all),
                  )
            ]
