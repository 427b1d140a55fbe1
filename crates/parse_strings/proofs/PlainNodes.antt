-- Nodes that are plain: one after another, in others, and quiet ones.
use Rattle.std.proofs.Common.{inl, inr, ◌≡◌, true, false, ◌||◌, List, [], ◌∷◌, ◌++◌, None, refl, sym, ap, ap₂, subst, ◌∙◌, append_assoc, ℕ, Option, Some}
use Rattle.parse_strings.proofs.Prelude.{append, ArePlain, AreQuiet, Around, cases_Bool, cond-false, cond_both, Cons, cut, End, enter_at, exit_at}
use Rattle.parse_strings.proofs.Prelude.{if◌then◌else◌, is_listed, kids_of, Name, Nil, Node, node_name, Nodes, one, or_parts, same_end, same_name, true≢false}
use Rattle.parse_strings.proofs.Prelude.{void_nodes, ◌&&◌}
use Rattle.std.specs.Option.{option_or}
use denote.Enum.Bare.{false_same, same_false, same_true}
use Rattle.engine_events.specs.contracts.event.Name.{the_type}
use Rattle.engine_events.specs.declared.event.Name.TheVariants as n
use Rattle.event_grammar.specs.References.{media_names, named, named_in, own, own_in}
use Rattle.parse_output.specs.Forest.{bytes_from}
use Rattle.parse_lines.proofs.Quiet.{quiet_own, quiet_named}
use Rattle.parse_strings.specs.Plain.{tail_names}

pub plain_none : ArePlain Nil
plain_none = record { tails = λ name listed. refl; definitions = refl; columns = refl }

option_more : {B : Type 0} (a b c : Option B) → option_or (option_or a b) c ≡ option_or a (option_or b c)
option_more None b c = refl
option_more (Some x) b c = refl

pub own_both : (name : Name) (ns ms : Nodes) → own name (append ns ms) ≡ option_or (own name ns) (own name ms)
own_both name Nil ms = refl
own_both name (Cons node ns) ms =
    ap (option_or (own_in name node)) (own_both name ns ms) ∙ sym (option_more (own_in name node) (own name ns) (own name ms))

pub named_both : (name : Name) (ns ms : Nodes) → named name (append ns ms) ≡ named name ns ++ named name ms
named_both name Nil ms = refl
named_both name (Cons node ns) ms =
    ap (λ (xs : List Node). named_in name node ++ xs) (named_both name ns ms) ∙ sym (append_assoc (named_in name node) (named name ns) (named name ms))

pub plain_both : (ns ms : Nodes) → ArePlain ns → ArePlain ms → ArePlain (append ns ms)
plain_both ns ms first second = record {
  tails = λ name listed. own_both name ns ms ∙ ap₂ option_or (first.tails name listed) (second.tails name listed);
  definitions = named_both n.Definition ns ms ∙ ap₂ (λ (xs ys : List Node). xs ++ ys) first.definitions second.definitions;
  columns = named_both n.GfmTableDelimiterCellValue ns ms ∙ ap₂ (λ (xs ys : List Node). xs ++ ys) first.columns second.columns;
}

-- the first of some names, or one of the others
listed_case : (P : Name → Type 0) (first : Name) (others : List Name) (name : Name) → P first → (is_listed others name ≡ true → P name)
    → is_listed (first ∷ others) name ≡ true → P name
listed_case P first others name here later listed = elim (cases_Bool (same_name first name)) [
  | inl same ↦ subst P (same_true the_type tt first name same) here
  | inr other ↦ later (ap (λ t. t || is_listed others name) (sym other) ∙ listed)
]

-- what is looked for in the children of a link, an image or a call
tail_case : (P : Name → Type 0) → P n.Resource → P n.ReferenceString → P n.ResourceDestinationString → P n.ResourceTitleString → P n.LabelText → (name : Name)
    → is_listed tail_names name ≡ true → P name
tail_case P a b c d e name =
    listed_case P n.Resource (n.ReferenceString ∷ n.ResourceDestinationString ∷ n.ResourceTitleString ∷ n.LabelText ∷ []) name a
    (listed_case P n.ReferenceString (n.ResourceDestinationString ∷ n.ResourceTitleString ∷ n.LabelText ∷ []) name b
    (listed_case P n.ResourceDestinationString (n.ResourceTitleString ∷ n.LabelText ∷ []) name c
    (listed_case P n.ResourceTitleString (n.LabelText ∷ []) name d
    (listed_case P n.LabelText [] name e (λ none. absurd (true≢false (sym none)))))))

pub plain_quiet : (ns : Nodes) → AreQuiet ns → ArePlain ns
plain_quiet ns are = record {
  tails =
      tail_case (λ name. own name ns ≡ None) (quiet_own n.Resource ns refl are) (quiet_own n.ReferenceString ns refl are)
      (quiet_own n.ResourceDestinationString ns refl are) (quiet_own n.ResourceTitleString ns refl are) (quiet_own n.LabelText ns refl are);
  definitions = quiet_named n.Definition ns refl are;
  columns = quiet_named n.GfmTableDelimiterCellValue ns refl are;
}

-- a name that is looked for
abbrev pub sought_names : List Name
sought_names = n.Definition ∷ n.GfmTableDelimiterCellValue ∷ tail_names

own_within : (name : Name) (node : Node) → same_name (node_name node) name ≡ false → own name (kids_of node) ≡ None → own_in name node ≡ None
own_within name (Around enter kids exit) other none =
    cond_both (is_listed media_names enter.name) None _ (λ o. o ≡ None) (λ _. refl) (λ _. cond-false (same_name enter.name name) _ _ other ∙ none)

named_within : (name : Name) (node : Node) → same_name (node_name node) name ≡ false → named name (kids_of node) ≡ [] → named_in name node ≡ []
named_within name (Around enter kids exit) other none = cond-false (same_name enter.name name) _ _ other ∙ none

-- a node of another name that holds plain nodes
pub plain_one : (node : Node) → is_listed sought_names (node_name node) ≡ false → ArePlain (kids_of node) → ArePlain (one node)
plain_one node other kids =
    let parts = or_parts (same_name n.Definition (node_name node)) (is_listed (n.GfmTableDelimiterCellValue ∷ tail_names) (node_name node)) other in
    let more = or_parts (same_name n.GfmTableDelimiterCellValue (node_name node)) (is_listed tail_names (node_name node)) parts.1 in
    record {
      tails = λ name listed.
          let apart : same_name (node_name node) name ≡ false = not_listed name listed more.1 in
          ap (λ o. option_or o None) (own_within name node apart (kids.tails name listed));
      definitions = ap (λ (xs : List Node). xs ++ []) (named_within n.Definition node (turned n.Definition parts.0) kids.definitions);
      columns = ap (λ (xs : List Node). xs ++ []) (named_within n.GfmTableDelimiterCellValue node (turned n.GfmTableDelimiterCellValue more.0) kids.columns);
    }
  where
    not_listed : (name : Name) → is_listed tail_names name ≡ true → is_listed tail_names (node_name node) ≡ false → same_name (node_name node) name ≡ false
    not_listed name listed unlisted = elim (cases_Bool (same_name (node_name node) name)) [
      | inl same ↦ absurd (true≢false (sym listed ∙ ap (is_listed tail_names) (sym (same_true the_type tt (node_name node) name same)) ∙ unlisted))
      | inr apart ↦ apart
    ]

    turned : (name : Name) → same_name name (node_name node) ≡ false → same_name (node_name node) name ≡ false
    turned name apart =
        false_same the_type tt (node_name node) name (λ is. same_false the_type name (node_name node) apart (sym is))

-- what holds no other
pub plain_void : (text : List ℕ) (name : Name) (from to : End) → is_listed sought_names name ≡ false → same_name name n.Data ≡ false
    → ArePlain (void_nodes text name from to)
plain_void text name from to other named =
    let node = Around (enter_at text name from) Nil (exit_at text name to) in
    cond_both (same_end to from) Nil (cut node) ArePlain (λ _. plain_none)
    (λ _.
    subst ArePlain (sym (ap (λ same. if same && true then bytes_from (enter_at text name from) (exit_at text name to) else one node) named))
    (plain_one node other plain_none))
