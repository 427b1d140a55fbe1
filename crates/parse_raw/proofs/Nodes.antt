-- Nodes in which there is no definition, and of which none is a fence.
use Rattle.std.proofs.Common.{◌≡◌, ℕ, Bool, true, false, cond, ◌&&◌, List, [], ◌∷◌, ◌++◌, None, Some, inl, inr, refl, sym, ap, ap₂, subst, ◌∙◌, append_assoc}
use Rattle.parse_raw.proofs.Prelude.{after_child, append, AreRaw, Around, before_child, cases_Bool, child, cond-false, cond-true, Cons, cut, End, ends_in}
use Rattle.parse_raw.proofs.Prelude.{enter_at, exit_at, kids_of, Name, named, Nil, Node, node_name, Nodes, one, raw_part, raw_parts, RawPart, same_end}
use Rattle.parse_raw.proofs.Prelude.{same_name, void_nodes}
use Rattle.engine_events.specs.declared.event.Name.TheVariants as n
use Rattle.markdown_options.specs.declared.configuration.Constructs.{Constructs}
use Rattle.engine_events.specs.Names.{is_listed}
use Rattle.definition_inline.specs.CharacterReference.{Names}
use Rattle.event_grammar.specs.References.{named_in}
use Rattle.parse_lines.specs.Quiet.{AreOfPrefix, AreQuiet, IsQuiet}
use Rattle.parse_references.specs.Sound.{AreSound, asked_names}
use Rattle.parse_references.proofs.Sound.{asks_nothing}
pub use Rattle.parse_raw.specs.RawLines.{IsRawName}

-- ---- one after another

pub named_append : (name : Name) (ns ms : Nodes) → named name (append ns ms) ≡ named name ns ++ named name ms
named_append name Nil ms = refl
named_append name (Cons node ns) ms =
    ap (λ others. named_in name node ++ others) (named_append name ns ms) ∙ sym (append_assoc (named_in name node) (named name ns) (named name ms))

child_cons : (name : Name) (node : Node) (ns : Nodes) → child name (Cons node ns) ≡ None
    → (same_name (node_name node) name ≡ false) × (child name ns ≡ None)
child_cons name node ns none =
    elim (cases_Bool (same_name (node_name node) name)) [
      | inl h ↦ let is = sym (cond-true (same_name (node_name node) name) (Some node) (child name ns) h) ∙ none in absurd (cc)
      | inr h ↦ (h, sym (cond-false (same_name (node_name node) name) (Some node) (child name ns) h) ∙ none)
    ]

pub child_append : (name : Name) (ns ms : Nodes) → child name ns ≡ None → child name (append ns ms) ≡ child name ms
child_append name Nil ms none = refl
child_append name (Cons node ns) ms none =
    let parts = child_cons name node ns none in
    cond-false (same_name (node_name node) name) _ _ parts.0 ∙ child_append name ns ms parts.1

pub raw_append : (ns ms : Nodes) → AreRaw ns → AreRaw ms → AreRaw (append ns ms)
raw_append ns ms a b = record {
  definitions = named_append n.Definition ns ms ∙ ap₂ (λ (x y : List Node). x ++ y) a.definitions b.definitions;
  code = child_append n.CodeFencedFence ns ms a.code ∙ b.code;
  math = child_append n.MathFlowFence ns ms a.math ∙ b.math;
}

pub raw_none : AreRaw Nil
raw_none = record { definitions = refl; code = refl; math = refl }

-- ---- around a first one of a name

pub after_append : (name : Name) (ns ms : Nodes) → child name ns ≡ None → after_child name (append ns ms) ≡ after_child name ms
after_append name Nil ms none = refl
after_append name (Cons node ns) ms none =
    let parts = child_cons name node ns none in
    cond-false (same_name (node_name node) name) _ _ parts.0 ∙ after_append name ns ms parts.1

pub before_append : (name : Name) (ns ms : Nodes) → child name ns ≡ None → before_child name (append ns ms) ≡ append ns (before_child name ms)
before_append name Nil ms none = refl
before_append name (Cons node ns) ms none =
    let parts = child_cons name node ns none in
    cond-false (same_name (node_name node) name) _ _ parts.0 ∙ ap (Cons node) (before_append name ns ms parts.1)

pub before_none : (name : Name) (ns : Nodes) → child name ns ≡ None → before_child name ns ≡ ns
before_none name Nil none = refl
before_none name (Cons node ns) none =
    let parts = child_cons name node ns none in
    cond-false (same_name (node_name node) name) _ _ parts.0 ∙ ap (Cons node) (before_none name ns parts.1)

pub ends_append : (name : Name) (before : Bool) (ns ms : Nodes) → ends_in name before (append ns ms) ≡ ends_in name (ends_in name before ns) ms
ends_append name before Nil ms = refl
ends_append name before (Cons node ns) ms = ends_append name (same_name (node_name node) name) ns ms

-- ---- what holds no other

-- it is one node, or none
pub void_cases : (P : Nodes → Type 0) (text : List ℕ) (name : Name) (from to : End) → same_name name n.Data ≡ false
    → (same_end to from ≡ true → P Nil) → (same_end to from ≡ false → P (one (Around (enter_at text name from) Nil (exit_at text name to))))
    → P (void_nodes text name from to)
void_cases P text name from to other none some =
    let node = Around (enter_at text name from) Nil (exit_at text name to) in
    let whole : cut node ≡ one node = cond-false (same_name name n.Data && true) _ _ (ap (λ same. same && true) other) in
    elim (cases_Bool (same_end to from)) [
      | inl h ↦ subst P (sym (cond-true (same_end to from) Nil (cut node) h)) (none h)
      | inr h ↦ subst P (sym (cond-false (same_end to from) Nil (cut node) h ∙ whole)) (some h)
    ]

pub raw_void : (text : List ℕ) (name : Name) (from to : End) → IsRawName name → AreRaw (void_nodes text name from to)
raw_void text name from to is =
    void_cases AreRaw text name from to is.no_data (λ h. raw_none)
    (λ h. record {
      definitions = ap (λ (same : Bool). cond same (Around (enter_at text name from) Nil (exit_at text name to) ∷ []) [] ++ []) is.no_definition;
      code = cond-false (same_name name n.CodeFencedFence) _ _ is.no_code;
      math = cond-false (same_name name n.MathFlowFence) _ _ is.no_math;
    })

-- nothing more is asked of it
pub sound_void : (on : Constructs) (names : Names) (text : List ℕ) (name : Name) (from to : End) → same_name name n.Data ≡ false
    → is_listed asked_names name ≡ false → AreSound on names text (void_nodes text name from to)
sound_void on names text name from to other unasked =
    void_cases (AreSound on names text) text name from to other (λ h. tt)
    (λ h. ((asks_nothing on names text name Nil unasked, tt), tt))

void_definition : (node : Node) (name : Name) → node_name node ≡ name → kids_of node ≡ Nil → same_name name n.Definition ≡ false → named_in n.Definition node ≡ []
void_definition (Around enter kids exit) name is none other =
    cond-false (same_name enter.name n.Definition) _ _ (ap (λ (x : Name). same_name x n.Definition) is ∙ other) ∙ ap (named n.Definition) none

pub raw_one : (node : Node) (name : Name) → node_name node ≡ name → kids_of node ≡ Nil → IsRawName name → AreRaw (one node)
raw_one node name is none raw = record {
  definitions = ap (λ (ns : List Node). ns ++ []) (void_definition node name is none raw.no_definition);
  code = cond-false (same_name (node_name node) n.CodeFencedFence) _ _ (ap (λ (x : Name). same_name x n.CodeFencedFence) is ∙ raw.no_code);
  math = cond-false (same_name (node_name node) n.MathFlowFence) _ _ (ap (λ (x : Name). same_name x n.MathFlowFence) is ∙ raw.no_math);
}

-- ---- what spells nothing

of_prefix : (ns : Nodes) → AreOfPrefix ns → named n.Definition ns ≡ []
of_prefix Nil are = refl
of_prefix (Cons (Around enter kids exit) ns) are =
    ap₂ (λ (x y : List Node). x ++ y) (elim are.0 [
      | inl h ↦ void_definition (Around enter kids exit) n.BlockQuoteMarker h.0 h.1 refl
      | inr h ↦ void_definition (Around enter kids exit) n.SpaceOrTab h.0 h.1 refl
    ]) (of_prefix ns are.1)

quiet_definition : (node : Node) → IsQuiet node → named_in n.Definition node ≡ []
quiet_definition node (inl h) = void_definition node n.SpaceOrTab h.0 h.1 refl
quiet_definition (Around enter kids exit) (inr h) =
    cond-false (same_name enter.name n.Definition) _ _ (ap (λ (x : Name). same_name x n.Definition) h.0) ∙ of_prefix kids h.1

quiet_name : (name : Name) (node : Node) → IsQuiet node → same_name n.SpaceOrTab name ≡ false → same_name n.BlockQuotePrefix name ≡ false
    → same_name (node_name node) name ≡ false
quiet_name name node (inl h) space prefix = ap (λ (x : Name). same_name x name) h.0 ∙ space
quiet_name name node (inr h) space prefix = ap (λ (x : Name). same_name x name) h.0 ∙ prefix

quiet_child : (name : Name) (ns : Nodes) → AreQuiet ns → same_name n.SpaceOrTab name ≡ false → same_name n.BlockQuotePrefix name ≡ false → child name ns ≡ None
quiet_child name Nil are space prefix = refl
quiet_child name (Cons node ns) are space prefix =
    cond-false (same_name (node_name node) name) _ _ (quiet_name name node are.0 space prefix) ∙ quiet_child name ns are.1 space prefix

pub quiet_definitions : (ns : Nodes) → AreQuiet ns → named n.Definition ns ≡ []
quiet_definitions Nil are = refl
quiet_definitions (Cons node ns) are = ap₂ (λ (x y : List Node). x ++ y) (quiet_definition node are.0) (quiet_definitions ns are.1)

pub raw_quiet : (ns : Nodes) → AreQuiet ns → AreRaw ns
raw_quiet ns are = record {
  definitions = quiet_definitions ns are;
  code = quiet_child n.CodeFencedFence ns are refl refl;
  math = quiet_child n.MathFlowFence ns are refl refl;
}

quiet_part : (text : List ℕ) (node : Node) → IsQuiet node → raw_part text (node_name node) node ≡ []
quiet_part text node (inl h) = ap (λ (x : Name). raw_part text x node) h.0
quiet_part text node (inr h) = ap (λ (x : Name). raw_part text x node) h.0

-- they are no parts of a raw block
pub quiet_parts : (text : List ℕ) (ns : Nodes) → AreQuiet ns → raw_parts text ns ≡ []
quiet_parts text Nil are = refl
quiet_parts text (Cons node ns) are = ap₂ (λ (x y : List RawPart). x ++ y) (quiet_part text node are.0) (quiet_parts text ns are.1)

pub raw_parts_append : (text : List ℕ) (ns ms : Nodes) → raw_parts text (append ns ms) ≡ raw_parts text ns ++ raw_parts text ms
raw_parts_append text Nil ms = refl
raw_parts_append text (Cons node ns) ms =
    ap (λ (others : List RawPart). raw_part text (node_name node) node ++ others) (raw_parts_append text ns ms)
    ∙ sym (append_assoc (raw_part text (node_name node) node) (raw_parts text ns) (raw_parts text ms))
