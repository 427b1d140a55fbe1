-- The text of an event: what it spells, what all its nodes have, and a walk that looks for it.
use Rattle.std.proofs.Common.{◌≡◌, ℕ, Bool, true, false, if◌then◌else◌, List, [], refl, sym, ap, ◌∙◌, subst}
use Rattle.std.proofs.lemmas.Bool.{cond-false, cond-true}
use Rattle.engine_events.specs.Names.{same_name, is_listed}
use Rattle.compile_blocks.proofs.Prelude.{AreNodes, Event, events_of, inlines_of, Names, Nodes}
use Rattle.engine_events.specs.declared.event.Name.TheVariants as n
use Rattle.definition_inline.specs.Inline.{Inlines}
use Rattle.event_grammar.specs.Trees as tree
use Rattle.event_grammar.specs.Trees.{Around, Nil, Cons}
use Rattle.compile_levels.specs.Children.{IsFirstOf}
use Rattle.compile_levels.specs.Siblings.{Reads}
use Rattle.compile_levels.specs.declared.node.Node.{Node}
use Rattle.event_meaning.specs.Texts.{text_names, text_within}
use Rattle.compile_raw.specs.Sound.{AreSound}
use Rattle.compile_blocks.specs.Texts.{text_kids}
use Rattle.compile_raw.proofs.Sound.{none_sound, first_sound, inner_sound}

-- either of two texts, or the nodes themselves
chosen : (f : Nodes → Inlines) (b c : Bool) (kids inner outer : Nodes) (x y : Inlines) → x ≡ f inner → y ≡ f outer
    → (if b then f kids else (if c then x else y)) ≡ f (if b then kids else (if c then inner else outer))
chosen f true c kids inner outer x y h k = refl
chosen f false true kids inner outer x y h k = h
chosen f false false kids inner outer x y h k = k

module _ (names : Names) (bytes : List ℕ) (linked : Bool) where
  -- the text of an event spells what these nodes spell
  pub text_law : (ns : Nodes) → text_within names bytes linked ns ≡ inlines_of names bytes linked (text_kids ns)
  text_law Nil = refl
  text_law (Cons (Around enter kids exit) ns) =
      chosen (inlines_of names bytes linked) (is_listed text_names enter.name) (same_name enter.name n.Label) kids (text_kids kids) (text_kids ns)
      (text_within names bytes linked kids) (text_within names bytes linked ns) (text_law kids) (text_law ns)

-- what all nodes have, the nodes of the text have
choose : (P : Nodes → Type 0) (b c : Bool) (kids inner outer : Nodes) → P kids → P inner → P outer → P (if b then kids else (if c then inner else outer))
choose P true c kids inner outer h i o = h
choose P false true kids inner outer h i o = i
choose P false false kids inner outer h i o = o

pub text_has : (P : Nodes → Type 0) → P Nil → ((enter exit : Event) (kids ns : Nodes) → P (Cons (Around enter kids exit) ns) → P kids × P ns)
    → (ns : Nodes) → P ns → P (text_kids ns)
text_has P nil parts Nil h = nil
text_has P nil parts (Cons (Around enter kids exit) ns) h =
    let h2 = parts enter exit kids ns h in
    choose P (is_listed text_names enter.name) (same_name enter.name n.Label) kids (text_kids kids) (text_kids ns) h2.0
    (text_has P nil parts kids h2.0) (text_has P nil parts ns h2.1)

pub text_sound : (bytes : List ℕ) (ns : Nodes) → AreSound bytes ns → AreSound bytes (text_kids ns)
text_sound bytes ns h =
    text_has (AreSound bytes) (none_sound bytes)
    (λ enter exit kids ns h. let k = first_sound bytes (Around enter kids exit) ns h in (inner_sound bytes (Around enter kids exit) k.0, k.1)) ns h

-- ---- a walk over siblings that looks for the text

-- the text of these nodes is that of those whose events are left
pub record TextLeft (ns : Nodes) (rest : List Event) : Type 0 where
  pub left : Nodes
  pub are : AreNodes left
  pub events : rest ≡ events_of left
  pub same : text_kids left ≡ text_kids ns

-- the first holds the text
found_by : (first : tree.Node) (others : Nodes) (node : Node) → Reads node first → is_listed text_names node.name ≡ true
    → node.inside.now ≡ events_of (text_kids (Cons first others))
found_by (Around enter kids exit) others node h held =
    h.3
    ∙ sym (ap events_of (cond-true (is_listed text_names enter.name) kids (if same_name enter.name n.Label then text_kids kids else text_kids others)
    (ap (is_listed text_names) (sym h.0) ∙ held)))

pub text_found : (ns : Nodes) (rest : List Event) (t : TextLeft ns rest) (node : Node) (after : List Event) → IsFirstOf t.left node after
    → is_listed text_names node.name ≡ true → node.inside.now ≡ events_of (text_kids ns)
text_found ns rest t node after f held = found_by f.first f.others node f.reads held ∙ ap events_of (sym (ap text_kids f.nodes) ∙ t.same)

-- or it is a label, which holds it
label_by : (first : tree.Node) (others : Nodes) (node : Node) → AreNodes (Cons first others) → Reads node first → is_listed text_names node.name ≡ false
    → same_name node.name n.Label ≡ true → TextLeft (Cons first others) node.inside.now
label_by (Around enter kids exit) others node k h other within =
    let inner = if same_name enter.name n.Label then text_kids kids else text_kids others in
    record {
      left = kids;
      are = k.0.3;
      events = h.3;
      same =
          sym (cond-false (is_listed text_names enter.name) kids inner (ap (is_listed text_names) (sym h.0) ∙ other)
          ∙ cond-true (same_name enter.name n.Label) (text_kids kids) (text_kids others) (ap (λ name. same_name name n.Label) (sym h.0) ∙ within));
    }

-- or one of the others does
others_by : (first : tree.Node) (others : Nodes) (node : Node) → Reads node first → is_listed text_names node.name ≡ false
    → same_name node.name n.Label ≡ false → text_kids others ≡ text_kids (Cons first others)
others_by (Around enter kids exit) others node h other outside =
    let inner = if same_name enter.name n.Label then text_kids kids else text_kids others in
    sym (cond-false (is_listed text_names enter.name) kids inner (ap (is_listed text_names) (sym h.0) ∙ other)
    ∙ cond-false (same_name enter.name n.Label) (text_kids kids) (text_kids others) (ap (λ name. same_name name n.Label) (sym h.0) ∙ outside))

left_later : (ns ks : Nodes) (rest : List Event) → text_kids ks ≡ text_kids ns → TextLeft ks rest → TextLeft ns rest
left_later ns ks rest e t = record { left = t.left; are = t.are; events = t.events; same = t.same ∙ e }

pub text_in_label : (ns : Nodes) (rest : List Event) (t : TextLeft ns rest) (node : Node) (after : List Event) → IsFirstOf t.left node after
    → is_listed text_names node.name ≡ false → same_name node.name n.Label ≡ true → TextLeft ns node.inside.now
text_in_label ns rest t node after f other within =
    let are : AreNodes (Cons f.first f.others) = subst AreNodes f.nodes t.are in
    left_later ns (Cons f.first f.others) node.inside.now (sym (ap text_kids f.nodes) ∙ t.same) (label_by f.first f.others node are f.reads other within)

pub text_after : (ns : Nodes) (rest : List Event) (t : TextLeft ns rest) (node : Node) (after : List Event) → IsFirstOf t.left node after
    → is_listed text_names node.name ≡ false → same_name node.name n.Label ≡ false → TextLeft ns after
text_after ns rest t node after f other outside =
    let are : AreNodes (Cons f.first f.others) = subst AreNodes f.nodes t.are in
    record {
      left = f.others;
      are = are.1;
      events = f.rest;
      same = others_by f.first f.others node f.reads other outside ∙ sym (ap text_kids f.nodes) ∙ t.same;
    }

pub no_text : (ns : Nodes) (rest : List Event) (t : TextLeft ns rest) → t.left ≡ Nil → [] ≡ events_of (text_kids ns)
no_text ns rest t e = ap (λ (x : Nodes). events_of (text_kids x)) (sym e) ∙ ap events_of t.same
