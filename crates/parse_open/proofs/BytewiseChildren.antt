-- Children by their names, with their data cut into bytes: a name of another event finds the same.
use Rattle.std.proofs.Common.{◌≡◌, ℕ, zero, suc, ◌+◌, Bool, true, false, List, [], ◌∷◌, map, Option, None, Some, refl, sym, ap, subst, ◌∙◌}
use Rattle.parse_open.proofs.Prelude.{after_child, append, AreSound, Around, before_child, byte_node, byte_nodes, bytewise, child, children, cond_both}
use Rattle.parse_open.proofs.Prelude.{Cons, edge, ends_in, HaveNoData, if◌then◌else◌, is_some, IsSound, kids_in, Name, Nil, Node, Nodes, option_map}
use Rattle.parse_open.proofs.Prelude.{same_name, spot_of, text_in}
use Rattle.engine_events.specs.declared.event.Name.TheVariants as n
use Rattle.event_meaning.specs.Children.{inside_of, text_or_none}
use Rattle.parse_open.proofs.BytewiseNodes.{kept, by_cut, by_cases, skipped}

-- a name that isn't that of data
abbrev pub IsOther : Name → Type 0
IsOther name = same_name n.Data name ≡ false

-- what a choice is, by what it is made on
pub if_no : {A : Type 0} (b : Bool) (x y : A) → b ≡ false → (if b then x else y) ≡ y
if_no b x y h = ap (λ c. if c then x else y) h

-- a function of a choice
pub if_same : {A B : Type 0} (g : A → B) (b : Bool) (u v : B) (x y : A) → u ≡ g x → v ≡ g y → (if b then u else v) ≡ g (if b then x else y)
if_same g true u v x y h k = h
if_same g false u v x y h k = k

-- data isn't of another name
pub not_data : {A : Type 0} (name of : Name) (x y : A) → of ≡ n.Data → IsOther name → (if same_name of name then x else y) ≡ y
not_data name of x y is other = if_no (same_name of name) x y (subst (λ a. same_name a name ≡ false) (sym is) other)

-- ---- the first child

pub child_same : (name : Name) → IsOther name → (ns : Nodes) → AreSound ns → child name (bytewise ns) ≡ option_map kept (child name ns)
child_same name other Nil f = refl
child_same name other (Cons (Around enter kids exit) ns) f =
    by_cases (λ ms. child name ms ≡ option_map kept (child name (Cons (Around enter kids exit) ns))) enter kids exit ns f.0
    (λ k is none far. skipped (child name) (λ i ms. if_no (same_name n.Data name) (Some (byte_node i)) (child name ms) other) _ k (bytewise ns)
    ∙ child_same name other ns f.1
    ∙ sym (ap (option_map kept) (not_data name enter.name (Some (Around enter kids exit)) (child name ns) is other)))
    (if_same (option_map kept) (same_name enter.name name) (Some (Around enter (bytewise kids) exit)) (child name (bytewise ns)) (Some (Around enter kids exit))
    (child name ns) refl (child_same name other ns f.1))

inside_kept : (found : Option Node) → inside_of (option_map kept found) ≡ bytewise (inside_of found)
inside_kept None = refl
inside_kept (Some (Around enter kids exit)) = refl

pub kids_same : (name : Name) → IsOther name → (ns : Nodes) → AreSound ns → kids_in name (bytewise ns) ≡ bytewise (kids_in name ns)
kids_same name other ns f = ap inside_of (child_same name other ns f) ∙ inside_kept (child name ns)

pub some_kept : (found : Option Node) → is_some (option_map kept found) ≡ is_some found
some_kept None = refl
some_kept (Some node) = refl

pub has_same : (name : Name) → IsOther name → (ns : Nodes) → AreSound ns → is_some (child name (bytewise ns)) ≡ is_some (child name ns)
has_same name other ns f = ap is_some (child_same name other ns f) ∙ some_kept (child name ns)

-- ---- the children before and after it

pub after_same : (name : Name) → IsOther name → (ns : Nodes) → AreSound ns → after_child name (bytewise ns) ≡ bytewise (after_child name ns)
after_same name other Nil f = refl
after_same name other (Cons (Around enter kids exit) ns) f =
    by_cases (λ ms. after_child name ms ≡ bytewise (after_child name (Cons (Around enter kids exit) ns))) enter kids exit ns f.0
    (λ k is none far. skipped (after_child name) (λ i ms. if_no (same_name n.Data name) ms (after_child name ms) other) _ k (bytewise ns)
    ∙ after_same name other ns f.1
    ∙ sym (ap bytewise (not_data name enter.name ns (after_child name ns) is other)))
    (if_same bytewise (same_name enter.name name) (bytewise ns) (after_child name (bytewise ns)) ns (after_child name ns) refl (after_same name other ns f.1))

before_bytes : (name : Name) → IsOther name → (i k : ℕ) (ns : Nodes)
    → before_child name (append (byte_nodes i k) ns) ≡ append (byte_nodes i k) (before_child name ns)
before_bytes name other i zero ns = refl
before_bytes name other i (suc k) ns =
    if_no (same_name n.Data name) Nil (Cons (byte_node i) (before_child name (append (byte_nodes (i + 1) k) ns))) other
    ∙ ap (Cons (byte_node i)) (before_bytes name other (i + 1) k ns)

pub before_same : (name : Name) → IsOther name → (ns : Nodes) → AreSound ns → before_child name (bytewise ns) ≡ bytewise (before_child name ns)
before_same name other Nil f = refl
before_same name other (Cons (Around enter kids exit) ns) f =
    let front = before_child name ns in
    by_cut (λ c. before_child name (append c (bytewise ns)) ≡ (if same_name enter.name name then Nil else append c (bytewise front))) enter kids exit f.0
    (λ k is none far. before_bytes name other _ k (bytewise ns)
    ∙ ap (append (byte_nodes (edge (spot_of enter)) k)) (before_same name other ns f.1)
    ∙ sym (not_data name enter.name Nil (append (byte_nodes (edge (spot_of enter)) k) (bytewise front)) is other))
    (ap (λ ms. if same_name enter.name name then Nil else Cons (Around enter (bytewise kids) exit) ms) (before_same name other ns f.1))
    ∙ if_same bytewise (same_name enter.name name) Nil (bytewise (Cons (Around enter kids exit) front)) Nil (Cons (Around enter kids exit) front) refl refl

-- ---- all children

pub children_same : (name : Name) → IsOther name → (ns : Nodes) → AreSound ns → children name (bytewise ns) ≡ map kept (children name ns)
children_same name other Nil f = refl
children_same name other (Cons (Around enter kids exit) ns) f =
    by_cases (λ ms. children name ms ≡ map kept (children name (Cons (Around enter kids exit) ns))) enter kids exit ns f.0
    (λ k is none far. skipped (children name) (λ i ms. if_no (same_name n.Data name) (byte_node i ∷ children name ms) (children name ms) other)
    _ k (bytewise ns)
    ∙ children_same name other ns f.1
    ∙ sym (ap (map kept) (not_data name enter.name (Around enter kids exit ∷ children name ns) (children name ns) is other)))
    (if_same (map kept) (same_name enter.name name) (Around enter (bytewise kids) exit ∷ children name (bytewise ns)) (children name (bytewise ns))
    (Around enter kids exit ∷ children name ns) (children name ns)
    (ap (λ found. Around enter (bytewise kids) exit ∷ found) (children_same name other ns f.1)) (children_same name other ns f.1))

-- ---- the last child, where none is data

pub ends_same : (name : Name) (before : Bool) (ns : Nodes) → HaveNoData ns → AreSound ns → ends_in name before (bytewise ns) ≡ ends_in name before ns
ends_same name before Nil h f = refl
ends_same name before (Cons (Around enter kids exit) ns) h f =
    by_cases (λ ms. ends_in name before ms ≡ ends_in name before (Cons (Around enter kids exit) ns)) enter kids exit ns f.0
    (λ k is none far. absurd (h.0 is))
    (ends_same name (same_name enter.name name) ns h.1 f.1)

pub after_none : (name : Name) (ns : Nodes) → HaveNoData ns → HaveNoData (after_child name ns)
after_none name Nil h = tt
after_none name (Cons (Around enter kids exit) ns) h =
    cond_both (same_name enter.name name) ns (after_child name ns) HaveNoData (λ _. h.1) (λ _. after_none name ns h.1)

pub before_none : (name : Name) (ns : Nodes) → HaveNoData ns → HaveNoData (before_child name ns)
before_none name Nil h = tt
before_none name (Cons (Around enter kids exit) ns) h =
    cond_both (same_name enter.name name) Nil (Cons (Around enter kids exit) (before_child name ns)) HaveNoData
    (λ _. tt) (λ _. (h.0, before_none name ns h.1))

-- ---- these are sound

pub kids_sound : (name : Name) (ns : Nodes) → AreSound ns → AreSound (kids_in name ns)
kids_sound name Nil f = tt
kids_sound name (Cons (Around enter kids exit) ns) f =
    cond_both (same_name enter.name name) (Some (Around enter kids exit)) (child name ns) (λ found. AreSound (inside_of found))
    (λ _. f.0.1) (λ _. kids_sound name ns f.1)

pub after_sound : (name : Name) (ns : Nodes) → AreSound ns → AreSound (after_child name ns)
after_sound name Nil f = tt
after_sound name (Cons (Around enter kids exit) ns) f =
    cond_both (same_name enter.name name) ns (after_child name ns) AreSound (λ _. f.1) (λ _. after_sound name ns f.1)

pub before_sound : (name : Name) (ns : Nodes) → AreSound ns → AreSound (before_child name ns)
before_sound name Nil f = tt
before_sound name (Cons (Around enter kids exit) ns) f =
    cond_both (same_name enter.name name) Nil (Cons (Around enter kids exit) (before_child name ns)) AreSound
    (λ _. tt) (λ _. (f.0, before_sound name ns f.1))

-- nodes, each sound
abbrev pub AllSound : List Node → Type 0
AllSound [] = Unit {0}
AllSound (node ∷ nodes) = IsSound node × AllSound nodes

pub children_sound : (name : Name) (ns : Nodes) → AreSound ns → AllSound (children name ns)
children_sound name Nil f = tt
children_sound name (Cons (Around enter kids exit) ns) f =
    cond_both (same_name enter.name name) (Around enter kids exit ∷ children name ns) (children name ns) AllSound
    (λ _. (f.0, children_sound name ns f.1)) (λ _. children_sound name ns f.1)

abbrev pub IsFoundSound : Option Node → Type 0
IsFoundSound None = Unit {0}
IsFoundSound (Some node) = IsSound node

pub child_sound : (name : Name) (ns : Nodes) → AreSound ns → IsFoundSound (child name ns)
child_sound name Nil f = tt
child_sound name (Cons (Around enter kids exit) ns) f =
    cond_both (same_name enter.name name) (Some (Around enter kids exit)) (child name ns) IsFoundSound (λ _. f.0) (λ _. child_sound name ns f.1)

-- ---- bytes

module _ (bytes : List ℕ) where
  text_kept : (found : Option Node) → text_or_none bytes (option_map kept found) ≡ text_or_none bytes found
  text_kept None = refl
  text_kept (Some (Around enter kids exit)) = refl

  pub text_same : (name : Name) → IsOther name → (ns : Nodes) → AreSound ns → text_in bytes name (bytewise ns) ≡ text_in bytes name ns
  text_same name other ns f = ap (text_or_none bytes) (child_same name other ns f) ∙ text_kept (child name ns)
