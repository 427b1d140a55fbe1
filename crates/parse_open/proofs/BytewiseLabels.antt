-- Nodes by their names at any depth, and labels, with their data cut into bytes.
use Rattle.std.proofs.Common.{◌≡◌, ◌≤◌, ℕ, zero, suc, ◌+◌, ◌-◌, List, [], ◌∷◌, ◌++◌, map, Option, None, Some, take, drop, refl, sym, ap, ap₂, subst, ◌∙◌}
use Rattle.std.proofs.Common.{append_assoc, arith}
use Rattle.parse_open.proofs.Prelude.{append, AreBetween, AreSound, Around, between, byte_node, byte_nodes, bytewise, cond_both, Cons, edge, Event}
use Rattle.parse_open.proofs.Prelude.{if◌then◌else◌, is_listed, is_some, IsSound, Name, named, Nil, Node, Nodes, option_map, own, same_name, spot, Spot}
use Rattle.parse_open.proofs.Prelude.{spot_of}
use Rattle.std.specs.Option.{option_or}
use Rattle.std.proofs.Math.Nat.{sub_self}
use Rattle.std.proofs.Math.Seq.{take-add}
use Rattle.std.proofs.lemmas.List.{drop-drop, map-append}
use Rattle.engine_events.specs.declared.event.Name.TheVariants as n
use Rattle.event_grammar.specs.References.{media_names, own_in, nodes_text, node_text, label_text, own_label}
use Rattle.parse_open.specs.BytewiseLaws.{LabelsAreTheSame}
use Rattle.parse_open.proofs.BytewiseNodes.{kept, by_cases, skipped}
use Rattle.parse_open.proofs.BytewiseChildren.{some_kept, IsOther, if_no, if_same, not_data, AllSound, IsFoundSound}
use Rattle.parse_open.proofs.BytewiseStrings.{bytes_on, next_byte, data_bytes}

-- ---- all nodes of a name

pub named_same : (name : Name) → IsOther name → (ns : Nodes) → AreSound ns → named name (bytewise ns) ≡ map kept (named name ns)
named_same name other Nil f = refl
named_same name other (Cons (Around enter kids exit) ns) f =
    let here = if same_name enter.name name then Around enter kids exit ∷ named name kids else named name kids in
    by_cases (λ ms. named name ms ≡ map kept (here ++ named name ns)) enter kids exit ns f.0
    (λ k is none far. skipped (named name) (λ i ms. ap (λ found. found ++ named name ms) (if_no (same_name n.Data name) (byte_node i ∷ []) [] other))
    _ k (bytewise ns)
    ∙ named_same name other ns f.1
    ∙ sym (ap (λ found. map kept (found ++ named name ns))
    (not_data name enter.name (Around enter kids exit ∷ named name kids) (named name kids) is other ∙ ap (named name) none)))
    (ap₂ (λ front back. front ++ back)
    (if_same (map kept) (same_name enter.name name) (Around enter (bytewise kids) exit ∷ named name (bytewise kids)) (named name (bytewise kids))
    (Around enter kids exit ∷ named name kids) (named name kids)
    (ap (λ found. Around enter (bytewise kids) exit ∷ found) (named_same name other kids f.0.1)) (named_same name other kids f.0.1))
    (named_same name other ns f.1)
    ∙ sym (map-append kept here (named name ns)))

both_sound : (front back : List Node) → AllSound front → AllSound back → AllSound (front ++ back)
both_sound [] back f g = g
both_sound (node ∷ front) back f g = (f.0, both_sound front back f.1 g)

pub named_sound : (name : Name) (ns : Nodes) → AreSound ns → AllSound (named name ns)
named_sound name Nil f = tt
named_sound name (Cons (Around enter kids exit) ns) f =
    both_sound _ (named name ns)
    (cond_both (same_name enter.name name) (Around enter kids exit ∷ named name kids) (named name kids) AllSound
    (λ _. (f.0, named_sound name kids f.0.1)) (λ _. named_sound name kids f.0.1))
    (named_sound name ns f.1)

-- ---- the first node of a name that is in no other link

or_kept : (first second : Option Node) → option_or (option_map kept first) (option_map kept second) ≡ option_map kept (option_or first second)
or_kept None second = refl
or_kept (Some node) second = refl

pub own_same : (name : Name) → IsOther name → (ns : Nodes) → AreSound ns → own name (bytewise ns) ≡ option_map kept (own name ns)
own_same name other Nil f = refl
own_same name other (Cons (Around enter kids exit) ns) f =
    let found = if same_name enter.name name then Some (Around enter kids exit) else own name kids in
    by_cases (λ ms. own name ms ≡ option_map kept (own name (Cons (Around enter kids exit) ns))) enter kids exit ns f.0
    (λ k is none far. skipped (own name) (λ i ms. ap (λ o. option_or o (own name ms)) (if_no (same_name n.Data name) (Some (byte_node i)) None other))
    _ k (bytewise ns)
    ∙ own_same name other ns f.1
    ∙ sym (ap (λ o. option_map kept (option_or o (own name ns)))
    (ap (λ a. if is_listed media_names a then None else found) is
    ∙ (not_data name enter.name (Some (Around enter kids exit)) (own name kids) is other ∙ ap (own name) none))))
    (ap₂ option_or
    (if_same (option_map kept) (is_listed media_names enter.name) None
    (if same_name enter.name name then Some (Around enter (bytewise kids) exit) else own name (bytewise kids)) None found refl
    (if_same (option_map kept) (same_name enter.name name) (Some (Around enter (bytewise kids) exit)) (own name (bytewise kids)) (Some (Around enter kids exit))
    (own name kids) refl (own_same name other kids f.0.1)))
    (own_same name other ns f.1)
    ∙ or_kept (own_in name (Around enter kids exit)) (own name ns))

or_sound : (first second : Option Node) → IsFoundSound first → IsFoundSound second → IsFoundSound (option_or first second)
or_sound None second f g = g
or_sound (Some node) second f g = f

pub own_sound : (name : Name) (ns : Nodes) → AreSound ns → IsFoundSound (own name ns)
own_sound name Nil f = tt
own_sound name (Cons (Around enter kids exit) ns) f =
    or_sound (own_in name (Around enter kids exit)) (own name ns)
    (cond_both (is_listed media_names enter.name) None (if same_name enter.name name then Some (Around enter kids exit) else own name kids)
    IsFoundSound (λ _. tt)
    (λ _. cond_both (same_name enter.name name) (Some (Around enter kids exit)) (own name kids) IsFoundSound (λ _. f.0) (λ _. own_sound name kids f.0.1)))
    (own_sound name ns f.1)

-- ---- the text of a label

-- bytes up to an index, and from there on
between_both : (i j k : ℕ) (bytes : List ℕ) → i ≤ j → j ≤ k → between i k bytes ≡ between i j bytes ++ between j k bytes
between_both i j k bytes h g =
    let size : k - i ≡ (j - i) + (k - j) = omega arith in
    let there : i + (j - i) ≡ j = omega arith in
    ap (λ s. take s (drop i bytes)) size
    ∙ take-add (j - i) (k - j) (drop i bytes)
    ∙ ap (λ rest. between i j bytes ++ take (k - j) rest) (drop-drop (j - i) i bytes ∙ ap (λ s. drop s bytes) there)

earlier : (i j : ℕ) (ns : Nodes) (to : ℕ) → i ≤ j → AreBetween j ns to → AreBetween i ns to
earlier i j Nil to h b = omega (arith, h, b)
earlier i j (Cons (Around enter kids exit) ns) to h b = let first = b.0 in (omega (arith, h, first), b.1, b.2)

module _ (bytes : List ℕ) where
  from_edge : (p q : Spot) (ns : Nodes) (to : Spot) → edge p ≡ edge q → nodes_text bytes p ns to ≡ nodes_text bytes q ns to
  from_edge p q Nil to is = ap (λ e. between e (edge to) bytes) is
  from_edge p q (Cons (Around enter kids exit) ns) to is =
      ap (λ e. between e (edge (spot_of enter)) bytes ++ (node_text bytes (Around enter kids exit) ++ nodes_text bytes (spot_of exit) ns to)) is

  none_between : (i : ℕ) → between i i bytes ≡ []
  none_between i = ap (λ k. take k (drop i bytes)) (sub_self i)

  -- the bytes of data, and what comes after these
  text_bytes : (i k : ℕ) (ns : Nodes) (to : Spot)
      → nodes_text bytes (spot i 0) (append (byte_nodes i k) ns) to ≡ bytes_on bytes i k ++ nodes_text bytes (spot (i + k) 0) ns to
  text_bytes i zero ns to = let here : i ≡ i + 0 = omega arith in ap (λ j. nodes_text bytes (spot j 0) ns to) here
  text_bytes i (suc k) ns to =
      let here : (i + 1) + k ≡ i + suc k = omega arith in
      ap₂ (λ none others. none ++ (between i (i + 1) bytes ++ others)) (none_between i) (text_bytes (i + 1) k ns to)
      ∙ sym (append_assoc (between i (i + 1) bytes) (bytes_on bytes (i + 1) k) (nodes_text bytes (spot (i + 1 + k) 0) ns to))
      ∙ ap₂ (λ text j. text ++ nodes_text bytes (spot j 0) ns to) (next_byte bytes i k) here

  -- these bytes, from a spot before them
  text_from : (from : Spot) (i k : ℕ) (ns : Nodes) (to : Spot)
      → nodes_text bytes from (append (byte_nodes i (suc k)) ns) to
      ≡ between (edge from) i bytes ++ (bytes_on bytes i (suc k) ++ nodes_text bytes (spot (i + suc k) 0) ns to)
  text_from from i k ns to =
      let others = between i (i + 1) bytes ++ nodes_text bytes (spot (i + 1) 0) (append (byte_nodes (i + 1) k) ns) to in
      ap (λ text. between (edge from) i bytes ++ text)
      (sym (ap (λ none. none ++ others) (none_between i)) ∙ text_bytes i (suc k) ns to)

  -- these bytes are as they are, from an earlier spot on, too
  text_split : (from next : Spot) (ns : Nodes) (to : Spot) → edge from ≤ edge next → AreBetween (edge next) ns (edge to)
      → nodes_text bytes from ns to ≡ between (edge from) (edge next) bytes ++ nodes_text bytes next ns to
  text_split from next Nil to h b = between_both (edge from) (edge next) (edge to) bytes h b
  text_split from next (Cons (Around enter kids exit) ns) to h b =
      let others = node_text bytes (Around enter kids exit) ++ nodes_text bytes (spot_of exit) ns to in
      ap (λ text. text ++ others) (between_both (edge from) (edge next) (edge (spot_of enter)) bytes h b.0)
      ∙ append_assoc (between (edge from) (edge next) bytes) (between (edge next) (edge (spot_of enter)) bytes) others

  -- data before others, of which this is known
  data_before : (from : Spot) (i k : ℕ) (exit : Spot) (ns : Nodes) (to : Spot) → edge from ≤ i → edge exit ≡ i + k → AreBetween (edge exit) ns (edge to)
      → ((p : Spot) → AreBetween (edge p) ns (edge to) → nodes_text bytes p (bytewise ns) to ≡ nodes_text bytes p ns to)
      → nodes_text bytes from (append (byte_nodes i k) (bytewise ns)) to ≡ between (edge from) i bytes ++ (bytes_on bytes i k ++ nodes_text bytes exit ns to)
  data_before from i zero exit ns to h far b known =
      let here : edge exit ≡ i = far ∙ omega arith in
      let on : edge from ≤ edge exit = omega (arith, h, here) in
      known from (earlier (edge from) (edge exit) ns (edge to) on b)
      ∙ text_split from exit ns to on b
      ∙ ap (λ e. between (edge from) e bytes ++ nodes_text bytes exit ns to) here
  data_before from i (suc k) exit ns to h far b known =
      let next = spot (i + suc k) 0 in
      text_from from i k (bytewise ns) to
      ∙ ap (λ others. between (edge from) i bytes ++ (bytes_on bytes i (suc k) ++ others))
      (known next (subst (λ e. AreBetween e ns (edge to)) far b) ∙ from_edge next exit ns to (sym far))

  data_text : (enter : Event) (kids : Nodes) (exit : Event) (k : ℕ) → enter.name ≡ n.Data → kids ≡ Nil → edge (spot_of exit) ≡ edge (spot_of enter) + k
      → node_text bytes (Around enter kids exit) ≡ bytes_on bytes (edge (spot_of enter)) k
  data_text enter kids exit k is none far =
      ap₂ (λ a ns. if same_name a n.BlockQuotePrefix then [] else nodes_text bytes (spot_of enter) ns (spot_of exit)) is none
      ∙ data_bytes bytes (edge (spot_of enter)) (edge (spot_of exit)) k far

  pub nodes_text_same : (from : Spot) (ns : Nodes) (to : Spot) → AreBetween (edge from) ns (edge to) → AreSound ns
      → nodes_text bytes from (bytewise ns) to ≡ nodes_text bytes from ns to
  nodes_text_same from Nil to b f = refl
  nodes_text_same from (Cons (Around enter kids exit) ns) to b f =
      let front = between (edge from) (edge (spot_of enter)) bytes in
      by_cases (λ ms. nodes_text bytes from ms to ≡ nodes_text bytes from (Cons (Around enter kids exit) ns) to) enter kids exit ns f.0
      (λ k is none far. data_before from (edge (spot_of enter)) k (spot_of exit) ns to b.0 far b.2 (λ p c. nodes_text_same p ns to c f.1)
      ∙ ap (λ text. front ++ (text ++ nodes_text bytes (spot_of exit) ns to)) (sym (data_text enter kids exit k is none far)))
      (ap₂ (λ text others. front ++ ((if same_name enter.name n.BlockQuotePrefix then [] else text) ++ others))
      (nodes_text_same (spot_of enter) kids (spot_of exit) f.0.0.1 f.0.1) (nodes_text_same (spot_of exit) ns to b.2 f.1))

  pub label_same : (node : Node) → IsSound node → label_text bytes (kept node) ≡ label_text bytes node
  label_same (Around enter kids exit) f = nodes_text_same (spot_of enter) kids (spot_of exit) f.0.1 f.1

  label_found : (found : Option Node) → IsFoundSound found → option_map (label_text bytes) (option_map kept found) ≡ option_map (label_text bytes) found
  label_found None f = refl
  label_found (Some node) f = ap Some (label_same node f)

  -- the label of a link, an image or a call
  pub own_label_same : (ns : Nodes) → AreSound ns → own_label bytes (bytewise ns) ≡ own_label bytes ns
  own_label_same ns f =
      let label = λ (name : Name) (other : IsOther name). ap (option_map (label_text bytes)) (own_same name other ns f)
      ∙ label_found (own name ns) (own_sound name ns f) in
      ap (λ b. if b then None else option_or (option_map (label_text bytes) (own n.ReferenceString (bytewise ns)))
      (option_map (label_text bytes) (own n.LabelText (bytewise ns))))
      (ap is_some (own_same n.Resource refl ns f) ∙ some_kept (own n.Resource ns))
      ∙ ap₂ (λ first second. if is_some (own n.Resource ns) then None else option_or first second) (label n.ReferenceString refl) (label n.LabelText refl)

pub labels_are_the_same : LabelsAreTheSame
labels_are_the_same = λ bytes ns f. own_label_same bytes ns f
