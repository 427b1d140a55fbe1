-- Nodes whose data is cut into bytes, by cases: data, or a node that is kept.
use Rattle.std.proofs.Common.{◌≡◌, ◌≤◌, ◌+◌, ◌-◌, ◌&&◌, ℕ, zero, suc, true, refl, subst, ◌∙◌, arith}
use Rattle.parse_open.proofs.Prelude.{append, AreBetween, Around, byte_node, byte_nodes, bytewise, cond_both, Cons, edge, Event, IsSound, Nil, Node, Nodes}
use Rattle.parse_open.proofs.Prelude.{same_name, spot_of, the_type}
use Rattle.std.proofs.lemmas.Bool.{and_parts}
use denote.Enum.Bare.{same_true}
use Rattle.engine_events.specs.declared.event.Name.TheVariants as n
use Rattle.parse_output.specs.Forest.{is_nil, one, bytes_from, cut}

-- a node with the data in it cut into bytes
abbrev pub kept : Node → Node
kept (Around enter kids exit) = Around enter (bytewise kids) exit

data_name : (enter : Event) → same_name enter.name n.Data ≡ true → enter.name ≡ n.Data
data_name enter h = same_true the_type tt enter.name n.Data h

-- so far on
far_on : (a b : ℕ) → a ≤ b → b ≡ a + (b - a)
far_on a b h = omega (arith, h)

-- data ends where it begins, or after that
pub data_far : (enter : Event) (kids : Nodes) (exit : Event) → IsSound (Around enter kids exit) → kids ≡ Nil
    → edge (spot_of exit) ≡ edge (spot_of enter) + (edge (spot_of exit) - edge (spot_of enter))
data_far enter kids exit f none =
    let from = edge (spot_of enter) in
    let to = edge (spot_of exit) in
    far_on from to (subst (λ ks. AreBetween from ks to) none f.0.1)

-- what holds of a node with its data cut, if it is data and if it is kept
pub by_cut : (P : Nodes → Type 0) (enter : Event) (kids : Nodes) (exit : Event) → IsSound (Around enter kids exit)
    → ((k : ℕ) → enter.name ≡ n.Data → kids ≡ Nil → edge (spot_of exit) ≡ edge (spot_of enter) + k → P (byte_nodes (edge (spot_of enter)) k))
    → P (one (Around enter (bytewise kids) exit))
    → P (cut (Around enter (bytewise kids) exit))
by_cut P enter kids exit f data_case kept_case =
    let from = edge (spot_of enter) in
    let to = edge (spot_of exit) in
    cond_both (same_name enter.name n.Data && is_nil (bytewise kids)) (bytes_from enter exit) (one (Around enter (bytewise kids) exit)) P
    (λ e. let name = data_name enter (and_parts (same_name enter.name n.Data) (is_nil (bytewise kids)) e).0 in
    let none = f.0.0 name in
    data_case (to - from) name none (data_far enter kids exit f none))
    (λ _. kept_case)

-- what holds of nodes with their data cut, where the first is data or is kept
pub by_cases : (P : Nodes → Type 0) (enter : Event) (kids : Nodes) (exit : Event) (ns : Nodes) → IsSound (Around enter kids exit)
    → ((k : ℕ) → enter.name ≡ n.Data → kids ≡ Nil → edge (spot_of exit) ≡ edge (spot_of enter) + k
    → P (append (byte_nodes (edge (spot_of enter)) k) (bytewise ns)))
    → P (Cons (Around enter (bytewise kids) exit) (bytewise ns))
    → P (bytewise (Cons (Around enter kids exit) ns))
by_cases P enter kids exit ns f data_case kept_case = by_cut (λ c. P (append c (bytewise ns))) enter kids exit f data_case kept_case

-- bytes that nothing is said of are passed over
pub skipped : {B : Type 0} (f : Nodes → B) → ((i : ℕ) (ns : Nodes) → f (Cons (byte_node i) ns) ≡ f ns) → (i k : ℕ) (ns : Nodes)
    → f (append (byte_nodes i k) ns) ≡ f ns
skipped f skip i zero ns = refl
skipped f skip i (suc k) ns = skip i (append (byte_nodes (i + 1) k) ns) ∙ skipped f skip (i + 1) k ns
