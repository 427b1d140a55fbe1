-- The nodes of raw text, and what they spell (CommonMark 6.1 and 6.6).
use Rattle.std.proofs.Common.{inl, inr, ◌≡◌, ℕ, zero, suc, ◌+◌, ◌-◌, ◌<◌, true, false, ◌&&◌, List, [], ◌∷◌, ◌++◌, refl, sym, ap, ap₂, ◌∙◌, map}
use Rattle.std.proofs.Common.{append_assoc, arith}
use Rattle.parse_inline.proofs.Prelude.{after_bytes, after_tab, append, AreNamed, Around, cases_Bool, cases_lt, code_of, code_part, code_parts, code_space}
use Rattle.parse_inline.proofs.Prelude.{cond-false, cond-true, Cons, cut, Each, End, end_after, end_at, ends_line, enter_at, exit_at, html_part, html_parts}
use Rattle.parse_inline.proofs.Prelude.{if◌then◌else◌, is_listed, IsInLine, Name, Names, nat_tests, Nil, Node, node_name, Nodes, one, same_end, same_name}
use Rattle.parse_inline.proofs.Prelude.{text_of, the_type, true≢false, void_nodes, without_padding, ◌==◌}
use denote.Enum.Bare.{same_true, true_same}
use Rattle.engine_events.specs.declared.event.Name.TheVariants as n
use Rattle.parse_output.specs.Forest.{bytes_from}
use Rattle.event_meaning.specs.Children.{after_child, before_child}
use Rattle.event_meaning.specs.Texts as texts
use Rattle.parse_lines.proofs.Ahead.{after_columns}
use Rattle.parse_inline.proofs.LeavesAlike.{append_append}

pub named_both : (names : List Name) (ns ms : Nodes) → AreNamed names ns → AreNamed names ms → AreNamed names (append ns ms)
named_both names Nil ms first second = second
named_both names (Cons node ns) ms first second = (first.0, named_both names ns ms first.1 second)

-- a name that isn't listed is another
other_name : (names : List Name) (a b : Name) → is_listed names a ≡ true → is_listed names b ≡ false → same_name a b ≡ false
other_name names a b listed unlisted = elim (cases_Bool (same_name a b)) [
  | inl same ↦ absurd (true≢false (sym listed ∙ ap (is_listed names) (same_true the_type tt a b same) ∙ unlisted))
  | inr other ↦ other
]

-- the nodes before one of a name that none of them has
before_first : (names : List Name) (name : Name) (node : Node) (ns : Nodes) → AreNamed names ns → is_listed names name ≡ false → node_name node ≡ name
    → before_child name (append ns (one node)) ≡ ns
before_first names name node Nil are unlisted is =
    cond-true (same_name (node_name node) name) Nil (Cons node Nil) (true_same the_type (node_name node) name is)
before_first names name node (Cons first ns) are unlisted is =
    cond-false (same_name (node_name first) name) Nil (Cons first (before_child name (append ns (one node))))
    (other_name names (node_name first) name are.0 unlisted)
    ∙ ap (Cons first) (before_first names name node ns are.1 unlisted is)

module _ (names : Names) (text : List ℕ) where
  pub code_append : (ns ms : Nodes) → code_parts names text (append ns ms) ≡ code_parts names text ns ++ code_parts names text ms
  code_append Nil ms = refl
  code_append (Cons node ns) ms =
      let here = code_part names text (node_name node) node in
      ap (λ xs. here ++ xs) (code_append ns ms) ∙ sym (append_assoc here (code_parts names text ns) (code_parts names text ms))

  pub html_append : (ns ms : Nodes) → html_parts names text (append ns ms) ≡ texts.append (html_parts names text ns) (html_parts names text ms)
  html_append Nil ms = refl
  html_append (Cons node ns) ms =
      let here = html_part names text (node_name node) (text_of text node) in
      ap (texts.append here) (html_append ns ms) ∙ sym (append_append here (html_parts names text ns) (html_parts names text ms))

  -- the text of code between two sequences
  pub code_between : (others : List Name) (sequence : Name) (first last : Node) (ns : Nodes) → AreNamed others ns → is_listed others sequence ≡ false
      → node_name first ≡ sequence → node_name last ≡ sequence
      → code_of names text sequence (append (one first) (append ns (one last))) ≡ without_padding (code_parts names text ns)
  code_between others sequence first last ns are unlisted is_first is_last =
      let kids = append ns (one last) in
      ap (λ ms. without_padding (code_parts names text (before_child sequence ms)))
      (cond-true (same_name (node_name first) sequence) kids (after_child sequence kids) (true_same the_type (node_name first) sequence is_first))
      ∙ ap (λ ms. without_padding (code_parts names text ms)) (before_first others sequence last ns are unlisted is_last)

-- ---- bytes of a line as codes

code_same : (b : ℕ) → b < 256 → ends_line b ≡ false → code_space b ≡ b
code_same b small inline = grind (arith, nat_tests)

pub codes_same : (bs : List ℕ) → Each (λ b. b < 256) bs → IsInLine bs → map code_space bs ≡ bs
codes_same [] small inline = refl
codes_same (b ∷ bs) small inline = ap₂ (λ c cs. c ∷ cs) (code_same b small.0 inline.0) (codes_same bs small.1 inline.1)

-- ---- tokens

-- an end after some bytes is another
pub moved : (index owed size : ℕ) → 0 < size → same_end (end_after (end_at index owed) size) (end_at index owed) ≡ false
moved index zero size some =
    let apart : ((index + size) == index) ≡ false = grind (arith, nat_tests) in
    ap (λ e. same_end e (end_at index 0)) (after_bytes index size) ∙ ap (λ t. t && (0 == 0)) apart
moved index (suc owed) size some = elim (cases_lt size (suc owed)) [
  | inl within ↦
      let apart : ((suc owed - size) == suc owed) ≡ false = grind (arith, nat_tests) in
      let here : (index == index) ≡ true = grind (arith, nat_tests) in
      ap (λ e. same_end e (end_at index (suc owed))) (after_columns index (suc owed) size within) ∙ ap₂ (λ s t. s && t) here apart
  | inr beyond ↦
      let apart : ((index + 1 + (size - suc owed)) == index) ≡ false = grind (arith, nat_tests) in
      ap (λ e. same_end e (end_at index (suc owed))) (after_tab index (suc owed) size (omega arith) beyond) ∙ ap (λ t. t && (0 == suc owed)) apart
]

-- a token of some size is a node
pub void_some : (text : List ℕ) (name : Name) (e : End) (size : ℕ) → 0 < size → same_name name n.Data ≡ false
    → void_nodes text name e (end_after e size) ≡ one (Around (enter_at text name e) Nil (exit_at text name (end_after e size)))
void_some text name e size some other =
    let node = Around (enter_at text name e) Nil (exit_at text name (end_after e size)) in
    cond-false (same_end (end_after e size) e) Nil (cut node) (moved e.index e.owed size some)
    ∙ ap (λ same. if same && true then bytes_from (enter_at text name e) (exit_at text name (end_after e size)) else one node) other
