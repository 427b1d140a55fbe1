-- A walk over siblings that prints them one by one.
use Rattle.std.proofs.Common.{◌≡◌, ◌||◌, ℕ, Bool, false, List, [], ◌++◌, refl, sym, ap, ◌∙◌, subst}
use Rattle.compile_raw.proofs.Prelude.{add_add, add_nil, AreSound, code_of, CodePart, Cons, Event, events_of, has_any, IsSound, LayoutState, lines_behind, Nil}
use Rattle.compile_raw.proofs.Prelude.{node_name, Nodes, part_bytes, part_view, Passed, passed, raw_part, raw_parts, RawPart, with_bytes}
use Rattle.compile_levels.specs.Children.{IsFirstOf}
use Rattle.compile_levels.specs.declared.node.Node.{Node}
use Rattle.compile_raw.proofs.RawLaid.{lines_on, some_on, line_on, none_behind, or_false}
use Rattle.compile_raw.proofs.Sound.{first_sound}

-- what is printed, and what the siblings that are left print, is the whole
pub record Walked (Are : Nodes → Type 0) (prints : Nodes → List ℕ) (whole : List ℕ) (start now : LayoutState) (rest : List Event) : Type 0 where
  pub nodes : Nodes
  pub are : Are nodes
  pub left : rest ≡ events_of nodes
  pub printed : with_bytes (prints nodes) now ≡ with_bytes whole start

module _ (Are : Nodes → Type 0) (prints : Nodes → List ℕ) where
  pub all_left : (start : LayoutState) (rest : List Event) (ns : Nodes) → Are ns → rest ≡ events_of ns → Walked Are prints (prints ns) start start rest
  all_left start rest ns are e = record { nodes = ns; are = are; left = e; printed = refl }

  module _ (whole : List ℕ) (start now : LayoutState) (rest : List Event) (w : Walked Are prints whole start now rest) where
    pub one_printed : (next : LayoutState) (node : Node) (after : List Event) (f : IsFirstOf w.nodes node after) (part : List ℕ) → Are f.others
        → prints (Cons f.first f.others) ≡ part ++ prints f.others → next ≡ with_bytes part now → Walked Are prints whole start next after
    one_printed next node after f part are both e =
        record {
          nodes = f.others;
          are = are;
          left = f.rest;
          printed =
              ap (with_bytes (prints f.others)) e
              ∙ add_add now part (prints f.others)
              ∙ ap (λ (x : List ℕ). with_bytes x now) (sym both ∙ sym (ap prints f.nodes))
              ∙ w.printed;
        }

    pub first_are : (node : Node) (after : List Event) (f : IsFirstOf w.nodes node after) → Are (Cons f.first f.others)
    first_are node after f = subst Are f.nodes w.are

    pub none_left : w.nodes ≡ Nil → prints Nil ≡ [] → now ≡ with_bytes whole start
    none_left e none = sym (add_nil now) ∙ ap (λ (x : List ℕ). with_bytes x now) (sym none ∙ sym (ap prints e)) ∙ w.printed

-- ---- code

module _ (bytes : List ℕ) (fence : Bool) (ns : Nodes) (start : LayoutState) where
  abbrev pub parts_of : Nodes → List RawPart
  parts_of nodes = raw_parts bytes nodes

  pub record CodeWalked (p : Passed) (now : LayoutState) (rest : List Event) : Type 0 where
    pub nodes : Nodes
    pub are : AreSound bytes nodes
    pub left : rest ≡ events_of nodes
    pub printed : with_bytes (code_of (lines_behind p.silent (parts_of nodes))) now ≡ with_bytes (code_of (lines_behind fence (parts_of ns))) start
    pub some : (p.some || has_any (parts_of nodes)) ≡ has_any (parts_of ns)
    pub line : (p.line || has_any (lines_behind p.silent (parts_of nodes))) ≡ has_any (lines_behind fence (parts_of ns))

  pub all_code : (rest : List Event) → AreSound bytes ns → rest ≡ events_of ns
      → CodeWalked (record { silent = fence; some = false; line = false }) start rest
  all_code rest are e = record { nodes = ns; are = are; left = e; printed = refl; some = refl; line = refl }

  module _ (p : Passed) (now : LayoutState) (rest : List Event) (w : CodeWalked p now rest) where
    pub code_first : (node : Node) (after : List Event) (f : IsFirstOf w.nodes node after) → IsSound bytes f.first × AreSound bytes f.others
    code_first node after f = let Are : Nodes → Type 0 = λ x. AreSound bytes x in first_sound bytes f.first f.others (subst Are f.nodes w.are)

    pub one_code : (next : LayoutState) (node : Node) (after : List Event) (f : IsFirstOf w.nodes node after) (part : CodePart)
        → part_view part ≡ raw_part bytes (node_name f.first) f.first → next ≡ with_bytes (part_bytes p part) now → CodeWalked (passed p part) next after
    one_code next node after f part is e =
        let later = parts_of f.others in
        let lines = code_of (lines_behind (passed p part).silent later) in
        let parts_are : parts_of w.nodes ≡ part_view part ++ later =
        ap parts_of f.nodes ∙ ap (λ (x : List RawPart). x ++ later) (sym is) in
        record {
          nodes = f.others;
          are = (code_first node after f).1;
          left = f.rest;
          printed =
              ap (with_bytes lines) e
              ∙ add_add now (part_bytes p part) lines
              ∙ ap (λ (x : List ℕ). with_bytes x now) (sym (lines_on p part later))
              ∙ ap (λ (x : List RawPart). with_bytes (code_of (lines_behind p.silent x)) now) (sym parts_are)
              ∙ w.printed;
          some = some_on p part later ∙ ap (λ (x : List RawPart). p.some || has_any x) (sym parts_are) ∙ w.some;
          line = line_on p part later ∙ ap (λ (x : List RawPart). p.line || has_any (lines_behind p.silent x)) (sym parts_are) ∙ w.line;
        }

    module _ (e : w.nodes ≡ Nil) where
      none_are : lines_behind p.silent (parts_of w.nodes) ≡ []
      none_are = ap (λ (x : Nodes). lines_behind p.silent (parts_of x)) e ∙ none_behind p.silent

      pub code_printed : now ≡ with_bytes (code_of (lines_behind fence (parts_of ns))) start
      code_printed = sym (add_nil now) ∙ sym (ap (λ x. with_bytes (code_of x) now) none_are) ∙ w.printed

      pub code_some : p.some ≡ has_any (parts_of ns)
      code_some = sym (or_false p.some) ∙ sym (ap (λ (x : Nodes). p.some || has_any (parts_of x)) e) ∙ w.some

      pub code_line : p.line ≡ has_any (lines_behind fence (parts_of ns))
      code_line = sym (or_false p.line) ∙ sym (ap (λ x. p.line || has_any x) none_are) ∙ w.line
