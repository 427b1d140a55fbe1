-- What is written of some bytes has nodes, where no tab is cut before them, or where not all bytes are white space.
use Rattle.std.proofs.Common.{◌≡◌, ◌<◌, ◌≤◌, ◌+◌, ℕ, zero, suc, Bool, true, false, ◌&&◌, List, [], ◌∷◌, refl, sym, ap, ◌∙◌, inl, inr, arith, drop, length}
use Rattle.std.proofs.lemmas.Bool.{cases_Bool, cond-false, cond-true, true≢false}
use Rattle.parse_lines.proofs.Prelude.{end_in, flat_text, IsSameText, is_white, list_all, Nil, Nodes, prefix_len, Stop, Walk}
use Rattle.definition_text.specs.Content.{at_line_start}
use Rattle.event_grammar.specs.Trees.{Cons}
use Rattle.parse_output.specs.Forest.{is_nil}
use Rattle.parse_lines.specs.InContent.{IsWhole, WritesInContent, unindented}

pub some_of : (text front : List ℕ) (ns : Nodes) → 0 < length front → IsSameText false front (flat_text text ns) → is_nil ns ≡ false
some_of text [] ns some same = absurd (omega (arith, some))
some_of text (b ∷ bs) Nil some same = let wrong = same.same in absurd (cc)
some_of text (b ∷ bs) (Cons node ns) some same = refl

pub written_some : {A : Type 0} (text front : List ℕ) (ns : Nodes) (content : List ℕ) (stop : Stop) (old new : Walk A) → 0 < length front → IsWhole old
    → WritesInContent text front ns content stop old new → is_nil ns ≡ false
written_some text front ns content stop old new some whole writes =
    some_of text front ns some (writes.has_text false (λ owes. absurd (omega (arith, whole, owes)))).same

-- ---- bytes that are not all white space

unindented_some : (bs : List ℕ) → list_all is_white bs ≡ false → unindented true bs ≡ [] → ⊥
unindented_some [] dark none = true≢false dark
unindented_some (b ∷ bs) dark none = elim (cases_Bool (is_white b)) [
  | inl white ↦
      unindented_some bs (sym (ap (λ (t : Bool). t && list_all is_white bs) white) ∙ dark)
      (sym (cond-true (is_white b) (unindented true bs) (b ∷ unindented (at_line_start true b) bs) white) ∙ none)
  | inr black ↦
      let wrong : b ∷ unindented (at_line_start true b) bs ≡ [] =
      sym (cond-false (is_white b) (unindented true bs) (b ∷ unindented (at_line_start true b) bs) black) ∙ none in
      absurd (cc)
]

pub dark_some : (text front : List ℕ) (ns : Nodes) → list_all is_white front ≡ false → IsSameText true front (flat_text text ns) → is_nil ns ≡ false
dark_some text front Nil dark same = absurd (unindented_some front dark same.same)
dark_some text front (Cons node ns) dark same = refl

-- so they are without some of the white space at their start
pub dark_left : (k : ℕ) (bs : List ℕ) → k ≤ prefix_len is_white bs → list_all is_white bs ≡ false → list_all is_white (drop k bs) ≡ false
dark_left zero bs few dark = dark
dark_left (suc k) [] few dark = dark
dark_left (suc k) (b ∷ bs) few dark = elim (cases_Bool (is_white b)) [
  | inl white ↦
      let size : prefix_len is_white (b ∷ bs) ≡ 1 + prefix_len is_white bs = cond-true (is_white b) (1 + prefix_len is_white bs) 0 white in
      dark_left k bs (omega (arith, few, size)) (sym (ap (λ (t : Bool). t && list_all is_white bs) white) ∙ dark)
  | inr black ↦
      let none : prefix_len is_white (b ∷ bs) ≡ 0 = cond-false (is_white b) (1 + prefix_len is_white bs) 0 black in
      absurd (omega (arith, few, none))
]
