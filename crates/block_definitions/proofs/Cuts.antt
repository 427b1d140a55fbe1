-- One definition of those at the front of a paragraph.
use Rattle.std.proofs.Common.{◌≡◌, ℕ, ◌+◌, ◌≤◌, ltb, subst, List, [], ◌∷◌, None, length, take, drop, refl, sym, ap, ◌∙◌, arith}
use Rattle.std.proofs.lemmas.Bool.{lt-ltb, le-ltb}
use Rattle.block_definitions.proofs.Prelude.{AreLines, BlockLine, content_of, content_text, cut_most, definition_at, DefinitionCut, EndsAt, is_some_line}
use Rattle.block_definitions.proofs.Prelude.{none-some, own_lines}
use Rattle.std.proofs.lemmas.List.{length-drop, drop-drop}
use Rattle.definition_block.specs.Blocks.{Nil, join}
use Rattle.definition_block.specs.Definitions.{cut_into, cut_after, definition_lines}
use Rattle.block_rows.proofs.DefinitionLines.{cut_enough}
use Rattle.block_definitions.specs.declared.front.DefinitionEnd.{DefinitionEnd}

-- all definitions that these lines can have
abbrev pub cut_all : List BlockLine → DefinitionCut
cut_all ls = cut_most (length ls) ls

pub cut_none : (ls : List BlockLine) → definition_at (content_of (own_lines ls)) ≡ None → cut_all ls ≡ cut_into Nil ls
cut_none [] none = refl
cut_none (line ∷ others) none = ap (λ o. cut_after o (line ∷ others) (cut_most (length others))) none

-- a definition, and those of the lines after it
pub cut_one : (content : List ℕ) (ls : List BlockLine) (end : DefinitionEnd) (h : EndsAt content ls end)
    → cut_all ls ≡ cut_into (join (definition_lines h.read (take end.lines ls)) (cut_all (drop end.lines ls)).definitions) (cut_all (drop end.lines ls)).left
cut_one content [] end h = absurd (none-some h.read h.found)
cut_one content (line ∷ others) end h =
    let ls = line ∷ others in
    let left = drop end.lines ls in
    let n = h.some in
    let rest = length-drop end.lines ls in
    ap (λ o. cut_after o ls (cut_most (length others))) h.found
    ∙ ap (λ count. cut_into (join (definition_lines h.read (take count ls)) (cut_most (length others) (drop count ls)).definitions)
    (cut_most (length others) (drop count ls)).left) (sym h.count)
    ∙ ap (λ (more : DefinitionCut). cut_into (join (definition_lines h.read (take end.lines ls)) more.definitions) more.left)
    (cut_enough (length others) (length left) left h.clean (omega (arith, rest, n)) (omega arith))

-- ---- after some of them

-- what is left after so many bytes and lines is left of the whole
pub record LeftOver (content : List ℕ) (ls : List BlockLine) (at first : ℕ) : Type 0 where
  pub clean : AreLines (drop first ls)
  pub rest : drop at content ≡ content_text (drop first ls)
  pub same : (cut_all ls).left ≡ (cut_all (drop first ls)).left

pub left_after : (content : List ℕ) (ls : List BlockLine) (at first : ℕ) (end : DefinitionEnd) → LeftOver content ls at first
    → EndsAt (drop at content) (drop first ls) end
    → LeftOver content ls (at + end.bytes) (first + end.lines)
left_after content ls at first end k h =
    let lines = drop-drop end.lines first ls in
    record {
      clean = subst AreLines lines h.clean;
      rest = sym (drop-drop end.bytes at content) ∙ h.left ∙ ap content_text lines;
      same = k.same ∙ ap (λ (x : DefinitionCut). x.left) (cut_one (drop at content) (drop first ls) end h) ∙ ap (λ x. (cut_all x).left) lines;
    }

-- there are lines left where fewer than all come before
pub left_if : (n len : ℕ) (ls : List BlockLine) → n + length ls ≡ len → ltb n len ≡ is_some_line ls
left_if n len [] h = le-ltb n len (omega (arith, h))
left_if n len (line ∷ others) h = lt-ltb n len (omega (arith, h))

pub some_left : (n : ℕ) (ls : List BlockLine) → n ≤ length ls → ltb n (length ls) ≡ is_some_line (drop n ls)
some_left n ls h = left_if n (length ls) (drop n ls) (omega (arith, h, length-drop n ls))
