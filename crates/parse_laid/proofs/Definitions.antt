-- Lines of a paragraph: the definitions at its front, and what is left.
use Rattle.std.proofs.Common.{◌⊎◌, inr, ◌≡◌, ℕ, suc, zero, ◌<◌, true, List, [], ◌∷◌, Option, None, Some, length, take, drop, refl, sym, ap, ◌∙◌, subst, arith}
use Rattle.parse_laid.proofs.Prelude.{AreLines, AreTaken, AtEnding, block_and_ending, BlockLine, cond_both, Constructs, Container, cut_into, cut_most}
use Rattle.parse_laid.proofs.Prelude.{Definition, definition_cut, DefinitionCut, false≢true, is_head, is_some_line, IsInAll, IsLeafLaid, IsTextLine}
use Rattle.parse_laid.proofs.Prelude.{last_ending, Leaf, Nil, own_lines, Paragraph, paragraph_of, Place}
use Rattle.std.proofs.lemmas.List.{length-take}
use Rattle.definition_text.specs.Content.{content_of}
use Rattle.definition_inline.specs.Definition.{Definition as LinkDefinition, definition, definition_at}
use Rattle.definition_block.specs.Definitions.{lines_before, definition_lines, cut_after}
use Rattle.block_rows.proofs.DefinitionLines.{definition_cuts}
use Rattle.parse_laid.specs.Leaves.{FollowsDefinition}
use Rattle.parse_laid.proofs.Taken.{split_taken, after_some}
use Rattle.parse_laid.proofs.Trees.{AreBlocksLaid, join_laid, ended_laid}

module _ (on : Constructs) (around : List Container) where
  -- where lines of text may begin
  abbrev pub MayBegin : Place → Type 0
  MayBegin from = IsInAll on around from ⊎ FollowsDefinition on around from

  abbrev pub TextMayBegin : List BlockLine → Place → Type 0
  TextMayBegin [] from = Unit {0}
  TextMayBegin (line ∷ others) from = MayBegin from

  pub any_may_begin : (ls : List BlockLine) (from : Place) → MayBegin from → TextMayBegin ls from
  any_may_begin [] from m = tt
  any_may_begin (line ∷ others) from m = m

  some_may_begin : (ls : List BlockLine) (from : Place) → 0 < length ls → TextMayBegin ls from → MayBegin from
  some_may_begin [] from some m = absurd (omega (arith, some))
  some_may_begin (line ∷ others) from some m = m

  -- a leaf of lines of text, and the ending of the last
  paragraph_laid_some : (ls : List BlockLine) (from to : Place) → 0 < length ls → MayBegin from → AreTaken on around (IsTextLine on) ls from to
      → AreBlocksLaid on around (block_and_ending (Leaf (Paragraph (own_lines ls))) (last_ending ls)) from to
  paragraph_laid_some ls from to some m p =
      let after = after_some on around (IsTextLine on) ls from to some p in
      let leaf : IsLeafLaid on around (Paragraph (own_lines ls)) from (AtEnding (last_ending ls) after.0) =
      (ls, to, (some, p, m), refl, (after.0, after.1, refl)) in
      subst (AreBlocksLaid on around (block_and_ending (Leaf (Paragraph (own_lines ls))) (last_ending ls)) from) (sym after.1)
      (ended_laid on around (Leaf (Paragraph (own_lines ls))) (last_ending ls) from after.0 leaf)

  pub paragraph_laid : (ls : List BlockLine) (from to : Place) → TextMayBegin ls from → AreTaken on around (IsTextLine on) ls from to
      → AreBlocksLaid on around (paragraph_of ls) from to
  paragraph_laid [] from to m p = p
  paragraph_laid (line ∷ others) from to m p = paragraph_laid_some (line ∷ others) from to (omega arith) m p

  definition_laid : (d : LinkDefinition) (ls : List BlockLine) (from to : Place) → 0 < length ls → MayBegin from
      → definition_at (content_of (own_lines ls)) ≡ Some (definition d.label d.destination d.title []) → AreTaken on around (IsTextLine on) ls from to
      → AreBlocksLaid on around (definition_lines d ls) from to
  definition_laid d ls from to some m found p =
      let after = after_some on around (IsTextLine on) ls from to some p in
      let leaf : IsLeafLaid on around (Definition (own_lines ls) d.label d.destination d.title) from (AtEnding (last_ending ls) after.0) =
      (ls, to, (some, p, m), refl, found, (after.0, after.1, refl)) in
      subst (AreBlocksLaid on around (definition_lines d ls) from) (sym after.1)
      (ended_laid on around (Leaf (Definition (own_lines ls) d.label d.destination d.title)) (last_ending ls) from after.0 leaf)

  -- what is cut from a paragraph, and what is left of it
  abbrev pub CutLaid : DefinitionCut → Place → Place → Type 0
  CutLaid parts from to =
      (under : Place) × AreBlocksLaid on around parts.definitions from under × AreTaken on around (IsTextLine on) parts.left under to
      × TextMayBegin parts.left under

  cut_after_laid : (o : Option LinkDefinition) (ls : List BlockLine) (more : List BlockLine → DefinitionCut) (from to : Place)
      → TextMayBegin ls from → AreTaken on around (IsTextLine on) ls from to
      → ((d : LinkDefinition) → o ≡ Some d → (under : Place) × AreBlocksLaid on around (definition_lines d (take (lines_before d.rest ls) ls)) from under
      × CutLaid (more (drop (lines_before d.rest ls) ls)) under to)
      → CutLaid (cut_after o ls more) from to
  cut_after_laid None ls more from to m p h = (from, refl, p, m)
  cut_after_laid (Some d) ls more from to m p h =
      let n = lines_before d.rest ls in
      let others = more (drop n ls) in
      let r = h d refl in
      (r.2.0, join_laid on around (definition_lines d (take n ls)) others.definitions from r.0 r.2.0 r.1 r.2.1, r.2.2, r.2.3)

  cut_most_laid : (most : ℕ) (ls : List BlockLine) (from to : Place) → AreLines ls → TextMayBegin ls from → AreTaken on around (IsTextLine on) ls from to
      → CutLaid (cut_most most ls) from to
  cut_most_laid zero ls from to h m p = (from, refl, p, m)
  cut_most_laid (suc most) ls from to h m p =
      cut_after_laid (definition_at (content_of (own_lines ls))) ls (cut_most most) from to m p
      (λ d found.
      let cuts = definition_cuts ls d h found in
      let n = lines_before d.rest ls in
      let parts = split_taken on around (IsTextLine on) n ls from to p in
      let taken = length-take n ls in
      let one = cuts.some in
      let within = cuts.within in
      let some : 0 < length (take n ls) = omega (arith, taken, one, within) in
      let follows : MayBegin parts.0 = inr (d.label, d.destination, d.title, take n ls, from, some, parts.1, cuts.again) in (
        parts.0,
        definition_laid d (take n ls) from parts.0 some (some_may_begin ls from (omega (arith, one, within)) m) cuts.again parts.1,
        cut_most_laid most (drop n ls) parts.0 to cuts.left (any_may_begin (drop n ls) parts.0 follows) parts.2,
      ))

  pub cut_laid : (ls : List BlockLine) (from to : Place) → AreLines ls → TextMayBegin ls from → AreTaken on around (IsTextLine on) ls from to
      → CutLaid (definition_cut on ls) from to
  cut_laid ls from to h m p =
      cond_both on.definition (cut_most (length ls) ls) (cut_into Nil ls) (λ (parts : DefinitionCut). CutLaid parts from to)
      (λ _. cut_most_laid (length ls) ls from to h m p) (λ _. (from, refl, p, m))

-- ---- the last line

drop_none : (n : ℕ) → drop {A = BlockLine} n [] ≡ []
drop_none zero = refl
drop_none (suc n) = refl

-- whether the last line has so many cells doesn't depend on the lines before it
pub head_kept : (count n : ℕ) (ls : List BlockLine) → is_some_line (drop n ls) ≡ true → is_head count (drop n ls) ≡ is_head count ls
head_kept count zero ls some = refl
head_kept count (suc n) [] some = absurd (false≢true some)
head_kept count (suc n) (line ∷ []) some = absurd (false≢true (sym (ap is_some_line (drop_none n)) ∙ some))
head_kept count (suc n) (line ∷ next ∷ others) some = head_kept count n (next ∷ others) some

cut_some : (most : ℕ) (ls : List BlockLine) → is_some_line (cut_most most ls).left ≡ true → is_some_line ls ≡ true
cut_some zero ls some = some
cut_some (suc most) [] some = some
cut_some (suc most) (line ∷ others) some = refl

cut_after_head : (count : ℕ) (o : Option LinkDefinition) (ls : List BlockLine) (more : List BlockLine → DefinitionCut)
    → ((n : ℕ) → is_some_line (more (drop n ls)).left ≡ true → is_head count (more (drop n ls)).left ≡ is_head count ls)
    → is_some_line (cut_after o ls more).left ≡ true → is_head count (cut_after o ls more).left ≡ is_head count ls
cut_after_head count None ls more h some = refl
cut_after_head count (Some d) ls more h some = h (lines_before d.rest ls) some

cut_most_head : (count most : ℕ) (ls : List BlockLine) → is_some_line (cut_most most ls).left ≡ true
    → is_head count (cut_most most ls).left ≡ is_head count ls
cut_most_head count zero ls some = refl
cut_most_head count (suc most) ls some =
    cut_after_head count (definition_at (content_of (own_lines ls))) ls (cut_most most)
    (λ n e. cut_most_head count most (drop n ls) e ∙ head_kept count n ls (cut_some most (drop n ls) e)) some

pub cut_head : (on : Constructs) (count : ℕ) (ls : List BlockLine) → is_some_line (definition_cut on ls).left ≡ true
    → is_head count (definition_cut on ls).left ≡ is_head count ls
cut_head on count ls =
    cond_both on.definition (cut_most (length ls) ls) (cut_into Nil ls)
    (λ (parts : DefinitionCut). is_some_line parts.left ≡ true → is_head count parts.left ≡ is_head count ls)
    (λ _. cut_most_head count (length ls) ls) (λ _ some. refl)
