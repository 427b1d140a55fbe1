-- What is written as a tree is written from left to right.
use Rattle.std.proofs.Common.{inl, inr, ◌≡◌, Bool, true, false, List, [], ◌∷◌, ◌++◌, refl, sym, ap, ◌∙◌, subst, append_assoc}
use Rattle.parse_written.proofs.Prelude.{append-nil, AreCodes, AreSpaces, AreWritten, AsCall, AsLeaf, AsLinked, AsSpan, both_ways, codes_of, Data, ends_here}
use Rattle.parse_written.proofs.Prelude.{Image, InlineCode, InlineContext, InlineLeaf, Inlines, IsLeafWritten, LineEnd, Link, linked_start, Literal, More}
use Rattle.parse_written.proofs.Prelude.{Nothing, Spaces}
use Rattle.definition_inline.specs.Inline.{LinkedKind}
use Rattle.parse_written.specs.Laid.{Step, Holds, EntersSpan, EntersLinked, Leaves, HoldsCall, steps_of, Open, OpenSpan, OpenLinked, AreLaid}
use Rattle.parse_written.specs.Laws.{LaidLaw}
use Rattle.parse_written.proofs.LineEnds.{spaces_end, spaces_first, line_end_found, codes_first, text_first, start_first, end_first}

-- a start, what is in it, its end, and what follows
held : (first : Step) (kids others ss : List Step)
    → ((first ∷ (kids ++ Leaves ∷ [])) ++ others) ++ ss ≡ first ∷ (kids ++ Leaves ∷ (others ++ ss))
held first kids others ss =
    ap (λ xs. first ∷ xs) (append_assoc (kids ++ Leaves ∷ []) others ss ∙ append_assoc kids (Leaves ∷ []) (others ++ ss))

linked_first : (kind : LinkedKind) (from to : List InlineCode) → AreCodes (linked_start kind) from to → ends_here (codes_of from) ≡ false
linked_first Link from to codes = codes_first 91 [] from to codes refl
linked_first Image from to codes = codes_first 33 (91 ∷ []) from to codes refl

abbrev is_line_end : InlineLeaf → Bool
is_line_end (LineEnd code) = true
is_line_end other = false

module _ (context : InlineContext) where
  -- what is laid from here, also after spaces
  record GoesOn (os : List Open) (ss : List Step) (from to : List InlineCode) : Type 0 where
    now : AreLaid context os ss from to
    spaced : (before : List InlineCode) → AreSpaces context.options.constructs before from → AreLaid context os ss before to

  -- no spaces stand here, since no line ends
  unspaced : (os : List Open) (ss : List Step) (from to : List InlineCode) → ends_here (codes_of from) ≡ false → AreLaid context os ss from to
      → GoesOn os ss from to
  unspaced os ss from to inline p =
      record {
        now = p;
        spaced = λ before spaces. absurd (both_ways (ends_here (codes_of from)) inline (spaces_end context.options.constructs before from spaces));
      }

  -- a leaf after spaces ends a line
  leaf_laid : (os : List Open) (part : InlineLeaf) (ss : List Step) (from mid to : List InlineCode) → IsLeafWritten context part from mid
      → AreLaid context os ss mid to → GoesOn os (Holds part ∷ ss) from to
  leaf_laid os (Data b) ss from mid to is p = unspaced os (Holds (Data b) ∷ ss) from to (text_first (b ∷ []) from mid is) (mid, is, p)
  leaf_laid os (Literal kind text) ss from mid to is p = unspaced os (Holds (Literal kind text) ∷ ss) from to (text_first text from mid is.text) (mid, is, p)
  leaf_laid os (LineEnd code) ss from mid to is p =
      record { now = (mid, (from, inl refl, is), p); spaced = λ before spaces. (mid, (from, inr spaces, is), p) }
  leaf_laid os part ss from mid to is p =
      record {
        now = (mid, is, p);
        spaced = λ before spaces.
            let (code, same) = line_end_found context part from mid is (spaces_end context.options.constructs before from spaces) in
            absurd (both_ways (is_line_end part) refl (ap is_line_end same));
      }

  laid : (is : Inlines) (from mid : List InlineCode) (os : List Open) (ss : List Step) (to : List InlineCode) → AreWritten context is from mid
      → GoesOn os ss mid to → GoesOn os (steps_of is ++ ss) from to
  laid _ _ _ os ss to (Nothing from) p = p
  laid _ _ mid os ss to (Spaces is from next end spaces w) p =
      let later = laid is next end os ss to w p in
      unspaced os (steps_of is ++ ss) from to (spaces_first context.options.constructs from next spaces) (later.spaced from spaces)
  laid _ _ _ os ss to (More _ is _ _ end (AsLeaf part from mid written) w) p =
      let later = laid is mid end os ss to w p in leaf_laid os part (steps_of is ++ ss) from mid to written later.now
  laid _ _ _ os ss to (More _ is _ _ last (AsSpan kind kids marker size from inside end mid start inner closing) w) p =
      let options = context.options in
      let others = steps_of is ++ ss in
      let later = laid is mid last os ss to w p in
      let closed =
      unspaced (OpenSpan marker size ∷ os) (Leaves ∷ others) end to (end_first options kind marker size from inside end mid start closing)
      (mid, closing, later.now) in
      let parts = laid kids inside end (OpenSpan marker size ∷ os) (Leaves ∷ others) to inner closed in
      subst (λ xs. GoesOn os xs from to) (sym (held (EntersSpan kind) (steps_of kids) (steps_of is) ss))
      (unspaced os (EntersSpan kind ∷ (steps_of kids ++ Leaves ∷ others)) from to (start_first options kind marker size from inside start)
      (marker, size, inside, start, parts.now))
  laid _ _ _ os ss to (More _ is _ _ last (AsLinked kind target kids from inside end mid opening inner closing) w) p =
      let others = steps_of is ++ ss in
      let later = laid is mid last os ss to w p in
      let closed =
      unspaced (OpenLinked target inside ∷ os) (Leaves ∷ others) end to (codes_first 93 [] end closing.rest closing.bracket refl) (mid, closing, later.now) in
      let parts = laid kids inside end (OpenLinked target inside ∷ os) (Leaves ∷ others) to inner closed in
      subst (λ xs. GoesOn os xs from to) (sym (held (EntersLinked kind target) (steps_of kids) (steps_of is) ss))
      (unspaced os (EntersLinked kind target ∷ (steps_of kids ++ Leaves ∷ others)) from to (linked_first kind from inside opening)
      (inside, opening, parts.now))
  laid _ _ _ os ss to (More _ is _ _ end (AsCall label from mid codes) w) p =
      let later = laid is mid end os ss to w p in
      unspaced os (HoldsCall label ∷ (steps_of is ++ ss)) from to (codes_first 91 (94 ∷ (label ++ 93 ∷ [])) from mid codes refl) (mid, codes, later.now)

pub laid_law : LaidLaw
laid_law context is from to w =
    let end : GoesOn context [] [] to to = record { now = inl refl; spaced = λ before spaces. inr spaces } in
    let all = laid context is from to [] [] to w end in
    subst (λ ss. AreLaid context [] ss from to) (append-nil (steps_of is)) all.now
