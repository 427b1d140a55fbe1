-- The lines of a text with two bytes before every line.
use Rattle.std.proofs.Common.{◌≡◌, ℕ, List, [], ◌∷◌, Some, Bool, true, false, cond, ◌||◌, ◌&&◌, not, eqb, refl, sym, ap, ◌∙◌, drop}
use Rattle.std.specs.Prelude.{map}
use Rattle.std.proofs.lemmas.Bool.{cond-true, cond-false, cond_both, both_ways}
use Rattle.markdown_options.specs.declared.line_ending.LineEnding.TheVariants.{CarriageReturnLineFeed, CarriageReturn, LineFeed}
use Rattle.definition_text.specs.Lines.{TextLine, text_line, in_first_line, after_return, lines}
use Rattle.laws_quote.specs.Quoted.{begins_with_feed, pair_before, pair_after_endings}
use Rattle.laws_quote.specs.Laws.{QuotedLinesLaw}

-- ---- a text that isn't empty has a line

-- there is a line
abbrev pub HasLine : List TextLine → Type 0
HasLine [] = ⊥
HasLine (line ∷ ls) = Unit {0}

in_first_line_some : (b : ℕ) (ls : List TextLine) → HasLine (in_first_line b ls)
in_first_line_some b [] = tt
in_first_line_some b (line ∷ ls) = tt

after_return_some : (bs : List ℕ) (ls : List TextLine) → HasLine (after_return bs ls)
after_return_some [] ls = tt
after_return_some (b ∷ bs) ls =
    cond_both (eqb b 10) (text_line [] (Some CarriageReturnLineFeed) ∷ drop 1 ls) (text_line [] (Some CarriageReturn) ∷ ls) HasLine (λ _. tt) (λ _. tt)

pub lines_some : (b : ℕ) (bs : List ℕ) → HasLine (lines (b ∷ bs))
lines_some b bs =
    let return = after_return bs (lines bs) in
    let other = in_first_line b (lines bs) in
    cond_both (eqb b 10) (text_line [] (Some LineFeed) ∷ lines bs) (cond (eqb b 13) return other) HasLine (λ _. tt)
    (λ _. cond_both (eqb b 13) return other HasLine (λ _. after_return_some bs (lines bs)) (λ _. in_first_line_some b (lines bs)))

-- ---- CR

-- before an LF, and before anything else
after_return_feed : (b : ℕ) (bs : List ℕ) (ls : List TextLine) → eqb b 10 ≡ true
    → after_return (b ∷ bs) ls ≡ text_line [] (Some CarriageReturnLineFeed) ∷ drop 1 ls
after_return_feed b bs ls e = cond-true (eqb b 10) (text_line [] (Some CarriageReturnLineFeed) ∷ drop 1 ls) (text_line [] (Some CarriageReturn) ∷ ls) e

after_return_other : (bs : List ℕ) (ls : List TextLine) → begins_with_feed bs ≡ false → after_return bs ls ≡ text_line [] (Some CarriageReturn) ∷ ls
after_return_other [] ls e = refl
after_return_other (b ∷ bs) ls e = cond-false (eqb b 10) (text_line [] (Some CarriageReturnLineFeed) ∷ drop 1 ls) (text_line [] (Some CarriageReturn) ∷ ls) e

-- ---- lines with two bytes before their contents

-- the lines of bytes after a byte that may be an LF or a CR
abbrev lines_after : ℕ → Bool → Bool → List ℕ → List TextLine
lines_after b feed return bs = cond feed (text_line [] (Some LineFeed) ∷ lines bs) (cond return (after_return bs (lines bs)) (in_first_line b (lines bs)))

-- two bytes of which none ends a line
abbrev pub IsPair : ℕ → ℕ → Type 0
IsPair x y =
    ((bs : List ℕ) → lines (x ∷ y ∷ bs) ≡ in_first_line x (in_first_line y (lines bs)))
    × ((bs : List ℕ) (ls : List TextLine) → after_return (x ∷ bs) ls ≡ text_line [] (Some CarriageReturn) ∷ ls)

module _ (x y : ℕ) (is_pair : IsPair x y) where
  -- a line with them
  abbrev pub paired : TextLine → TextLine
  paired line = text_line (x ∷ y ∷ line.content) line.ending

  -- each line but the first with them
  abbrev pub later_paired : List TextLine → List TextLine
  later_paired [] = []
  later_paired (line ∷ ls) = line ∷ map paired ls

  -- the first one, too
  first_paired : (ls : List TextLine) → HasLine ls → in_first_line x (in_first_line y (later_paired ls)) ≡ map paired ls
  first_paired [] h = absurd h
  first_paired (line ∷ ls) h = refl

  -- a byte within a line
  in_first_line-later : (b : ℕ) (ls : List TextLine) → in_first_line b (later_paired ls) ≡ later_paired (in_first_line b ls)
  in_first_line-later b [] = refl
  in_first_line-later b (line ∷ ls) = refl

  -- the lines after an ending of two bytes
  drop-later : (ls : List TextLine) → drop 1 (later_paired ls) ≡ map paired (drop 1 ls)
  drop-later [] = refl
  drop-later (line ∷ ls) = refl

  after_return-pair : (bs : List ℕ) (ls : List TextLine) → after_return (pair_before x y bs) ls ≡ text_line [] (Some CarriageReturn) ∷ ls
  after_return-pair [] ls = refl
  after_return-pair (b ∷ bs) ls = is_pair.1 (y ∷ b ∷ bs) ls

  -- with the two bytes after its endings a text has its lines, each but the first with them
  abbrev LaterPaired : List ℕ → Type 0
  LaterPaired text = lines (pair_after_endings x y text) ≡ later_paired (lines text)

  -- and before the first one
  lines-paired : (text : List ℕ) → LaterPaired text → lines (pair_before x y (pair_after_endings x y text)) ≡ map paired (lines text)
  lines-paired [] e = refl
  lines-paired (b ∷ bs) e =
      is_pair.0 (pair_after_endings x y (b ∷ bs)) ∙ ap (λ ls. in_first_line x (in_first_line y ls)) e ∙ first_paired (lines (b ∷ bs)) (lines_some b bs)

  -- CR LF is one ending
  crlf_later : (bs : List ℕ) → begins_with_feed bs ≡ true → LaterPaired bs
      → after_return (pair_after_endings x y bs) (lines (pair_after_endings x y bs)) ≡ later_paired (after_return bs (lines bs))
  crlf_later [] next e = absurd (both_ways false refl next)
  crlf_later (b ∷ bs) next e =
      let more = pair_after_endings x y (b ∷ bs) in
      after_return_feed b (drop 1 more) (lines more) next
      ∙ ap (λ ls. text_line [] (Some CarriageReturnLineFeed) ∷ drop 1 ls) e
      ∙ ap (λ ls. text_line [] (Some CarriageReturnLineFeed) ∷ ls) (drop-later (lines (b ∷ bs)))
      ∙ sym (ap later_paired (after_return_feed b bs (lines (b ∷ bs)) next))

  -- a byte before a text
  byte_later : (b : ℕ) (bs : List ℕ) (feed return next : Bool) → begins_with_feed bs ≡ next → LaterPaired bs
      → lines_after b feed return (cond (feed || (return && not next)) (pair_before x y (pair_after_endings x y bs)) (pair_after_endings x y bs))
      ≡ later_paired (lines_after b feed return bs)
  byte_later b bs true return next h e = ap (λ ls. text_line [] (Some LineFeed) ∷ ls) (lines-paired bs e)
  byte_later b bs false true true h e = crlf_later bs h e
  byte_later b bs false true false h e =
      let more = pair_after_endings x y bs in
      after_return-pair more (lines (pair_before x y more))
      ∙ ap (λ ls. text_line [] (Some CarriageReturn) ∷ ls) (lines-paired bs e)
      ∙ sym (ap later_paired (after_return_other bs (lines bs) h))
  byte_later b bs false false next h e = ap (in_first_line b) e ∙ in_first_line-later b (lines bs)

  pub later : (text : List ℕ) → LaterPaired text
  later [] = refl
  later (b ∷ bs) = byte_later b bs (eqb b 10) (eqb b 13) (begins_with_feed bs) refl (later bs)

  pub all_paired : (text : List ℕ) → lines (pair_before x y (pair_after_endings x y text)) ≡ map paired (lines text)
  all_paired text = lines-paired text (later text)

pub quoted_lines_law : QuotedLinesLaw
quoted_lines_law text = all_paired 62 32 (λ bs. refl, λ bs ls. refl) text
