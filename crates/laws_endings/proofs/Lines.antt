-- The lines of a text with another ending in place of each LF.
use Rattle.std.proofs.Common.{◌≡◌, ℕ, List, [], ◌∷◌, ◌++◌, Some, Bool, true, false, cond, eqb, refl, sym, ap, ◌∙◌, drop, arith}
use Rattle.laws_endings.proofs.Prelude.{after_return, All, All-tail, cond-false, ending_bytes, in_first_line, LineEnding, lines, ne_eqb, text_line}
use Rattle.laws_endings.proofs.Prelude.{text_line_with, TextLine, with_ending, ◌≢◌}
use Rattle.std.specs.Prelude.{map}
use Rattle.markdown_options.specs.declared.line_ending.LineEnding.TheVariants.{CarriageReturnLineFeed, CarriageReturn, LineFeed}
use Rattle.laws_endings.specs.Laws.{EndingLinesLaw}

-- no byte is CR
abbrev pub Returnless : List ℕ → Type 0
Returnless [] = Unit {0}
Returnless (b ∷ bs) = (eqb b 13 ≡ false) × Returnless bs

pub Returnless-from_All : (bs : List ℕ) → All (λ b. b ≢ 13) bs → Returnless bs
Returnless-from_All [] p = tt
Returnless-from_All (b ∷ bs) p = (ne_eqb b 13 (p 0 b (omega arith)), Returnless-from_All bs (All-tail (λ x. x ≢ 13) b bs p))

-- the lines with this ending
abbrev lines_with : LineEnding → List TextLine → List TextLine
lines_with e ls = map (text_line_with e) ls

-- a CR before a byte that is no LF
return_before : (b : ℕ) (bs : List ℕ) (ls : List TextLine) → eqb b 10 ≡ false → after_return (b ∷ bs) ls ≡ text_line [] (Some CarriageReturn) ∷ ls
return_before b bs ls e = cond-false (eqb b 10) (text_line [] (Some CarriageReturnLineFeed) ∷ drop 1 ls) (text_line [] (Some CarriageReturn) ∷ ls) e

-- the same before a byte that CR may stand in place of, by whether it does
return_before_either : (b : ℕ) (bs : List ℕ) (ls : List TextLine) (feed : Bool) → eqb b 10 ≡ feed
    → after_return (cond feed (13 ∷ []) (b ∷ []) ++ bs) ls ≡ text_line [] (Some CarriageReturn) ∷ ls
return_before_either b bs ls true h = refl
return_before_either b bs ls false h = return_before b bs ls h

-- a CR in place of an LF is an ending of its own: no LF is left that could follow it
return_alone : (text : List ℕ) (ls : List TextLine) → after_return (with_ending CarriageReturn text) ls ≡ text_line [] (Some CarriageReturn) ∷ ls
return_alone [] ls = refl
return_alone (b ∷ bs) ls = return_before_either b (with_ending CarriageReturn bs) ls (eqb b 10) refl

-- an ending before a text
ending_before : (e : LineEnding) (bs : List ℕ)
    → lines (ending_bytes e ++ with_ending e bs) ≡ text_line [] (Some e) ∷ lines (with_ending e bs)
ending_before LineFeed bs = refl
ending_before CarriageReturn bs = return_alone bs (lines (with_ending CarriageReturn bs))
ending_before CarriageReturnLineFeed bs = refl

-- a byte within a line
in_first_line-with : (e : LineEnding) (b : ℕ) (ls : List TextLine) → in_first_line b (lines_with e ls) ≡ lines_with e (in_first_line b ls)
in_first_line-with e b [] = refl
in_first_line-with e b (line ∷ ls) = refl

-- the lines of bytes after a byte that may be an LF or a CR
abbrev lines_after : ℕ → Bool → Bool → List ℕ → List TextLine
lines_after b feed return bs = cond feed (text_line [] (Some LineFeed) ∷ lines bs) (cond return (after_return bs (lines bs)) (in_first_line b (lines bs)))

pub lines_after-byte : (b : ℕ) (bs : List ℕ) → eqb b 10 ≡ false → eqb b 13 ≡ false → lines (b ∷ bs) ≡ in_first_line b (lines bs)
lines_after-byte b bs h k = ap (λ feed. lines_after b feed (eqb b 13) bs) h ∙ ap (λ return. lines_after b false return bs) k

-- a byte before a text
byte_before : (e : LineEnding) (b : ℕ) (bs : List ℕ) (feed : Bool) → eqb b 10 ≡ feed → eqb b 13 ≡ false
    → lines (with_ending e bs) ≡ lines_with e (lines bs)
    → lines (cond feed (ending_bytes e) (b ∷ []) ++ with_ending e bs) ≡ lines_with e (lines_after b feed false bs)
byte_before e b bs true h k same = ending_before e bs ∙ ap (λ ls. text_line [] (Some e) ∷ ls) same
byte_before e b bs false h k same =
    lines_after-byte b (with_ending e bs) h k ∙ ap (in_first_line b) same ∙ in_first_line-with e b (lines bs)

pub lines-with_ending : (e : LineEnding) (text : List ℕ) → Returnless text → lines (with_ending e text) ≡ lines_with e (lines text)
lines-with_ending e [] p = refl
lines-with_ending e (b ∷ bs) p =
    byte_before e b bs (eqb b 10) refl p.0 (lines-with_ending e bs p.1)
    ∙ sym (ap (λ return. lines_with e (lines_after b (eqb b 10) return bs)) p.0)

pub ending_lines_law : EndingLinesLaw
ending_lines_law e text p = lines-with_ending e text (Returnless-from_All text p)
