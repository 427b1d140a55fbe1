-- If good bytes stay good behind each byte of a text, the lines of the text are good.
use Rattle.std.proofs.Common.{◌≡◌, ℕ, false, cond, eqb, List, [], ◌∷◌, Some, drop}
use Rattle.std.proofs.lemmas.Bool.{cond_both}
use Rattle.markdown_options.specs.declared.line_ending.LineEnding.TheVariants.{CarriageReturnLineFeed, CarriageReturn, LineFeed}
use Rattle.definition_text.specs.Lines.{TextLine, text_line, in_first_line, after_return, lines}
use Rattle.definition_text.proofs.Each.{Each, each-drop}

abbrev pub LineGood : (List ℕ → Type 0) → TextLine → Type 0
LineGood Good line = Good line.content

abbrev pub LinesGood : (List ℕ → Type 0) → List TextLine → Type 0
LinesGood Good ls = Each (LineGood Good) ls

-- a byte in a line: good bytes stay good behind it
abbrev pub MayBegin : (List ℕ → Type 0) → ℕ → Type 0
MayBegin Good b = eqb b 10 ≡ false → (bs : List ℕ) → Good bs → Good (b ∷ bs)

module _ (Good : List ℕ → Type 0) (none : Good []) where
  in_first_good : (b : ℕ) (ls : List TextLine) → ((bs : List ℕ) → Good bs → Good (b ∷ bs)) → LinesGood Good ls → LinesGood Good (in_first_line b ls)
  in_first_good b [] h p = (h [] none, tt)
  in_first_good b (line ∷ ls) h p = (h line.content p.0, p.1)

  after_return_good : (bs : List ℕ) (ls : List TextLine) → LinesGood Good ls → LinesGood Good (after_return bs ls)
  after_return_good [] ls p = (none, p)
  after_return_good (b ∷ bs) ls p =
      cond_both (eqb b 10) (text_line [] (Some CarriageReturnLineFeed) ∷ drop 1 ls) (text_line [] (Some CarriageReturn) ∷ ls) (LinesGood Good)
      (λ _. (none, each-drop (LineGood Good) 1 ls p)) (λ _. (none, p))

  pub lines_good : (text : List ℕ) → Each (MayBegin Good) text → LinesGood Good (lines text)
  lines_good [] h = tt
  lines_good (b ∷ bs) h =
      let ls = lines bs in
      let p = lines_good bs h.1 in
      cond_both (eqb b 10) (text_line [] (Some LineFeed) ∷ ls) (cond (eqb b 13) (after_return bs ls) (in_first_line b ls)) (LinesGood Good)
      (λ _. (none, p))
      (λ e. cond_both (eqb b 13) (after_return bs ls) (in_first_line b ls) (LinesGood Good)
      (λ _. after_return_good bs ls p) (λ _. in_first_good b ls (h.0 e) p))
