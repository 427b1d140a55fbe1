-- The lines of a text of whole characters without CR and `&`.
use Rattle.std.proofs.Common.{◌≡◌, ℕ, zero, suc, ◌+◌, Bool, true, false, cond, eqb, List, [], ◌∷◌, ◌++◌, None, Some, refl, sym, ap, ◌∙◌, subst, replicate, inl}
use Rattle.std.proofs.Common.{inr, ⊎_elim, ◌⊎◌}
use Rattle.laws_endings.proofs.Prelude.{after_return, both_ways, bytes_of, codes_from, columns_after_tab, cond-true, cond_both, eqb-true, first_of}
use Rattle.laws_endings.proofs.Prelude.{in_first_line, is_byte, is_continuation, lines, not_from_false, or_from, tab_column, text_line, TextLine, whole}
use Rattle.markdown_options.specs.declared.line_ending.LineEnding.TheVariants.{LineFeed}
use Rattle.laws_endings.proofs.Lines.{lines_after-byte}
use Rattle.laws_endings.proofs.Each.{Each, each-append, each_same}
use Rattle.laws_endings.proofs.Characters.{Begins, continues_one, need, IsWhole, AreWhole, IsTextByte}
use Rattle.laws_endings.proofs.Neighbours.{no_feed}
use Rattle.laws_endings.proofs.Fits.{Plain}
use Rattle.laws_endings.proofs.BlockReads.{IsFed, RestFits, TextLineFits, TextLinesFit}

-- a byte that is neither CR nor `&`, and no code besides
abbrev pub ByteFits : ℕ → Type 0
ByteFits b = (eqb b 13 ≡ false) × ((eqb b 38 ≡ false) × IsTextByte b)

-- a byte of a line
abbrev LineByteFits : ℕ → Type 0
LineByteFits b = ByteFits b × (eqb b 10 ≡ false)

-- ---- columns of tabs

columns_gone : (n : ℕ) (cs : List ℕ) → bytes_of (replicate n tab_column ++ cs) ≡ bytes_of cs
columns_gone zero cs = refl
columns_gone (suc n) cs = columns_gone n cs

bytes_from : (column : ℕ) (bs : List ℕ) → Each LineByteFits bs → bytes_of (codes_from column bs) ≡ bs
bytes_from column [] p = refl
bytes_from column (b ∷ bs) p =
    let n = columns_after_tab column in
    let others = codes_from (column + 1 + n) bs in
    let next = codes_from (column + 1) bs in
    cond_both (eqb b 9) (9 ∷ (replicate n tab_column ++ others)) (b ∷ next) (λ cs. bytes_of cs ≡ b ∷ bs)
    (λ h. ap (λ more. 9 ∷ more) (columns_gone n others ∙ bytes_from (column + 1 + n) bs p.1) ∙ ap (λ x. x ∷ bs) (sym (eqb-true b 9 h)))
    (λ _. cond-true (is_byte b) (b ∷ bytes_of next) (bytes_of next) (not_from_false (eqb b 256) p.0.0.1.1.0)
    ∙ ap (λ more. b ∷ more) (bytes_from (column + 1) bs p.1))

byte_plain : (b : ℕ) → LineByteFits b → Plain b
byte_plain b p = ((p.0.1.0, p.0.1.1.1), or_from _ (eqb b 257) (or_from (eqb b 10) (eqb b 13) p.1 p.0.0) p.0.1.1.1)

codes_plain : (column : ℕ) (bs : List ℕ) → Each LineByteFits bs → Each Plain (codes_from column bs)
codes_plain column [] p = tt
codes_plain column (b ∷ bs) p =
    let n = columns_after_tab column in
    let others = codes_from (column + 1 + n) bs in
    cond_both (eqb b 9) (9 ∷ (replicate n tab_column ++ others)) (b ∷ codes_from (column + 1) bs) (Each Plain)
    (λ _. (
      ((refl, refl), refl),
      each-append Plain (replicate n tab_column) others (each_same Plain n tab_column ((refl, refl), refl))
          (codes_plain (column + 1 + n) bs p.1),
    ))
    (λ _. (byte_plain b p.0, codes_plain (column + 1) bs p.1))

whole_fits : (content : List ℕ) → Each LineByteFits content → AreWhole content → RestFits (whole content)
whole_fits content p w = (codes_plain 0 content p, subst AreWhole (sym (bytes_from 0 content p)) w)

-- ---- what stands ahead in a text and in its first line

first_content : (b : ℕ) (ls : List TextLine) → (first_of (in_first_line b ls)).content ≡ b ∷ (first_of ls).content
first_content b [] = refl
first_content b (line ∷ ls) = refl

begins_line : (n : ℕ) (bs : List ℕ) → Each ByteFits bs → Begins n bs → Begins n (first_of (lines bs)).content
begins_line zero bs p h = tt
begins_line (suc n) [] p h = h
begins_line (suc n) (b ∷ bs) p h =
    let same = lines_after-byte b bs (no_feed is_continuation b refl h.0) p.0.0 in
    subst (λ cs. Begins (suc n) cs) (sym (ap (λ ls. (first_of ls).content) same ∙ first_content b (lines bs))) (h.0, begins_line n bs p.1 h.1)

continues_by : (b : ℕ) (bs : List ℕ) → Each ByteFits (b ∷ bs) → is_continuation b ≡ false → (feed : Bool) → eqb b 10 ≡ feed
    → continues_one (first_of (lines (b ∷ bs))).content ≡ false
continues_by b bs p h true k =
    let ls = lines bs in
    ap (λ feed. continues_one (first_of (cond feed (text_line [] (Some LineFeed) ∷ ls) (cond (eqb b 13) (after_return bs ls) (in_first_line b ls)))).content) k
continues_by b bs p h false k =
    ap (λ ls. continues_one (first_of ls).content) (lines_after-byte b bs k p.0.0) ∙ ap continues_one (first_content b (lines bs)) ∙ h

continues_line : (bs : List ℕ) → Each ByteFits bs → continues_one bs ≡ false → continues_one (first_of (lines bs)).content ≡ false
continues_line [] p h = refl
continues_line (b ∷ bs) p h = continues_by b bs p h (eqb b 10) refl

-- ---- lines

abbrev LineIs : TextLine → Type 0
LineIs line = (Each LineByteFits line.content × AreWhole line.content) × (line.ending ≡ None ⊎ line.ending ≡ Some LineFeed)

line_before : (b : ℕ) (ls : List TextLine) → LineByteFits b → IsWhole b (first_of ls).content → Each LineIs ls → Each LineIs (in_first_line b ls)
line_before b [] h w p = ((((h, tt), (w, tt)), inl refl), tt)
line_before b (line ∷ ls) h w p = ((((h, p.0.0.0), (w, p.0.0.1)), p.0.1), p.1)

lines_are : (bs : List ℕ) → Each ByteFits bs → AreWhole bs → Each LineIs (lines bs)
lines_are [] p w = tt
lines_are (b ∷ bs) p w =
    let more = lines_are bs p.1 w.1 in
    cond_both (eqb b 10) (text_line [] (Some LineFeed) ∷ lines bs) (cond (eqb b 13) (after_return bs (lines bs)) (in_first_line b (lines bs))) (Each LineIs)
    (λ _. (((tt, tt), inr refl), more))
    (λ h. cond_both (eqb b 13) (after_return bs (lines bs)) (in_first_line b (lines bs)) (Each LineIs)
    (λ return. absurd (both_ways (eqb b 13) p.0.0 return))
    (λ _. line_before b (lines bs) (p.0, h)
    ((λ starts. begins_line (need b) bs p.1 (w.0.0 starts)), (λ marks. continues_line bs p.1 (w.0.1 marks))) more))

line_fits : (line : TextLine) → LineIs line → TextLineFits line
line_fits line p =
    (whole_fits line.content p.0.0 p.0.1, ⊎_elim (λ h. subst IsFed (sym h) tt) (λ h. subst IsFed (sym h) tt) p.1)

all_fit : (ls : List TextLine) → Each LineIs ls → TextLinesFit ls
all_fit [] p = tt
all_fit (line ∷ ls) p = (line_fits line p.0, all_fit ls p.1)

pub text_lines_fit : (text : List ℕ) → Each ByteFits text → AreWhole text → TextLinesFit (lines text)
text_lines_fit text p w = all_fit (lines text) (lines_are text p w)
