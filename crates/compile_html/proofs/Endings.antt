-- The first line ending of a text, found by its first byte.
use Rattle.std.proofs.Common.{◌≡◌, ℕ, suc, ◌+◌, ◌<◌, ◌≤◌, Bool, true, false, not, ◌&&◌, ◌||◌, if◌then◌else◌, ◌==◌, List, [], ◌∷◌, Option, None, Some, drop, length, get_or, refl, sym, ap, ◌∙◌, subst, arith}
use Rattle.compile_html.proofs.Prelude.{and_parts, first_line, is_of_pair, LineEnding, position_or_len, without_mark}
use Rattle.std.proofs.Math.Seq.{drop-cons}
use Rattle.std.proofs.lemmas.Bool.{eqb-true}
use Rattle.std.proofs.lemmas.List.{drop_all}
use Rattle.markdown_options.specs.declared.line_ending.LineEnding.TheVariants.{LineFeed, CarriageReturn, CarriageReturnLineFeed}
use Rattle.definition_text.specs.Ascii.{line_feed, carriage_return}
use Rattle.definition_text.specs.Lines.{TextLine, text_line, in_first_line, after_return, lines, first_of, has_mark}
use Rattle.text_search.specs.declared.pair.BytePair.{BytePair}

abbrev pub ends : BytePair
ends = record { first = line_feed; second = carriage_return }

-- the ending that begins with a CR, before these bytes
abbrev return_ending : List ℕ → LineEnding
return_ending [] = CarriageReturn
return_ending (c ∷ cs) = if c == line_feed then CarriageReturnLineFeed else CarriageReturn

-- the ending that these bytes begin with
abbrev pub ending_here : List ℕ → Option LineEnding
ending_here [] = None
ending_here (b ∷ bs) = if b == line_feed then Some LineFeed else Some (return_ending bs)

kept : (b : ℕ) (ls : List TextLine) → (first_of (in_first_line b ls)).ending ≡ (first_of ls).ending
kept b [] = refl
kept b (line ∷ others) = refl

returned_by : (t : Bool) (others : List TextLine)
    → (first_of (if t then text_line [] (Some CarriageReturnLineFeed) ∷ drop 1 others else text_line [] (Some CarriageReturn) ∷ others)).ending
    ≡ Some (if t then CarriageReturnLineFeed else CarriageReturn)
returned_by true others = refl
returned_by false others = refl

returned : (bs : List ℕ) (others : List TextLine) → (first_of (after_return bs others)).ending ≡ Some (return_ending bs)
returned [] others = refl
returned (c ∷ cs) others = returned_by (c == line_feed) others

one_more : (n : ℕ) → suc n ≡ 1 + n
one_more n = omega arith

step : (t u : Bool) (b : ℕ) (bs : List ℕ) (n : ℕ) → (first_line bs).ending ≡ ending_here (drop n bs) → (b == line_feed) ≡ t
    → (first_of (if t then text_line [] (Some LineFeed) ∷ lines bs else (if u then after_return bs (lines bs) else in_first_line b (lines bs)))).ending
    ≡ ending_here (drop (if not (t || u) then 1 + n else 0) (b ∷ bs))
step true u b bs n h e = ap (λ (t : Bool). if t then Some LineFeed else Some (return_ending bs)) (sym e)
step false true b bs n h e = returned bs (lines bs) ∙ ap (λ (t : Bool). if t then Some LineFeed else Some (return_ending bs)) (sym e)
step false false b bs n h e = kept b (lines bs) ∙ h ∙ ap (λ (k : ℕ). ending_here (drop k (b ∷ bs))) (one_more n)

found : (bs : List ℕ) → (first_line bs).ending ≡ ending_here (drop (position_or_len (is_of_pair ends) bs) bs)
found [] = refl
found (b ∷ bs) = step (b == line_feed) (b == carriage_return) b bs (position_or_len (is_of_pair ends) bs) (found bs) refl

marked : (a b c : ℕ) (others : List ℕ) → a ≡ 239 → b ≡ 187 → c ≡ 191 → (first_line others).ending ≡ (first_line (a ∷ b ∷ c ∷ others)).ending
marked a b c others p q r =
    sym (kept 239 (in_first_line 187 (in_first_line 191 (lines others))) ∙ kept 187 (in_first_line 191 (lines others)) ∙ kept 191 (lines others))
    ∙ ap (λ (x : ℕ). (first_line (x ∷ 187 ∷ 191 ∷ others)).ending) (sym p)
    ∙ ap (λ (x : ℕ). (first_line (a ∷ x ∷ 191 ∷ others)).ending) (sym q)
    ∙ ap (λ (x : ℕ). (first_line (a ∷ b ∷ x ∷ others)).ending) (sym r)

unmarked : (t : Bool) (a b c : ℕ) (others : List ℕ) → ((a == 239) && (b == 187) && (c == 191)) ≡ t
    → (first_line (if t then others else a ∷ b ∷ c ∷ others)).ending ≡ (first_line (a ∷ b ∷ c ∷ others)).ending
unmarked true a b c others e =
    let both = and_parts ((a == 239) && (b == 187)) (c == 191) e in
    let first = and_parts (a == 239) (b == 187) both.0 in
    marked a b c others (eqb-true a 239 first.0) (eqb-true b 187 first.1) (eqb-true c 191 both.1)
unmarked false a b c others e = refl

without : (bs : List ℕ) → (first_line (without_mark bs)).ending ≡ (first_line bs).ending
without [] = refl
without (a ∷ []) = refl
without (a ∷ b ∷ []) = refl
without (a ∷ b ∷ c ∷ others) = unmarked ((a == 239) && (b == 187) && (c == 191)) a b c others refl

-- The first ending, a byte order mark left out.
pub first_ending : (bs : List ℕ) → (first_line (without_mark bs)).ending ≡ ending_here (drop (position_or_len (is_of_pair ends) bs) bs)
first_ending bs = without bs ∙ found bs

-- ---- at an index

pub none_here : (bs : List ℕ) (k : ℕ) → length bs ≤ k → ending_here (drop k bs) ≡ None
none_here bs k h = ap ending_here (drop_all k bs h)

here_by : (bs : List ℕ) (k : ℕ) → k < length bs → ending_here (drop k bs) ≡ (if get_or bs k 0 == line_feed then Some LineFeed else Some (return_ending (drop (suc k) bs)))
here_by bs k h = ap ending_here (drop-cons bs k 0 h)

pub line_feed_here : (bs : List ℕ) (k : ℕ) → k < length bs → (get_or bs k 0 == line_feed) ≡ true → ending_here (drop k bs) ≡ Some LineFeed
line_feed_here bs k h e = here_by bs k h ∙ ap (λ (t : Bool). if t then Some LineFeed else Some (return_ending (drop (suc k) bs))) e

return_here : (bs : List ℕ) (k : ℕ) → k < length bs → (get_or bs k 0 == line_feed) ≡ false → ending_here (drop k bs) ≡ Some (return_ending (drop (suc k) bs))
return_here bs k h e = here_by bs k h ∙ ap (λ (t : Bool). if t then Some LineFeed else Some (return_ending (drop (suc k) bs))) e

pub both_here : (bs : List ℕ) (k : ℕ) → suc k < length bs → (get_or bs k 0 == line_feed) ≡ false → (get_or bs (suc k) 0 == line_feed) ≡ true
    → ending_here (drop k bs) ≡ Some CarriageReturnLineFeed
both_here bs k h e f =
    return_here bs k (omega (arith, h)) e
    ∙ ap (λ (xs : List ℕ). Some (return_ending xs)) (drop-cons bs (suc k) 0 h)
    ∙ ap (λ (t : Bool). Some (if t then CarriageReturnLineFeed else CarriageReturn)) f

pub alone_here : (bs : List ℕ) (k : ℕ) → suc k < length bs → (get_or bs k 0 == line_feed) ≡ false → (get_or bs (suc k) 0 == line_feed) ≡ false
    → ending_here (drop k bs) ≡ Some CarriageReturn
alone_here bs k h e f =
    return_here bs k (omega (arith, h)) e
    ∙ ap (λ (xs : List ℕ). Some (return_ending xs)) (drop-cons bs (suc k) 0 h)
    ∙ ap (λ (t : Bool). Some (if t then CarriageReturnLineFeed else CarriageReturn)) f

pub last_here : (bs : List ℕ) (k : ℕ) → k < length bs → length bs ≤ suc k → (get_or bs k 0 == line_feed) ≡ false → ending_here (drop k bs) ≡ Some CarriageReturn
last_here bs k h l e = return_here bs k h e ∙ ap (λ (xs : List ℕ). Some (return_ending xs)) (drop_all (suc k) bs l)

-- ---- as code tests it

not_feed : (x : ℕ) (b : Bool) → (x == line_feed) ≡ b → (x ≡ line_feed → ⊥) → (x == line_feed) ≡ false
not_feed x true e h = absurd (h (eqb-true x line_feed e))
not_feed x false e h = e

next_is : (k : ℕ) → suc k ≡ k + 1
next_is k = omega arith

pub feed_at : (bs : List ℕ) (k : ℕ) → k < length bs → get_or bs k 0 ≡ line_feed → ending_here (drop k bs) ≡ Some LineFeed
feed_at bs k h e = line_feed_here bs k h (ap (λ (x : ℕ). x == line_feed) e)

pub both_at : (bs : List ℕ) (k : ℕ) → k + 1 < length bs → (get_or bs k 0 ≡ line_feed → ⊥) → get_or bs (k + 1) 0 ≡ line_feed
    → ending_here (drop k bs) ≡ Some CarriageReturnLineFeed
both_at bs k h e f =
    both_here bs k (omega (arith, h)) (not_feed (get_or bs k 0) (get_or bs k 0 == line_feed) refl e)
    (ap (λ (i : ℕ). get_or bs i 0 == line_feed) (next_is k) ∙ ap (λ (x : ℕ). x == line_feed) f)

pub alone_at : (bs : List ℕ) (k : ℕ) → k + 1 < length bs → (get_or bs k 0 ≡ line_feed → ⊥) → (get_or bs (k + 1) 0 ≡ line_feed → ⊥)
    → ending_here (drop k bs) ≡ Some CarriageReturn
alone_at bs k h e f =
    alone_here bs k (omega (arith, h)) (not_feed (get_or bs k 0) (get_or bs k 0 == line_feed) refl e)
    (ap (λ (i : ℕ). get_or bs i 0 == line_feed) (next_is k) ∙ not_feed (get_or bs (k + 1) 0) (get_or bs (k + 1) 0 == line_feed) refl f)

pub last_at : (bs : List ℕ) (k : ℕ) → k < length bs → length bs ≤ k + 1 → (get_or bs k 0 ≡ line_feed → ⊥) → ending_here (drop k bs) ≡ Some CarriageReturn
last_at bs k h l e = last_here bs k h (omega (arith, l)) (not_feed (get_or bs k 0) (get_or bs k 0 == line_feed) refl e)
