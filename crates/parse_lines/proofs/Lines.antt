-- A text is its lines, one after another, each with its ending.
use Rattle.std.proofs.Common.{◌≡◌, ℕ, ◌<◌, List, [], ◌∷◌, ◌++◌, Option, Some, eqb, refl, sym, ap, ◌∙◌, inl, inr, drop, length, arith, append_assoc, Bool}
use Rattle.std.proofs.Common.{false, ◌||◌, None, ◌+◌, ◌-◌, ap₂, get_or}
use Rattle.parse_lines.proofs.Prelude.{cases_Bool, cond-false, cond-true, ending_text, ends_line, eqb-true, Kind, LineEnding, LineRest, lines, list_any}
use Rattle.parse_lines.proofs.Prelude.{or_parts, text_line, TextLine, unread}
use Rattle.parse_lines.proofs.Spots.{get_over}
use Rattle.std.specs.List.{flat_map}
use Rattle.markdown_options.specs.declared.line_ending.LineEnding.TheVariants.{CarriageReturnLineFeed, CarriageReturn, LineFeed}
use Rattle.definition_text.specs.Lines.{first_of, in_first_line, after_return}

-- the bytes of lines with their endings
abbrev pub joined : List TextLine → List ℕ
joined ls = flat_map (λ (line : TextLine). line.content ++ ending_text line.ending) ls

joined_first : (b : ℕ) (ls : List TextLine) → joined (in_first_line b ls) ≡ b ∷ joined ls
joined_first b [] = refl
joined_first b (line ∷ others) = refl

-- a CR, and what follows it
joined_return : (bs : List ℕ) → joined (lines bs) ≡ bs → joined (after_return bs (lines bs)) ≡ 13 ∷ bs
joined_return [] h = refl
joined_return (c ∷ cs) h =
    elim (cases_Bool (eqb c 10)) [
      | inl e ↦
          let is : lines (c ∷ cs) ≡ text_line [] (Some LineFeed) ∷ lines cs = cond-true (eqb c 10) _ _ e in
          let rest : 10 ∷ joined (lines cs) ≡ c ∷ cs = sym (ap joined is) ∙ h in
          ap joined (cond-true (eqb c 10) _ _ e)
          ∙ ap (λ (ls : List TextLine). 13 ∷ 10 ∷ joined (drop 1 ls)) is
          ∙ ap (λ (xs : List ℕ). 13 ∷ xs) rest
      | inr e ↦ ap joined (cond-false (eqb c 10) _ _ e) ∙ ap (λ (xs : List ℕ). 13 ∷ xs) h
    ]

pub lines_joined : (text : List ℕ) → joined (lines text) ≡ text
lines_joined [] = refl
lines_joined (b ∷ bs) =
    elim (cases_Bool (eqb b 10)) [
      | inl e ↦
          ap joined (cond-true (eqb b 10) _ _ e)
          ∙ ap (λ (xs : List ℕ). 10 ∷ xs) (lines_joined bs)
          ∙ ap (λ (n : ℕ). n ∷ bs) (sym (eqb-true b 10 e))
      | inr e ↦ ap joined (cond-false (eqb b 10) _ _ e) ∙ (elim (cases_Bool (eqb b 13)) [
        | inl f ↦
            ap joined (cond-true (eqb b 13) _ _ f)
            ∙ joined_return bs (lines_joined bs)
            ∙ ap (λ (n : ℕ). n ∷ bs) (sym (eqb-true b 13 f))
        | inr f ↦
            ap joined (cond-false (eqb b 13) _ _ f)
            ∙ joined_first b (lines bs)
            ∙ ap (λ (xs : List ℕ). b ∷ xs) (lines_joined bs)
      ])
    ]

-- a text with a first line: its content, its ending, and what follows
pub line_first : (text content after : List ℕ) (ending : Option LineEnding) → lines text ≡ text_line content ending ∷ lines after
    → text ≡ content ++ (ending_text ending ++ after)
line_first text content after ending is =
    sym (lines_joined text) ∙ ap joined is ∙ ap (λ (xs : List ℕ). (content ++ ending_text ending) ++ xs) (lines_joined after)
    ∙ append_assoc content (ending_text ending) after

-- a text of which a line is left isn't empty
pub some_left : (kind : Kind) (text : List ℕ) (next : LineRest) (others : List LineRest) → next ∷ others ≡ unread kind (lines text) → 0 < length text
some_left kind [] next others is = absurd (cc)
some_left kind (b ∷ bs) next others is = omega arith

-- ---- endings

first_in : (b : ℕ) (ls : List TextLine) → (first_of (in_first_line b ls)).content ≡ b ∷ (first_of ls).content
first_in b [] = refl
first_in b (line ∷ others) = refl

dark_return : (bs : List ℕ) (ls : List TextLine) → (first_of (after_return bs ls)).content ≡ []
dark_return [] ls = refl
dark_return (c ∷ cs) ls =
    elim (cases_Bool (eqb c 10)) [
      | inl e ↦ ap (λ (l : List TextLine). (first_of l).content) (cond-true (eqb c 10) _ _ e)
      | inr e ↦ ap (λ (l : List TextLine). (first_of l).content) (cond-false (eqb c 10) _ _ e)
    ]

-- the first line of a text holds no byte that begins an ending
dark_first : (text : List ℕ) → list_any ends_line (first_of (lines text)).content ≡ false
dark_first [] = refl
dark_first (b ∷ bs) =
    elim (cases_Bool (eqb b 10)) [
      | inl e ↦ ap (λ (l : List TextLine). list_any ends_line (first_of l).content) (cond-true (eqb b 10) _ _ e)
      | inr e ↦ ap (λ (l : List TextLine). list_any ends_line (first_of l).content) (cond-false (eqb b 10) _ _ e) ∙ (elim (cases_Bool (eqb b 13)) [
        | inl f ↦
            ap (λ (l : List TextLine). list_any ends_line (first_of l).content) (cond-true (eqb b 13) _ _ f)
            ∙ ap (list_any ends_line) (dark_return bs (lines bs))
        | inr f ↦
            ap (λ (l : List TextLine). list_any ends_line (first_of l).content) (cond-false (eqb b 13) _ _ f)
            ∙ ap (list_any ends_line) (first_in b (lines bs))
            ∙ ap (λ (x : Bool). (x || eqb b 13) || list_any ends_line (first_of (lines bs)).content) e
            ∙ ap (λ (x : Bool). x || list_any ends_line (first_of (lines bs)).content) f
            ∙ dark_first bs
      ])
    ]

pub dark_line : (text content after : List ℕ) (ending : Option LineEnding) → lines text ≡ text_line content ending ∷ lines after
    → list_any ends_line content ≡ false
dark_line text content after ending is = sym (ap (λ (l : List TextLine). list_any ends_line (first_of l).content) is) ∙ dark_first text

last_in : (b : ℕ) (ls : List TextLine) → (first_of (in_first_line b ls)).ending ≡ None → ((first_of ls).ending ≡ None → drop 1 ls ≡ [])
    → drop 1 (in_first_line b ls) ≡ []
last_in b [] none h = refl
last_in b (line ∷ others) none h = h none

some_return : (bs : List ℕ) (ls : List TextLine) → (first_of (after_return bs ls)).ending ≡ None → ⊥
some_return [] ls none = cc
some_return (c ∷ cs) ls none =
    elim (cases_Bool (eqb c 10)) [
      | inl e ↦
          let f : Some CarriageReturnLineFeed ≡ None = sym (ap (λ (l : List TextLine). (first_of l).ending) (cond-true (eqb c 10) _ _ e)) ∙ none in cc
      | inr e ↦ let f : Some CarriageReturn ≡ None = sym (ap (λ (l : List TextLine). (first_of l).ending) (cond-false (eqb c 10) _ _ e)) ∙ none in cc
    ]

-- only the last line has no ending
last_first : (text : List ℕ) → (first_of (lines text)).ending ≡ None → drop 1 (lines text) ≡ []
last_first [] none = refl
last_first (b ∷ bs) none =
    elim (cases_Bool (eqb b 10)) [
      | inl e ↦
          let f : Some LineFeed ≡ None = sym (ap (λ (l : List TextLine). (first_of l).ending) (cond-true (eqb b 10) _ _ e)) ∙ none in absurd (cc)
      | inr e ↦
          elim (cases_Bool (eqb b 13)) [
            | inl f ↦
                absurd (some_return bs (lines bs) (
                sym (ap (λ (l : List TextLine). (first_of l).ending) (cond-false (eqb b 10) _ _ e ∙ cond-true (eqb b 13) _ _ f)) ∙ none
                ))
            | inr f ↦
                let is : lines (b ∷ bs) ≡ in_first_line b (lines bs) = cond-false (eqb b 10) _ _ e ∙ cond-false (eqb b 13) _ _ f in
                ap (drop 1) is ∙ last_in b (lines bs) (sym (ap (λ (l : List TextLine). (first_of l).ending) is) ∙ none) (last_first bs)
          ]
    ]

pub last_line : (text content after : List ℕ) (ending : Option LineEnding) → lines text ≡ text_line content ending ∷ lines after → ending ≡ None
    → after ≡ []
last_line text content after ending is none =
    let others : lines after ≡ [] =
    ap (drop 1) (sym is) ∙ last_first text (ap (λ (l : List TextLine). (first_of l).ending) is ∙ none) in
    sym (lines_joined after) ∙ ap joined others

-- ---- CR and LF are one ending

first_kept : (b : ℕ) (ls : List TextLine) → (first_of (in_first_line b ls)).ending ≡ (first_of ls).ending
first_kept b [] = refl
first_kept b (line ∷ others) = refl

return_feed : (content bs : List ℕ) → list_any ends_line content ≡ false → (first_of (lines (content ++ 13 ∷ 10 ∷ bs))).ending ≡ Some CarriageReturnLineFeed
return_feed [] bs dark = refl
return_feed (b ∷ content) bs dark =
    let parts = or_parts (ends_line b) (list_any ends_line content) dark in
    let no = or_parts (eqb b 10) (eqb b 13) parts.0 in
    ap (λ (ls : List TextLine). (first_of ls).ending)
    (cond-false (eqb b 10) _ _ no.0 ∙ cond-false (eqb b 13) _ _ no.1)
    ∙ first_kept b (lines (content ++ 13 ∷ 10 ∷ bs)) ∙ return_feed content bs parts.1

feed_first : (bs : List ℕ) → get_or bs 0 0 ≡ 10 → bs ≡ 10 ∷ drop 1 bs
feed_first [] is = absurd (omega (arith, is))
feed_first (b ∷ bs) is = ap (λ (k : ℕ). k ∷ bs) is

-- no LF is after a line that ends with CR
pub apart_line : (text content after : List ℕ) (ending : Option LineEnding) → lines text ≡ text_line content ending ∷ lines after
    → ending ≡ Some CarriageReturn → get_or after 0 0 ≡ 10 → ⊥
apart_line text content after ending is return feed =
    let parts : text ≡ content ++ (13 ∷ 10 ∷ drop 1 after) =
    line_first text content after ending is
    ∙ ap₂ (λ (e : Option LineEnding) (xs : List ℕ). content ++ (ending_text e ++ xs)) return (feed_first after feed) in
    let both : Some CarriageReturnLineFeed ≡ Some CarriageReturn =
    sym (return_feed content (drop 1 after) (dark_line text content after ending is)) ∙ ap (λ (xs : List ℕ). (first_of (lines xs)).ending) (sym parts)
    ∙ ap (λ (ls : List TextLine). (first_of ls).ending) is ∙ return in
    let no : 2 ≡ 1 = ap (λ (e : Option LineEnding). length (ending_text e)) both in
    absurd (omega (arith, no))

-- nor is the place after it between the two
pub apart_after : (text front left : List ℕ) (ending : LineEnding) → text ≡ front ++ (ending_text (Some ending) ++ left)
    → (ending ≡ CarriageReturn → get_or left 0 0 ≡ 10 → ⊥) → 0 < length front + length (ending_text (Some ending))
    → get_or text ((length front + length (ending_text (Some ending))) - 1) 0 ≡ 13 → get_or text (length front + length (ending_text (Some ending))) 0 ≡ 10 → ⊥
apart_after text front left LineFeed is apart some before after =
    let last : (length front + 1) - 1 ≡ length front + 0 = omega arith in
    let byte : get_or text ((length front + 1) - 1) 0 ≡ 10 =
    ap₂ (λ (xs : List ℕ) (k : ℕ). get_or xs k 0) is last ∙ get_over front (10 ∷ left) 0 in
    absurd (omega (arith, before, byte))
apart_after text front left CarriageReturn is apart some before after =
    let next : get_or left 0 0 ≡ 10 =
    sym (get_over front (13 ∷ left) 1) ∙ ap (λ (xs : List ℕ). get_or xs (length front + 1) 0) (sym is) ∙ after in
    apart refl next
apart_after text front left CarriageReturnLineFeed is apart some before after =
    let last : (length front + 2) - 1 ≡ length front + 1 = omega arith in
    let byte : get_or text ((length front + 2) - 1) 0 ≡ 10 =
    ap₂ (λ (xs : List ℕ) (k : ℕ). get_or xs k 0) is last ∙ get_over front (13 ∷ 10 ∷ left) 1 in
    absurd (omega (arith, before, byte))
