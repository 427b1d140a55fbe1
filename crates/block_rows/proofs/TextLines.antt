-- A text and its lines.
use Rattle.std.proofs.Common.{◌≡◌, ℕ, ◌<◌, true, false, eqb, List, [], ◌∷◌, ◌++◌, Option, None, Some, refl, sym, ap, ◌∙◌, get_or, inl, inr, length, drop}
use Rattle.std.proofs.Common.{append_assoc, zero, suc, arith}
use Rattle.std.specs.List.{flat_map}
use Rattle.std.proofs.lemmas.List.{length-append}
use Rattle.std.proofs.lemmas.List.Concat.{flat_map-append}
use Rattle.std.proofs.lemmas.Bool.{cases_Bool, cond-true, cond-false, eqb-true, ne_eqb, true≢false}
use Rattle.markdown_options.specs.declared.line_ending.LineEnding.{LineEnding}
use Rattle.markdown_options.specs.declared.line_ending.LineEnding.TheVariants.{CarriageReturnLineFeed, CarriageReturn, LineFeed}
use Rattle.definition_text.specs.Lines.{TextLine, text_line, first_of, in_first_line, after_return, lines, ending_text}
use Rattle.definition_text.specs.Content.{is_eol}
use Rattle.text_pieces.specs.ParagraphLines.{HaveNoEnding}
use Rattle.block_rows.proofs.OpenLines.{AreTextLines}

-- ---- a text is the bytes of its lines

abbrev pub line_bytes : TextLine → List ℕ
line_bytes line = line.content ++ ending_text line.ending

abbrev pub text_of : List TextLine → List ℕ
text_of ls = flat_map line_bytes ls

first_byte : (b : ℕ) (ls : List TextLine) → text_of (in_first_line b ls) ≡ b ∷ text_of ls
first_byte b [] = refl
first_byte b (line ∷ others) = refl

pub text_back : (text : List ℕ) → text_of (lines text) ≡ text
text_back [] = refl
text_back (b ∷ bs) = elim (cases_Bool (eqb b 10)) [
  | inl feed ↦
      ap text_of (cond-true (eqb b 10) _ _ feed) ∙ ap (λ xs. 10 ∷ xs) (text_back bs) ∙ ap (λ x. x ∷ bs) (sym (eqb-true b 10 feed))
  | inr other ↦ elim (cases_Bool (eqb b 13)) [
    | inl return ↦
        ap text_of (cond-false (eqb b 10) _ _ other ∙ cond-true (eqb b 13) _ _ return) ∙ returned bs (text_back bs)
        ∙ ap (λ x. x ∷ bs) (sym (eqb-true b 13 return))
    | inr none ↦
        ap text_of (cond-false (eqb b 10) _ _ other ∙ cond-false (eqb b 13) _ _ none) ∙ first_byte b (lines bs) ∙ ap (λ xs. b ∷ xs) (text_back bs)
  ]
]
  where
    returned : (bs : List ℕ) → text_of (lines bs) ≡ bs → text_of (after_return bs (lines bs)) ≡ 13 ∷ bs
    returned [] h = refl
    returned (d ∷ ds) h = elim (cases_Bool (eqb d 10)) [
      | inl feed ↦
          let is : lines (d ∷ ds) ≡ text_line [] (Some LineFeed) ∷ lines ds = cond-true (eqb d 10) _ _ feed in
          ap text_of (cond-true (eqb d 10) _ _ feed) ∙ ap (λ (xs : List TextLine). 13 ∷ 10 ∷ text_of (drop 1 xs)) is
          ∙ ap (λ xs. 13 ∷ xs) (ap text_of (sym is) ∙ h)
      | inr other ↦ ap text_of (cond-false (eqb d 10) _ _ other) ∙ ap (λ xs. 13 ∷ xs) h
    ]

-- those of the first line come first
pub first_bytes : (text rest : List ℕ) (line : TextLine) → lines text ≡ line ∷ lines rest → text ≡ line_bytes line ++ rest
first_bytes text rest line h = sym (text_back text) ∙ ap text_of h ∙ ap (λ xs. line_bytes line ++ xs) (text_back rest)

-- ---- the first line of bytes

-- these bytes stand before lines
abbrev pub with_front : List ℕ → List TextLine → List TextLine
with_front [] ls = ls
with_front (c ∷ cs) ls = in_first_line c (with_front cs ls)

pub other_byte : (c e : ℕ) → is_eol e ≡ true → is_eol c ≡ false → eqb c e ≡ false
other_byte c e is h = ne_eqb c e (λ same. true≢false (sym is ∙ ap is_eol (sym same) ∙ h))

pub front_read : (cs rest : List ℕ) → HaveNoEnding cs → lines (cs ++ rest) ≡ with_front cs (lines rest)
front_read [] rest h = refl
front_read (c ∷ cs) rest h =
    cond-false (eqb c 10) _ _ (other_byte c 10 refl h.0) ∙ cond-false (eqb c 13) _ _ (other_byte c 13 refl h.0)
    ∙ ap (in_first_line c) (front_read cs rest h.1)

pub front_line : (cs : List ℕ) (ending : Option LineEnding) (others : List TextLine)
    → with_front cs (text_line [] ending ∷ others) ≡ text_line cs ending ∷ others
front_line [] ending others = refl
front_line (c ∷ cs) ending others = ap (in_first_line c) (front_line cs ending others)

pub front_end : (c : ℕ) (cs : List ℕ) → with_front (c ∷ cs) [] ≡ text_line (c ∷ cs) None ∷ []
front_end c [] = refl
front_end c (d ∷ ds) = ap (in_first_line c) (front_end d ds)

-- no LF stands there
abbrev pub NoFeed : List ℕ → Type 0
NoFeed [] = Unit {0}
NoFeed (b ∷ bs) = eqb b 10 ≡ false

-- what may follow an ending: no LF follows a CR
abbrev pub MayFollow : LineEnding → List ℕ → Type 0
MayFollow CarriageReturnLineFeed rest = Unit {0}
MayFollow CarriageReturn rest = NoFeed rest
MayFollow LineFeed rest = Unit {0}

pub no_feed_follows : (e : LineEnding) (rest : List ℕ) → NoFeed rest → MayFollow e rest
no_feed_follows CarriageReturnLineFeed rest h = tt
no_feed_follows CarriageReturn rest h = h
no_feed_follows LineFeed rest h = tt

pub ending_read : (e : LineEnding) (rest : List ℕ) → MayFollow e rest → lines (ending_text (Some e) ++ rest) ≡ text_line [] (Some e) ∷ lines rest
ending_read LineFeed rest h = refl
ending_read CarriageReturnLineFeed rest h = refl
ending_read CarriageReturn [] h = refl
ending_read CarriageReturn (b ∷ bs) h = cond-false (eqb b 10) _ _ h

-- ---- lines at the front of a text

front_follows : (e : LineEnding) (xs ys : List ℕ) → MayFollow e (xs ++ ys) → MayFollow e xs
front_follows CarriageReturnLineFeed xs ys h = tt
front_follows CarriageReturn [] ys h = tt
front_follows CarriageReturn (x ∷ xs) ys h = h
front_follows LineFeed xs ys h = tt

-- a line with an ending, and what may follow it
line_first : (content : List ℕ) (e : LineEnding) (rest : List ℕ) → HaveNoEnding content → MayFollow e rest
    → lines ((content ++ ending_text (Some e)) ++ rest) ≡ text_line content (Some e) ∷ lines rest
line_first content e rest clear follows =
    ap lines (append_assoc content (ending_text (Some e)) rest)
    ∙ front_read content (ending_text (Some e) ++ rest) clear
    ∙ ap (with_front content) (ending_read e rest follows)
    ∙ front_line content (Some e) (lines rest)

-- what follows a first line with an ending
after_line : (content : List ℕ) (e : LineEnding) (rest : List ℕ) (others : List TextLine) → HaveNoEnding content
    → lines ((content ++ ending_text (Some e)) ++ rest) ≡ text_line content (Some e) ∷ others → MayFollow e rest × (lines rest ≡ others)
after_line content e rest others clear h =
    let follows = follow e rest (sym (front_read content (ending_text (Some e) ++ rest) clear)
    ∙ ap lines (sym (append_assoc content (ending_text (Some e)) rest)) ∙ h) in
    (follows, ap (drop 1) (sym (line_first content e rest clear follows) ∙ h))
  where
    follow : (e : LineEnding) (rest : List ℕ) → with_front content (lines (ending_text (Some e) ++ rest)) ≡ text_line content (Some e) ∷ others
        → MayFollow e rest
    follow CarriageReturnLineFeed rest h = tt
    follow CarriageReturn [] h = tt
    follow CarriageReturn (b ∷ bs) h = elim (cases_Bool (eqb b 10)) [
      | inl feed ↦
          let both = Some CarriageReturnLineFeed in
          let is = sym (front_line content both (drop 1 (lines (b ∷ bs)))) ∙ ap (with_front content) (sym (cond-true (eqb b 10) _ _ feed)) ∙ h in
          let wrong : both ≡ Some CarriageReturn = ap (λ ls. (first_of ls).ending) is in
          cc
      | inr other ↦ other
    ]
    follow LineFeed rest h = tt

-- a line that others follow
ended_line : (line : TextLine) (others : List TextLine) → 0 < length others → AreTextLines (line ∷ others)
    → HaveNoEnding line.content × ((e : LineEnding) × (line.ending ≡ Some e)) × AreTextLines others
ended_line line [] some h = absurd (omega (arith, some))
ended_line line (next ∷ others) some h = h

pub lines_of_front : (read : List TextLine) (rest : List ℕ) → lines (text_of read ++ rest) ≡ read ++ lines rest → AreTextLines (read ++ lines rest)
    → 0 < length (lines rest) → lines (text_of read) ≡ read
lines_of_front [] rest h clear some = refl
lines_of_front (line ∷ others) rest h clear some =
    let t = text_of others in
    let parts = ended_line line (others ++ lines rest) (omega (arith, some, length-append others (lines rest))) clear in
    let e = parts.1.0 in
    let is = parts.1.1 in
    let after = after_line line.content e (t ++ rest) (others ++ lines rest) parts.0
    (ap (λ o. lines ((line.content ++ ending_text o) ++ (t ++ rest))) (sym is) ∙ ap lines (sym (append_assoc (line_bytes line) t rest)) ∙ h
    ∙ ap (λ o. text_line line.content o ∷ (others ++ lines rest)) is) in
    ap (λ o. lines ((line.content ++ ending_text o) ++ t)) is
    ∙ line_first line.content e t parts.0 (front_follows e t rest after.0)
    ∙ ap (λ o. text_line line.content o ∷ lines t) (sym is)
    ∙ ap (λ x. line ∷ x) (lines_of_front others rest after.1 parts.2 some)

-- lines of a text are the front of it
pub front_of_text : (text rest : List ℕ) (read : List TextLine) → lines text ≡ read ++ lines rest → text ≡ text_of read ++ rest
front_of_text text rest read h =
    sym (text_back text) ∙ ap text_of h ∙ flat_map-append line_bytes read (lines rest) ∙ ap (λ x. text_of read ++ x) (text_back rest)

-- ---- bytes

pub front_bytes : (xs ys : List ℕ) → ((k : ℕ) → get_or (xs ++ ys) k 0 < 256) → (k : ℕ) → get_or xs k 0 < 256
front_bytes [] ys h k = omega arith
front_bytes (x ∷ xs) ys h zero = h 0
front_bytes (x ∷ xs) ys h (suc k) = front_bytes xs ys (λ i. h (suc i)) k

pub later_bytes : (xs ys : List ℕ) → ((k : ℕ) → get_or (xs ++ ys) k 0 < 256) → (k : ℕ) → get_or ys k 0 < 256
later_bytes [] ys h k = h k
later_bytes (x ∷ xs) ys h k = later_bytes xs ys (λ i. h (suc i)) k
