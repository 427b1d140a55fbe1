-- Lines at the front of a text are the lines of their bytes, and frontmatter is such lines (CommonMark 2.1).
use Rattle.std.proofs.Common.{◌≡◌, inl, inr, ◌<◌, ◌≤◌, ◌+◌, ℕ, Bool, false, List, [], ◌∷◌, ◌++◌, Option, None, Some, eqb, refl, sym, ap, ap₂, ◌∙◌, arith, length, drop, length-append, append_assoc}
use Rattle.parse_events.proofs.Prelude.{after_frontmatter, after_return, cases_Bool, cond-false, cond-true, Constructs, ending_text, flat_map-append}
use Rattle.parse_events.proofs.Prelude.{in_first_line, joined, lines, lines_joined, text_line, TextLine}
use Rattle.markdown_options.specs.declared.line_ending.LineEnding.TheVariants.{CarriageReturnLineFeed, CarriageReturn, LineFeed}
use Rattle.parse_raw.proofs.MetadataLines.{front_lines}
use Rattle.parse_raw.proofs.Runs.{metadata_size}

abbrev Line : Type 0
Line = TextLine

abbrev head_or : Line → List Line → Line
head_or d [] = d
head_or d (l ∷ ls) = l

heads : (l m : Line) (ls ms : List Line) → l ∷ ls ≡ m ∷ ms → l ≡ m
heads l m ls ms is = ap (head_or l) is

tails : (l m : Line) (ls ms : List Line) → l ∷ ls ≡ m ∷ ms → ls ≡ ms
tails l m ls ms is = ap (drop 1) is

none_before : (ls ms : List Line) → [] ≡ ls ++ ms → ls ≡ []
none_before [] ms is = refl
none_before (l ∷ ls) ms is = let wrong : 0 ≡ length (l ∷ (ls ++ ms)) = ap length is in absurd (omega (arith, wrong))

joined_both : (ls ms : List Line) → joined (ls ++ ms) ≡ joined ls ++ joined ms
joined_both ls ms = flat_map-append (λ (line : Line). line.content ++ ending_text line.ending) ls ms

-- ---- the lines of bytes at the front

abbrev begins_feed : List ℕ → Bool
begins_feed [] = false
begins_feed (x ∷ xs) = eqb x 10

after_bare_return : (xs : List ℕ) → begins_feed xs ≡ false → lines (13 ∷ xs) ≡ text_line [] (Some CarriageReturn) ∷ lines xs
after_bare_return [] other = refl
after_bare_return (x ∷ xs) other = cond-false (eqb x 10) _ _ other

same_first : (xs ys : List ℕ) (c : ℕ) (cs : List ℕ) → xs ++ ys ≡ c ∷ cs → eqb c 10 ≡ false → begins_feed xs ≡ false
same_first [] ys c cs is other = refl
same_first (x ∷ xs) ys c cs is other = ap begins_feed is ∙ other

-- lines at the front of these bytes are the lines of their own bytes
abbrev FrontsAreLines : List ℕ → Type 0
FrontsAreLines bs = (front others : List Line) → lines bs ≡ front ++ others → lines (joined front) ≡ front

front_return : (bs : List ℕ) (f : Line) (fs others : List Line) → FrontsAreLines bs → after_return bs (lines bs) ≡ f ∷ (fs ++ others)
    → lines (joined (f ∷ fs)) ≡ f ∷ fs
front_return [] f fs others so_far is =
    let own = text_line [] (Some CarriageReturn) in
    let first : own ≡ f = heads own f [] (fs ++ others) is in
    let none : fs ≡ [] = none_before fs others (tails own f [] (fs ++ others) is) in
    ap₂ (λ (l : Line) (ls : List Line). lines (joined (l ∷ ls))) (sym first) none ∙ ap₂ (λ (l : Line) (ls : List Line). l ∷ ls) first (sym none)
front_return (c ∷ cs) f fs others so_far is =
    elim (cases_Bool (eqb c 10)) [
      | inl e ↦
          let own = text_line [] (Some CarriageReturnLineFeed) in
          let feed = text_line [] (Some LineFeed) in
          let line : lines (c ∷ cs) ≡ feed ∷ lines cs = cond-true (eqb c 10) _ _ e in
          let here : after_return (c ∷ cs) (lines (c ∷ cs)) ≡ own ∷ drop 1 (lines (c ∷ cs)) = cond-true (eqb c 10) _ _ e in
          let parts : own ∷ lines cs ≡ f ∷ (fs ++ others) = sym (here ∙ ap (λ (ls : List Line). own ∷ drop 1 ls) line) ∙ is in
          let first : own ≡ f = heads own f (lines cs) (fs ++ others) parts in
          let all : lines (c ∷ cs) ≡ (feed ∷ fs) ++ others = line ∙ ap (λ (ls : List Line). feed ∷ ls) (tails own f (lines cs) (fs ++ others) parts) in
          let more : lines (joined fs) ≡ fs = tails feed feed (lines (joined fs)) fs (so_far (feed ∷ fs) others all) in
          ap (λ (l : Line). lines (joined (l ∷ fs))) (sym first) ∙ ap (λ (ls : List Line). own ∷ ls) more ∙ ap (λ (l : Line). l ∷ fs) first
      | inr e ↦
          let own = text_line [] (Some CarriageReturn) in
          let here : after_return (c ∷ cs) (lines (c ∷ cs)) ≡ own ∷ lines (c ∷ cs) = cond-false (eqb c 10) _ _ e in
          let parts : own ∷ lines (c ∷ cs) ≡ f ∷ (fs ++ others) = sym here ∙ is in
          let first : own ≡ f = heads own f (lines (c ∷ cs)) (fs ++ others) parts in
          let rest : lines (c ∷ cs) ≡ fs ++ others = tails own f (lines (c ∷ cs)) (fs ++ others) parts in
          let bytes : joined fs ++ joined others ≡ c ∷ cs = sym (joined_both fs others) ∙ ap joined (sym rest) ∙ lines_joined (c ∷ cs) in
          ap (λ (l : Line). lines (joined (l ∷ fs))) (sym first)
          ∙ after_bare_return (joined fs) (same_first (joined fs) (joined others) c cs bytes e)
          ∙ ap (λ (ls : List Line). own ∷ ls) (so_far fs others rest)
          ∙ ap (λ (l : Line). l ∷ fs) first
    ]

-- a byte that begins no ending
front_byte : (b : ℕ) (bs : List ℕ) (all : List Line) (f : Line) (fs others : List Line) → ((xs : List ℕ) → lines (b ∷ xs) ≡ in_first_line b (lines xs))
    → lines bs ≡ all → FrontsAreLines bs → in_first_line b all ≡ f ∷ (fs ++ others) → lines (joined (f ∷ fs)) ≡ f ∷ fs
front_byte b bs [] f fs others plain known so_far is =
    let own = text_line (b ∷ []) None in
    let first : own ≡ f = heads own f [] (fs ++ others) is in
    let none : fs ≡ [] = none_before fs others (tails own f [] (fs ++ others) is) in
    ap₂ (λ (l : Line) (ls : List Line). lines (joined (l ∷ ls))) (sym first) none
    ∙ plain [] ∙ ap₂ (λ (l : Line) (ls : List Line). l ∷ ls) first (sym none)
front_byte b bs (l ∷ ls) f fs others plain known so_far is =
    let own = text_line (b ∷ l.content) l.ending in
    let first : own ≡ f = heads own f ls (fs ++ others) is in
    let more : lines (joined (l ∷ fs)) ≡ l ∷ fs =
    so_far (l ∷ fs) others (known ∙ ap (λ (xs : List Line). l ∷ xs) (tails own f ls (fs ++ others) is)) in
    ap (λ (x : Line). lines (joined (x ∷ fs))) (sym first) ∙ plain (joined (l ∷ fs)) ∙ ap (in_first_line b) more ∙ ap (λ (x : Line). x ∷ fs) first

lines_of_front : (text : List ℕ) (front others : List Line) → lines text ≡ front ++ others → lines (joined front) ≡ front
lines_of_front text [] others is = refl
lines_of_front [] (f ∷ fs) others is = let wrong : 0 ≡ length (f ∷ (fs ++ others)) = ap length is in absurd (omega (arith, wrong))
lines_of_front (b ∷ bs) (f ∷ fs) others is =
    elim (cases_Bool (eqb b 10)) [
      | inl e ↦
          let own = text_line [] (Some LineFeed) in
          let parts : own ∷ lines bs ≡ f ∷ (fs ++ others) = sym (cond-true (eqb b 10) _ _ e) ∙ is in
          let first : own ≡ f = heads own f (lines bs) (fs ++ others) parts in
          ap (λ (l : Line). lines (joined (l ∷ fs))) (sym first)
          ∙ ap (λ (ls : List Line). own ∷ ls) (lines_of_front bs fs others (tails own f (lines bs) (fs ++ others) parts))
          ∙ ap (λ (l : Line). l ∷ fs) first
      | inr e ↦ elim (cases_Bool (eqb b 13)) [
        | inl h ↦
            front_return bs f fs others (λ front left. lines_of_front bs front left)
            (sym (cond-false (eqb b 10) _ _ e ∙ cond-true (eqb b 13) _ _ h) ∙ is)
        | inr h ↦
            front_byte b bs (lines bs) f fs others (λ xs. cond-false (eqb b 10) _ _ e ∙ cond-false (eqb b 13) _ _ h) refl
            (λ front left. lines_of_front bs front left)
            (sym (cond-false (eqb b 10) _ _ e ∙ cond-false (eqb b 13) _ _ h) ∙ is)
      ]
    ]

-- ---- frontmatter

-- a text begins with these lines, which are frontmatter, and this is left of it
pub record FrontParts (text left : List ℕ) (others : List Line) : Type 0 where
  pub front : List Line
  pub parts : lines text ≡ front ++ others
  pub bytes : text ≡ joined front ++ left
  pub own : lines (joined front) ≡ front
  pub some : 0 < length (joined front)

pub front_parts : (on : Constructs) (text left : List ℕ) (others : List Line) → after_frontmatter on (lines text) ≡ Some others → lines left ≡ others
    → FrontParts text left others
front_parts on text left others found is =
    let fl = front_lines on (lines text) others found in
    let front = fl.first ∷ (fl.mids ++ fl.last ∷ []) in
    let after = joined (fl.mids ++ fl.last ∷ []) in
    let parts : lines text ≡ front ++ others = fl.parts ∙ ap (λ (xs : List Line). fl.first ∷ xs) (sym (append_assoc fl.mids (fl.last ∷ []) others)) in
    let size : length (joined front) ≡ (length fl.first.content + length (ending_text fl.first.ending)) + length after =
    length-append (fl.first.content ++ ending_text fl.first.ending) after
    ∙ ap (λ (k : ℕ). k + length after) (length-append fl.first.content (ending_text fl.first.ending)) in
    record {
      front = front;
      parts = parts;
      bytes =
          sym (lines_joined text) ∙ ap joined parts ∙ joined_both front others
          ∙ ap (λ (xs : List ℕ). joined front ++ xs) (ap joined (sym is) ∙ lines_joined left);
      own = lines_of_front text front others parts;
      some = omega (arith, size, metadata_size fl.first.content fl.first_is);
    }

-- where nothing is left out of a text, no frontmatter is found
no_front_if : (on : Constructs) (text left : List ℕ) (found : Option (List Line)) → after_frontmatter on (lines text) ≡ found
    → ((others : List Line) → after_frontmatter on (lines text) ≡ Some others → lines left ≡ others) → length text ≤ length left → found ≡ None
no_front_if on text left None is lines_are size = refl
no_front_if on text left (Some others) is lines_are size =
    let fp = front_parts on text left others is (lines_are others is) in
    let all : length text ≡ length (joined fp.front) + length left = ap length fp.bytes ∙ length-append (joined fp.front) left in
    absurd (omega (arith, all, size, fp.some))

pub no_front : (on : Constructs) (text left : List ℕ) → ((others : List Line) → after_frontmatter on (lines text) ≡ Some others → lines left ≡ others)
    → length text ≤ length left → after_frontmatter on (lines text) ≡ None
no_front on text left lines_are size = no_front_if on text left (after_frontmatter on (lines text)) refl lines_are size

-- where something is, it is frontmatter
pub record SomeFront (on : Constructs) (text left : List ℕ) : Type 0 where
  pub others : List Line
  pub found : after_frontmatter on (lines text) ≡ Some others
  pub parts : FrontParts text left others

some_front_if : (on : Constructs) (text left : List ℕ) (found : Option (List Line)) → after_frontmatter on (lines text) ≡ found
    → (after_frontmatter on (lines text) ≡ None → left ≡ text)
    → ((others : List Line) → after_frontmatter on (lines text) ≡ Some others → lines left ≡ others) → length left < length text → SomeFront on text left
some_front_if on text left None is all lines_are size = let same = ap length (all is) in absurd (omega (arith, same, size))
some_front_if on text left (Some others) is all lines_are size =
    record { others = others; found = is; parts = front_parts on text left others is (lines_are others is) }

pub some_front : (on : Constructs) (text left : List ℕ) → (after_frontmatter on (lines text) ≡ None → left ≡ text)
    → ((others : List Line) → after_frontmatter on (lines text) ≡ Some others → lines left ≡ others) → length left < length text → SomeFront on text left
some_front on text left all lines_are size = some_front_if on text left (after_frontmatter on (lines text)) refl all lines_are size
