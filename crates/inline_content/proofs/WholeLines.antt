-- The lines of a text, which stand right after another.
use Rattle.std.proofs.Common.{◌≡◌, ◌≢◌, ℕ, suc, ◌+◌, ◌-◌, ◌≤◌, ◌<◌, Bool, false, eqb, List, [], ◌∷◌, ◌++◌, Option, Some, refl, sym, ap, ◌∙◌}
use Rattle.std.proofs.Common.{length, take, drop, get_or, subst, arith, inl, inr}
use Rattle.inline_content.proofs.Prelude.{append-nil, cases_Bool, code_byte, codes_with_marks, cond-false, cond-true, content_text, drop_all, ending_bytes}
use Rattle.inline_content.proofs.Prelude.{ending_text, eq-eqb, eqb-true, HaveNoEnding, inline_content, is_eol, Kind, line_text, LineEnding, map, ne_eqb}
use Rattle.inline_content.proofs.Prelude.{or_from, own_lines, take-append-drop, without_last}
use Rattle.std.proofs.lemmas.Bool.{cond_both}
use Rattle.markdown_options.specs.declared.line_ending.LineEnding.TheVariants.{CarriageReturnLineFeed, CarriageReturn, LineFeed}
use Rattle.definition_text.specs.Lines.{TextLine, text_line, in_first_line, after_return, lines}
use Rattle.text_pieces.specs.Pieces.{whole_line, whole_lines}
use Rattle.inline_content.proofs.Lined.{AreApart, Agree, content_is, head_clear}

-- ---- the lines of a text are apart

-- an empty line that an LF ends
abbrev IsFeed : TextLine → Type 0
IsFeed line = (line.content ≡ []) × (line.ending ≡ Some LineFeed)

abbrev AreTextLines : List TextLine → Type 0
AreTextLines [] = Unit {0}
AreTextLines (line ∷ []) = HaveNoEnding line.content
AreTextLines (line ∷ next ∷ others) =
    HaveNoEnding line.content × ((e : LineEnding) × (line.ending ≡ Some e) × (e ≡ CarriageReturn → IsFeed next → ⊥)) × AreTextLines (next ∷ others)

abbrev FirstNoFeed : List TextLine → Type 0
FirstNoFeed [] = Unit {0}
FirstNoFeed (line ∷ others) = IsFeed line → ⊥

others_are : (ls : List TextLine) → AreTextLines ls → AreTextLines (drop 1 ls)
others_are [] h = tt
others_are (line ∷ []) h = tt
others_are (line ∷ next ∷ others) h = h.2

after_empty : (e : LineEnding) (ls : List TextLine) → (e ≡ CarriageReturn → FirstNoFeed ls) → AreTextLines ls → AreTextLines (text_line [] (Some e) ∷ ls)
after_empty e [] n h = tt
after_empty e (line ∷ others) n h = (tt, (e, refl, n), h)

lf-cr : LineFeed ≡ CarriageReturn → ⊥
lf-cr e = let f = ap (λ x. length (ending_bytes x)) e in let g = ap (λ x. get_or (ending_bytes x) 0 0) e in omega (arith, g)

crlf-cr : CarriageReturnLineFeed ≡ CarriageReturn → ⊥
crlf-cr e = let f = ap (λ x. length (ending_bytes x)) e in omega (arith, f)

-- what begins with another byte than LF begins with no such line
no_feed : (b : ℕ) (bs : List ℕ) → eqb b 10 ≡ false → FirstNoFeed (lines (b ∷ bs))
no_feed b bs h = elim (cases_Bool (eqb b 13)) [
  | inl r ↦ subst FirstNoFeed (sym (cond-false (eqb b 10) _ _ h ∙ cond-true (eqb b 13) _ _ r)) (returned bs (lines bs))
  | inr o ↦ subst FirstNoFeed (sym (cond-false (eqb b 10) _ _ h ∙ cond-false (eqb b 13) _ _ o)) (filled (lines bs))
]
  where
    returned : (bs : List ℕ) (ls : List TextLine) → FirstNoFeed (after_return bs ls)
    returned [] ls = λ f. let g = ap (λ o. get_or (ending_text o) 0 0) f.1 in omega (arith, g)
    returned (d ∷ ds) ls = elim (cases_Bool (eqb d 10)) [
      | inl t ↦ subst FirstNoFeed (sym (cond-true (eqb d 10) _ _ t)) (λ f. let g = ap (λ o. get_or (ending_text o) 0 0) f.1 in omega (arith, g))
      | inr u ↦ subst FirstNoFeed (sym (cond-false (eqb d 10) _ _ u)) (λ f. let g = ap (λ o. get_or (ending_text o) 0 0) f.1 in omega (arith, g))
    ]

    filled : (ls : List TextLine) → FirstNoFeed (in_first_line b ls)
    filled [] = λ f. let g = ap length f.0 in omega (arith, g)
    filled (line ∷ others) = λ f. let g = ap length f.0 in omega (arith, g)

in_first : (b : ℕ) (ls : List TextLine) → is_eol b ≡ false → AreTextLines ls → AreTextLines (in_first_line b ls)
in_first b [] clear h = (clear, tt)
in_first b (line ∷ []) clear h = (clear, h)
in_first b (line ∷ next ∷ others) clear h = ((clear, h.0), h.1, h.2)

are_lines : (text : List ℕ) → ((k : ℕ) → get_or text k 0 < 256) → AreTextLines (lines text)
are_lines [] h = tt
are_lines (b ∷ bs) h =
    let others = are_lines bs (λ k. h (suc k)) in
    elim (cases_Bool (eqb b 10)) [
      | inl f ↦ subst AreTextLines (sym (cond-true (eqb b 10) _ _ f)) (after_empty LineFeed (lines bs) (λ e. absurd (lf-cr e)) others)
      | inr n ↦ elim (cases_Bool (eqb b 13)) [
        | inl r ↦ subst AreTextLines (sym (cond-false (eqb b 10) _ _ n ∙ cond-true (eqb b 13) _ _ r)) (returned bs others)
        | inr o ↦
            subst AreTextLines (sym (cond-false (eqb b 10) _ _ n ∙ cond-false (eqb b 13) _ _ o))
            (in_first b (lines bs) (or_from _ (eqb b 257) (or_from (eqb b 10) (eqb b 13) n o) (ne_eqb b 257 (λ e. omega (arith, e, h 0)))) others)
      ]
    ]
  where
    returned : (bs : List ℕ) → AreTextLines (lines bs) → AreTextLines (after_return bs (lines bs))
    returned [] k = tt
    returned (d ∷ ds) k = elim (cases_Bool (eqb d 10)) [
      | inl t ↦ subst AreTextLines (sym (cond-true (eqb d 10) _ _ t)) (after_empty CarriageReturnLineFeed (drop 1 (lines (d ∷ ds))) (λ e. absurd (crlf-cr e))
          (others_are (lines (d ∷ ds)) k))
      | inr u ↦ subst AreTextLines (sym (cond-false (eqb d 10) _ _ u)) (after_empty CarriageReturn (lines (d ∷ ds)) (λ _. no_feed d ds u) k)
    ]

-- the first byte of lines isn't LF
no_feed_first : (line : TextLine) (others : List TextLine) → AreTextLines (line ∷ others) → (IsFeed line → ⊥)
    → get_or (content_text (map whole_line (line ∷ others))) 0 0 ≡ 10 → ⊥
no_feed_first line [] h n e =
    alone line.content h (ap (λ l. get_or l 0 0) (sym (append-nil (map code_byte line.content ++ []) ∙ append-nil (map code_byte line.content))) ∙ e)
  where
    alone : (cs : List ℕ) → HaveNoEnding cs → get_or (map code_byte cs) 0 0 ≡ 10 → ⊥
    alone [] h e = omega (arith, e)
    alone (c ∷ cs) h e = head_clear c h.0 e
no_feed_first line (next ∷ others) h n e = go line.content refl
  where
    rest : List ℕ
    rest = content_text (map whole_line (next ∷ others))

    empty : (o : Option LineEnding) (k : LineEnding) → o ≡ Some k → (o ≡ Some LineFeed → ⊥) → (xs : List ℕ) → get_or (ending_text o ++ xs) 0 0 ≡ 10 → ⊥
    empty o LineFeed is apart xs e = apart is
    empty o CarriageReturn is apart xs e = let f = ap (λ x. get_or (ending_text x ++ xs) 0 0) (sym is) ∙ e in omega (arith, f)
    empty o CarriageReturnLineFeed is apart xs e = let f = ap (λ x. get_or (ending_text x ++ xs) 0 0) (sym is) ∙ e in omega (arith, f)

    go : (cs : List ℕ) → line.content ≡ cs → ⊥
    go [] is = empty line.ending h.1.0 h.1.1 (λ f. n (is, f)) (content_text (map whole_line (next ∷ others)))
        (ap (λ cs. get_or ((map code_byte cs ++ ending_text line.ending) ++ content_text (map whole_line (next ∷ others))) 0 0) (sym is) ∙ e)
    go (c ∷ cs) is =
        head_clear c (subst HaveNoEnding is h.0).0
        (ap (λ cs. get_or ((map code_byte cs ++ ending_text line.ending) ++ content_text (map whole_line (next ∷ others))) 0 0) (sym is) ∙ e)

apart : (ls : List TextLine) → AreTextLines ls → AreApart (map whole_line ls)
apart [] h = tt
apart (line ∷ []) h = h
apart (line ∷ next ∷ others) h = (h.0, (h.1.0, h.1.1, λ return. no_feed_first next others h.2 (h.1.2 return)), apart (next ∷ others) h.2)

whole_apart : (text : List ℕ) → ((k : ℕ) → get_or text k 0 < 256) → AreApart (whole_lines text)
whole_apart text h = apart (lines text) (are_lines text h)

-- without marks they are what they are in the text
pub whole_view : (p : ℕ → Bool) (end : Kind) (text : List ℕ) → ((k : ℕ) → get_or text k 0 < 256)
    → codes_with_marks p end [] (content_text (whole_lines text)) ≡ inline_content p end (own_lines (whole_lines text))
whole_view p end text h = content_is p end [] (whole_lines text) (whole_apart text h) (agree 0 (lines text))
  where
    agree : (place : ℕ) (ls : List TextLine) → Agree p [] place (map whole_line ls)
    agree place [] = tt
    agree place (line ∷ others) = (refl, agree (place + length (line_text (whole_line line))) others)

-- ---- the content of a text's lines is the text without its last ending

abbrev without_ending : List ℕ → List ℕ
without_ending text = without_last 13 (without_last 10 text)

-- one byte more
no_return : (b : ℕ) (bs : List ℕ) → (bs ≡ [] → eqb b 13 ≡ false) → without_last 13 (b ∷ bs) ≡ b ∷ without_last 13 bs
no_return b [] h = cond-false (eqb b 13) [] (b ∷ []) (h refl)
no_return b (c ∷ cs) h = refl

some_left : (d : ℕ) (ds : List ℕ) → eqb d 10 ≡ false → without_last 10 (d ∷ ds) ≡ [] → ⊥
some_left d [] h e = let k = ap length (sym (cond-false (eqb d 10) [] (d ∷ []) h) ∙ e) in omega (arith, k)
some_left d (e ∷ es) h none = let k = ap length none in omega (arith, k)

byte_more : (b d : ℕ) (ds : List ℕ) → eqb b 13 ≡ false → without_ending (b ∷ d ∷ ds) ≡ b ∷ without_ending (d ∷ ds)
byte_more b d ds h = no_return b (without_last 10 (d ∷ ds)) (λ _. h)

return_more : (d : ℕ) (ds : List ℕ) → eqb d 10 ≡ false → without_ending (13 ∷ d ∷ ds) ≡ 13 ∷ without_ending (d ∷ ds)
return_more d ds h = no_return 13 (without_last 10 (d ∷ ds)) (λ none. absurd (some_left d ds h none))

-- the content of lines
some_line : (d : ℕ) (ds : List ℕ) → 1 ≤ length (lines (d ∷ ds))
some_line d ds =
    cond_both (eqb d 10) _ _ (λ ls. 1 ≤ length ls) (λ _. omega arith)
    (λ _. cond_both (eqb d 13) _ _ (λ ls. 1 ≤ length ls) (λ _. returned ds (lines ds)) (λ _. filled (lines ds)))
  where
    returned : (bs : List ℕ) (ls : List TextLine) → 1 ≤ length (after_return bs ls)
    returned [] ls = omega arith
    returned (b ∷ bs) ls = cond_both (eqb b 10) _ _ (λ ls. 1 ≤ length ls) (λ _. omega arith) (λ _. omega arith)

    filled : (ls : List TextLine) → 1 ≤ length (in_first_line d ls)
    filled [] = omega arith
    filled (line ∷ others) = omega arith

abbrev content : List TextLine → List ℕ
content ls = content_text (map whole_line ls)

empty_first : (e : LineEnding) (ls : List TextLine) → 1 ≤ length ls → content (text_line [] (Some e) ∷ ls) ≡ ending_bytes e ++ content ls
empty_first e [] some = absurd (omega (arith, some))
empty_first e (line ∷ others) some = refl

byte_first : (b : ℕ) (ls : List TextLine) → b < 256 → content (in_first_line b ls) ≡ b ∷ content ls
byte_first b ls small = first ls ∙ ap (λ x. x ∷ content ls) (cond-false (eqb b 256) 32 b (ne_eqb b 256 (λ e. omega (arith, e, small))))
  where
    first : (ls : List TextLine) → content (in_first_line b ls) ≡ code_byte b ∷ content ls
    first [] = refl
    first (line ∷ []) = refl
    first (line ∷ next ∷ others) = refl

pub whole_content_is : (text : List ℕ) → ((k : ℕ) → get_or text k 0 < 256) → content_text (whole_lines text) ≡ without_ending text
whole_content_is [] h = refl
whole_content_is (b ∷ []) h = elim (cases_Bool (eqb b 10)) [
  | inl f ↦ subst (λ b. content (lines (b ∷ [])) ≡ without_ending (b ∷ [])) (sym (eqb-true b 10 f)) refl
  | inr n ↦ elim (cases_Bool (eqb b 13)) [
    | inl r ↦ subst (λ b. content (lines (b ∷ [])) ≡ without_ending (b ∷ [])) (sym (eqb-true b 13 r)) refl
    | inr o ↦
        ap content (cond-false (eqb b 10) _ _ n ∙ cond-false (eqb b 13) _ _ o) ∙ byte_first b [] (h 0)
        ∙ sym (ap (without_last 13) (cond-false (eqb b 10) [] (b ∷ []) n) ∙ cond-false (eqb b 13) [] (b ∷ []) o)
  ]
]
whole_content_is (b ∷ d ∷ ds) h =
    let more = whole_content_is (d ∷ ds) (λ k. h (suc k)) in
    elim (cases_Bool (eqb b 10)) [
      | inl f ↦ subst (λ b. content (lines (b ∷ d ∷ ds)) ≡ without_ending (b ∷ d ∷ ds)) (sym (eqb-true b 10 f))
          (empty_first LineFeed (lines (d ∷ ds)) (some_line d ds) ∙ ap (λ x. 10 ∷ x) more ∙ sym (byte_more 10 d ds refl))
      | inr n ↦ elim (cases_Bool (eqb b 13)) [
        | inl r ↦ subst (λ b. content (lines (b ∷ d ∷ ds)) ≡ without_ending (b ∷ d ∷ ds)) (sym (eqb-true b 13 r))
            (elim (cases_Bool (eqb d 10)) [
              | inl t ↦ subst (λ d. content (lines (13 ∷ d ∷ ds)) ≡ without_ending (13 ∷ d ∷ ds)) (sym (eqb-true d 10 t))
                  (both ds (whole_content_is ds (λ k. h (suc (suc k)))))
              | inr u ↦
                  ap content (cond-false (eqb d 10) _ _ u) ∙ empty_first CarriageReturn (lines (d ∷ ds)) (some_line d ds)
                  ∙ ap (λ x. 13 ∷ x) more ∙ sym (return_more d ds u)
            ])
        | inr o ↦
            ap content (cond-false (eqb b 10) _ _ n ∙ cond-false (eqb b 13) _ _ o) ∙ byte_first b (lines (d ∷ ds)) (h 0)
            ∙ ap (λ x. b ∷ x) more ∙ sym (byte_more b d ds o)
      ]
    ]
  where
    both : (ds : List ℕ) → content (lines ds) ≡ without_ending ds → content (lines (13 ∷ 10 ∷ ds)) ≡ without_ending (13 ∷ 10 ∷ ds)
    both [] more = refl
    both (e ∷ es) more =
        empty_first CarriageReturnLineFeed (lines (e ∷ es)) (some_line e es) ∙ ap (λ x. 13 ∷ 10 ∷ x) more
        ∙ ap (λ x. 13 ∷ x) (sym (byte_more 10 e es refl))

-- ---- a byte that is cut off the end of a text

pub last_cut : (b : ℕ) (front : List ℕ) → without_last b (front ++ b ∷ []) ≡ front
last_cut b [] = cond-true (eqb b b) [] (b ∷ []) (eq-eqb b b refl)
last_cut b (c ∷ []) = ap (λ x. c ∷ x) (last_cut b [])
last_cut b (c ∷ d ∷ ds) = ap (λ x. c ∷ x) (last_cut b (d ∷ ds))

pub none_cut : (b : ℕ) (text : List ℕ) → ((front : List ℕ) → text ≢ front ++ b ∷ []) → without_last b text ≡ text
none_cut b [] other = refl
none_cut b (c ∷ []) other = cond-false (eqb c b) [] (c ∷ []) (ne_eqb c b (λ e. other [] (ap (λ x. x ∷ []) e)))
none_cut b (c ∷ d ∷ ds) other = ap (λ x. c ∷ x) (none_cut b (d ∷ ds) (λ front e. other (c ∷ front) (ap (λ x. c ∷ x) e)))

-- what stands before the byte
pub cut_at : (b n : ℕ) (text front : List ℕ) → front ≡ take (length text - n) text → drop (length text - n) text ≡ b ∷ drop (length text) text
    → without_last b text ≡ front
cut_at b n text front is split =
    let at = length text - n in
    ap (without_last b) (sym (take-append-drop at text)
    ∙ ap (λ x. x ++ drop at text) (sym is)
    ∙ ap (λ x. front ++ x) (split ∙ ap (λ x. b ∷ x) (drop_all (length text) text (omega arith))))
    ∙ last_cut b front
