-- The byte order mark of a text with another line ending in place of each LF.
use Rattle.std.proofs.Common.{◌≡◌, ℕ, Bool, true, false, cond, eqb, ◌&&◌, List, [], ◌∷◌, ◌++◌, refl, sym, ap, ◌∙◌, drop}
use Rattle.laws_endings.proofs.Prelude.{and_left, and_parts, and_right, ending_bytes, eqb-true, has_mark, kind_before_text, LineEnding, true≢false}
use Rattle.laws_endings.proofs.Prelude.{with_ending, without_mark}
use Rattle.markdown_options.specs.declared.line_ending.LineEnding.TheVariants.{CarriageReturnLineFeed, CarriageReturn, LineFeed}
use Rattle.markdown_options.specs.declared.beside.Kind.TheVariants.{Whitespace, Other}
use Rattle.laws_endings.proofs.Neighbours.{no_feed}
use Rattle.laws_endings.proofs.Bytes.{byte-kept}

-- where one of its bytes is another there is no mark
no_first : (a : ℕ) (bs : List ℕ) → eqb a 239 ≡ false → has_mark (a ∷ bs) ≡ false
no_first a [] h = refl
no_first a (b ∷ []) h = refl
no_first a (b ∷ c ∷ cs) h = and_left (eqb a 239 && eqb b 187) (eqb c 191) (and_left (eqb a 239) (eqb b 187) h)

no_second : (a b : ℕ) (bs : List ℕ) → eqb b 187 ≡ false → has_mark (a ∷ b ∷ bs) ≡ false
no_second a b [] h = refl
no_second a b (c ∷ cs) h = and_left (eqb a 239 && eqb b 187) (eqb c 191) (and_right (eqb a 239) (eqb b 187) h)

no_third : (a b c : ℕ) (bs : List ℕ) → eqb c 191 ≡ false → has_mark (a ∷ b ∷ c ∷ bs) ≡ false
no_third a b c bs h = and_right (eqb a 239 && eqb b 187) (eqb c 191) h

-- LF is none of them
feed_no : (a b : ℕ) → eqb b 10 ≡ true → eqb 10 a ≡ false → eqb b a ≡ false
feed_no a b h k = ap (λ x. eqb x a) (eqb-true b 10 h) ∙ k

module _ (e : LineEnding) where
  first_ending : (ending : LineEnding) (bs : List ℕ) → has_mark (ending_bytes ending ++ bs) ≡ false
  first_ending CarriageReturnLineFeed bs = no_first 13 (10 ∷ bs) refl
  first_ending CarriageReturn bs = no_first 13 bs refl
  first_ending LineFeed bs = no_first 10 bs refl

  second_ending : (ending : LineEnding) (a : ℕ) (bs : List ℕ) → has_mark (a ∷ (ending_bytes ending ++ bs)) ≡ false
  second_ending CarriageReturnLineFeed a bs = no_second a 13 (10 ∷ bs) refl
  second_ending CarriageReturn a bs = no_second a 13 bs refl
  second_ending LineFeed a bs = no_second a 10 bs refl

  third_ending : (ending : LineEnding) (a b : ℕ) (bs : List ℕ) → has_mark (a ∷ b ∷ (ending_bytes ending ++ bs)) ≡ false
  third_ending CarriageReturnLineFeed a b bs = no_third a b 13 (10 ∷ bs) refl
  third_ending CarriageReturn a b bs = no_third a b 13 bs refl
  third_ending LineFeed a b bs = no_third a b 10 bs refl

  third_by : (a b c : ℕ) (cs : List ℕ) (feed : Bool) → eqb c 10 ≡ feed
      → has_mark (a ∷ b ∷ (cond feed (ending_bytes e) (c ∷ []) ++ with_ending e cs)) ≡ has_mark (a ∷ b ∷ c ∷ cs)
  third_by a b c cs true h = third_ending e a b (with_ending e cs) ∙ sym (no_third a b c cs (feed_no 191 c h refl))
  third_by a b c cs false h = refl

  third : (a b : ℕ) (cs : List ℕ) → has_mark (a ∷ b ∷ with_ending e cs) ≡ has_mark (a ∷ b ∷ cs)
  third a b [] = refl
  third a b (c ∷ cs) = third_by a b c cs (eqb c 10) refl

  second_by : (a b : ℕ) (bs : List ℕ) (feed : Bool) → eqb b 10 ≡ feed
      → has_mark (a ∷ (cond feed (ending_bytes e) (b ∷ []) ++ with_ending e bs)) ≡ has_mark (a ∷ b ∷ bs)
  second_by a b bs true h = second_ending e a (with_ending e bs) ∙ sym (no_second a b bs (feed_no 187 b h refl))
  second_by a b bs false h = third a b bs

  second : (a : ℕ) (bs : List ℕ) → has_mark (a ∷ with_ending e bs) ≡ has_mark (a ∷ bs)
  second a [] = refl
  second a (b ∷ bs) = second_by a b bs (eqb b 10) refl

  first_by : (a : ℕ) (bs : List ℕ) (feed : Bool) → eqb a 10 ≡ feed
      → has_mark (cond feed (ending_bytes e) (a ∷ []) ++ with_ending e bs) ≡ has_mark (a ∷ bs)
  first_by a bs true h = first_ending e (with_ending e bs) ∙ sym (no_first a bs (feed_no 239 a h refl))
  first_by a bs false h = second a bs

  pub has_mark-with : (text : List ℕ) → has_mark (with_ending e text) ≡ has_mark text
  has_mark-with [] = refl
  has_mark-with (a ∷ bs) = first_by a bs (eqb a 10) refl

  -- the mark goes, and what follows it stays
  dropped : (text : List ℕ) → has_mark text ≡ true → drop 3 (with_ending e text) ≡ with_ending e (drop 3 text)
  dropped [] h = refl
  dropped (a ∷ []) h = absurd (true≢false (sym h))
  dropped (a ∷ b ∷ []) h = absurd (true≢false (sym h))
  dropped (a ∷ b ∷ c ∷ cs) h =
      let p = and_parts (eqb a 239 && eqb b 187) (eqb c 191) h in
      let q = and_parts (eqb a 239) (eqb b 187) p.0 in
      let clear : (n x : ℕ) → eqb 10 n ≡ false → eqb x n ≡ true → eqb x 10 ≡ false = λ n x no is. no_feed (λ y. eqb y n) x no is in
      let more = with_ending e cs in
      ap (λ x. drop 3 (x ++ with_ending e (b ∷ c ∷ cs))) (byte-kept e a (clear 239 a refl q.0))
      ∙ ap (λ x. drop 3 (a ∷ (x ++ with_ending e (c ∷ cs)))) (byte-kept e b (clear 187 b refl q.1))
      ∙ ap (λ x. drop 3 (a ∷ b ∷ (x ++ more))) (byte-kept e c (clear 191 c refl p.1))

  without_by : (text : List ℕ) (marked : Bool) → has_mark text ≡ marked
      → cond marked (drop 3 (with_ending e text)) (with_ending e text) ≡ with_ending e (cond marked (drop 3 text) text)
  without_by text true h = dropped text h
  without_by text false h = refl

  pub without_mark-with : (text : List ℕ) → without_mark (with_ending e text) ≡ with_ending e (without_mark text)
  without_mark-with text =
      ap (λ marked. cond marked (drop 3 (with_ending e text)) (with_ending e text)) (has_mark-with text) ∙ without_by text (has_mark text) refl

  pub kind_before-with : (text : List ℕ) → kind_before_text (with_ending e text) ≡ kind_before_text text
  kind_before-with text = ap (λ marked. cond marked Other Whitespace) (has_mark-with text)
