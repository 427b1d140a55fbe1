-- What is left of a content, as the definition has it.
use Rattle.std.proofs.Common.{◌≡◌, ℕ, ◌+◌, ◌-◌, ◌<◌, ◌≤◌, Bool, List, [], ◌∷◌, refl, sym, ap, ◌∙◌, length, arith, drop}
use Rattle.std.proofs.lemmas.List.{drop-drop}
use Rattle.inline_parser.proofs.Prelude.{codes_of, codes_of_view, Content, content_codes, content_view, drop-codes_of, InlineCode, IsAfter, IsPlace, IsRest}
use Rattle.inline_parser.proofs.Prelude.{size_before, view_at}
use Rattle.inline_links.proofs.Cuts.{codes_some}

-- a rest of a rest
pub rest_of_rest : (content rest after : List ℕ) → IsRest content rest → IsRest rest after → IsRest content after
rest_of_rest content rest after a b =
    let n = length content - length rest in
    let m = length rest - length after in
    let there : n + m ≡ length content - length after = omega (arith, a.within, b.within) in
    record {
      within = omega (arith, a.within, b.within);
      place =
          b.place ∙ ap (drop m) a.place ∙ drop-drop m n content
          ∙ ap (λ k. drop k content) there;
    }

-- what follows some codes of a rest
pub record IsNext (rest after : List ℕ) : Type 0 where
  pub rest_of : IsRest rest after
  pub fewer : length (content_codes after) ≤ length (content_codes rest)
  pub codes : content_codes after ≡ drop (size_before rest after) (content_codes rest)

pub next_place : (content rest after : List ℕ) → IsPlace content rest → IsNext rest after → IsPlace content after
next_place content rest after p n =
    let there : size_before content rest + size_before rest after ≡ size_before content after = omega (arith, p.fewer, n.fewer) in
    record {
      rest_of = rest_of_rest content rest after p.rest_of n.rest_of;
      fewer = omega (arith, p.fewer, n.fewer);
      codes =
          n.codes ∙ ap (drop (size_before rest after)) p.codes ∙ drop-drop (size_before rest after) (size_before content rest) (content_codes content)
          ∙ ap (λ k. drop k (content_codes content)) there;
    }

pub after_next : (rest after : List ℕ) → IsAfter rest after → IsNext rest after
after_next rest after a = record {
  rest_of = record { within = omega (arith, a.shorter); place = a.place };
  fewer = omega (arith, a.fewer);
  codes = a.codes;
}

module _ (p : ℕ → Bool) (content : Content) where
  -- the codes of what is left
  pub codes_left : (rest : List ℕ) → IsPlace content.text.now rest → codes_of (view_at p content rest) ≡ content_codes rest
  codes_left rest place =
      drop-codes_of (size_before content.text.now rest) (content_view p content) ∙ ap (drop (size_before content.text.now rest)) (codes_of_view p content)
      ∙ sym place.codes

  -- what is left after some codes of it
  pub view_next : (rest after : List ℕ) → IsPlace content.text.now rest → IsNext rest after
      → drop (size_before rest after) (view_at p content rest) ≡ view_at p content after
  view_next rest after place n =
      let there : size_before content.text.now rest + size_before rest after ≡ size_before content.text.now after = omega (arith, place.fewer, n.fewer) in
      drop-drop (size_before rest after) (size_before content.text.now rest) (content_view p content)
      ∙ ap (λ k. drop k (content_view p content)) there

  -- a code and those after it
  pub record IsSome (rest : List ℕ) : Type 0 where
    pub first : InlineCode
    pub others : List InlineCode
    pub is : view_at p content rest ≡ first ∷ others

  some_of : (view : List InlineCode) (rest : List ℕ) → codes_of view ≡ content_codes rest → 0 < length (content_codes rest) → (InlineCode × List InlineCode)
  some_of (c ∷ cs) rest e some = (c, cs)
  some_of [] rest e some = absurd (omega (arith, ap length e, some))

  some_is : (view : List InlineCode) (rest : List ℕ) (e : codes_of view ≡ content_codes rest) (some : 0 < length (content_codes rest))
      → view ≡ (some_of view rest e some).0 ∷ (some_of view rest e some).1
  unfolding some_of
  some_is (c ∷ cs) rest e some = refl
  some_is [] rest e some = absurd (omega (arith, ap length e, some))

  codes_count : (rest : List ℕ) → 0 < length rest → 0 < length (content_codes rest)
  codes_count [] some = absurd (omega (arith, some))
  codes_count (b ∷ bs) some = let first = codes_some b bs in omega (arith, ap length first.2)

  pub some_left : (rest : List ℕ) → IsPlace content.text.now rest → 0 < length rest → IsSome rest
  some_left rest place some =
      let e = codes_left rest place in
      let more = codes_count rest some in
      record {
        first = (some_of (view_at p content rest) rest e more).0;
        others = (some_of (view_at p content rest) rest e more).1;
        is = some_is (view_at p content rest) rest e more;
      }
