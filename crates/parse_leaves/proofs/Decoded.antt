-- The bytes of a content are told by its codes (CommonMark 2.1).
use Rattle.std.proofs.Common.{◌≡◌, ℕ, suc, ◌<◌, false, eqb, ◌||◌, if◌then◌else◌, List, [], ◌∷◌, ◌++◌, Option, None, Some, refl, sym, ap, ◌∙◌, inl, inr, get_or, map, arith}
use Rattle.parse_leaves.proofs.Prelude.{after_return_code, AreContentLines, AreLines, block_line, BlockLine, cases_Bool, code_byte, cond-false, cond-true}
use Rattle.parse_leaves.proofs.Prelude.{content_codes, content_text, ending_text, eqb-true, flat_map, flat_map-cons, HaveNoEnding, is_eol, line_text}
use Rattle.parse_leaves.proofs.Prelude.{LineEnding, ne_eqb, or_parts}
use Rattle.markdown_options.specs.declared.line_ending.LineEnding.TheVariants.{CarriageReturnLineFeed, CarriageReturn, LineFeed}
use Rattle.definition_text.specs.Ascii.{carriage_return, line_feed}
use Rattle.definition_text.specs.Content.{return_and_feed}

-- the bytes of a code of a content
abbrev pub code_bytes : ℕ → List ℕ
code_bytes code = if eqb code return_and_feed then carriage_return ∷ line_feed ∷ [] else code ∷ []

-- none of these is the code of CR LF, as no byte is
abbrev pub AreSingle : List ℕ → Type 0
AreSingle [] = Unit {0}
AreSingle (b ∷ bs) = (eqb b return_and_feed ≡ false) × AreSingle bs

one_code : (b : ℕ) (codes : List ℕ) → eqb b 257 ≡ false → flat_map code_bytes (b ∷ codes) ≡ b ∷ flat_map code_bytes codes
one_code b codes single =
    flat_map-cons code_bytes b codes
    ∙ ap (λ (xs : List ℕ). xs ++ flat_map code_bytes codes) (cond-false (eqb b 257) (13 ∷ 10 ∷ []) (b ∷ []) single)

-- bytes are those of their codes
decoded : (bs : List ℕ) → AreSingle bs → flat_map code_bytes (content_codes bs) ≡ bs
decoded [] single = refl
decoded (b ∷ []) single = elim (cases_Bool (eqb b 13)) [
  | inl r ↦ ap (flat_map code_bytes) (cond-true (eqb b 13) (13 ∷ []) (b ∷ []) r) ∙ ap (λ x. x ∷ []) (sym (eqb-true b 13 r))
  | inr o ↦ ap (flat_map code_bytes) (cond-false (eqb b 13) (13 ∷ []) (b ∷ []) o) ∙ one_code b [] single.0
]
decoded (b ∷ d ∷ bs) single =
    let rest = decoded (d ∷ bs) single.1 in
    let codes = content_codes (d ∷ bs) in
    elim (cases_Bool (eqb b 13)) [
      | inl r ↦
          let is : b ≡ 13 = eqb-true b 13 r in
          let first : content_codes (b ∷ d ∷ bs) ≡ after_return_code (d ∷ bs) codes =
          cond-true (eqb b 13) (after_return_code (d ∷ bs) codes) (b ∷ codes) r in
          elim (cases_Bool (eqb d 10)) [
            | inl f ↦
                let ten : d ≡ 10 = eqb-true d 10 f in
                let apart : eqb d 13 ≡ false = ne_eqb d 13 (λ e. omega (arith, e, ten)) in
                let more : codes ≡ d ∷ content_codes bs =
                cond-false (eqb d 13) (after_return_code bs (content_codes bs)) (d ∷ content_codes bs) apart in
                let inner = decoded bs single.1.1 in
                ap (flat_map code_bytes) (first ∙ cond-true (eqb d 10) _ _ f ∙ ap (λ xs. 257 ∷ drop_one xs) more)
                ∙ flat_map-cons code_bytes 257 (content_codes bs)
                ∙ ap (λ (xs : List ℕ). 13 ∷ 10 ∷ xs) inner
                ∙ ap (λ x. x ∷ 10 ∷ bs) (sym is) ∙ ap (λ x. b ∷ x ∷ bs) (sym ten)
            | inr n ↦
                ap (flat_map code_bytes) (first ∙ cond-false (eqb d 10) _ _ n)
                ∙ flat_map-cons code_bytes 13 codes ∙ ap (λ (xs : List ℕ). 13 ∷ xs) rest ∙ ap (λ x. x ∷ d ∷ bs) (sym is)
          ]
      | inr o ↦
          ap (flat_map code_bytes) (cond-false (eqb b 13) (after_return_code (d ∷ bs) codes) (b ∷ codes) o)
          ∙ one_code b codes single.0 ∙ ap (λ (xs : List ℕ). b ∷ xs) rest
    ]
  where
    drop_one : List ℕ → List ℕ
    drop_one [] = []
    drop_one (x ∷ xs) = xs

-- bytes with the same codes are the same
pub same_bytes : (bs cs : List ℕ) → AreSingle bs → AreSingle cs → content_codes bs ≡ content_codes cs → bs ≡ cs
same_bytes bs cs p q same = sym (decoded bs p) ∙ ap (flat_map code_bytes) same ∙ decoded cs q

-- ---- which bytes are so

pub bytes_single : (bs : List ℕ) → ((k : ℕ) → get_or bs k 0 < 256) → AreSingle bs
bytes_single [] small = tt
bytes_single (b ∷ bs) small = (ne_eqb b 257 (λ e. omega (arith, e, small 0)), bytes_single bs (λ k. small (suc k)))

single_both : (bs cs : List ℕ) → AreSingle bs → AreSingle cs → AreSingle (bs ++ cs)
single_both [] cs p q = q
single_both (b ∷ bs) cs p q = (p.0, single_both bs cs p.1 q)

single_byte : (c : ℕ) → is_eol c ≡ false → eqb (code_byte c) 257 ≡ false
single_byte c apart = elim (cases_Bool (eqb c 256)) [
  | inl is ↦ ap (λ x. eqb x 257) (cond-true (eqb c 256) 32 c is)
  | inr other ↦ ap (λ x. eqb x 257) (cond-false (eqb c 256) 32 c other) ∙ (or_parts (eqb c 10 || eqb c 13) (eqb c 257) apart).1
]

single_codes : (codes : List ℕ) → HaveNoEnding codes → AreSingle (map code_byte codes)
single_codes [] apart = tt
single_codes (c ∷ cs) apart = (single_byte c apart.0, single_codes cs apart.1)

single_ending : (ending : Option LineEnding) → AreSingle (ending_text ending)
single_ending None = tt
single_ending (Some LineFeed) = (refl, tt)
single_ending (Some CarriageReturn) = (refl, tt)
single_ending (Some CarriageReturnLineFeed) = (refl, (refl, tt))

single_line : (line : BlockLine) → HaveNoEnding line.codes → AreSingle (line_text line)
single_line line apart = single_both (map code_byte line.codes) (ending_text line.ending) (single_codes line.codes apart) (single_ending line.ending)

lines_single : (ls : List BlockLine) → AreLines ls → AreSingle (content_text ls)
lines_single [] h = tt
lines_single (line ∷ []) h = single_both (line_text (block_line line.codes None line.before)) [] (single_line (block_line line.codes None line.before) h.0) tt
lines_single (line ∷ next ∷ others) h =
    single_both (line_text line) (content_text (next ∷ others)) (single_line line h.0) (lines_single (next ∷ others) h.3)

-- the bytes of the lines of a content
pub content_single : (ls : List BlockLine) → AreContentLines ls → AreSingle (content_text ls)
content_single [] h = tt
content_single (line ∷ []) h = single_both (line_text (block_line line.codes None line.before)) [] (single_line (block_line line.codes None line.before) h) tt
content_single (line ∷ next ∷ others) h = lines_single (line ∷ next ∷ others) h
