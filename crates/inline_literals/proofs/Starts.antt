-- What a literal begins with, in bytes and in codes.
use Rattle.std.proofs.Common.{◌≡◌, ℕ, zero, suc, ◌+◌, ◌-◌, ◌<◌, ◌≤◌, List, [], ◌∷◌, Bool, true, false, cond, not, ◌&&◌, eqb, refl, sym, ap, ◌∙◌, get_or, length}
use Rattle.std.proofs.Common.{Option, None, Some, arith, inl, inr}
use Rattle.std.specs.Prelude.{codes, nat_lt}
use Rattle.std.specs.List.{list_all}
use Rattle.std.specs.Char.{to_ascii_lowercase}
use Rattle.std.proofs.lemmas.Bool.{cases_Bool, and_parts, and_left, eqb-true, ne_eqb, ltb-true, true≢false, cond_both}
use Rattle.definition_text.specs.Content.{content_codes}
use Rattle.definition_inline.specs.GfmAutolinkLiteral.{begins_caselessly, may_precede_www, may_precede_protocol, literal_start_at, LiteralStart, literal_start}
use Rattle.definition_inline.specs.GfmAutolinkLiteral.{or_start}
use Rattle.definition_inline.specs.Inline.{Www, Protocol}
use Rattle.inline_leaves.proofs.Codes.{at_return, plain_code}
use Rattle.inline_literals.specs.Literals.{StartsLiteral}

-- an ASCII byte that is no CR and no LF, in lower case
abbrev pub is_low : ℕ → Bool
is_low t = not (eqb (to_ascii_lowercase t) 13) && (not (eqb (to_ascii_lowercase t) 10) && nat_lt (to_ascii_lowercase t) 128)

-- the same byte in either case
record IsSame (text bytes : List ℕ) : Type 0 where
  within : length text ≤ length bytes
  bytes_are : (k : ℕ) → k < length text → is_low (get_or bytes k 0) ≡ true

same_low : (t b : ℕ) → is_low t ≡ true → to_ascii_lowercase t ≡ to_ascii_lowercase b → is_low b ≡ true
same_low t b low e = ap (λ x. not (eqb x 13) && (not (eqb x 10) && nat_lt x 128)) (sym e) ∙ low

begun : (text bytes : List ℕ) → list_all is_low text ≡ true → begins_caselessly text bytes ≡ true → IsSame text bytes
begun [] bytes low h = record { within = omega arith; bytes_are = λ k lt. absurd (omega (arith, lt)) }
begun (t ∷ ts) [] low h = absurd (true≢false (sym h))
begun (t ∷ ts) (b ∷ bs) low h =
    let lows = and_parts (is_low t) (list_all is_low ts) low in
    let parts = and_parts (eqb (to_ascii_lowercase t) (to_ascii_lowercase b)) (begins_caselessly ts bs) h in
    let later = begun ts bs lows.1 parts.1 in
    let first = same_low t b lows.0 (eqb-true (to_ascii_lowercase t) (to_ascii_lowercase b) parts.0) in
    record { within = omega (arith, later.within); bytes_are = all first later.bytes_are }
  where
    all : is_low b ≡ true → ((k : ℕ) → k < length ts → is_low (get_or bs k 0) ≡ true) → (k : ℕ) → k < length (t ∷ ts) → is_low (get_or (b ∷ bs) k 0) ≡ true
    all first later zero lt = first
    all first later (suc k) lt = later k (omega (arith, lt))

-- a byte that isn't less in lower case
not_less : (b : ℕ) → b ≤ to_ascii_lowercase b
not_less b =
    cond_both (nat_lt b 65) b (cond (nat_lt b 91) (b + 32) b) (λ l. b ≤ l) (λ _. omega arith)
    (λ _. cond_both (nat_lt b 91) (b + 32) b (λ l. b ≤ l) (λ _. omega arith) (λ _. omega arith))

pub starts : (text bytes : List ℕ) → list_all is_low text ≡ true → 0 < length text → begins_caselessly text bytes ≡ true → StartsLiteral bytes (length text)
starts text bytes low some h =
    let same = begun text bytes low h in
    record {
      some = some;
      plain = record { within = same.within; plain = λ k lt e. true≢false (sym (same.bytes_are k lt) ∙ ap is_low e) };
      ascii = let last = same.bytes_are (length text - 1) (omega (arith, some)) in
          let b = get_or bytes (length text - 1) 0 in
          let rest = (and_parts (not (eqb (to_ascii_lowercase b) 13)) _ last).1 in
          omega (arith, not_less b, ltb-true (to_ascii_lowercase b) 128 (and_parts (not (eqb (to_ascii_lowercase b) 10)) _ rest).1);
      inside = λ e. true≢false (sym (same.bytes_are (length text - 1) (omega (arith, some))) ∙ ap is_low e);
    }

-- ---- in codes

pub caseless_codes : (text bytes : List ℕ) → list_all is_low text ≡ true → begins_caselessly text (content_codes bytes) ≡ begins_caselessly text bytes
caseless_codes [] bytes low = refl
caseless_codes (t ∷ ts) [] low = refl
caseless_codes (t ∷ ts) (b ∷ bs) low =
    let lows = and_parts (is_low t) (list_all is_low ts) low in
    elim (cases_Bool (eqb b 13)) [
      | inl h ↦
          let e = eqb-true b 13 h in
          ap (λ x. begins_caselessly (t ∷ ts) (content_codes (x ∷ bs))) e
          ∙ at_return (begins_caselessly (t ∷ ts)) false bs (λ cs. other t 13 lows.0 refl (begins_caselessly ts cs))
          (λ cs. other t 257 lows.0 refl (begins_caselessly ts cs))
          ∙ sym (ap (λ x. begins_caselessly (t ∷ ts) (x ∷ bs)) e ∙ other t 13 lows.0 refl (begins_caselessly ts bs))
      | inr h ↦ ap (begins_caselessly (t ∷ ts)) (plain_code b bs (apart b h))
          ∙ ap (λ r. eqb (to_ascii_lowercase t) (to_ascii_lowercase b) && r) (caseless_codes ts bs lows.1)
    ]
  where
    other : (t b : ℕ) → is_low t ≡ true → is_low b ≡ false → (r : Bool) → (eqb (to_ascii_lowercase t) (to_ascii_lowercase b) && r) ≡ false
    other t b low no_low r = and_left _ r (ne_eqb (to_ascii_lowercase t) (to_ascii_lowercase b) (λ e. true≢false (sym (same_low t b low e) ∙ no_low)))

    apart : (b : ℕ) → eqb b 13 ≡ false → b ≡ 13 → ⊥
    apart b h e = true≢false (sym (ap (λ x. eqb x 13) e) ∙ h)

pub start_codes : (previous : Option ℕ) (bytes : List ℕ) → literal_start_at previous (content_codes bytes) ≡ literal_start_at previous bytes
start_codes previous bytes =
    let start : Bool → Bool → Bool → Option LiteralStart =
    λ www http https. or_start (cond (may_precede_www previous && www) (Some (literal_start Www 4)) None)
    (cond (not (may_precede_protocol previous)) None (cond http (Some (literal_start Protocol 7)) (cond https (Some (literal_start Protocol 8)) None))) in
    ap (λ w. start w (begins_caselessly (codes "http://") (content_codes bytes)) (begins_caselessly (codes "https://") (content_codes bytes)))
    (caseless_codes (codes "www.") bytes refl)
    ∙ ap (λ h. start (begins_caselessly (codes "www.") bytes) h (begins_caselessly (codes "https://") (content_codes bytes)))
    (caseless_codes (codes "http://") bytes refl)
    ∙ ap (start (begins_caselessly (codes "www.") bytes) (begins_caselessly (codes "http://") bytes)) (caseless_codes (codes "https://") bytes refl)
