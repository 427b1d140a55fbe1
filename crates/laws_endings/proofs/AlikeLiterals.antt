-- Literals in contents that are alike.
use Rattle.std.proofs.Common.{◌≡◌, ℕ, zero, suc, ◌+◌, ◌-◌, ◌<◌, Bool, true, false, cond, not, ◌||◌, ◌&&◌, eqb, List, [], ◌∷◌, ◌++◌, Option, None, Some, inl}
use Rattle.std.proofs.Common.{inr, refl, sym, ap, ap₂, ◌∙◌, arith, drop, take, length, get_or, slice_index_or}
use Rattle.laws_endings.proofs.Prelude.{and_parts, AreAlike, begins_caselessly, begins_name, cases_Bool, codes, codes_of, cond_both, Constructs, counts_after}
use Rattle.laws_endings.proofs.Prelude.{domain, eqb-true, Found, goes_on, has_low_line, InlineCode, is_among, is_continuation, is_control_or_ending, is_other}
use Rattle.laws_endings.proofs.Prelude.{IsAlike, Kind, leaf, Literal, literal_after, literal_at, literal_name, literal_start, literal_start_at, LiteralStart}
use Rattle.laws_endings.proofs.Prelude.{may_precede_protocol, may_precede_www, named_literal, nat_lt, or_left, or_start, Protocol, protocol_start}
use Rattle.laws_endings.proofs.Prelude.{to_ascii_lowercase, true≢false, Www, www_start}
use Rattle.std.proofs.lemmas.Bool.{ltb-false}

pub alike_codes : (one other : List InlineCode) → AreAlike one other → codes_of one ≡ codes_of other
alike_codes [] [] h = refl
alike_codes [] (b ∷ bs) h = absurd (true≢false h)
alike_codes (a ∷ rest) [] h = absurd (true≢false h)
alike_codes (a ∷ rest) (b ∷ bs) h = ap₂ (λ x xs. x ∷ xs) h.0.code (alike_codes rest bs h.1)

pub alike_drop : (n : ℕ) (one other : List InlineCode) → AreAlike one other → AreAlike (drop n one) (drop n other)
alike_drop zero one other h = h
alike_drop (suc n) [] [] h = refl
alike_drop (suc n) [] (b ∷ bs) h = absurd (true≢false h)
alike_drop (suc n) (a ∷ rest) [] h = absurd (true≢false h)
alike_drop (suc n) (a ∷ rest) (b ∷ bs) h = alike_drop n rest bs h.1

goes_front : (one more : List InlineCode) → goes_on (one ++ more) ≡ false → goes_on one ≡ false
goes_front [] more h = refl
goes_front (a ∷ rest) more h = h

more_alike : (a b : InlineCode) (others more : List InlineCode) → IsAlike a b others → IsAlike a b (others ++ more)
more_alike a b others more h = record {
  code = h.code;
  previous = h.previous;
  before = h.before;
  after = λ counts. h.after (elim counts [ inl here ↦ inl here | inr whole ↦ inr (goes_front others more whole) ]);
}

pub alike_append : (a b c d : List InlineCode) → AreAlike a b → AreAlike c d → AreAlike (a ++ c) (b ++ d)
alike_append [] [] c d h k = k
alike_append [] (y ∷ ys) c d h k = absurd (true≢false h)
alike_append (x ∷ xs) [] c d h k = absurd (true≢false h)
alike_append (x ∷ xs) (y ∷ ys) c d h k = (more_alike x y xs c h.0, alike_append xs ys c d h.1 k)

-- the same code, before the same kind where that counts
pub record IsSame (one other : InlineCode) : Type 0 where
  pub code : one.code ≡ other.code
  pub after : counts_after one.code ≡ true → one.after ≡ other.after

pub same_of : (a b : InlineCode) (others : List InlineCode) → IsAlike a b others → IsSame a b
same_of a b others h = record { code = h.code; after = λ counts. h.after (inl counts) }

pub alike_at : (n : ℕ) (one other : List InlineCode) (d e : InlineCode) → AreAlike one other → IsSame d e
    → IsSame (slice_index_or one n d) (slice_index_or other n e)
alike_at zero [] [] d e h s = s
alike_at (suc n) [] [] d e h s = s
alike_at n [] (b ∷ bs) d e h s = absurd (true≢false h)
alike_at n (a ∷ rest) [] d e h s = absurd (true≢false h)
alike_at zero (a ∷ rest) (b ∷ bs) d e h s = same_of a b rest h.0
alike_at (suc n) (a ∷ rest) (b ∷ bs) d e h s = alike_at n rest bs d e h.1 s

-- ---- a start ends with an ASCII byte

lower_at : (text cs : List ℕ) (n : ℕ) → begins_caselessly text cs ≡ true → n < length text
    → to_ascii_lowercase (get_or text n 0) ≡ to_ascii_lowercase (get_or cs n 0)
lower_at [] cs n h lt = absurd (omega (arith, lt))
lower_at (t ∷ ts) [] n h lt = absurd (true≢false (sym h))
lower_at (t ∷ ts) (c ∷ cs) zero h lt =
    eqb-true (to_ascii_lowercase t) (to_ascii_lowercase c) (and_parts (eqb (to_ascii_lowercase t) (to_ascii_lowercase c)) (begins_caselessly ts cs) h).0
lower_at (t ∷ ts) (c ∷ cs) (suc n) h lt =
    lower_at ts cs n (and_parts (eqb (to_ascii_lowercase t) (to_ascii_lowercase c)) (begins_caselessly ts cs) h).1 (omega (arith, lt))

same_small : (b t : ℕ) → t < 65 → t ≡ to_ascii_lowercase b → t ≡ b
same_small b t low =
    cond_both (nat_lt b 65) b (cond (nat_lt b 91) (b + 32) b) (λ l. t ≡ l → t ≡ b) (λ _ e. e)
    (λ high. cond_both (nat_lt b 91) (b + 32) b (λ l. t ≡ l → t ≡ b) (λ _ e. absurd (omega (arith, e, low, ltb-false b 65 high))) (λ _ e. e))

low_code : (b t : ℕ) → t < 65 → counts_after t ≡ true → t ≡ to_ascii_lowercase b → counts_after b ≡ true
low_code b t low is e = ap counts_after (sym (same_small b t low e)) ∙ is

abbrev EndsLow : List ℕ → Option LiteralStart → Type 0
EndsLow cs None = true ≡ true
EndsLow cs (Some start) = counts_after (get_or cs (start.size - 1) 0) ≡ true

low_or : (cs : List ℕ) (a b : Option LiteralStart) → EndsLow cs a → EndsLow cs b → EndsLow cs (or_start a b)
low_or cs None b p q = q
low_or cs (Some start) b p q = p

low_start : (previous : Option ℕ) (cs : List ℕ) → EndsLow cs (literal_start_at previous cs)
low_start previous cs =
    low_or cs (www_start previous cs) (protocol_start previous cs)
    (cond_both (may_precede_www previous && begins_caselessly (codes "www.") cs) (Some (literal_start Www 4)) None (EndsLow cs)
    (λ e. low_code (get_or cs 3 0) 46 (omega arith) refl (lower_at (codes "www.") cs 3
    (and_parts (may_precede_www previous) (begins_caselessly (codes "www.") cs) e).1 (omega arith)))
    (λ _. refl))
    (cond_both (not (may_precede_protocol previous)) None _ (EndsLow cs) (λ _. refl)
    (λ _. cond_both (begins_caselessly (codes "http://") cs) (Some (literal_start Protocol 7)) _ (EndsLow cs)
    (λ e. low_code (get_or cs 6 0) 47 (omega arith) refl (lower_at (codes "http://") cs 6 e (omega arith)))
    (λ _. cond_both (begins_caselessly (codes "https://") cs) (Some (literal_start Protocol 8)) None (EndsLow cs)
    (λ e. low_code (get_or cs 7 0) 47 (omega arith) refl (lower_at (codes "https://") cs 7 e (omega arith))) (λ _. refl))))

-- ---- domains

alike_domain : (n : ℕ) (k l : Kind) (one other : List InlineCode) → AreAlike one other → (goes_on one ≡ false → k ≡ l)
    → domain k (take n one) ≡ domain l (take n other)
alike_domain zero k l one other h same = refl
alike_domain (suc n) k l [] [] h same = refl
alike_domain (suc n) k l [] (b ∷ bs) h same = absurd (true≢false h)
alike_domain (suc n) k l (a ∷ rest) [] h same = absurd (true≢false h)
alike_domain (suc n) k l (a ∷ rest) (b ∷ bs) h same =
    let more = alike_domain n a.after b.after rest bs h.1 (λ whole. h.0.after (inr whole)) in
    let test : Kind → ℕ → Bool = λ kind c. is_continuation c || (is_other kind || is_among (codes "-._") c) in
    let first : test k a.code ≡ test l b.code = elim (cases_Bool (is_continuation a.code)) [
      | inl on ↦
          or_left (is_continuation a.code) (is_other k || is_among (codes "-._") a.code) on
          ∙ sym (or_left (is_continuation b.code) (is_other l || is_among (codes "-._") b.code) (ap is_continuation (sym h.0.code) ∙ on))
      | inr off ↦ ap (λ kind. test kind a.code) (same off) ∙ ap (test l) h.0.code
    ] in
    ap (λ t. cond t (a.code ∷ domain a.after (take n rest)) []) first
    ∙ ap₂ (λ c cs. cond (test l b.code) (c ∷ cs) []) h.0.code more

alike_begins : (k l : Kind) (one other : List InlineCode) → k ≡ l → AreAlike one other → begins_name k one ≡ begins_name l other
alike_begins k l [] [] e h = refl
alike_begins k l [] (b ∷ bs) e h = absurd (true≢false h)
alike_begins k l (a ∷ rest) [] e h = absurd (true≢false h)
alike_begins k l (a ∷ rest) (b ∷ bs) e h = ap₂ (λ kind c. is_other kind && not (is_control_or_ending c)) e h.0.code

-- ---- the leaf

alike_named : (start : LiteralStart) (one other : List InlineCode) (d e : InlineCode) (name : List ℕ) → AreAlike one other → d.after ≡ e.after
    → named_literal start one d name ≡ named_literal start other e name
alike_named start one other d e name h same =
    let n = start.size in
    let size = length name in
    let rest = alike_drop n one other h in
    let made : Bool → List ℕ → List ℕ → Option Found =
    λ begins low front. cond (begins && not (has_low_line low)) (Some (leaf (Literal start.kind (take n front ++ name) ∷ []) (n + size))) None in
    ap (λ b. made b (domain d.after (take size (drop n one))) (codes_of one)) (alike_begins d.after e.after (drop n one) (drop n other) same rest)
    ∙ ap (λ l. made (begins_name e.after (drop n other)) l (codes_of one)) (alike_domain size d.after e.after (drop n one) (drop n other) rest (λ _. same))
    ∙ ap (made (begins_name e.after (drop n other)) (domain e.after (take size (drop n other)))) (alike_codes one other h)

code_at : (n : ℕ) (content : List InlineCode) (d : InlineCode) → counts_after (get_or (codes_of content) n 0) ≡ true
    → counts_after (slice_index_or content n d).code ≡ true
code_at zero [] d low = absurd (true≢false (sym low))
code_at (suc n) [] d low = absurd (true≢false (sym low))
code_at zero (c ∷ cs) d low = low
code_at (suc n) (c ∷ cs) d low = code_at n cs d low

alike_after : (a b : InlineCode) (rest bs : List InlineCode) (o : Option LiteralStart) → AreAlike (a ∷ rest) (b ∷ bs) → EndsLow (codes_of (a ∷ rest)) o
    → literal_after a rest o ≡ literal_after b bs o
alike_after a b rest bs None h low = refl
alike_after a b rest bs (Some start) h low =
    let n = start.size in
    let last = slice_index_or (a ∷ rest) (n - 1) a in
    let same = alike_at (n - 1) (a ∷ rest) (b ∷ bs) a b h (same_of a b rest h.0) in
    ap (λ cs. named_literal start (a ∷ rest) last (literal_name (drop n cs))) (alike_codes (a ∷ rest) (b ∷ bs) h)
    ∙ alike_named start (a ∷ rest) (b ∷ bs) last (slice_index_or (b ∷ bs) (n - 1) b) (literal_name (drop n (codes_of (b ∷ bs)))) h
    (same.after (code_at (n - 1) (a ∷ rest) a low))

pub alike_literal : (on : Constructs) (one other : List InlineCode) → AreAlike one other → literal_at on one ≡ literal_at on other
alike_literal on [] [] h = refl
alike_literal on [] (b ∷ bs) h = absurd (true≢false h)
alike_literal on (a ∷ rest) [] h = absurd (true≢false h)
alike_literal on (a ∷ rest) (b ∷ bs) h =
    let found = literal_start_at a.previous (codes_of (a ∷ rest)) in
    let same : found ≡ literal_start_at b.previous (codes_of (b ∷ bs)) = ap₂ (λ p cs. literal_start_at p cs) h.0.previous (alike_codes (a ∷ rest) (b ∷ bs) h) in
    ap (λ o. cond on.gfm_autolink_literal o None) (alike_after a b rest bs found h (low_start a.previous (codes_of (a ∷ rest))) ∙ ap (literal_after b bs) same)
