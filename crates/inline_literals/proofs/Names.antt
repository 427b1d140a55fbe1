-- Names of literals, in bytes and backwards.
use Rattle.std.proofs.Common.{◌≡◌, ℕ, zero, suc, ◌+◌, ◌-◌, ◌<◌, ◌≤◌, List, [], ◌∷◌, ◌++◌, true, false, cond, eqb, ◌&&◌, ◌||◌, refl, sym, ap, ap₂, ◌∙◌, get_or}
use Rattle.std.proofs.Common.{length, drop, take, arith, subst, append_assoc, inl, inr}
use Rattle.std.specs.Prelude.{reverse, codes, nat_le, nat_lt}
use Rattle.std.specs.List.{prefix_len, filter}
use Rattle.std.proofs.lemmas.Bool.{cases_Bool, cases_lt, cond_both, cond-false, cond-true, eqb-true, eq-eqb, ne_eqb, and_left, and_right, and_parts, and_from}
use Rattle.std.proofs.lemmas.Bool.{or_from, le-leb, lt-ltb, le-ltb, true≢false}
use Rattle.std.proofs.lemmas.List.{length-reverse, reverse-append, length-take-le, length-drop, get_or-drop, get_or-take, take_all, drop_all}
use Rattle.std.proofs.lemmas.List.Sums.{prefix_len_passes}
use Rattle.std.proofs.Math.Seq.{drop-cons, take-suc}
use Rattle.definition_text.specs.Bytes.{is_letter_or_digit, begins_with}
use Rattle.definition_text.specs.Content.{content_codes}
use Rattle.definition_inline.specs.GfmAutolinkLiteral.{follows_label, ends_literal, literal_run, count_of, has_more_closed, is_trailing, is_cut, name_size}
use Rattle.definition_inline.specs.GfmAutolinkLiteral.{cut_more, without_tail, low_line_in}
use Rattle.inline_leaves.specs.Leaves.{IsPlain}
use Rattle.inline_leaves.proofs.Codes.{at_return, plain_code}

-- the last byte comes first, backwards
pub backwards : (n : ℕ) (xs : List ℕ) → n < length xs → reverse (take (suc n) xs) ≡ get_or xs n 0 ∷ reverse (take n xs)
backwards n xs h = ap reverse (take-suc xs n 0 h) ∙ reverse-append (take n xs) (get_or xs n 0 ∷ [])

pub backwards_before : (n : ℕ) (xs : List ℕ) → 0 < n → n ≤ length xs → reverse (take n xs) ≡ get_or xs (n - 1) 0 ∷ reverse (take (n - 1) xs)
backwards_before zero xs some h = absurd (omega (arith, some))
backwards_before (suc n) xs some h = backwards_at n xs (suc n - 1) (omega arith) (omega (arith, h))
  where
    backwards_at : (n : ℕ) (xs : List ℕ) (m : ℕ) → m ≡ n → n < length xs → reverse (take (suc n) xs) ≡ get_or xs m 0 ∷ reverse (take m xs)
    backwards_at n xs m e h = backwards n xs h ∙ ap (λ k. get_or xs k 0 ∷ reverse (take k xs)) (sym e)

-- ---- where a literal ends

pub label_codes : (xs : List ℕ) → follows_label (content_codes xs) ≡ follows_label xs
label_codes [] = refl
label_codes (b ∷ bs) = elim (cases_Bool (eqb b 13)) [
  | inl h ↦
      let e = eqb-true b 13 h in
      ap (λ x. follows_label (content_codes (x ∷ bs))) e ∙ at_return follows_label true bs (λ cs. refl) (λ cs. refl) ∙ sym (ap (λ x. follows_label (x ∷ bs)) e)
  | inr h ↦ ap follows_label (cond-false (eqb b 13) _ _ h)
]

-- a byte that ends a literal
pub run_ends : (b : ℕ) (bs : List ℕ) → ends_literal b (content_codes bs) ≡ true → literal_run (content_codes (b ∷ bs)) ≡ []
run_ends b bs h = elim (cases_Bool (eqb b 13)) [
  | inl r ↦
      let e = eqb-true b 13 r in
      ap (λ x. literal_run (content_codes (x ∷ bs))) e ∙ at_return literal_run [] bs (λ cs. refl) (λ cs. refl)
  | inr o ↦ ap literal_run (cond-false (eqb b 13) _ _ o) ∙ cond-true (ends_literal b (content_codes bs)) _ _ h
]

pub no_return : (b : ℕ) (cs : List ℕ) → ends_literal b cs ≡ false → b ≡ 13 → ⊥
no_return b cs h e = true≢false (sym (ap (λ x. ends_literal x cs) e) ∙ h)

-- a byte that doesn't
pub run_goes_on : (n : ℕ) (xs : List ℕ) → n < length xs → IsPlain xs n → literal_run (content_codes xs) ≡ take n xs ++ literal_run (content_codes (drop n xs))
    → ends_literal (get_or xs n 0) (content_codes (drop (n + 1) xs)) ≡ false
    → (literal_run (content_codes xs) ≡ take (n + 1) xs ++ literal_run (content_codes (drop (n + 1) xs))) × IsPlain xs (n + 1)
run_goes_on n xs h plain so_far other =
    let b = get_or xs n 0 in
    let one : suc n ≡ n + 1 = omega arith in
    let rest = content_codes (drop (n + 1) xs) in
    let apart = no_return b rest other in
    let here : content_codes (drop n xs) ≡ b ∷ rest =
    ap content_codes (drop-cons xs n 0 h) ∙ plain_code b (drop (suc n) xs) apart ∙ ap (λ k. b ∷ content_codes (drop k xs)) one in (
      so_far ∙ ap (λ cs. take n xs ++ literal_run cs) here ∙ ap (λ cs. take n xs ++ cs) (cond-false (ends_literal b rest) _ _ other)
          ∙ sym (append_assoc (take n xs) (b ∷ []) (literal_run rest)) ∙ ap (λ l. l ++ literal_run rest) (sym (take-suc xs n 0 h) ∙ ap (λ k. take k xs) one),
      record {
        within = omega (arith, h);
        plain = λ k lt. elim (cases_lt k n) [ inl less ↦ plain.plain k less | inr more ↦ λ e. apart (ap (λ j. get_or xs j 0) (same k more lt) ∙ e) ];
      },
    )
  where
    same : (k : ℕ) → n ≤ k → k < n + 1 → n ≡ k
    same k more lt = omega (arith, more, lt)

-- ---- a text backwards

pub drop_backwards : (m n : ℕ) (xs : List ℕ) → m ≤ n → n ≤ length xs → drop m (reverse (take n xs)) ≡ reverse (take (n - m) xs)
drop_backwards zero n xs le within = ap (λ k. reverse (take k xs)) (omega arith)
drop_backwards (suc m) zero xs le within = absurd (omega (arith, le))
drop_backwards (suc m) (suc n) xs le within =
    ap (drop (suc m)) (backwards n xs (omega (arith, within))) ∙ drop_backwards m n xs (omega (arith, le)) (omega (arith, within))
    ∙ ap (λ k. reverse (take k xs)) (omega arith)

-- codes that are cut already
pub tail_skipped : (k : ℕ) (bs : List ℕ) → without_tail k bs ≡ without_tail 0 (drop k bs)
tail_skipped zero [] = refl
tail_skipped (suc k) [] = refl
tail_skipped zero (b ∷ bs) = refl
tail_skipped (suc k) (b ∷ bs) = tail_skipped k bs

pub not_counted : (b x : ℕ) (xs : List ℕ) → eqb x b ≡ false → count_of b (x ∷ xs) ≡ count_of b xs
not_counted b x xs h = ap length (cond-false (eqb x b) _ _ h)

pub counted : (b : ℕ) (xs : List ℕ) → count_of b (b ∷ xs) ≡ suc (count_of b xs)
counted b xs = ap length (cond-true (eqb b b) (b ∷ filter (λ x. eqb x b) xs) _ (eq-eqb b b refl))

count_drop : (b n : ℕ) (xs : List ℕ) → n ≤ length xs → ((j : ℕ) → j < n → eqb (get_or xs j 0) b ≡ false) → count_of b (drop n xs) ≡ count_of b xs
count_drop b zero xs le others = refl
count_drop b (suc n) [] le others = absurd (omega (arith, le))
count_drop b (suc n) (x ∷ xs) le others =
    count_drop b n xs (omega (arith, le)) (λ j lt. others (suc j) (omega (arith, lt))) ∙ sym (not_counted b x xs (others 0 (omega arith)))

-- ---- what looks like a reference

-- a name, and `&` before it
record IsNamed (bs : List ℕ) (n : ℕ) : Type 0 where
  within : n ≤ length bs
  others : (b : ℕ) → is_letter_or_digit b ≡ false → eqb 38 b ≡ false → (j : ℕ) → j < n → eqb (get_or bs j 0) b ≡ false

begins_amp : (xs : List ℕ) → begins_with (codes "&") xs ≡ true → (0 < length xs) × (get_or xs 0 0 ≡ 38)
begins_amp [] h = absurd (true≢false (sym h))
begins_amp (x ∷ xs) h = (omega arith, sym (eqb-true 38 x (and_parts (eqb 38 x) _ h).0))

named_some : (bs : List ℕ) → begins_with (codes "&") (drop (prefix_len is_letter_or_digit bs) bs) ≡ true → IsNamed bs (prefix_len is_letter_or_digit bs + 1)
named_some bs h =
    let n = prefix_len is_letter_or_digit bs in
    let front = begins_amp (drop n bs) h in
    let size = length-drop n bs in
    let first : get_or bs n 0 ≡ 38 = ap (λ k. get_or bs k 0) (omega arith) ∙ sym (get_or-drop n bs 0 0) ∙ front.1 in
    record {
      within = omega (arith, front.0, size);
      others = λ b digit amp j lt. elim (cases_lt j n) [
        | inl less ↦ ne_eqb (get_or bs j 0) b (λ e. true≢false (sym (prefix_len_passes is_letter_or_digit bs j 0 less) ∙ ap is_letter_or_digit e ∙ digit))
        | inr more ↦ let same : j ≡ n = omega (arith, lt, more) in ap (λ k. eqb (get_or bs k 0) b) same ∙ ap (λ x. eqb x b) first ∙ amp
      ];
    }

named_none : (bs : List ℕ) → IsNamed bs 0
named_none bs = record { within = omega arith; others = λ b digit amp j lt. absurd (omega (arith, lt)) }

named : (c : ℕ) (bs : List ℕ) → IsNamed bs (cut_more c bs)
named c bs =
    let n = prefix_len is_letter_or_digit bs in
    cond_both (eqb c 59) (name_size bs) 0 (IsNamed bs)
    (λ _. cond_both (nat_le 1 n && begins_with (codes "&") (drop n bs)) (n + 1) 0 (IsNamed bs) (λ e. named_some bs (and_parts (nat_le 1 n) _ e).1)
    (λ _. named_none bs))
    (λ _. named_none bs)

pub more_within : (c : ℕ) (bs : List ℕ) → cut_more c bs ≤ length bs
more_within c bs = (named c bs).within

-- no parenthesis is cut with a reference
pub count_more : (b c : ℕ) (bs : List ℕ) → is_letter_or_digit b ≡ false → eqb 38 b ≡ false → count_of b (drop (cut_more c bs) bs) ≡ count_of b bs
count_more b c bs digit amp = let n = named c bs in count_drop b (cut_more c bs) bs n.within (n.others b digit amp)

-- ---- one more byte is cut

trailing_apart : (b c : ℕ) → is_trailing b ≡ false → is_trailing c ≡ true → eqb c b ≡ false
trailing_apart b c other is = ne_eqb c b (λ e. true≢false (sym is ∙ ap is_trailing e ∙ other))

-- the state of the cut: the same end, and so many parentheses
pub record IsCutTo (text : List ℕ) (end closed opened : ℕ) : Type 0 where
  pub within : end ≤ length text
  pub same : without_tail 0 (reverse text) ≡ without_tail 0 (reverse (take end text))
  pub closed_is : closed ≡ count_of 41 (reverse (take end text))
  pub opened_is : opened ≡ count_of 40 (reverse (take end text))

pub cut_trailing : (text : List ℕ) (end closed opened more : ℕ) → IsCutTo text end closed opened → 0 < end → is_trailing (get_or text (end - 1) 0) ≡ true
    → more ≡ cut_more (get_or text (end - 1) 0) (reverse (take (end - 1) text)) → IsCutTo text (end - (1 + more)) closed opened
cut_trailing text end closed opened more now some is is_more =
    let last = get_or text (end - 1) 0 in
    let before = reverse (take (end - 1) text) in
    let here : reverse (take end text) ≡ last ∷ before = backwards_before end text some now.within in
    let size : length before ≡ end - 1 = length-reverse (take (end - 1) text) ∙ length-take-le (end - 1) text (omega (arith, now.within)) in
    let le : more ≤ end - 1 = omega (arith, is_more, size, more_within last before) in
    let count : end - 1 - more ≡ end - (1 + more) = omega arith in
    let left : drop (cut_more last before) before ≡ reverse (take (end - (1 + more)) text) =
    ap (λ k. drop k before) (sym is_more) ∙ drop_backwards more (end - 1) text le (omega (arith, now.within)) ∙ ap (λ k. reverse (take k text)) count in
    let counts : (b : ℕ) → is_letter_or_digit b ≡ false → eqb 38 b ≡ false → is_trailing b ≡ false
    → count_of b (reverse (take end text)) ≡ count_of b (reverse (take (end - (1 + more)) text)) =
    λ b digit amp other. ap (count_of b) here ∙ not_counted b last before (trailing_apart b last other is) ∙ sym (count_more b last before digit amp)
    ∙ ap (count_of b) left in
    record {
      within = omega (arith, now.within);
      same = now.same ∙ ap (without_tail 0) here ∙ cond-true (is_cut last before) _ _ (ap (λ t. t || (eqb last 41 && has_more_closed (last ∷ before))) is)
          ∙ tail_skipped (cut_more last before) before ∙ ap (without_tail 0) left;
      closed_is = now.closed_is ∙ counts 41 refl refl refl;
      opened_is = now.opened_is ∙ counts 40 refl refl refl;
    }

pub cut_closed : (text : List ℕ) (end closed opened : ℕ) → IsCutTo text end closed opened → 0 < end → get_or text (end - 1) 0 ≡ 41 → opened < closed
    → IsCutTo text (end - 1) (closed - 1) opened
cut_closed text end closed opened now some is more =
    let before = reverse (take (end - 1) text) in
    let here : reverse (take end text) ≡ 41 ∷ before = backwards_before end text some now.within ∙ ap (λ b. b ∷ before) is in
    let ones : closed ≡ suc (count_of 41 before) = now.closed_is ∙ ap (count_of 41) here ∙ counted 41 before in
    let twos : opened ≡ count_of 40 before = now.opened_is ∙ ap (count_of 40) here ∙ not_counted 40 41 before refl in
    let has : has_more_closed (41 ∷ before) ≡ true =
    lt-ltb (count_of 40 (41 ∷ before)) (count_of 41 (41 ∷ before)) (omega (
      arith,
      more,
      ap (count_of 40) here,
      ap (count_of 41) here,
      now.closed_is,
      now.opened_is,
    )) in
    record {
      within = omega (arith, now.within);
      same = now.same ∙ ap (without_tail 0) here ∙ cond-true (is_cut 41 before) _ _ has;
      closed_is = omega (arith, ones);
      opened_is = twos;
    }

-- nothing more is cut
pub cut_stops : (text : List ℕ) (end closed opened : ℕ) → IsCutTo text end closed opened → 0 < end → is_trailing (get_or text (end - 1) 0) ≡ false
    → (get_or text (end - 1) 0 ≡ 41 → opened < closed → ⊥) → reverse (take end text) ≡ without_tail 0 (reverse text)
cut_stops text end closed opened now some other stops =
    let last = get_or text (end - 1) 0 in
    let before = reverse (take (end - 1) text) in
    let here : reverse (take end text) ≡ last ∷ before = backwards_before end text some now.within in
    let ones : count_of 41 (last ∷ before) ≡ closed = sym (now.closed_is ∙ ap (count_of 41) here) in
    let twos : count_of 40 (last ∷ before) ≡ opened = sym (now.opened_is ∙ ap (count_of 40) here) in
    let none : (eqb last 41 && has_more_closed (last ∷ before)) ≡ false = elim (cases_Bool (eqb last 41)) [
      | inl is ↦ and_right (eqb last 41) _ (ap₂ nat_lt twos ones ∙ not_less opened closed (stops (eqb-true last 41 is)))
      | inr apart ↦ and_left (eqb last 41) _ apart
    ] in
    here ∙ sym (now.same ∙ ap (without_tail 0) here ∙ cond-false (is_cut last before) _ _ (or_from (is_trailing last) _ other none))
  where
    not_less : (a b : ℕ) → (a < b → ⊥) → nat_lt a b ≡ false
    not_less a b h = elim (cases_lt a b) [ inl less ↦ absurd (h less) | inr more ↦ le-ltb a b more ]

pub cut_all : (text : List ℕ) (end closed opened : ℕ) → IsCutTo text end closed opened → end ≡ 0 → reverse (take 0 text) ≡ without_tail 0 (reverse text)
cut_all text end closed opened now none = sym (now.same ∙ ap (λ k. without_tail 0 (reverse (take k text))) none)

-- ---- a reference before a `;`

amp_at : (size : ℕ) (before : List ℕ) → size < length before
    → begins_with (codes "&") (drop size (reverse before)) ≡ begins_with (codes "&")
    (get_or before (length before - size - 1) 0 ∷ reverse (take (length before - size - 1) before))
amp_at size before h =
    let n = length before in
    ap (λ l. begins_with (codes "&") (drop size (reverse l))) (sym (take_all n before (omega arith)))
    ∙ ap (begins_with (codes "&")) (drop_backwards size n before (omega (arith, h)) (omega arith)
    ∙ backwards_before (n - size) before (omega (arith, h)) (omega arith))

begins_amp_no : (b : ℕ) (bs : List ℕ) → (b ≡ 38 → ⊥) → begins_with (codes "&") (b ∷ bs) ≡ false
begins_amp_no b bs other = and_left (eqb 38 b) _ (ne_eqb 38 b (λ e. other (sym e)))

begins_amp_yes : (b : ℕ) (bs : List ℕ) → b ≡ 38 → begins_with (codes "&") (b ∷ bs) ≡ true
begins_amp_yes b bs is = ap (λ x. begins_with (codes "&") (x ∷ bs)) is

semicolon : (byte : ℕ) (bs : List ℕ) → byte ≡ 59 → cut_more byte bs ≡ name_size bs
semicolon byte bs is = cond-true (eqb byte 59) (name_size bs) 0 (eq-eqb byte 59 is)

pub more_found : (byte size : ℕ) (before : List ℕ) → byte ≡ 59 → size ≡ prefix_len is_letter_or_digit (reverse before) → 0 < size → size < length before
    → get_or before (length before - size - 1) 0 ≡ 38 → size + 1 ≡ cut_more byte (reverse before)
more_found byte size before is sized some within amp =
    let back = reverse before in
    let n = prefix_len is_letter_or_digit back in
    let begins : begins_with (codes "&") (drop n back) ≡ true =
    ap (λ k. begins_with (codes "&") (drop k back)) (sym sized) ∙ amp_at size before within
    ∙ begins_amp_yes (get_or before (length before - size - 1) 0) (reverse (take (length before - size - 1) before)) amp in
    sym (semicolon byte back is ∙ cond-true (nat_le 1 n && begins_with (codes "&") (drop n back)) (n + 1) 0
    (and_from (nat_le 1 n) _ (le-leb 1 n (omega (arith, some, sized))) begins) ∙ ap (λ k. k + 1) (sym sized))

name_none : (size : ℕ) (before : List ℕ) → size ≡ prefix_len is_letter_or_digit (reverse before)
    → (nat_le 1 size && begins_with (codes "&") (drop size (reverse before))) ≡ false → name_size (reverse before) ≡ 0
name_none size before sized h =
    let back = reverse before in
    let n = prefix_len is_letter_or_digit back in
    cond-false (nat_le 1 n && begins_with (codes "&") (drop n back)) (n + 1) 0 (ap (λ k. nat_le 1 k && begins_with (codes "&") (drop k back)) (sym sized) ∙ h)

pub none_for_size : (byte size : ℕ) (before : List ℕ) → byte ≡ 59 → size ≡ prefix_len is_letter_or_digit (reverse before) → size ≡ 0
    → 0 ≡ cut_more byte (reverse before)
none_for_size byte size before is sized none =
    sym (semicolon byte (reverse before) is ∙ name_none size before sized (and_left (nat_le 1 size) _ (ap (nat_le 1) none)))

pub none_for_end : (byte size : ℕ) (before : List ℕ) → byte ≡ 59 → size ≡ prefix_len is_letter_or_digit (reverse before) → length before ≤ size
    → 0 ≡ cut_more byte (reverse before)
none_for_end byte size before is sized all =
    let left : drop size (reverse before) ≡ [] = drop_all size (reverse before) (omega (arith, all, length-reverse before)) in
    sym (semicolon byte (reverse before) is ∙ name_none size before sized (and_right (nat_le 1 size) _ (ap (begins_with (codes "&")) left)))

pub none_for_other : (byte size : ℕ) (before : List ℕ) → byte ≡ 59 → size ≡ prefix_len is_letter_or_digit (reverse before) → size < length before
    → (get_or before (length before - size - 1) 0 ≡ 38 → ⊥) → 0 ≡ cut_more byte (reverse before)
none_for_other byte size before is sized within other =
    sym (semicolon byte (reverse before) is
    ∙ name_none size before sized (and_right (nat_le 1 size) _ (amp_at size before within
    ∙ begins_amp_no (get_or before (length before - size - 1) 0) (reverse (take (length before - size - 1) before)) other)))

-- ---- the last parts of a domain

pub low_line_none : (parts : ℕ) → low_line_in parts [] ≡ false
low_line_none zero = refl
low_line_none (suc parts) = refl

low_line_at : (parts end : ℕ) (xs : List ℕ) → 0 < parts → 0 < end → end ≤ length xs
    → low_line_in parts (reverse (take end xs))
    ≡ cond (eqb (get_or xs (end - 1) 0) 95) true
    (cond (eqb (get_or xs (end - 1) 0) 46) (low_line_in (parts - 1) (reverse (take (end - 1) xs))) (low_line_in parts (reverse (take (end - 1) xs))))
low_line_at zero end xs some more within = absurd (omega (arith, some))
low_line_at (suc parts) end xs some more within =
    let last = get_or xs (end - 1) 0 in
    let before = reverse (take (end - 1) xs) in
    let one : parts ≡ suc parts - 1 = omega arith in
    ap (low_line_in (suc parts)) (backwards_before end xs more within)
    ∙ ap (λ n. cond (eqb last 95) true (cond (eqb last 46) (low_line_in n before) (low_line_in (suc parts) before))) one

pub low_line_found : (parts end : ℕ) (xs : List ℕ) → 0 < parts → 0 < end → end ≤ length xs → get_or xs (end - 1) 0 ≡ 95
    → low_line_in parts (reverse (take end xs)) ≡ true
low_line_found parts end xs some more within is =
    low_line_at parts end xs some more within ∙ cond-true (eqb (get_or xs (end - 1) 0) 95) true _ (eq-eqb (get_or xs (end - 1) 0) 95 is)

pub low_line_dot : (parts end : ℕ) (xs : List ℕ) → 0 < parts → 0 < end → end ≤ length xs → get_or xs (end - 1) 0 ≡ 46
    → low_line_in parts (reverse (take end xs)) ≡ low_line_in (parts - 1) (reverse (take (end - 1) xs))
low_line_dot parts end xs some more within is =
    let last = get_or xs (end - 1) 0 in
    low_line_at parts end xs some more within ∙ cond-false (eqb last 95) true _ (ap (λ c. eqb c 95) is) ∙ cond-true (eqb last 46) _ _ (eq-eqb last 46 is)

pub low_line_other : (parts end : ℕ) (xs : List ℕ) → 0 < parts → 0 < end → end ≤ length xs → (get_or xs (end - 1) 0 ≡ 95 → ⊥) → (get_or xs (end - 1) 0 ≡ 46 → ⊥)
    → low_line_in parts (reverse (take end xs)) ≡ low_line_in parts (reverse (take (end - 1) xs))
low_line_other parts end xs some more within low dot =
    let last = get_or xs (end - 1) 0 in
    low_line_at parts end xs some more within ∙ cond-false (eqb last 95) true _ (ne_eqb last 95 low) ∙ cond-false (eqb last 46) _ _ (ne_eqb last 46 dot)

-- the byte after what is left
pub next_cut : (text : List ℕ) (end more : ℕ) → 0 < end → end ≤ length text → more ≤ length (take (end - 1) text) → get_or text (end - 1) 0 < 128
    → (0 < more → get_or (take (end - 1) text) (length (take (end - 1) text) - more) 0 < 128) → get_or text (end - (1 + more)) 0 < 128
next_cut text end zero some le within last first = subst (λ k. get_or text k 0 < 128) (omega arith) last
next_cut text end (suc m) some le within last first =
    let size : length (take (end - 1) text) ≡ end - 1 = length-take-le (end - 1) text (omega (arith, le)) in
    let at : length (take (end - 1) text) - suc m ≡ end - (1 + suc m) = omega (arith, size) in
    subst (λ b. b < 128) (ap (λ k. get_or (take (end - 1) text) k 0) at ∙ get_or-take (end - 1) text (end - (1 + suc m)) 0 (omega (arith, some, within, size)))
    (first (omega arith))

-- the last byte of what is left of a rest
pub rest_last : (end k : ℕ) (xs : List ℕ) → k < end → get_or (drop k xs) (end - k - 1) 0 ≡ get_or xs (end - 1) 0
rest_last end k xs less = get_or-drop k xs (end - k - 1) 0 ∙ ap (λ n. get_or xs n 0) (omega (arith, less))
