-- Autolinks in codes and in bytes.
use Rattle.std.proofs.Common.{◌≡◌, ℕ, ◌+◌, ◌-◌, ◌≤◌, List, [], ◌∷◌, Bool, true, false, cond, ◌&&◌, eqb, leb, Option, None, Some, refl, sym, ap, ◌∙◌, get_or}
use Rattle.std.proofs.Common.{length, drop, take, arith, inl, inr}
use Rattle.inline_constructs.proofs.Prelude.{after_codes, and_from, and_left, and_right, at_return, Autolink, autolink_after, autolink_at, begins_with}
use Rattle.inline_constructs.proofs.Prelude.{begins_with_letter, begun, cases_Bool, closed_autolink, codes, cond-false, cond-true, Constructs, content_codes}
use Rattle.inline_constructs.proofs.Prelude.{domain_end, drop-drop, email_end, end_after, eqb-false, eqb-true, get_or-drop, is_of, is_uri_byte, IsAddress}
use Rattle.inline_constructs.proofs.Prelude.{IsEnd, IsPlain, leaf, length-drop, option_map, plain_code, plain_join, plain_size, plain_take, prefix_codes}
use Rattle.inline_constructs.proofs.Prelude.{prefix_len, prefix_len-le-length, prefix_plain, size_before, size_plain}
use Rattle.std.specs.List.{take_while}
use Rattle.std.proofs.lemmas.Bool.{cases_lt, le-leb}
use Rattle.std.proofs.lemmas.List.{length-take-le}
use Rattle.definition_text.specs.Content.{text_before}
use Rattle.definition_text.specs.Bytes.{after_all}
use Rattle.definition_inline.specs.Autolink.{is_scheme_byte, begins_with_scheme, after_uri, uri_end, is_email_byte, is_domain_byte, is_domain}
use Rattle.inline_constructs.specs.declared.byte_class.ByteClass.{ByteClass}
use Rattle.inline_constructs.specs.declared.byte_class.ByteClass.TheVariants.{Scheme, Uri, Email, Domain}
use Rattle.inline_leaves.proofs.Codes.{while_codes}

-- no class has CR
class_return : (class : ByteClass) → is_of class 13 ≡ false
class_return Scheme = refl
class_return Uri = refl
class_return Email = refl
class_return Domain = refl

pub class_plain : (class : ByteClass) (xs : List ℕ) (n : ℕ) → n ≡ prefix_len (is_of class) xs → IsPlain xs n
class_plain class xs n e = record {
  within = omega (arith, prefix_len-le-length (is_of class) xs);
  plain = prefix_plain (is_of class) (class_return class) xs n (omega arith);
}

-- one byte that comes first
pub one_code : (c : ℕ) (xs : List ℕ) → eqb c 13 ≡ false → eqb c 257 ≡ false → begins_with (c ∷ []) (content_codes xs) ≡ begins_with (c ∷ []) xs
one_code c [] return both = refl
one_code c (b ∷ bs) return both = elim (cases_Bool (eqb b 13)) [
  | inl h ↦
      let e = eqb-true b 13 h in
      ap (λ x. begins_with (c ∷ []) (content_codes (x ∷ bs))) e
      ∙ at_return (begins_with (c ∷ [])) false bs (λ cs. and_left (eqb c 13) _ return) (λ cs. and_left (eqb c 257) _ both)
      ∙ sym (and_left (eqb c b) _ (ap (eqb c) e ∙ return))
  | inr h ↦ ap (begins_with (c ∷ [])) (plain_code b bs (eqb-false b 13 h))
]

-- what follows a byte that comes first
pub after_one : (c : ℕ) (xs : List ℕ) → eqb c 13 ≡ false → begins_with (c ∷ []) xs ≡ true → drop 1 (content_codes xs) ≡ content_codes (drop 1 xs)
after_one c xs return there =
    let e : xs ≡ c ∷ drop 1 xs = begun (c ∷ []) xs there in
    ap (λ x. drop 1 (content_codes x)) e ∙ ap (drop 1) (plain_code c (drop 1 xs) (eqb-false c 13 return))

letter_codes : (xs : List ℕ) → begins_with_letter (content_codes xs) ≡ begins_with_letter xs
letter_codes [] = refl
letter_codes (b ∷ bs) = elim (cases_Bool (eqb b 13)) [
  | inl h ↦
      let e = eqb-true b 13 h in
      ap (λ x. begins_with_letter (content_codes (x ∷ bs))) e ∙ at_return begins_with_letter false bs (λ cs. refl) (λ cs. refl)
      ∙ sym (ap (λ x. begins_with_letter (x ∷ bs)) e)
  | inr h ↦ ap begins_with_letter (plain_code b bs (eqb-false b 13 h))
]

-- a byte, and a part after it
after_byte : (c : ℕ) (t : Bool) (xs : List ℕ) (part : List ℕ → Option (List ℕ)) → eqb c 13 ≡ false → eqb c 257 ≡ false
    → part (content_codes (drop 1 xs)) ≡ option_map content_codes (part (drop 1 xs))
    → cond (t && begins_with (c ∷ []) (content_codes xs)) (part (drop 1 (content_codes xs))) None
    ≡ option_map content_codes (cond (t && begins_with (c ∷ []) xs) (part (drop 1 xs)) None)
after_byte c t xs part return both natural =
    ap (λ u. cond (t && u) (part (drop 1 (content_codes xs))) None) (one_code c xs return both)
    ∙ elim (cases_Bool (begins_with (c ∷ []) xs)) [
      | inl h ↦
          ap (λ r. cond (t && begins_with (c ∷ []) xs) (part r) None) (after_one c xs return h)
          ∙ by_case (t && begins_with (c ∷ []) xs) natural
      | inr h ↦
          cond-false _ _ _ (and_right t _ h)
          ∙ ap (option_map content_codes) (sym (cond-false (t && begins_with (c ∷ []) xs) (part (drop 1 xs)) None (and_right t _ h)))
    ]
  where
    by_case : (u : Bool) → part (content_codes (drop 1 xs)) ≡ option_map content_codes (part (drop 1 xs))
        → cond u (part (content_codes (drop 1 xs))) None ≡ option_map content_codes (cond u (part (drop 1 xs)) None)
    by_case true e = e
    by_case false e = refl

pub uri_codes : (xs : List ℕ) → uri_end (content_codes xs) ≡ option_map content_codes (uri_end xs)
uri_codes xs =
    let part = λ (r : List ℕ). Some (after_all is_uri_byte r) in
    let rest = after_all is_scheme_byte xs in
    ap (λ n. cond ((begins_with_letter (content_codes xs) && (leb 2 n && leb n 32)) && begins_with (codes ":") (after_all is_scheme_byte (content_codes xs)))
    (after_part (after_all is_scheme_byte (content_codes xs))) None) (prefix_codes is_scheme_byte refl refl xs)
    ∙ ap (λ t. cond ((t && (leb 2 (prefix_len is_scheme_byte xs) && leb (prefix_len is_scheme_byte xs) 32))
    && begins_with (codes ":") (after_all is_scheme_byte (content_codes xs))) (after_part (after_all is_scheme_byte (content_codes xs))) None)
    (letter_codes xs)
    ∙ ap (λ r. cond (begins_with_scheme xs && begins_with (codes ":") r) (after_part r) None) (after_codes is_scheme_byte refl refl xs)
    ∙ after_byte 58 (begins_with_scheme xs) rest part refl refl (ap Some (after_codes is_uri_byte refl refl (drop 1 rest)))
  where
    after_part : List ℕ → Option (List ℕ)
    after_part r = Some (after_uri r)

domain_codes : (xs : List ℕ) → domain_end (content_codes xs) ≡ option_map content_codes (domain_end xs)
domain_codes xs =
    ap (λ text. cond (is_domain text) (Some (after_all is_domain_byte (content_codes xs))) None) (while_codes is_domain_byte refl refl xs)
    ∙ ap (λ r. cond (is_domain (take_while is_domain_byte xs)) (Some r) None) (after_codes is_domain_byte refl refl xs)
    ∙ by_case (is_domain (take_while is_domain_byte xs))
  where
    by_case : (t : Bool) → cond t (Some (content_codes (after_all is_domain_byte xs))) None
        ≡ option_map content_codes (cond t (Some (after_all is_domain_byte xs)) None)
    by_case true = refl
    by_case false = refl

pub email_codes : (xs : List ℕ) → email_end (content_codes xs) ≡ option_map content_codes (email_end xs)
email_codes xs =
    let rest = after_all is_email_byte xs in
    ap (λ n. cond (leb 1 n && begins_with (codes "@") (after_all is_email_byte (content_codes xs)))
    (domain_end (drop 1 (after_all is_email_byte (content_codes xs)))) None) (prefix_codes is_email_byte refl refl xs)
    ∙ ap (λ r. cond (leb 1 (prefix_len is_email_byte xs) && begins_with (codes "@") r) (domain_end (drop 1 r)) None) (after_codes is_email_byte refl refl xs)
    ∙ after_byte 64 (leb 1 (prefix_len is_email_byte xs)) rest domain_end refl refl (domain_codes (drop 1 rest))

-- ---- an address

pub plain_one : (c : ℕ) (xs : List ℕ) → eqb c 13 ≡ false → begins_with (c ∷ []) xs ≡ true → IsPlain xs 1
plain_one c xs return there =
    let e : xs ≡ c ∷ drop 1 xs = begun (c ∷ []) xs there in
    record {
      within = omega (arith, ap length e);
      plain = λ k lt f. let zero_is : k ≡ 0 = omega arith in eqb-false c 13 return (sym (ap (λ x. get_or x 0 0) e) ∙ ap (λ j. get_or xs j 0) (sym zero_is) ∙ f);
    }

pub closed_codes : (email : Bool) (xs : List ℕ) (n : ℕ) → IsPlain xs n → begins_with (codes ">") (drop n xs) ≡ true
    → Some (leaf (Autolink email (take n xs) ∷ []) (n + 2)) ≡ closed_autolink email (content_codes xs) (Some (content_codes (drop n xs)))
closed_codes email xs n plain there =
    let all = content_codes xs in
    let rest = content_codes (drop n xs) in
    let size : length all - length rest ≡ n = omega (arith, plain_size n xs plain.within plain.plain) in
    let text : text_before all rest ≡ take n xs = ap (λ k. take k all) size ∙ plain_take n xs plain.within plain.plain in
    sym (cond-true (begins_with (codes ">") rest) _ _ (one_code 62 (drop n xs) refl refl ∙ there)
    ∙ ap (λ t. Some (leaf (Autolink email t ∷ []) (length t + 2))) text
    ∙ ap (λ k. Some (leaf (Autolink email (take n xs) ∷ []) (k + 2))) (length-take-le n xs plain.within))

pub plain_address : (xs : List ℕ) (n : ℕ) → IsPlain xs n → begins_with (codes ">") (drop n xs) ≡ true → IsAddress xs n
plain_address xs n plain there =
    let e : drop n xs ≡ 62 ∷ drop 1 (drop n xs) = begun (codes ">") (drop n xs) there in
    let place : n + 0 ≡ n = omega arith in
    record {
      within = omega (arith, ap length e, length-drop n xs);
      plain = plain.plain;
      greater = ap (λ k. get_or xs k 0) (sym place) ∙ sym (get_or-drop n xs 0 0) ∙ ap (λ x. get_or x 0 0) e;
    }

-- ---- the whole

pub autolink_off : (on : Constructs) (xs : List ℕ) → on.autolink ≡ false → autolink_at on (content_codes xs) ≡ None
autolink_off on xs off = cond-false _ _ _ (and_left on.autolink _ off)

pub autolink_is : (on : Constructs) (xs : List ℕ) → on.autolink ≡ true → begins_with (codes "<") xs ≡ true
    → autolink_at on (content_codes xs) ≡ autolink_after (content_codes (drop 1 xs))
autolink_is on xs is_on less =
    cond-true _ _ _ (and_from on.autolink _ is_on (one_code 60 xs refl refl ∙ less)) ∙ ap autolink_after (after_one 60 xs refl less)

-- the place of an address between its brackets
shifted : (xs : List ℕ) (n : ℕ) → begins_with (codes "<") xs ≡ true → IsAddress (drop 1 xs) n → IsPlain xs (1 + n + 1)
shifted xs n less there =
    let inner : IsPlain (drop 1 xs) n = record { within = omega (arith, there.within); plain = there.plain } in
    let outer = plain_join xs 1 n (plain_one 60 xs refl less) inner in
    record {
      within = omega (arith, there.within, length-drop 1 xs);
      plain = λ k lt e. elim (cases_lt k (1 + n)) [
        | inl here ↦ outer.plain k here e
        | inr last ↦ let place : 1 + n ≡ k = omega arith in omega (arith, there.greater, get_or-drop 1 xs n 0, ap (λ j. get_or xs j 0) place)
      ];
    }

pub autolink_end : (xs : List ℕ) (n : ℕ) → begins_with (codes "<") xs ≡ true → IsAddress (drop 1 xs) n → IsEnd xs (1 + n + 1)
autolink_end xs n less there =
    let place : 1 + n ≡ 1 + n + 1 - 1 = omega arith in
    let last : get_or xs (1 + n + 1 - 1) 0 ≡ 62 = ap (λ k. get_or xs k 0) (sym place) ∙ sym (get_or-drop 1 xs n 0) ∙ there.greater in
    end_after xs (1 + n + 1) (omega arith) (omega (arith, there.within, length-drop 1 xs)) (omega arith) (λ e. omega arith)

pub autolink_size : (xs rest : List ℕ) (n : ℕ) → begins_with (codes "<") xs ≡ true → IsAddress (drop 1 xs) n → rest ≡ drop (1 + n + 1) xs
    → n + 2 ≡ size_before xs rest
autolink_size xs rest n less there after =
    let plain = shifted xs n less there in
    let e : 1 + n + 1 ≡ n + 2 = omega arith in
    sym (size_plain (1 + n + 1) xs rest after plain.within plain.plain ∙ e)

pub uri_is : (xs : List ℕ) (n m : ℕ) → n ≡ prefix_len is_scheme_byte xs → 2 ≤ n → n ≤ 32 → begins_with_letter xs ≡ true
    → begins_with (codes ":") (drop n xs) ≡ true
    → m ≡ prefix_len is_uri_byte (drop 1 (drop n xs)) → Some (drop (n + 1 + m) xs) ≡ uri_end xs
uri_is xs n m e few most letter colon f =
    let ys = drop n xs in
    let scheme : begins_with_scheme xs ≡ true =
    and_from (begins_with_letter xs) _ letter (ap (λ k. leb 2 k && leb k 32) (sym e) ∙ and_from (leb 2 n) (leb n 32) (le-leb 2 n few) (le-leb n 32 most)) in
    let there : begins_with (codes ":") (after_all is_scheme_byte xs) ≡ true = ap (λ k. begins_with (codes ":") (drop k xs)) (sym e) ∙ colon in
    ap Some (sym (drop-drop m (n + 1) xs) ∙ ap (drop m) (sym (drop-drop 1 n xs)) ∙ ap (λ k. drop k (drop 1 ys)) f ∙ ap (λ k. after_uri (drop k xs)) e)
    ∙ sym (cond-true _ _ _ (and_from (begins_with_scheme xs) _ scheme there))

pub email_is : (xs : List ℕ) (n m : ℕ) → n ≡ prefix_len is_email_byte xs → 1 ≤ n → begins_with (codes "@") (drop n xs) ≡ true
    → Some (drop m (drop 1 (drop n xs))) ≡ domain_end (drop 1 (drop n xs)) → Some (drop (n + 1 + m) xs) ≡ email_end xs
email_is xs n m e some at found =
    let few : leb 1 (prefix_len is_email_byte xs) ≡ true = ap (leb 1) (sym e) ∙ le-leb 1 n some in
    let there : begins_with (codes "@") (after_all is_email_byte xs) ≡ true = ap (λ k. begins_with (codes "@") (drop k xs)) (sym e) ∙ at in
    ap Some (sym (drop-drop m (n + 1) xs) ∙ ap (drop m) (sym (drop-drop 1 n xs))) ∙ found ∙ ap (λ k. domain_end (drop 1 (drop k xs))) e
    ∙ sym (cond-true _ _ _ (and_from (leb 1 (prefix_len is_email_byte xs)) _ few there))

mapped : (xs : List ℕ) (size : Option ℕ) → option_map (λ n. content_codes (drop n xs)) size ≡ option_map content_codes (option_map (λ n. drop n xs) size)
mapped xs None = refl
mapped xs (Some n) = refl

-- both kinds, in codes
pub uri_found : (email : Bool) (xs : List ℕ) (size : Option ℕ) → option_map (λ n. drop n xs) size ≡ uri_end xs
    → closed_autolink email (content_codes xs) (option_map (λ n. content_codes (drop n xs)) size)
    ≡ closed_autolink email (content_codes xs) (uri_end (content_codes xs))
uri_found email xs size e = ap (closed_autolink email (content_codes xs)) (mapped xs size ∙ ap (option_map content_codes) e ∙ sym (uri_codes xs))

pub email_found : (email : Bool) (xs : List ℕ) (size : Option ℕ) → option_map (λ n. drop n xs) size ≡ email_end xs
    → closed_autolink email (content_codes xs) (option_map (λ n. content_codes (drop n xs)) size)
    ≡ closed_autolink email (content_codes xs) (email_end (content_codes xs))
email_found email xs size e = ap (closed_autolink email (content_codes xs)) (mapped xs size ∙ ap (option_map content_codes) e ∙ sym (email_codes xs))
