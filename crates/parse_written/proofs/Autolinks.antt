-- A URI and an address, alone as in what they are read from (CommonMark 6.5).
use Rattle.std.proofs.Common.{◌≡◌, ℕ, ◌≤◌, Bool, true, ◌&&◌, List, ◌∷◌, ◌++◌, None, Some, refl, ap, ap₂, ◌∙◌, arith, length, drop}
use Rattle.parse_written.proofs.Prelude.{after_all, begins_with, codes, cond-true, nat_le, prefix_len}
use Rattle.std.specs.List.{list_all, take_while}
use Rattle.std.proofs.lemmas.Bool.{le-leb}
use Rattle.std.proofs.lemmas.List.{drop_at}
use Rattle.definition_text.specs.Bytes.{begins_with_letter}
use Rattle.definition_inline.specs.Autolink.{after_uri, begins_with_scheme, domain_end, is_domain, is_domain_byte, is_email_byte, is_scheme_byte, is_uri_byte}
use Rattle.event_tokens.specs.Tokens.{is_email, is_read, is_uri}
use Rattle.parse_written.proofs.Passed.{all_prefix, all_taken, none_after}

-- a byte that fails comes after all that pass
failed_after : (test : ℕ → Bool) (xs : List ℕ) (y : ℕ) (ys : List ℕ) → prefix_len test (y ∷ ys) ≡ 0 → list_all test xs ≡ true
    → (prefix_len test (xs ++ y ∷ ys) ≡ length xs) × (after_all test (xs ++ y ∷ ys) ≡ y ∷ ys)
failed_after test xs y ys fails all =
    let size : prefix_len test (xs ++ y ∷ ys) ≡ length xs = omega (arith, all_prefix test xs (y ∷ ys) all, fails) in
    (size, ap (λ n. drop n (xs ++ y ∷ ys)) size ∙ drop_at xs (y ∷ ys) (length xs) refl)

pub uri_whole : (scheme others : List ℕ) → begins_with_letter (scheme ++ 58 ∷ others) ≡ true → 2 ≤ length scheme → length scheme ≤ 32
    → list_all is_scheme_byte scheme ≡ true → list_all is_uri_byte others ≡ true → is_uri (scheme ++ 58 ∷ others) ≡ true
uri_whole scheme others letter least most all all_others =
    let text = scheme ++ 58 ∷ others in
    let split = failed_after is_scheme_byte scheme 58 others refl all in
    let rest = after_all is_scheme_byte text in
    let sized : (nat_le 2 (prefix_len is_scheme_byte text) && nat_le (prefix_len is_scheme_byte text) 32) ≡ true =
    ap (λ n. nat_le 2 n && nat_le n 32) split.0
    ∙ ap₂ (λ (s t : Bool). s && t) (le-leb 2 (length scheme) least) (le-leb (length scheme) 32 most) in
    let begins : (begins_with_scheme text && begins_with (codes ":") rest) ≡ true =
    ap₂ (λ (s t : Bool). s && t) (ap₂ (λ (s t : Bool). s && t) letter sized) (ap (begins_with (codes ":")) split.1) in
    ap is_read (cond-true (begins_with_scheme text && begins_with (codes ":") rest) (Some (after_uri rest)) None begins)
    ∙ ap (λ xs. is_read (Some (after_uri xs))) split.1 ∙ ap (λ xs. is_read (Some xs)) (none_after is_uri_byte others all_others)

pub email_whole : (user domain : List ℕ) → 1 ≤ length user → list_all is_email_byte user ≡ true → list_all is_domain_byte domain ≡ true
    → is_domain domain ≡ true → is_email (user ++ 64 ∷ domain) ≡ true
email_whole user domain some all all_domain is =
    let text = user ++ 64 ∷ domain in
    let split = failed_after is_email_byte user 64 domain refl all in
    let rest = after_all is_email_byte text in
    let begins : (nat_le 1 (prefix_len is_email_byte text) && begins_with (codes "@") rest) ≡ true =
    ap₂ (λ (s t : Bool). s && t) (ap (nat_le 1) split.0 ∙ le-leb 1 (length user) some) (ap (begins_with (codes "@")) split.1) in
    let ends : domain_end domain ≡ Some (after_all is_domain_byte domain) =
    cond-true (is_domain (take_while is_domain_byte domain)) (Some (after_all is_domain_byte domain)) None
    (ap is_domain (all_taken is_domain_byte domain all_domain) ∙ is) in
    ap is_read (cond-true (nat_le 1 (prefix_len is_email_byte text) && begins_with (codes "@") rest) (domain_end (drop 1 rest)) None begins)
    ∙ ap (λ xs. is_read (domain_end (drop 1 xs))) split.1 ∙ ap is_read ends
    ∙ ap (λ xs. is_read (Some xs)) (none_after is_domain_byte domain all_domain)
