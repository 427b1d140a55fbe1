-- What the bytes of URLs are printed as.
use Rattle.std.proofs.Common.{◌≡◌, ◌≢◌, ℕ, ◌<◌, ◌≤◌, ◌+◌, ◌-◌, get_or, length, drop, ◌/◌, ◌%◌, Bool, true, false, true≢false, not, ◌&&◌, Fits, w8, eqb, ltb}
use Rattle.std.proofs.Common.{List, [], ◌∷◌, ◌++◌, refl, sym, ap, ◌∙◌, inl, inr, arith}
use Rattle.std.specs.Fmt.{digit_glyph}
use Rattle.std.proofs.lemmas.Bool.{agree_below_at, and_parts, cases_Bool, cond-false, cond-true, ne_eqb, ltb-true, ltb-false, or_left}
use Rattle.std.proofs.lemmas.List.Concat.{flat_map-append}
use Rattle.percent_encoding.specs.Percent.{percent_encode_byte}
use Rattle.definition_text.specs.Encode.{encode, encoded_byte}
use Rattle.definition_page.specs.Urls.{escape, percent, percent_byte, sanitize, is_kept, is_url_byte}
use Rattle.std.specs.List.{prefix_len}
use Rattle.std.proofs.lemmas.List.{get_or-drop, length-drop}
use Rattle.std.proofs.lemmas.List.Sums.{prefix_len_passes, prefix_len-le-length}
use Rattle.html_escape.specs.Tools.{is_plain_byte, url_byte}
use Rattle.html_escape.proofs.Waiting.{IsPrintedAt, all_wait}

-- a byte that isn't one of the five is printed as it is
encoded_same : (b : ℕ) → b ≢ 0 → b ≢ 34 → b ≢ 38 → b ≢ 60 → b ≢ 62 → encoded_byte b ≡ b ∷ []
encoded_same b nul quote and less greater =
    cond-false (eqb b 0) _ _ (ne_eqb b 0 nul)
    ∙ cond-false (eqb b 34) _ _ (ne_eqb b 34 quote)
    ∙ cond-false (eqb b 38) _ _ (ne_eqb b 38 and)
    ∙ cond-false (eqb b 60) _ _ (ne_eqb b 60 less)
    ∙ cond-false (eqb b 62) _ _ (ne_eqb b 62 greater)

-- so are hexadecimal digits
glyph_same : (n : ℕ) → n < 16 → encoded_byte (digit_glyph true n) ≡ digit_glyph true n ∷ []
glyph_same n lt =
    elim (cases_Bool (ltb n 10)) [
      | inl h ↦
          let small : n < 10 = ltb-true n 10 h in
          rw h (encoded_same (48 + n) (λ e. omega arith) (λ e. omega arith) (λ e. omega arith) (λ e. omega arith) (λ e. omega arith))
      | inr h ↦
          let large : 10 ≤ n = ltb-false n 10 h in
          rw h (encoded_same (55 + n) (λ e. omega arith) (λ e. omega arith) (λ e. omega arith) (λ e. omega arith) (λ e. omega arith))
    ]

-- an escape is printed as it is
encode-escape : (b : ℕ) → b < 256 → encode (escape b) ≡ escape b
encode-escape b small =
    let high : b / 16 < 16 = omega arith in
    let low : b % 16 < 16 = omega arith in
    ap (λ h. 37 ∷ (h ++ (encoded_byte (digit_glyph true (b % 16)) ++ []))) (glyph_same (b / 16) high)
    ∙ ap (λ l. 37 ∷ (digit_glyph true (b / 16) ∷ (l ++ []))) (glyph_same (b % 16) low)

-- the byte's escape, as the library prints it
library_escape : (b : ℕ) → b < 256 → percent_encode_byte b ≡ escape b
unfolding percent_encode_byte
library_escape b small =
    let high : b / 16 % 16 ≡ b / 16 = omega arith in
    ap (λ h. 37 ∷ digit_glyph true h ∷ digit_glyph true (b % 16) ∷ []) high

-- a byte that isn't kept
pub escaped_byte : (b : ℕ) (after : List ℕ) → b < 256 → is_kept b after ≡ false → url_byte b after ≡ percent_encode_byte b
escaped_byte b after small h = ap encode (cond-false _ (b ∷ []) (escape b) h) ∙ encode-escape b small ∙ sym (library_escape b small)

-- a URL, byte by byte
pub sanitized_more : (b : ℕ) (bs : List ℕ) → sanitize (b ∷ bs) ≡ url_byte b bs ++ sanitize bs
sanitized_more b bs = flat_map-append encoded_byte (percent_byte b bs) (percent bs)

-- a byte that needs no look at those after it
pub plain_byte_stays : (b : ℕ) (after : List ℕ) → is_plain_byte b ≡ true → url_byte b after ≡ b ∷ []
plain_byte_stays b after h =
    let other = λ (n : ℕ) (no : is_plain_byte n ≡ false) (e : b ≡ n). true≢false (sym h ∙ ap is_plain_byte e ∙ no) in
    ap encode (cond-true (is_kept b after) (b ∷ []) (escape b) (or_left (is_url_byte b) _ (and_parts (is_url_byte b) _ h).0))
    ∙ ap (λ x. x ++ []) (encoded_same b (other 0 refl) (other 34 refl) (other 38 refl) (other 60 refl) (other 62 refl))

-- and is ASCII
pub plain_byte_ascii : (b : ℕ) → Fits w8 b → is_plain_byte b ≡ true → b < 128
plain_byte_ascii b fits h =
    let high = agree_below_at (λ n. is_plain_byte n && not (ltb n 128)) (λ n. false) 256 b refl fits.fits in
    ltb-true b 128 (ascii (ltb b 128) (sym (ap (λ t. t && not (ltb b 128)) h) ∙ high))
  where
    ascii : (t : Bool) → (true && not t) ≡ false → t ≡ true
    ascii true e = refl
    ascii false e = sym e

-- ---- a run of such bytes

module _ (url : List ℕ) (fits : (k : ℕ) → Fits w8 (get_or url k 0)) (i : ℕ) where
  abbrev run : ℕ
  run = prefix_len is_plain_byte (drop i url)

  passes : (k : ℕ) → i ≤ k → k < i + run → is_plain_byte (get_or url k 0) ≡ true
  passes k from to =
      let place : i + (k - i) ≡ k = omega arith in
      ap is_plain_byte (sym (get_or-drop i url (k - i) 0 ∙ ap (λ j. get_or url j 0) place))
      ∙ prefix_len_passes is_plain_byte (drop i url) (k - i) 0 (omega arith)

  pub run_ascii : (k : ℕ) → i ≤ k → k < i + run → get_or url k 0 < 128
  run_ascii k from to = plain_byte_ascii (get_or url k 0) (fits k) (passes k from to)

  pub run_waits : (before out : List ℕ) (start : ℕ) → i ≤ length url → start ≤ i → IsPrintedAt sanitize url before out start i
      → IsPrintedAt sanitize url before out start (i + run)
  run_waits before out start le waits same =
      all_wait sanitize url_byte sanitized_more url before out start run i (omega (
        arith,
        length-drop i url,
        prefix_len-le-length is_plain_byte (drop i url),
      )) waits same
      (λ k after from to. plain_byte_stays (get_or url k 0) after (passes k from to))
