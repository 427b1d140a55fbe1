-- Printed bytes with another line ending in place of each LF.
use Rattle.std.proofs.Common.{◌≡◌, ℕ, zero, suc, ◌+◌, ◌/◌, ◌%◌, Bool, true, false, cond, not, eqb, ltb, ◌||◌, ◌&&◌, List, [], ◌∷◌, ◌++◌, Option, None}
use Rattle.std.proofs.Common.{Some, refl, sym, ap, ◌∙◌, arith, decimal, append-nil, flat_map}
use Rattle.laws_endings.proofs.Prelude.{and_parts, both_ways, byte_with, code_with, codes, CompileOptions, cond-false, cond_both, encode, ending_bytes}
use Rattle.laws_endings.proofs.Prelude.{eqb-true, false_from_ne_true, filter_if, flat_map-append, is_fresh, line_ending_code, LineEnding, list_all, ne_eqb}
use Rattle.laws_endings.proofs.Prelude.{not-true, percent, plain, with_ending}
use Rattle.std.specs.Fmt.{digit_glyph, digits, digits_onto}
use Rattle.markdown_options.specs.declared.line_ending.LineEnding.TheVariants.{CarriageReturnLineFeed, CarriageReturn, LineFeed}
use Rattle.definition_text.specs.Encode.{replacement_character, plain_byte, encoded_byte}
use Rattle.definition_inline.specs.Strings.{eol_bytes}
use Rattle.definition_page.specs.GfmTagfilter.{is_filtered, filter_tags}
use Rattle.definition_page.specs.Urls.{is_kept, escape, percent_byte}
use Rattle.definition_page.specs.Pieces.{ends_a_line}
use Rattle.definition_page.proofs.LastByte.{last_from, last_is}
use Rattle.laws_endings.proofs.Each.{Each, each-append}

abbrev pub IsNoFeed : ℕ → Type 0
IsNoFeed b = eqb b 10 ≡ false

-- ---- bytes that hold no LF

-- of given bytes it is tested
pub given_no_feed : (bs : List ℕ) → list_all (λ b. not (eqb b 10)) bs ≡ true → Each IsNoFeed bs
given_no_feed [] h = tt
given_no_feed (b ∷ bs) h =
    let parts = and_parts (not (eqb b 10)) (list_all (λ x. not (eqb x 10)) bs) h in
    (not-true (eqb b 10) parts.0, given_no_feed bs parts.1)

digit_no_feed : (upper : Bool) (d : ℕ) → IsNoFeed (digit_glyph upper d)
digit_no_feed upper d =
    cond_both (ltb d 10) (48 + d) (cond upper (55 + d) (87 + d)) IsNoFeed
    (λ _. ne_eqb (48 + d) 10 (λ is. omega (arith, is)))
    (λ _. cond_both upper (55 + d) (87 + d) IsNoFeed (λ _. ne_eqb (55 + d) 10 (λ is. omega (arith, is))) (λ _. ne_eqb (87 + d) 10 (λ is. omega (arith, is))))

digits_no_feed : (k base : ℕ) (upper : Bool) (n : ℕ) (more : List ℕ) → Each IsNoFeed more → Each IsNoFeed (digits_onto k base upper n more)
digits_no_feed zero base upper n more p = p
digits_no_feed (suc k) base upper n more p =
    let next = digit_glyph upper (n % base) ∷ more in
    let q : Each IsNoFeed next = (digit_no_feed upper (n % base), p) in
    cond_both (eqb (n / base) 0) next (digits_onto k base upper (n / base) next) (Each IsNoFeed) (λ _. q) (λ _. digits_no_feed k base upper (n / base) next q)

pub decimal_no_feed : (n : ℕ) → Each IsNoFeed (decimal n)
unfolding digits
decimal_no_feed n = digits_no_feed 64 10 false n [] tt

kept_no_feed : (b : ℕ) (after : List ℕ) → is_kept b after ≡ true → IsNoFeed b
kept_no_feed b after h = false_from_ne_true (eqb b 10) (λ is. both_ways (is_kept 10 after) refl (ap (λ x. is_kept x after) (sym (eqb-true b 10 is)) ∙ h))

-- a URL as it is printed
pub percent_no_feed : (url : List ℕ) → Each IsNoFeed (percent url)
percent_no_feed [] = tt
percent_no_feed (b ∷ bs) =
    each-append IsNoFeed (percent_byte b bs) (percent bs)
    (cond_both (is_kept b bs) (b ∷ []) (escape b) (Each IsNoFeed) (λ h. (kept_no_feed b bs h, tt))
    (λ _. (refl, (digit_no_feed true (b / 16), (digit_no_feed true (b % 16), tt)))))
    (percent_no_feed bs)

tags_no_feed : (bytes : List ℕ) → Each IsNoFeed bytes → Each IsNoFeed (filter_tags bytes)
tags_no_feed [] p = tt
tags_no_feed (b ∷ bs) p =
    let start = cond (eqb b 60 && is_filtered bs) (codes "&lt;") (b ∷ []) in
    each-append IsNoFeed start (filter_tags bs)
    (cond_both (eqb b 60 && is_filtered bs) (codes "&lt;") (b ∷ []) (Each IsNoFeed) (λ _. (refl, (refl, (refl, (refl, tt))))) (λ _. (p.0, tt)))
    (tags_no_feed bs p.1)

pub filtered_no_feed : (options : CompileOptions) (bytes : List ℕ) → Each IsNoFeed bytes → Each IsNoFeed (filter_if options bytes)
filtered_no_feed options bytes p = cond_both options.gfm_tagfilter (filter_tags bytes) bytes (Each IsNoFeed) (λ _. tags_no_feed bytes p) (λ _. p)

module _ (e : LineEnding) where
  pub with-append : (xs ys : List ℕ) → with_ending e (xs ++ ys) ≡ with_ending e xs ++ with_ending e ys
  with-append xs ys = flat_map-append (byte_with e) xs ys

  pub byte-kept : (b : ℕ) → IsNoFeed b → byte_with e b ≡ b ∷ []
  byte-kept b h = cond-false (eqb b 10) (ending_bytes e) (b ∷ []) h

  pub kept : (bs : List ℕ) → Each IsNoFeed bs → with_ending e bs ≡ bs
  kept [] p = refl
  kept (b ∷ bs) p = ap (λ first. first ++ with_ending e bs) (byte-kept b p.0) ∙ ap (λ more. b ∷ more) (kept bs p.1)

  -- ---- what is made of each byte alone

  -- what leaves an ending's bytes, and puts no LF in place of another byte
  module _ (f : ℕ → List ℕ) (feed : f 10 ≡ 10 ∷ []) (ending : flat_map f (ending_bytes e) ≡ ending_bytes e)
      (other : (b : ℕ) → IsNoFeed b → Each IsNoFeed (f b)) where
    each_by : (b : ℕ) (is : Bool) → eqb b 10 ≡ is → flat_map f (cond is (ending_bytes e) (b ∷ [])) ≡ with_ending e (f b)
    each_by b true h =
        ending ∙ sym (append-nil (ending_bytes e)) ∙ sym (ap (λ x. with_ending e (f x)) (eqb-true b 10 h) ∙ ap (with_ending e) feed)
    each_by b false h = append-nil (f b) ∙ sym (kept (f b) (other b h))

    pub bytewise : (bs : List ℕ) → flat_map f (with_ending e bs) ≡ with_ending e (flat_map f bs)
    bytewise [] = refl
    bytewise (b ∷ bs) =
        flat_map-append f (byte_with e b) (with_ending e bs)
        ∙ ap (λ first. first ++ flat_map f (with_ending e bs)) (each_by b (eqb b 10) refl)
        ∙ ap (λ more. with_ending e (f b) ++ more) (bytewise bs)
        ∙ sym (with-append (f b) (flat_map f bs))

  plain_ending : (ending : LineEnding) → flat_map plain_byte (ending_bytes ending) ≡ ending_bytes ending
  plain_ending CarriageReturnLineFeed = refl
  plain_ending CarriageReturn = refl
  plain_ending LineFeed = refl

  encoded_ending : (ending : LineEnding) → flat_map encoded_byte (ending_bytes ending) ≡ ending_bytes ending
  encoded_ending CarriageReturnLineFeed = refl
  encoded_ending CarriageReturn = refl
  encoded_ending LineFeed = refl

  plain_other : (b : ℕ) → IsNoFeed b → Each IsNoFeed (plain_byte b)
  plain_other b h = cond_both (eqb b 0) replacement_character (b ∷ []) (Each IsNoFeed) (λ _. (refl, (refl, (refl, tt)))) (λ _. (h, tt))

  encoded_other : (b : ℕ) → IsNoFeed b → Each IsNoFeed (encoded_byte b)
  encoded_other b h =
      let P = Each IsNoFeed in
      let last = cond (eqb b 62) (codes "&gt;") (b ∷ []) in
      let lt = cond (eqb b 60) (codes "&lt;") last in
      let amp = cond (eqb b 38) (codes "&amp;") lt in
      let quot = cond (eqb b 34) (codes "&quot;") amp in
      cond_both (eqb b 0) replacement_character quot P (λ _. (refl, (refl, (refl, tt))))
      (λ _. cond_both (eqb b 34) (codes "&quot;") amp P (λ _. (refl, (refl, (refl, (refl, (refl, (refl, tt)))))))
      (λ _. cond_both (eqb b 38) (codes "&amp;") lt P (λ _. (refl, (refl, (refl, (refl, (refl, tt))))))
      (λ _. cond_both (eqb b 60) (codes "&lt;") last P (λ _. (refl, (refl, (refl, (refl, tt)))))
      (λ _. cond_both (eqb b 62) (codes "&gt;") (b ∷ []) P (λ _. (refl, (refl, (refl, (refl, tt))))) (λ _. (h, tt))))))

  pub plain-with : (text : List ℕ) → plain (with_ending e text) ≡ with_ending e (plain text)
  plain-with text = bytewise plain_byte refl (plain_ending e) plain_other text

  pub encode-with : (text : List ℕ) → encode (with_ending e text) ≡ with_ending e (encode text)
  encode-with text = bytewise encoded_byte refl (encoded_ending e) encoded_other text

  -- ---- the code of an ending

  eol_ending : (ending : LineEnding) → eol_bytes (line_ending_code ending) ≡ ending_bytes ending
  eol_ending CarriageReturnLineFeed = refl
  eol_ending CarriageReturn = refl
  eol_ending LineFeed = refl

  eol_by : (code : ℕ) (feed : Bool) → eqb code 10 ≡ feed → eqb code 257 ≡ false
      → eol_bytes (cond feed (line_ending_code e) code) ≡ cond feed (ending_bytes e) (code ∷ []) ++ []
  eol_by code true h k = eol_ending e ∙ sym (append-nil (ending_bytes e))
  eol_by code false h k = cond-false (eqb code 257) (13 ∷ 10 ∷ []) (code ∷ []) k

  pub eol-with : (code : ℕ) → eqb code 257 ≡ false → eol_bytes (code_with e code) ≡ with_ending e (eol_bytes code)
  eol-with code k =
      eol_by code (eqb code 10) refl k ∙ sym (ap (with_ending e) (cond-false (eqb code 257) (13 ∷ 10 ∷ []) (code ∷ []) k))

  -- ---- the last byte

  fresh_is : (bs : List ℕ) → is_fresh bs ≡ ends_a_line (last_from None bs)
  fresh_is [] = refl
  fresh_is (b ∷ bs) = ap ends_a_line (last_is b bs)

  -- an ending ends a line, as LF does
  last_ending : (ending : LineEnding) (last one : Option ℕ) (bs : List ℕ) → ends_a_line one ≡ true
      → ((other : Option ℕ) → ends_a_line other ≡ ends_a_line one → ends_a_line (last_from other bs) ≡ ends_a_line (last_from one bs))
      → ends_a_line (last_from last (ending_bytes ending ++ bs)) ≡ ends_a_line (last_from one bs)
  last_ending CarriageReturnLineFeed last one bs h more = more (Some 10) (sym h)
  last_ending CarriageReturn last one bs h more = more (Some 13) (sym h)
  last_ending LineFeed last one bs h more = more (Some 10) (sym h)

  ends_at_feed : (b : ℕ) → eqb b 10 ≡ true → ends_a_line (Some b) ≡ true
  ends_at_feed b h = ap (λ feed. feed || eqb b 13) h

  ends_same : (one other : Option ℕ) (bs : List ℕ) → ends_a_line one ≡ ends_a_line other → ends_a_line (last_from one bs) ≡ ends_a_line (last_from other bs)
  ends_same one other [] h = h
  ends_same one other (b ∷ bs) h = refl

  last_by : (b : ℕ) (last : Option ℕ) (bs : List ℕ) (feed : Bool) → eqb b 10 ≡ feed
      → ((one : Option ℕ) → ends_a_line (last_from one (with_ending e bs)) ≡ ends_a_line (last_from one bs))
      → ends_a_line (last_from last (cond feed (ending_bytes e) (b ∷ []) ++ with_ending e bs)) ≡ ends_a_line (last_from (Some b) bs)
  last_by b last bs true h same =
      last_ending e last (Some b) (with_ending e bs) (ends_at_feed b h) (λ other k. ends_same other (Some b) (with_ending e bs) k) ∙ same (Some b)
  last_by b last bs false h same = same (Some b)

  last-with : (bs : List ℕ) (last : Option ℕ) → ends_a_line (last_from last (with_ending e bs)) ≡ ends_a_line (last_from last bs)
  last-with [] last = refl
  last-with (b ∷ bs) last = last_by b last bs (eqb b 10) refl (λ one. last-with bs one)

  pub fresh-with : (bs : List ℕ) → is_fresh (with_ending e bs) ≡ is_fresh bs
  fresh-with bs = fresh_is (with_ending e bs) ∙ last-with bs None ∙ sym (fresh_is bs)
