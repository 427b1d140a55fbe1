-- Literals in a content with another ending in place of each LF: none holds an ending.
use Rattle.std.proofs.Common.{◌≡◌, ℕ, zero, suc, ◌+◌, ◌-◌, List, [], ◌∷◌, ◌++◌, None, Some, Option, Bool, true, false, cond, not, ◌&&◌, ◌||◌, eqb, refl, sym}
use Rattle.std.proofs.Common.{ap, ◌∙◌, length, drop, take}
use Rattle.laws_endings.proofs.Prelude.{and_parts, begins_caselessly, begins_name, begins_with, both_ways, code_with, codes, codes_of, codes_with, cond_both}
use Rattle.laws_endings.proofs.Prelude.{Constructs, content_with, cut_more, domain, drop-map, ends_literal, eq-eqb, eqb-true, false_from_ne_true, filter}
use Rattle.laws_endings.proofs.Prelude.{follows_label, Found, get_or-map, has_low_line, inline_code_with, InlineCode, is_among, is_continuation}
use Rattle.laws_endings.proofs.Prelude.{is_control_or_ending, is_cut, is_eol, is_other, is_space, is_white, Kind, leaf, length-map, LineEnding, list_all}
use Rattle.laws_endings.proofs.Prelude.{Literal, literal_after, literal_at, literal_name, literal_run, literal_start, literal_start_at, LiteralStart}
use Rattle.laws_endings.proofs.Prelude.{map-append, may_precede_protocol, may_precede_www, named_literal, nat_le, nat_lt, not-true, option_map, or_parts}
use Rattle.laws_endings.proofs.Prelude.{or_start, prefix_len, Protocol, protocol_start, reverse, reverse-append, slice_index_or, take-map, to_ascii_lowercase}
use Rattle.laws_endings.proofs.Prelude.{without_tail, Www, www_start}
use Rattle.definition_text.specs.Bytes.{is_letter_or_digit}
use Rattle.definition_inline.specs.GfmAutolinkLiteral.{is_trailing, count_of, has_more_closed, name_size}
use Rattle.definition_inline.specs.GfmAutolinkLiteral.{low_line_in}
use Rattle.laws_endings.proofs.Codes.{cond-under, same_code, prefix_len-with}
use Rattle.laws_endings.proofs.Leaves.{if_found, begins-byte, same_byte}

-- a byte that no ending is the same as in lower case
abbrev pub is_apart : ℕ → Bool
is_apart t = not (eqb (to_ascii_lowercase t) 10) && (not (eqb (to_ascii_lowercase t) 13) && not (eqb (to_ascii_lowercase t) 257))

module _ (e : LineEnding) where
  abbrev with : List ℕ → List ℕ
  with cs = codes_with e cs

  pub codes_of-with : (cs : List InlineCode) → codes_of (content_with e cs) ≡ with (codes_of cs)
  codes_of-with [] = refl
  codes_of-with (c ∷ cs) = ap (λ more. code_with e c.code ∷ more) (codes_of-with cs)

  reverse-with : (cs : List ℕ) → reverse (with cs) ≡ with (reverse cs)
  reverse-with [] = refl
  reverse-with (c ∷ cs) =
      reverse-append (code_with e c ∷ []) (with cs)
      ∙ ap (λ l. l ++ code_with e c ∷ []) (reverse-with cs)
      ∙ sym (map-append (code_with e) (reverse cs) (c ∷ []))
      ∙ ap with (sym (reverse-append (c ∷ []) cs))

  -- ---- where a literal begins

  www-with : (previous : Option ℕ) → may_precede_www (option_map (code_with e) previous) ≡ may_precede_www previous
  www-with None = refl
  www-with (Some c) = same_code e (λ x. may_precede_www (Some x)) c refl refl

  protocol-with : (previous : Option ℕ) → may_precede_protocol (option_map (code_with e) previous) ≡ may_precede_protocol previous
  protocol-with None = refl
  protocol-with (Some c) = same_code e (λ x. may_precede_protocol (Some x)) c refl refl

  begins-with : (text cs : List ℕ) → list_all is_apart text ≡ true → begins_caselessly text (with cs) ≡ begins_caselessly text cs
  begins-with [] cs h = refl
  begins-with (t ∷ ts) [] h = refl
  begins-with (t ∷ ts) (c ∷ cs) h =
      let small = to_ascii_lowercase t in
      let parts = and_parts (is_apart t) (list_all is_apart ts) h in
      let first = and_parts (not (eqb small 10)) (not (eqb small 13) && not (eqb small 257)) parts.0 in
      let last = and_parts (not (eqb small 13)) (not (eqb small 257)) first.1 in
      let feed = not-true (eqb small 10) first.0 in
      ap (λ same. same && begins_caselessly ts (with cs))
      (same_code e (λ x. eqb small (to_ascii_lowercase x)) c (not-true (eqb small 13) last.0 ∙ sym feed) (not-true (eqb small 257) last.1 ∙ sym feed))
      ∙ ap (λ more. eqb small (to_ascii_lowercase c) && more) (begins-with ts cs parts.1)

  start-with : (previous : Option ℕ) (cs : List ℕ) → literal_start_at (option_map (code_with e) previous) (with cs) ≡ literal_start_at previous cs
  start-with previous cs =
      let start : Bool → Bool → Bool → Bool → Bool → Option LiteralStart =
      λ after_www after_protocol www http https. or_start (cond (after_www && www) (Some (literal_start Www 4)) None)
      (cond (not after_protocol) None (cond http (Some (literal_start Protocol 7)) (cond https (Some (literal_start Protocol 8)) None))) in
      let has : List ℕ → Bool = λ text. begins_caselessly text (with cs) in
      let a = may_precede_www previous in
      let b = may_precede_protocol previous in
      ap (λ x. start x (may_precede_protocol (option_map (code_with e) previous)) (has (codes "www.")) (has (codes "http://")) (has (codes "https://")))
      (www-with previous)
      ∙ ap (λ x. start a x (has (codes "www.")) (has (codes "http://")) (has (codes "https://"))) (protocol-with previous)
      ∙ ap (λ x. start a b x (has (codes "http://")) (has (codes "https://"))) (begins-with (codes "www.") cs refl)
      ∙ ap (λ x. start a b (begins_caselessly (codes "www.") cs) x (has (codes "https://"))) (begins-with (codes "http://") cs refl)
      ∙ ap (start a b (begins_caselessly (codes "www.") cs) (begins_caselessly (codes "http://") cs)) (begins-with (codes "https://") cs refl)

  begins_name-with : (kind : Kind) (content : List InlineCode) → begins_name kind (content_with e content) ≡ begins_name kind content
  begins_name-with kind [] = refl
  begins_name-with kind (c ∷ cs) = ap (λ control. is_other kind && not control) (same_code e is_control_or_ending c.code refl refl)

  -- ---- where it ends

  label-with : (cs : List ℕ) → follows_label (with cs) ≡ follows_label cs
  label-with [] = refl
  label-with (c ∷ cs) = same_code e (λ x. is_space x || (eqb x 40 || eqb x 91)) c refl refl

  literal-with : (c : ℕ) (cs : List ℕ) → ends_literal (code_with e c) (with cs) ≡ ends_literal c cs
  literal-with c cs =
      same_code e (λ x. ends_literal x (with cs)) c refl refl ∙ ap (λ ends. is_space c || (eqb c 60 || (eqb c 93 && ends))) (label-with cs)

  run-with : (cs : List ℕ) → literal_run (with cs) ≡ with (literal_run cs)
  run-with [] = refl
  run-with (c ∷ cs) =
      ap (λ ends. cond ends [] (code_with e c ∷ literal_run (with cs))) (literal-with c cs)
      ∙ cond-under with (ends_literal c cs) refl (ap (λ more. code_with e c ∷ more) (run-with cs))

  one_more : (is : Bool) (x y : ℕ) (xs ys : List ℕ) → length xs ≡ length ys → length (cond is (x ∷ xs) xs) ≡ length (cond is (y ∷ ys) ys)
  one_more true x y xs ys h = ap suc h
  one_more false x y xs ys h = h

  count-with : (b : ℕ) → eqb 13 b ≡ eqb 10 b → eqb 257 b ≡ eqb 10 b → (cs : List ℕ) → count_of b (with cs) ≡ count_of b cs
  count-with b p q [] = refl
  count-with b p q (c ∷ cs) =
      let more = filter (λ x. eqb x b) (with cs) in
      ap (λ is. length (cond is (code_with e c ∷ more) more)) (same_code e (λ x. eqb x b) c p q)
      ∙ one_more (eqb c b) (code_with e c) c more (filter (λ x. eqb x b) cs) (count-with b p q cs)

  closed-with : (cs : List ℕ) → has_more_closed (with cs) ≡ has_more_closed cs
  closed-with cs =
      ap (λ n. nat_lt n (count_of 41 (with cs))) (count-with 40 refl refl cs) ∙ ap (nat_lt (count_of 40 cs)) (count-with 41 refl refl cs)

  cut-with : (c : ℕ) (cs : List ℕ) → is_cut (code_with e c) (with cs) ≡ is_cut c cs
  cut-with c cs =
      ap (λ t. t || (eqb (code_with e c) 41 && has_more_closed (with (c ∷ cs)))) (same_code e is_trailing c refl refl)
      ∙ ap (λ t. is_trailing c || (t && has_more_closed (with (c ∷ cs)))) (same_code e (λ x. eqb x 41) c refl refl)
      ∙ ap (λ t. is_trailing c || (eqb c 41 && t)) (closed-with (c ∷ cs))

  name_size-with : (cs : List ℕ) → name_size (with cs) ≡ name_size cs
  name_size-with cs =
      let size = prefix_len is_letter_or_digit cs in
      ap (λ n. cond (nat_le 1 n && begins_with (codes "&") (drop n (with cs))) (n + 1) 0) (prefix_len-with e is_letter_or_digit refl refl cs)
      ∙ ap (λ l. cond (nat_le 1 size && begins_with (codes "&") l) (size + 1) 0) (drop-map (code_with e) size cs)
      ∙ ap (λ is. cond (nat_le 1 size && is) (size + 1) 0) (begins-byte e 38 refl refl (drop size cs))

  cut_more-with : (c : ℕ) (cs : List ℕ) → cut_more (code_with e c) (with cs) ≡ cut_more c cs
  cut_more-with c cs =
      ap (λ is. cond is (name_size (with cs)) 0) (same_code e (λ x. eqb x 59) c refl refl) ∙ ap (λ n. cond (eqb c 59) n 0) (name_size-with cs)

  tail-with : (k : ℕ) (cs : List ℕ) → without_tail k (with cs) ≡ with (without_tail k cs)
  tail-with zero [] = refl
  tail-with (suc k) [] = refl
  tail-with zero (c ∷ cs) =
      ap (λ is. cond is (without_tail (cut_more (code_with e c) (with cs)) (with cs)) (with (c ∷ cs))) (cut-with c cs)
      ∙ cond-under with (is_cut c cs) (ap (λ k. without_tail k (with cs)) (cut_more-with c cs) ∙ tail-with (cut_more c cs) cs) refl
  tail-with (suc k) (c ∷ cs) = tail-with k cs

  name-with : (cs : List ℕ) → literal_name (with cs) ≡ with (literal_name cs)
  name-with cs =
      let run = literal_run cs in
      ap (λ l. reverse (without_tail 0 (reverse l))) (run-with cs)
      ∙ ap (λ l. reverse (without_tail 0 l)) (reverse-with run)
      ∙ ap reverse (tail-with 0 (reverse run))
      ∙ reverse-with (without_tail 0 (reverse run))

  -- ---- its domain

  domain-with : (kind : Kind) (content : List InlineCode) → domain kind (content_with e content) ≡ with (domain kind content)
  domain-with kind [] = refl
  domain-with kind (c ∷ cs) =
      let more : Bool = is_continuation c.code || (is_other kind || is_among (codes "-._") c.code) in
      ap (λ is. cond is (code_with e c.code ∷ domain c.after (content_with e cs)) [])
      (same_code e (λ x. is_continuation x || (is_other kind || is_among (codes "-._") x)) c.code refl refl)
      ∙ cond-under with more (ap (λ l. code_with e c.code ∷ l) (domain-with c.after cs)) refl

  low-with : (n : ℕ) (cs : List ℕ) → low_line_in n (with cs) ≡ low_line_in n cs
  low-with zero cs = refl
  low-with (suc n) [] = refl
  low-with (suc n) (c ∷ cs) =
      ap (λ is. cond is true (cond (eqb (code_with e c) 46) (low_line_in n (with cs)) (low_line_in (suc n) (with cs))))
      (same_code e (λ x. eqb x 95) c refl refl)
      ∙ ap (λ is. cond (eqb c 95) true (cond is (low_line_in n (with cs)) (low_line_in (suc n) (with cs)))) (same_code e (λ x. eqb x 46) c refl refl)
      ∙ ap (λ l. cond (eqb c 95) true (cond (eqb c 46) l (low_line_in (suc n) (with cs)))) (low-with n cs)
      ∙ ap (λ l. cond (eqb c 95) true (cond (eqb c 46) (low_line_in n cs) l)) (low-with (suc n) cs)

  low_line-with : (cs : List ℕ) → has_low_line (with cs) ≡ has_low_line cs
  low_line-with cs = ap (low_line_in 2) (reverse-with cs) ∙ low-with 2 (reverse cs)

  -- ---- its text has no ending

  abbrev IsKept : List ℕ → Type 0
  IsKept cs = with cs ≡ cs

  byte_kept : (c : ℕ) (cs : List ℕ) → ends_literal c cs ≡ false → code_with e c ≡ c
  byte_kept c cs goes =
      let space = (or_parts (is_space c) (eqb c 60 || (eqb c 93 && follows_label cs)) goes).0 in
      let lines = (or_parts (is_white c) (is_eol c) space).1 in
      same_byte e c (or_parts (eqb c 10) (eqb c 13) (or_parts (eqb c 10 || eqb c 13) (eqb c 257) lines).0).0

  run_kept : (cs : List ℕ) → IsKept (literal_run cs)
  run_kept [] = refl
  run_kept (c ∷ cs) =
      cond_both (ends_literal c cs) [] (c ∷ literal_run cs) IsKept (λ _. refl)
      (λ goes. ap (λ b. b ∷ with (literal_run cs)) (byte_kept c cs goes) ∙ ap (λ l. c ∷ l) (run_kept cs))

  tail_kept : (k : ℕ) (cs : List ℕ) → IsKept cs → IsKept (without_tail k cs)
  tail_kept zero [] h = refl
  tail_kept (suc k) [] h = refl
  tail_kept zero (c ∷ cs) h =
      cond_both (is_cut c cs) (without_tail (cut_more c cs) cs) (c ∷ cs) IsKept (λ _. tail_kept (cut_more c cs) cs (ap (drop 1) h)) (λ _. h)
  tail_kept (suc k) (c ∷ cs) h = tail_kept k cs (ap (drop 1) h)

  reverse_kept : (cs : List ℕ) → IsKept cs → IsKept (reverse cs)
  reverse_kept cs h = sym (reverse-with cs) ∙ ap reverse h

  name_kept : (cs : List ℕ) → IsKept (literal_name cs)
  name_kept cs =
      let run = literal_run cs in
      reverse_kept (without_tail 0 (reverse run)) (tail_kept 0 (reverse run) (reverse_kept run (run_kept cs)))

  begun_kept : (text cs : List ℕ) → list_all is_apart text ≡ true → begins_caselessly text cs ≡ true → IsKept (take (length text) cs)
  begun_kept [] cs apart h = refl
  begun_kept (t ∷ ts) [] apart h = refl
  begun_kept (t ∷ ts) (c ∷ cs) apart h =
      let small = to_ascii_lowercase t in
      let aparts = and_parts (is_apart t) (list_all is_apart ts) apart in
      let parts = and_parts (eqb small (to_ascii_lowercase c)) (begins_caselessly ts cs) h in
      let no_feed = not-true (eqb small 10) (and_parts (not (eqb small 10)) (not (eqb small 13) && not (eqb small 257)) aparts.0).0 in
      let byte : eqb c 10 ≡ false =
      false_from_ne_true (eqb c 10) (λ at. both_ways (eqb small 10) no_feed (eq-eqb small 10
      (eqb-true small (to_ascii_lowercase c) parts.0 ∙ ap to_ascii_lowercase (eqb-true c 10 at)))) in
      ap (λ b. b ∷ with (take (length ts) cs)) (same_byte e c byte) ∙ ap (λ l. c ∷ l) (begun_kept ts cs aparts.1 parts.1)

  abbrev StartKept : List ℕ → Option LiteralStart → Type 0
  StartKept cs None = true ≡ true
  StartKept cs (Some start) = IsKept (take start.size cs)

  kept_or : (cs : List ℕ) (a b : Option LiteralStart) → StartKept cs a → StartKept cs b → StartKept cs (or_start a b)
  kept_or cs None b p q = q
  kept_or cs (Some start) b p q = p

  start_kept : (previous : Option ℕ) (cs : List ℕ) → StartKept cs (literal_start_at previous cs)
  start_kept previous cs =
      kept_or cs (www_start previous cs) (protocol_start previous cs)
      (cond_both (may_precede_www previous && begins_caselessly (codes "www.") cs) (Some (literal_start Www 4)) None (StartKept cs)
      (λ h. begun_kept (codes "www.") cs refl (and_parts (may_precede_www previous) (begins_caselessly (codes "www.") cs) h).1) (λ _. refl))
      (cond_both (not (may_precede_protocol previous)) None _ (StartKept cs) (λ _. refl)
      (λ _. cond_both (begins_caselessly (codes "http://") cs) (Some (literal_start Protocol 7)) _ (StartKept cs)
      (λ h. begun_kept (codes "http://") cs refl h)
      (λ _. cond_both (begins_caselessly (codes "https://") cs) (Some (literal_start Protocol 8)) None (StartKept cs)
      (λ h. begun_kept (codes "https://") cs refl h) (λ _. refl))))

  -- ---- the leaf

  module _ (start : LiteralStart) where
    abbrev test : Kind → List InlineCode → ℕ → Bool
    test kind after size = begins_name kind after && not (has_low_line (domain kind (take size after)))

    abbrev made : Bool → List ℕ → ℕ → Option Found
    made is text size = cond is (Some (leaf (Literal start.kind text ∷ []) (start.size + size))) None

    test-with : (kind : Kind) (after : List InlineCode) (size : ℕ) → test kind (content_with e after) size ≡ test kind after size
    test-with kind after size =
        ap (λ is. is && not (has_low_line (domain kind (take size (content_with e after))))) (begins_name-with kind after)
        ∙ ap (λ low. begins_name kind after && not low)
        (ap (λ l. has_low_line (domain kind l)) (take-map (inline_code_with e) size after)
        ∙ ap has_low_line (domain-with kind (take size after))
        ∙ low_line-with (domain kind (take size after)))

    named-with : (content : List InlineCode) (other last : InlineCode) (name : List ℕ) → other.after ≡ last.after
        → IsKept (take start.size (codes_of content)) → IsKept name
        → named_literal start (content_with e content) other (with name) ≡ if_found e (named_literal start content last name)
    named-with content other last name h front_kept kept =
        let n = start.size in
        let after = drop n content in
        let front = take n (codes_of content) in
        let is = test last.after after (length name) in
        ap (λ kind. made (test kind (drop n (content_with e content)) (length (with name))) (take n (codes_of (content_with e content)) ++ with name)
        (length (with name))) h
        ∙ ap (λ l. made (test last.after l (length (with name))) (take n (codes_of (content_with e content)) ++ with name) (length (with name)))
        (drop-map (inline_code_with e) n content)
        ∙ ap (λ l. made (test last.after (content_with e after) (length (with name))) (l ++ with name) (length (with name)))
        (ap (take n) (codes_of-with content) ∙ take-map (code_with e) n (codes_of content))
        ∙ ap (λ size. made (test last.after (content_with e after) size) (with front ++ with name) size) (length-map name (code_with e))
        ∙ ap (λ t. made t (with front ++ with name) (length name)) (test-with last.after after (length name))
        ∙ ap (λ text. made is (text ++ with name) (length name)) front_kept
        ∙ ap (λ text. made is (front ++ text) (length name)) kept
        ∙ cond-under (if_found e) is refl refl

  after-with : (c : InlineCode) (cs : List InlineCode) (found : Option LiteralStart) → StartKept (codes_of (c ∷ cs)) found
      → literal_after (inline_code_with e c) (content_with e cs) found ≡ if_found e (literal_after c cs found)
  after-with c cs None k = refl
  after-with c cs (Some start) k =
      let n = start.size in
      let all = content_with e (c ∷ cs) in
      let other = slice_index_or all (n - 1) (inline_code_with e c) in
      let last = slice_index_or (c ∷ cs) (n - 1) c in
      ap (named_literal start all other)
      (ap (λ l. literal_name (drop n l)) (codes_of-with (c ∷ cs)) ∙ ap literal_name (drop-map (code_with e) n (codes_of (c ∷ cs)))
      ∙ name-with (drop n (codes_of (c ∷ cs))))
      ∙ named-with start (c ∷ cs) other last (literal_name (drop n (codes_of (c ∷ cs))))
      (ap (λ (x : InlineCode). x.after) (get_or-map (inline_code_with e) (c ∷ cs) (n - 1) c))
      k (name_kept (drop n (codes_of (c ∷ cs))))

  pub literal_at-with : (on : Constructs) (content : List InlineCode) → literal_at on (content_with e content) ≡ if_found e (literal_at on content)
  literal_at-with on [] = refl
  literal_at-with on (c ∷ cs) =
      cond-under (if_found e) on.gfm_autolink_literal
      (ap (literal_after (inline_code_with e c) (content_with e cs))
      (ap (literal_start_at (option_map (code_with e) c.previous)) (codes_of-with (c ∷ cs)) ∙ start-with c.previous (codes_of (c ∷ cs)))
      ∙ after-with c cs (literal_start_at c.previous (codes_of (c ∷ cs))) (start_kept c.previous (codes_of (c ∷ cs))))
      refl
