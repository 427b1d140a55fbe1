-- Labels as they are matched: it doesn't matter which spaces, tabs and line endings they have, nor whether their words or all of it is folded.
use Rattle.std.proofs.Common.{◌≡◌, ℕ, true, false, cond, eqb, List, [], ◌∷◌, ◌++◌, map, drop, None, Some, refl, sym, ap, ap₂, ◌∙◌, inl, inr}
use Rattle.std.specs.Prelude.{codes}
use Rattle.std.specs.List.{AllByRecursion, filter, flat_map, join_by, onto_first, slice_split}
use Rattle.std.specs.Str.{IsUtf8, chars, encode_utf8_all, is_utf8}
use Rattle.std.specs.Str.Lossy.{utf8_lossy, utf8_valid_len, utf8_error_len}
use Rattle.std.proofs.lemmas.Bool.{cases_Bool, cond-true, cond-false, eqb-true}
use Rattle.std.proofs.lemmas.Str.{IsUtf8-from_is_utf8, chars-append, encodes-append, utf8_lossy-IsUtf8}
use lib.Utf8.{encode}
use Rattle.caseless.specs.Caseless.{default_case_fold}
use Rattle.caseless.proofs.CaselessLemmas.{default_case_fold-append}
use Rattle.caseless.proofs.Computing.{caseless}
use Rattle.definition_text.specs.Content.{is_space, content_codes, after_return_code}
use Rattle.definition_inline.specs.LabelMatch.{is_word, words, case_fold, fold_word, normal_label, place_of, first_match}
use Rattle.definition_inline.proofs.LinkRenaming.{Renames, space_same}

-- ---- spaces, tabs and line endings for others of their kind

split_renamed : (f : ℕ → ℕ) → Renames f → (cs : List ℕ) → slice_split is_space (map f cs) ≡ slice_split is_space cs
split_renamed f renames [] = refl
split_renamed f renames (c ∷ cs) = elim (cases_Bool (is_space c)) [
  | inl h ↦
      cond-true (is_space (f c)) _ _ (space_same f renames c ∙ h) ∙ ap (λ parts. [] ∷ parts) (split_renamed f renames cs) ∙ sym (cond-true (is_space c) _ _ h)
  | inr h ↦
      cond-false (is_space (f c)) _ _ (space_same f renames c ∙ h) ∙ ap₂ onto_first (renames.other c h) (split_renamed f renames cs)
      ∙ sym (cond-false (is_space c) _ _ h)
]

pub words_renamed : (f : ℕ → ℕ) → Renames f → (cs : List ℕ) → words (map f cs) ≡ words cs
words_renamed f renames cs = ap (filter is_word) (split_renamed f renames cs)

pub normal_renamed : (f : ℕ → ℕ) → Renames f → (cs : List ℕ) → normal_label (map f cs) ≡ normal_label cs
normal_renamed f renames cs = ap (join_by fold_word (32 ∷ [])) (words_renamed f renames cs)

pub normals_renamed : (f : ℕ → ℕ) → Renames f → (labels : List (List ℕ)) → map normal_label (map (map f) labels) ≡ map normal_label labels
normals_renamed f renames [] = refl
normals_renamed f renames (label ∷ labels) = ap₂ ◌∷◌ (normal_renamed f renames label) (normals_renamed f renames labels)

pub first_match-renamed : (f : ℕ → ℕ) → Renames f → (label : List ℕ) (labels : List (List ℕ))
    → first_match (map f label) (map (map f) labels) ≡ first_match label labels
first_match-renamed f renames label labels = ap₂ place_of (normal_renamed f renames label) (normals_renamed f renames labels)

-- ---- CR LF as one code or as two bytes

-- the parts have the same first one, and the others have the same words
record HaveSameWords (parts others : List (List ℕ)) : Type 0 where
  first : List ℕ
  left : List (List ℕ)
  right : List (List ℕ)
  left_parts : parts ≡ first ∷ left
  right_parts : others ≡ first ∷ right
  same : filter is_word left ≡ filter is_word right

same_words : (parts others : List (List ℕ)) → HaveSameWords parts others → filter is_word parts ≡ filter is_word others
same_words parts others h =
    ap (filter is_word) h.left_parts
    ∙ ap (λ left. cond (is_word h.first) (h.first ∷ left) left) h.same
    ∙ sym (ap (filter is_word) h.right_parts)

same_onto : (c : ℕ) (parts others : List (List ℕ)) → HaveSameWords parts others → HaveSameWords (onto_first c parts) (onto_first c others)
same_onto c parts others h = record {
  first = c ∷ h.first;
  left = h.left;
  right = h.right;
  left_parts = ap (onto_first c) h.left_parts;
  right_parts = ap (onto_first c) h.right_parts;
  same = h.same;
}

same_after : (parts others : List (List ℕ)) → HaveSameWords parts others → HaveSameWords ([] ∷ parts) ([] ∷ others)
same_after parts others h = record {
  first = [];
  left = parts;
  right = others;
  left_parts = refl;
  right_parts = refl;
  same = same_words parts others h;
}

same_at : (parts others given known : List (List ℕ)) → parts ≡ given → others ≡ known → HaveSameWords given known → HaveSameWords parts others
same_at parts others given known p q h = record {
  first = h.first;
  left = h.left;
  right = h.right;
  left_parts = p ∙ h.left_parts;
  right_parts = q ∙ h.right_parts;
  same = h.same;
}

abbrev codes_split : List ℕ → List (List ℕ)
codes_split bs = slice_split is_space (content_codes bs)

abbrev bytes_split : List ℕ → List (List ℕ)
bytes_split bs = slice_split is_space bs

-- CR LF is one white code, and two white bytes
same_pair : (b : ℕ) (bs : List ℕ) → eqb b 10 ≡ true → HaveSameWords (codes_split bs) (bytes_split bs)
    → HaveSameWords (slice_split is_space (after_return_code (b ∷ bs) (content_codes (b ∷ bs)))) ([] ∷ bytes_split (b ∷ bs))
same_pair b bs feed h =
    let is : b ≡ 10 = eqb-true b 10 feed in
    let pair : after_return_code (b ∷ bs) (content_codes (b ∷ bs)) ≡ 257 ∷ content_codes bs =
    ap (λ c. after_return_code (c ∷ bs) (content_codes (c ∷ bs))) is in
    let here : HaveSameWords ([] ∷ codes_split bs) ([] ∷ [] ∷ bytes_split bs) = record {
      first = [];
      left = codes_split bs;
      right = [] ∷ bytes_split bs;
      left_parts = refl;
      right_parts = refl;
      same = same_words (codes_split bs) (bytes_split bs) h;
    } in
    same_at _ _ ([] ∷ codes_split bs) ([] ∷ [] ∷ bytes_split bs) (ap (slice_split is_space) pair) (ap (λ c. [] ∷ bytes_split (c ∷ bs)) is) here

-- after a CR
same_return : (bs : List ℕ) → HaveSameWords (codes_split bs) (bytes_split bs) → HaveSameWords (codes_split (drop 1 bs)) (bytes_split (drop 1 bs))
    → HaveSameWords (slice_split is_space (after_return_code bs (content_codes bs))) ([] ∷ bytes_split bs)
same_return [] h more = same_after ([] ∷ []) ([] ∷ []) h
same_return (b ∷ bs) h more = elim (cases_Bool (eqb b 10)) [
  | inl feed ↦ same_pair b bs feed more
  | inr other ↦
      same_at _ _ ([] ∷ codes_split (b ∷ bs)) ([] ∷ bytes_split (b ∷ bs)) (ap (slice_split is_space) (cond-false (eqb b 10) _ _ other)) refl
      (same_after (codes_split (b ∷ bs)) (bytes_split (b ∷ bs)) h)
]

same_byte : (b : ℕ) (bs : List ℕ) → eqb b 13 ≡ false → HaveSameWords (codes_split bs) (bytes_split bs)
    → HaveSameWords (codes_split (b ∷ bs)) (bytes_split (b ∷ bs))
same_byte b bs other h =
    let code : codes_split (b ∷ bs) ≡ slice_split is_space (b ∷ content_codes bs) = ap (slice_split is_space) (cond-false (eqb b 13) _ _ other) in
    elim (cases_Bool (is_space b)) [
      | inl white ↦
          same_at _ _ ([] ∷ codes_split bs) ([] ∷ bytes_split bs) (code ∙ cond-true (is_space b) _ _ white) (cond-true (is_space b) _ _ white)
          (same_after (codes_split bs) (bytes_split bs) h)
      | inr black ↦
          same_at _ _ (onto_first b (codes_split bs)) (onto_first b (bytes_split bs)) (code ∙ cond-false (is_space b) _ _ black)
          (cond-false (is_space b) _ _ black)
          (same_onto b (codes_split bs) (bytes_split bs) h)
    ]

same_next : (b : ℕ) (bs : List ℕ) → HaveSameWords (codes_split bs) (bytes_split bs) → HaveSameWords (codes_split (drop 1 bs)) (bytes_split (drop 1 bs))
    → HaveSameWords (codes_split (b ∷ bs)) (bytes_split (b ∷ bs))
same_next b bs h more = elim (cases_Bool (eqb b 13)) [
  | inl return ↦
      let is : b ≡ 13 = eqb-true b 13 return in
      same_at _ _ (slice_split is_space (after_return_code bs (content_codes bs))) ([] ∷ bytes_split bs) (ap (λ c. codes_split (c ∷ bs)) is)
      (ap (λ c. bytes_split (c ∷ bs)) is) (same_return bs h more)
  | inr other ↦ same_byte b bs other h
]

same_split : (bs : List ℕ) → HaveSameWords (codes_split bs) (bytes_split bs)
same_split [] = record { first = []; left = []; right = []; left_parts = refl; right_parts = refl; same = refl }
same_split (b ∷ []) = same_next b [] (same_split []) (same_split [])
same_split (b ∷ c ∷ cs) = same_next b (c ∷ cs) (same_split (c ∷ cs)) (same_split cs)

pub words-content_codes : (bs : List ℕ) → words (content_codes bs) ≡ words bs
words-content_codes bs = same_words (codes_split bs) (bytes_split bs) (same_split bs)

-- ---- words folded one by one, or the whole label

pub case_folded-append : (xs ys : List ℕ) → IsUtf8 xs → case_fold (xs ++ ys) ≡ case_fold xs ++ case_fold ys
case_folded-append xs ys text =
    ap (λ cs. encode_utf8_all (default_case_fold cs)) (chars-append xs ys text)
    ∙ ap encode_utf8_all (default_case_fold-append (chars xs) (chars ys))
    ∙ encodes-append (default_case_fold (chars xs)) (default_case_fold (chars ys))

-- a label without white space at its ends, and with one space for white space inside
abbrev pub collapsed : List ℕ → List ℕ
collapsed label = join_by (λ word. word) (32 ∷ []) (words label)

pub space_is_text : IsUtf8 (32 ∷ [])
unfolding is_utf8 chars encode
space_is_text = IsUtf8-from_is_utf8 (32 ∷ []) refl

nothing_folded : case_fold [] ≡ []
unfolding default_case_fold chars
nothing_folded = refl

space_folded : case_fold (32 ∷ []) ≡ 32 ∷ []
unfolding caseless chars encode
space_folded = refl

text_folded : (word : List ℕ) → IsUtf8 word → fold_word word ≡ case_fold word
text_folded word text = ap case_fold (utf8_lossy-IsUtf8 word text)

others_folded : (ws : List (List ℕ)) → AllByRecursion IsUtf8 ws → flat_map (λ w. (32 ∷ []) ++ fold_word w) ws ≡ case_fold (flat_map (λ w. (32 ∷ []) ++ w) ws)
others_folded [] all = sym nothing_folded
others_folded (w ∷ ws) all =
    let more = flat_map (λ w. (32 ∷ []) ++ w) ws in
    ap₂ (λ first left. (32 ∷ first) ++ left) (text_folded w all.0) (others_folded ws all.1)
    ∙ ap (λ t. 32 ∷ t) (sym (case_folded-append w more all.0))
    ∙ ap (λ t. t ++ case_fold (w ++ more)) (sym space_folded)
    ∙ sym (case_folded-append (32 ∷ []) (w ++ more) space_is_text)

-- it is the same to collapse white space first and then to fold the case
pub folded_collapsed : (ws : List (List ℕ)) → AllByRecursion IsUtf8 ws → join_by fold_word (32 ∷ []) ws ≡ case_fold (join_by (λ word. word) (32 ∷ []) ws)
folded_collapsed [] all = sym nothing_folded
folded_collapsed (w ∷ ws) all =
    ap₂ ◌++◌ (text_folded w all.0) (others_folded ws all.1)
    ∙ sym (case_folded-append w (flat_map (λ w. (32 ∷ []) ++ w) ws) all.0)

pub normal_label-collapsed : (label : List ℕ) → AllByRecursion IsUtf8 (words label) → normal_label label ≡ case_fold (collapsed label)
normal_label-collapsed label all = folded_collapsed (words label) all

-- ---- worked labels

row_0 : normal_label (codes " Foo" ++ (257 ∷ 9 ∷ 256 ∷ 256 ∷ []) ++ codes "BaR  b ") ≡ codes "foo bar b"
unfolding caseless chars utf8_lossy utf8_valid_len is_utf8 encode
row_0 = refl

-- a capital sharp s
row_1 : normal_label (0xE1 ∷ 0xBA ∷ 0x9E ∷ []) ≡ codes "ss"
unfolding caseless chars utf8_lossy utf8_valid_len is_utf8 encode
row_1 = refl

-- Greek letters
row_2 : normal_label (0xCE ∷ 0x91 ∷ 0xCE ∷ 0x93 ∷ 0xCE ∷ 0xA9 ∷ []) ≡ 0xCE ∷ 0xB1 ∷ 0xCE ∷ 0xB3 ∷ 0xCF ∷ 0x89 ∷ []
unfolding caseless chars utf8_lossy utf8_valid_len is_utf8 encode
row_2 = refl

-- a byte that is no text
row_3 : normal_label (codes "a" ++ (0xFF ∷ []) ++ codes "B") ≡ codes "a" ++ (0xEF ∷ 0xBF ∷ 0xBD ∷ []) ++ codes "b"
unfolding caseless chars utf8_lossy utf8_valid_len utf8_error_len is_utf8 encode
row_3 = refl

row_4 : first_match (codes "SS") (codes "x" ∷ (0xE1 ∷ 0xBA ∷ 0x9E ∷ []) ∷ codes " ss" ∷ []) ≡ Some 1
unfolding caseless chars utf8_lossy utf8_valid_len is_utf8 encode
row_4 = refl

row_5 : first_match (codes "SS S") (codes "x" ∷ codes "sss" ∷ codes " ss" ∷ []) ≡ None
unfolding caseless chars utf8_lossy utf8_valid_len is_utf8 encode
row_5 = refl
