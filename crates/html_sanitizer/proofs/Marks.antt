-- HTML from left to right: text, and what begins with `<` or `&`.
use Rattle.std.proofs.Common.{◌≡◌, ℕ, zero, suc, ◌+◌, ◌-◌, ◌<◌, Bool, true, false, not, ◌||◌, cond, eqb, List, [], ◌∷◌, ◌++◌, Option, None, Some, codes}
use Rattle.std.proofs.Common.{length, take, drop}
use Rattle.std.proofs.Common.{refl, sym, ap, ◌∙◌, arith, inl, inr, get_or, append_assoc}
use Rattle.std.specs.List.{fold, list_all, prefix_len, position_or_len}
use Rattle.std.specs.Option.{option_map, option_and_then}
use Rattle.std.proofs.lemmas.Bool.{cases_Bool, cond-true, cond-false, eqb-false, ne_eqb, and_parts, and_from, and_left, or_parts, not-true, false≢true}
use Rattle.std.proofs.lemmas.List.{length-append, drop_at}
use Rattle.std.proofs.lemmas.Option.{none-some, same_Some}
use Rattle.markdown_compile_options.specs.declared.configuration.CompileOptions.{CompileOptions}
use Rattle.markdown_options.specs.Defaults.{default_constructs}
use Rattle.definition_text.specs.Bytes.{begins_with}
use Rattle.definition_text.specs.Columns.{Code}
use Rattle.definition_text.specs.Content.{Part, part, content_codes}
use Rattle.definition_text.specs.Encode.{encoded_byte, encode}
use Rattle.definition_inline.specs.CharacterReference.{Names, reference_after}
use Rattle.definition_inline.specs.Decoded.{known_text, known_at}
use Rattle.definition_inline.specs.HtmlText.{html_end, html_leaf, html_text_at}
use Rattle.definition_inline.specs.Inline as inline
use Rattle.definition_inline.specs.Strings.{eol_bytes}
use Rattle.inline_leaves.specs.Leaves.{size_before, IsAfter}
use Rattle.inline_links.specs.Codes.{IsCut}
use Rattle.inline_links.proofs.Cuts.{cut_after}
use Rattle.inline_links.proofs.Runs.{one_more}
use Rattle.inline_references.proofs.Decoding.{known_has}
use Rattle.definition_html.specs.Attributes.{tag_bytes, code_bytes}
use Rattle.definition_html.specs.Raw.{RawPart, Text, token_part, found_raw, token_to, reference_to, token_or_reference, or_code, raw_parts_after}
use Rattle.definition_html.specs.State.{State, says}
use Rattle.definition_html.specs.Listed.{raw_part}
use Rattle.html_listed.proofs.Open.{says_twice, says_nothing}
use Rattle.html_sanitizer.specs.Sanitized.{page_after, is_mark, before_marks, after_marks, reference_part}
use Rattle.html_sanitizer.proofs.Codes.{own_bytes, by_code, begins_bytes}
use Rattle.html_sanitizer.proofs.Tokens.{AreBytes, codes_back, known_codes, written_some, token_bytes}

-- ---- parts

-- the state after some codes
abbrev pub after_codes : Names → CompileOptions → State → List Code → State
after_codes names options s html = fold raw_part s (raw_parts_after names options 0 html)

-- codes that are taken already
taken_parts : (names : Names) (options : CompileOptions) (taken : ℕ) (html : List Code)
    → raw_parts_after names options taken html ≡ raw_parts_after names options 0 (drop taken html)
taken_parts names options zero html = refl
taken_parts names options (suc taken) [] = refl
taken_parts names options (suc taken) (c ∷ cs) = taken_parts names options taken cs

encode_append : (a b : List ℕ) → encode (a ++ b) ≡ encode a ++ encode b
encode_append [] b = refl
encode_append (c ∷ cs) b = ap (λ x. encoded_byte c ++ x) (encode_append cs b) ∙ sym (append_assoc (encoded_byte c) (encode cs) (encode b))

-- ---- text

abbrev is_text : Code → Bool
is_text code = not (is_mark code)

module _ (names : Names) (options : CompileOptions) where
  -- a code that begins no tag and no reference is a text
  one_text : (c : Code) (cs : List Code) → token_or_reference names options (c ∷ cs) ≡ None
      → raw_parts_after names options 0 (c ∷ cs) ≡ Text (encode (eol_bytes c)) ∷ raw_parts_after names options 0 cs
  one_text c cs h = ap (λ o. let found = or_code c o in found.part ∷ raw_parts_after names options (found.size - 1) cs) h

  no_mark : (c : Code) (cs : List Code) → is_text c ≡ true → token_or_reference names options (c ∷ cs) ≡ None
  no_mark c cs h =
      let no = or_parts (eqb c 60) (eqb c 38) (not-true (eqb c 60 || eqb c 38) h) in
      let no_tag : eqb 60 c ≡ false = ne_eqb 60 c (λ e. eqb-false c 60 no.0 (sym e)) in
      let html = c ∷ cs in
      cond-false (begins_with (codes "<") html) _ (option_map (reference_to html) (known_at names html)) (and_left (eqb 60 c) _ no_tag)
      ∙ ap (λ t. option_map (reference_to html) (option_and_then (known_text names) (cond t (reference_after cs) None))) no.1

  text_codes : (front rest : List Code) (s : State) → list_all is_text front ≡ true
      → after_codes names options s (front ++ rest) ≡ after_codes names options (says (encode (code_bytes front)) s) rest
  text_codes [] rest s h = ap (λ t. after_codes names options t rest) (says_nothing s)
  text_codes (c ∷ cs) rest s h =
      let parts = and_parts (is_text c) (list_all is_text cs) h in
      let first = encode (eol_bytes c) in
      ap (fold raw_part s) (one_text c (cs ++ rest) (no_mark c (cs ++ rest) parts.0))
      ∙ text_codes cs rest (says first s) parts.1
      ∙ ap (λ t. after_codes names options t rest) (says_twice s first (encode (code_bytes cs))
      ∙ ap (λ x. says x s) (sym (encode_append (eol_bytes c) (code_bytes cs))))

  -- a code that is a text by itself
  one_code : (c : Code) (cs : List Code) (s : State) → token_or_reference names options (c ∷ cs) ≡ None
      → after_codes names options s (c ∷ cs) ≡ after_codes names options (says (encode (eol_bytes c)) s) cs
  one_code c cs s h = ap (fold raw_part s) (one_text c cs h)

  -- what was found, and what follows it
  one_found : (c : Code) (cs rest : List Code) (s : State) (p : RawPart) (size : ℕ) → token_or_reference names options (c ∷ cs) ≡ Some (found_raw p size)
      → 0 < size → rest ≡ drop size (c ∷ cs) → after_codes names options s (c ∷ cs) ≡ after_codes names options (raw_part s p) rest
  one_found c cs rest s p size h some e =
      let more : size ≡ suc (size - 1) = omega arith in
      let place : rest ≡ drop (size - 1) cs = e ∙ ap (λ k. drop k (c ∷ cs)) more in
      ap (λ o. let found = or_code c o in fold raw_part s (found.part ∷ raw_parts_after names options (found.size - 1) cs)) h
      ∙ ap (fold raw_part (raw_part s p)) (taken_parts names options (size - 1) cs ∙ ap (raw_parts_after names options 0) (sym place))

-- the bytes of codes are text only where the codes are
text_of_bytes : (cs : List Code) → list_all is_text (code_bytes cs) ≡ true → list_all is_text cs ≡ true
text_of_bytes [] = λ h. refl
text_of_bytes (c ∷ cs) =
    by_code (λ x. list_all is_text (code_bytes x) ≡ true → list_all is_text x ≡ true) c cs
    (λ h. text_of_bytes cs h)
    (λ e h.
    let parts = and_parts (is_text c) (list_all is_text (code_bytes cs)) (ap (list_all is_text) (sym (own_bytes c cs e)) ∙ h) in
    and_from (is_text c) (list_all is_text cs) parts.0 (text_of_bytes cs parts.1))

all_before : (p : ℕ → Bool) (xs : List ℕ) → list_all p (take (prefix_len p xs) xs) ≡ true
all_before p [] = refl
all_before p (x ∷ xs) = elim (cases_Bool (p x)) [
  | inl h ↦
      ap (λ k. list_all p (take k (x ∷ xs))) (cond-true (p x) (1 + prefix_len p xs) 0 h ∙ one_more (prefix_len p xs))
      ∙ and_from (p x) (list_all p (take (prefix_len p xs) xs)) h (all_before p xs)
  | inr h ↦ ap (λ k. list_all p (take k (x ∷ xs))) (cond-false (p x) (1 + prefix_len p xs) 0 h)
]

taken_are : (n : ℕ) (bs : List ℕ) → AreBytes bs → AreBytes (take n bs)
taken_are zero bs h = tt
taken_are (suc n) [] h = tt
taken_are (suc n) (b ∷ bs) h = (h.0, taken_are n bs h.1)

pub dropped_are : (n : ℕ) (bs : List ℕ) → AreBytes bs → AreBytes (drop n bs)
dropped_are zero bs h = h
dropped_are (suc n) [] h = tt
dropped_are (suc n) (b ∷ bs) h = dropped_are n bs h.1

pub are_bytes : (bs : List ℕ) → ((k : ℕ) → get_or bs k 0 < 256) → AreBytes bs
are_bytes [] h = tt
are_bytes (b ∷ bs) h = (h zero, are_bytes bs (λ k. h (suc k)))

-- a place before a mark or at the end isn't inside a line ending
mark_cut : (html : List ℕ) (n : ℕ) → (get_or html n 0 ≡ 10 → ⊥) → IsCut html n
mark_cut html zero h = refl
mark_cut html (suc n) h = cut_after n html (λ r f. h f)

stops_before : (html : List ℕ) → get_or html (position_or_len is_mark html) 0 ≡ 10 → ⊥
stops_before [] e = absurd (omega (arith, e))
stops_before (b ∷ bs) e = elim (cases_Bool (is_mark b)) [
  | inl h ↦
      let at_mark : get_or (b ∷ bs) (position_or_len is_mark (b ∷ bs)) 0 ≡ b =
      ap (λ t. get_or (b ∷ bs) (cond (not t) (1 + position_or_len is_mark bs) 0) 0) h in
      let ten : b ≡ 10 = sym at_mark ∙ e in
      false≢true (ap is_mark (sym ten) ∙ h)
  | inr h ↦
      let later : get_or (b ∷ bs) (position_or_len is_mark (b ∷ bs)) 0 ≡ get_or bs (position_or_len is_mark bs) 0 =
      ap (λ t. get_or (b ∷ bs) (cond (not t) (1 + position_or_len is_mark bs) 0) 0) h
      ∙ ap (λ k. get_or (b ∷ bs) k 0) (one_more (position_or_len is_mark bs)) in
      stops_before bs (sym later ∙ e)
]

-- text up to a mark
pub text_printed : (names : Names) (options : CompileOptions) (s : State) (html : List ℕ) → AreBytes html
    → page_after names options (says (encode (before_marks html)) s) (after_marks html) ≡ page_after names options s html
text_printed names options s html are =
    let n = position_or_len is_mark html in
    let front = content_codes (before_marks html) in
    let back = codes_back (before_marks html) (taken_are n html are) in
    let text : list_all is_text front ≡ true = text_of_bytes front (ap (list_all is_text) back ∙ all_before is_text html) in
    let cut : content_codes html ≡ front ++ content_codes (after_marks html) = mark_cut html n (stops_before html) in
    sym (ap (after_codes names options s) cut
    ∙ text_codes names options front (content_codes (after_marks html)) s text
    ∙ ap (λ x. after_codes names options (says (encode x) s) (content_codes (after_marks html))) back)

-- ---- references

-- a reference, or `&`
pub reference_printed : (names : Names) (options : CompileOptions) (s : State) (after : List ℕ) (p : Part) → AreBytes after
    → reference_part after (known_at names (38 ∷ after)) ≡ p
    → page_after names options (says p.text s) p.rest ≡ page_after names options s (38 ∷ after)
reference_printed names options s after p are is = by_bytes (known_at names (38 ∷ after)) refl
  where
    by_bytes : (o : Option Part) → known_at names (38 ∷ after) ≡ o → page_after names options (says p.text s) p.rest ≡ page_after names options s (38 ∷ after)
    by_bytes None e =
        let none : known_at names (38 ∷ content_codes after) ≡ None =
        known_codes names (38 ∷ after) ((omega arith), are) ∙ ap (option_map (λ (p : Part). part p.text (content_codes p.rest))) e in
        let printed : part (codes "&amp;") after ≡ p = ap (reference_part after) (sym e) ∙ is in
        ap (λ (x : Part). page_after names options (says x.text s) x.rest) (sym printed)
        ∙ sym (one_code names options 38 (content_codes after) s
        (ap (option_map (reference_to (38 ∷ content_codes after))) none))
    by_bytes (Some q) e =
        let some : known_at names (38 ∷ content_codes after) ≡ Some (part q.text (content_codes q.rest)) =
        known_codes names (38 ∷ after) ((omega arith), are) ∙ ap (option_map (λ (p : Part). part p.text (content_codes p.rest))) e in
        let printed : part (encode q.text) q.rest ≡ p = ap (reference_part after) (sym e) ∙ is in
        let has = known_has names (38 ∷ content_codes after) (part q.text (content_codes q.rest)) some in
        let size = length (38 ∷ content_codes after) - length (content_codes q.rest) in
        let sizes : length (38 ∷ content_codes after) ≡ length has.front + length (content_codes q.rest) = ap length has.is
        ∙ length-append has.front (content_codes q.rest) in
        let same : size ≡ length has.front = omega arith in
        let place : content_codes q.rest ≡ drop size (38 ∷ content_codes after) =
        sym (ap (λ k. drop k (38 ∷ content_codes after)) same ∙ ap (drop (length has.front)) has.is
        ∙ drop_at has.front (content_codes q.rest) (length has.front) refl) in
        let front_some = written_some names has.front has.name has.written in
        ap (λ (x : Part). page_after names options (says x.text s) x.rest) (sym printed)
        ∙ sym (one_found names options 38 (content_codes after) (content_codes q.rest) s (Text (encode q.text)) size
        (ap (option_map (reference_to (38 ∷ content_codes after))) some) (omega arith) place)

-- ---- raw HTML

-- equal leaves of raw HTML
leaf_same : (a b : List Code) (m n : ℕ) → Some (inline.leaf (inline.Html a ∷ []) m) ≡ Some (inline.leaf (inline.Html b ∷ []) n) → (a ≡ b) × (m ≡ n)
leaf_same a b m n h =
    let same : inline.leaf (inline.Html a ∷ []) m ≡ inline.leaf (inline.Html b ∷ []) n = same_Some (inline.leaf (inline.Html a ∷ []) m)
    (inline.leaf (inline.Html b ∷ []) n) h in
    let parts : inline.Html a ∷ [] ≡ inline.Html b ∷ [] = ap (λ (f : inline.Found). f.parts) same in
    (one_html parts, ap (λ (f : inline.Found). f.size) same)
  where
    one_html : inline.Html a ∷ [] ≡ inline.Html b ∷ [] → a ≡ b
    one_html e = cc

-- raw HTML that codes begin with
token_of_leaf : (names : Names) (options : CompileOptions) (html token : List Code) (size : ℕ) (o : Option (List ℕ)) → html_end (tag_bytes html) ≡ o
    → begins_with (codes "<") html ≡ true
    → Some (inline.leaf (inline.Html token ∷ []) size) ≡ html_leaf html o
    → (token_or_reference names options html ≡ Some (found_raw (token_part names options token) size)) × (token ≡ take size html)
token_of_leaf names options html token size None e begins h = absurd (none-some _ (sym h))
token_of_leaf names options html token size (Some rest) e begins h =
    let n = length html - length rest in
    let same = leaf_same token (take n html) size n h in
    let sizes = same.1 in
    let tokens = same.0 in (
      cond-true (begins_with (codes "<") html) (option_map (token_to names options html) (html_end (tag_bytes html))) _ begins
          ∙ ap (option_map (token_to names options html)) e
          ∙ ap (λ x. Some (found_raw (token_part names options x) n)) (sym tokens)
          ∙ ap (λ k. Some (found_raw (token_part names options token) k)) (sym sizes),
      tokens ∙ ap (λ k. take k html) (sym sizes),
    )

-- a token at the front of codes
token_first : (html token : List Code) (size : ℕ) → begins_with (codes "<") html ≡ true → token ≡ take size html → 0 < size → begins_with (codes "<") token
    ≡ true
token_first [] token size h e some = absurd (false≢true h)
token_first (c ∷ cs) token zero h e some = absurd (omega arith)
token_first (c ∷ cs) token (suc size) h e some = ap (begins_with (codes "<")) e ∙ h

token_codes : (names : Names) (options : CompileOptions) (s : State) (html token rest : List Code) (size : ℕ)
    → token_or_reference names options html ≡ Some (found_raw (token_part names options token) size)
    → begins_with (codes "<") html ≡ true → 0 < size → rest ≡ drop size html
    → after_codes names options (raw_part s (token_part names options token)) rest ≡ after_codes names options s html
token_codes names options s [] token rest size found h some e = absurd (false≢true h)
token_codes names options s (c ∷ cs) token rest size found h some e = sym
    (one_found names options c cs rest s (token_part names options token) size found some e)

-- the leaf that begins here is raw HTML
pub record IsToken (rest : List ℕ) (text after : List ℕ) : Type 0 where
  pub begins : begins_with (codes "<") (content_codes rest) ≡ true
  pub leaf : Some (inline.leaf (inline.Html (content_codes text) ∷ []) (size_before rest after))
      ≡ html_leaf (content_codes rest) (html_end (tag_bytes (content_codes rest)))

pub is_token : (rest text after : List ℕ) → Some (inline.leaf (inline.Html (content_codes text) ∷ []) (size_before rest after))
    ≡ html_text_at default_constructs (content_codes rest)
    → IsToken rest text after
is_token rest text after h = elim (cases_Bool (begins_with (codes "<") (content_codes rest))) [
  | inl t ↦ record {
    begins = t;
    leaf = h ∙ cond-true (begins_with (codes "<") (content_codes rest))
        (html_leaf (content_codes rest) (html_end (tag_bytes (content_codes rest)))) None t;
  }
  | inr t ↦ absurd (none-some _ (sym (h ∙ cond-false (begins_with (codes "<") (content_codes rest))
      (html_leaf (content_codes rest) (html_end (tag_bytes (content_codes rest)))) None t)))
]

pub token_begins : (rest text after : List ℕ) → AreBytes text → IsToken rest text after → IsAfter rest after → begins_with (codes "<") text ≡ true
token_begins rest text after are token later =
    let size = size_before rest after in
    let some : 0 < size = omega (arith, later.fewer) in
    let take_it = taken_as rest text after token in
    let first = token_first (content_codes rest) (content_codes text) size token.begins take_it some in
    ap (begins_with (codes "<")) (sym (codes_back text are)) ∙ begins_bytes (codes "<") (content_codes text) refl ∙ first
  where
    taken_as : (rest text after : List ℕ) → IsToken rest text after → content_codes text ≡ take (size_before rest after) (content_codes rest)
    taken_as rest text after token = by_end (html_end (tag_bytes (content_codes rest))) token.leaf
      where
        by_end : (o : Option (List ℕ)) → Some (inline.leaf (inline.Html (content_codes text) ∷ []) (size_before rest after)) ≡ html_leaf (content_codes rest) o
            → content_codes text ≡ take (size_before rest after) (content_codes rest)
        by_end None h = absurd (none-some _ (sym h))
        by_end (Some r) h =
            let n = length (content_codes rest) - length r in
            let same = leaf_same (content_codes text) (take n (content_codes rest)) (size_before rest after) n h in
            let sizes = same.1 in
            let tokens = same.0 in tokens ∙ ap (λ k. take k (content_codes rest)) (sym sizes)

pub token_printed : (names : Names) (options : CompileOptions) (s : State) (rest text after : List ℕ) → AreBytes text → IsToken rest text after
    → IsAfter rest after
    → page_after names options (raw_part s (token_part names options text)) after ≡ page_after names options s rest
token_printed names options s rest text after are token later =
    let html = content_codes rest in
    let size = size_before rest after in
    let some : 0 < size = omega (arith, later.fewer) in
    let found = token_of_leaf names options html (content_codes text) size (html_end (tag_bytes html)) refl token.begins token.leaf in
    let first = token_first html (content_codes text) size token.begins found.1 some in
    let same : token_part names options text ≡ token_part names options (content_codes text) =
    ap (token_part names options) (sym (codes_back text are)) ∙ token_bytes names options (content_codes text) first in
    ap (λ p. page_after names options (raw_part s p) after) same
    ∙ token_codes names options s html (content_codes text) (content_codes after) size found.0 token.begins some later.codes

-- `<` alone
no_leaf : (html : List Code) (o : Option (List ℕ)) → None ≡ html_leaf html o → o ≡ None
no_leaf html None h = refl
no_leaf html (Some rest) h = absurd (none-some _ h)

pub lone_printed : (names : Names) (options : CompileOptions) (s : State) (after : List ℕ) → None ≡ html_text_at default_constructs (content_codes (60 ∷ after))
    → page_after names options (says (codes "&lt;") s) after ≡ page_after names options s (60 ∷ after)
lone_printed names options s after h =
    let html = 60 ∷ content_codes after in
    let none : html_end (tag_bytes html) ≡ None = no_leaf html (html_end (tag_bytes html)) h in
    sym (one_code names options 60 (content_codes after) s (ap (option_map (token_to names options html)) none))
