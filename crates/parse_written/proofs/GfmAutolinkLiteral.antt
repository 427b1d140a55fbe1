-- Literals are read as their texts, and those of a tree are written where their bytes are.
use Rattle.std.proofs.Common.{◌<◌, ◌≡◌, ℕ, zero, suc, ◌+◌, ◌≤◌, Bool, true, false, cond, not, ◌&&◌, ◌||◌, List, [], ◌∷◌, ◌++◌, Option, None, Some}
use Rattle.std.proofs.Common.{length, take, drop, reverse, refl, sym, ap, ap₂, ◌∙◌, subst, arith, append_assoc}
use Rattle.parse_written.proofs.Prelude.{and_parts, AreCodes, AsLeaf, bytes_eq-Decides, codes, codes_of, common_steps, cond_both, drop-codes_of, drop-drop}
use Rattle.parse_written.proofs.Prelude.{EndNoLine, Found, InlineCode, InlineContext, is_eol, is_white, leaf, Leaf, leaf_tokens, Literal, literal_at}
use Rattle.parse_written.proofs.Prelude.{both_ways, LiteralKind, reverse-append, reverse-reverse, take-append_seam, where_passed, WhereSome, ◌==◌}
use Rattle.std.specs.List.{list_all}
use Rattle.std.proofs.lemmas.List.{length-map}
use Rattle.std.proofs.lemmas.List.Folds.{list_all-append}
use Rattle.std.specs.Char.{to_ascii_lowercase}
use Rattle.std.proofs.lemmas.Bool.{ne_eqb, or_from, or_left, or_parts, or_right}
use Rattle.definition_text.specs.Bytes.{lower, same_caselessly}
use Rattle.definition_text.specs.Content.{is_space}
use Rattle.definition_inline.specs.GfmAutolinkLiteral.{LiteralStart, literal_start, or_start, www_start, protocol_start, begins_caselessly, may_precede_www}
use Rattle.definition_inline.specs.GfmAutolinkLiteral.{may_precede_protocol, literal_start_at, ends_literal, literal_run, is_cut, cut_more, without_tail}
use Rattle.definition_inline.specs.GfmAutolinkLiteral.{literal_name, literal_after}
use Rattle.definition_inline.specs.Inline.{Www, Protocol}
use Rattle.event_tokens.specs.Tokens.{begins_address, begins_link, is_link_byte}
use Rattle.parse_written.specs.Written.{is_literal}
use Rattle.parse_written.proofs.Between.{AreRead, one_part}
use Rattle.parse_written.proofs.Codes.{codes_both, codes_dropped}
use Rattle.parse_written.proofs.Leaves.{codes_of_take, LiteralsRead}

-- ---- texts at the front of a content

pub inline_both : (xs ys : List ℕ) → EndNoLine xs → EndNoLine ys → EndNoLine (xs ++ ys)
inline_both [] ys p q = q
inline_both (x ∷ xs) ys p q = (p.0, inline_both xs ys p.1 q)

pub inline_front : (xs ys : List ℕ) → EndNoLine (xs ++ ys) → EndNoLine xs
inline_front [] ys p = tt
inline_front (x ∷ xs) ys p = (p.0, inline_front xs ys p.1)

pub inline_back : (xs ys : List ℕ) → EndNoLine (xs ++ ys) → EndNoLine ys
inline_back [] ys p = p
inline_back (x ∷ xs) ys p = inline_back xs ys p.1

-- a text and what follows it make this one
abbrev IsFront : List ℕ → List ℕ → Type 0
IsFront front all = (rest : List ℕ) × (all ≡ front ++ rest)

front_trans : (a b c : List ℕ) → IsFront a b → IsFront b c → IsFront a c
front_trans a b c (x, p) (y, q) = (x ++ y, q ∙ ap (λ xs. xs ++ y) p ∙ append_assoc a x y)

run_is_front : (after : List ℕ) → IsFront (literal_run after) after
run_is_front [] = ([], refl)
run_is_front (c ∷ cs) =
    cond_both (ends_literal c cs) [] (c ∷ literal_run cs) (λ xs. IsFront xs (c ∷ cs)) (λ _. (c ∷ cs, refl))
    (λ _. let (rest, is) = run_is_front cs in (rest, ap (λ xs. c ∷ xs) is))

-- what is left of a text without its tail stands at its end, since it is given backwards
abbrev IsBack : List ℕ → List ℕ → Type 0
IsBack back all = (front : List ℕ) × (all ≡ front ++ back)

back_more : (c : ℕ) (back cs : List ℕ) → IsBack back cs → IsBack back (c ∷ cs)
back_more c back cs (front, is) = (c ∷ front, ap (λ xs. c ∷ xs) is)

tail_is_back : (k : ℕ) (cs : List ℕ) → IsBack (without_tail k cs) cs
tail_is_back zero [] = ([], refl)
tail_is_back (suc k) [] = ([], refl)
tail_is_back zero (c ∷ cs) =
    cond_both (is_cut c cs) (without_tail (cut_more c cs) cs) (c ∷ cs) (λ xs. IsBack xs (c ∷ cs))
    (λ _. back_more c (without_tail (cut_more c cs) cs) cs (tail_is_back (cut_more c cs) cs)) (λ _. ([], refl))
tail_is_back (suc k) (c ∷ cs) = back_more c (without_tail k cs) cs (tail_is_back k cs)

back_is_front : (back all : List ℕ) → IsBack back (reverse all) → IsFront (reverse back) all
back_is_front back all (front, is) = (reverse front, sym (reverse-reverse all) ∙ ap reverse is ∙ reverse-append front back)

name_is_front : (after : List ℕ) → IsFront (literal_name after) (literal_run after)
name_is_front after = back_is_front (without_tail 0 (reverse (literal_run after))) (literal_run after) (tail_is_back 0 (reverse (literal_run after)))

space_inline : (c : ℕ) (others : Bool) → (is_space c || others) ≡ false → is_eol c ≡ false
space_inline c others e = (or_parts (is_white c) (is_eol c) (or_parts (is_space c) others e).0).1

run_inline : (after : List ℕ) → EndNoLine (literal_run after)
run_inline [] = tt
run_inline (c ∷ cs) =
    cond_both (ends_literal c cs) [] (c ∷ literal_run cs) EndNoLine (λ _. tt) (λ goes_on. (space_inline c _ goes_on, run_inline cs))

name_inline : (after : List ℕ) → EndNoLine (literal_name after)
name_inline after = let (rest, is) = name_is_front after in inline_front (literal_name after) rest (subst EndNoLine is (run_inline after))

-- a text at the front of the codes of a content
front_codes : (front : List ℕ) (content : List InlineCode) (rest : List ℕ) → codes_of content ≡ front ++ rest
    → AreCodes front content (drop (length front) content)
front_codes [] content rest is = refl
front_codes (x ∷ xs) [] rest is = absurd (let no : [] ≡ x ∷ (xs ++ rest) = is in cc)
front_codes (x ∷ xs) (c ∷ cs) rest is =
    let all : c.code ∷ codes_of cs ≡ x ∷ (xs ++ rest) = is in
    (let one : c.code ≡ x = cc in one, front_codes xs cs rest (let more : codes_of cs ≡ xs ++ rest = cc in more))

-- ---- bytes of links

-- a code that passes a test which white space, line endings and `<` fail
pub link_code : (test : ℕ → Bool) → test 32 ≡ false → test 9 ≡ false → test 256 ≡ false → test 10 ≡ false → test 13 ≡ false → test 257 ≡ false
    → test 60 ≡ false → (c : ℕ) → test c ≡ true → is_link_byte c ≡ true
link_code test space tab column feed return both angle c passes =
    ap not
    (or_from (is_space c) (c == 60)
    (or_from (is_white c) (is_eol c)
    (or_from ((c == 32) || (c == 9)) (c == 256) (or_from (c == 32) (c == 9) (other 32 space) (other 9 tab)) (other 256 column))
    (or_from ((c == 10) || (c == 13)) (c == 257) (or_from (c == 10) (c == 13) (other 10 feed) (other 13 return)) (other 257 both)))
    (other 60 angle))
  where
    other : (k : ℕ) → test k ≡ false → (c == k) ≡ false
    other k fails = ne_eqb c k (λ e. both_ways (test k) fails (subst (λ x. test x ≡ true) e passes))

lower_link : (c : ℕ) → is_link_byte (to_ascii_lowercase c) ≡ true → is_link_byte c ≡ true
lower_link c is = link_code (λ b. is_link_byte (to_ascii_lowercase b)) refl refl refl refl refl refl refl c is

lower_links : (xs : List ℕ) → list_all is_link_byte (lower xs) ≡ true → list_all is_link_byte xs ≡ true
lower_links [] all = refl
lower_links (x ∷ xs) all =
    let parts = and_parts (is_link_byte (to_ascii_lowercase x)) (list_all is_link_byte (lower xs)) all in
    ap₂ (λ (s t : Bool). s && t) (lower_link x parts.0) (lower_links xs parts.1)

run_links : (after : List ℕ) → list_all is_link_byte (literal_run after) ≡ true
run_links [] = refl
run_links (c ∷ cs) =
    cond_both (ends_literal c cs) [] (c ∷ literal_run cs) (λ xs. list_all is_link_byte xs ≡ true) (λ _. refl)
    (λ goes_on.
    let dark = or_parts (is_space c) _ goes_on in
    let angle = or_parts (c == 60) _ dark.1 in
    ap₂ (λ (s t : Bool). not s && t) (or_from (is_space c) (c == 60) dark.0 angle.0) (run_links cs))

name_links : (after : List ℕ) → list_all is_link_byte (literal_name after) ≡ true
name_links after =
    let (rest, is) = name_is_front after in
    (and_parts (list_all is_link_byte (literal_name after)) (list_all is_link_byte rest)
    (sym (list_all-append is_link_byte (literal_name after) rest) ∙ ap (list_all is_link_byte) (sym is) ∙ run_links after)).0

-- ---- what a literal begins with

-- a code that is a byte of a start in lower case ends no line
lower_inline : (c b : ℕ) → to_ascii_lowercase c ≡ b → 14 ≤ b → b ≤ 256 → is_eol c ≡ false
lower_inline c b is least most = grind (arith, common_steps)

abbrev AreLow : List ℕ → Type 0
AreLow [] = Unit {0}
AreLow (b ∷ bs) = (14 ≤ b) × (b ≤ 256) × AreLow bs

same_inline : (text content : List ℕ) → AreLow text → lower content ≡ text → EndNoLine content
same_inline text [] low is = tt
same_inline [] (c ∷ cs) low is = absurd (let no : to_ascii_lowercase c ∷ lower cs ≡ [] = is in cc)
same_inline (b ∷ bs) (c ∷ cs) low is =
    let all : to_ascii_lowercase c ∷ lower cs ≡ b ∷ bs = is in
    (lower_inline c b (let one : to_ascii_lowercase c ≡ b = cc in one) low.0 low.1, same_inline bs cs low.2 (let more : lower cs ≡ bs = cc in more))

caseless_inline : (text content : List ℕ) → AreLow (lower text) → begins_caselessly text content ≡ true → EndNoLine (take (length text) content)
caseless_inline text content low begins =
    let front = take (length text) content in
    let same : lower text ≡ lower front = (bytes_eq-Decides (lower text) (lower front)).0 begins in same_inline (lower text) front low (sym same)

-- a text in either case begins a link with such bytes behind it
caseless_link : (text content name : List ℕ) → list_all is_link_byte (lower text) ≡ true → begins_caselessly text content ≡ true
    → list_all is_link_byte name ≡ true → begins_link text (take (length text) content ++ name) ≡ true
caseless_link text content name low begins all =
    let front = take (length text) content in
    let same : lower text ≡ lower front = (bytes_eq-Decides (lower text) (lower front)).0 begins in
    let size : length front ≡ length text =
    sym (length-map front to_ascii_lowercase) ∙ ap length (sym same) ∙ length-map text to_ascii_lowercase in
    let taken : take (length text) (front ++ name) ≡ front =
    ap (λ n. take n (front ++ name)) (sym size) ∙ take-append_seam front name in
    let links : list_all is_link_byte front ≡ true = lower_links front (ap (list_all is_link_byte) (sym same) ∙ low) in
    ap₂ (λ (s t : Bool). s && t) (ap (same_caselessly text) taken ∙ begins)
    (list_all-append is_link_byte front name ∙ ap₂ (λ (s t : Bool). s && t) links all)

-- a start has some codes, which end no line, and is that of a literal
abbrev StartInline : List ℕ → Option LiteralStart → Type 0
StartInline content o =
    WhereSome
    (λ (s : LiteralStart). (0 < s.size) × EndNoLine (take s.size content)
    × ((name : List ℕ) → list_all is_link_byte name ≡ true → is_literal s.kind (take s.size content ++ name) ≡ true))
    o

either_start : (content : List ℕ) (a b : Option LiteralStart) → StartInline content a → StartInline content b → StartInline content (or_start a b)
either_start content None b p q = q
either_start content (Some start) b p q = p

www_low : AreLow (lower (codes "www."))
www_low = (omega arith, omega arith, (omega arith, omega arith, (omega arith, omega arith, (omega arith, omega arith, tt))))

http_low : AreLow (lower (codes "http://"))
http_low = (
  omega arith,
  omega arith,
  (
    omega arith,
    omega arith,
    (
      omega arith,
      omega arith,
      (
        omega arith,
        omega arith,
        (
          omega arith,
          omega arith,
          (omega arith, omega arith, (omega arith, omega arith, tt)),
        ),
      ),
    ),
  ),
)

https_low : AreLow (lower (codes "https://"))
https_low = (
  omega arith,
  omega arith,
  (
    omega arith,
    omega arith,
    (
      omega arith,
      omega arith,
      (
        omega arith,
        omega arith,
        (
          omega arith,
          omega arith,
          (omega arith, omega arith, (omega arith, omega arith, (omega arith, omega arith, tt))),
        ),
      ),
    ),
  ),
)

start_inline : (previous : Option ℕ) (content : List ℕ) → StartInline content (literal_start_at previous content)
start_inline previous content =
    let Inline : Option LiteralStart → Type 0 = StartInline content in
    let https = cond (begins_caselessly (codes "https://") content) (Some (literal_start Protocol 8)) None in
    either_start content (www_start previous content) (protocol_start previous content)
    (cond_both (may_precede_www previous && begins_caselessly (codes "www.") content) (Some (literal_start Www 4)) None Inline
    (λ e.
    let begins = (and_parts (may_precede_www previous) _ e).1 in
    (omega arith, caseless_inline (codes "www.") content www_low begins, λ name all. caseless_link (codes "www.") content name refl begins all)) (λ _. tt))
    (cond_both (not (may_precede_protocol previous)) None _ Inline (λ _. tt)
    (λ _. cond_both (begins_caselessly (codes "http://") content) (Some (literal_start Protocol 7)) https Inline
    (λ e. (
      omega arith,
      caseless_inline (codes "http://") content http_low e,
      λ name all.
          let text = take 7 content ++ name in
          or_left (begins_link (codes "http://") text)
          (begins_link (codes "https://") text || (begins_address (codes "mailto:") text || begins_address (codes "xmpp:") text))
          (caseless_link (codes "http://") content name refl e all),
    ))
    (λ _. cond_both (begins_caselessly (codes "https://") content) (Some (literal_start Protocol 8)) None Inline
    (λ e. (
      omega arith,
      caseless_inline (codes "https://") content https_low e,
      λ name all.
          let text = take 8 content ++ name in
          let others = begins_address (codes "mailto:") text || begins_address (codes "xmpp:") text in
          or_right (begins_link (codes "http://") text) (begins_link (codes "https://") text || others)
          (or_left (begins_link (codes "https://") text) others (caseless_link (codes "https://") content name refl e all)),
    ))
    (λ _. tt))))

-- ---- the leaf

module _ (context : InlineContext) where
  abbrev MayRead : List InlineCode → Option Found → Type 0
  MayRead content o = WhereSome (λ (found : Found). AreRead context (leaf_tokens found) content (drop found.size content)) o

  named_read : context.options.constructs.gfm_autolink_literal ≡ true → (kind : LiteralKind) (size : ℕ) (content : List InlineCode) → EndNoLine (take size (codes_of content)) → (name : List ℕ)
      → is_literal kind (take size (codes_of content) ++ name) ≡ true
      → 0 < length (take size (codes_of content) ++ name) → name ≡ literal_name (drop size (codes_of content))
      → AreRead context (leaf_tokens (leaf (Literal kind (take size (codes_of content) ++ name) ∷ []) (size + length name))) content
      (drop (size + length name) content)
  named_read is_on kind size content inline name form some is =
      let all = codes_of content in
      let start = take size all in
      let after = drop size all in
      let (rest, whole) = front_trans (literal_name after) (literal_run after) after (name_is_front after) (run_is_front after) in
      let first : AreCodes start content (drop size content) =
      subst (λ xs. AreCodes xs content (drop size content)) (codes_of_take size content) (codes_dropped size content) in
      let second : AreCodes name (drop size content) (drop (length name) (drop size content)) =
      front_codes name (drop size content) rest (drop-codes_of size content ∙ whole ∙ ap (λ xs. xs ++ rest) (sym is)) in
      let both : AreCodes (start ++ name) content (drop (size + length name) content) =
      subst (AreCodes (start ++ name) content) (drop-drop (length name) size content)
      (codes_both start name content (drop size content) (drop (length name) (drop size content)) first second) in
      one_part context (Leaf (Literal kind (start ++ name))) content (drop (size + length name) content)
      (AsLeaf (Literal kind (start ++ name)) content (drop (size + length name) content)
      (record {
        is_on = is_on;
        text = record { codes = both; some = some; inline = inline_both start name inline (subst EndNoLine (sym is) (name_inline after)) };
        form = form;
      }))

  some_taken : (n x : ℕ) (xs name : List ℕ) → 0 < n → 0 < length (take n (x ∷ xs) ++ name)
  some_taken zero x xs name some = absurd (omega arith)
  some_taken (suc n) x xs name some = omega arith

  after_read : context.options.constructs.gfm_autolink_literal ≡ true → (c : InlineCode) (cs : List InlineCode) (o : Option LiteralStart) → StartInline (codes_of (c ∷ cs)) o
      → MayRead (c ∷ cs) (literal_after c cs o)
  after_read is_on c cs None inline = tt
  after_read is_on c cs (Some start) inline =
      let name = literal_name (drop start.size (codes_of (c ∷ cs))) in
      where_passed (λ (found : Found). AreRead context (leaf_tokens found) (c ∷ cs) (drop found.size (c ∷ cs))) _
      (leaf (Literal start.kind (take start.size (codes_of (c ∷ cs)) ++ name) ∷ []) (start.size + length name))
      (named_read is_on start.kind start.size (c ∷ cs) inline.1 name (inline.2 name (name_links (drop start.size (codes_of (c ∷ cs)))))
      (some_taken start.size c.code (codes_of cs) name inline.0) refl)

  may_read : (content : List InlineCode) → MayRead content (literal_at context.options.constructs content)
  may_read [] = tt
  may_read (c ∷ cs) =
      let o = literal_start_at c.previous (codes_of (c ∷ cs)) in
      cond_both context.options.constructs.gfm_autolink_literal (literal_after c cs o) None (MayRead (c ∷ cs))
      (λ is_on. after_read is_on c cs o (start_inline c.previous (codes_of (c ∷ cs)))) (λ _. tt)

  -- a literal is read as its text
  pub literals_read : LiteralsRead context
  literals_read content found is = subst (MayRead content) is (may_read content)
