-- What is read of a text is a text.
use Rattle.std.proofs.Common.{◌≡◌, ℕ, ◌+◌, ◌<◌, suc, List, [], ◌∷◌, ◌++◌, true, false, ◌&&◌, ◌||◌, eqb, Option, None, Some, refl, sym, ap, ◌∙◌, get_or, length}
use Rattle.std.proofs.Common.{drop, arith, inl, inr, subst, zero, append_assoc, append-nil, nat_lt, flat_map, rules}
use Rattle.inline_links.proofs.Prelude.{after_spaces, after_white, begins_with_space, cases_Bool, cond-false, cond-true, cond_some, content_codes}
use Rattle.inline_links.proofs.Prelude.{destination_at, eqb-true, IfSome, is_eol, is_white, IsText, label_at, length-append, ne_eqb, none-some, or_cases, Part}
use Rattle.inline_links.proofs.Prelude.{prefix_len, resource_at, take_at, title_at}
use Rattle.std.specs.Str.{IsUtf8}
use Rattle.std.proofs.lemmas.Bool.{false≢true, ltb-true}
use Rattle.std.proofs.lemmas.List.{drop_at, get_or_at}
use Rattle.std.proofs.lemmas.Str.{IsUtf8-append, IsUtf8-take, IsUtf8-drop, IsUtf8-nil, IsUtf8-from_ascii, IsCharBoundary-before_ascii}
use Rattle.std.proofs.lemmas.Str.{IsCharBoundary-after_ascii}
use Rattle.definition_text.specs.Columns.{code_byte}
use Rattle.definition_inline.specs.Space.{after_ending}
use Rattle.definition_inline.specs.Resource.{LinkResource, resource_inside, resource_end}
use Rattle.definition_inline.specs.Resource.{after_destination}
use Rattle.definition_inline.specs.Resource.{opens_title}
use Rattle.definition_inline.proofs.PartSteps.{resource_with_title, resource_with_destination}
use Rattle.inline_links.specs.Texts.{code_text}
use Rattle.inline_links.proofs.Splits.{is_ascii_code, begins_ascii, white_ascii, eol_ascii, label_whole, title_whole, destination_whole}

-- ---- the bytes of codes

abbrev pub AreBytes : List ℕ → Type 0
AreBytes bs = (k : ℕ) → get_or bs k 0 < 256

byte_text : (b : ℕ) → b < 256 → code_text b ≡ b ∷ []
byte_text b h =
    cond-false (eqb b 257) _ _ (ne_eqb b 257 (λ e. omega (arith, e, h)))
    ∙ ap (λ x. x ∷ []) (cond-false (eqb b 256) _ _ (ne_eqb b 256 (λ e. omega (arith, e, h))))

-- bytes by their codes
pub bytes_back : (bs : List ℕ) → AreBytes bs → flat_map code_text (content_codes bs) ≡ bs
bytes_back [] h = refl
bytes_back (b ∷ []) h = elim (cases_Bool (eqb b 13)) [
  | inl is ↦ ap (flat_map code_text) (cond-true (eqb b 13) _ _ is) ∙ ap (λ x. x ∷ []) (sym (eqb-true b 13 is))
  | inr other ↦ ap (flat_map code_text) (cond-false (eqb b 13) _ _ other) ∙ ap (λ x. x ++ []) (byte_text b (h 0))
]
bytes_back (b ∷ d ∷ ds) h = elim (cases_Bool (eqb b 13)) [
  | inl is ↦ elim (cases_Bool (eqb d 10)) [
    | inl feed ↦
        let ten = eqb-true d 10 feed in
        let next : content_codes (d ∷ ds) ≡ d ∷ content_codes ds = cond-false (eqb d 13) _ _ (ne_eqb d 13 (λ e. omega (arith, e, ten))) in
        ap (flat_map code_text) (cond-true (eqb b 13) _ _ is ∙ cond-true (eqb d 10) _ _ feed ∙ ap (λ x. 257 ∷ drop 1 x) next)
        ∙ ap (λ x. 13 ∷ 10 ∷ x) (bytes_back ds (λ k. h (suc (suc k))))
        ∙ ap (λ x. x ∷ 10 ∷ ds) (sym (eqb-true b 13 is)) ∙ ap (λ x. b ∷ x ∷ ds) (sym ten)
    | inr alone ↦
        ap (flat_map code_text) (cond-true (eqb b 13) _ _ is ∙ cond-false (eqb d 10) _ _ alone)
        ∙ ap (λ x. 13 ∷ x) (bytes_back (d ∷ ds) (λ k. h (suc k)))
        ∙ ap (λ x. x ∷ d ∷ ds) (sym (eqb-true b 13 is))
  ]
  | inr other ↦
      ap (flat_map code_text) (cond-false (eqb b 13) _ _ other)
      ∙ ap (λ x. x ++ flat_map code_text (content_codes (d ∷ ds))) (byte_text b (h 0))
      ∙ ap (λ x. b ∷ x) (bytes_back (d ∷ ds) (λ k. h (suc k)))
]

pub is_text : (bs : List ℕ) → AreBytes bs → IsUtf8 bs → IsText (content_codes bs)
is_text bs h u = subst IsUtf8 (sym (bytes_back bs h)) u

pub is_utf8 : (bs : List ℕ) → AreBytes bs → IsText (content_codes bs) → IsUtf8 bs
is_utf8 bs h t = subst IsUtf8 (bytes_back bs h) t

-- ---- a text around an ASCII byte

around_byte : (front after : List ℕ) (b : ℕ) → b < 128 → IsUtf8 (front ++ b ∷ after) → IsUtf8 front × IsUtf8 after
around_byte front after b ascii u =
    let bs = front ++ b ∷ after in
    let at : get_or bs (length front) 0 ≡ b = get_or_at front b after 0 (length front) refl in
    let within : length front < length bs = omega (arith, length-append front (b ∷ after)) in
    let small : get_or bs (length front) 0 < 128 = subst (λ x. x < 128) (sym at) ascii in
    let rest : drop (length front + 1) bs ≡ after =
    ap (drop (length front + 1)) (sym (append_assoc front (b ∷ []) after))
    ∙ drop_at (front ++ b ∷ []) after (length front + 1) (length-append front (b ∷ [])) in (
      subst IsUtf8 (take_at front (b ∷ after) (length front) refl) (IsUtf8-take bs (length front) u
          (IsCharBoundary-before_ascii bs (length front) within small)),
      subst IsUtf8 rest (IsUtf8-drop bs (length front + 1) u (IsCharBoundary-after_ascii bs (length front) u within small)),
    )

texts_append : (xs ys : List ℕ) → flat_map code_text (xs ++ ys) ≡ flat_map code_text xs ++ flat_map code_text ys
texts_append [] ys = refl
texts_append (x ∷ xs) ys = ap (λ t. code_text x ++ t) (texts_append xs ys) ∙ sym (append_assoc (code_text x) (flat_map code_text xs) (flat_map code_text ys))

small_code : (c : ℕ) → is_ascii_code c ≡ true → eqb c 256 ≡ false → eqb c 257 ≡ false → c < 128
small_code c ascii column ending = elim (or_cases (nat_lt c 128) (eqb c 256 || eqb c 257) ascii) [
  | inl h ↦ ltb-true c 128 h
  | inr h ↦ elim (or_cases (eqb c 256) (eqb c 257) h) [
    | inl k ↦ absurd (false≢true (sym column ∙ k))
    | inr k ↦ absurd (false≢true (sym ending ∙ k))
  ]
]

around_text : (front after : List ℕ) (c : ℕ) → is_ascii_code c ≡ true → IsUtf8 (front ++ (code_text c ++ after)) → IsUtf8 front × IsUtf8 after
around_text front after c ascii u = elim (cases_Bool (eqb c 257)) [
  | inl h ↦
      let text : code_text c ≡ 13 ∷ 10 ∷ [] = cond-true (eqb c 257) _ _ h in
      let first = around_byte front (10 ∷ after) 13 (search rules) (subst (λ t. IsUtf8 (front ++ (t ++ after))) text u) in
      (first.0, (around_byte [] after 10 (search rules) first.1).1)
  | inr h ↦ elim (cases_Bool (eqb c 256)) [
    | inl k ↦
        let text : code_text c ≡ 32 ∷ [] = cond-false (eqb c 257) _ _ h ∙ ap (λ x. x ∷ []) (cond-true (eqb c 256) _ _ k) in
        around_byte front after 32 (search rules) (subst (λ t. IsUtf8 (front ++ (t ++ after))) text u)
    | inr k ↦
        let text : code_text c ≡ c ∷ [] = cond-false (eqb c 257) _ _ h ∙ ap (λ x. x ∷ []) (cond-false (eqb c 256) _ _ k) in
        around_byte front after c (small_code c ascii k h) (subst (λ t. IsUtf8 (front ++ (t ++ after))) text u)
  ]
]

-- a text has a text before and after an ASCII code
pub around : (front after : List ℕ) (c : ℕ) → is_ascii_code c ≡ true → IsText (front ++ c ∷ after) → IsText front × IsText after
around front after c ascii t =
    around_text (flat_map code_text front) (flat_map code_text after) c ascii (subst IsUtf8 (texts_append front (c ∷ after)) t)

one_ascii : (b : ℕ) → b < 128 → (k : ℕ) → get_or (b ∷ []) k 0 < 128
one_ascii b lt zero = lt
one_ascii b lt (suc k) = omega arith

ascii_text : (c : ℕ) → is_ascii_code c ≡ true → IsUtf8 (code_text c)
ascii_text c ascii = elim (cases_Bool (eqb c 257)) [
  | inl h ↦ subst IsUtf8 (sym (cond-true (eqb c 257) (13 ∷ 10 ∷ []) (code_byte c ∷ []) h)) (two_bytes (search rules))
  | inr h ↦
      let text : code_text c ≡ code_byte c ∷ [] = cond-false (eqb c 257) _ _ h in
      elim (cases_Bool (eqb c 256)) [
        | inl k ↦ subst IsUtf8 (sym (text ∙ ap (λ x. x ∷ []) (cond-true (eqb c 256) 32 c k))) (one_byte 32 (search rules))
        | inr k ↦ subst IsUtf8 (sym (text ∙ ap (λ x. x ∷ []) (cond-false (eqb c 256) 32 c k))) (one_byte c (small_code c ascii k h))
      ]
]
  where
    one_byte : (b : ℕ) → b < 128 → IsUtf8 (b ∷ [])
    one_byte b lt = IsUtf8-from_ascii (b ∷ []) (one_ascii b lt)

    two_bytes : 13 < 128 → IsUtf8 (13 ∷ 10 ∷ [])
    two_bytes lt = IsUtf8-append (13 ∷ []) (10 ∷ []) (one_byte 13 lt) (one_byte 10 (search rules))

before_ascii : (front after : List ℕ) → begins_ascii after ≡ true → IsText (front ++ after) → IsText front × IsText after
before_ascii front [] h t = (subst IsText (append-nil front) t, IsUtf8-nil)
before_ascii front (c ∷ after) h t =
    let parts = around front after c h t in
    (parts.0, IsUtf8-append (code_text c) (flat_map code_text after) (ascii_text c h) parts.1)

-- ---- what follows

-- what follows the first codes of a text
pub record TextAfter (cs rest : List ℕ) : Type 0 where
  pub front : List ℕ
  pub whole : cs ≡ front ++ rest
  pub text : IsText rest

after_nothing : (cs : List ℕ) → IsText cs → TextAfter cs cs
after_nothing cs t = record { front = []; whole = refl; text = t }

-- a part of a text, and what follows it
pub record PartText (cs : List ℕ) (p : Part) : Type 0 where
  pub front : List ℕ
  pub whole : cs ≡ front ++ p.rest
  pub text : IsText p.text
  pub rest : IsText p.rest

between : (opening closing : ℕ) (cs : List ℕ) (p : Part) → is_ascii_code opening ≡ true → is_ascii_code closing ≡ true
    → cs ≡ opening ∷ p.text ++ closing ∷ p.rest → IsText cs → PartText cs p
between opening closing cs p o c e t =
    let inner = around [] (p.text ++ closing ∷ p.rest) opening o (subst IsText e t) in
    let parts = around p.text p.rest closing c inner.1 in
    record {
      front = opening ∷ p.text ++ closing ∷ [];
      whole = e ∙ ap (λ x. opening ∷ x) (sym (append_assoc p.text (closing ∷ []) p.rest));
      text = parts.0;
      rest = parts.1;
    }

pub label_text : (cs : List ℕ) (p : Part) → IsText cs → label_at cs ≡ Some p → PartText cs p
label_text cs p t e = between 91 93 cs p refl refl (label_whole cs p e) t

pub title_text : (cs : List ℕ) (p : Part) → IsText cs → title_at cs ≡ Some p → PartText cs p
title_text cs p t e = let h = title_whole cs p e in between h.opening h.closing cs p h.opening_ascii h.closing_ascii h.whole t

pub destination_text : (depth : Option ℕ) (cs : List ℕ) (p : Part) → IsText cs → destination_at depth cs ≡ Some p → PartText cs p
destination_text depth cs p t e = elim ((destination_whole depth cs p e).whole) [
  | inl h ↦ between 60 62 cs p refl refl h t
  | inr h ↦
      let parts = before_ascii p.text p.rest h.1 (subst IsText h.0 t) in
      record { front = p.text; whole = h.0; text = parts.0; rest = parts.1 }
]

after_one : (c : ℕ) (cs rest : List ℕ) → is_ascii_code c ≡ true → IsText (c ∷ cs) → (IsText cs → TextAfter cs rest) → TextAfter (c ∷ cs) rest
after_one c cs rest h t later =
    let k = later (around [] cs c h t).1 in
    record { front = c ∷ k.front; whole = ap (λ x. c ∷ x) k.whole; text = k.text }

pub spaces_text : (cs : List ℕ) → IsText cs → TextAfter cs (after_spaces cs)
spaces_text [] t = after_nothing [] t
spaces_text (c ∷ cs) t = elim (cases_Bool (is_white c)) [
  | inl h ↦
      let size : prefix_len is_white (c ∷ cs) ≡ suc (prefix_len is_white cs) = cond-true (is_white c) _ _ h ∙ omega arith in
      subst (TextAfter (c ∷ cs)) (sym (ap (λ k. drop k (c ∷ cs)) size)) (after_one c cs (after_spaces cs) (white_ascii c h) t (spaces_text cs))
  | inr h ↦
      let size : prefix_len is_white (c ∷ cs) ≡ 0 = cond-false (is_white c) _ _ h in
      subst (TextAfter (c ∷ cs)) (sym (ap (λ k. drop k (c ∷ cs)) size)) (after_nothing (c ∷ cs) t)
]

ending_text : (cs : List ℕ) → IsText cs → TextAfter cs (after_ending cs)
ending_text [] t = after_nothing [] t
ending_text (c ∷ cs) t = elim (cases_Bool (is_eol c)) [
  | inl h ↦ subst (TextAfter (c ∷ cs)) (sym (cond-true (is_eol c) _ _ h)) (after_one c cs (after_spaces cs) (eol_ascii c h) t (spaces_text cs))
  | inr h ↦ subst (TextAfter (c ∷ cs)) (sym (cond-false (is_eol c) _ _ h)) (after_nothing (c ∷ cs) t)
]

pub white_text : (cs : List ℕ) → IsText cs → TextAfter cs (after_white cs)
white_text cs t =
    let h = spaces_text cs t in
    let k = ending_text (after_spaces cs) h.text in
    record {
      front = h.front ++ k.front;
      whole = h.whole ∙ ap (λ x. h.front ++ x) k.whole ∙ sym (append_assoc h.front k.front (after_white cs));
      text = k.text;
    }

-- ---- resources

-- the parts of a resource of a text, and what follows it
pub record ResourceText (cs : List ℕ) (r : LinkResource) : Type 0 where
  pub front : List ℕ
  pub whole : cs ≡ front ++ r.rest
  pub destination : IsText r.destination
  pub title : IfSome r.title IsText
  pub rest : IsText r.rest

-- with codes before it
further : (cs front next : List ℕ) (r : LinkResource) → cs ≡ front ++ next → ResourceText next r → ResourceText cs r
further cs front next r e h = record {
  front = front ++ h.front;
  whole = e ∙ ap (λ x. front ++ x) h.whole ∙ sym (append_assoc front h.front r.rest);
  destination = h.destination;
  title = h.title;
  rest = h.rest;
}

resource_ends : (destination : List ℕ) (title : Option (List ℕ)) (cs : List ℕ) (r : LinkResource) → IsText destination → IfSome title IsText → IsText cs
    → resource_end destination title cs ≡ Some r → ResourceText cs r
resource_ends destination title [] r d t text e = absurd (none-some r e)
resource_ends destination title (c ∷ cs) r d t text e =
    let both = cond_some (eqb c 41) _ r e in
    let ascii : is_ascii_code c ≡ true = ap is_ascii_code (eqb-true c 41 both.0) in
    record {
      front = c ∷ [];
      whole = ap (λ q. c ∷ q.rest) both.1;
      destination = subst (λ q. IsText q.destination) both.1 d;
      title = subst (λ q. IfSome q.title IsText) both.1 t;
      rest = subst (λ q. IsText q.rest) both.1 (around [] cs c ascii text).1;
    }

titled : (destination next : List ℕ) (o : Option Part) (r : LinkResource) → IsText destination → ((p : Part) → o ≡ Some p → PartText next p)
    → resource_with_title destination o ≡ Some r → ResourceText next r
titled destination next None r d h e = absurd (none-some r e)
titled destination next (Some p) r d h e =
    let k = h p refl in
    let w = white_text p.rest k.rest in
    further next k.front p.rest r k.whole (further p.rest w.front (after_white p.rest) r w.whole
    (resource_ends destination (Some p.text) (after_white p.rest) r d k.text w.text e))

destined : (p : Part) (r : LinkResource) → IsText p.text → IsText p.rest → after_destination p ≡ Some r → ResourceText p.rest r
destined p r d t e =
    let next = after_white p.rest in
    let w = white_text p.rest t in
    let test = begins_with_space p.rest && opens_title next in
    further p.rest w.front next r w.whole
    (elim (cases_Bool test) [
      | inl h ↦ titled p.text next (title_at next) r d (λ q f. title_text next q w.text f) (sym (cond-true test _ _ h) ∙ e)
      | inr h ↦ resource_ends p.text None next r d tt w.text (sym (cond-false test _ _ h) ∙ e)
    ])

with_destined : (cs : List ℕ) (o : Option Part) (r : LinkResource) → ((p : Part) → o ≡ Some p → PartText cs p) → resource_with_destination o ≡ Some r
    → ResourceText cs r
with_destined cs None r h e = absurd (none-some r e)
with_destined cs (Some p) r h e = let k = h p refl in further cs k.front p.rest r k.whole (destined p r k.text k.rest e)

inside_text : (cs : List ℕ) (r : LinkResource) → IsText cs → resource_inside cs ≡ Some r → ResourceText cs r
inside_text [] r t e = absurd (none-some r e)
inside_text (c ∷ cs) r t e = elim (cases_Bool (eqb c 41)) [
  | inl h ↦ resource_ends [] None (c ∷ cs) r IsUtf8-nil tt t (sym (cond-true (eqb c 41) _ _ h) ∙ e)
  | inr h ↦ with_destined (c ∷ cs) (destination_at (Some 32) (c ∷ cs)) r (λ p f. destination_text (Some 32) (c ∷ cs) p t f)
      (sym (cond-false (eqb c 41) _ _ h) ∙ e)
]

pub resource_text : (cs : List ℕ) (r : LinkResource) → IsText cs → resource_at cs ≡ Some r → ResourceText cs r
resource_text [] r t e = absurd (none-some r e)
resource_text (c ∷ cs) r t e = elim (cases_Bool (eqb c 40)) [
  | inl h ↦
      let w = white_text cs (around [] cs c (ap is_ascii_code (eqb-true c 40 h)) t).1 in
      further (c ∷ cs) (c ∷ w.front) (after_white cs) r (ap (λ x. c ∷ x) w.whole) (inside_text (after_white cs) r w.text (sym (cond-true (eqb c 40) _ _ h) ∙ e))
  | inr h ↦ absurd (none-some r (sym (cond-false (eqb c 40) _ _ h) ∙ e))
]
