-- The content of an ATX heading, by the parts of its line.
use Rattle.std.proofs.Common.{◌≡◌, ◌∙◌, ℕ, suc, ◌+◌, ◌-◌, Bool, true, false, not, ◌==◌, ◌&&◌, if◌then◌else◌, List, [], ◌∷◌, ◌++◌, length, take, drop, reverse}
use Rattle.std.proofs.Common.{refl, sym, ap, arith, inl, inr, append_assoc, take-append-drop, leb, None, Some}
use Rattle.std.proofs.lemmas.Bool.{and_parts, cases_Bool, eqb-true}
use Rattle.std.proofs.lemmas.List.{length-append, length-drop, length-reverse, reverse-append, reverse-reverse}
use Rattle.std.specs.List.{list_all, prefix_len, suffix_len}
use Rattle.definition_block.specs.HeadingAtx.{Atx, atx, atx_of, begins_apart, ends_apart, without_closing, without_run}
use Rattle.definition_text.specs.Columns.{is_white, trim}
use Rattle.definition_text.specs.Runs.{after_run, run}
use Rattle.state_verdicts.proofs.ListParts.{all_reverse, drop_over, prefix_over, suffix_over, take_over}

abbrev pub is_sign : ℕ → Bool
is_sign b = b == 35

abbrev is_some_code : List ℕ → Bool
is_some_code [] = false
is_some_code (c ∷ cs) = true

-- what ends with a code that doesn't pass
pub no_suffix : (p : ℕ → Bool) (xs : List ℕ) (d : ℕ) → p d ≡ false → suffix_len p (xs ++ d ∷ []) ≡ 0
no_suffix p xs d h = ap (prefix_len p) (reverse-append xs (d ∷ [])) ∙ ap (λ (b : Bool). if b then 1 + prefix_len p (reverse xs) else 0) h

-- white space around something
pub trim_is : (lead mid tail : List ℕ) → list_all is_white lead ≡ true → prefix_len is_white (mid ++ tail) ≡ 0 → suffix_len is_white mid ≡ 0
    → list_all is_white tail ≡ true → trim (lead ++ (mid ++ tail)) ≡ mid
trim_is lead mid tail h begins ends k =
    let n = prefix_over is_white lead (mid ++ tail) h begins in
    let rest : drop (prefix_len is_white (lead ++ (mid ++ tail))) (lead ++ (mid ++ tail)) ≡ mid ++ tail =
    ap (λ (i : ℕ). drop i (lead ++ (mid ++ tail))) n ∙ drop_over lead (mid ++ tail) in
    let m = suffix_over is_white mid tail ends k in
    let size = length-append mid tail in
    ap (λ (l : List ℕ). take (length l - suffix_len is_white l) l) rest
    ∙ (ap (λ (i : ℕ). take i (mid ++ tail)) (let e : length (mid ++ tail) - suffix_len is_white (mid ++ tail) ≡ length mid = omega (arith, m, size) in e)
    ∙ take_over mid tail)

-- the run of `#` at the end, from its end
without_run_is : (r : List ℕ) → without_run (reverse r) ≡ reverse (drop (prefix_len is_sign r) r)
without_run_is r =
    let n = prefix_len is_sign r in
    let back : suffix_len is_sign (reverse r) ≡ n = ap (prefix_len is_sign) (reverse-reverse r) in
    let parts : reverse r ≡ reverse (drop n r) ++ reverse (take n r) = ap reverse (sym (take-append-drop n r)) ∙ reverse-append (take n r) (drop n r) in
    let one = length-reverse r in
    let two = length-reverse (drop n r) in
    let three = length-drop n r in
    ap (λ (i : ℕ). take i (reverse r)) (let e : length (reverse r) - suffix_len is_sign (reverse r) ≡ length (reverse (drop n r)) =
    omega (arith, back, one, two, three) in e)
    ∙ (ap (take (length (reverse (drop n r)))) parts ∙ take_over (reverse (drop n r)) (reverse (take n r)))

-- text that ends with a word keeps the signs at its end
word_ends : (ws : List ℕ) (c : ℕ) (zs : List ℕ) → list_all (λ b. not (is_white b)) ws ≡ true → is_white c ≡ false → is_sign c ≡ false
    → begins_apart (drop (prefix_len is_sign (ws ++ c ∷ zs)) (ws ++ c ∷ zs)) ≡ false
word_ends [] c zs h black no_sign =
    ap (λ (b : Bool). begins_apart (drop (if b then 1 + prefix_len is_sign zs else 0) (c ∷ zs))) no_sign ∙ black
word_ends (w ∷ ws) c zs h black no_sign = elim (cases_Bool (is_sign w)) [
  | inl is ↦
      let n : (if is_sign w then 1 + prefix_len is_sign (ws ++ c ∷ zs) else 0) ≡ suc (prefix_len is_sign (ws ++ c ∷ zs)) =
      ap (λ (b : Bool). if b then 1 + prefix_len is_sign (ws ++ c ∷ zs) else 0) is ∙ (let e : 1 + prefix_len is_sign (ws ++ c ∷ zs)
      ≡ suc (prefix_len is_sign (ws ++ c ∷ zs)) = omega arith in e) in
      ap (λ (i : ℕ). begins_apart (drop i (w ∷ (ws ++ c ∷ zs)))) n
      ∙ word_ends ws c zs (and_parts (not (is_white w)) (list_all (λ b. not (is_white b)) ws) h).1 black no_sign
  | inr other ↦
      ap (λ (b : Bool). begins_apart (drop (if b then 1 + prefix_len is_sign (ws ++ c ∷ zs) else 0) (w ∷ (ws ++ c ∷ zs)))) other
      ∙ flip_not (is_white w) (and_parts (not (is_white w)) (list_all (λ b. not (is_white b)) ws) h).0
]
  where
    flip_not : (b : Bool) → not b ≡ true → b ≡ false
    flip_not true e = absurd (cc)
    flip_not false e = refl

-- a text ends with a word: something that is neither white space nor a sign, and no white space after it
pub record EndsWithWord (body : List ℕ) : Type 0 where
  pub before : List ℕ
  pub first : ℕ
  pub more : List ℕ
  pub is : body ≡ before ++ (first ∷ more)
  pub black : is_white first ≡ false
  pub no_sign : is_sign first ≡ false
  pub no_white : list_all (λ b. not (is_white b)) more ≡ true

pub word_keeps : (body : List ℕ) → EndsWithWord body → without_closing body ≡ body
word_keeps body w =
    let r = reverse body in
    let parts : r ≡ reverse w.more ++ (w.first ∷ reverse w.before) =
    ap reverse w.is ∙ (reverse-append w.before (w.first ∷ w.more) ∙ (ap (λ (l : List ℕ). l ++ reverse w.before) (reverse-append (w.first ∷ []) w.more)
    ∙ append_assoc (reverse w.more) (w.first ∷ []) (reverse w.before))) in
    let run : without_run body ≡ reverse (drop (prefix_len is_sign r) r) = ap without_run (sym (reverse-reverse body)) ∙ without_run_is r in
    let apart : ends_apart (without_run body) ≡ false =
    ap ends_apart run ∙ (ap begins_apart (reverse-reverse (drop (prefix_len is_sign r) r))
    ∙ (ap (λ (l : List ℕ). begins_apart (drop (prefix_len is_sign l) l)) parts
    ∙ word_ends (reverse w.more) w.first (reverse w.before) (all_reverse (λ b. not (is_white b)) w.more w.no_white) w.black w.no_sign)) in
    ap (λ (b : Bool). if b then trim (without_run body) else body) apart

-- it ends with no white space
pub word_suffix : (body : List ℕ) → EndsWithWord body → suffix_len is_white body ≡ 0
word_suffix body w =
    ap (prefix_len is_white) (ap reverse w.is ∙ (reverse-append w.before (w.first ∷ w.more)
    ∙ (ap (λ (l : List ℕ). l ++ reverse w.before) (reverse-append (w.first ∷ []) w.more) ∙ append_assoc (reverse w.more) (w.first ∷ []) (reverse w.before))))
    ∙ none (reverse w.more) (all_reverse (λ b. not (is_white b)) w.more w.no_white)
  where
    none : (ws : List ℕ) → list_all (λ b. not (is_white b)) ws ≡ true → prefix_len is_white (ws ++ w.first ∷ reverse w.before) ≡ 0
    none [] h = ap (λ (b : Bool). if b then 1 + prefix_len is_white (reverse w.before) else 0) w.black
    none (x ∷ xs) h = elim (cases_Bool (is_white x)) [
      | inl is ↦ absurd (let f = (and_parts (not (is_white x)) (list_all (λ b. not (is_white b)) xs) h).0 in let g = ap not is in
          let e : false ≡ true = sym g ∙ f in cc)
      | inr other ↦ ap (λ (b : Bool). if b then 1 + prefix_len is_white (xs ++ w.first ∷ reverse w.before) else 0) other
    ]

-- where white space or nothing is at the end, no sign is
apart_suffix : (r : List ℕ) → begins_apart r ≡ true → prefix_len is_sign r ≡ 0
apart_suffix [] h = refl
apart_suffix (c ∷ cs) h = elim (cases_Bool (is_sign c)) [
  | inl is ↦ absurd (let f : is_white 35 ≡ true = ap is_white (sym (eqb-true c 35 is)) ∙ h in let g : false ≡ true = f in cc)
  | inr other ↦ ap (λ (b : Bool). if b then 1 + prefix_len is_sign cs else 0) other
]

-- signs after white space, or after nothing, close the heading
pub signs_close : (base signs body : List ℕ) → ends_apart base ≡ true → list_all is_sign signs ≡ true → trim base ≡ body → without_closing (base ++ signs) ≡ body
signs_close base signs body apart all trims =
    let n = suffix_over is_sign base signs (apart_suffix (reverse base) apart) all in
    let size = length-append base signs in
    let run : without_run (base ++ signs) ≡ base =
    ap (λ (i : ℕ). take i (base ++ signs)) (let e : length (base ++ signs) - suffix_len is_sign (base ++ signs) ≡ length base = omega (arith, n, size) in e)
    ∙ take_over base signs in
    ap (λ (l : List ℕ). if ends_apart l then trim l else base ++ signs) run
    ∙ (ap (λ (b : Bool). if b then trim base else base ++ signs) apart ∙ trims)

-- signs end with no white space
pub sign_suffix : (xs signs : List ℕ) (s : ℕ) → list_all is_sign (s ∷ signs) ≡ true → suffix_len is_white (xs ++ (s ∷ signs)) ≡ 0
sign_suffix xs signs s all =
    ap (prefix_len is_white) (reverse-append xs (s ∷ signs)) ∙ none (reverse (s ∷ signs)) (all_reverse is_sign (s ∷ signs) all) (filled signs)
  where
    filled : (l : List ℕ) → is_some_code (reverse (s ∷ l)) ≡ true
    filled l = ap is_some_code (reverse-append (s ∷ []) l) ∙ some (reverse l)
      where
        some : (k : List ℕ) → is_some_code (k ++ s ∷ []) ≡ true
        some [] = refl
        some (c ∷ cs) = refl

    none : (ws : List ℕ) → list_all is_sign ws ≡ true → is_some_code ws ≡ true → prefix_len is_white (ws ++ reverse xs) ≡ 0
    none [] h k = absurd (let f : false ≡ true = k in cc)
    none (x ∷ ws) h k =
        let is = eqb-true x 35 (and_parts (is_sign x) (list_all is_sign ws) h).0 in
        ap (λ (i : ℕ). if is_white i then 1 + prefix_len is_white (ws ++ reverse xs) else 0) is

-- white space at the end
pub gap_apart : (xs gap : List ℕ) (g : ℕ) → list_all is_white (g ∷ gap) ≡ true → ends_apart (xs ++ (g ∷ gap)) ≡ true
gap_apart xs gap g all = ap begins_apart (reverse-append xs (g ∷ gap)) ∙ begins (reverse (g ∷ gap)) (all_reverse is_white (g ∷ gap) all)
    (ap is_some_code (reverse-append (g ∷ []) gap) ∙ some (reverse gap))
  where
    some : (k : List ℕ) → is_some_code (k ++ g ∷ []) ≡ true
    some [] = refl
    some (c ∷ cs) = refl

    begins : (ws : List ℕ) → list_all is_white ws ≡ true → is_some_code ws ≡ true → begins_apart (ws ++ reverse xs) ≡ true
    begins [] h k = absurd (let f : false ≡ true = k in cc)
    begins (x ∷ ws) h k = (and_parts (is_white x) (list_all is_white ws) h).0

by_test : (is : Bool) (rank : ℕ) (content : List ℕ) (heading : Atx) → (if is then Some (atx rank content) else None) ≡ Some heading
    → (heading.rank ≡ rank) × (heading.content ≡ content)
by_test true rank content heading e =
    let f : Some (atx rank content) ≡ Some heading = e in
    let g : heading ≡ atx rank content = cc in (ap (λ (h : Atx). h.rank) g, ap (λ (h : Atx). h.content) g)
by_test false rank content heading e = absurd (let f : None ≡ Some heading = e in cc)

-- the rank and the content of a heading
pub heading_is : (l : List ℕ) (heading : Atx) → atx_of l ≡ Some heading
    → (heading.rank ≡ run 35 l) × (heading.content ≡ without_closing (trim (after_run 35 l)))
heading_is l heading e =
    by_test (leb 1 (run 35 l) && leb (run 35 l) 6 && begins_apart (after_run 35 l)) (run 35 l) (without_closing (trim (after_run 35 l))) heading e
