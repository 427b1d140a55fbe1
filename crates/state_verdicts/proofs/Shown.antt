-- What the first of some codes shows: its byte, and what is seen after that.
use Rattle.std.proofs.Common.{◌≡◌, ◌∙◌, ℕ, zero, suc, ◌+◌, ◌<◌, ◌≤◌, Bool, true, false, ◌==◌, ◌&&◌, List, ◌∷◌, ◌++◌, replicate, Some, refl, ap, subst, arith}
use Rattle.state_verdicts.proofs.BlockPrelude.{after_line, as_byte, byte, is_eol, is_space_or_tab, is_white, line_of, list_all}
use Rattle.state_verdicts.proofs.BlockPrelude.{Point, Sees, tab, Text, text_byte}
use Rattle.state_verdicts.specs.Codes.{Fills, column, full}
use Rattle.state_verdicts.proofs.LineCodes.{after_more, line_more, weight, weight_some}
use Rattle.state_verdicts.proofs.Seen.{seen_feed, seen_white}

-- the further columns of a tab as codes
columns_seen : {text : Text} {n : ℕ} {q r : Point} {cs : List ℕ} → Fills text n q r → Sees text r cs → Sees text q (replicate n 256 ++ cs)
columns_seen full s = s
columns_seen {text = text} {cs = cs} (column {n = n} {p = p} e f) s =
    subst (λ (l : List ℕ). Sees text p (l ++ cs)) (let k : 256 ∷ replicate n 256 ≡ replicate (n + 1) 256 =
    ap (λ (i : ℕ). replicate i 256) (let i : suc n ≡ n + 1 = omega arith in i) in k) (byte refl e (columns_seen f s))

columns_weigh : (n : ℕ) (cs : List ℕ) → weight (replicate n 256 ++ cs) ≡ n + weight cs
columns_weigh zero cs = omega arith
columns_weigh (suc n) cs = let e = columns_weigh n cs in omega (arith, e)

columns_line : (n : ℕ) (cs : List ℕ) → line_of (replicate n 256 ++ cs) ≡ replicate n 256 ++ line_of cs
columns_line zero cs = refl
columns_line (suc n) cs = line_more 256 (replicate n 256 ++ cs) refl ∙ ap (λ (l : List ℕ). 256 ∷ l) (columns_line n cs)

columns_after : (n : ℕ) (cs : List ℕ) → after_line (replicate n 256 ++ cs) ≡ after_line cs
columns_after zero cs = refl
columns_after (suc n) cs = after_more 256 (replicate n 256 ++ cs) refl ∙ columns_after n cs

columns_all : (is : ℕ → Bool) → is 256 ≡ true → (n : ℕ) (l : List ℕ) → list_all is (replicate n 256 ++ l) ≡ list_all is l
columns_all is h zero l = refl
columns_all is h (suc n) l = ap (λ (b : Bool). b && list_all is (replicate n 256 ++ l)) h ∙ columns_all is h n l

-- the byte of the first code, and the codes after it
pub record Shown (text : Text) (p : Point) (code : ℕ) (cs : List ℕ) : Type 0 where
  pub byte : ℕ
  pub next : Point
  pub after : List ℕ
  pub first : text.byte (text.start p) ≡ Some (as_byte byte next)
  pub sees : Sees text next after
  pub less : weight after < weight (code ∷ cs)
  pub room : is_eol code ≡ false → weight (line_of after) ≤ weight (line_of (code ∷ cs))
  pub all : (is : ℕ → Bool) → is 256 ≡ true → list_all is (line_of after) ≡ list_all is (line_of cs)
  pub same : after_line after ≡ after_line cs
  pub feeds : (byte == 10) ≡ is_eol code
  pub white : is_space_or_tab byte ≡ is_white code
  pub sort : (is : ℕ → Bool) → ((c : ℕ) → is (text_byte c) ≡ is c) → is byte ≡ is code

pub shows : {text : Text} {p : Point} (code : ℕ) (cs : List ℕ) → Sees text p (code ∷ cs) → Shown text p code cs
shows code cs (byte {q = q} apart e s) = record {
  byte = text_byte code;
  next = q;
  after = cs;
  first = e;
  sees = s;
  less = weight_some code cs;
  room = λ inner. let l = ap weight (line_more code cs inner) in let some = weight_some code (line_of cs) in omega (arith, l, some);
  all = λ is h. refl;
  same = refl;
  feeds = seen_feed code;
  white = seen_white code;
  sort = λ is h. h code;
}
shows code cs (tab {q = q} {n = n} most e f s) = record {
  byte = 9;
  next = q;
  after = replicate n 256 ++ cs;
  first = e;
  sees = columns_seen f s;
  less = let w = columns_weigh n cs in omega (arith, w, most);
  room = λ inner.
      let l = ap weight (line_more 9 cs refl) in
      let k = ap weight (columns_line n cs) in
      let w = columns_weigh n (line_of cs) in omega (arith, l, k, w, most);
  all = λ is h. ap (list_all is) (columns_line n cs) ∙ columns_all is h n (line_of cs);
  same = columns_after n cs;
  feeds = refl;
  white = refl;
  sort = λ is h. refl;
}
