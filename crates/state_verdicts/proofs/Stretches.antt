-- Codes of one sort are seen as bytes of that sort.
use Rattle.std.proofs.Common.{◌≡◌, ◌∙◌, ℕ, suc, ◌+◌, Bool, true, false, ◌==◌, if◌then◌else◌, List, [], ◌∷◌, drop, Some, None, inl, inr, refl, sym, ap, subst}
use Rattle.std.proofs.Common.{arith}
use Rattle.state_verdicts.proofs.Prelude.{as_byte, byte, byte_of, cases_Bool, code_byte, ended, has, is_eol, longer, ne_eqb, nothing, Point, prefix_len, Sees}
use Rattle.state_verdicts.proofs.Prelude.{Stretch, tab, Text, text_byte}
use Rattle.state_verdicts.specs.Codes.{Fills, column, full}
use Rattle.state_verdicts.proofs.Seen.{seen_column}

drop_next : (k c : ℕ) (cs : List ℕ) → drop (1 + k) (c ∷ cs) ≡ drop k cs
drop_next k c cs = ap (λ (n : ℕ). drop n (c ∷ cs)) (let e : 1 + k ≡ suc k = omega arith in e)

pub prefix_by : (p : ℕ → Bool) (c : ℕ) (cs : List ℕ) (is : Bool) → p c ≡ is → prefix_len p (c ∷ cs) ≡ (if is then 1 + prefix_len p cs else 0)
prefix_by p c cs is h = ap (λ (b : Bool). if b then 1 + prefix_len p cs else 0) h

-- the rest after a prefix
pub rest_more : (p : ℕ → Bool) (c : ℕ) (cs : List ℕ) → p c ≡ true → drop (prefix_len p (c ∷ cs)) (c ∷ cs) ≡ drop (prefix_len p cs) cs
rest_more p c cs h = ap (λ (n : ℕ). drop n (c ∷ cs)) (prefix_by p c cs true h) ∙ drop_next (prefix_len p cs) c cs

pub rest_none : (p : ℕ → Bool) (c : ℕ) (cs : List ℕ) → p c ≡ false → drop (prefix_len p (c ∷ cs)) (c ∷ cs) ≡ c ∷ cs
rest_none p c cs h = ap (λ (n : ℕ). drop n (c ∷ cs)) (prefix_by p c cs false h)

-- a line ending is no other code
pub eol_differs : (m c : ℕ) → is_eol m ≡ false → is_eol c ≡ true → (c == m) ≡ false
eol_differs m c plain h = ne_eqb c m (λ e. let f : true ≡ false = sym h ∙ (ap is_eol e ∙ plain) in absurd (cc))

seen_by : (m c : ℕ) (is : Bool) → is_eol m ≡ false → (32 == m) ≡ (256 == m) → is_eol c ≡ is → ((if is then 10 else code_byte c) == m) ≡ (c == m)
seen_by m c true plain same h = eol_differs m 10 plain refl ∙ sym (eol_differs m c plain h)
seen_by m c false plain same h = seen_column (λ b. b == m) same c

-- a byte that is neither a line ending nor a space is a code's only where it is the code
pub seen_as_itself : (m : ℕ) → is_eol m ≡ false → (32 == m) ≡ (256 == m) → (c : ℕ) → (text_byte c == m) ≡ (c == m)
seen_as_itself m plain same c = seen_by m c (is_eol c) plain same refl

module _ (text : Text) (is : ℕ → Bool) where
  no_byte : {p : Point} → text.byte (text.start p) ≡ None → has is (byte_of (text.byte (text.start p))) ≡ false
  no_byte e = ap (λ v. has is (byte_of v)) e

  other_byte : {b : ℕ} {p q : Point} → text.byte (text.start p) ≡ Some (as_byte b q) → is b ≡ false → has is (byte_of (text.byte (text.start p))) ≡ false
  other_byte e h = ap (λ v. has is (byte_of v)) e ∙ h

  -- ---- sorts without tabs: a byte a code

  -- so many bytes from a place on are codes of the sort, and the rest of the codes is seen after them
  pub record Run (q : Point) (cs : List ℕ) : Type 0 where
    pub end : Point
    pub stretch : Stretch text is (prefix_len is cs) q end
    pub sees : Sees text end (drop (prefix_len is cs) cs)

  run_ends : {q : Point} {c : ℕ} {cs : List ℕ} → is c ≡ false → has is (byte_of (text.byte (text.start q))) ≡ false → Sees text q (c ∷ cs) → Run q (c ∷ cs)
  run_ends {q} {c} {cs} h none s = record {
    end = q;
    stretch = subst (λ (n : ℕ). Stretch text is n q q) (sym (prefix_by is c cs false h)) (ended none);
    sees = subst (λ (ds : List ℕ). Sees text q ds) (sym (rest_none is c cs h)) s;
  }

  run_longer : {q r : Point} {b c : ℕ} {cs : List ℕ} → is c ≡ true → is b ≡ true → text.byte (text.start q) ≡ Some (as_byte b r) → Run r cs → Run q (c ∷ cs)
  run_longer {q} {r} {b} {c} {cs} h k e f = record {
    end = f.end;
    stretch = subst (λ (n : ℕ). Stretch text is n q f.end) (let one : prefix_len is cs + 1 ≡ 1 + prefix_len is cs = omega arith in
        one ∙ sym (prefix_by is c cs true h)) (longer e k f.stretch);
    sees = subst (λ (ds : List ℕ). Sees text f.end ds) (sym (rest_more is c cs h)) f.sees;
  }

  module _ (no_tab : is 9 ≡ false) (itself : (c : ℕ) → is (text_byte c) ≡ is c) where
    pub run_seen : (cs : List ℕ) {q : Point} → Sees text q cs → Run q cs
    run_seen [] {q} (nothing e) = record { end = q; stretch = ended (no_byte e); sees = nothing e }
    run_seen (c ∷ cs) {q} (byte {q = r} apart e s) = elim (cases_Bool (is c)) [
      | inl h ↦ run_longer h (itself c ∙ h) e (run_seen cs s)
      | inr h ↦ run_ends h (other_byte e (itself c ∙ h)) (byte apart e s)
    ]
    run_seen (c ∷ cs) {q} (tab few e f s) = run_ends no_tab (other_byte e no_tab) (tab few e f s)

  -- ---- sorts with tabs and spaces: a tab gives several bytes

  -- a code as it is seen
  abbrev pub sight : ℕ → Bool
  sight c = is (text_byte c)

  pub record Part (q : Point) (cs : List ℕ) : Type 0 where
    pub count : ℕ
    pub end : Point
    pub stretch : Stretch text is count q end
    pub sees : Sees text end (drop (prefix_len sight cs) cs)

  part_ends : {q : Point} {c : ℕ} {cs : List ℕ} → sight c ≡ false → has is (byte_of (text.byte (text.start q))) ≡ false → Sees text q (c ∷ cs) → Part q (c ∷ cs)
  part_ends {q} {c} {cs} h none s =
      record { count = 0; end = q; stretch = ended none; sees = subst (λ (ds : List ℕ). Sees text q ds) (sym (rest_none sight c cs h)) s }

  part_longer : {q : Point} {c k : ℕ} {cs : List ℕ} → sight c ≡ true → (end : Point) → Stretch text is k q end → Sees text end (drop (prefix_len sight cs) cs)
      → Part q (c ∷ cs)
  part_longer {q} {c} {k} {cs} h end st s =
      record { count = k; end = end; stretch = st; sees = subst (λ (ds : List ℕ). Sees text end ds) (sym (rest_more sight c cs h)) s }

  -- a sort that has no tab
  pub some_seen : is 9 ≡ false → (cs : List ℕ) {q : Point} → Sees text q cs → Part q cs
  some_seen no_tab [] {q} (nothing e) = record { count = 0; end = q; stretch = ended (no_byte e); sees = nothing e }
  some_seen no_tab (c ∷ cs) {q} (byte {q = r} apart e s) = elim (cases_Bool (sight c)) [
    | inl h ↦ let f = some_seen no_tab cs s in part_longer h f.end (longer e h f.stretch) f.sees
    | inr h ↦ part_ends h (other_byte e h) (byte apart e s)
  ]
  some_seen no_tab (c ∷ cs) {q} (tab few e f s) = part_ends no_tab (other_byte e no_tab) (tab few e f s)

  module _ (of_tab : is 9 ≡ true) (of_space : is 32 ≡ true) where
    -- the spaces of a tab, and then more
    pub record TabFill (q r : Point) : Type 0 where
      pub count : ℕ
      pub stretch : Stretch text is count q r

    pub filled : {n k : ℕ} {q r end : Point} → Fills text n q r → Stretch text is k r end → TabFill q end
    filled {k = k} full st = record { count = k; stretch = st }
    filled (column e f) st = let g = filled f st in record { count = g.count + 1; stretch = longer e of_space g.stretch }

    pub part_seen : (cs : List ℕ) {q : Point} → Sees text q cs → Part q cs
    part_seen [] {q} (nothing e) = record { count = 0; end = q; stretch = ended (no_byte e); sees = nothing e }
    part_seen (c ∷ cs) {q} (byte {q = r} apart e s) = elim (cases_Bool (sight c)) [
      | inl h ↦ let f = part_seen cs s in part_longer h f.end (longer e h f.stretch) f.sees
      | inr h ↦ part_ends h (other_byte e h) (byte apart e s)
    ]
    part_seen (c ∷ cs) {q} (tab few e f s) =
        let g = part_seen cs s in
        let h = filled f g.stretch in
        part_longer of_tab g.end (longer e of_tab h.stretch) g.sees
