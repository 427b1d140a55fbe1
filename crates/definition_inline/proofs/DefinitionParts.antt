-- The parts of a definition are read the same whatever follows them.
use Rattle.std.proofs.Common.{◌≡◌, ℕ, ◌+◌, ◌-◌, suc, Bool, true, false, cond, not, ◌&&◌, ◌||◌, eqb, List, [], ◌∷◌, ◌++◌, take, drop, length, Option, None, Some}
use Rattle.std.proofs.Common.{refl, sym, ap, ◌∙◌, ◌⊎◌, inl, inr, arith, append_assoc}
use Rattle.std.proofs.lemmas.Bool.{cases_Bool, cond-true, cond-false, eqb-true}
use Rattle.std.proofs.lemmas.Option.{none-some, cond_some}
use Rattle.std.proofs.Math.Seq.{take-append_seam}
use Rattle.std.proofs.lemmas.List.{length-append}
use Rattle.std.specs.Prelude.{unwrap_or}
use Rattle.std.specs.List.{prefix_len}
use Rattle.definition_text.specs.Columns.{is_white}
use Rattle.definition_text.specs.Content.{Part, part, is_eol, may_escape, at_line_start, text_before, up_to, closed_by}
use Rattle.definition_inline.specs.Space.{after_spaces, after_ending, after_white, begins_with_space}
use Rattle.definition_inline.specs.Label.{ends_label, label_end, is_label, if_label, label_at}
use Rattle.definition_inline.specs.Destination.{ends_angle, angle_end, is_control, open_after, ends_bare, bare_end, unless_empty, if_any, destination_at}
use Rattle.definition_inline.specs.Title.{ends_title, ends_blank_line, title_end, title_close, title_until, title_at}

pub the_same : {A : Type 0} (x y : A) → Some x ≡ Some y → x ≡ y
the_same x y h = ap (λ o. unwrap_or o x) h

-- ---- what stands before a rest

pub before_rest : (u r : List ℕ) → text_before (u ++ r) r ≡ u
before_rest u r =
    let e : length (u ++ r) - length r ≡ length u = let h = length-append u r in omega arith in
    ap (λ n. take n (u ++ r)) e ∙ take-append_seam u r

-- a front of a content which this function takes off, whatever follows
pub record TakesOff (f : List ℕ → Option (List ℕ)) (k : ℕ) (cs rest : List ℕ) : Type 0 where
  pub front : List ℕ
  pub after : List ℕ
  pub here : cs ≡ front ++ k ∷ after
  pub same : rest ≡ k ∷ after
  pub anywhere : (s : List ℕ) → f (front ++ k ∷ s) ≡ Some (k ∷ s)

-- ---- a reading up to the code that closes a text

module _ (S : Type 0) (f : S → List ℕ → Option (List ℕ)) (ends bad : S → ℕ → Bool) (next : S → ℕ → S) (k : ℕ)
    (over : (st : S) → f st [] ≡ None)
    (step : (st : S) (c : ℕ) (cs : List ℕ) → f st (c ∷ cs) ≡ cond (ends st c) (cond (eqb c k) (Some (c ∷ cs)) None) (cond (bad st c) None (f (next st c) cs)))
  where
    pub takes_off : (st : S) (cs rest : List ℕ) → f st cs ≡ Some rest → TakesOff (f st) k cs rest
    takes_off st [] rest h = absurd (none-some rest (sym (over st) ∙ h))
    takes_off st (c ∷ cs) rest h = elim (cases_Bool (ends st c)) [
      | inl e ↦ elim (cases_Bool (eqb c k)) [
        | inl i ↦
            let same : c ≡ k = eqb-true c k i in
            let found : f st (c ∷ cs) ≡ Some (c ∷ cs) = step st c cs ∙ cond-true (ends st c) _ _ e ∙ cond-true (eqb c k) _ _ i in
            record {
              front = [];
              after = cs;
              here = ap (λ x. x ∷ cs) same;
              same = sym (the_same (c ∷ cs) rest (sym found ∙ h)) ∙ ap (λ x. x ∷ cs) same;
              anywhere = λ s. ap (λ x. f st (x ∷ s)) (sym same) ∙ step st c s ∙ cond-true (ends st c) _ _ e ∙ cond-true (eqb c k) _ _ i
                  ∙ ap (λ x. Some (x ∷ s)) same;
            }
        | inr i ↦ absurd (none-some rest (sym (step st c cs ∙ cond-true (ends st c) _ _ e ∙ cond-false (eqb c k) _ _ i) ∙ h))
      ]
      | inr e ↦ elim (cases_Bool (bad st c)) [
        | inl i ↦ absurd (none-some rest (sym (step st c cs ∙ cond-false (ends st c) _ _ e ∙ cond-true (bad st c) _ _ i) ∙ h))
        | inr i ↦
            let on : (s : List ℕ) → f st (c ∷ s) ≡ f (next st c) s = λ s. step st c s ∙ cond-false (ends st c) _ _ e ∙ cond-false (bad st c) _ _ i in
            let more = takes_off (next st c) cs rest (sym (on cs) ∙ h) in
            record {
              front = c ∷ more.front;
              after = more.after;
              here = ap (λ xs. c ∷ xs) more.here;
              same = more.same;
              anywhere = λ s. on (more.front ++ k ∷ s) ∙ more.anywhere s;
            }
      ]
    ]

-- ---- the three texts that are closed by a code

label_off : (cs rest : List ℕ) → label_end false cs ≡ Some rest → TakesOff (label_end false) 93 cs rest
label_off cs rest h = takes_off Bool label_end ends_label (λ st c. false) may_escape 93 (λ st. refl) (λ st c cs. refl) false cs rest h

pub angle_off : (cs rest : List ℕ) → angle_end false cs ≡ Some rest → TakesOff (angle_end false) 62 cs rest
angle_off cs rest h = takes_off Bool angle_end ends_angle (λ st c. false) may_escape 62 (λ st. refl) (λ st c cs. refl) false cs rest h

-- of a title: whether the code before was a backslash that escapes, and whether the line has only white space so far
abbrev title_state : Type 0
title_state = Bool × Bool

title_off : (close : ℕ) (cs rest : List ℕ) → title_end close false false cs ≡ Some rest → TakesOff (title_end close false false) close cs rest
title_off close cs rest h =
    takes_off title_state (λ st. title_end close st.0 st.1) (λ st. ends_title close st.0) (λ st. ends_blank_line st.1)
    (λ st c. (may_escape st.0 c, at_line_start st.1 c)) close (λ st. refl) (λ st c cs. refl) (false, false) cs rest h

-- a text up to the code that closes it, whatever follows
pub record Closes (f : List ℕ → Option (List ℕ)) (k : ℕ) (cs : List ℕ) (p : Part) : Type 0 where
  pub here : cs ≡ p.text ++ k ∷ p.rest
  pub anywhere : (s : List ℕ) → closed_by (p.text ++ k ∷ s) (f (p.text ++ k ∷ s)) ≡ Some (part p.text s)

pub closes : (f : List ℕ → Option (List ℕ)) (k : ℕ) (cs : List ℕ) → ((rest : List ℕ) → f cs ≡ Some rest → TakesOff f k cs rest)
    → (p : Part) → closed_by cs (f cs) ≡ Some p → Closes f k cs p
closes f k cs off p h = go (f cs) refl
  where
    go : (o : Option (List ℕ)) → f cs ≡ o → Closes f k cs p
    go None e = absurd (none-some p (sym (ap (closed_by cs) e) ∙ h))
    go (Some rest) e =
        let t = off rest e in
        let found : part (text_before cs rest) (drop 1 rest) ≡ p = the_same (part (text_before cs rest) (drop 1 rest)) p (sym (ap (closed_by cs) e) ∙ h) in
        let text : p.text ≡ t.front =
        ap (λ q. q.text) (sym found) ∙ ap (λ r. text_before cs r) t.same ∙ ap (λ xs. text_before xs (k ∷ t.after)) t.here ∙ before_rest t.front (k ∷ t.after) in
        let after : p.rest ≡ t.after = ap (λ q. q.rest) (sym found) ∙ ap (λ r. drop 1 r) t.same in
        record {
          here = t.here ∙ ap (λ r. t.front ++ k ∷ r) (sym after) ∙ ap (λ u. u ++ k ∷ p.rest) (sym text);
          anywhere = λ s.
              ap (λ u. closed_by (u ++ k ∷ s) (f (u ++ k ∷ s))) text
              ∙ ap (λ o. closed_by (t.front ++ k ∷ s) o) (t.anywhere s)
              ∙ ap (λ u. Some (part u s)) (before_rest t.front (k ∷ s) ∙ sym text);
        }

-- ---- the parts

-- what may follow a destination: nothing, or white space
abbrev pub EndsHere : List ℕ → Type 0
EndsHere s = (s ≡ []) ⊎ (begins_with_space s ≡ true)

pub cons_nil : (x : ℕ) (xs : List ℕ) → x ∷ xs ≡ [] → ⊥
cons_nil x xs h = let e = ap length h in absurd (omega arith)

-- a part at the front, read the same before whatever may follow it
pub record Reads (read : List ℕ → Option Part) (MayFollow : List ℕ → Type 0) (cs : List ℕ) (p : Part) : Type 0 where
  pub first : ℕ
  pub more : List ℕ
  pub here : cs ≡ first ∷ (more ++ p.rest)
  pub anywhere : (s : List ℕ) → MayFollow s → read (first ∷ (more ++ s)) ≡ Some (part p.text s)

abbrev pub Whatever : List ℕ → Type 0
Whatever s = Unit {0}

-- a text, the code that closes it, and what follows
closed_at : (f : List ℕ → Option (List ℕ)) (k : ℕ) (cs : List ℕ) (p : Part) → Closes f k cs p
    → (s : List ℕ) → closed_by ((p.text ++ k ∷ []) ++ s) (f ((p.text ++ k ∷ []) ++ s)) ≡ Some (part p.text s)
closed_at f k cs p c s = ap (λ xs. closed_by xs (f xs)) (append_assoc p.text (k ∷ []) s) ∙ c.anywhere s

label_found : (o : Option Part) (p : Part) → if_label o ≡ Some p → (o ≡ Some p) × (is_label p.text ≡ true)
label_found None p h = absurd (none-some p h)
label_found (Some q) p h =
    let both = cond_some (is_label q.text) q p h in
    (ap Some both.1, ap (λ x. is_label x.text) (sym both.1) ∙ both.0)

pub label_reads : (cs : List ℕ) (p : Part) → label_at cs ≡ Some p → Reads label_at Whatever cs p
label_reads [] p h = absurd (none-some p h)
label_reads (c ∷ cs) p h = elim (cases_Bool (eqb c 91)) [
  | inl e ↦
      let found = label_found (closed_by cs (label_end false cs)) p (sym (cond-true (eqb c 91) _ _ e) ∙ h) in
      let text = closes (label_end false) 93 cs (label_off cs) p found.0 in
      record {
        first = 91;
        more = p.text ++ 93 ∷ [];
        here = ap (λ x. x ∷ cs) (eqb-true c 91 e) ∙ ap (λ xs. 91 ∷ xs) (text.here ∙ sym (append_assoc p.text (93 ∷ []) p.rest));
        anywhere = λ s _. ap if_label (closed_at (label_end false) 93 cs p text s) ∙ cond-true (is_label p.text) (Some (part p.text s)) None found.1;
      }
  | inr e ↦ absurd (none-some p (sym (cond-false (eqb c 91) _ _ e) ∙ h))
]

pub title_until_reads : (o : Option ℕ) (cs : List ℕ) (p : Part) → title_until o cs ≡ Some p
    → (k : ℕ) × (o ≡ Some k) × Closes (title_end k false false) k cs p
title_until_reads None cs p h = absurd (none-some p h)
title_until_reads (Some k) cs p h = (k, refl, closes (title_end k false false) k cs (title_off k cs) p h)

pub title_reads : (cs : List ℕ) (p : Part) → title_at cs ≡ Some p → Reads title_at Whatever cs p
title_reads [] p h = absurd (none-some p h)
title_reads (c ∷ cs) p h =
    let found = title_until_reads (title_close c) cs p h in
    let k = found.0 in
    record {
      first = c;
      more = p.text ++ k ∷ [];
      here = ap (λ xs. c ∷ xs) (found.2.here ∙ sym (append_assoc p.text (k ∷ []) p.rest));
      anywhere = λ s _.
          ap (λ o. title_until o ((p.text ++ k ∷ []) ++ s)) found.1
          ∙ closed_at (title_end k false false) k cs p found.2 s;
    }

-- ---- destinations without angle brackets

record BareOff (e : Bool) (opened : ℕ) (cs rest : List ℕ) : Type 0 where
  front : List ℕ
  here : cs ≡ front ++ rest
  anywhere : (s : List ℕ) → EndsHere s → bare_end None e opened (front ++ s) ≡ Some s

-- nothing is open, and a destination ends here
bare_over : (e : Bool) (opened : ℕ) (s : List ℕ) → eqb opened 0 ≡ true → EndsHere s → bare_end None e opened s ≡ Some s
bare_over e opened [] z h = cond-true (eqb opened 0) _ _ z
bare_over e opened (c ∷ cs) z (inl h) = absurd (cons_nil c cs h)
bare_over e opened (c ∷ cs) z (inr h) =
    cond-true (ends_bare e opened c) _ _ (ap (λ b. b || is_control c || ((eqb c 41) && (eqb opened 0) && not e)) h) ∙ cond-true (eqb opened 0) _ _ z

bare_off : (e : Bool) (opened : ℕ) (cs rest : List ℕ) → bare_end None e opened cs ≡ Some rest → BareOff e opened cs rest
bare_off e opened [] rest h =
    let both = cond_some (eqb opened 0) [] rest h in
    record { front = []; here = both.1; anywhere = λ s ends. bare_over e opened s both.0 ends }
bare_off e opened (c ∷ cs) rest h = elim (cases_Bool (ends_bare e opened c)) [
  | inl i ↦
      let both = cond_some (eqb opened 0) (c ∷ cs) rest (sym (cond-true (ends_bare e opened c) _ _ i) ∙ h) in
      record { front = []; here = both.1; anywhere = λ s ends. bare_over e opened s both.0 ends }
  | inr i ↦
      let next = open_after e opened c in
      let more = bare_off (may_escape e c) next cs rest (sym (cond-false (ends_bare e opened c) _ _ i) ∙ h) in
      record {
        front = c ∷ more.front;
        here = ap (λ xs. c ∷ xs) more.here;
        anywhere = λ s ends. cond-false (ends_bare e opened c) _ _ i ∙ more.anywhere s ends;
      }
]

bare_found : (cs : List ℕ) (o : Option (List ℕ)) (p : Part) → if_any (up_to cs o) ≡ Some p
    → (o ≡ Some p.rest) × (p.text ≡ text_before cs p.rest) × (x : ℕ) × (xs : List ℕ) × (p.text ≡ x ∷ xs)
bare_found cs None p h = absurd (none-some p h)
bare_found cs (Some rest) p h = go (text_before cs rest) refl
  where
    go : (text : List ℕ) → text_before cs rest ≡ text → (Some rest ≡ Some p.rest) × (p.text ≡ text_before cs p.rest) × (x : ℕ) × (xs : List ℕ)
        × (p.text ≡ x ∷ xs)
    go [] e = absurd (none-some p (sym (ap (λ t. unless_empty t (part (text_before cs rest) rest)) e) ∙ h))
    go (x ∷ xs) e =
        let same : part (text_before cs rest) rest ≡ p =
        the_same (part (text_before cs rest) rest) p (sym (ap (λ t. unless_empty t (part (text_before cs rest) rest)) e) ∙ h) in
        let after : rest ≡ p.rest = ap (λ q. q.rest) same in
        let text : text_before cs rest ≡ p.text = ap (λ q. q.text) same in
        (ap Some after, sym text ∙ ap (text_before cs) after, x, xs, sym text ∙ e)

abbrev head : List ℕ → ℕ
head [] = 0
head (x ∷ xs) = x

bare_reads : (cs : List ℕ) (p : Part) (c : ℕ) (others : List ℕ) → cs ≡ c ∷ others → eqb c 60 ≡ false → if_any (up_to cs (bare_end None false 0 cs)) ≡ Some p
    → Reads (destination_at None) EndsHere cs p
bare_reads cs p c others whole plain h =
    let found = bare_found cs (bare_end None false 0 cs) p h in
    let off = bare_off false 0 cs p.rest found.0 in
    let x = found.2 in
    let xs = found.3 in
    let text : p.text ≡ x ∷ xs = found.4 in
    let front : off.front ≡ x ∷ xs = sym (before_rest off.front p.rest) ∙ ap (λ l. text_before l p.rest) (sym off.here) ∙ sym found.1 ∙ text in
    let here : cs ≡ x ∷ (xs ++ p.rest) = off.here ∙ ap (λ l. l ++ p.rest) front in
    let same : x ≡ c = ap head (sym here ∙ whole) in
    record {
      first = x;
      more = xs;
      here = here;
      anywhere = λ s ends.
          let all = x ∷ (xs ++ s) in
          let over : bare_end None false 0 all ≡ Some s = ap (λ l. bare_end None false 0 (l ++ s)) (sym front) ∙ off.anywhere s ends in
          cond-false (eqb x 60) _ _ (ap (λ y. eqb y 60) same ∙ plain)
          ∙ ap (λ o. if_any (up_to all o)) over
          ∙ ap (λ t. unless_empty t (part t s)) (before_rest (x ∷ xs) s)
          ∙ ap (λ t. Some (part t s)) (sym text);
    }

pub destination_reads : (cs : List ℕ) (p : Part) → destination_at None cs ≡ Some p → Reads (destination_at None) EndsHere cs p
destination_reads [] p h = absurd (none-some p h)
destination_reads (c ∷ cs) p h = elim (cases_Bool (eqb c 60)) [
  | inl e ↦
      let text = closes (angle_end false) 62 cs (angle_off cs) p (sym (cond-true (eqb c 60) _ _ e) ∙ h) in
      record {
        first = 60;
        more = p.text ++ 62 ∷ [];
        here = ap (λ x. x ∷ cs) (eqb-true c 60 e) ∙ ap (λ xs. 60 ∷ xs) (text.here ∙ sym (append_assoc p.text (62 ∷ []) p.rest));
        anywhere = λ s _. closed_at (angle_end false) 62 cs p text s;
      }
  | inr e ↦ bare_reads (c ∷ cs) p c cs refl e (sym (cond-false (eqb c 60) _ _ e) ∙ h)
]

-- ---- white space

pub spaces_pass : (c : ℕ) (cs : List ℕ) → is_white c ≡ true → after_spaces (c ∷ cs) ≡ after_spaces cs
spaces_pass c cs h =
    let n = prefix_len is_white cs in
    let more : 1 + n ≡ suc n = omega arith in
    ap (λ k. drop k (c ∷ cs)) (cond-true (is_white c) (1 + n) 0 h ∙ more)

pub spaces_stop : (c : ℕ) (cs : List ℕ) → is_white c ≡ false → after_spaces (c ∷ cs) ≡ c ∷ cs
spaces_stop c cs h = ap (λ k. drop k (c ∷ cs)) (cond-false (is_white c) (1 + prefix_len is_white cs) 0 h)

-- what a function leaves is found again before whatever else follows its first code
pub record Leaves (f : List ℕ → List ℕ) (cs : List ℕ) (x : ℕ) (rest : List ℕ) : Type 0 where
  pub front : List ℕ
  pub here : cs ≡ front ++ x ∷ rest
  pub anywhere : (s : List ℕ) → f (front ++ x ∷ s) ≡ x ∷ s

pub spaces_leave : (cs : List ℕ) (x : ℕ) (rest : List ℕ) → after_spaces cs ≡ x ∷ rest → Leaves after_spaces cs x rest
spaces_leave [] x rest h = absurd (cons_nil x rest (sym h))
spaces_leave (c ∷ cs) x rest h = elim (cases_Bool (is_white c)) [
  | inl w ↦
      let more = spaces_leave cs x rest (sym (spaces_pass c cs w) ∙ h) in
      record {
        front = c ∷ more.front;
        here = ap (λ xs. c ∷ xs) more.here;
        anywhere = λ s. spaces_pass c (more.front ++ x ∷ s) w ∙ more.anywhere s;
      }
  | inr w ↦
      let e : c ∷ cs ≡ x ∷ rest = sym (spaces_stop c cs w) ∙ h in
      record {
        front = [];
        here = e;
        anywhere = λ s. spaces_stop x s (ap is_white (sym (ap head e)) ∙ w);
      }
]

pub white_leaves : (cs : List ℕ) (x : ℕ) (rest : List ℕ) → after_white cs ≡ x ∷ rest → Leaves after_white cs x rest
white_leaves cs x rest h = go (after_spaces cs) refl
  where
    go : (l : List ℕ) → after_spaces cs ≡ l → Leaves after_white cs x rest
    go [] e = absurd (cons_nil x rest (sym (sym (ap after_ending e) ∙ h)))
    go (c ∷ others) e =
        let first = spaces_leave cs c others e in
        elim (cases_Bool (is_eol c)) [
          | inl w ↦
              let more = spaces_leave others x rest (sym (cond-true (is_eol c) _ _ w) ∙ sym (ap after_ending e) ∙ h) in
              record {
                front = first.front ++ c ∷ more.front;
                here = first.here ∙ ap (λ xs. first.front ++ c ∷ xs) more.here ∙ sym (append_assoc first.front (c ∷ more.front) (x ∷ rest));
                anywhere = λ s.
                    ap after_white (append_assoc first.front (c ∷ more.front) (x ∷ s))
                    ∙ ap after_ending (first.anywhere (more.front ++ x ∷ s)) ∙ cond-true (is_eol c) _ _ w ∙ more.anywhere s;
              }
          | inr w ↦
              let same : c ∷ others ≡ x ∷ rest = sym (cond-false (is_eol c) _ _ w) ∙ sym (ap after_ending e) ∙ h in
              let code : c ≡ x = ap head same in
              record {
                front = first.front;
                here = first.here ∙ ap (λ xs. first.front ++ xs) same;
                anywhere = λ s.
                    ap (λ y. after_white (first.front ++ y ∷ s)) (sym code)
                    ∙ ap after_ending (first.anywhere s) ∙ cond-false (is_eol c) _ _ w ∙ ap (λ y. y ∷ s) code;
              }
        ]
