-- What stands before and after the parts of a content, in codes.
use Rattle.std.proofs.Common.{◌≡◌, ℕ, ◌-◌, List, [], ◌∷◌, ◌++◌, Bool, true, false, cond, ◌&&◌, ◌||◌, eqb, nat_le, ◌⊎◌, Option, None, Some, refl, sym, ap, ◌∙◌}
use Rattle.std.proofs.Common.{length, drop, arith, inl, inr, nat_lt}
use Rattle.std.specs.Option.{unwrap_or}
use Rattle.inline_links.proofs.Prelude.{angle_end, at_line_start, bare_end, cases_Bool, cond-false, cond-true, cond_some, destination_at, ends_bare}
use Rattle.inline_links.proofs.Prelude.{ends_label, eqb-true, if_any, is_control, is_eol, is_space, is_too_deep, is_white, label_at, label_end, length-append}
use Rattle.inline_links.proofs.Prelude.{may_escape, none-some, open_after, or_cases, Part, take_at, title_at, title_end, unless_empty, up_to}
use Rattle.std.proofs.lemmas.Bool.{and_parts, lt-ltb, leb-true}
use Rattle.definition_text.specs.Content.{text_before, closed_by}
use Rattle.definition_inline.specs.Label.{is_label, if_label}
use Rattle.definition_inline.specs.Destination.{ends_angle}
use Rattle.definition_inline.specs.Title.{ends_title, ends_blank_line, title_close, title_until}

pub from_some : {A : Type 0} (x y : A) → Some x ≡ Some y → x ≡ y
from_some x y e = ap (λ o. unwrap_or o x) e

-- an ASCII character, a column or a line ending
abbrev pub is_ascii_code : ℕ → Bool
is_ascii_code c = nat_lt c 128 || (eqb c 256 || eqb c 257)

-- ---- up to a code that closes

-- a rest that begins with a code, and what stands before it
pub record Closes (close : ℕ) (cs r : List ℕ) : Type 0 where
  pub front : List ℕ
  pub after : List ℕ
  pub whole : cs ≡ front ++ close ∷ after
  pub rest : r ≡ close ∷ after

closes_here : (close c : ℕ) (cs r : List ℕ) → cond (eqb c close) (Some (c ∷ cs)) None ≡ Some r → Closes close (c ∷ cs) r
closes_here close c cs r e =
    let both = cond_some (eqb c close) (c ∷ cs) r e in
    let same : c ∷ cs ≡ close ∷ cs = ap (λ x. x ∷ cs) (eqb-true c close both.0) in
    record { front = []; after = cs; whole = same; rest = sym both.1 ∙ same }

closes_later : (close c : ℕ) (cs r : List ℕ) → Closes close cs r → Closes close (c ∷ cs) r
closes_later close c cs r h = record { front = c ∷ h.front; after = h.after; whole = ap (λ x. c ∷ x) h.whole; rest = h.rest }

label_closes : (escaped : Bool) (cs r : List ℕ) → label_end escaped cs ≡ Some r → Closes 93 cs r
label_closes escaped [] r e = absurd (none-some r e)
label_closes escaped (c ∷ cs) r e = elim (cases_Bool (ends_label escaped c)) [
  | inl h ↦ closes_here 93 c cs r (sym (cond-true (ends_label escaped c) _ _ h) ∙ e)
  | inr h ↦ closes_later 93 c cs r (label_closes (may_escape escaped c) cs r (sym (cond-false (ends_label escaped c) _ _ h) ∙ e))
]

angle_closes : (escaped : Bool) (cs r : List ℕ) → angle_end escaped cs ≡ Some r → Closes 62 cs r
angle_closes escaped [] r e = absurd (none-some r e)
angle_closes escaped (c ∷ cs) r e = elim (cases_Bool (ends_angle escaped c)) [
  | inl h ↦ closes_here 62 c cs r (sym (cond-true (ends_angle escaped c) _ _ h) ∙ e)
  | inr h ↦ closes_later 62 c cs r (angle_closes (may_escape escaped c) cs r (sym (cond-false (ends_angle escaped c) _ _ h) ∙ e))
]

title_closes : (close : ℕ) (escaped start : Bool) (cs r : List ℕ) → title_end close escaped start cs ≡ Some r → Closes close cs r
title_closes close escaped start [] r e = absurd (none-some r e)
title_closes close escaped start (c ∷ cs) r e = elim (cases_Bool (ends_title close escaped c)) [
  | inl h ↦ closes_here close c cs r (sym (cond-true (ends_title close escaped c) _ _ h) ∙ e)
  | inr h ↦
      let f = sym (cond-false (ends_title close escaped c) _ _ h) ∙ e in
      elim (cases_Bool (ends_blank_line start c)) [
        | inl k ↦ absurd (none-some r (sym (cond-true (ends_blank_line start c) _ _ k) ∙ f))
        | inr k ↦ closes_later close c cs r (title_closes close (may_escape escaped c) (at_line_start start c) cs r
            (sym (cond-false (ends_blank_line start c) _ _ k) ∙ f))
      ]
]

-- what stands before a rest
pub before_is : (cs front rest : List ℕ) → cs ≡ front ++ rest → text_before cs rest ≡ front
before_is cs front rest e =
    ap (λ x. text_before x rest) e
    ∙ take_at front rest (length (front ++ rest) - length rest) (omega (arith, length-append front rest))

pub closed_whole : (close : ℕ) (cs : List ℕ) (end : Option (List ℕ)) (p : Part) → ((r : List ℕ) → end ≡ Some r → Closes close cs r)
    → closed_by cs end ≡ Some p → cs ≡ p.text ++ close ∷ p.rest
closed_whole close cs None p h e = absurd (none-some p e)
closed_whole close cs (Some r) p h e =
    let k = h r refl in
    let there = from_some _ p e in
    let text : k.front ≡ p.text = sym (before_is cs k.front r (k.whole ∙ ap (λ x. k.front ++ x) (sym k.rest))) ∙ ap (λ q. q.text) there in
    let rest : k.after ≡ p.rest = ap (drop 1) (sym k.rest) ∙ ap (λ q. q.rest) there in
    k.whole ∙ ap (λ x. x ++ close ∷ k.after) text ∙ ap (λ x. p.text ++ close ∷ x) rest

-- ---- the parts

-- a label: `[`, its text, `]`
pub label_whole : (cs : List ℕ) (p : Part) → label_at cs ≡ Some p → cs ≡ 91 ∷ p.text ++ 93 ∷ p.rest
label_whole [] p e = absurd (none-some p e)
label_whole (c ∷ cs) p e = elim (cases_Bool (eqb c 91)) [
  | inl h ↦
      let f = sym (cond-true (eqb c 91) _ _ h) ∙ e in
      ap (λ x. x ∷ cs) (eqb-true c 91 h)
      ∙ ap (λ x. 91 ∷ x) (closed_whole 93 cs (label_end false cs) p (label_closes false cs) (of_label (closed_by cs (label_end false cs)) f))
  | inr h ↦ absurd (none-some p (sym (cond-false (eqb c 91) _ _ h) ∙ e))
]
  where
    of_label : (o : Option Part) → if_label o ≡ Some p → o ≡ Some p
    of_label None e = e
    of_label (Some q) e = ap Some (cond_some (is_label q.text) q p e).1

-- a title: what opens it, its text, what closes it
pub record TitleWhole (cs : List ℕ) (p : Part) : Type 0 where
  pub opening : ℕ
  pub closing : ℕ
  pub opening_ascii : is_ascii_code opening ≡ true
  pub closing_ascii : is_ascii_code closing ≡ true
  pub whole : cs ≡ opening ∷ p.text ++ closing ∷ p.rest

pub title_whole : (cs : List ℕ) (p : Part) → title_at cs ≡ Some p → TitleWhole cs p
title_whole [] p e = absurd (none-some p e)
title_whole (c ∷ cs) p e = elim (cases_Bool (eqb c 34 || eqb c 39)) [
  | inl h ↦
      let f = ap (λ o. title_until o cs) (sym (cond-true (eqb c 34 || eqb c 39) _ _ h)) ∙ e in
      let ascii : is_ascii_code c ≡ true = quote_ascii c (or_cases (eqb c 34) (eqb c 39) h) in
      record {
        opening = c;
        closing = c;
        opening_ascii = ascii;
        closing_ascii = ascii;
        whole = ap (λ x. c ∷ x) (closed_whole c cs (title_end c false false cs) p (title_closes c false false cs) f);
      }
  | inr h ↦ elim (cases_Bool (eqb c 40)) [
    | inl k ↦
        let close : title_close c ≡ Some 41 = cond-false (eqb c 34 || eqb c 39) _ _ h ∙ cond-true (eqb c 40) _ _ k in
        let f = ap (λ o. title_until o cs) (sym close) ∙ e in
        record {
          opening = c;
          closing = 41;
          opening_ascii = ap is_ascii_code (eqb-true c 40 k);
          closing_ascii = refl;
          whole = ap (λ x. c ∷ x) (closed_whole 41 cs (title_end 41 false false cs) p (title_closes 41 false false cs) f);
        }
    | inr k ↦
        let none : title_close c ≡ None = cond-false (eqb c 34 || eqb c 39) _ _ h ∙ cond-false (eqb c 40) _ _ k in
        absurd (none-some p (ap (λ o. title_until o cs) (sym none) ∙ e))
  ]
]
  where
    quote_ascii : (c : ℕ) → (eqb c 34 ≡ true) ⊎ (eqb c 39 ≡ true) → is_ascii_code c ≡ true
    quote_ascii c (inl h) = ap is_ascii_code (eqb-true c 34 h)
    quote_ascii c (inr h) = ap is_ascii_code (eqb-true c 39 h)

-- the first code, if there is one, is ASCII
abbrev pub begins_ascii : List ℕ → Bool
begins_ascii [] = true
begins_ascii (c ∷ cs) = is_ascii_code c

pub record BareEnd (cs r : List ℕ) : Type 0 where
  pub front : List ℕ
  pub whole : cs ≡ front ++ r
  pub ascii : begins_ascii r ≡ true

-- a space or a tab
pub white_ascii : (c : ℕ) → is_white c ≡ true → is_ascii_code c ≡ true
white_ascii c h = elim (or_cases (eqb c 32 || eqb c 9) (eqb c 256) h) [
  | inl k ↦ elim (or_cases (eqb c 32) (eqb c 9) k) [
    | inl l ↦ ap is_ascii_code (eqb-true c 32 l)
    | inr l ↦ ap is_ascii_code (eqb-true c 9 l)
  ]
  | inr k ↦ ap is_ascii_code (eqb-true c 256 k)
]

pub eol_ascii : (c : ℕ) → is_eol c ≡ true → is_ascii_code c ≡ true
eol_ascii c h = elim (or_cases (eqb c 10 || eqb c 13) (eqb c 257) h) [
  | inl k ↦ elim (or_cases (eqb c 10) (eqb c 13) k) [
    | inl l ↦ ap is_ascii_code (eqb-true c 10 l)
    | inr l ↦ ap is_ascii_code (eqb-true c 13 l)
  ]
  | inr k ↦ ap is_ascii_code (eqb-true c 257 k)
]

control_ascii : (c : ℕ) → is_control c ≡ true → is_ascii_code c ≡ true
control_ascii c h = elim (or_cases (nat_le 1 c && nat_le c 31) (eqb c 127) h) [
  | inl k ↦ ap (λ b. b || (eqb c 256 || eqb c 257)) (lt-ltb c 128 (omega (arith, leb-true c 31 (and_parts (nat_le 1 c) (nat_le c 31) k).1)))
  | inr k ↦ ap is_ascii_code (eqb-true c 127 k)
]

stop_ascii : (escaped : Bool) (opened c : ℕ) → ends_bare escaped opened c ≡ true → is_ascii_code c ≡ true
stop_ascii escaped opened c h = elim (or_cases (is_space c || is_control c) _ h) [
  | inl k ↦ elim (or_cases (is_space c) (is_control c) k) [
    | inl l ↦ elim (or_cases (is_white c) (is_eol c) l) [
      | inl m ↦ white_ascii c m
      | inr m ↦ eol_ascii c m
    ]
    | inr l ↦ control_ascii c l
  ]
  | inr k ↦ ap is_ascii_code (eqb-true c 41 (and_parts (eqb c 41) _ (and_parts (eqb c 41 && eqb opened 0) _ k).0).0)
]

bare_ends : (depth : Option ℕ) (escaped : Bool) (opened : ℕ) (cs r : List ℕ) → bare_end depth escaped opened cs ≡ Some r → BareEnd cs r
bare_ends depth escaped opened [] r e =
    let same = (cond_some (eqb opened 0) [] r e).1 in
    record { front = []; whole = same; ascii = ap begins_ascii (sym same) }
bare_ends depth escaped opened (c ∷ cs) r e = elim (cases_Bool (ends_bare escaped opened c)) [
  | inl h ↦
      let same = (cond_some (eqb opened 0) (c ∷ cs) r (sym (cond-true (ends_bare escaped opened c) _ _ h) ∙ e)).1 in
      record { front = []; whole = same; ascii = ap begins_ascii (sym same) ∙ stop_ascii escaped opened c h }
  | inr h ↦
      let f = sym (cond-false (ends_bare escaped opened c) _ _ h) ∙ e in
      elim (cases_Bool (is_too_deep depth (open_after escaped opened c))) [
        | inl k ↦ absurd (none-some r (sym (cond-true (is_too_deep depth (open_after escaped opened c)) _ _ k) ∙ f))
        | inr k ↦
            let rest = bare_ends depth (may_escape escaped c) (open_after escaped opened c) cs r
            (sym (cond-false (is_too_deep depth (open_after escaped opened c)) _ _ k) ∙ f) in
            record { front = c ∷ rest.front; whole = ap (λ x. c ∷ x) rest.whole; ascii = rest.ascii }
      ]
]

-- a destination: between `<` and `>`, or up to an ASCII code
pub record DestinationWhole (cs : List ℕ) (p : Part) : Type 0 where
  pub whole : (cs ≡ 60 ∷ p.text ++ 62 ∷ p.rest) ⊎ ((cs ≡ p.text ++ p.rest) × (begins_ascii p.rest ≡ true))

any_is : (o : Option Part) (p : Part) → if_any o ≡ Some p → o ≡ Some p
any_is None p e = e
any_is (Some q) p e = of_text q.text q p e
  where
    of_text : (text : List ℕ) (q p : Part) → unless_empty text q ≡ Some p → Some q ≡ Some p
    of_text [] q p e = absurd (none-some p e)
    of_text (c ∷ cs) q p e = e

bare_whole : (cs : List ℕ) (end : Option (List ℕ)) (p : Part) → ((r : List ℕ) → end ≡ Some r → BareEnd cs r) → up_to cs end ≡ Some p
    → (cs ≡ p.text ++ p.rest) × (begins_ascii p.rest ≡ true)
bare_whole cs None p h e = absurd (none-some p e)
bare_whole cs (Some r) p h e =
    let k = h r refl in
    let there = from_some _ p e in
    let text : k.front ≡ p.text = sym (before_is cs k.front r k.whole) ∙ ap (λ q. q.text) there in
    let rest : r ≡ p.rest = ap (λ q. q.rest) there in
    (k.whole ∙ ap (λ x. x ++ r) text ∙ ap (λ x. p.text ++ x) rest, ap begins_ascii (sym rest) ∙ k.ascii)

pub destination_whole : (depth : Option ℕ) (cs : List ℕ) (p : Part) → destination_at depth cs ≡ Some p → DestinationWhole cs p
destination_whole depth [] p e = absurd (none-some p e)
destination_whole depth (c ∷ cs) p e = elim (cases_Bool (eqb c 60)) [
  | inl h ↦
      let f = sym (cond-true (eqb c 60) _ _ h) ∙ e in
      record { whole = inl (ap (λ x. x ∷ cs) (eqb-true c 60 h) ∙ ap (λ x. 60 ∷ x) (closed_whole 62 cs (angle_end false cs) p (angle_closes false cs) f)) }
  | inr h ↦
      let f = sym (cond-false (eqb c 60) _ _ h) ∙ e in
      record { whole = inr (bare_whole (c ∷ cs) (bare_end depth false 0 (c ∷ cs)) p (bare_ends depth false 0 (c ∷ cs)) (any_is _ p f)) }
]
