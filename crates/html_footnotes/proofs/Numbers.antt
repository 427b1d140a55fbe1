-- Numbers of the footnotes that are called.
use Rattle.std.proofs.Common.{◌≡◌, ℕ, zero, suc, ◌+◌, ◌-◌, ◌<◌, ◌≤◌, ◌⊎◌, inl, inr, Bool, true, false, if◌then◌else◌, eqb, List, [], ◌∷◌, ◌++◌, length, get_or}
use Rattle.std.proofs.Common.{slice_set, refl, sym, ap, ◌∙◌, arith}
use Rattle.std.proofs.lemmas.Bool.{cases_lt, cond-true, cond-false, eqb-true, eq-eqb}
use Rattle.std.proofs.lemmas.Bool.Decides.{eqb_tells}
use Rattle.html_footnotes.proofs.Prelude.{AreNumbers, Call, get_or_default, latest_call, NoteCalls, number_of, once_more, with_one_more}
use Rattle.std.proofs.lemmas.List.{get_or-set_same, get_or-set_other}
use Rattle.std.proofs.Math.ListN.{get_or-eq_default}
use Rattle.html_footnotes.specs.Calls.{called_once, number_from}

-- a number is none, or this one or a later one
least : (place number : ℕ) (cs : List NoteCalls) → (number_from place number cs ≡ 0) ⊎ (number ≤ number_from place number cs)
least place number [] = inl refl
least place number (c ∷ cs) =
    elim (eqb c.place place) as (λ here. ((if here then number else number_from place (suc number) cs) ≡ 0)
    ⊎ (number ≤ (if here then number else number_from place (suc number) cs))) [
      | true ↦ inr (omega arith)
      | false ↦ elim (least place (suc number) cs) [
        | inl none ↦ inl none
        | inr more ↦ inr (omega (arith, more))
      ]
    ]

-- a footnote that stands later hasn't this number
later : (place number : ℕ) (cs : List NoteCalls) → 0 < number → number_from place (suc number) cs ≡ number + 0 → ⊥
later place number cs some is = elim (least place (suc number) cs) [
  | inl none ↦ omega (arith, some, is, none)
  | inr more ↦ omega (arith, some, is, more)
]

-- a footnote with a number stands where that says
pub found : (place number at : ℕ) (cs : List NoteCalls) → 0 < number → number_from place number cs ≡ number + at → at < length cs
found place number at [] some is = absurd (omega (arith, some, is))
found place number zero (c ∷ cs) some is = omega arith
found place number (suc at) (c ∷ cs) some is =
    (elim (eqb c.place place) as (λ here. (if here then number else number_from place (suc number) cs) ≡ number + suc at → suc at < suc (length cs)) [
      | true ↦ λ h. absurd (omega (arith, h))
      | false ↦ λ h. let below : at < length cs = found place (suc number) at cs (omega arith) (omega (arith, h)) in omega (arith, below)
    ]) is

-- one more call of a footnote with a number changes it where it stands
pub raised : (place number at : ℕ) (label : List ℕ) (cs : List NoteCalls) (d : NoteCalls) → 0 < number → number_from place number cs ≡ number + at
    → once_more place label cs ≡ slice_set cs at (with_one_more (get_or cs at d))
raised place number at label [] d some is = absurd (omega (arith, some, is))
raised place number zero label (c ∷ cs) d some is =
    (elim (eqb c.place place) as (λ here. (if here then number else number_from place (suc number) cs) ≡ number + 0
    → (if here then with_one_more c ∷ cs else c ∷ once_more place label cs) ≡ with_one_more c ∷ cs) [
      | true ↦ λ h. refl
      | false ↦ λ h. absurd (later place number cs some h)
    ]) is
raised place number (suc at) label (c ∷ cs) d some is =
    (elim (eqb c.place place) as (λ here. (if here then number else number_from place (suc number) cs) ≡ number + suc at
    → (if here then with_one_more c ∷ cs else c ∷ once_more place label cs) ≡ c ∷ slice_set cs at (with_one_more (get_or cs at d))) [
      | true ↦ λ h. absurd (omega (arith, h))
      | false ↦ λ h. ap (λ (rest : List NoteCalls). c ∷ rest) (raised place (suc number) at label cs d (omega arith) (omega (arith, h)))
    ]) is

-- the latest call of a footnote with a number
pub latest_found : (place number at : ℕ) (cs : List NoteCalls) (d : NoteCalls) → 0 < number → number_from place number cs ≡ number + at
    → latest_call place number cs ≡ record { label = (get_or cs at d).label; number = number + at; count = (get_or cs at d).count }
latest_found place number at [] d some is = absurd (omega (arith, some, is))
latest_found place number zero (c ∷ cs) d some is =
    (elim (eqb c.place place) as (λ here. (if here then number else number_from place (suc number) cs) ≡ number + 0
    → (if here then record { label = c.label; number = number; count = c.count } else latest_call place (suc number) cs) ≡ record {
      label = c.label;
      number = number + 0;
      count = c.count;
    }) [
      | true ↦ λ h. ap (λ (n : ℕ). let call : Call = record { label = c.label; number = n; count = c.count } in call) h
      | false ↦ λ h. absurd (later place number cs some h)
    ]) is
latest_found place number (suc at) (c ∷ cs) d some is =
    let one = get_or cs at d in
    (elim (eqb c.place place) as (λ here. (if here then number else number_from place (suc number) cs) ≡ number + suc at
    → (if here then record { label = c.label; number = number; count = c.count } else latest_call place (suc number) cs) ≡ record {
      label = one.label;
      number = number + suc at;
      count = one.count;
    }) [
      | true ↦ λ h. absurd (omega (arith, h))
      | false ↦ λ h.
          let at_most : number_from place (suc number) cs ≡ suc number + at = omega (arith, h) in
          let same : suc number + at ≡ number + suc at = omega arith in
          latest_found place (suc number) at cs d (omega arith) at_most ∙ ap (λ (n : ℕ). let call : Call = record {
            label = one.label;
            number = n;
            count = one.count;
          } in call) same
    ]) is

-- one more call of a footnote with a number keeps all numbers
pub numbers_kept : (other place number : ℕ) (label : List ℕ) (cs : List NoteCalls) → 0 < number_from place number cs
    → number_from other number (once_more place label cs) ≡ number_from other number cs
numbers_kept other place number label [] some = absurd (omega (arith, some))
numbers_kept other place number label (c ∷ cs) some =
    (elim (eqb c.place place) as (λ here. 0 < (if here then number else number_from place (suc number) cs)
    → number_from other number (if here then with_one_more c ∷ cs else c ∷ once_more place label cs) ≡ number_from other number (c ∷ cs)) [
      | true ↦ λ h. refl
      | false ↦ λ h. ap (λ (n : ℕ). if eqb c.place other then number else n) (numbers_kept other place (suc number) label cs h)
    ]) some

-- a footnote that isn't called yet stands last once it is
pub called_last : (place number : ℕ) (label : List ℕ) (cs : List NoteCalls) → 0 < number → number_from place number cs ≡ 0
    → once_more place label cs ≡ cs ++ called_once place label ∷ []
called_last place number label [] some none = refl
called_last place number label (c ∷ cs) some none =
    (elim (eqb c.place place) as (λ here. (if here then number else number_from place (suc number) cs) ≡ 0
    → (if here then with_one_more c ∷ cs else c ∷ once_more place label cs) ≡ c ∷ (cs ++ called_once place label ∷ [])) [
      | true ↦ λ h. absurd (omega (arith, some, h))
      | false ↦ λ h. ap (λ (rest : List NoteCalls). c ∷ rest) (called_last place (suc number) label cs (omega arith) h)
    ]) none

-- two tests that can't both hold may change places
swapped : (a b : Bool) (n m k r : ℕ) → (a ≡ true → b ≡ true → ⊥) → r ≡ (if b then m else k) → (if a then n else r) ≡ (if b then m else (if a then n else k))
swapped true true n m k r apart is = absurd (apart refl refl)
swapped true false n m k r apart is = refl
swapped false b n m k r apart is = is

-- numbers with a footnote that is called for the first time
number_last : (other place number : ℕ) (label : List ℕ) (cs : List NoteCalls) → 0 < number → number_from place number cs ≡ 0
    → number_from other number (cs ++ called_once place label ∷ []) ≡ (if eqb place other then number + length cs else number_from other number cs)
number_last other place number label [] some none = ap (λ (n : ℕ). if eqb place other then n else 0) (omega arith)
number_last other place number label (c ∷ cs) some none =
    (elim (eqb_tells c.place place) [
      | inl (same, _) ↦ absurd (omega (arith, some, sym (cond-true (eqb c.place place) number (number_from place (suc number) cs) same) ∙ none))
      | inr (differs, apart) ↦
          let rest : number_from place (suc number) cs ≡ 0 = sym (cond-false (eqb c.place place) number (number_from place (suc number) cs) differs) ∙ none in
          let size : suc number + length cs ≡ number + suc (length cs) = omega arith in
          swapped (eqb c.place other) (eqb place other) number (number + suc (length cs)) (number_from other (suc number) cs)
          (number_from other (suc number) (cs ++ called_once place label ∷ []))
          (λ a b. apart (eqb-true c.place other a ∙ sym (eqb-true place other b)))
          (number_last other place (suc number) label cs (omega arith) rest ∙ ap (λ (n : ℕ). if eqb place other then n
          else number_from other (suc number) cs) size)
    ])

-- the table of numbers with a footnote that is called for the first time
pub table_with_last : (numbers : List ℕ) (called : List NoteCalls) (place : ℕ) (label : List ℕ) → AreNumbers numbers called → place < length numbers
    → number_of place called ≡ 0
    → AreNumbers (slice_set numbers place (length called + 1)) (called ++ called_once place label ∷ [])
table_with_last numbers called place label are within none other =
    let goal_at = number_last other place 1 label called (omega arith) none in
    elim (eqb_tells place other) [
      | inl (same, is) ↦
          ap (λ (k : ℕ). get_or (slice_set numbers place (length called + 1)) k 0) (sym is)
          ∙ get_or-set_same numbers place (length called + 1) 0 within
          ∙ (let size : length called + 1 ≡ 1 + length called = omega arith in size)
          ∙ sym (goal_at ∙ cond-true (eqb place other) (1 + length called) (number_of other called) same)
      | inr (differs, apart) ↦
          get_or-set_other numbers place other (length called + 1) 0 (λ e. apart (sym e))
          ∙ are other
          ∙ sym (goal_at ∙ cond-false (eqb place other) (1 + length called) (number_of other called) differs)
    ]

-- the table of numbers once a footnote with a number is called again
pub table_kept : (numbers : List ℕ) (called : List NoteCalls) (place : ℕ) (label : List ℕ) → AreNumbers numbers called → 0 < number_of place called
    → AreNumbers numbers (once_more place label called)
table_kept numbers called place label are some other = are other ∙ sym (numbers_kept other place 1 label called some)

-- a footnote with a number stands in the table
pub within_table : (numbers : List ℕ) (called : List NoteCalls) (place : ℕ) → AreNumbers numbers called → 0 < number_of place called → place < length numbers
within_table numbers called place are some = elim (cases_lt place (length numbers)) [
  | inl within ↦ within
  | inr over ↦ let none : number_of place called ≡ 0 = sym (are place) ∙ get_or-eq_default numbers 0 over in absurd (omega (arith, some, none))
]

-- a number that was read in the table
pub number_read : (numbers : List ℕ) (called : List NoteCalls) (place number : ℕ) → AreNumbers numbers called → number ≡ get_or numbers place number
    → place < length numbers
    → number ≡ number_of place called
number_read numbers called place number are is within = is ∙ get_or_default numbers place number 0 within ∙ are place

-- a footnote that was called for the first time has a number
pub last_has_number : (called : List NoteCalls) (place : ℕ) (label : List ℕ) → number_of place called ≡ 0
    → 0 < number_of place (called ++ called_once place label ∷ [])
last_has_number called place label none =
    let is = number_last place place 1 label called (omega arith) none ∙ cond-true (eqb place place) (1 + length called) (number_of place called)
    (eq-eqb place place refl) in
    omega (arith, is)

-- what a call counts is what the definition says, and it keeps the table
pub record Counted (numbers : List ℕ) (called : List NoteCalls) (place : ℕ) (label : List ℕ) (old : List NoteCalls) : Type 0 where
  pub table : AreNumbers numbers called
  pub is : called ≡ once_more place label old
  pub some : 0 < number_of place called

-- one more call of a footnote with a number
pub counted_again : (numbers : List ℕ) (old called : List NoteCalls) (place number : ℕ) (label : List ℕ) → AreNumbers numbers old → number ≡ number_of place old
    → 0 < number
    → ((d : NoteCalls) → called ≡ slice_set old (number - 1) (with_one_more (get_or old (number - 1) d))) → Counted numbers called place label old
counted_again numbers old called place number label are is some new =
    let stands : number_of place old ≡ 1 + (number - 1) = omega (arith, is, some) in
    let e : called ≡ once_more place label old = new (called_once 0 []) ∙ sym (raised place 1 (number - 1) label old (called_once 0 []) (omega arith) stands) in
    let here : 0 < number_of place old = omega (arith, is, some) in
    let same : number_of place called ≡ number_of place old = ap (number_of place) e ∙ numbers_kept place place 1 label old here in
    record {
      table = λ k. table_kept numbers old place label are here k ∙ ap (number_of k) (sym e);
      is = e;
      some = omega (arith, same, here);
    }

-- a first call
pub counted_first : (numbers new : List ℕ) (old called : List NoteCalls) (place number size : ℕ) (label : List ℕ) → AreNumbers numbers old
    → place < length numbers → number ≡ number_of place old
    → number ≤ 0 → size ≡ length old → called ≡ old ++ called_once place label ∷ [] → new ≡ slice_set numbers place (size + 1)
    → Counted new called place label old
counted_first numbers new old called place number size label are within is none whole added written =
    let absent : number_of place old ≡ 0 = omega (arith, is, none) in
    record {
      table = λ k.
          ap (λ (ns : List ℕ). get_or ns k 0) (written ∙ ap (λ (n : ℕ). slice_set numbers place (n + 1)) whole)
          ∙ table_with_last numbers old place label are within absent k
          ∙ ap (number_of k) (sym added);
      is = added ∙ sym (called_last place 1 label old (omega arith) absent);
      some = let last = last_has_number old place label absent in omega (arith, last, ap (number_of place) added);
    }
