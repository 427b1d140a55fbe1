-- The number of an item fits.
use Rattle.std.proofs.Common.{◌≡◌, ℕ, zero, suc, ◌+◌, ◌-◌, ◌*◌, ◌<◌, ◌≤◌, Bool, true, false, ◌&&◌, if◌then◌else◌, List, [], ◌∷◌, Option, None, Some, length, refl, sym, ap, ◌∙◌, arith, subst}
use Rattle.compile_html.proofs.Prelude.{and_parts, are_digits, Around, Cons, fold, HasNumber, HaveNumbers, kids_in, min, Name, Nil, Node, node_name, Nodes}
use Rattle.compile_html.proofs.Prelude.{number_of, same_name, text_of}
use Rattle.std.specs.Prelude.{◌^◌, nat_le}
use Rattle.std.specs.Char.{is_ascii_digit}
use Rattle.std.specs.List.{list_all}
use Rattle.std.proofs.lemmas.Bool.{leb-true}
use Rattle.engine_events.specs.declared.event.Name.TheVariants as n
use Rattle.event_grammar.specs.Facts.{is_size}
use Rattle.event_grammar.specs.InGrammar.{kids_of}
use Rattle.event_meaning.specs.Children.{child, inside_of, text_or_none, text_in}

abbrev Fits : List ℕ → Type 0
Fits ds = min (number_of ds) (2 ^ 32 - 1) ≡ number_of ds

-- a number after so many nines
abbrev nines : ℕ → ℕ → ℕ
nines zero b = b
nines (suc k) b = nines k (b * 10 + 9)

nines_rise : (k b : ℕ) → b ≤ nines k b
nines_rise zero b = omega arith
nines_rise (suc k) b = omega (arith, nines_rise k (b * 10 + 9))

digit_small : (d : ℕ) → is_ascii_digit d ≡ true → d ≤ 57
digit_small d h = grind arith

bounded : (k : ℕ) (ds : List ℕ) → length ds ≤ k → list_all is_ascii_digit ds ≡ true → (number b : ℕ) → number ≤ b
    → fold (λ number digit. number * 10 + (digit - 48)) number ds ≤ nines k b
bounded k [] short h number b l = omega (arith, nines_rise k b)
bounded zero (d ∷ ds) short h number b l = absurd (omega (arith, short))
bounded (suc k) (d ∷ ds) short h number b l =
    let both = and_parts (is_ascii_digit d) (list_all is_ascii_digit ds) h in
    bounded k ds (omega (arith, short)) both.1 (number * 10 + (d - 48)) (b * 10 + 9) (omega (arith, digit_small d both.0))

digits_fit : (ds : List ℕ) → are_digits 9 ds ≡ true → Fits ds
digits_fit ds h =
    let both = and_parts (is_size 9 ds) (list_all is_ascii_digit ds) h in
    let size = and_parts (nat_le 1 (length ds)) (nat_le (length ds) 9) both.0 in
    let start : 0 ≤ 0 = omega arith in
    let small : number_of ds ≤ 999999999 = bounded 9 ds (leb-true (length ds) 9 size.1) both.1 0 0 start in
    omega arith

module _ (bytes : List ℕ) where
  fits_by : (b : Bool) (node : Node) (o : Option Node) → (b ≡ true → are_digits 9 (text_of bytes node) ≡ true) → Fits (text_or_none bytes o)
      → Fits (text_or_none bytes (if b then Some node else o))
  fits_by true node o h k = digits_fit (text_of bytes node) (h refl)
  fits_by false node o h k = k

  value_fits : (ns : Nodes) → HaveNumbers bytes ns → Fits (text_in bytes n.ListItemValue ns)
  value_fits Nil h = refl
  value_fits (Cons (Around enter kids exit) ns) h =
      fits_by (same_name enter.name n.ListItemValue) (Around enter kids exit) (child n.ListItemValue ns) h.0.0 (value_fits ns h.1)

  in_by : (b : Bool) (node : Node) (o : Option Node) → HaveNumbers bytes (kids_of node) → HaveNumbers bytes (inside_of o)
      → HaveNumbers bytes (inside_of (if b then Some node else o))
  in_by true node o h k = h
  in_by false node o h k = k

  numbers_in : (name : Name) (ns : Nodes) → HaveNumbers bytes ns → HaveNumbers bytes (kids_in name ns)
  numbers_in name Nil h = tt
  numbers_in name (Cons (Around enter kids exit) ns) h =
      in_by (same_name enter.name name) (Around enter kids exit) (child name ns) h.0.1 (numbers_in name ns h.1)

  -- the number of the first item
  pub first_fits : (kids : Nodes) → HaveNumbers bytes kids → Fits (text_in bytes n.ListItemValue (kids_in n.ListItemPrefix (kids_in n.ListItem kids)))
  first_fits kids h =
      value_fits (kids_in n.ListItemPrefix (kids_in n.ListItem kids)) (numbers_in n.ListItemPrefix (kids_in n.ListItem kids) (numbers_in n.ListItem kids h))
