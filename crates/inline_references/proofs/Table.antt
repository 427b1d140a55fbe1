-- The groups of built-in rows are the rows of the definition.
use Rattle.std.proofs.Common.{◌≡◌, ℕ, zero, suc, ◌+◌, ◌<◌, ◌≤◌, Bool, true, false, not, ◌&&◌, eqb, cond, List, [], ◌∷◌, ◌++◌, Option, None, Some, Bor, refl}
use Rattle.std.proofs.Common.{sym, ap, ◌∙◌, inl, inr, length, get_or, arith}
use Rattle.std.specs.Prelude.{map, is_some, nat_lt}
use Rattle.std.specs.List.{filter_map, cons_option, find, flat_map, list_all, position_or_len, before_first, after_first}
use Rattle.std.specs.Option.{option_and_then, option_map}
use Rattle.std.specs.Str.{bytes_eq}
use Rattle.std.proofs.lemmas.Bool.{cases_Bool, cond-true, cond-false, and_parts, and_from, ne_eqb}
use Rattle.std.proofs.lemmas.List.Folds.{list_all-append}
use Rattle.std.proofs.lemmas.Slice.Eq.{bytes_eq-Decides}
use Rattle.std.specs.Char.{encode_utf8}
use Rattle.definition_inline.specs.ReferenceRows.{Row, row, text_in}
use Rattle.definition_inline.specs.BuiltinReferences.{builtin_text, builtin_rows, builtin_names}
use Rattle.inline_references.specs.Groups.{group_of, is_equals, text_in_row, rows_in_group, text_in_group}
use Rattle.inline_references.specs.declared.builtin.TheConstants.{GROUPS}

-- the text behind one of several references
pub now_at : (texts : List (Bor (List ℕ))) (i : ℕ) (other : Bor (List ℕ)) → i < length texts
    → (get_or texts i other).now ≡ get_or (map (λ text. text.now) texts) i []
now_at [] i other lt = absurd (omega arith)
now_at (x ∷ xs) zero other lt = refl
now_at (x ∷ xs) (suc i) other lt = now_at xs i other (omega arith)

abbrev pub groups : List (List ℕ)
groups = map (λ rows. rows.now) GROUPS

-- a row of a group
abbrev row_in : List ℕ → Option Row
row_in piece = cond (nat_lt (position_or_len is_equals piece) (length piece)) (Some (row (before_first is_equals piece) (after_first is_equals piece))) None

abbrev pub group_rows : List ℕ → List Row
group_rows rows = filter_map row_in (rows_in_group rows)

-- the groups are the rows of the definition
table : builtin_rows ≡ flat_map group_rows groups
unfolding builtin_rows builtin_text encode_utf8
table = refl

-- a place is this one
abbrev is_at : Option ℕ → ℕ → Bool
is_at None place = false
is_at (Some i) place = eqb i place

-- the rows of each group, from this place on, are names of that group
abbrev in_order : ℕ → List (List ℕ) → Bool
in_order place [] = true
in_order place (rows ∷ others) = list_all (λ (r : Row). is_at (group_of r.name) place) (group_rows rows) && in_order (suc place) others

table_in_order : in_order 0 groups ≡ true
table_in_order = refl

not_yes : (b : Bool) → not b ≡ true → b ≡ false
not_yes true h = sym h
not_yes false h = refl

-- a group holds the text of its rows
text_in_pieces : (pieces : List (List ℕ)) (name : List ℕ)
    → option_and_then (λ piece. text_in_row piece name) (find (λ piece. is_some (text_in_row piece name)) pieces) ≡ text_in (filter_map row_in pieces) name
text_in_pieces [] name = refl
text_in_pieces (piece ∷ pieces) name =
    let before = before_first is_equals piece in
    let after = after_first is_equals piece in
    let has = nat_lt (position_or_len is_equals piece) (length piece) in
    let same = bytes_eq before name in
    let rest = find (λ x. is_some (text_in_row x name)) pieces in
    let others = filter_map row_in pieces in
    let text : Option (List ℕ) → Option (List ℕ) = λ t. option_and_then (λ x. text_in_row x name) (cond (is_some t) (Some piece) rest) in
    let chosen : Bool → Option (List ℕ) =
    λ b. option_map (λ (r : Row). r.text) (cond b (Some (row before after)) (find (λ (r : Row). bytes_eq r.name name) others)) in
    let with_row : Option Row → Option (List ℕ) = λ r. text_in (cons_option r others) name in
    elim (cases_Bool has) [
      | inl p ↦
          let is_row : row_in piece ≡ Some (row before after) = cond-true has _ _ p in
          elim (cases_Bool same) [
            | inl q ↦
                let is : text_in_row piece name ≡ Some after = cond-true (has && same) _ _ (and_from has same p q) in
                ap text is ∙ is ∙ sym (ap with_row is_row ∙ ap chosen q)
            | inr q ↦
                let is : text_in_row piece name ≡ None = cond-false (has && same) _ _ (ap (λ x. x && same) p ∙ q) in
                ap text is ∙ text_in_pieces pieces name ∙ sym (ap with_row is_row ∙ ap chosen q)
          ]
      | inr p ↦
          let is_row : row_in piece ≡ None = cond-false has _ _ p in
          let is : text_in_row piece name ≡ None = cond-false (has && same) _ _ (ap (λ x. x && same) p) in
          ap text is ∙ text_in_pieces pieces name ∙ sym (ap with_row is_row)
    ]

text_in_group-rows : (rows name : List ℕ) → text_in_group rows name ≡ text_in (group_rows rows) name
text_in_group-rows rows name = text_in_pieces (rows_in_group rows) name

-- rows with other names
abbrev no_row : List ℕ → List Row → Bool
no_row name rows = list_all (λ (r : Row). not (bytes_eq r.name name)) rows

text_in_next : (r : Row) (rows : List Row) (name : List ℕ) → bytes_eq r.name name ≡ false → text_in (r ∷ rows) name ≡ text_in rows name
text_in_next r rows name h = ap (λ b. option_map (λ (x : Row). x.text) (cond b (Some r) (find (λ (x : Row). bytes_eq x.name name) rows))) h

text_in-none : (rows : List Row) (name : List ℕ) → no_row name rows ≡ true → text_in rows name ≡ None
text_in-none [] name h = refl
text_in-none (r ∷ rows) name h =
    let parts = and_parts (not (bytes_eq r.name name)) (no_row name rows) h in
    text_in_next r rows name (not_yes (bytes_eq r.name name) parts.0) ∙ text_in-none rows name parts.1

text_in-skip : (rows others : List Row) (name : List ℕ) → no_row name rows ≡ true → text_in (rows ++ others) name ≡ text_in others name
text_in-skip [] others name h = refl
text_in-skip (r ∷ rows) others name h =
    let parts = and_parts (not (bytes_eq r.name name)) (no_row name rows) h in
    text_in_next r (rows ++ others) name (not_yes (bytes_eq r.name name) parts.0) ∙ text_in-skip rows others name parts.1

text_in-stop : (rows others : List Row) (name : List ℕ) → no_row name others ≡ true → text_in (rows ++ others) name ≡ text_in rows name
text_in-stop [] others name h = text_in-none others name h
text_in-stop (r ∷ rows) others name h =
    let chosen : List Row → Bool → Option (List ℕ) =
    λ rest b. option_map (λ (x : Row). x.text) (cond b (Some r) (find (λ (x : Row). bytes_eq x.name name) rest)) in
    elim (cases_Bool (bytes_eq r.name name)) [
      | inl p ↦ ap (chosen (rows ++ others)) p ∙ sym (ap (chosen rows) p)
      | inr p ↦ text_in_next r (rows ++ others) name p ∙ text_in-stop rows others name h ∙ sym (text_in_next r rows name p)
    ]

-- rows of another group have other names
other_group : (rows : List Row) (place : ℕ) (name : List ℕ) → is_at (group_of name) place ≡ false
    → list_all (λ (r : Row). is_at (group_of r.name) place) rows ≡ true → no_row name rows ≡ true
other_group [] place name h all = refl
other_group (r ∷ rows) place name h all =
    let parts = and_parts (is_at (group_of r.name) place) (list_all (λ (x : Row). is_at (group_of x.name) place) rows) all in
    let rest = other_group rows place name h parts.1 in
    elim (cases_Bool (bytes_eq r.name name)) [
      | inl p ↦
          let same : r.name ≡ name = (bytes_eq-Decides r.name name).0 p in
          let here : is_at (group_of name) place ≡ true = sym (ap (λ n. is_at (group_of n) place) same) ∙ parts.0 in
          cc
      | inr p ↦ and_from (not (bytes_eq r.name name)) (no_row name rows) (ap not p) rest
    ]

-- none of these groups is that of a name
absent : (place : ℕ) (rest : List (List ℕ)) (name : List ℕ) → ((i : ℕ) → place ≤ i → is_at (group_of name) i ≡ false)
    → in_order place rest ≡ true → no_row name (flat_map group_rows rest) ≡ true
absent place [] name h order = refl
absent place (rows ∷ rest) name h order =
    let parts = and_parts (list_all (λ (r : Row). is_at (group_of r.name) place) (group_rows rows)) (in_order (suc place) rest) order in
    let here = other_group (group_rows rows) place name (h place (omega arith)) parts.0 in
    let others = absent (suc place) rest name (λ i le. h i (omega arith)) parts.1 in
    list_all-append (λ (r : Row). not (bytes_eq r.name name)) (group_rows rows) (flat_map group_rows rest)
    ∙ and_from (no_row name (group_rows rows)) (no_row name (flat_map group_rows rest)) here others

-- the group of a name is the one at its place
found : (place n : ℕ) (rest : List (List ℕ)) (name : List ℕ) → group_of name ≡ Some (place + n) → in_order place rest ≡ true
    → text_in (flat_map group_rows rest) name ≡ text_in (group_rows (get_or rest n [])) name
found place n [] name h order = refl
found place zero (rows ∷ rest) name h order =
    let parts = and_parts (list_all (λ (r : Row). is_at (group_of r.name) place) (group_rows rows)) (in_order (suc place) rest) order in
    let later : (i : ℕ) → suc place ≤ i → is_at (group_of name) i ≡ false = λ i le. ap (λ g. is_at g i) h ∙ ne_eqb (place + 0) i (λ e. omega arith) in
    text_in-stop (group_rows rows) (flat_map group_rows rest) name (absent (suc place) rest name later parts.1)
found place (suc n) (rows ∷ rest) name h order =
    let parts = and_parts (list_all (λ (r : Row). is_at (group_of r.name) place) (group_rows rows)) (in_order (suc place) rest) order in
    let elsewhere : is_at (group_of name) place ≡ false = ap (λ g. is_at g place) h ∙ ne_eqb (place + suc n) place (λ e. omega arith) in
    let next : place + suc n ≡ suc place + n = omega arith in
    text_in-skip (group_rows rows) (flat_map group_rows rest) name (other_group (group_rows rows) place name elsewhere parts.0)
    ∙ found (suc place) n rest name (h ∙ ap Some next) parts.1

-- a name's text is that in its group
pub builtin_in_group : (name : List ℕ) (place : ℕ) → group_of name ≡ Some place → text_in_group (get_or groups place []) name ≡ builtin_names name
builtin_in_group name place h =
    text_in_group-rows (get_or groups place []) name
    ∙ sym (found 0 place groups name (h ∙ ap Some (let e : place ≡ 0 + place = omega arith in e)) table_in_order)
    ∙ sym (ap (λ rows. text_in rows name) table)

-- a name that begins with no letter has none
pub builtin_without_group : (name : List ℕ) → group_of name ≡ None → builtin_names name ≡ None
builtin_without_group name h =
    ap (λ rows. text_in rows name) table
    ∙ text_in-none (flat_map group_rows groups) name (absent 0 groups name (λ i le. ap (λ g. is_at g i) h) table_in_order)
