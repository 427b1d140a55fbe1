-- The names of the list, in tables.
use Rattle.std.proofs.Common.{◌≡◌, ℕ, Bool, true, false, ◌&&◌, ◌||◌, eqb, List, [], ◌∷◌, ◌++◌, codes, refl, sym, ap, ◌∙◌, inl, inr}
use Rattle.std.specs.List.{list_any, flat_map}
use Rattle.std.specs.Str.{bytes_eq}
use Rattle.std.proofs.lemmas.Bool.{cases_Bool, true≢false}
use Rattle.definition_text.specs.Bytes.{begins_with}
use Rattle.definition_html.specs.Listing.{is_in, is_listed, free_names, heading_names, void_names, PartRow, part_rows, is_part}

or_step : (a b c d : Bool) → b ≡ (c || d) → (a || b) ≡ ((a || c) || d)
or_step true b c d e = refl
or_step false b c d e = e

any_append : (test : List ℕ → Bool) (xs ys : List (List ℕ)) → list_any test (xs ++ ys) ≡ (list_any test xs || list_any test ys)
any_append test [] ys = refl
any_append test (x ∷ xs) ys = or_step (test x) (list_any test (xs ++ ys)) (list_any test xs) (list_any test ys) (any_append test xs ys)

-- the names of all rows
row_names : List PartRow → List (List ℕ)
row_names rows = flat_map (λ (row : PartRow). row.names) rows

parts_any : (rows : List PartRow) (name : List ℕ) → list_any (λ (row : PartRow). is_in row.names name) rows ≡ is_in (row_names rows) name
unfolding row_names
parts_any [] name = refl
parts_any (row ∷ rows) name =
    ap (λ x. is_in row.names name || x) (parts_any rows name) ∙ sym (any_append (λ n. bytes_eq n name) row.names (row_names rows))

unfoldable pub part_names : List (List ℕ)
part_names =
    codes "li" ∷ codes "dt" ∷ codes "dd" ∷ codes "rt" ∷ codes "rp" ∷ codes "caption" ∷ codes "thead" ∷ codes "tbody" ∷ codes "tfoot" ∷ codes "tr"
    ∷ codes "td" ∷ codes "th" ∷ []

rows_are : row_names part_rows ≡ part_names
unfolding row_names part_rows part_names
rows_are = refl

pub parts_listed : (name : List ℕ) → is_in part_names name ≡ is_part name
parts_listed name = ap (λ names. is_in names name) (sym rows_are) ∙ sym (parts_any part_rows name)

-- a name is found in one of four tables
pub listed_by : (name : List ℕ) (free heading void part : Bool) → free ≡ is_in free_names name → heading ≡ is_in heading_names name
    → void ≡ is_in void_names name → part ≡ is_in part_names name → (((free || heading) || void) || part) ≡ is_listed name
listed_by name free heading void part f h v p =
    ap (λ t. ((t || heading) || void) || part) f
    ∙ ap (λ t. ((is_in free_names name || t) || void) || part) h
    ∙ ap (λ t. ((is_in free_names name || is_in heading_names name) || t) || part) v
    ∙ ap (λ t. ((is_in free_names name || is_in heading_names name) || is_in void_names name) || t) (p ∙ parts_listed name)

-- a heading begins with `h`
pub no_heading : (name : List ℕ) → begins_with (codes "h") name ≡ false → false ≡ is_in heading_names name
unfolding heading_names
no_heading [] h = refl
no_heading (b ∷ bs) h = elim (cases_Bool (eqb 104 b)) [
  | inl e ↦ absurd (true≢false (sym (ap (λ t. t && true) e) ∙ h))
  | inr e ↦
      let digits = codes "1" ∷ codes "2" ∷ codes "3" ∷ codes "4" ∷ codes "5" ∷ codes "6" ∷ [] in
      sym (ap (λ t. list_any (λ n. t && bytes_eq n bs) digits) e)
]
