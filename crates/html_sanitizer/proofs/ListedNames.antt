-- Names of the list, found in tables.
use Rattle.std.proofs.Common.{◌≡◌, ℕ, Bool, true, false, ◌||◌, cond, List, [], ◌∷◌, None, Some, refl, sym, ap, ◌∙◌, zero, suc, ◌<◌, Bor, length}
use Rattle.std.proofs.Common.{drop, get_or, arith}
use Rattle.std.proofs.lemmas.Bool.{cond-true}
use Rattle.std.proofs.lemmas.Slice.Eq.{bytes_eq-Decides}
use Rattle.std.specs.Option.{option_or}
use Rattle.std.specs.Str.{bytes_eq}
use Rattle.definition_text.specs.Bytes.{lower}
use Rattle.definition_html.specs.Listing.{is_in, free_names, heading_names, void_names}
use Rattle.html_safe_page.specs.Views.{names_of}
use Rattle.html_listed.proofs.ListedNames.{part_names, parts_listed}
use Rattle.html_sanitizer.specs.Listing.{found_name, listed_name}

or_found : (a b c d : Bool) (x : List ℕ)
    → option_or (option_or (option_or (cond a (Some x) None) (cond b (Some x) None)) (cond c (Some x) None)) (cond d (Some x) None)
    ≡ cond (((a || b) || c) || d) (Some x) None
or_found true b c d x = refl
or_found false true c d x = refl
or_found false false true d x = refl
or_found false false false true x = refl
or_found false false false false x = refl

-- a name is found in one of four tables
pub found_listed : (written : List ℕ)
    → option_or (option_or (option_or (found_name free_names written) (found_name heading_names written)) (found_name void_names written))
    (found_name part_names written)
    ≡ listed_name written
found_listed written =
    let name = lower written in
    or_found (is_in free_names name) (is_in heading_names name) (is_in void_names name) (is_in part_names name) name
    ∙ ap (λ t. cond (((is_in free_names name || is_in heading_names name) || is_in void_names name) || t) (Some name) None)
    (parts_listed name)

-- the name in a place
pub found_at : (names : List (Bor (List ℕ))) (i : ℕ) (d : Bor (List ℕ)) (written : List ℕ) → i < length names
    → bytes_eq (get_or names i d).now (lower written) ≡ true
    → found_name (names_of (drop i names)) written ≡ Some (get_or names i d).now
found_at [] i d written h e = absurd (omega arith)
found_at (x ∷ xs) zero d written h e =
    cond-true (is_in (names_of (x ∷ xs)) (lower written)) (Some (lower written)) None (ap (λ t. t || is_in (names_of xs) (lower written)) e)
    ∙ ap Some (sym ((bytes_eq-Decides x.now (lower written)).0 e))
found_at (x ∷ xs) (suc i) d written h e = found_at xs i d written (omega arith) e
