-- Calls of footnotes among rows.
use Rattle.std.proofs.Common.{◌≡◌, ℕ, Bool, true, false, List, [], Option, None, Some, sym, ap, ◌∙◌}
use Rattle.html_inline.proofs.Prelude.{call_at, call_row, CallOf, count_at, CountOf, first_match, laid_out, lay, LayoutState, Meaning, normal_label}

-- a label of no footnote lays nothing
pub uncalled : (meaning : Meaning) (described : Bool) (label : List ℕ) (l : LayoutState) → first_match label meaning.footnotes ≡ None
    → l ≡ laid_out meaning l (call_row meaning described label)
uncalled meaning described label l none = by_case described
  where
    by_case : (d : Bool) → l ≡ laid_out meaning l (call_row meaning d label)
    by_case true = sym (ap (λ (o : Option ℕ). laid_out meaning l (count_at o (normal_label label))) none)
    by_case false = sym (ap (λ (o : Option ℕ). laid_out meaning l (call_at o (normal_label label))) none)

-- a call in a description counts
pub counted : (meaning : Meaning) (described : Bool) (label : List ℕ) (l : LayoutState) (place : ℕ) (normal : List ℕ) → described ≡ true
    → normal ≡ normal_label label
    → first_match label meaning.footnotes ≡ Some place → lay meaning.compile [] l (CountOf place normal) ≡ laid_out meaning l (call_row meaning described label)
counted meaning described label l place normal is normalized found =
    ap (λ n. lay meaning.compile [] l (CountOf place n)) normalized
    ∙ sym (ap (λ (o : Option ℕ). laid_out meaning l (count_at o (normal_label label))) found)
    ∙ sym (ap (λ d. laid_out meaning l (call_row meaning d label)) is)

-- any other prints its number
pub called : (meaning : Meaning) (described : Bool) (label : List ℕ) (l : LayoutState) (place : ℕ) (normal : List ℕ) → described ≡ false
    → normal ≡ normal_label label
    → first_match label meaning.footnotes ≡ Some place → lay meaning.compile [] l (CallOf place normal) ≡ laid_out meaning l (call_row meaning described label)
called meaning described label l place normal is normalized found =
    ap (λ n. lay meaning.compile [] l (CallOf place n)) normalized
    ∙ sym (ap (λ (o : Option ℕ). laid_out meaning l (call_at o (normal_label label))) found)
    ∙ sym (ap (λ d. laid_out meaning l (call_row meaning d label)) is)
